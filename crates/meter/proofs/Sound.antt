-- What a meter keeps stays right with a report more.
use Rattle.std.proofs.Common.{◌≡◌, ℕ, ◌-◌, [], ◌++◌, map, fold, set, get_or, sym, ap, subst, Some}
use Rattle.std.proofs.Math.Seq.{map-set_same}
use Rattle.units.specs.declared.report.Report.{Report}
use Rattle.units.specs.declared.report.Container.{Container}
use Rattle.meter.specs.Meter.{Contents, groups_of, with_group, last_of, open_of, with_joined, extended, AreNumbered}
use Rattle.meter.proofs.Lasts.{LastAt, last_at, last_read, last_split}
use Rattle.meter.proofs.After.{open_last}

pub groups_joined : (s : Contents) (r : Report) (c : Container) → AreNumbered 1 s.containers → last_of s r.group ≡ Some c → groups_of (with_joined s c r) ≡ groups_of s
groups_joined s r c numbered is =
    let at : LastAt r.group s.containers c = last_at r.group s.containers c numbered is in
    let read : get_or s.containers (c.lsn - 1) c ≡ c = last_read r.group s.containers c c at in
    let same : map (λ k. k.group) (set s.containers (c.lsn - 1) (extended c r)) ≡ map (λ k. k.group) s.containers = map-set_same (λ k. k.group) s.containers (c.lsn - 1) (extended c r) c (ap (λ (k : Container). k.group) (sym read)) in
    ap (λ gs. fold with_group [] (gs ++ map (λ h. h.group) s.horizons)) same

-- an open container is the last one of its own group
pub own_last : (s : Contents) (g : ℕ) (c : Container) → open_of s g ≡ Some c → last_of s c.group ≡ Some c
own_last s g c is =
    let last = open_last s g c is in
    subst (λ h. last_of s h ≡ Some c) (sym (last_split g s.containers c last).of_group) last

pub own_group : (s : Contents) (g : ℕ) (c : Container) → open_of s g ≡ Some c → c.group ≡ g
own_group s g c is = (last_split g s.containers c (open_last s g c is)).of_group
