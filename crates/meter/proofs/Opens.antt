-- The open container of a group, by what stands at its place.
use Rattle.std.proofs.Common.{◌≡◌, ◌==◌, ℕ, ◌-◌, ◌<◌, ◌≤◌, List, length, get_or, refl, sym, ◌∙◌, ap, arith, Option, Some, None}
use Rattle.std.specs.List.{last_or, slice_get, position}
use Rattle.units.specs.declared.report.Container.{Container}
use Rattle.meter.specs.declared.close.Close.{Close}
use Rattle.meter.specs.declared.counts.GroupCount.{GroupCount}
use Rattle.meter.specs.Meter.{Contents, open_of, last_of, last_in, unless_closed}
use Rattle.meter.specs.Caches.{IsCountOf, AreKept}
use Rattle.meter.proofs.Finds.{got}
use Rattle.meter.proofs.Lasts.{LastAt, last_at, last_within, last_read}
use Rattle.meter.proofs.Groups.{all_at, uncounted, unplaced, none_of}

closed_with : (s : Contents) (g : ℕ) (c : Container) (k : Option Close) → last_of s g ≡ Some c → slice_get s.closes (c.lsn - 1) ≡ Some k → open_of s g ≡ unless_closed (Some c) k
closed_with s g c k is at = rw (is, at) refl

pub none_open : (s : Contents) (g : ℕ) → last_of s g ≡ None → open_of s g ≡ None
none_open s g none = rw none refl

-- what is read of a group's count, and at its place
pub record Reads (s : Contents) (g : ℕ) (count : GroupCount) : Type 0 where
  pub final : Container
  pub is_last : last_of s g ≡ Some final
  pub at : LastAt g s.containers final
  pub number : final.lsn ≡ count.lsn
  pub one : 1 ≤ count.lsn
  pub within : count.lsn - 1 < length s.containers

pub reads : (s : Contents) (g : ℕ) (counts : List GroupCount) (m n i : ℕ) (count : GroupCount) → AreKept s.containers counts m n → i < length counts → count ≡ get_or counts i count → count.group ≡ g → Reads s g count
reads s g counts m n i count kept l is same =
    let own = all_at (IsCountOf s.containers) counts i count l kept.each in
    let final : Container = own.final in
    let is_last : last_in g s.containers ≡ Some final = ap (λ k. last_in k s.containers) (sym same ∙ ap (λ (k : GroupCount). k.group) is) ∙ own.is_last in
    let number : final.lsn ≡ count.lsn = own.number ∙ ap (λ (k : GroupCount). k.lsn) (sym is) in
    let at : LastAt g s.containers final = last_at g s.containers final kept.numbered is_last in
    let inside = last_within g s.containers final at in
    record {
      final = final;
      is_last = is_last;
      at = at;
      number = number;
      one = omega (arith, at.number, number);
      within = omega (arith, inside, number);
    }

pub reads_closed : (s : Contents) (g : ℕ) (count : GroupCount) (k : Option Close) (x : Close) → Reads s g count → length s.closes ≡ length s.containers → k ≡ get_or s.closes (count.lsn - 1) k → k ≡ Some x → open_of s g ≡ None
reads_closed s g count k x r long is some =
    let at = got s.closes (count.lsn - 1) k (omega (arith, r.within, long)) is in
    closed_with s g r.final k r.is_last (ap (λ n. slice_get s.closes (n - 1)) r.number ∙ at) ∙ ap (unless_closed (Some r.final)) some

pub reads_open : (s : Contents) (g : ℕ) (count : GroupCount) (k : Option Close) (c : Container) → Reads s g count → length s.closes ≡ length s.containers → k ≡ get_or s.closes (count.lsn - 1) k → k ≡ None → c ≡ get_or s.containers (count.lsn - 1) c → open_of s g ≡ Some c
reads_open s g count k c r long is none read =
    let at = got s.closes (count.lsn - 1) k (omega (arith, r.within, long)) is in
    let same : c ≡ r.final = read ∙ ap (λ n. get_or s.containers (n - 1) c) (sym r.number) ∙ last_read g s.containers r.final c r.at in
    closed_with s g r.final k r.is_last (ap (λ n. slice_get s.closes (n - 1)) r.number ∙ at) ∙ ap (unless_closed (Some r.final)) none ∙ ap Some (sym same)

pub no_last : (s : Contents) (g : ℕ) (counts : List GroupCount) (m n : ℕ) → AreKept s.containers counts m n → position (λ k. k.group == g) counts ≡ None → last_of s g ≡ None
no_last s g counts m n kept none =
    ap (λ l. last_or None l) (none_of g s.containers (uncounted g counts s.containers kept.groups (unplaced g counts none)))
