-- What a meter keeps beside its containers stays right as a report is taken.
use Rattle.std.proofs.Common.{◌≡◌, ◌≢◌, ◌==◌, ℕ, suc, ◌+◌, ◌-◌, ◌^◌, ◌<◌, ◌≤◌, Bool, true, false, cond, List, [], ◌∷◌, ◌++◌, length, map, get_or, set, fold, refl, sym, ◌∙◌, ap, subst, arith, eq-eqb, Some}
use Rattle.std.specs.List.{All, AllByRecursion, list_any}
use mathlib.Core.Bool.{true≢false}
use Rattle.std.proofs.lemmas.List.{map-append}
use Rattle.std.proofs.lemmas.List.Sums.{sum_by-append, sum_by-cons, fold-append, sum_by-le-sum_by}
use Rattle.std.proofs.lemmas.List.Elements.{All-set, All-push}
use Rattle.units.specs.Cut.{containers_of}
use Rattle.units.specs.declared.report.Report.{Report}
use Rattle.units.specs.declared.report.Container.{Container}
use Rattle.meter.specs.declared.counts.GroupCount.{GroupCount}
use Rattle.meter.specs.Caches.{AreKept, Admitted, IsCountOf, AreDistinct, counted_on}
use Rattle.meter.specs.Meter.{group_total, report_total, latest, with_group, is_in, last_in, extended, opened, IsSmall, AreNumbered}
use Rattle.meter.proofs.Lasts.{LastAt, last_at, last_set, last_read, last_within, last_middle, last_middle_other, last_push, last_push_other, numbered_swap, numbered_push, not_eq}
use Rattle.meter.proofs.Groups.{StaysCounted, all_counted, groups-counted, distinct-fold, none_counted, uncounted, all_at, is_in-fold}

total_middle : (front : List Container) (c : Container) (back : List Container) → report_total (front ++ c ∷ back) ≡ report_total front + (c.reports + report_total back)
total_middle front c back = sum_by-append (λ (k : Container). k.reports) front (c ∷ back) ∙ ap (λ n. report_total front + n) (sum_by-cons (λ (k : Container). k.reports) c back)

group_middle : (g : ℕ) (front : List Container) (c : Container) (back : List Container) → group_total (front ++ c ∷ back) g ≡ group_total front g + (cond (c.group == g) c.reports 0 + group_total back g)
group_middle g front c back = sum_by-append (λ (k : Container). cond (k.group == g) k.reports 0) front (c ∷ back) ∙ ap (λ n. group_total front g + n) (sum_by-cons (λ (k : Container). cond (k.group == g) k.reports 0) c back)

latest_middle : (front : List Container) (c x : Container) (back : List Container) (m : ℕ) → latest (front ++ c ∷ back) ≤ m → x.last ≡ m → latest (front ++ x ∷ back) ≡ m
latest_middle [] c x back m le e = grind (arith, e)
latest_middle (y ∷ front) c x back m le e = let h = latest_middle front c x back m (omega arith) e in grind (arith, h)

latest_push : (cs : List Container) (x : Container) (m : ℕ) → latest cs ≤ m → x.last ≡ m → latest (cs ++ x ∷ []) ≡ m
latest_push [] x m le e = grind (arith, e)
latest_push (y ∷ cs) x m le e = let h = latest_push cs x m (omega arith) e in grind (arith, h)

map_middle : (front : List Container) (c x : Container) (back : List Container) → x.group ≡ c.group → map (λ k. k.group) (front ++ x ∷ back) ≡ map (λ k. k.group) (front ++ c ∷ back)
map_middle [] c x back e = ap (λ g. g ∷ map (λ (k : Container). k.group) back) e
map_middle (y ∷ front) c x back e = ap (λ l. y.group ∷ l) (map_middle front c x back e)

-- the group is among the counts of containers with it
is_counted : (g : ℕ) (front : List Container) (c : Container) (back : List Container) → c.group ≡ g → is_in g (map (λ k. k.group) (front ++ c ∷ back)) ≡ true
is_counted g [] c back e = let t = eq-eqb c.group g e in grind (arith, t)
is_counted g (y ∷ front) c back e = let h = is_counted g front c back e in grind (arith, h)

same_group : (g : ℕ) (gs : List ℕ) → is_in g gs ≡ true → with_group gs g ≡ gs
same_group g gs e = rw e refl

groups_push : (cs : List Container) (x : Container) → fold with_group [] (map (λ c. c.group) (cs ++ x ∷ [])) ≡ with_group (fold with_group [] (map (λ c. c.group) cs)) x.group
groups_push cs x = ap (λ gs. fold with_group [] gs) (map-append (λ (c : Container). c.group) cs (x ∷ [])) ∙ fold-append with_group [] (map (λ (c : Container). c.group) cs) (x.group ∷ [])

-- the report joins its group's last container
swap_stays : (front : List Container) (c : Container) (back : List Container) (r : Report) → c.group ≡ r.group → containers_of r.group back ≡ [] → StaysCounted (front ++ c ∷ back) (front ++ extended c r ∷ back) r.group c.lsn
swap_stays front c back r same none = record {
  own = λ k is old. record {
    next =
        let mine : (c.group == k.group) ≡ true = eq-eqb c.group k.group (same ∙ sym is) in
        let was = group_middle k.group front c back in
        let now = group_middle k.group front (extended c r) back in
        grind (arith, was, now, mine, old.next);
    final = extended c r;
    is_last = ap (λ g. last_in g (front ++ extended c r ∷ back)) is ∙ last_middle r.group front (extended c r) back same none;
    number = refl;
  };
  others = λ k away old.
      let apart : c.group ≢ k.group = λ e. away (sym e ∙ same) in
      record {
        next =
            let other : (c.group == k.group) ≡ false = not_eq c.group k.group apart in
            let was = group_middle k.group front c back in
            let now = group_middle k.group front (extended c r) back in
            grind (arith, was, now, other, old.next);
        final = old.final;
        is_last = last_middle_other k.group front (extended c r) c back apart apart ∙ old.is_last;
        number = old.number;
      };
}

push_stays : (cs : List Container) (x : Container) → x.reports ≡ 1 → StaysCounted cs (cs ++ x ∷ []) x.group x.lsn
push_stays cs x one = record {
  own = λ k is old. record {
    next =
        let mine : (x.group == k.group) ≡ true = eq-eqb x.group k.group (sym is) in
        let now = sum_by-append (λ (c : Container). cond (c.group == k.group) c.reports 0) cs (x ∷ []) in
        grind (arith, now, mine, one, old.next);
    final = x;
    is_last = last_push k.group cs x (sym is);
    number = refl;
  };
  others = λ k away old.
      let apart : x.group ≢ k.group = λ e. away (sym e) in
      record {
        next =
            let other : (x.group == k.group) ≡ false = not_eq x.group k.group apart in
            let now = sum_by-append (λ (c : Container). cond (c.group == k.group) c.reports 0) cs (x ∷ []) in
            grind (arith, now, other, old.next);
        final = old.final;
        is_last = last_push_other k.group cs x apart ∙ old.is_last;
        number = old.number;
      };
}

pub kept_grow : (cs : List Container) (counts : List GroupCount) (m n : ℕ) (r : Report) (c : Container) → AreKept cs counts m n → Admitted cs r → last_in r.group cs ≡ Some c → AreKept (set cs (c.lsn - 1) (extended c r)) (counted_on counts r.group c.lsn) r.moment (n + 1)
kept_grow cs counts m n r c kept new is =
    let at : LastAt r.group cs c = last_at r.group cs c kept.numbered is in
    let front = at.split.front in
    let back = at.split.back in
    let x : Container = extended c r in
    let ds : List Container = front ++ x ∷ back in
    let was : cs ≡ front ++ c ∷ back = at.split.is in
    let now : set cs (c.lsn - 1) x ≡ ds = last_set r.group cs c x at in
    let inside : c.lsn - 1 < length cs = last_within r.group cs c at in
    let read : get_or cs (c.lsn - 1) c ≡ c = last_read r.group cs c c at in
    let small : IsSmall c = subst IsSmall read (kept.small (c.lsn - 1) c inside) in
    let groups : map (λ k. k.group) ds ≡ map (λ k. k.group) cs = map_middle front c x back refl ∙ ap (λ l. map (λ (k : Container). k.group) l) (sym was) in
    let there : is_in r.group (map (λ k. k.group) counts) ≡ true =
    ap (λ gs. is_in r.group gs) kept.groups ∙ is_in-fold r.group [] (map (λ (k : Container). k.group) cs) ∙ ap (λ l. is_in r.group (map (λ (k : Container). k.group) l)) was ∙ is_counted r.group front c back at.split.of_group in
    let distinct : AreDistinct (map (λ k. k.group) counts) = subst AreDistinct (sym kept.groups) (distinct-fold [] (map (λ k. k.group) cs) tt) in
    let each : AllByRecursion (IsCountOf (front ++ c ∷ back)) counts = subst (λ l. AllByRecursion (IsCountOf l) counts) was kept.each in
    record {
      small = All-set IsSmall cs (c.lsn - 1) x (record { some = omega arith; up = omega (arith, small.up, new.up); down = omega (arith, small.down, new.down) }) kept.small;
      numbered = rw now (numbered_swap 1 front c x back refl (subst (λ l. AreNumbered 1 l) was kept.numbered));
      last = rw now (sym (latest_middle front c x back r.moment (rw (← was) new.later) refl));
      total = rw now (let old = total_middle front c back in let more = total_middle front x back in omega (arith, old, more, kept.total, ap report_total was));
      few = omega (arith, kept.total, new.few);
      groups = groups-counted counts r.group c.lsn ∙ same_group r.group (map (λ k. k.group) counts) there ∙ kept.groups ∙ ap (λ gs. fold with_group [] gs) (sym groups) ∙ ap (λ l. fold with_group [] (map (λ (k : Container). k.group) l)) (sym now);
      each = rw now (all_counted (front ++ c ∷ back) ds counts r.group c.lsn distinct (swap_stays front c back r at.split.of_group at.split.none_behind) (λ none. absurd (true≢false (sym there ∙ none))) each);
    }

-- the report opens the next container
pub kept_push : (cs : List Container) (counts : List GroupCount) (m n : ℕ) (r : Report) → AreKept cs counts m n → Admitted cs r → AreKept (cs ++ opened (length cs + 1) r ∷ []) (counted_on counts r.group (length cs + 1)) r.moment (n + 1)
kept_push cs counts m n r kept new =
    let x : Container = opened (length cs + 1) r in
    let distinct : AreDistinct (map (λ k. k.group) counts) = subst AreDistinct (sym kept.groups) (distinct-fold [] (map (λ k. k.group) cs) tt) in
    record {
      small = All-push IsSmall cs x kept.small (record { some = omega arith; up = omega (arith, new.up); down = omega (arith, new.down) });
      numbered = numbered_push 1 cs x (omega arith) kept.numbered;
      last = sym (latest_push cs x r.moment new.later refl);
      total = let sums = sum_by-append (λ (k : Container). k.reports) cs (x ∷ []) in omega (arith, sums, kept.total);
      few = omega (arith, kept.total, new.few);
      groups = groups-counted counts r.group (length cs + 1) ∙ ap (λ gs. with_group gs r.group) kept.groups ∙ sym (groups_push cs x);
      each = all_counted cs (cs ++ x ∷ []) counts r.group (length cs + 1) distinct (push_stays cs x refl) (λ none. first_count (uncounted r.group counts cs kept.groups none)) kept.each;
    }
  where
    first_count : list_any (λ c. c.group == r.group) cs ≡ false → IsCountOf (cs ++ opened (length cs + 1) r ∷ []) (record { group = r.group; expected = 2; lsn = length cs + 1 })
    first_count none =
        let x : Container = opened (length cs + 1) r in
        record {
          next =
              let mine : (x.group == r.group) ≡ true = eq-eqb x.group r.group refl in
              let now = sum_by-append (λ (c : Container). cond (c.group == r.group) c.reports 0) cs (x ∷ []) in
              let before = none_counted r.group cs none in
              grind (arith, now, mine, before);
          final = x;
          is_last = last_push r.group cs x refl;
          number = refl;
        }

-- the numbers stay within their types
part_of_total : (cs : List Container) (g : ℕ) → group_total cs g ≤ report_total cs
part_of_total cs g = sum_by-le-sum_by (λ c. cond (c.group == g) c.reports 0) (λ (c : Container). c.reports) cs (λ c. below (c.group == g) c.reports)
  where
    below : (b : Bool) (k : ℕ) → cond b k 0 ≤ k
    below true k = omega arith
    below false k = omega arith

pub few_containers : (cs : List Container) → All IsSmall cs → length cs ≤ report_total cs
few_containers [] all = omega arith
few_containers (c ∷ cs) all =
    let rest = few_containers cs (λ k d l. all (suc k) d (omega arith)) in
    let first = all 0 c (omega arith) in
    let sums = sum_by-cons (λ (k : Container). k.reports) c cs in
    omega (arith, rest, first.some, sums)

pub counts_fit : (cs : List Container) (counts : List GroupCount) (m n : ℕ) (r : Report) → AreKept cs counts m n → Admitted cs r → All (λ g. g.expected + 1 < 2 ^ 32) counts
counts_fit cs counts m n r kept new i d l =
    let own = all_at (IsCountOf cs) counts i d l kept.each in
    let part = part_of_total cs (get_or counts i d).group in
    omega (arith, own.next, part, new.few)

-- the last container of a group has room for the report
pub record Fits (c : Container) (r : Report) : Type 0 where
  pub up : c.up + r.up < 2 ^ 64
  pub down : c.down + r.down < 2 ^ 64
  pub reports : c.reports + 1 < 2 ^ 32

pub last_fits : (cs : List Container) (counts : List GroupCount) (m n : ℕ) (r : Report) (c : Container) → AreKept cs counts m n → Admitted cs r → last_in r.group cs ≡ Some c → Fits c r
last_fits cs counts m n r c kept new is =
    let at : LastAt r.group cs c = last_at r.group cs c kept.numbered is in
    let inside : c.lsn - 1 < length cs = last_within r.group cs c at in
    let read : get_or cs (c.lsn - 1) c ≡ c = last_read r.group cs c c at in
    let small : IsSmall c = subst IsSmall read (kept.small (c.lsn - 1) c inside) in
    let part : c.reports ≤ report_total cs = let middle = total_middle at.split.front c at.split.back in omega (arith, middle, ap report_total at.split.is) in
    record {
      up = omega (arith, small.up, part, new.few, new.up);
      down = omega (arith, small.down, part, new.few, new.down);
      reports = omega (arith, part, new.few);
    }
