-- The containers stay a cut of the reports as a report is taken.
use Rattle.std.proofs.Common.{◌≡◌, ◌≢◌, ◌==◌, ℕ, ◌+◌, ◌-◌, ◌^◌, ◌≤◌, ◌&&◌, ◌⊎◌, inl, inr, Bool, true, false, List, [], ◌∷◌, ◌++◌, length, set, refl, sym, ◌∙◌, ap, subst, arith, eq-eqb, Option, Some, None}
use Rattle.std.specs.List.{find}
use Rattle.std.proofs.lemmas.Bool.{eqb-true, eqb-false}
use Rattle.std.proofs.lemmas.List.{append-nil}
use Rattle.std.proofs.lemmas.List.Elements.{filter-append}
use Rattle.units.specs.declared.report.Report.{Report}
use Rattle.units.specs.declared.report.Container.{Container}
use Rattle.units.specs.Cut.{reports_of, containers_of, NoSwitchWithin, SwitchWithin, IsCut, AreCuts, IsWidestCut, AreWidestCuts, no_switch, whole_hour}
use Rattle.meter.specs.declared.horizon.Horizon.{Horizon}
use Rattle.meter.specs.Horizons.{is_within, is_unsafe, AreForeseen}
use Rattle.meter.specs.Meter.{Contents, open_of, last_of, horizon_of, may_join, opened, extended, after_report, AreNumbered, IsUndisturbed}
use Rattle.meter.proofs.Lasts.{LastAt, last_at, last_set, of_middle, of_middle_other, of_push, of_push_other}
use Rattle.meter.proofs.Runs.{cut_more, cut_join, widest_more, widest_join, StaysOut}
use Rattle.meter.proofs.After.{JoinsAt, OpensAt, after_is, open_last, joins_safe, joins_not}

-- switches that the horizon allows for are unsafe hours
safe_between : (h : Option Horizon) (switches : ℕ → Bool) (after until : ℕ) → AreForeseen h switches → NoSwitchWithin (is_unsafe h) after until → NoSwitchWithin switches after until
safe_between h switches after until known none moment later before = by (switches moment) refl
  where
    by : (b : Bool) → switches moment ≡ b → b ≡ false
    by false e = refl
    by true e = at (is_within h moment) refl
      where
        at : (w : Bool) → is_within h moment ≡ w → true ≡ false
        at true w = sym e ∙ known.none_within moment w
        at false w = sym (rw (known.hours moment e, w) refl) ∙ none moment later before

-- the reports of a group with one more
reports_more : (g : ℕ) (rs : List Report) (r : Report) → r.group ≡ g → reports_of g (rs ++ r ∷ []) ≡ reports_of g rs ++ r ∷ []
reports_more g rs r e = filter-append (λ (k : Report). k.group == g) rs (r ∷ []) ∙ rw (eq-eqb r.group g e) refl

reports_same : (g : ℕ) (rs : List Report) (r : Report) → (r.group == g) ≡ false → reports_of g (rs ++ r ∷ []) ≡ reports_of g rs
reports_same g rs r e = filter-append (λ (k : Report). k.group == g) rs (r ∷ []) ∙ rw e (append-nil (reports_of g rs))

-- the containers of each group as the report joins
pub record JoinedOf (s : Contents) (r : Report) (c : Container) (ds : List Container) : Type 0 where
  pub front : List Container
  pub before : containers_of r.group s.containers ≡ front ++ c ∷ []
  pub after : containers_of r.group ds ≡ front ++ extended c r ∷ []
  pub others : (g : ℕ) → r.group ≢ g → containers_of g ds ≡ containers_of g s.containers

joined_of : (s : Contents) (r : Report) (c : Container) → AreNumbered 1 s.containers → last_of s r.group ≡ Some c → JoinedOf s r c (set s.containers (c.lsn - 1) (extended c r))
joined_of s r c numbered is =
    let at : LastAt r.group s.containers c = last_at r.group s.containers c numbered is in
    let front = at.split.front in
    let back = at.split.back in
    let now : set s.containers (c.lsn - 1) (extended c r) ≡ front ++ extended c r ∷ back = last_set r.group s.containers c (extended c r) at in
    record {
      front = containers_of r.group front;
      before = ap (containers_of r.group) at.split.is ∙ of_middle r.group front c back at.split.of_group at.split.none_behind;
      after = ap (containers_of r.group) now ∙ of_middle r.group front (extended c r) back at.split.of_group at.split.none_behind;
      others = λ g away.
          let apart : c.group ≢ g = λ e. away (sym at.split.of_group ∙ e) in
          ap (containers_of g) now ∙ of_middle_other g front (extended c r) c back apart apart ∙ ap (containers_of g) (sym at.split.is);
    }

-- how cuts of one kind grow
pub record Grows (Cut : List Report → List Container → Type 0) (s : Contents) (r : Report) : Type 0 where
  pub joins : (rs : List Report) (front : List Container) (c : Container) → open_of s r.group ≡ Some c → may_join (horizon_of s r.group) c r ≡ true → Cut rs (front ++ c ∷ []) → Cut (rs ++ r ∷ []) (front ++ extended c r ∷ [])
  pub opens : (rs : List Report) (lsn : ℕ) → ((c : Container) → open_of s r.group ≡ Some c → may_join (horizon_of s r.group) c r ≡ false) → Cut rs (containers_of r.group s.containers) → Cut (rs ++ r ∷ []) (containers_of r.group s.containers ++ opened lsn r ∷ [])

pub grows : (Cut : List Report → List Container → Type 0) (s : Contents) (r : Report) (g : ℕ) (rs : List Report) → AreNumbered 1 s.containers → (r.group ≡ g → Grows Cut s r) → Cut (reports_of g rs) (containers_of g s.containers) → Cut (reports_of g (rs ++ r ∷ [])) (containers_of g (after_report s r).containers)
grows Cut s r g rs numbered more cut = by (r.group == g) refl (after_is s r)
  where
    own : r.group ≡ g → JoinsAt s r ⊎ OpensAt s r → Cut (reports_of g (rs ++ r ∷ [])) (containers_of g (after_report s r).containers)
    own same (inl j) =
        let c : Container = j.container in
        let of : JoinedOf s r c (set s.containers (c.lsn - 1) (extended c r)) = joined_of s r c numbered (open_last s r.group c j.is_open) in
        let old : Cut (reports_of g rs) (of.front ++ c ∷ []) = subst (λ l. Cut (reports_of g rs) l) (ap (λ h. containers_of h s.containers) (sym same) ∙ of.before) cut in
        let new : Cut (reports_of g rs ++ r ∷ []) (of.front ++ extended c r ∷ []) = (more same).joins (reports_of g rs) of.front c j.is_open j.may old in
        let containers : containers_of g (after_report s r).containers ≡ of.front ++ extended c r ∷ [] = ap (λ (t : Contents). containers_of g t.containers) j.after ∙ ap (λ h. containers_of h (set s.containers (c.lsn - 1) (extended c r))) (sym same) ∙ of.after in
        subst (λ l. Cut l (containers_of g (after_report s r).containers)) (sym (reports_more g rs r same)) (subst (λ l. Cut (reports_of g rs ++ r ∷ []) l) (sym containers) new)
    own same (inr o) =
        let x : Container = opened (length s.containers + 1) r in
        let old : Cut (reports_of g rs) (containers_of r.group s.containers) = subst (λ h. Cut (reports_of g rs) (containers_of h s.containers)) (sym same) cut in
        let new : Cut (reports_of g rs ++ r ∷ []) (containers_of r.group s.containers ++ x ∷ []) = (more same).opens (reports_of g rs) (length s.containers + 1) o.may_not old in
        let containers : containers_of g (after_report s r).containers ≡ containers_of r.group s.containers ++ x ∷ [] = ap (λ (t : Contents). containers_of g t.containers) o.after ∙ ap (λ h. containers_of h (s.containers ++ x ∷ [])) (sym same) ∙ of_push r.group s.containers x refl in
        subst (λ l. Cut l (containers_of g (after_report s r).containers)) (sym (reports_more g rs r same)) (subst (λ l. Cut (reports_of g rs ++ r ∷ []) l) (sym containers) new)

    other : r.group ≢ g → JoinsAt s r ⊎ OpensAt s r → containers_of g (after_report s r).containers ≡ containers_of g s.containers
    other away (inl j) =
        let c : Container = j.container in
        ap (λ (t : Contents). containers_of g t.containers) j.after ∙ (joined_of s r c numbered (open_last s r.group c j.is_open)).others g away
    other away (inr o) = ap (λ (t : Contents). containers_of g t.containers) o.after ∙ of_push_other g s.containers (opened (length s.containers + 1) r) away

    by : (b : Bool) → (r.group == g) ≡ b → JoinsAt s r ⊎ OpensAt s r → Cut (reports_of g (rs ++ r ∷ [])) (containers_of g (after_report s r).containers)
    by true e which = own (eqb-true r.group g e) which
    by false e which =
        subst (λ l. Cut l (containers_of g (after_report s r).containers)) (sym (reports_same g rs r e))
        (subst (λ l. Cut (reports_of g rs) l) (sym (other (eqb-false r.group g e) which)) cut)

-- a cut under switches that the horizon allows for
pub join_cut : (switches : ℕ → Bool) (h : Option Horizon) (rs : List Report) (front : List Container) (c : Container) (r : Report) → AreForeseen h switches → may_join h c r ≡ true → IsCut switches rs (front ++ c ∷ []) → IsCut switches (rs ++ r ∷ []) (front ++ extended c r ∷ [])
join_cut switches h rs front c r known may cut = let safe = joins_safe h c r may in cut_join switches rs front c r cut (safe_between h switches c.last r.moment known safe.0)

cut_grows : (switches : ℕ → Bool) (s : Contents) (r : Report) → AreForeseen (horizon_of s r.group) switches → Grows (IsCut switches) s r
cut_grows switches s r known = record {
  joins = λ rs front c is may cut. join_cut switches (horizon_of s r.group) rs front c r known may cut;
  opens = λ rs lsn may_not cut. cut_more switches rs (containers_of r.group s.containers) r lsn cut;
}

pub group_cut : (switches : ℕ → Bool) (s : Contents) (r : Report) (g : ℕ) (rs : List Report) → AreNumbered 1 s.containers → (r.group ≡ g → AreForeseen (horizon_of s g) switches) → IsCut switches (reports_of g rs) (containers_of g s.containers) → IsCut switches (reports_of g (rs ++ r ∷ [])) (containers_of g (after_report s r).containers)
group_cut switches s r g rs numbered known cut =
    grows (IsCut switches) s r g rs numbered (λ e. cut_grows switches s r (subst (λ h. AreForeseen (horizon_of s h) switches) (sym e) (known e))) cut

pub all_cuts : (switches : ℕ → Bool) (s : Contents) (r : Report) (rs : List Report) → AreNumbered 1 s.containers → AreForeseen (horizon_of s r.group) switches → AreCuts switches rs s.containers → AreCuts switches (rs ++ r ∷ []) (after_report s r).containers
all_cuts switches s r rs numbered known cuts g = group_cut switches s r g rs numbered (λ e. subst (λ h. AreForeseen (horizon_of s h) switches) e known) (cuts g)

none_foreseen : (h : Option Horizon) → AreForeseen h no_switch
none_foreseen h = record { hours = λ moment e. cc; none_within = λ moment e. refl }

pub plain_cuts : (s : Contents) (r : Report) (rs : List Report) → AreNumbered 1 s.containers → AreCuts no_switch rs s.containers → AreCuts no_switch (rs ++ r ∷ []) (after_report s r).containers
plain_cuts s r rs numbered cuts = all_cuts no_switch s r rs numbered (none_foreseen (horizon_of s r.group)) cuts

-- the widest cut at whole hours, where no horizon is set and nothing is closed
hours_foreseen : AreForeseen None whole_hour
hours_foreseen = record { hours = λ moment e. e; none_within = λ moment e. cc }

left : (a b : Bool) → (a && b) ≡ true → a ≡ true
left true b h = refl
left false b h = cc

hour_between : (after until : ℕ) → SwitchWithin (is_unsafe None) after until → SwitchWithin whole_hour after until
hour_between after until (moment, later, before, switch) = (moment, later, before, left (whole_hour moment) true switch)

widest_grows : (s : Contents) (r : Report) → IsUndisturbed s → r.seconds ≤ 86400 → Grows (IsWidestCut whole_hour) s r
widest_grows s r free short =
    let none : horizon_of s r.group ≡ None = ap (find (λ h. h.group == r.group)) free.no_horizon in
    record {
      joins = λ rs front c is may cut.
          let safe = joins_safe None c r (ap (λ h. may_join h c r) (sym none) ∙ may) in
          widest_join whole_hour rs front c r cut (safe_between None whole_hour c.last r.moment hours_foreseen safe.0) safe.1;
      opens = λ rs lsn may_not cut.
          widest_more whole_hour rs (containers_of r.group s.containers) r lsn cut
          (λ c is. out c (joins_not None c r (ap (λ h. may_join h c r) (sym none) ∙ may_not c (free.all_open r.group ∙ is))))
          (omega arith);
    }
  where
    out : (c : Container) → SwitchWithin (is_unsafe None) c.last r.moment ⊎ (2 ^ 32 ≤ c.seconds + r.seconds) → StaysOut whole_hour c r
    out c (inl w) = inl (hour_between c.last r.moment w)
    out c (inr l) = inr l

pub widest_cuts : (s : Contents) (r : Report) (rs : List Report) → AreNumbered 1 s.containers → IsUndisturbed s → r.seconds ≤ 86400 → AreWidestCuts whole_hour rs s.containers → AreWidestCuts whole_hour (rs ++ r ∷ []) (after_report s r).containers
widest_cuts s r rs numbered free short cuts g = grows (IsWidestCut whole_hour) s r g rs numbered (λ e. widest_grows s r free short) (cuts g)
