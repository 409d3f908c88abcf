-- What is told as given up of a session is what its moves give up.
use Rattle.std.proofs.Common.{◌≡◌, ℕ, zero, suc, ◌+◌, ◌<◌, ◌≤◌, List, [], ◌∷◌, length, map, get_or, refl, sym, ◌∙◌, ap, subst, arith}
use Rattle.std.specs.Prelude.{Option, Some, None, option_map}
use Rattle.std.specs.List.{AllByRecursion, cons_option}
use Rattle.std.specs.List.Sorted.{IsStrictlyIncreasing}
use Rattle.sessions.specs.Trace.{Move, Cause, given_up}
use Rattle.smf_model.specs.declared.setup.SmfSetup.{SmfSetup}
use Rattle.smf_model.specs.declared.session.Why.{Why}
use Rattle.smf_model.specs.declared.session.Place.{Place}
use Rattle.smf_model.specs.declared.session.Place.TheVariants.{Open, Waiting, Frozen, Answered, GivenUp as IsGivenUp}
use Rattle.smf_model.specs.declared.session.Holding.{Holding}
use Rattle.smf_model.specs.declared.session.GivenUp.{GivenUp}
use Rattle.smf_model.specs.declared.session.Session.{Session}
use Rattle.smf_model.specs.declared.event.SmfEvent.{SmfEvent}
use Rattle.smf_model.specs.Machine.{machine_after, session_of}
use Rattle.smf_model.specs.Trace.{trace}
use Rattle.smf_model.specs.Places.{why_of, AreInOrder, StandsAsMoved}
use Rattle.smf_model.specs.Exact.{IsPlacedExactly, ArePlacedExactly}
use Rattle.smf_model.specs.GivenUps.{why_in, told, given_up_as, given_up_of, given_up_by, AreGivenUpAsMoved, GivesUpAsMoved}
use Rattle.smf_model.proofs.Exact.{exact_run}
use Rattle.smf_model.proofs.Once.{cause_of, same_why}
use Rattle.smf_model.proofs.Traces.{moved_run}

-- each container is told as its moves say

none_in : (t : List Move) (h : Holding) (p : Place) → IsPlacedExactly t h → given_up t h.container.lsn ≡ None → h.place ≡ p → why_in p ≡ None
none_in t h Open x none e = refl
none_in t h Waiting x none e = refl
none_in t h Frozen x none e = refl
none_in t h Answered x none e = refl
none_in t h (IsGivenUp why) x none e =
    let some : given_up t h.container.lsn ≡ Some (cause_of why) = (x.given_up_with (cause_of why)).0 (e ∙ ap IsGivenUp (sym (same_why why))) in
    absurd (let f : None ≡ Some (cause_of why) = sym none ∙ some in cc)

told_one : (t : List Move) (h : Holding) → IsPlacedExactly t h → given_up_as h ≡ option_map (λ cause. told h (why_of cause)) (given_up t h.container.lsn)
told_one t h x = at (given_up t h.container.lsn) refl
  where
    at : (o : Option Cause) → given_up t h.container.lsn ≡ o → given_up_as h ≡ option_map (λ cause. told h (why_of cause)) (given_up t h.container.lsn)
    at None e = ap (option_map (told h)) (none_in t h h.place x e refl) ∙ ap (option_map (λ cause. told h (why_of cause))) (sym e)
    at (Some cause) e = ap (λ p. option_map (told h) (why_in p)) ((x.given_up_with cause).1 e) ∙ ap (option_map (λ c. told h (why_of c))) (sym e)

told_all : (t : List Move) (hs : List Holding) → AllByRecursion (IsPlacedExactly t) hs → given_up_of hs ≡ given_up_by t hs
told_all t [] each = refl
told_all t (h ∷ hs) each =
    ap (λ o. cons_option o (given_up_of hs)) (told_one t h each.0)
    ∙ ap (cons_option (option_map (λ cause. told h (why_of cause)) (given_up t h.container.lsn))) (told_all t hs each.1)

-- their numbers ascend

abbrev Ascend : ℕ → List ℕ → Type 0
Ascend next [] = Unit {0}
Ascend next (n ∷ ns) = (next ≤ n) × Ascend (n + 1) ns

ascend_less : (next more : ℕ) (ns : List ℕ) → next ≤ more → Ascend more ns → Ascend next ns
ascend_less next more [] l a = tt
ascend_less next more (n ∷ ns) l a = (omega (arith, l, a.0), a.1)

increasing : (next : ℕ) (ns : List ℕ) → Ascend next ns → IsStrictlyIncreasing ns
increasing next [] a = λ k l. absurd (omega (arith, l))
increasing next (n ∷ []) a = λ k l. absurd (omega (arith, l))
increasing next (n ∷ m ∷ ns) a = at (increasing (n + 1) (m ∷ ns) a.1)
  where
    at : IsStrictlyIncreasing (m ∷ ns) → (k : ℕ) → k + 1 < length (n ∷ m ∷ ns) → get_or (n ∷ m ∷ ns) k 0 < get_or (n ∷ m ∷ ns) (k + 1) 0
    at ih zero l =
        let first : n < m = omega (arith, a.1.0) in
        let e : suc zero ≡ zero + 1 = omega arith in
        subst (λ z. n < get_or (n ∷ m ∷ ns) z 0) e first
    at ih (suc k) l =
        let e : suc (k + 1) ≡ suc k + 1 = omega arith in
        subst (λ z. get_or (m ∷ ns) k 0 < get_or (n ∷ m ∷ ns) z 0) e (ih k (omega (arith, l)))

abbrev number_of : GivenUp → ℕ
number_of g = g.container.lsn

numbers_ascend : (next : ℕ) (hs : List Holding) → AreInOrder next hs → Ascend next (map number_of (given_up_of hs))
numbers_ascend next [] order = tt
numbers_ascend next (h ∷ hs) order = at (why_in h.place) (numbers_ascend (next + 1) hs order.1)
  where
    at : (why : Option Why) → Ascend (next + 1) (map number_of (given_up_of hs)) → Ascend next (map number_of (cons_option (option_map (told h) why) (given_up_of hs)))
    at None ih = ascend_less next (next + 1) (map number_of (given_up_of hs)) (omega arith) ih
    at (Some why) ih = (omega (arith, order.0), subst (λ n. Ascend (n + 1) (map number_of (given_up_of hs))) (sym order.0) ih)

told_in : (t : List Move) (o : Option Session) → StandsAsMoved t o → ArePlacedExactly t o → GivesUpAsMoved t o
told_in t None m x = x
told_in t (Some s) m x = record { told = told_all t s.holdings x; ascending = increasing 1 (map number_of (given_up_of s.holdings)) (numbers_ascend 1 s.holdings m.numbered) }

pub told_run : (setup : SmfSetup) (events : List SmfEvent) (number : ℕ) → GivesUpAsMoved (trace setup events number) (session_of number (machine_after setup events).sessions)
told_run setup events number = told_in (trace setup events number) (session_of number (machine_after setup events).sessions) (moved_run setup events number) (exact_run setup events number)
