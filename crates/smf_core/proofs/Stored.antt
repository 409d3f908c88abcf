-- Containers as they are kept, each once beside its stage, are the list that they stand for.
use Rattle.std.proofs.Common.{◌≡◌, ℕ, zero, suc, ◌+◌, ◌<◌, ◌≤◌, Bool, true, false, cond, List, [], ◌∷◌, ◌++◌, length, filter, drop, get_or, set, refl, sym, ◌∙◌, ap, arith, append_assoc, add-one}
use Rattle.std.proofs.lemmas.List.{length-append}
use Rattle.std.proofs.lemmas.List.Elements.{filter_map-append}
use Rattle.std.proofs.lemmas.List.Sums.{length-filter}
use Rattle.std.proofs.Math.Seq.{drop-cons}
use Rattle.units.specs.declared.report.Container.{Container}
use Rattle.smf_model.specs.declared.session.Holding.{Holding}
use Rattle.smf_model.specs.declared.session.GivenUp.{GivenUp}
use Rattle.smf_model.specs.GivenUps.{given_up_as, given_up_of}
use Rattle.smf_core.specs.declared.containers.Stage.{Stage}
use Rattle.smf_core.specs.Reads.{containers_of}
use Rattle.smf_core.specs.Caches.{is_given_up, given_up_count}
use Rattle.smf_core.specs.Stored.{holding_at, stage_of, staged, stages_of, is_lost, lost_count}

-- a list taken apart and put together is itself
pub staged_again : (hs : List Holding) → staged (containers_of hs) (stages_of hs) ≡ hs
staged_again [] = refl
staged_again (h ∷ hs) = ap (λ xs. h ∷ xs) (staged_again hs)

pub as_many : (hs : List Holding) → length (containers_of hs) ≡ length (stages_of hs)
as_many [] = refl
as_many (h ∷ hs) = omega (arith, as_many hs)

pub apart : (hs : List Holding) (containers : List Container) (stages : List Stage) → containers ≡ containers_of hs → stages ≡ stages_of hs → staged containers stages ≡ hs
apart hs containers stages e f = ap (λ xs. staged xs stages) e ∙ ap (staged (containers_of hs)) f ∙ staged_again hs

pub as_many_apart : (hs : List Holding) (containers : List Container) (stages : List Stage) → containers ≡ containers_of hs → stages ≡ stages_of hs → length containers ≡ length stages
as_many_apart hs containers stages e f = ap length e ∙ as_many hs ∙ sym (ap length f)

-- what is read of it
pub containers_staged : (cs : List Container) (gs : List Stage) → length cs ≡ length gs → containers_of (staged cs gs) ≡ cs
containers_staged [] gs e = refl
containers_staged (c ∷ cs) [] e = absurd (omega (arith, e))
containers_staged (c ∷ cs) (g ∷ gs) e = ap (λ xs. c ∷ xs) (containers_staged cs gs (omega (arith, e)))

pub length_staged : (cs : List Container) (gs : List Stage) → length cs ≡ length gs → length (staged cs gs) ≡ length cs
length_staged [] gs e = refl
length_staged (c ∷ cs) [] e = absurd (omega (arith, e))
length_staged (c ∷ cs) (g ∷ gs) e = omega (arith, length_staged cs gs (omega (arith, e)))

-- one is put in the place of another
pub staged_set : (cs : List Container) (gs : List Stage) (at : ℕ) (h : Holding) → staged (set cs at h.container) (set gs at (stage_of h)) ≡ set (staged cs gs) at h
staged_set [] gs at h = refl
staged_set (c ∷ cs) [] zero h = refl
staged_set (c ∷ cs) [] (suc at) h = refl
staged_set (c ∷ cs) (g ∷ gs) zero h = refl
staged_set (c ∷ cs) (g ∷ gs) (suc at) h = ap (λ xs. holding_at c g ∷ xs) (staged_set cs gs at h)

-- past the end there is none
pub set_past_end : (hs : List Holding) (at : ℕ) (h : Holding) → length hs ≤ at → set hs at h ≡ hs
set_past_end [] at h l = refl
set_past_end (x ∷ hs) zero h l = absurd (omega (arith, l))
set_past_end (x ∷ hs) (suc at) h l = ap (λ xs. x ∷ xs) (set_past_end hs at h (omega (arith, l)))

-- one more at the end
pub staged_more : (cs : List Container) (gs : List Stage) (h : Holding) → length cs ≡ length gs → staged (cs ++ h.container ∷ []) (gs ++ stage_of h ∷ []) ≡ staged cs gs ++ h ∷ []
staged_more [] [] h e = refl
staged_more [] (g ∷ gs) h e = absurd (omega (arith, e))
staged_more (c ∷ cs) [] h e = absurd (omega (arith, e))
staged_more (c ∷ cs) (g ∷ gs) h e = ap (λ xs. holding_at c g ∷ xs) (staged_more cs gs h (omega (arith, e)))

-- from a place on
staged_none : (cs : List Container) → staged cs [] ≡ []
staged_none [] = refl
staged_none (c ∷ cs) = refl

pub drop_staged : (n : ℕ) (cs : List Container) (gs : List Stage) → drop n (staged cs gs) ≡ staged (drop n cs) (drop n gs)
drop_staged zero cs gs = refl
drop_staged (suc n) [] gs = refl
drop_staged (suc n) (c ∷ cs) [] = sym (staged_none (drop n cs))
drop_staged (suc n) (c ∷ cs) (g ∷ gs) = drop_staged n cs gs

pub as_many_from : (n : ℕ) (cs : List Container) (gs : List Stage) → length cs ≡ length gs → length (drop n cs) ≡ length (drop n gs)
as_many_from zero cs gs e = e
as_many_from (suc n) [] [] e = refl
as_many_from (suc n) [] (g ∷ gs) e = absurd (omega (arith, e))
as_many_from (suc n) (c ∷ cs) [] e = absurd (omega (arith, e))
as_many_from (suc n) (c ∷ cs) (g ∷ gs) e = as_many_from n cs gs (omega (arith, e))

-- how many of them are given up
lost_staged : (cs : List Container) (gs : List Stage) → length cs ≡ length gs → length (filter is_lost gs) ≡ length (filter is_given_up (staged cs gs))
lost_staged [] [] e = refl
lost_staged [] (g ∷ gs) e = absurd (omega (arith, e))
lost_staged (c ∷ cs) [] e = absurd (omega (arith, e))
lost_staged (c ∷ cs) (g ∷ gs) e = at (is_lost g) (lost_staged cs gs (omega (arith, e)))
  where
    at : (b : Bool) → length (filter is_lost gs) ≡ length (filter is_given_up (staged cs gs))
        → length (cond b (g ∷ filter is_lost gs) (filter is_lost gs)) ≡ length (cond b (holding_at c g ∷ filter is_given_up (staged cs gs)) (filter is_given_up (staged cs gs)))
    at true ih = omega (arith, ih)
    at false ih = ih

pub count_staged : (cs : List Container) (gs : List Stage) → length cs ≡ length gs → lost_count gs ≡ given_up_count (staged cs gs)
count_staged cs gs e = sym (length-filter is_lost gs) ∙ lost_staged cs gs e ∙ length-filter is_given_up (staged cs gs)

-- one more turn over both
pub staged_turn : (cs : List Container) (gs : List Stage) (i : ℕ) (c : Container) (g : Stage) → i < length cs → i < length gs → get_or cs i c ≡ c → get_or gs i g ≡ g
    → staged (drop i cs) (drop i gs) ≡ holding_at c g ∷ staged (drop (i + 1) cs) (drop (i + 1) gs)
staged_turn cs gs i c g l m is at =
    ap (λ xs. staged xs (drop i gs)) (drop-cons cs i c l ∙ ap (λ x. x ∷ drop (suc i) cs) is ∙ ap (λ n. c ∷ drop n cs) (sym (add-one i)))
    ∙ ap (λ xs. staged (c ∷ drop (i + 1) cs) xs) (drop-cons gs i g m ∙ ap (λ x. x ∷ drop (suc i) gs) at ∙ ap (λ n. g ∷ drop n gs) (sym (add-one i)))

-- what is told after it, and how many these are
pub told_on : (given next total : List GivenUp) (h : Holding) (hs rest : List Holding) → hs ≡ h ∷ rest → next ≡ given ++ given_up_of (h ∷ []) → given ++ given_up_of hs ≡ total → next ++ given_up_of rest ≡ total
told_on given next total h hs rest turn more so_far =
    ap (λ xs. xs ++ given_up_of rest) more
    ∙ append_assoc given (given_up_of (h ∷ [])) (given_up_of rest)
    ∙ ap (λ xs. given ++ xs) (sym (filter_map-append given_up_as (h ∷ []) rest))
    ∙ ap (λ xs. given ++ given_up_of xs) (sym turn)
    ∙ so_far

pub told_size : (h : Holding) (hs rest : List Holding) → hs ≡ h ∷ rest → length (given_up_of hs) ≡ length (given_up_of (h ∷ [])) + length (given_up_of rest)
told_size h hs rest turn = ap (λ xs. length (given_up_of xs)) turn ∙ ap length (filter_map-append given_up_as (h ∷ []) rest) ∙ length-append (given_up_of (h ∷ [])) (given_up_of rest)
