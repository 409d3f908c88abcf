-- One entry more, and a bad entry.
use Rattle.std.proofs.Common.{arith, ◌≡◌, ◌∙◌, ◌==◌, ◌<◌, ◌≤◌, ◌+◌, ◌-◌, ℕ, suc, Bool, true, false, List, [], ◌∷◌, ◌++◌, length, take, drop, get_or, Some, None, Result, Ok, Err, IfOk, IsErr, OnOk, refl, sym, ap, subst, length-drop}
use Rattle.std.proofs.lemmas.List.Elements.{All-cons}
use Rattle.std.proofs.lemmas.List.{get_or-drop, length-append, take-append-drop, take_all, take_at, length-take-le}
use Rattle.std.proofs.lemmas.Option.{same_Some}
use Rattle.std.proofs.Math.Seq.{drop-cons, take-suc}
use Rattle.chf_core.specs.declared.command.Command.{Command}
use Rattle.chf_core.specs.declared.decision.Verdict.TheVariants.{Fresh}
use Rattle.chf_core.specs.State.{State}
use Rattle.chf_core.specs.Deciding.{decision}
use Rattle.chf_core.specs.After.{after, is_setup}
use Rattle.chf_core.specs.Standing.{HistoriesGrow}
use Rattle.chf_core.specs.Joined.{StatesAreJoined}
use Rattle.chf_payloads.specs.Payloads.{IsOnly, IsPayload, ReadsBack}
use Rattle.chf_replay.specs.Entries.{IsAfter, IsAfterFirst, IsBadAt}
use Rattle.chf_replay.specs.Laws.{NoPlace}
use Rattle.chf_replay.specs.Entering.{Comes, MayCome, Enters}
use Rattle.chf_replay.proofs.Pieces.{as_many}

pub count_is : StatesAreJoined → (s : State) (entries : List (List ℕ)) → IsAfter s entries → s.count ≡ length entries
count_is joined s entries held = ap (λ (t : State). t.count) held.state ∙ (joined held.commands).count ∙ sym (as_many held.commands) ∙ ap (λ l. length l) held.are.payloads

-- one entry more
pub one_more : HistoriesGrow → (s now : State) (first : List (List ℕ)) (entry : List ℕ) → IsAfter s first → Enters true s now entry → IsAfter now (first ++ entry ∷ [])
one_more grow s now first entry held came =
    let c = came.0 in
    let may = came.2 in
    record {
      commands = c ∷ held.commands;
      are = record {
        came = grow held.commands c may.outcome held.are.came (subst (λ (t : State). decision t c ≡ Fresh may.outcome) held.state may.fresh) (subst (λ (t : State). is_setup c ≡ (t.count == 0)) held.state may.order);
        read_back = All-cons ReadsBack c held.commands came.1.read held.are.read_back;
        payloads = λ i. held.are.payloads i ++ came.1.written i ∷ [];
      };
      state = came.3 ∙ ap (λ (t : State). after t c) held.state;
    }

-- an entry whose command may not come is the first bad one
pub bad_here : StatesAreJoined → (s : State) (entries first later : List (List ℕ)) (entry : List ℕ) → entries ≡ first ++ entry ∷ later → IsAfter s first
    → ((c : Command) → IsPayload c entry → MayCome s c → ⊥) → IsBadAt entries (s.count + 1)
bad_here joined s entries first later entry is held none = record {
  before = first;
  entry = entry;
  later = later;
  is = is;
  here = ap (λ n. n + 1) (count_is joined s first held);
  commands = held.commands;
  are = held.are;
  bad = λ c payload history. none c payload (record {
    outcome = history.0.0;
    fresh = subst (λ (t : State). decision t c ≡ Fresh history.0.0) (sym held.state) history.0.1;
    order = history.1.0 ∙ ap (λ n. n == 0) (sym ((joined held.commands).count) ∙ ap (λ (t : State). t.count) (sym held.state));
  });
}

-- ---- the walk over the entries from a place on

-- what is left of the entries from a place on, all of them
pub left_over : (entries : List (List ℕ)) (n : ℕ) → n ≤ length entries → take (length entries - n) (drop n entries) ≡ drop n entries
left_over entries n within = take_all (length entries - n) (drop n entries) (omega (arith, length-drop n entries))

-- the entry at a place of those that are left
pub entry_at : (entries : List (List ℕ)) (n i : ℕ) (entry : List ℕ) → n ≤ length entries → entry ≡ get_or (take (length entries - n) (drop n entries)) i entry
    → entry ≡ get_or entries (n + i) entry
entry_at entries n i entry within is = is ∙ ap (λ (t : List (List ℕ)). get_or t i entry) (left_over entries n within) ∙ get_or-drop n entries i entry

-- one turn where the entry has come
pub turn : HistoriesGrow → (s now : State) (entries : List (List ℕ)) (n i : ℕ) (entry : List ℕ) → n + i < length entries
    → entry ≡ get_or entries (n + i) entry → IsAfter s (take (n + i) entries) → Enters true s now entry → IsAfter now (take (n + (i + 1)) entries)
turn grow s now entries n i entry here is held came =
    let next : suc (n + i) ≡ n + (i + 1) = omega arith in
    let grown : take (suc (n + i)) entries ≡ take (n + i) entries ++ entry ∷ [] = take-suc entries (n + i) entry here ∙ ap (λ (x : List ℕ). take (n + i) entries ++ x ∷ []) (sym is) in
    subst (λ (t : List (List ℕ)). IsAfter now t) (sym grown ∙ ap (λ (k : ℕ). take k entries) next) (one_more grow s now (take (n + i) entries) entry held came)

-- one turn where it is bad
pub bad_turn : StatesAreJoined → (s : State) (entries : List (List ℕ)) (n i : ℕ) (entry : List ℕ) → n + i < length entries
    → entry ≡ get_or entries (n + i) entry → IsAfter s (take (n + i) entries) → ((c : Command) → IsPayload c entry → MayCome s c → ⊥)
    → IsBadAt entries (s.count + 1)
bad_turn joined s entries n i entry here is held none =
    let rest : drop (n + i) entries ≡ entry ∷ drop (suc (n + i)) entries = drop-cons entries (n + i) entry here ∙ ap (λ (x : List ℕ). x ∷ drop (suc (n + i)) entries) (sym is) in
    bad_here joined s entries (take (n + i) entries) (drop (suc (n + i)) entries) entry (sym (take-append-drop (n + i) entries) ∙ ap (λ (t : List (List ℕ)). take (n + i) entries ++ t) rest) held none

-- the machine's commands are the first of the entries
pub begins : StatesAreJoined → (s : State) (entries : List (List ℕ)) → IsAfterFirst s entries → IsAfter s (take s.count entries)
begins joined s entries held =
    let same : take s.count entries ≡ held.first = ap (λ (t : List (List ℕ)). take s.count t) held.is ∙ take_at held.first held.rest s.count (sym (count_is joined s held.first held.held)) in
    subst (λ (t : List (List ℕ)). IsAfter s t) (sym same) held.held

pub within : StatesAreJoined → (s : State) (entries : List (List ℕ)) → IsAfterFirst s entries → s.count ≤ length entries
within joined s entries held =
    let all : length entries ≡ length held.first + length held.rest = ap (λ (t : List (List ℕ)). length t) held.is ∙ length-append held.first held.rest in
    omega (arith, all, count_is joined s held.first held.held)

-- the first of them, after some turns
pub first_of_all : (s : State) (entries : List (List ℕ)) (k : ℕ) → IsAfter s (take k entries) → IsAfterFirst s entries
first_of_all s entries k held = record { first = take k entries; rest = drop k entries; is = sym (take-append-drop k entries); held = held }

-- at the end all
pub all_of_them : (s : State) (entries : List (List ℕ)) (k : ℕ) → length entries ≤ k → IsAfter s (take k entries) → IsAfter s entries
all_of_them s entries k end held = subst (λ (t : List (List ℕ)). IsAfter s t) (take_all k entries end) held

-- how many commands there are after some turns
pub counted : StatesAreJoined → (s : State) (entries : List (List ℕ)) (k : ℕ) → k ≤ length entries → IsAfter s (take k entries) → s.count ≡ k
counted joined s entries k within held = count_is joined s (take k entries) held ∙ length-take-le k entries within

-- ---- one entry

pub by_only : (b : Bool) (s now : State) (command : Command) (entry : List ℕ) → IsPayload command entry → IsOnly (Some command) entry → Comes b s now command → Enters b s now entry
by_only true s now command entry payload only comes = (command, payload, comes.0, comes.1)
by_only false s now command entry payload only comes = (comes.0, λ c other may. comes.1 (subst (λ (t : Command). MayCome s t) (sym (same_Some command c (only c other))) may))

pub by_none : (s now : State) (entry : List ℕ) → IsOnly None entry → now ≡ s → Enters false s now entry
by_none s now entry only same = (same, λ c other may. let f : None ≡ Some c = only c other in absurd cc)

-- ---- where the walk stands

pub here_within : (entries : List (List ℕ)) (n i : ℕ) → n ≤ length entries → i < length (take (length entries - n) (drop n entries)) → n + i < length entries
here_within entries n i within here = omega (arith, here, within, ap (λ (t : List (List ℕ)). length t) (left_over entries n within), length-drop n entries)

pub end_within : (entries : List (List ℕ)) (n i : ℕ) → n ≤ length entries → i ≤ length (take (length entries - n) (drop n entries)) → n + i ≤ length entries
end_within entries n i within here = omega (arith, here, within, ap (λ (t : List (List ℕ)). length t) (left_over entries n within), length-drop n entries)

pub at_end : (entries : List (List ℕ)) (n i : ℕ) → n ≤ length entries → length (take (length entries - n) (drop n entries)) ≤ i → length entries ≤ n + i
at_end entries n i within here = omega (arith, here, within, ap (λ (t : List (List ℕ)). length t) (left_over entries n within), length-drop n entries)

pub comes_enters : {E : Type 0} (r : Result Bool E) (s now : State) (command : Command) (entry : List ℕ) → IsPayload command entry → IsOnly (Some command) entry
    → IfOk r (λ b. Comes b s now command) → IfOk r (λ b. Enters b s now entry)
comes_enters (Ok b) s now command entry payload only comes = by_only b s now command entry payload only comes
comes_enters (Err e) s now command entry payload only comes = tt

-- what has a bad entry is refused
pub refused_if_bad : {E : Type 0} (r : Result (Unit {0}) E) → NoPlace → (s : State) (entries : List (List ℕ)) (place : ℕ) → OnOk r (IsAfter s entries) → IsBadAt entries place → IsErr r
refused_if_bad (Ok u) none s entries place held bad = absurd (none entries held.commands place held.are bad)
refused_if_bad (Err e) none s entries place held bad = refl
