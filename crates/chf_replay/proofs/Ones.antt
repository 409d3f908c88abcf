-- Entries are those of one list of commands, or bad at one place.
use Rattle.std.proofs.Common.{arith, ◌≡◌, ◌∙◌, ◌<◌, ◌+◌, ◌⊎◌, inl, inr, ℕ, List, [], ◌∷◌, ◌++◌, All, length, refl, sym, ap, subst}
use Rattle.std.proofs.lemmas.List.Elements.{All-head, All-tail}
use Rattle.std.proofs.lemmas.List.{append_assoc}
use Rattle.std.proofs.lemmas.Bool.{cases_order}
use Rattle.chf_core.specs.declared.command.Command.{Command}
use Rattle.chf_core.specs.After.{IsHistory}
use Rattle.chf_payloads.specs.Payloads.{IsPayload, ReadsBack, PayloadsDiffer}
use Rattle.chf_payloads.specs.Written.{payload_of}
use Rattle.chf_replay.specs.Entries.{payloads_of, AreEntriesOf, IsBadAt}
use Rattle.chf_replay.specs.Laws.{OneList, CommandsGoOn, FirstAreEntries, OnePlace, NoPlace}
use Rattle.chf_replay.proofs.Pieces.{no_push, pushes_same, split}

same_commands : PayloadsDiffer → (a b : List Command) → All ReadsBack a → All ReadsBack b → payloads_of a ≡ payloads_of b → a ≡ b
same_commands differ [] [] h k e = refl
same_commands differ [] (d ∷ b) h k e = absurd (no_push (payloads_of b) (payload_of d) e)
same_commands differ (c ∷ a) [] h k e = absurd (no_push (payloads_of a) (payload_of c) (sym e))
same_commands differ (c ∷ a) (d ∷ b) h k e =
    let both = pushes_same (payloads_of a) (payloads_of b) (payload_of c) (payload_of d) e in
    let heads : c ≡ d = differ c d (All-head ReadsBack c a h) (All-head ReadsBack d b k) both.1 in
    let tails : a ≡ b = same_commands differ a b (All-tail ReadsBack c a h) (All-tail ReadsBack d b k) both.0 in
    λ i. heads i ∷ tails i

pub one_list : PayloadsDiffer → OneList
one_list differ entries one other a b = same_commands differ one other a.read_back b.read_back (a.payloads ∙ sym b.payloads)

pub go_on : PayloadsDiffer → CommandsGoOn
go_on differ first more before commands a b =
    let parts = split commands first more b in
    (parts.0, parts.2 ∙ ap (λ t. parts.0 ++ t) (one_list differ first parts.1 before parts.3 a))

pub first_are : FirstAreEntries
first_are first more commands are = let parts = split commands first more are in (parts.1, parts.3)

-- the last of the entries of a list of commands
last_entry : PayloadsDiffer → (commands before : List Command) (first : List (List ℕ)) (entry : List ℕ) → AreEntriesOf commands (first ++ entry ∷ [])
    → AreEntriesOf before first → (c : Command) × IsPayload c entry × IsHistory (c ∷ before)
last_entry differ [] before first entry are b = absurd (no_push first entry are.payloads)
last_entry differ (c ∷ commands) before first entry are b =
    let both = pushes_same (payloads_of commands) first (payload_of c) entry are.payloads in
    let same : commands ≡ before = same_commands differ commands before (All-tail ReadsBack c commands are.read_back) b.read_back (both.0 ∙ sym b.payloads) in
    (c, record { written = both.1; read = All-head ReadsBack c commands are.read_back }, subst (λ (t : List Command). IsHistory (c ∷ t)) same are.came)

pub no_place : PayloadsDiffer → NoPlace
no_place differ entries commands place are bad =
    let all : entries ≡ (bad.before ++ bad.entry ∷ []) ++ bad.later = bad.is ∙ sym (append_assoc bad.before (bad.entry ∷ []) bad.later) in
    let parts = split commands (bad.before ++ bad.entry ∷ []) bad.later (subst (λ t. AreEntriesOf commands t) all are) in
    let last = last_entry differ parts.1 bad.commands bad.before bad.entry parts.3 bad.are in
    bad.bad last.0 last.1 last.2

-- what stands behind the shorter beginning
between : {X : Type 0} (a b : List X) (x y : X) (r s : List X) → a ++ x ∷ r ≡ b ++ y ∷ s → length a < length b → (m : List X) × (b ≡ a ++ x ∷ m)
between [] [] x y r s e less = absurd (omega (arith, less))
between [] (h ∷ b) x y r s e less = let heads : x ≡ h = cc in (b, λ i. sym heads i ∷ b)
between (g ∷ a) [] x y r s e less = absurd (grind (arith, less))
between (g ∷ a) (h ∷ b) x y r s e less =
    let tails : a ++ x ∷ r ≡ b ++ y ∷ s = cc in
    let heads : h ≡ g = cc in
    let found = between a b x y r s tails (grind (arith, less)) in
    (found.0, λ i. heads i ∷ found.1 i)

-- no entry before a bad one is bad
not_before : PayloadsDiffer → (entries : List (List ℕ)) (one other : ℕ) (a : IsBadAt entries one) (b : IsBadAt entries other) → length a.before < length b.before → ⊥
not_before differ entries one other a b less =
    let m = between a.before b.before a.entry b.entry a.later b.later (sym a.is ∙ b.is) less in
    no_place differ b.before b.commands one b.are (record {
      before = a.before;
      entry = a.entry;
      later = m.0;
      is = m.1;
      here = a.here;
      commands = a.commands;
      are = a.are;
      bad = a.bad;
    })

by_order : PayloadsDiffer → (entries : List (List ℕ)) (one other : ℕ) (a : IsBadAt entries one) (b : IsBadAt entries other)
    → (length a.before ≡ length b.before) ⊎ ((length a.before < length b.before) ⊎ (length b.before < length a.before)) → one ≡ other
by_order differ entries one other a b (inl same) = a.here ∙ ap (λ n. n + 1) same ∙ sym b.here
by_order differ entries one other a b (inr (inl less)) = absurd (not_before differ entries one other a b less)
by_order differ entries one other a b (inr (inr more)) = absurd (not_before differ entries other one b a more)

pub one_place : PayloadsDiffer → OnePlace
one_place differ entries one other a b = by_order differ entries one other a b (cases_order (length a.before) (length b.before))
