-- The entries of a journal as the commands whose payloads they are (this product's own).
use Rattle.std.specs.Prelude.{◌≡◌, ◌+◌, ℕ, List, [], ◌∷◌, ◌++◌, All, length}
use Rattle.chf_core.specs.declared.command.Command.{Command}
use Rattle.chf_core.specs.State.{State}
use Rattle.chf_core.specs.After.{IsHistory, state_of}
use Rattle.chf_payloads.specs.Payloads.{IsPayload, ReadsBack}
use Rattle.chf_payloads.specs.Written.{payload_of}

-- the payloads of a list of commands, the newest first, in the order in which the commands came
abbrev pub payloads_of : List Command → List (List ℕ)
payloads_of [] = []
payloads_of (c ∷ before) = payloads_of before ++ payload_of c ∷ []

-- Entries are the payloads of a list of commands, the newest first, which came to be, and each of which reads back.
pub record AreEntriesOf (commands : List Command) (entries : List (List ℕ)) : Type 0 where
  pub came : IsHistory commands
  pub read_back : All ReadsBack commands
  pub payloads : payloads_of commands ≡ entries

-- A state is the one that the commands leave whose payloads these entries are.
pub record IsAfter (s : State) (entries : List (List ℕ)) : Type 0 where
  pub commands : List Command
  pub are : AreEntriesOf commands entries
  pub state : s ≡ state_of commands

-- A state is so after the first of these entries, or after all.
pub record IsAfterFirst (s : State) (entries : List (List ℕ)) : Type 0 where
  pub first : List (List ℕ)
  pub rest : List (List ℕ)
  pub is : entries ≡ first ++ rest
  pub held : IsAfter s first

-- The entry at a place, from 1, is the first bad one: those before it are the payloads of commands that came to be, and it is the payload of no command with which they came to be.
pub record IsBadAt (entries : List (List ℕ)) (place : ℕ) : Type 0 where
  pub before : List (List ℕ)
  pub entry : List ℕ
  pub later : List (List ℕ)
  pub is : entries ≡ before ++ entry ∷ later
  pub here : place ≡ length before + 1
  pub commands : List Command
  pub are : AreEntriesOf commands before
  pub bad : (c : Command) → IsPayload c entry → IsHistory (c ∷ commands) → ⊥
