-- How a command is entered (this product's own).
use Rattle.std.specs.Prelude.{◌≡◌, ◌≤◌, ◌⊎◌, ℕ, List, [], ◌∷◌, length}
use Rattle.chf_core.specs.declared.command.Command.{Command}
use Rattle.chf_core.specs.declared.command.Outcome.{Outcome}
use Rattle.chf_core.specs.declared.decision.Verdict.TheVariants as verdict
use Rattle.chf_core.specs.State.{State}
use Rattle.chf_core.specs.Deciding.{decision}
use Rattle.chf_core.specs.After.{IsHistory}
use Rattle.chf_core.specs.Machine.{Machine, IsReady}
use Rattle.chf_payloads.specs.Laws.{IsOfMessage}
use Rattle.chf_payloads.specs.Payloads.{ReadsBack}
use Rattle.chf_payloads.specs.Written.{payload_of}
use Rattle.chf_replay.specs.Entries.{payloads_of}
use Rattle.chf_store.specs.declared.entry.Entry.{Entry}
use Rattle.chf_store.specs.declared.entry.Decided.{Decided}
use Rattle.chf_store.specs.declared.entry.Decided.TheVariants as decided
use Rattle.chf_store.specs.declared.entry.Entered.{Entered}
use Rattle.chf_store.specs.declared.entry.Entered.TheVariants as entered

-- a command can be read back from an entry: its payload gives it, or it is of a message in the ranges of its format
abbrev pub IsReadable : Command → Type 0
IsReadable c = ReadsBack c ⊎ IsOfMessage c

-- An entry may be kept by a machine: the plan is the machine's latest one, and the payload, of a byte at least, that of its command, which reads back.
pub record MayBeKept (m : Machine) (entry : Entry) : Type 0 where
  pub ready : IsReady m entry.plan
  pub payload : entry.payload ≡ payload_of entry.plan.command
  pub any : 1 ≤ length entry.payload
  pub read_back : ReadsBack entry.plan.command

-- what is decided on a command, with the entry of a fresh one
abbrev pub Decides : Machine → Command → Decided → Type 0
Decides m c (decided.Kept place) = decision m.state c ≡ verdict.Kept place
Decides m c decided.Known = decision m.state c ≡ verdict.Known
Decides m c (decided.Refused refusal) = decision m.state c ≡ verdict.Refused refusal
Decides m c (decided.Fresh entry) = (entry.plan.command ≡ c) × MayBeKept m entry

-- what entering a command answers in a state: what is decided, and of a fresh command its place, from 0
abbrev pub Answers : State → Command → Entered → Type 0
Answers s c (entered.Kept place) = decision s c ≡ verdict.Kept place
Answers s c entered.Known = decision s c ≡ verdict.Known
Answers s c (entered.Refused refusal) = decision s c ≡ verdict.Refused refusal
Answers s c (entered.Fresh place) = ((o : Outcome) × (decision s c ≡ verdict.Fresh o)) × (place ≡ s.count)

-- the commands once one was answered: a fresh one is the newest
abbrev pub commands_after : Entered → Command → List Command → List Command
commands_after (entered.Fresh place) c commands = c ∷ commands
commands_after other c commands = commands

-- no entry comes behind a list, or the payload of a command behind those of these commands, with which it comes to be
abbrev pub MayAddFresh : List Command → Command → List (List ℕ) → List (List ℕ) → Type 0
MayAddFresh commands c before more = (more ≡ []) ⊎ ((more ≡ payload_of c ∷ []) × (before ≡ payloads_of commands) × IsHistory (c ∷ commands))
