-- What entries tell: one list of commands, or one place of a bad entry (this product's own).
use Rattle.std.specs.Prelude.{◌≡◌, ℕ, List, ◌++◌}
use Rattle.chf_core.specs.declared.command.Command.{Command}
use Rattle.chf_replay.specs.Entries.{AreEntriesOf, IsBadAt}

-- entries are the payloads of one list of commands at most
abbrev pub OneList : Type 0
OneList = (entries : List (List ℕ)) (one other : List Command) → AreEntriesOf one entries → AreEntriesOf other entries → one ≡ other

-- where the first of some entries are the payloads of a list of commands, the commands of all go on behind them
abbrev pub CommandsGoOn : Type 0
CommandsGoOn = (first more : List (List ℕ)) (before commands : List Command) → AreEntriesOf before first
    → AreEntriesOf commands (first ++ more) → (later : List Command) × (commands ≡ later ++ before)

-- the first of the entries of a list of commands are those of some of its commands
abbrev pub FirstAreEntries : Type 0
FirstAreEntries = (first more : List (List ℕ)) (commands : List Command) → AreEntriesOf commands (first ++ more)
    → (before : List Command) × AreEntriesOf before first

-- the first bad entry of some has one place
abbrev pub OnePlace : Type 0
OnePlace = (entries : List (List ℕ)) (one other : ℕ) → IsBadAt entries one → IsBadAt entries other → one ≡ other

-- and where they are the payloads of commands there is none
abbrev pub NoPlace : Type 0
NoPlace = (entries : List (List ℕ)) (commands : List Command) (place : ℕ) → AreEntriesOf commands entries → IsBadAt entries place → ⊥
