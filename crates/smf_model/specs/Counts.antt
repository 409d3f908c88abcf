-- How many entries the list of a machine has: its setup, and each event that was a step (this product's own).
use Rattle.std.specs.Prelude.{ℕ, ◌+◌, List, [], ◌∷◌, Result, Ok, Err}
use Rattle.smf_model.specs.declared.setup.SmfSetup.{SmfSetup}
use Rattle.smf_model.specs.declared.event.SmfEvent.{SmfEvent}
use Rattle.smf_model.specs.declared.refusal.Seen.{Seen}
use Rattle.smf_model.specs.declared.refusal.Seen.TheVariants.{New, Known}
use Rattle.smf_model.specs.declared.refusal.SmfRefusal.{SmfRefusal}
use Rattle.smf_model.specs.Machine.{machine_after, answer_of}

-- an event that is a step is one entry, and any other none
abbrev pub entry_count : Result Seen SmfRefusal → ℕ
entry_count (Ok New) = 1
entry_count (Ok Known) = 0
entry_count (Err e) = 0

-- the setup, and each event that was a step
abbrev pub entries_in : SmfSetup → List SmfEvent → ℕ
entries_in setup [] = 1
entries_in setup (event ∷ earlier) = entries_in setup earlier + entry_count (answer_of (machine_after setup earlier) event)
