-- A machine and the list of its entries on a disk, and that they belong together (this product's own).
use Rattle.std.specs.Prelude.{◌≡◌, ℕ, List, Option}
use Rattle.chf_core.specs.declared.command.Command.{Command}
use Rattle.chf_core.specs.After.{state_of}
use Rattle.chf_core.specs.Machine.{Machine}
use Rattle.chf_replay.specs.Entries.{AreEntriesOf, payloads_of}
use Rattle.durable.specs.Held.{IsHeld}
use Rattle.durable.specs.State.{State as Durable}

-- the machine, and the list of entries
pub record Store : Type 0 where
  pub machine : Machine
  pub durable : Durable

-- A store and a disk belong together by a list of commands, the newest first, which came to be and each of which reads back: the machine is as they leave it, and the entries on the disk are their payloads.
pub record IsStored (store : Store) (content : Option (List ℕ)) (epoch : Option ℕ) (images : List ℕ → Type 0) (commands : List Command) : Type 0 where
  pub state : store.machine.state ≡ state_of commands
  pub entries : AreEntriesOf commands (payloads_of commands)
  pub held : IsHeld store.durable content epoch images (payloads_of commands)
