-- Which payloads are those of commands (this product's own).
use Rattle.std.specs.Prelude.{◌≡◌, ℕ, List, Option, Some}
use Rattle.chf_core.specs.declared.command.Command.{Command}
use Rattle.chf_payloads.specs.Written.{payload_of}
use Rattle.chf_payloads.specs.Read.{command_in}

-- a command reads back: its payload gives it
abbrev pub ReadsBack : Command → Type 0
ReadsBack c = command_in (payload_of c) ≡ Some c

-- bytes are the payload of a command, which reads back
pub record IsPayload (command : Command) (bytes : List ℕ) : Type 0 where
  pub written : payload_of command ≡ bytes
  pub read : ReadsBack command

-- every command of which the bytes are the payload is the one that was found
abbrev pub IsOnly : Option Command → List ℕ → Type 0
IsOnly found bytes = (c : Command) → IsPayload c bytes → found ≡ Some c

-- commands that read back have one payload only where they are one command
abbrev pub PayloadsDiffer : Type 0
PayloadsDiffer = (a b : Command) → ReadsBack a → ReadsBack b → payload_of a ≡ payload_of b → a ≡ b
