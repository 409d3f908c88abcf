-- Which commands read back (this product's own).
use Rattle.std.specs.Prelude.{◌≡◌, ◌≤◌, ⊤, ℕ, List, length, Some, Ok}
use Rattle.units.specs.Ranges.{FitsRequest, Is32}
use Rattle.units.specs.declared.request.Operation.{Operation}
use Rattle.units.specs.declared.request.Operation.TheVariants.{Create, Update, Release}
use Rattle.spend_json.specs.Ranges.{FitsContext}
use Rattle.chf_rows.specs.Setup.{setup_answer}
use Rattle.chf_rows.specs.OperatorRow.{command_of}
use Rattle.chf_core.specs.declared.setup.ChfSetup.{ChfSetup}
use Rattle.chf_core.specs.declared.command.Command.{Command}
use Rattle.chf_core.specs.declared.command.Command.TheVariants.{Setup, Charge, Subscribe, Modify, Unsubscribe, NoticeSent}
use Rattle.chf_payloads.specs.Written.{payload_of}
use Rattle.chf_payloads.specs.Payloads.{ReadsBack}

-- a reference is a number of 32 bits
abbrev pub FitsOperation : Operation → Type 0
FitsOperation Create = ⊤
FitsOperation (Update reference) = Is32 reference
FitsOperation (Release reference) = Is32 reference

-- a command of a message, in the ranges of the message's format, or of the answer to a notice
abbrev pub IsOfMessage : Command → Type 0
IsOfMessage (Charge request) = FitsRequest request × FitsOperation request.operation
IsOfMessage (Subscribe context) = FitsContext context
IsOfMessage (Modify id context) = Is32 id × FitsContext context
IsOfMessage (Unsubscribe id) = Is32 id
IsOfMessage (NoticeSent id number) = Is32 id × Is32 number
IsOfMessage other = ⊥

-- what rows give reads back, and its payload is small: the setup of setup rows, and the command of an operator's row
pub record RowsReadBack : Type 0 where
  pub setups : (rows : List (List (List ℕ))) (setup : ChfSetup) → setup_answer rows ≡ Ok setup → ReadsBack (Setup setup)
  pub setup_sizes : (rows : List (List (List ℕ))) (setup : ChfSetup) → setup_answer rows ≡ Ok setup → length (payload_of (Setup setup)) ≤ 65537
  pub commands : (row : List (List ℕ)) (c : Command) → command_of row ≡ Some c → ReadsBack c
  pub command_sizes : (row : List (List ℕ)) (c : Command) → command_of row ≡ Some c → length (payload_of c) ≤ 1048577
