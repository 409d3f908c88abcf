-- Bytes are the payload of one command at most.
use Rattle.std.proofs.Common.{◌≡◌, ◌∙◌, ℕ, List, Option, Some, None, ap, sym}
use Rattle.std.proofs.lemmas.Option.{same_Some}
use Rattle.chf_core.specs.declared.command.Command.{Command}
use Rattle.chf_payloads.specs.Written.{payload_of}
use Rattle.chf_payloads.specs.Read.{command_in}
use Rattle.chf_payloads.specs.Payloads.{IsOnly, IsPayload}

-- the bytes give the command whose payload they are
pub given : (c : Command) (bytes : List ℕ) → IsPayload c bytes → command_in bytes ≡ Some c
given c bytes h = ap command_in (sym h.written) ∙ h.read

-- bytes that give nothing are no payload
pub none_given : (bytes : List ℕ) → command_in bytes ≡ None → IsOnly None bytes
none_given bytes none c h = absurd (let e = given c bytes h in cc)

-- bytes that give a command which is written as these bytes
pub found : (c : Command) (bytes : List ℕ) → command_in bytes ≡ Some c → payload_of c ≡ bytes → IsPayload c bytes
found c bytes read written = record { written = written; read = ap command_in written ∙ read }

pub only_found : (c : Command) (bytes : List ℕ) → command_in bytes ≡ Some c → IsOnly (Some c) bytes
only_found c bytes read other h = sym read ∙ given other bytes h

-- bytes that give a command which is written otherwise are no payload
pub spelled_otherwise : (c : Command) (bytes : List ℕ) → command_in bytes ≡ Some c → (payload_of c ≡ bytes → ⊥) → IsOnly None bytes
spelled_otherwise c bytes read differs other h =
    let same : other ≡ c = same_Some other c (sym (given other bytes h) ∙ read) in
    absurd (differs (sym (ap payload_of same) ∙ h.written))
