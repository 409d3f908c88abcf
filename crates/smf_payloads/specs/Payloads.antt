-- Which payloads are those of setups and events (this product's own).
use Rattle.std.specs.Prelude.{◌≡◌, ℕ, List, Option, Some}
use Rattle.smf_model.specs.declared.setup.SmfSetup.{SmfSetup}
use Rattle.smf_model.specs.declared.event.SmfEvent.{SmfEvent}
use Rattle.smf_payloads.specs.Written.{event_payload, setup_payload}
use Rattle.smf_payloads.specs.Read.{event_in, setup_in}

-- ---- setups

-- a setup reads back: its payload gives it
abbrev pub SetupReadsBack : SmfSetup → Type 0
SetupReadsBack s = setup_in (setup_payload s) ≡ Some s

-- bytes are the payload of a setup, which reads back
pub record IsSetupPayload (setup : SmfSetup) (bytes : List ℕ) : Type 0 where
  pub written : setup_payload setup ≡ bytes
  pub read : SetupReadsBack setup

-- every setup of which the bytes are the payload is the one that was found
abbrev pub IsOnlySetup : Option SmfSetup → List ℕ → Type 0
IsOnlySetup found bytes = (s : SmfSetup) → IsSetupPayload s bytes → found ≡ Some s

-- ---- events

-- an event reads back: its payload gives it
abbrev pub ReadsBack : SmfEvent → Type 0
ReadsBack e = event_in (event_payload e) ≡ Some e

-- bytes are the payload of an event, which reads back
pub record IsPayload (event : SmfEvent) (bytes : List ℕ) : Type 0 where
  pub written : event_payload event ≡ bytes
  pub read : ReadsBack event

-- every event of which the bytes are the payload is the one that was found
abbrev pub IsOnly : Option SmfEvent → List ℕ → Type 0
IsOnly found bytes = (e : SmfEvent) → IsPayload e bytes → found ≡ Some e

-- setups and events that read back have one payload only where they are one
pub record PayloadsDiffer : Type 0 where
  pub setups : (a b : SmfSetup) → SetupReadsBack a → SetupReadsBack b → setup_payload a ≡ setup_payload b → a ≡ b
  pub events : (a b : SmfEvent) → ReadsBack a → ReadsBack b → event_payload a ≡ event_payload b → a ≡ b
