-- Bytes are the payload of one setup or event at most.
use Rattle.std.proofs.Common.{◌≡◌, ◌∙◌, ℕ, List, Option, Some, None, ap, sym}
use Rattle.std.proofs.lemmas.Option.{same_Some}
use Rattle.smf_model.specs.declared.setup.SmfSetup.{SmfSetup}
use Rattle.smf_model.specs.declared.event.SmfEvent.{SmfEvent}
use Rattle.smf_payloads.specs.Written.{event_payload, setup_payload}
use Rattle.smf_payloads.specs.Read.{event_in, setup_in}
use Rattle.smf_payloads.specs.Payloads.{IsOnly, IsOnlySetup, IsPayload, IsSetupPayload}

-- ---- events

-- the bytes give the event whose payload they are
given : (e : SmfEvent) (bytes : List ℕ) → IsPayload e bytes → event_in bytes ≡ Some e
given e bytes h = ap event_in (sym h.written) ∙ h.read

-- bytes that give nothing are no payload
pub none_given : (bytes : List ℕ) → event_in bytes ≡ None → IsOnly None bytes
none_given bytes none e h = absurd (let found = given e bytes h in cc)

-- bytes that give an event which is written as these bytes
pub found : (e : SmfEvent) (bytes : List ℕ) → event_in bytes ≡ Some e → event_payload e ≡ bytes → IsPayload e bytes
found e bytes read written = record { written = written; read = ap event_in written ∙ read }

pub only_found : (e : SmfEvent) (bytes : List ℕ) → event_in bytes ≡ Some e → IsOnly (Some e) bytes
only_found e bytes read other h = sym read ∙ given other bytes h

-- bytes that give an event which is written otherwise are no payload
pub spelled_otherwise : (e : SmfEvent) (bytes : List ℕ) → event_in bytes ≡ Some e → (event_payload e ≡ bytes → ⊥) → IsOnly None bytes
spelled_otherwise e bytes read differs other h =
    let same : other ≡ e = same_Some other e (sym (given other bytes h) ∙ read) in
    absurd (differs (sym (ap event_payload same) ∙ h.written))

-- ---- setups

given_setup : (s : SmfSetup) (bytes : List ℕ) → IsSetupPayload s bytes → setup_in bytes ≡ Some s
given_setup s bytes h = ap setup_in (sym h.written) ∙ h.read

pub no_setup_given : (bytes : List ℕ) → setup_in bytes ≡ None → IsOnlySetup None bytes
no_setup_given bytes none s h = absurd (let found = given_setup s bytes h in cc)

pub found_setup : (s : SmfSetup) (bytes : List ℕ) → setup_in bytes ≡ Some s → setup_payload s ≡ bytes → IsSetupPayload s bytes
found_setup s bytes read written = record { written = written; read = ap setup_in written ∙ read }

pub only_setup_found : (s : SmfSetup) (bytes : List ℕ) → setup_in bytes ≡ Some s → IsOnlySetup (Some s) bytes
only_setup_found s bytes read other h = sym read ∙ given_setup other bytes h

pub setup_spelled_otherwise : (s : SmfSetup) (bytes : List ℕ) → setup_in bytes ≡ Some s → (setup_payload s ≡ bytes → ⊥) → IsOnlySetup None bytes
setup_spelled_otherwise s bytes read differs other h =
    let same : other ≡ s = same_Some other s (sym (given_setup other bytes h) ∙ read) in
    absurd (differs (sym (ap setup_payload same) ∙ h.written))
