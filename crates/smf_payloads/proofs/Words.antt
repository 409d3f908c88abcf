-- The words of rows have one spelling.
use Rattle.std.proofs.Common.{◌≡◌, ◌∙◌, ℕ, ap, sym, refl, Bool, true, false, List, [], ◌∷◌, Option, Some, None, if◌then◌else◌, codes}
use Rattle.std.specs.Prelude.{bytes_eq}
use Rattle.std.specs.Cmp.Lexicographic.{bytes_decides}
use Rattle.units.specs.Names.{spells_name}
use Rattle.units.specs.Words.{failover_named, first_named, handling_named, name_of_failover, name_of_handling, name_of_type, type_named, types}
use Rattle.units.specs.declared.answer.Handling.{Handling}
use Rattle.units.specs.declared.answer.Handling.TheVariants as handling
use Rattle.units.specs.declared.trigger.TriggerType.{TriggerType}
use Rattle.units.specs.declared.trigger.TriggerType.TheVariants.{Final, QuotaExhausted, QuotaThreshold, ValidityTime, QuotaHoldingTime, TariffTimeChange, VolumeLimit, TimeLimit, ForcedReauthorisation, QosChange, RatChange, PlmnChange, UserLocationChange, UeTimezoneChange, SessionAmbrChange, ServingNodeChange, ManagementIntervention, MaxNumberOfChangesInChargingConditions, AbnormalRelease}
use Rattle.row_fields.specs.Fields.{name_of}
use Rattle.row_texts.specs.ReadBack.{is_field}
use Rattle.smf_payloads.proofs.Options.{passed}

pub same_text : (a b : List ℕ) → bytes_eq a b ≡ true → a ≡ b
same_text a b e = (bytes_decides a b).0 e

-- a name that was read
pub record IsNamed (field name : List ℕ) : Type 0 where
  pub same : name ≡ field
  pub spells : spells_name name ≡ true

pub named : (field name : List ℕ) → name_of field ≡ Some name → IsNamed field name
named field name h =
    let both = passed (spells_name field) (Some field) name h in
    let same : name ≡ field = cc in
    record { same = same; spells = ap spells_name same ∙ both.0 }

-- a word that was read is written as it stands
pub record IsWord (field word : List ℕ) : Type 0 where
  pub same : word ≡ field
  pub plain : is_field field ≡ true

is_word : (field word : List ℕ) → is_field word ≡ true → bytes_eq field word ≡ true → IsWord field word
is_word field word plain e = record { same = sym (same_text field word e); plain = ap is_field (same_text field word e) ∙ plain }

pub failover_word : (field : List ℕ) (f : Bool) → failover_named field ≡ Some f → IsWord field (name_of_failover f)
failover_word field f h = by (bytes_eq field (codes "FAILOVER_SUPPORTED")) (bytes_eq field (codes "FAILOVER_NOT_SUPPORTED")) refl refl h
  where
    found : (b : Bool) → IsWord field (name_of_failover b) → Some b ≡ Some f → IsWord field (name_of_failover f)
    found b w e = let same : b ≡ f = cc in record { same = ap name_of_failover (sym same) ∙ w.same; plain = w.plain }

    by : (s n : Bool) → bytes_eq field (codes "FAILOVER_SUPPORTED") ≡ s → bytes_eq field (codes "FAILOVER_NOT_SUPPORTED") ≡ n → (if s then Some true else (if n then Some false else None)) ≡ Some f → IsWord field (name_of_failover f)
    by true n sw nw e = found true (is_word field (codes "FAILOVER_SUPPORTED") refl sw) e
    by false true sw nw e = found false (is_word field (codes "FAILOVER_NOT_SUPPORTED") refl nw) e
    by false false sw nw e = absurd (cc)

pub handling_word : (field : List ℕ) (h : Handling) → handling_named field ≡ Some h → IsWord field (name_of_handling h)
handling_word field h is = by (bytes_eq field (codes "TERMINATE")) (bytes_eq field (codes "CONTINUE")) (bytes_eq field (codes "RETRY_AND_TERMINATE")) refl refl refl is
  where
    found : (b : Handling) → IsWord field (name_of_handling b) → Some b ≡ Some h → IsWord field (name_of_handling h)
    found b w e = let same : b ≡ h = cc in record { same = ap name_of_handling (sym same) ∙ w.same; plain = w.plain }

    by : (t c r : Bool) → bytes_eq field (codes "TERMINATE") ≡ t → bytes_eq field (codes "CONTINUE") ≡ c → bytes_eq field (codes "RETRY_AND_TERMINATE") ≡ r
        → (if t then Some handling.Terminate else (if c then Some handling.Continue else (if r then Some handling.RetryAndTerminate else None))) ≡ Some h → IsWord field (name_of_handling h)
    by true c r tw cw rw_ e = found handling.Terminate (is_word field (codes "TERMINATE") refl tw) e
    by false true r tw cw rw_ e = found handling.Continue (is_word field (codes "CONTINUE") refl cw) e
    by false false true tw cw rw_ e = found handling.RetryAndTerminate (is_word field (codes "RETRY_AND_TERMINATE") refl rw_) e
    by false false false tw cw rw_ e = absurd (cc)

-- a type's name is a plain word
plain_type : (kind : TriggerType) → is_field (name_of_type kind) ≡ true
plain_type Final = refl
plain_type QuotaExhausted = refl
plain_type QuotaThreshold = refl
plain_type ValidityTime = refl
plain_type QuotaHoldingTime = refl
plain_type TariffTimeChange = refl
plain_type VolumeLimit = refl
plain_type TimeLimit = refl
plain_type ForcedReauthorisation = refl
plain_type QosChange = refl
plain_type RatChange = refl
plain_type PlmnChange = refl
plain_type UserLocationChange = refl
plain_type UeTimezoneChange = refl
plain_type SessionAmbrChange = refl
plain_type ServingNodeChange = refl
plain_type ManagementIntervention = refl
plain_type MaxNumberOfChangesInChargingConditions = refl
plain_type AbnormalRelease = refl

first_word : (field : List ℕ) (kinds : List TriggerType) (kind : TriggerType) → first_named field kinds ≡ Some kind → IsWord field (name_of_type kind)
first_word field [] kind h = absurd (cc)
first_word field (k ∷ rest) kind h = by (bytes_eq field (name_of_type k)) refl (first_word field rest kind) h
  where
    by : (b : Bool) → bytes_eq field (name_of_type k) ≡ b → (first_named field rest ≡ Some kind → IsWord field (name_of_type kind)) → (if b then Some k else first_named field rest) ≡ Some kind → IsWord field (name_of_type kind)
    by true w more e = let same : k ≡ kind = cc in let is = is_word field (name_of_type k) (plain_type k) w in record { same = ap name_of_type (sym same) ∙ is.same; plain = is.plain }
    by false w more e = more e

pub type_word : (field : List ℕ) (kind : TriggerType) → type_named field ≡ Some kind → IsWord field (name_of_type kind)
type_word field kind h = first_word field types kind h
