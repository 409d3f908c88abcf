-- What is kept of requests and sessions by the number of their consumer. No public clause names these.
use Rattle.std.specs.Prelude.{◌≡◌, ℕ, ◌<◌, ◌==◌, ◌&&◌, min, Bool, length, Option, IfSome}
use Rattle.std.specs.Option.{option_and_then}
use Rattle.std.specs.HashMap.{get, spare}
use Rattle.chf_core.specs.declared.key.Name.{Name}
use Rattle.chf_core.specs.declared.key.Key.{Key}
use Rattle.chf_core.specs.declared.numbered.NumberedName.{NumberedName}
use Rattle.chf_core.specs.declared.numbered.NumberedKey.{NumberedKey}
use Rattle.chf_core.specs.declared.key_table.KeyTable.{KeyTable}
use Rattle.chf_core.specs.Operator.{number_in}

-- two names are of one session
abbrev pub name_test : NumberedName → NumberedName → Bool
name_test a b = a.consumer == b.consumer && a.charging_id == b.charging_id

-- two keys are of one request
abbrev pub key_test : NumberedKey → NumberedKey → Bool
key_test a b = a.consumer == b.consumer && (a.charging_id == b.charging_id && a.number == b.number)

-- with the number of the consumer in place of its name
abbrev pub numbered_name : ℕ → Name → NumberedName
numbered_name consumer n = record { consumer = consumer; charging_id = n.charging_id }

-- a key with the number of its consumer in place of its name
abbrev pub numbered_key : ℕ → Key → NumberedKey
numbered_key consumer k = record { consumer = consumer; charging_id = k.session.charging_id; number = k.number }

-- the place that is kept of a key, and the reference of a session
abbrev pub kept_place : KeyTable → Key → Option ℕ
kept_place v k = option_and_then (λ n. get key_test v.places (numbered_key n k)) (number_in v.consumers.list k.session.consumer)

-- the reference that is kept of a session's name
abbrev pub kept_reference : KeyTable → Name → Option ℕ
kept_reference v name = option_and_then (λ n. get name_test v.references (numbered_name n name)) (number_in v.consumers.list name.consumer)

-- each number of a consumer in the tables is that of a name
pub record AreKnown (v : KeyTable) : Type 0 where
  pub places : (k : NumberedKey) → IfSome (get key_test v.places k) (λ place. k.consumer < length v.consumers.list)
  pub references : (n : NumberedName) → IfSome (get name_test v.references n) (λ reference. n.consumer < length v.consumers.list)

-- all is kept as before
pub record IsSameKeyed (old new : KeyTable) : Type 0 where
  pub places : (k : Key) → kept_place new k ≡ kept_place old k
  pub references : (n : Name) → kept_reference new n ≡ kept_reference old n
  pub known : AreKnown new

-- for how many more there is room
abbrev pub room : KeyTable → ℕ
room v = min v.consumers.room (min (spare v.places) (spare v.references))
