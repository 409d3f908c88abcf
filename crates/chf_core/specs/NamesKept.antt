-- What is kept of names: their texts, found by text and by place. No public clause names these.
use Rattle.std.specs.Prelude.{◌≡◌, ℕ, ◌-◌, ◌≤◌, min, Bool, bytes_eq, List, reverse, map, position, String, string_bytes}
use Rattle.std.specs.declared.alloc.Global.{Global}
use Rattle.indexmap.specs.IndexSet.{index_set_len, spare}
use Rattle.chf_core.specs.declared.names.Names.TheInside.{Inside}
use Rattle.chf_core.specs.Operator.{number_in}
use Rattle.chf_core.specs.Named.{Named}

-- the value of the names
abbrev pub named : Inside → Named
named n = record { list = reverse (map string_bytes n.texts.keys); room = min (spare n.texts) (4294967295 - index_set_len n.texts) }

-- whether a text is a name
abbrev pub is_name : List ℕ → String Global → Bool
is_name name text = bytes_eq name (string_bytes text)

-- the place of each text is its number, and the numbers fit their type
pub record AreNumbered (n : Inside) : Type 0 where
  pub numbers : (name : List ℕ) → position (is_name name) n.texts.keys ≡ number_in (reverse (map string_bytes n.texts.keys)) name
  pub few : index_set_len n.texts ≤ 4294967295
