-- How many bytes a JSON text of a value has at least (RFC 8259).
use Rattle.std.specs.Prelude.{◌≡◌, ◌≤◌, ℕ, suc, ◌+◌, List, length, Some}
use Rattle.serde_json.specs.Data.{Data, null, boolean, number, string, array, object, Items, no_items, item, Members, no_members, member}
use Rattle.json_objects.specs.Body.{object_in}

-- a text has its bytes and two quotes; a list and an object have a bracket and what they hold; another value has a byte
abbrev mutual
  pub size : Data → ℕ
  size null = 1
  size (boolean b) = 1
  size (number n) = 1
  size (string s) = length s + 2
  size (array ds) = suc (items_size ds)
  size (object ms) = suc (members_size ms)

  -- each item with the comma or the bracket after it
  pub items_size : Items → ℕ
  items_size no_items = 0
  items_size (item d ds) = size d + 1 + items_size ds

  -- each member with its name, the quotes and the colon of that, and the comma or the bracket after it
  pub members_size : Members → ℕ
  members_size no_members = 0
  members_size (member k d ms) = length k + 4 + size d + members_size ms

-- the object that a body is takes at most the bytes of the body
abbrev pub BodiesHoldTheirObjects : Type 0
BodiesHoldTheirObjects = (body : List ℕ) (value : Data) → object_in body ≡ Some value → size value ≤ length body
