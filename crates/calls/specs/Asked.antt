-- What one call to a peer does: one connection, one request, one response (RFC 9112 section 9.3; this product's own).
use Rattle.std.specs.Prelude.{ℕ, ◌≡◌, List, ◌∷◌, ◌++◌, take, Option, Some}
use Rattle.edge.specs.Connections.{Connection}
use Rattle.wire.specs.Heads.{Whole}
use Rattle.wire.specs.Responses.{ResponseLooks}
use Rattle.wire.specs.declared.message.HttpResponse.{HttpResponse}
use Rattle.calls.specs.declared.asked.Asked.{Asked}
use Rattle.calls.specs.declared.asked.Asked.TheVariants as asked

-- all that a peer gave on a connection, read and left
abbrev pub given : Connection → List ℕ
given connection = connection.read ++ connection.left

-- these bytes begin with this whole response
abbrev pub BeginsWith : List ℕ → HttpResponse → Type 0
BeginsWith bytes response = (size : ℕ) × ResponseLooks bytes (Whole response size)

-- what a call that connected wrote, and what it answers of what the peer gave
abbrev pub IsAnswered : List ℕ → Connection → Asked → Type 0
IsAnswered message connection asked.NotSent = ⊥
IsAnswered message connection asked.NoReply = (count : ℕ) × (connection.written ≡ take count message)
IsAnswered message connection (asked.Response response) = (connection.written ≡ message) × BeginsWith (given connection) response
IsAnswered message connection asked.NoResponse = (connection.written ≡ message) × ((response : HttpResponse) → BeginsWith (given connection) response → ⊥)
IsAnswered message connection asked.OutOfMemory = (connection.written ≡ message) × ((response : HttpResponse) × BeginsWith (given connection) response)

-- the connections told after a call: as before where none came about, else one more to this peer
abbrev pub HasAsked : List ℕ → List ℕ → List Connection → Option (List Connection) → Asked → Type 0
HasAsked peer message earlier told asked.NotSent = told ≡ Some earlier
HasAsked peer message earlier told outcome = (connection : Connection) × (told ≡ Some (connection ∷ earlier)) × (connection.peer ≡ peer) × IsAnswered message connection outcome
