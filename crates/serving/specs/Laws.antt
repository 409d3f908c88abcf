-- What follows of conversations for every handler (this product's own).
use Rattle.std.specs.Prelude.{ℕ, ◌+◌, ◌-◌, ◌^◌, ◌≡◌, ◌≤◌, min, Bool, true, false, List, [], ◌∷◌, ◌++◌, Result, cond}
use Rattle.edge.specs.Connections.{Connection}
use Rattle.edge.specs.Faults.{CountRose}
use Rattle.units.specs.declared.memory.OutOfMemory.{OutOfMemory}
use Rattle.wire.specs.declared.message.HttpRequest.{HttpRequest}
use Rattle.serving.specs.Sides.{Meaning}
use Rattle.serving.specs.Talk.{Conversation, Talk, Turn}
use Rattle.serving.specs.declared.response.Response.{Response}

-- all that a peer gave on a connection, read and left
abbrev pub stream : Connection → List ℕ
stream connection = connection.read ++ connection.left

-- no call on the connection failed
abbrev pub WentWell : Connection → Type 0
WentWell connection = (connection.read_failed ≡ false) × (connection.write_failed ≡ false)

-- a message on one side is answered in one way
abbrev pub IsOneWay : {S : Type 0} → Meaning S → Type 0
IsOneWay {S} meaning = (side : S) (message : HttpRequest) (a b : Result Response OutOfMemory) (next other : S) → meaning.gives side message a next → meaning.gives side message b other → (a ≡ b) × (next ≡ other)

-- how the stream was cut into reads does not matter: two conversations of one stream, neither of which failed, say the same and end on the same side
abbrev pub SaysTheSame : {S : Type 0} → Meaning S → Type 0
SaysTheSame {S} meaning = IsOneWay meaning → (start next other : S) (a b : Connection) → Conversation meaning true start a next → Conversation meaning true start b other
    → stream a ≡ stream b → WentWell a → WentWell b → (a.written ≡ b.written) × (next ≡ other)

-- the count has risen by at least so many, or stands at its type's end
abbrev pub CountRoseBy : ℕ → ℕ → ℕ → Type 0
CountRoseBy times before now = min (before + times) (2 ^ 64 - 1) ≤ now

-- how many turns are of a kind
abbrev pub count_of : (Turn → Bool) → List Turn → ℕ
count_of test [] = 0
count_of test (turn ∷ turns) = count_of test turns + cond (test turn) 1 0

-- where each turn of a kind has a fault of its own, there are at most as many of them as the count rose by
abbrev pub CountsFaults : {S : Type 0} → Meaning S → Type 0
CountsFaults {S} meaning = (faults : S → ℕ) (test : Turn → Bool)
    → ((before : S) (turn : Turn) (after : S) → meaning.gives before turn.message turn.answer after → (faults before ≤ faults after) × (test turn ≡ true → CountRose (faults before) (faults after)))
    → (start : S) (bytes : List ℕ) (turns : List Turn) (state : S) (rest : List ℕ) → Talk meaning start bytes turns state rest → CountRoseBy (count_of test turns) (faults start) (faults state)
