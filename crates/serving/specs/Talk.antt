-- What is said on one connection: its messages are answered one after another, then a rest that is refused (RFC 9112 section 9.3; this product's own).
use Rattle.std.specs.Prelude.{ℕ, ◌≡◌, ◌≢◌, ◌≤◌, ◌⊎◌, ◌==◌, Bool, true, false, not, ◌&&◌, ◌||◌, List, [], ◌∷◌, ◌++◌, length, take, drop, Option, Some, Result, Ok, Err, OnOk, is_ok, option_map}
use Rattle.edge.specs.Connections.{Connection, after_write, has_failed}
use Rattle.edge.specs.declared.traits.Failed.{Failed}
use Rattle.units.specs.declared.memory.OutOfMemory.{OutOfMemory}
use Rattle.wire.specs.Heads.{Whole, Bad, More}
use Rattle.wire.specs.Requests.{RequestLooks}
use Rattle.wire.specs.declared.message.HttpRequest.{HttpRequest}
use Rattle.wire.specs.declared.refusal.WireRefusal.{WireRefusal}
use Rattle.wire.specs.declared.refusal.WireRefusal.TheVariants.{OutOfMemory as WireMemory}
use Rattle.serving.specs.Sides.{Meaning}
use Rattle.serving.specs.Texts.{no_memory, refusal_text}
use Rattle.serving.specs.declared.response.Response.{Response}

-- a message as it was given to the handler, and what came of it
pub record Turn : Type 0 where
  pub message : HttpRequest
  pub answer : Result Response OutOfMemory

-- a message is given as it is read; the 1,000th ends its connection
abbrev pub as_given : ℕ → HttpRequest → HttpRequest
as_given earlier message = record message { close = message.close || (earlier == 999) }

-- the text that answers a message
abbrev pub answer_text : Bool → Result Response OutOfMemory → List ℕ
answer_text close (Ok response) = response.bytes
answer_text close (Err memory) = no_memory close

-- all that turns say; the newest is the first in the list and the last in the text
abbrev pub said : List Turn → List ℕ
said [] = []
said (turn ∷ earlier) = said earlier ++ answer_text turn.message.close turn.answer

-- the newest message ends the connection
abbrev pub closes : List Turn → Bool
closes [] = false
closes (turn ∷ earlier) = turn.message.close

-- a rest is refused, and these are the words of its response
abbrev pub IsRefused : List ℕ → List ℕ → Type 0
IsRefused rest words = (refusal : WireRefusal) × RequestLooks rest (Bad refusal) × (words ≡ refusal_text refusal)

-- nothing more is to come of this rest: it is refused, or it is no whole message and, unless a read failed, all that the peer gave
abbrev pub IsOver : List ℕ → List ℕ → Connection → Type 0
IsOver rest words connection = IsRefused rest words ⊎ (RequestLooks rest More × (words ≡ []) × (connection.read_failed ≡ false → connection.left ≡ []))

-- some of these bytes were written from the front, all of them where the call went well
pub record HasWritten (bytes : List ℕ) (wrote : Result (Unit {0}) Failed) (all all_now : Option (List Connection)) : Type 0 where
  pub count : ℕ
  pub within : count ≤ length bytes
  pub whole : OnOk wrote (count ≡ length bytes)
  pub connections : all_now ≡ option_map (after_write (take count bytes) (has_failed wrote)) all

-- the response to a rest of which no message was read, as far as it was written; where memory was wanting nothing was done
abbrev pub HasRefused : WireRefusal → Result Bool OutOfMemory → Option (List Connection) → Option (List Connection) → Type 0
HasRefused refusal (Ok true) all all_now = ⊥
HasRefused refusal (Ok false) all all_now = (refusal ≢ WireMemory) × ((wrote : Result (Unit {0}) Failed) × HasWritten (refusal_text refusal) wrote all all_now)
HasRefused refusal (Err memory) all all_now = (refusal ≡ WireMemory) × (all_now ≡ all)

module _ {S : Type 0} (meaning : Meaning S) where
  -- another message is read: none ended the connection, and the node was not fenced
  abbrev pub goes_on : List Turn → S → Bool
  goes_on turns state = not (closes turns) && not (meaning.stops state)

  -- one more turn: the bytes that are left begin with a message, which is handled
  pub record IsTurn (earlier : List Turn) (before : S) (left : List ℕ) (turn : Turn) (state : S) (rest : List ℕ) : Type 0 where
    pub goes : goes_on earlier before ≡ true
    pub message : HttpRequest
    pub size : ℕ
    pub stands : RequestLooks left (Whole message size)
    pub after : rest ≡ drop size left
    pub given : turn.message ≡ as_given (length earlier) message
    pub answered : meaning.gives before turn.message turn.answer state

  -- from this side, of these bytes, these turns lead to that side, and leave these bytes
  abbrev pub Talk : S → List ℕ → List Turn → S → List ℕ → Type 0
  Talk start bytes [] state rest = (state ≡ start) × (rest ≡ bytes)
  Talk start bytes (turn ∷ earlier) state rest = (before : S) × (left : List ℕ) × Talk start bytes earlier before left × IsTurn earlier before left turn state rest

  -- A connection, from the side on which it came to the one on which it was done with. What was written is a part, from the
  -- front, of what its turns say and of the response to a rest that is refused. Where serving was not out of memory and no
  -- write failed, it is all of that, and where neither a message nor the node ended the connection, nothing more was to come.
  pub record Conversation (finished : Bool) (start : S) (connection : Connection) (state : S) : Type 0 where
    pub turns : List Turn
    pub rest : List ℕ
    pub talk : Talk start connection.read turns state rest
    pub words : List ℕ
    pub last : (words ≡ []) ⊎ ((goes_on turns state ≡ true) × IsRefused rest words)
    pub count : ℕ
    pub part : connection.written ≡ take count (said turns ++ words)
    pub whole : finished ≡ true → connection.write_failed ≡ false → (connection.written ≡ said turns ++ words) × (goes_on turns state ≡ true → IsOver rest words connection)

  -- a conversation that goes on
  pub record IsTalking (start : S) (connection : Connection) (turns : List Turn) (state : S) (held : List ℕ) : Type 0 where
    pub talk : Talk start connection.read turns state held
    pub goes : goes_on turns state ≡ true
    pub told : connection.written ≡ said turns
    pub read_well : connection.read_failed ≡ false
    pub written_well : connection.write_failed ≡ false

  -- one message was given to the handler, and its answer written as far as that went
  pub record HasAnswered (count : ℕ) (message : HttpRequest) (before : S) (goes : Bool) (state : S) (all all_now : Option (List Connection)) : Type 0 where
    pub turn : Turn
    pub given : turn.message ≡ as_given count message
    pub answered : meaning.gives before turn.message turn.answer state
    pub wrote : Result (Unit {0}) Failed
    pub text : HasWritten (answer_text turn.message.close turn.answer) wrote all all_now
    pub still : goes ≡ (is_ok wrote && (not turn.message.close && not (meaning.stops state)))

  -- after one more message: the conversation goes on, or is over, or memory was wanting
  abbrev pub AfterNext : S → List Turn → List Connection → Result Bool OutOfMemory → S → List ℕ → Option (List Connection) → Type 0
  AfterNext start turns others (Ok true) state held told = (turn : Turn) × (present : Connection) × (told ≡ Some (present ∷ others)) × IsTalking start present (turn ∷ turns) state held
  AfterNext start turns others (Ok false) state held told = (present : Connection) × (told ≡ Some (present ∷ others)) × Conversation true start present state
  AfterNext start turns others (Err memory) state held told = (present : Connection) × (told ≡ Some (present ∷ others)) × Conversation false start present state
