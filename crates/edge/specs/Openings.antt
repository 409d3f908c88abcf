-- What opening a connection makes of what a door or a link tells (this product's own).
use Rattle.std.specs.Prelude.{ℕ, ◌≡◌, Bool, not, false, ⊤, List, [], ◌∷◌, length, Option, Some, None, is_some, option_map, option_and_then, nat_le, if◌then◌else◌}
use Rattle.edge.specs.Faults.{next_count}
use Rattle.edge.specs.Connections.{Connection, Openings}

-- a connection that was just opened, with all its bytes to come
abbrev pub opened : List ℕ → List ℕ → Connection
opened peer bytes = record { peer = peer; read = []; left = bytes; written = []; read_failed = false; write_failed = false }

-- the connections told have one more in front, just opened to this peer
abbrev pub HasOpened : List ℕ → Option (List Connection) → Option (List Connection) → Type 0
HasOpened peer None now = now ≡ None
HasOpened peer (Some earlier) now = (bytes : List ℕ) × (now ≡ Some (opened peer bytes ∷ earlier))

-- a door's answer, whether a connection came: exactly where the door is not closed, if it tells that
abbrev pub AnswersDoor : Option Bool → Bool → Type 0
AnswersDoor None came = ⊤
AnswersDoor (Some closed) came = came ≡ not closed

-- a door that told whether it is closed goes on telling it, and else its openings are as before
pub record HasLetIn (before now : Openings) : Type 0 where
  pub tells : is_some now.closed ≡ is_some before.closed
  pub rest : now ≡ record before { closed = now.closed }

-- the name of a peer is kept where it has at most 255 bytes
abbrev pub kept_peer : List ℕ → Option (List ℕ)
kept_peer peer = if nat_le (length peer) 255 then Some peer else None

-- what is told of a link's openings after one more connect to this peer, failed or not
abbrev pub after_connect : List ℕ → Openings → Openings
after_connect peer openings = record openings {
  connects = option_map next_count openings.connects;
  latest_peer = option_and_then (λ count. kept_peer peer) openings.connects;
}
