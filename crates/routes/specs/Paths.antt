-- The paths that a charging function answers (TS 32.291, 6.1.3; TS 29.594, 5.3; that nothing is decoded is this product's own).
use Rattle.std.specs.Prelude.{ℕ, ◌-◌, ◌^◌, ◌==◌, nat_lt, bytes_eq, Bool, List, [], ◌∷◌, length, take, drop, Option, Some, None, if◌then◌else◌, codes, unwrap_or}
use Rattle.rows.specs.Number.{number_of}
use Rattle.rows.specs.Pieces.{piece_length}
use Rattle.routes.specs.declared.place.Place.{Place}
use Rattle.routes.specs.declared.place.Place.TheVariants.{Sessions, Update, Release, Subscriptions, Subscription}

-- the collection of charging sessions
abbrev pub sessions : List ℕ
sessions = codes "/nchf-convergedcharging/v3/chargingdata"

-- the collection of subscriptions to spending limits
abbrev pub subscriptions : List ℕ
subscriptions = codes "/nchf-spendinglimitcontrol/v1/subscriptions"

-- the number that names a member of a collection: decimal digits without a leading zero, 1 to 2^32 - 1; another text counts as 0, which no member has
abbrev pub number_in : List ℕ → ℕ
number_in name = unwrap_or (number_of (2 ^ 32 - 1) name) 0

-- what a path has before its query
abbrev pub before_query : List ℕ → List ℕ
before_query path = take (piece_length 63 path) path

-- a text begins with another
abbrev pub begins_with : List ℕ → List ℕ → Bool
begins_with text front = bytes_eq (take (length front) text) front

-- what is done with a session: `/update` or `/release`
abbrev pub deed : ℕ → List ℕ → Option Place
deed reference text =
    if bytes_eq text (codes "/update") then Some (Update reference) else
    (if bytes_eq text (codes "/release") then Some (Release reference) else None)

-- a session's name of at least one byte, up to the next slash, and what is done with it
abbrev pub in_session : List ℕ → Option Place
in_session text = if nat_lt 0 (piece_length 47 text) then deed (number_in (take (piece_length 47 text) text)) (drop (piece_length 47 text) text) else None

-- what follows the collection of sessions: nothing, or a slash and a session
abbrev pub below_sessions : List ℕ → Option Place
below_sessions [] = Some Sessions
below_sessions (byte ∷ text) = if byte == 47 then in_session text else None

-- a subscription's name of at least one byte, without a slash
abbrev pub in_subscription : List ℕ → Option Place
in_subscription text = if nat_lt 0 (length text) then (if nat_lt (piece_length 47 text) (length text) then None else Some (Subscription (number_in text))) else None

-- what follows the collection of subscriptions: nothing, or a slash and a subscription
abbrev pub below_subscriptions : List ℕ → Option Place
below_subscriptions [] = Some Subscriptions
below_subscriptions (byte ∷ text) = if byte == 47 then in_subscription text else None

-- the place that a path without its query names
abbrev pub place_in : List ℕ → Option Place
place_in path =
    if begins_with path sessions then below_sessions (drop (length sessions) path) else
    (if begins_with path subscriptions then below_subscriptions (drop (length subscriptions) path) else None)

-- the place that a path names; its query is read past, and nothing is decoded
abbrev pub place_at : List ℕ → Option Place
place_at path = place_in (before_query path)
