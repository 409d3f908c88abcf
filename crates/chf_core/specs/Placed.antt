-- Kept requests in the order of their places. No public clause names these.
use Rattle.std.specs.Prelude.{ℕ, ◌+◌, ◌<◌, ◌≤◌, ◌==◌, cond, List, [], ◌∷◌, Option, Some, None}
use Rattle.chf_core.specs.declared.kept_request.KeptRequest.{KeptRequest}

-- each place is at least this one, and above those before it
abbrev pub AreAscending : ℕ → List KeptRequest → Type 0
AreAscending least [] = Unit {0}
AreAscending least (r ∷ requests) = (least ≤ r.place) × AreAscending (r.place + 1) requests

-- each place is below this one
abbrev pub AreBelow : ℕ → List KeptRequest → Type 0
AreBelow place [] = Unit {0}
AreBelow place (r ∷ requests) = (r.place < place) × AreBelow place requests

-- a request, where it is kept at this place
abbrev pub if_at : ℕ → Option KeptRequest → Option KeptRequest
if_at place None = None
if_at place (Some r) = cond (r.place == place) (Some r) None
