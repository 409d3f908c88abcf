-- The table of the paths as a router keeps it, and the place of each (this product's own).
use Rattle.std.specs.Prelude.{ℕ, ◌+◌, List, [], ◌∷◌, ◌++◌, length, take, drop, Option, Some, None, codes}
use Rattle.matchit.specs.Rows.{RowsOf, param_token}
use Rattle.matchit.specs.Seek.{first}
use Rattle.matchit.specs.Router.{RouteOf}
use Rattle.rows.specs.Pieces.{piece_length}
use Rattle.routes.specs.declared.place.Place.{Place}
use Rattle.routes.specs.declared.place.Place.TheVariants as place
use Rattle.routes.specs.declared.place.Route.{Route}
use Rattle.routes.specs.declared.place.Route.TheVariants.{Sessions, Update, Release, Subscriptions, Subscription}
use Rattle.routes.specs.Paths.{number_in, sessions, subscriptions}

-- the collection of charging sessions
abbrev pub sessions_row : RouteOf Route
sessions_row = record { pattern = sessions; text = sessions; names = []; value = Sessions }

-- the update of a session
abbrev pub update_row : RouteOf Route
update_row = record { pattern = sessions ++ 47 ∷ param_token ∷ codes "/update"; text = sessions ++ codes "/{reference}/update"; names = (41, 50) ∷ []; value = Update }

-- the release of a session
abbrev pub release_row : RouteOf Route
release_row = record { pattern = sessions ++ 47 ∷ param_token ∷ codes "/release"; text = sessions ++ codes "/{reference}/release"; names = (41, 50) ∷ []; value = Release }

-- the collection of subscriptions to spending limits
abbrev pub subscriptions_row : RouteOf Route
subscriptions_row = record { pattern = subscriptions; text = subscriptions; names = []; value = Subscriptions }

-- a subscription
abbrev pub subscription_row : RouteOf Route
subscription_row = record { pattern = subscriptions ++ 47 ∷ param_token ∷ []; text = subscriptions ++ codes "/{id}"; names = (45, 47) ∷ []; value = Subscription }

-- the rows in the router's order: the first byte that differs decides, and what goes on comes first
abbrev pub table : RowsOf (RouteOf Route)
table =
    (release_row.pattern, release_row) ∷ (update_row.pattern, update_row) ∷ (sessions_row.pattern, sessions_row)
    ∷ (subscription_row.pattern, subscription_row) ∷ (subscriptions_row.pattern, subscriptions_row) ∷ []

-- the route of a row that was found
abbrev pub route_of : Option (RouteOf Route) → Option Route
route_of None = None
route_of (Some row) = Some row.value

-- the route that a path takes
abbrev pub route_in : List ℕ → Option Route
route_in path = route_of (first table path)

-- a text up to its first slash
abbrev pub first_piece : List ℕ → List ℕ
first_piece text = take (piece_length 47 text) text

-- the name that follows a collection and a slash
abbrev pub name_after : List ℕ → List ℕ → List ℕ
name_after collection path = first_piece (drop (length collection + 1) path)

-- the place that a path of a route names
abbrev pub place_by : Route → List ℕ → Place
place_by Sessions path = place.Sessions
place_by Update path = place.Update (number_in (name_after sessions path))
place_by Release path = place.Release (number_in (name_after sessions path))
place_by Subscriptions path = place.Subscriptions
place_by Subscription path = place.Subscription (number_in (name_after subscriptions path))
