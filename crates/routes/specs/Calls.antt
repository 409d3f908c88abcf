-- Which method of which path is which call (TS 32.291, 6.1.3; TS 29.594, 5.3).
use Rattle.std.specs.Prelude.{ℕ, bytes_eq, List, Option, Some, None, Result, Ok, Err, if◌then◌else◌, codes}
use Rattle.units.specs.declared.request.Operation.TheVariants as operation
use Rattle.routes.specs.declared.place.Place.{Place}
use Rattle.routes.specs.declared.place.Place.TheVariants.{Sessions, Update, Release, Subscriptions, Subscription}
use Rattle.routes.specs.declared.call.Call.{Call}
use Rattle.routes.specs.declared.call.Call.TheVariants.{Charge, Subscribe, Modify, Unsubscribe}
use Rattle.routes.specs.declared.call.NoCall.{NoCall}
use Rattle.routes.specs.declared.call.NoCall.TheVariants.{NoPath, NoMethod}
use Rattle.routes.specs.Paths.{place_at}

-- a call that one method alone makes
abbrev pub by_one : List ℕ → List ℕ → Call → Option Call
by_one method own call = if bytes_eq method own then Some call else None

-- the call of a method at a place
abbrev pub call_at : List ℕ → Place → Option Call
call_at method Sessions = by_one method (codes "POST") (Charge operation.Create)
call_at method (Update reference) = by_one method (codes "POST") (Charge (operation.Update reference))
call_at method (Release reference) = by_one method (codes "POST") (Charge (operation.Release reference))
call_at method Subscriptions = by_one method (codes "POST") Subscribe
call_at method (Subscription id) = if bytes_eq method (codes "PUT") then Some (Modify id) else by_one method (codes "DELETE") (Unsubscribe id)

-- a place is asked by its methods alone
abbrev pub or_no_method : Option Call → Result Call NoCall
or_no_method None = Err NoMethod
or_no_method (Some call) = Ok call

-- a path that names no place is unknown
abbrev pub call_by : List ℕ → Option Place → Result Call NoCall
call_by method None = Err NoPath
call_by method (Some place) = or_no_method (call_at method place)

-- the call of a method and a path, or why it is none: the path is looked at first
abbrev pub call_of : List ℕ → List ℕ → Result Call NoCall
call_of method path = call_by method (place_at path)

-- the status of a response to what is no call (RFC 9110, 15.5.5 and 15.5.6)
abbrev pub status_of : NoCall → ℕ
status_of NoPath = 404
status_of NoMethod = 405
