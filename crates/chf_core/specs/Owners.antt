-- Whose the reservations of sessions are (this product's own).
use Rattle.std.specs.Prelude.{◌≡◌, Some, IfSome, option_map}
use Rattle.std.specs.FinMap as map
use Rattle.accounts.specs.declared.reservation.Key.{Key}
use Rattle.chf_core.specs.declared.session.Session.{Session}
use Rattle.chf_core.specs.State.{State, session_at}

-- each reservation is of the account of its session
abbrev pub IsOwned : State → Type 0
IsOwned s = (k : Key) → IfSome (map.get s.money.reservations k)
    (λ r. option_map (λ (z : Session). z.account) (session_at s k.session) ≡ Some r.account)
