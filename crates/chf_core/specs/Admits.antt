-- What stands for what a request charges: how many containers it has, whose the reservations of its session are, and that
-- none stands for groups that ask (this product's own).
use Rattle.std.specs.Prelude.{◌≡◌, ℕ, ◌+◌, ◌==◌, false, List, [], ◌∷◌, length, None, IfSome}
use Rattle.std.specs.FinMap as map
use Rattle.units.specs.declared.request.UnitUsage.{UnitUsage}
use Rattle.accounts.specs.Reservations.{at}
use Rattle.accounts.specs.Ledger.{State}
use Rattle.chf_core.specs.declared.target.Target.{Target}
use Rattle.chf_core.specs.declared.target.GroupAsk.{GroupAsk}

-- how many containers there are
abbrev pub containers : List UnitUsage → ℕ
containers [] = 0
containers (u ∷ usage) = length u.used + containers usage

-- each reservation of the session is of the account
abbrev pub OwnsAll : Target → State → Type 0
OwnsAll t s = (group : ℕ) → IfSome (map.get s.reservations (at t.session group)) (λ r. r.account ≡ t.account)

-- none of these groups is that one
abbrev pub Differ : ℕ → List GroupAsk → Type 0
Differ group [] = Unit {0}
Differ group (a ∷ asks) = ((group == a.group) ≡ false) × Differ group asks

-- no reservation of these groups stands, and no group is there twice
abbrev pub AreClear : Target → List GroupAsk → State → Type 0
AreClear t [] s = Unit {0}
AreClear t (a ∷ asks) s = (map.get s.reservations (at t.session a.group) ≡ None) × (Differ a.group asks × AreClear t asks s)
