-- Use within a grant: what a session's rating group used since its latest grant, while that grant stands (TS 32.290, 5.2.2; this product's own).
use Rattle.std.specs.Prelude.{◌≡◌, ℕ, ◌+◌, ◌≤◌, ◌==◌, ◌&&◌, ◌||◌, not, Bool, true, false, cond, if◌then◌else◌, List, [], ◌∷◌, ◌++◌, Option, Some, None, is_some}
use Rattle.std.specs.List.{list_any}
use Rattle.units.specs.declared.answer.Code.TheVariants.{Success}
use Rattle.units.specs.declared.request.Used.{Used}
use Rattle.units.specs.declared.request.UnitUsage.{UnitUsage}
use Rattle.units.specs.declared.request.Request.{Request}
use Rattle.rating.specs.declared.terms.Kind.{Kind}
use Rattle.rating.specs.declared.grant.Grant.{Grant}
use Rattle.rating.specs.Tariff.{GroupTariff, tariff}
use Rattle.rating.specs.Grammar.{first_bad}
use Rattle.rating.specs.Price.{price}
use Rattle.rating.specs.Laws.{units_used}
use Rattle.accounts.specs.Reservations.{at}
use Rattle.accounts.specs.Endings.{is_passed}
use Rattle.accounts.specs.Ledger.{State, free, uncovered}
use Rattle.sessions.specs.Kept.{is_release}
use Rattle.chf_core.specs.declared.target.Target.{Target}
use Rattle.chf_core.specs.declared.target.GroupAsk.{GroupAsk}
use Rattle.chf_core.specs.declared.command.Command.{Command}
use Rattle.chf_core.specs.declared.command.Command.TheVariants.{Setup, Charge, Expire}
use Rattle.chf_core.specs.Operator.{setup_of}
use Rattle.chf_core.specs.Effect.{Rating, gives_back, asks_of, granted, with_grant, deadline_of, settled, charged_used, charged}
use Rattle.chf_core.specs.Money.{money, rates_in, rating_of, target_of}

-- what a group is granted among those that ask, each after the grants before it
abbrev pub grant_among : Rating → Target → ℕ → ℕ → List GroupAsk → State → Option Grant
grant_among rating t stamp group [] s = None
grant_among rating t stamp group (a ∷ asks) s =
    cond (a.group == group) (Some (granted rating (free s t.account) a)) (grant_among rating t stamp group asks (with_grant rating t stamp a (granted rating (free s t.account) a) s))

-- what a request is granted for a group, after the commands before it
abbrev pub grant_in : List Command → Request → Target → ℕ → Option Grant
grant_in before q t group = grant_among (rating_of before q) t q.stamp group (asks_of q.usage) (settled (rating_of before q) t q.usage (money before))

-- a request of a session, other than its Release, was granted units for a group
pub record IsGranted (before : List Command) (q : Request) (t : Target) (group : ℕ) (g : Grant) : Type 0 where
  pub target : target_of before q ≡ Some t
  pub grant : grant_in before q t group ≡ Some g
  pub success : g.code ≡ Success
  pub goes_on : is_release q.operation ≡ false

-- whether an entry ends the grant of a group: it asks anew, or gives back
abbrev pub ends_grant : ℕ → UnitUsage → Bool
ends_grant group u = u.group == group && (is_some u.ask || gives_back u)

-- whether a request leaves it: it is of another session, or has no such entry and is no Release
abbrev pub request_leaves : ℕ → ℕ → Request → Option Target → Bool
request_leaves session group q None = true
request_leaves session group q (Some t) = if t.session == session then not (list_any (ends_grant group) q.usage) && not (is_release q.operation) else true

-- whether a command leaves it: an Expire at or after its deadline does not, nor other tariffs
abbrev pub command_leaves : ℕ → ℕ → Option ℕ → List Command → Command → Bool
command_leaves session group deadline before (Setup setup) = false
command_leaves session group deadline before (Charge q) = request_leaves session group q (target_of before q)
command_leaves session group deadline before (Expire moment) = not (is_passed moment deadline)
command_leaves session group deadline before other = true

-- whether each of the later commands leaves it
abbrev pub grant_stands : ℕ → ℕ → Option ℕ → List Command → List Command → Bool
grant_stands session group deadline [] before = true
grant_stands session group deadline (c ∷ later) before = command_leaves session group deadline (later ++ before) c && grant_stands session group deadline later before

-- the units of containers: octets up and down together, or seconds
abbrev pub units_of_used : Kind → List Used → ℕ
units_of_used kind [] = 0
units_of_used kind (c ∷ used) = units_used kind c.up c.down c.seconds + units_of_used kind used

-- the units of a group in the entries of a request
abbrev pub units_in : Kind → ℕ → List UnitUsage → ℕ
units_in kind group [] = 0
units_in kind group (u ∷ usage) = (if u.group == group then units_of_used kind u.used else 0) + units_in kind group usage

-- the units that a request uses of one group of one session
abbrev pub units_for : Kind → ℕ → ℕ → Request → Option Target → ℕ
units_for kind session group q None = 0
units_for kind session group q (Some t) = if t.session == session then units_in kind group q.usage else 0

-- the units of a session's group in all of the later commands
abbrev pub units_since : Kind → ℕ → ℕ → List Command → List Command → ℕ
units_since kind session group [] before = 0
units_since kind session group (Charge q ∷ later) before = units_since kind session group later before + units_for kind session group q (target_of (later ++ before) q)
units_since kind session group (c ∷ later) before = units_since kind session group later before

-- what is owed of the container that a request charges after these entries and these containers of its own entry
abbrev pub owed_of : List (List (List ℕ)) → Target → List UnitUsage → ℕ → List Used → Used → State → ℕ
owed_of rates t earlier group first c s = uncovered (charged_used rates t group first (charged rates t earlier s)) t.account (at t.session group) (price rates group c.up c.down c.seconds c.first)

-- a container that is charged after a grant: the commands before the request that was granted, that request and the commands after it; whom
-- it charges; the group, its tariff and what it was granted; and, of the request that has the container, the entries and containers before it
pub record Use : Type 0 where
  pub before : List Command
  pub request : Request
  pub later : List Command
  pub target : Target
  pub group : ℕ
  pub terms : GroupTariff
  pub grant : Grant
  pub entries : List UnitUsage
  pub containers : List Used
  pub container : Used

-- the commands before it is charged
abbrev pub commands_before : Use → List Command
commands_before u = u.later ++ Charge u.request ∷ u.before

-- the units that are charged since the grant, its own with them
abbrev pub units_charged : Use → ℕ
units_charged u =
    units_since u.terms.terms.kind u.target.session u.group u.later (Charge u.request ∷ u.before)
    + (units_in u.terms.terms.kind u.group u.entries
    + units_of_used u.terms.terms.kind (u.containers ++ u.container ∷ []))

-- what is owed of it
abbrev pub owed : Use → ℕ
owed u =
    owed_of (rates_in (setup_of (commands_before u))) u.target u.entries u.group u.containers u.container
    (money (commands_before u))

-- it is within the grant: the setup's rows are a tariff, in which the group has these terms; the request was granted; the grant stands; and
-- the units that are charged since are within those granted
pub record IsWithinGrant (u : Use) : Type 0 where
  pub sound : first_bad [] (rates_in (setup_of u.before)) ≡ None
  pub rated : tariff (rates_in (setup_of u.before)) u.group ≡ Some u.terms
  pub granted : IsGranted u.before u.request u.target u.group u.grant
  pub stands :
      grant_stands u.target.session u.group (deadline_of (rating_of u.before u.request) u.request.stamp u.group)
      u.later (Charge u.request ∷ u.before) ≡ true
  pub within : units_charged u ≤ u.grant.units

-- Use within a grant owes nothing.
abbrev pub UseWithinGrantsOwesNothing : Type 0
UseWithinGrantsOwesNothing = (u : Use) → IsWithinGrant u → owed u ≡ 0
