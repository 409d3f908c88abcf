-- The moves of money that a command makes, the first one first, worked out once from the state before it; and what a
-- reply says of the grants among them (charging with reservation of units: TS 32.290, 5.2.2 and 5.3.2; the order and
-- the rules are this product's own).
use Rattle.std.specs.Prelude.{ℕ, ◌||◌, if◌then◌else◌, List, [], ◌∷◌, ◌++◌, map as each, length, Option, Some, None, is_some}
use Rattle.std.specs.List.{flat_map}
use Rattle.units.specs.declared.answer.UnitInfo.{UnitInfo}
use Rattle.units.specs.declared.request.Operation.{Operation}
use Rattle.units.specs.declared.request.Operation.TheVariants.{Create, Update, Release}
use Rattle.units.specs.declared.request.Used.{Used}
use Rattle.units.specs.declared.request.UnitUsage.{UnitUsage}
use Rattle.units.specs.declared.request.Request.{Request}
use Rattle.rating.specs.declared.grant.Grant.{Grant}
use Rattle.rating.specs.Price.{price}
use Rattle.accounts.specs.Ledger.{State as Money, free}
use Rattle.accounts.specs.declared.moves.Move.{Move}
use Rattle.accounts.specs.declared.moves.Move.TheVariants.{Added, ToppedUp, Charged, Reserved, Released, ReleasedAll, Expired}
use Rattle.accounts.specs.Moves.{after}
use Rattle.accounts.specs.Making.{made}
use Rattle.chf_core.specs.declared.target.Target.{Target}
use Rattle.chf_core.specs.declared.target.GroupAsk.{GroupAsk}
use Rattle.chf_core.specs.declared.command.Command.{Command}
use Rattle.chf_core.specs.declared.command.Command.TheVariants.{Charge, Subscriber, TopUp, Expire}
use Rattle.chf_core.specs.Operator.{barred_in}
use Rattle.chf_core.specs.Sessions.{supi_of}
use Rattle.chf_core.specs.Effect.{Rating, rating_by, gives_back, asks_of, granted, deadline_of, info_of}
use Rattle.chf_core.specs.Money.{rates_in, grace_in, opened_target, named_target, supi_in}
use Rattle.chf_core.specs.State.{State, at_text, account_named, account_for, session_at}

-- ---- whom a request charges, and by what it is rated

-- the account of the Create's subscriber under the next reference, or that of the session (this product's own)
abbrev pub target_by : Operation → State → Request → Option Target
target_by Create s q = opened_target (length s.sessions) (account_for s q.subscriber)
target_by (Update reference) s q = named_target reference (session_at s reference)
target_by (Release reference) s q = named_target reference (session_at s reference)

-- whom a request charges: the account of its session, which a Create opens where its subscriber has an account
abbrev pub target_of : State → Request → Option Target
target_of s q = target_by q.operation s q

-- the subscriber whose row bars groups: that of the session's Create (this product's own)
abbrev pub supi_by : Operation → State → Request → List ℕ
supi_by Create s q = supi_of q.subscriber
supi_by (Update reference) s q = supi_in (session_at s reference)
supi_by (Release reference) s q = supi_in (session_at s reference)

-- the tariffs' rows, the grace and the barred groups by which a request is rated
abbrev pub rating_of : State → Request → Rating
rating_of s q =
    rating_by (rates_in s.setup) (grace_in s.setup) (barred_in (at_text s.subscribers (supi_by q.operation s q)))

-- ---- the moves of a request

-- a container is charged, at its price at its first moment
abbrev pub charge_of : List (List (List ℕ)) → Target → ℕ → Used → Move
charge_of rates t group c = Charged t.account t.session group c.lsn (price rates group c.up c.down c.seconds c.first)

-- so each container, entry by entry
abbrev pub charges : List (List (List ℕ)) → Target → List UnitUsage → List Move
charges rates t usage = flat_map (λ u. each (charge_of rates t u.group) u.used) usage

-- the quota of the group of an entry that asks or gives back is given back
abbrev pub release_of : Target → UnitUsage → List Move
release_of t u = if is_some u.ask || gives_back u then Released t.session u.group ∷ [] else []

-- so for each entry
abbrev pub releases : Target → List UnitUsage → List Move
releases t usage = flat_map (release_of t) usage

-- what comes before the grants: the charges, then the releases
abbrev pub settling : Rating → Target → List UnitUsage → List Move
settling rating t usage = charges rating.rates t usage ++ releases t usage

-- a grant is set aside until its deadline
abbrev pub reserve_of : Rating → Target → ℕ → GroupAsk × Grant → Move
reserve_of rating t stamp g = Reserved t.account t.session g.0.group g.1.reserve (deadline_of rating stamp g.0.group)

-- what each group that asks is granted, out of what the grants before it leave free
abbrev pub grants : Rating → Target → ℕ → List GroupAsk → Money → List (GroupAsk × Grant)
grants rating t stamp [] s = []
grants rating t stamp (a ∷ asks) s =
    let one : GroupAsk × Grant = (a, granted rating (free s t.account) a) in
    one ∷ grants rating t stamp asks (after (reserve_of rating t stamp one) s)

-- what a request's groups are granted once it is settled
abbrev pub grants_for : Rating → Request → Target → Money → List (GroupAsk × Grant)
grants_for rating q t s = grants rating t q.stamp (asks_of q.usage) (made (settling rating t q.usage) s)

-- at last a Release gives back all of its session
abbrev pub closing : Operation → Target → List Move
closing (Release reference) t = ReleasedAll t.session ∷ []
closing other t = []

-- all moves of a request: none where it charges nobody
abbrev pub moves_for : Rating → Request → Money → Option Target → List Move
moves_for rating q s None = []
moves_for rating q s (Some t) =
    settling rating t q.usage ++ (each (reserve_of rating t q.stamp) (grants_for rating q t s) ++ closing q.operation t)

-- ---- the moves of each command

-- an account comes to be with the first row that names it (this product's own)
abbrev pub adding : Option ℕ → List Move
adding None = Added ∷ []
adding (Some number) = []

-- an amount is topped up (this product's own)
abbrev pub topping : ℕ → Option ℕ → List Move
topping amount None = []
topping amount (Some account) = ToppedUp account amount ∷ []

-- what a command does to the money; a setup does nothing
abbrev pub moves_of : State → Command → List Move
moves_of s (Charge q) = moves_for (rating_of s q) q s.money (target_of s q)
moves_of s (Subscriber supi account barred) = adding (account_named s account)
moves_of s (TopUp id account amount) = topping amount (account_named s account)
moves_of s (Expire moment) = Expired moment ∷ []
moves_of s other = []

-- ---- what a reply says of the grants

-- of one group
abbrev pub info_for : Rating → ℕ → GroupAsk × Grant → UnitInfo
info_for rating stamp g = info_of rating stamp g.0 g.1

-- of each group that asks
abbrev pub infos_for : Rating → Request → Money → Option Target → List UnitInfo
infos_for rating q s None = []
infos_for rating q s (Some t) = each (info_for rating q.stamp) (grants_for rating q t s)
