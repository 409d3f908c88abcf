-- First replies are in the ranges of replies.
use Rattle.std.proofs.Common.{◌≡◌, ◌≤◌, ◌<◌, ◌==◌, ◌&&◌, ◌-◌, ◌^◌, ℕ, zero, suc, ◌+◌, Bool, true, false, nat_le, if◌then◌else◌, List, [], ◌∷◌, ◌++◌, length, slice_set, Option, Some, None, is_some, option_map, refl, ap, arith}
use Rattle.std.specs.List.{AllByRecursion}
use Rattle.std.proofs.lemmas.Bool.Decides.{nat_tests}
use Rattle.std.proofs.lemmas.List.{length-append}
use Rattle.units.specs.declared.request.Ask.{Ask}
use Rattle.units.specs.declared.request.Operation.{Operation}
use Rattle.units.specs.declared.request.Operation.TheVariants.{Create, Update, Release}
use Rattle.units.specs.declared.request.UnitUsage.{UnitUsage}
use Rattle.units.specs.declared.request.Request.{Request}
use Rattle.units.specs.Limits.{greatest_moment}
use Rattle.units.specs.Ranges.{Is32, IsMoment, IsVolume, IfGiven, FitsUsage, FitsRequest}
use Rattle.units.specs.ReplyRanges.{FitsAmount, FitsInfo, FitsAnswer, FitsReply}
use Rattle.rating.specs.declared.terms.Kind.{Kind}
use Rattle.rating.specs.declared.terms.Kind.TheVariants.{Volume, Time, Offline}
use Rattle.rating.specs.declared.terms.Terms.{Terms}
use Rattle.rating.specs.declared.period.Period.{Period}
use Rattle.rating.specs.declared.grant.Grant.{Grant}
use Rattle.rating.specs.Row.{AreSmall, most_chunk}
use Rattle.rating.specs.Tariff.{GroupTariff, tariff, periods}
use Rattle.rating.specs.Switch.{switch_after, in_range, soonest}
use Rattle.rating.specs.Grant.{grant, no_quota}
use Rattle.rating.specs.Laws.{TermsAreSmall, GrantsAreSmall}
use Rattle.units.specs.declared.answer.Code.TheVariants.{Denied}
use Rattle.accounts.specs.Ledger.{State, free}
use Rattle.chf_core.specs.declared.target.Target.{Target}
use Rattle.chf_core.specs.declared.target.GroupAsk.{GroupAsk}
use Rattle.chf_core.specs.declared.session.Session.{Session}
use Rattle.chf_core.specs.declared.command.Command.{Command}
use Rattle.chf_core.specs.declared.command.Command.TheVariants.{Charge}
use Rattle.chf_core.specs.Barring.{bars}
use Rattle.chf_core.specs.Sessions.{account_for, sessions, sessions_after, write_session, by_reference}
use Rattle.chf_core.specs.Effect.{Rating, mentions, first_ask, asking, asks_after, asks_of, settled, granted, with_grant, terms_of, positive, amount_of, for_volume, for_time, bare, quota_info, is_success, info_by, infos}
use Rattle.chf_core.specs.Money.{money, rating_of, target_of, infos_for, answer_of, created, reply_by, first_reply}

-- ---- groups that ask are those of entries

all_both : {X : Type 0} (P : X → Type 0) (xs ys : List X) → AllByRecursion P xs → AllByRecursion P ys
    → AllByRecursion P (xs ++ ys)
all_both P [] ys h g = g
all_both P (x ∷ xs) ys h g = (h.0, all_both P xs ys h.1 g)

abbrev pub AsksFit : GroupAsk → Type 0
AsksFit a = Is32 a.group

asking_fits : (group : ℕ) (o : Option Ask) → Is32 group → AllByRecursion AsksFit (asking group o)
asking_fits group None h = tt
asking_fits group (Some ask) h = (h, tt)

asks_fit : (earlier usage : List UnitUsage) → AllByRecursion FitsUsage usage
    → AllByRecursion AsksFit (asks_after earlier usage)
asks_fit earlier [] h = tt
asks_fit earlier (u ∷ usage) h =
    all_both AsksFit (if mentions earlier u.group then [] else asking u.group (first_ask u.group (u ∷ usage)))
    (asks_after (earlier ++ u ∷ []) usage)
    (by (mentions earlier u.group)) (asks_fit (earlier ++ u ∷ []) usage h.1)
  where
    by : (b : Bool) → AllByRecursion AsksFit (if b then [] else asking u.group (first_ask u.group (u ∷ usage)))
    by true = tt
    by false = asking_fits u.group (first_ask u.group (u ∷ usage)) h.0.number

-- ---- what is said of a group

amount_fits : (kind : Kind) (units : ℕ) → units ≤ most_chunk kind → FitsAmount (amount_of kind units)
amount_fits Volume units h = omega arith
amount_fits Time units h = omega arith
amount_fits Offline units h = omega arith

positive_fits : (P : ℕ → Type 0) (n : ℕ) → P n → IfGiven P (positive n)
positive_fits P n h = by (n == 0)
  where
    by : (b : Bool) → IfGiven P (if b then None else Some n)
    by true = tt
    by false = h

volume_fits : (kind : Kind) (o : Option ℕ) → IfGiven Is32 o → IfGiven IsVolume (for_volume kind o)
volume_fits Volume None h = tt
volume_fits Volume (Some n) h = omega arith
volume_fits Time o h = tt
volume_fits Offline o h = tt

time_fits : (kind : Kind) (o : Option ℕ) → IfGiven Is32 o → IfGiven Is32 (for_time kind o)
time_fits Volume o h = tt
time_fits Time o h = h
time_fits Offline o h = tt

moment_fits : (o : Option ℕ) → IfGiven IsMoment (in_range o)
moment_fits None = tt
moment_fits (Some m) = by (nat_le m greatest_moment) refl
  where
    by : (b : Bool) → nat_le m greatest_moment ≡ b → IfGiven IsMoment (if b then Some m else None)
    by true e = grind (arith, nat_tests)
    by false e = tt

switch_fits : (l : List Period) (stamp : ℕ) → IfGiven IsMoment (switch_after l stamp)
switch_fits l stamp = by (nat_le 2 (length l))
  where
    by : (b : Bool) → IfGiven IsMoment (if b then in_range (soonest stamp l) else None)
    by true = moment_fits (soonest stamp l)
    by false = tt

quota_fits : (rates : List (List (List ℕ))) (stamp group : ℕ) (t : Terms) (g : Grant) → Is32 group → AreSmall t
    → g.units ≤ t.chunk → FitsInfo (quota_info rates stamp group t g)
quota_fits rates stamp group t g n s l = record {
  number = n;
  granted = amount_fits t.kind g.units (let c = s.chunk in omega arith);
  switched = switch_fits (periods rates group) stamp;
  valid = positive_fits Is32 t.validity (let v = s.validity in omega arith);
  held = positive_fits Is32 t.holding (let v = s.holding in omega arith);
  octets = volume_fits t.kind (positive t.threshold) threshold;
  time = time_fits t.kind (positive t.threshold) threshold;
  rules = tt;
}
  where
    threshold : IfGiven Is32 (positive t.threshold)
    threshold = positive_fits Is32 t.threshold (let v = s.threshold in omega arith)

bare_fits : (group : ℕ) (code : _) → Is32 group → FitsInfo (bare group code)
bare_fits group code n = record {
  number = n;
  granted = tt;
  switched = tt;
  valid = tt;
  held = tt;
  octets = tt;
  time = tt;
  rules = tt;
}

module _ (terms : (rows : List (List (List ℕ))) → TermsAreSmall rows)
    (few : (rows : List (List (List ℕ))) → GrantsAreSmall rows) where
  -- a grant, denied or not, has at most a chunk
  granted_few : (rating : Rating) (money : ℕ) (a : GroupAsk) (t : GroupTariff) → tariff rating.rates a.group ≡ Some t
      → (granted rating money a).units ≤ t.terms.chunk
  granted_few rating money a t e = by (is_some (tariff rating.rates a.group) && bars rating.barred a.group)
    where
      by : (b : Bool) → (if b then no_quota Denied else grant rating.rates a.group money a.ask).units ≤ t.terms.chunk
      by true = omega arith
      by false = few rating.rates a.group money a.ask t e

  info_fits : (rating : Rating) (stamp money : ℕ) (a : GroupAsk) → Is32 a.group
      → FitsInfo (info_by rating.rates stamp a.group (granted rating money a) (terms_of rating.rates a.group))
  info_fits rating stamp money a n = by (tariff rating.rates a.group) refl
    where
      of : (t : GroupTariff) → tariff rating.rates a.group ≡ Some t → (b : Bool)
          → FitsInfo (if b then quota_info rating.rates stamp a.group t.terms (granted rating money a)
          else bare a.group (granted rating money a).code)
      of t e true =
          quota_fits rating.rates stamp a.group t.terms (granted rating money a) n (terms rating.rates a.group t e)
          (granted_few rating money a t e)
      of t e false = bare_fits a.group (granted rating money a).code n

      by : (o : Option GroupTariff) → tariff rating.rates a.group ≡ o
          → FitsInfo (info_by rating.rates stamp a.group (granted rating money a) (option_map (λ (t : GroupTariff). t.terms) o))
      by None e = bare_fits a.group (granted rating money a).code n
      by (Some t) e = of t e (is_success (granted rating money a).code)

  infos_fit : (rating : Rating) (t : Target) (stamp : ℕ) (asks : List GroupAsk) (s : State)
      → AllByRecursion AsksFit asks → AllByRecursion FitsInfo (infos rating t stamp asks s)
  infos_fit rating t stamp [] s h = tt
  infos_fit rating t stamp (a ∷ asks) s h = (
    info_fits rating stamp (free s t.account) a h.0,
    infos_fit rating t stamp asks (with_grant rating t stamp a (granted rating (free s t.account) a) s) h.1,
  )

  for_fit : (rating : Rating) (q : Request) (s : State) (o : Option Target) → FitsRequest q
      → AllByRecursion FitsInfo (infos_for rating q s o)
  for_fit rating q s None f = tt
  for_fit rating q s (Some t) f =
      infos_fit rating t q.stamp (asks_of q.usage) (settled rating t q.usage s) (asks_fit [] q.usage f.entries)

  answer_fits : (a : List Command) (q : Request) → FitsRequest q → FitsAnswer (answer_of a q)
  answer_fits a q f = record {
    stamped = f.stamped;
    numbered = f.numbered;
    rules = tt;
    entries = for_fit (rating_of a q) q (money a) (target_of a q) f;
  }

  -- a reference is within the commands
  created_fits : (a : List Command) (q : Request) (o : Option ℕ) → length (sessions a) < 2 ^ 32 - 1 → FitsRequest q
      → FitsReply (created a q o)
  created_fits a q None l f = record { not_created = refl; not_updated = refl; not_released = refl }
  created_fits a q (Some n) l f = (omega arith, omega arith, answer_fits a q f)

  reply_fits : (a : List Command) (q : Request) (o : Operation) → length (sessions a) < 2 ^ 32 - 1 → FitsRequest q
      → FitsReply (reply_by o a q)
  reply_fits a q Create l f = created_fits a q (account_for a q.subscriber) l f
  reply_fits a q (Update r) l f = answer_fits a q f
  reply_fits a q (Release r) l f = tt

-- ---- there are at most as many sessions as commands

length_written : {X : Type 0} (xs : List X) (i : ℕ) (y : X) → length (slice_set xs i y) ≡ length xs
length_written [] i y = refl
length_written (x ∷ xs) zero y = refl
length_written (x ∷ xs) (suc i) y = ap suc (length_written xs i y)

sessions_more : (o : Operation) (q : Request) (account : Option ℕ) (ss : List Session)
    → length (sessions_after o q account ss) ≤ length ss + 1
sessions_more Create q None ss = omega arith
sessions_more Create q (Some n) ss = omega (arith, length-append {A = Session})
sessions_more (Update r) q account ss = by (by_reference ss r)
  where
    by : (z : Option Session) → length (write_session ss r q.number true z) ≤ length ss + 1
    by None = omega arith
    by (Some z) = let e = length_written ss (r - 1) (record z { last = q.number; is_open = true }) in omega arith
sessions_more (Release r) q account ss = by (by_reference ss r)
  where
    by : (z : Option Session) → length (write_session ss r q.number false z) ≤ length ss + 1
    by None = omega arith
    by (Some z) = let e = length_written ss (r - 1) (record z { last = q.number; is_open = false }) in omega arith

sessions_few : (a : List Command) → length (sessions a) ≤ length a
sessions_few [] = omega arith
sessions_few (Charge q ∷ a) =
    let h = sessions_few a in
    let m = sessions_more q.operation q (account_for a q.subscriber) (sessions a) in omega arith
sessions_few (c ∷ a) = let h = sessions_few a in omega arith

pub first_replies_fit : ((rows : List (List (List ℕ))) → TermsAreSmall rows)
    → ((rows : List (List (List ℕ))) → GrantsAreSmall rows)
    → (a : List Command) (q : Request) → length a < 2 ^ 32 - 1 → FitsRequest q → FitsReply (first_reply a q)
first_replies_fit terms few a q l f =
    let h = sessions_few a in reply_fits terms few a q q.operation (omega arith) f
