-- Each reservation of a list of commands is of the account of its session.
use Rattle.std.proofs.Common.{◌≡◌, ◌==◌, nat_le, ◌||◌, not, ℕ, ◌+◌, ◌-◌, true, false, cond, List, [], ◌∷◌, length, Option, Some, None, IfSome, is_some, option_map, refl, sym, ap, ◌∙◌, subst, arith, slice_get, inl, inr, ⊎_elim, ◌⊎◌}
use Rattle.std.specs.declared.cmp.Ordering.{Ordering}
use Rattle.std.specs.declared.cmp.Ordering.TheVariants.{Less, Equal, Greater}
use Rattle.std.specs.Ordering.{eq_by_cmp, is_eq, nat_cmp, ordering_then}
use Rattle.std.specs.Cmp.{unsigned_tied}
use Rattle.std.specs.FinMap as map
use Rattle.units.specs.declared.request.Operation.{Operation}
use Rattle.units.specs.declared.request.Operation.TheVariants.{Create, Update, Release}
use Rattle.units.specs.declared.request.Used.{Used}
use Rattle.units.specs.declared.request.UnitUsage.{UnitUsage}
use Rattle.units.specs.declared.request.Request.{Request}
use Rattle.rating.specs.declared.grant.Grant.{Grant}
use Rattle.rating.specs.Price.{price}
use Rattle.accounts.specs.declared.reservation.Key.{Key as Pair}
use Rattle.accounts.specs.declared.reservation.Reservation.{Reservation}
use Rattle.accounts.specs.Reservations.{ReservationMap, at, key_cmp, keys_total}
use Rattle.accounts.specs.Endings.{Ending, Session as OfSession, Until, ends, without, without_at}
use Rattle.accounts.specs.Ledger.{State, free}
use Rattle.accounts.specs.declared.moves.Move.TheVariants.{Charged, Released}
use Rattle.accounts.specs.Moves.{after, lessened, lessened_at}
use Rattle.chf_core.specs.declared.session.Session.{Session}
use Rattle.chf_core.specs.declared.target.Target.{Target}
use Rattle.chf_core.specs.declared.target.GroupAsk.{GroupAsk}
use Rattle.chf_core.specs.declared.command.Command.{Command}
use Rattle.chf_core.specs.declared.command.Command.TheVariants.{Setup, Charge, Subscriber, TopUp, Expire, CloseRecords}
use Rattle.chf_core.specs.Operator.{account_number}
use Rattle.chf_core.specs.Sessions.{sessions, sessions_after, session_at, by_reference, account_for, opened, id_of, supi_of}
use Rattle.chf_core.specs.Effect.{Rating, charged_used, charged, gives_back, released, released_one, granted, with_grant, with_grants, deadline_of, closed_by, settled, used_by, asks_of}
use Rattle.chf_core.specs.Admits.{OwnsAll}
use Rattle.chf_core.specs.Money.{money, used, rating_of, target_of, target_by, opened_target, named_target, topped, with_account}
use Rattle.chf_core.proofs.Named.{Lasting, lasting, owner, Keeps, keeps_after, pushed_owner, same_number}
use Rattle.chf_core.proofs.Admitted.{either}
use Rattle.chf_core.proofs.Places.{eq_no}
use Rattle.std.proofs.lemmas.Option.{slice_get_past}

abbrev pub account_in : List Session → ℕ → Option ℕ
account_in ss r = option_map (λ (l : Lasting). l.account) (owner ss r)

abbrev pub AreOwned : List Session → ReservationMap → Type 0
AreOwned ss m = (k : Pair) → IfSome (map.get m k) (λ r. account_in ss k.session ≡ Some r.account)

tied_session : (q k : Pair) → eq_by_cmp key_cmp q k ≡ true → q.session ≡ k.session
tied_session q k e = same_number q.session k.session (sym (unsigned_tied q.session k.session) ∙ first_tied (nat_cmp q.session k.session) (nat_cmp q.group k.group) e)
  where
    first_tied : (a b : Ordering) → is_eq (ordering_then a b) ≡ true → is_eq a ≡ true
    first_tied Less b e = e
    first_tied Equal b e = refl
    first_tied Greater b e = e

owned_insert : (ss : List Session) (m : ReservationMap) (k : Pair) (r : Reservation) → AreOwned ss m → account_in ss k.session ≡ Some r.account → AreOwned ss (map.insert m k r)
owned_insert ss m k r own e q = subst (λ v. IfSome v (λ r. account_in ss q.session ≡ Some r.account)) (sym (map.get-insert keys_total m k r q))
    (elim (eq_by_cmp key_cmp q k) as (λ b. eq_by_cmp key_cmp q k ≡ b → IfSome (cond b (Some r) (map.get m q)) (λ r. account_in ss q.session ≡ Some r.account)) [
      | true ↦ λ t. ap (account_in ss) (tied_session q k t) ∙ e
      | false ↦ λ t. own q
    ] refl)

owned_remove : (ss : List Session) (m : ReservationMap) (k : Pair) → AreOwned ss m → AreOwned ss (map.remove m k)
owned_remove ss m k own q = subst (λ v. IfSome v (λ r. account_in ss q.session ≡ Some r.account)) (sym (map.get-remove keys_total m k q))
    (either (eq_by_cmp key_cmp q k) None (map.get m q) (λ r. account_in ss q.session ≡ Some r.account) tt (own q))

owned_lessened : (ss : List Session) (m : ReservationMap) (k : Pair) (x : ℕ) → AreOwned ss m → AreOwned ss (lessened m k x)
owned_lessened ss m k x own = by_case (map.get m k) (own k)
  where
    by_case : (w : Option Reservation) → IfSome w (λ r. account_in ss k.session ≡ Some r.account) → AreOwned ss (lessened_at m k x w)
    by_case None p = own
    by_case (Some r) p = elim (nat_le r.left x) as (λ b. AreOwned ss (cond b (map.remove m k) (map.insert m k (record { account = r.account; left = r.left - x; deadline = r.deadline })))) [
      | true ↦ owned_remove ss m k own
      | false ↦ owned_insert ss m k (record { account = r.account; left = r.left - x; deadline = r.deadline }) own p
    ]

pub owned_without : (ss : List Session) (m : ReservationMap) (g : Ending) → AreOwned ss m → AreOwned ss (without m g)
owned_without ss m g own q = subst (λ v. IfSome v (λ r. account_in ss q.session ≡ Some r.account)) (sym (without_at m g q))
    (either (not (ends g q (map.get m q))) (map.get m q) None (λ r. account_in ss q.session ≡ Some r.account) (own q) tt)

module _ (ss : List Session) (t : Target) (e : account_in ss t.session ≡ Some t.account) where
  owned_containers : (rates : List (List (List ℕ))) (group : ℕ) (cs : List Used) (s : State) → AreOwned ss s.reservations → AreOwned ss (charged_used rates t group cs s).reservations
  owned_containers rates group [] s own = own
  owned_containers rates group (c ∷ cs) s own =
      owned_containers rates group cs (after (Charged t.account t.session group c.lsn (price rates group c.up c.down c.seconds c.first)) s) (owned_lessened ss s.reservations (at t.session group) (price rates group c.up c.down c.seconds c.first) own)

  owned_charged : (rates : List (List (List ℕ))) (us : List UnitUsage) (s : State) → AreOwned ss s.reservations → AreOwned ss (charged rates t us s).reservations
  owned_charged rates [] s own = own
  owned_charged rates (u ∷ us) s own = owned_charged rates us (charged_used rates t u.group u.used s) (owned_containers rates u.group u.used s own)

  owned_released : (us : List UnitUsage) (s : State) → AreOwned ss s.reservations → AreOwned ss (released t us s).reservations
  owned_released [] s own = own
  owned_released (u ∷ us) s own = owned_released us (released_one t u s) (elim (is_some u.ask || gives_back u) as (λ b. AreOwned ss (cond b (after (Released t.session u.group) s) s).reservations) [
    | true ↦ owned_remove ss s.reservations (at t.session u.group) own
    | false ↦ own
  ])

  owned_grant : (r : Rating) (stamp : ℕ) (a : GroupAsk) (g : Grant) (s : State) → AreOwned ss s.reservations → AreOwned ss (with_grant r t stamp a g s).reservations
  owned_grant r stamp a g s own = elim (g.reserve == 0) as (λ b. AreOwned ss (cond b s.reservations (map.insert s.reservations (at t.session a.group) (record { account = t.account; left = g.reserve; deadline = deadline_of r stamp a.group })))) [
    | true ↦ own
    | false ↦ owned_insert ss s.reservations (at t.session a.group) (record { account = t.account; left = g.reserve; deadline = deadline_of r stamp a.group }) own e
  ]

  owned_grants : (r : Rating) (stamp : ℕ) (asks : List GroupAsk) (s : State) → AreOwned ss s.reservations → AreOwned ss (with_grants r t stamp asks s).reservations
  owned_grants r stamp [] s own = own
  owned_grants r stamp (a ∷ asks) s own = owned_grants r stamp asks (with_grant r t stamp a (granted r (free s t.account) a) s) (owned_grant r stamp a (granted r (free s t.account) a) s own)

  owned_closed : (o : Operation) (s : State) → AreOwned ss s.reservations → AreOwned ss (closed_by o t s).reservations
  owned_closed Create s own = own
  owned_closed (Update r) s own = own
  owned_closed (Release r) s own = owned_without ss s.reservations (OfSession t.session) own

  pub owned_used : (r : Rating) (o : Operation) (stamp : ℕ) (us : List UnitUsage) (s : State) → AreOwned ss s.reservations → AreOwned ss (used_by r t o stamp us s).reservations
  owned_used r o stamp us s own = owned_closed o _ (owned_grants r stamp (asks_of us) (settled r t us s) (owned_released us (charged r.rates t us s) (owned_charged r.rates us s own)))

-- sessions keep their accounts
some_lasting : (o : Option Lasting) (n : ℕ) → option_map (λ (l : Lasting). l.account) o ≡ Some n → (l : Lasting) × (o ≡ Some l)
some_lasting None n e = absurd (cc)
some_lasting (Some l) n e = (l, refl)

pub account_stays : (ss zz : List Session) (r n : ℕ) → Keeps ss zz → account_in ss r ≡ Some n → account_in zz r ≡ Some n
account_stays ss zz r n keeps e =
    let l = some_lasting (owner ss r) n e in
    ap (option_map (λ (l : Lasting). l.account)) (keeps r l.0 l.1 ∙ sym l.1) ∙ e

pub owned_kept : (ss zz : List Session) (m : ReservationMap) → Keeps ss zz → AreOwned ss m → AreOwned zz m
owned_kept ss zz m keeps own k = by_case (map.get m k) (own k)
  where
    by_case : (w : Option Reservation) → IfSome w (λ r. account_in ss k.session ≡ Some r.account) → IfSome w (λ r. account_in zz k.session ≡ Some r.account)
    by_case None p = tt
    by_case (Some r) p = account_stays ss zz k.session r.account keeps p

target_owned : (a : List Command) (q : Request) → IfSome (target_of a q) (λ t. account_in (sessions_after q.operation q (account_for a q.subscriber) (sessions a)) t.session ≡ Some t.account)
target_owned a q = by_op q.operation
  where
    new : (o : Option ℕ) → IfSome (opened_target (length (sessions a)) o) (λ t. account_in (opened q o (sessions a)) t.session ≡ Some t.account)
    new None = tt
    new (Some n) = ap (option_map (λ (l : Lasting). l.account)) (pushed_owner (sessions a) (record { consumer = q.consumer; charging_id = id_of q.charging_id; supi = supi_of q.subscriber; account = n; last = q.number; is_open = true }))

    old : (r : ℕ) (zz : List Session) (o : Option Session) → by_reference (sessions a) r ≡ o → Keeps (sessions a) zz → IfSome (named_target r o) (λ t. account_in zz t.session ≡ Some t.account)
    old r zz None e k = tt
    old r zz (Some s) e k = account_stays (sessions a) zz r s.account k (ap (λ (o : Option Session). option_map (λ (l : Lasting). l.account) (option_map (λ (z : Session). lasting z) o)) e)

    by_op : (o : Operation) → IfSome (target_by o a q) (λ t. account_in (sessions_after o q (account_for a q.subscriber) (sessions a)) t.session ≡ Some t.account)
    by_op Create = new (account_for a q.subscriber)
    by_op (Update r) = old r (sessions_after (Update r) q (account_for a q.subscriber) (sessions a)) (session_at a r) refl (keeps_after (Update r) q (account_for a q.subscriber) (sessions a))
    by_op (Release r) = old r (sessions_after (Release r) q (account_for a q.subscriber) (sessions a)) (session_at a r) refl (keeps_after (Release r) q (account_for a q.subscriber) (sessions a))

pub owned : (a : List Command) → AreOwned (sessions a) (money a).reservations
owned [] = λ k. subst (λ (v : Option Reservation). IfSome v (λ r. account_in [] k.session ≡ Some r.account)) (sym (map.get-empty key_cmp k)) tt
owned (Setup p ∷ a) = owned a
owned (Charge q ∷ a) = by_target (target_of a q) (target_owned a q) (owned_kept (sessions a) (sessions (Charge q ∷ a)) (money a).reservations (keeps_after q.operation q (account_for a q.subscriber) (sessions a)) (owned a))
  where
    by_target : (o : Option Target) → IfSome o (λ t. account_in (sessions (Charge q ∷ a)) t.session ≡ Some t.account) → AreOwned (sessions (Charge q ∷ a)) (money a).reservations → AreOwned (sessions (Charge q ∷ a)) (used (rating_of a q) q (money a) o).reservations
    by_target None e own = own
    by_target (Some t) e own = owned_used (sessions (Charge q ∷ a)) t e (rating_of a q) q.operation q.stamp q.usage (money a) own
owned (Subscriber u n b ∷ a) = by_number (account_number a n) (owned a)
  where
    by_number : (o : Option ℕ) → AreOwned (sessions a) (money a).reservations → AreOwned (sessions a) (with_account (money a) o).reservations
    by_number None own = own
    by_number (Some i) own = own
owned (TopUp i n x ∷ a) = by_number (account_number a n) (owned a)
  where
    by_number : (o : Option ℕ) → AreOwned (sessions a) (money a).reservations → AreOwned (sessions a) (topped (money a) x o).reservations
    by_number None own = own
    by_number (Some j) own = own
owned (Expire m ∷ a) = owned_without (sessions a) (money a).reservations (Until m) (owned a)
owned (c ∷ a) = owned a

-- what a request charges owns all that is set aside for its session
pub past_end : (ss : List Session) → account_in ss (length ss + 1) ≡ None
past_end ss =
    ap (λ b. option_map (λ (l : Lasting). l.account) (option_map (λ (z : Session). lasting z) (cond b None (slice_get ss (length ss + 1 - 1))))) (eq_no (length ss + 1) 0 (λ z. let h : length ss + 1 ≡ 0 = z in omega arith))
    ∙ ap (λ (o : Option Session). option_map (λ (l : Lasting). l.account) (option_map (λ (z : Session). lasting z) o)) (slice_get_past ss (length ss + 1 - 1) (omega arith))

pub owns_all : (a : List Command) (q : Request) → IfSome (target_of a q) (λ t. OwnsAll t (money a))
owns_all a q = by_op q.operation
  where
    at_reference : (n r g : ℕ) → (o : Option ℕ) → account_in (sessions a) r ≡ o → (o ≡ None) ⊎ (o ≡ Some n) → IfSome (map.get (money a).reservations (at r g)) (λ h. h.account ≡ n)
    at_reference n r g o e w = by_case (map.get (money a).reservations (at r g)) (owned a (at r g))
      where
        by_case : (v : Option Reservation) → IfSome v (λ h. account_in (sessions a) r ≡ Some h.account) → IfSome v (λ h. h.account ≡ n)
        by_case None p = tt
        by_case (Some h) p = ⊎_elim (λ (z : o ≡ None). absurd (let y : Some h.account ≡ None = sym p ∙ e ∙ z in cc)) (λ (z : o ≡ Some n). let y : Some h.account ≡ Some n = sym p ∙ e ∙ z in cc) w

    new : (o : Option ℕ) → IfSome (opened_target (length (sessions a)) o) (λ t. OwnsAll t (money a))
    new None = tt
    new (Some n) = λ g. at_reference n (length (sessions a) + 1) g None (past_end (sessions a)) (inl refl)

    old : (r : ℕ) (o : Option Session) → session_at a r ≡ o → IfSome (named_target r o) (λ t. OwnsAll t (money a))
    old r None e = tt
    old r (Some s) e = λ g. at_reference s.account r g (Some s.account) (ap (λ (o : Option Session). option_map (λ (l : Lasting). l.account) (option_map (λ (z : Session). lasting z) o)) e) (inr refl)

    by_op : (o : Operation) → IfSome (target_by o a q) (λ t. OwnsAll t (money a))
    by_op Create = new (account_for a q.subscriber)
    by_op (Update r) = old r (session_at a r) refl
    by_op (Release r) = old r (session_at a r) refl
