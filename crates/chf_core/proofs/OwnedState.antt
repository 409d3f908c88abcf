-- Each reservation of a state is of the account of its session, and stays so with each command.
use Rattle.std.proofs.Common.{◌≡◌, ℕ, ◌+◌, true, List, [], ◌∷◌, length, Option, Some, None, IfSome, option_map, refl, sym, ap, ◌∙◌, subst, inl, inr, ⊎_elim, ◌⊎◌}
use Rattle.std.specs.FinMap as map
use Rattle.units.specs.declared.request.Operation.{Operation}
use Rattle.units.specs.declared.request.Operation.TheVariants.{Create, Update, Release}
use Rattle.units.specs.declared.request.Request.{Request}
use Rattle.accounts.specs.declared.reservation.Reservation.{Reservation}
use Rattle.accounts.specs.declared.moves.Move.TheVariants.{Expired}
use Rattle.accounts.specs.Reservations.{at}
use Rattle.chf_core.specs.Owners.{IsOwned}
use Rattle.chf_core.specs.After.{after}
use Rattle.accounts.specs.Endings.{Until}
use Rattle.accounts.specs.Ledger.{State as Money}
use Rattle.accounts.specs.Making.{made}
use Rattle.chf_core.specs.declared.session.Session.{Session}
use Rattle.chf_core.specs.declared.target.Target.{Target}
use Rattle.chf_core.specs.declared.command.Command.{Command}
use Rattle.chf_core.specs.declared.command.Command.TheVariants.{Setup, Charge, Subscriber, TopUp, Expire, CloseRecords}
use Rattle.chf_core.specs.Sessions.{sessions_after, opened, by_reference, id_of, supi_of}
use Rattle.chf_core.specs.Admits.{OwnsAll}
use Rattle.chf_core.specs.Money.{used, opened_target, named_target}
use Rattle.chf_core.specs.Effect.{Rating}
use Rattle.chf_core.specs.State.{State, account_named, account_for, session_at}
use Rattle.chf_core.specs.CommandMoves.{target_by, target_of, rating_of, adding, topping, moves_of}
use Rattle.chf_core.proofs.Named.{Lasting, lasting, Keeps, keeps_after, pushed_owner}
use Rattle.chf_core.proofs.Owned.{AreOwned, account_in, owned_used, owned_kept, owned_without, account_stays, past_end}
use Rattle.chf_core.proofs.JoinedMoney.{made_request}

target_owned : (s : State) (q : Request) → IfSome (target_of s q) (λ t. account_in (sessions_after q.operation q (account_for s q.subscriber) s.sessions) t.session ≡ Some t.account)
target_owned s q = by_op q.operation
  where
    new : (o : Option ℕ) → IfSome (opened_target (length s.sessions) o) (λ t. account_in (opened q o s.sessions) t.session ≡ Some t.account)
    new None = tt
    new (Some n) = ap (option_map (λ (l : Lasting). l.account)) (pushed_owner s.sessions (record { consumer = q.consumer; charging_id = id_of q.charging_id; supi = supi_of q.subscriber; account = n; last = q.number; is_open = true }))

    old : (r : ℕ) (zz : List Session) (o : Option Session) → by_reference s.sessions r ≡ o → Keeps s.sessions zz → IfSome (named_target r o) (λ t. account_in zz t.session ≡ Some t.account)
    old r zz None e k = tt
    old r zz (Some z) e k = account_stays s.sessions zz r z.account k (ap (λ (o : Option Session). option_map (λ (l : Lasting). l.account) (option_map (λ (z : Session). lasting z) o)) e)

    by_op : (o : Operation) → IfSome (target_by o s q) (λ t. account_in (sessions_after o q (account_for s q.subscriber) s.sessions) t.session ≡ Some t.account)
    by_op Create = new (account_for s q.subscriber)
    by_op (Update r) = old r (sessions_after (Update r) q (account_for s q.subscriber) s.sessions) (session_at s r) refl (keeps_after (Update r) q (account_for s q.subscriber) s.sessions)
    by_op (Release r) = old r (sessions_after (Release r) q (account_for s q.subscriber) s.sessions) (session_at s r) refl (keeps_after (Release r) q (account_for s q.subscriber) s.sessions)

owned_charge : (s : State) (q : Request) → AreOwned s.sessions s.money.reservations
    → AreOwned (sessions_after q.operation q (account_for s q.subscriber) s.sessions) (made (moves_of s (Charge q)) s.money).reservations
owned_charge s q own =
    let zz = sessions_after q.operation q (account_for s q.subscriber) s.sessions in
    subst (λ (m : Money). AreOwned zz m.reservations) (sym (made_request (rating_of s q) q s.money (target_of s q)))
    (by (rating_of s q) (target_of s q) (target_owned s q) (owned_kept s.sessions zz s.money.reservations (keeps_after q.operation q (account_for s q.subscriber) s.sessions) own))
  where
    by : (r : Rating) (o : Option Target) → IfSome o (λ t. account_in (sessions_after q.operation q (account_for s q.subscriber) s.sessions) t.session ≡ Some t.account)
        → AreOwned (sessions_after q.operation q (account_for s q.subscriber) s.sessions) s.money.reservations
        → AreOwned (sessions_after q.operation q (account_for s q.subscriber) s.sessions) (used r q s.money o).reservations
    by r None e h = h
    by r (Some t) e h = owned_used (sessions_after q.operation q (account_for s q.subscriber) s.sessions) t e r q.operation q.stamp q.usage s.money h

owned_subscriber : (ss : List Session) (s : Money) (o : Option ℕ) → AreOwned ss s.reservations → AreOwned ss (made (adding o) s).reservations
owned_subscriber ss s None own = own
owned_subscriber ss s (Some n) own = own

owned_topup : (ss : List Session) (s : Money) (amount : ℕ) (o : Option ℕ) → AreOwned ss s.reservations → AreOwned ss (made (topping amount o) s).reservations
owned_topup ss s amount None own = own
owned_topup ss s amount (Some n) own = own

owned_expire : (ss : List Session) (s : Money) (moment : ℕ) → AreOwned ss s.reservations → AreOwned ss (made (Expired moment ∷ []) s).reservations
owned_expire ss s moment own = owned_without ss s.reservations (Until moment) own

-- what a request charges owns all that is set aside for its session
owns_all : (s : State) (q : Request) → AreOwned s.sessions s.money.reservations → IfSome (target_of s q) (λ t. OwnsAll t s.money)
owns_all s q own = by_op q.operation
  where
    at_reference : (n r g : ℕ) → (o : Option ℕ) → account_in s.sessions r ≡ o → (o ≡ None) ⊎ (o ≡ Some n) → IfSome (map.get s.money.reservations (at r g)) (λ h. h.account ≡ n)
    at_reference n r g o e w = by_case (map.get s.money.reservations (at r g)) (own (at r g))
      where
        by_case : (v : Option Reservation) → IfSome v (λ h. account_in s.sessions r ≡ Some h.account) → IfSome v (λ h. h.account ≡ n)
        by_case None p = tt
        by_case (Some h) p = ⊎_elim (λ (z : o ≡ None). absurd (let y : Some h.account ≡ None = sym p ∙ e ∙ z in cc)) (λ (z : o ≡ Some n). let y : Some h.account ≡ Some n = sym p ∙ e ∙ z in cc) w

    new : (o : Option ℕ) → IfSome (opened_target (length s.sessions) o) (λ t. OwnsAll t s.money)
    new None = tt
    new (Some n) = λ g. at_reference n (length s.sessions + 1) g None (past_end s.sessions) (inl refl)

    old : (r : ℕ) (o : Option Session) → session_at s r ≡ o → IfSome (named_target r o) (λ t. OwnsAll t s.money)
    old r None e = tt
    old r (Some z) e = λ g. at_reference z.account r g (Some z.account) (ap (λ (o : Option Session). option_map (λ (l : Lasting). l.account) (option_map (λ (z : Session). lasting z) o)) e) (inr refl)

    by_op : (o : Operation) → IfSome (target_by o s q) (λ t. OwnsAll t s.money)
    by_op Create = new (account_for s q.subscriber)
    by_op (Update r) = old r (session_at s r) refl
    by_op (Release r) = old r (session_at s r) refl

-- the account of a session, as the invariant has it
account_is : (o : Option Session) → option_map (λ (z : Session). z.account) o ≡ option_map (λ (l : Lasting). l.account) (option_map (λ (z : Session). lasting z) o)
account_is None = refl
account_is (Some z) = refl

from_owned : (s : State) → IsOwned s → AreOwned s.sessions s.money.reservations
from_owned s h k = by (map.get s.money.reservations k) (h k)
  where
    by : (v : Option Reservation) → IfSome v (λ r. option_map (λ (z : Session). z.account) (session_at s k.session) ≡ Some r.account) → IfSome v (λ r. account_in s.sessions k.session ≡ Some r.account)
    by None p = tt
    by (Some r) p = sym (account_is (session_at s k.session)) ∙ p

to_owned : (s : State) → AreOwned s.sessions s.money.reservations → IsOwned s
to_owned s h k = by (map.get s.money.reservations k) (h k)
  where
    by : (v : Option Reservation) → IfSome v (λ r. account_in s.sessions k.session ≡ Some r.account) → IfSome v (λ r. option_map (λ (z : Session). z.account) (session_at s k.session) ≡ Some r.account)
    by None p = tt
    by (Some r) p = account_is (session_at s k.session) ∙ p

-- with each command
pub owned_after : (s : State) (c : Command) → IsOwned s → IsOwned (after s c)
owned_after s (Setup setup) own = own
owned_after s (Charge q) own = to_owned (after s (Charge q)) (owned_charge s q (from_owned s own))
owned_after s (Subscriber supi account barred) own = to_owned (after s (Subscriber supi account barred)) (owned_subscriber s.sessions s.money (account_named s account) (from_owned s own))
owned_after s (TopUp id account amount) own = to_owned (after s (TopUp id account amount)) (owned_topup s.sessions s.money amount (account_named s account) (from_owned s own))
owned_after s (Expire moment) own = to_owned (after s (Expire moment)) (owned_expire s.sessions s.money moment (from_owned s own))
owned_after s c own = own

-- what a request charges owns all that is set aside for its session
pub request_owns : (s : State) (q : Request) → IsOwned s → IfSome (target_of s q) (λ t. OwnsAll t s.money)
request_owns s q own = owns_all s q (from_owned s own)
