-- Sessions keep their names, so a kept request has its key and its place at every longer list.
use Rattle.std.proofs.Common.{◌≡◌, ◌≢◌, ◌<◌, ◌==◌, ◌&&◌, ℕ, suc, ◌+◌, ◌-◌, Bool, true, false, cond, nat_le, List, [], ◌∷◌, ◌++◌, length, slice_get, slice_set, Option, Some, None, option_map, refl, sym, ap, ◌∙◌, subst, arith, ⊎_elim}
use Rattle.std.proofs.lemmas.Option.{slice_get_within}
use Rattle.std.proofs.lemmas.Bool.{cases_eq}
use Rattle.std.proofs.lemmas.Bool.Decides.{nat_tests}
use Rattle.std.specs.Cmp.Lexicographic.{bytes_decides}
use Rattle.std.specs.Option.{option_or}
use Rattle.units.specs.declared.request.Operation.{Operation}
use Rattle.units.specs.declared.request.Operation.TheVariants.{Create, Update, Release}
use Rattle.units.specs.declared.request.Request.{Request}
use Rattle.chf_core.specs.declared.command.Command.{Command}
use Rattle.chf_core.specs.declared.command.Command.TheVariants.{Setup, Charge, Subscriber, TopUp, Expire, CloseRecords}
use Rattle.chf_core.specs.declared.decision.Verdict.TheVariants.{Kept, Refused, Fresh}
use Rattle.chf_core.specs.declared.command.Outcome.{Outcome}
use Rattle.chf_core.specs.declared.command.Outcome.TheVariants.{Charged}
use Rattle.chf_core.specs.declared.refusal.ChfRefusal.TheVariants.{SessionClosed, SequencePassed}
use Rattle.chf_core.specs.declared.session.Session.{Session}
use Rattle.chf_core.specs.declared.key.Key.{Key}
use Rattle.chf_core.specs.Operator.{name_eq}
use Rattle.chf_core.specs.Sessions.{same_session, account_for, sessions, sessions_after, opened, write_session, by_reference, with_last, session_at, named_by}
use Rattle.chf_core.specs.Keys.{key, key_in, key_by, key_of, key_eq, is_key, place_of, command_at, is_repeat}
use Rattle.chf_core.specs.Money.{first_reply}
use Rattle.chf_core.specs.Decisions.{decision, at_key, at_place, at_new, at_new_create, at_new_later, at_kept, last_of}
use Rattle.chf_core.proofs.Places.{get_push, get_set, eq_yes, eq_no}

-- what a session keeps
pub record Lasting : Type 0 where
  pub consumer : List ℕ
  pub charging_id : ℕ
  pub supi : List ℕ
  pub account : ℕ

abbrev pub lasting : Session → Lasting
lasting s = record { consumer = s.consumer; charging_id = s.charging_id; supi = s.supi; account = s.account }

abbrev pub owner : List Session → ℕ → Option Lasting
owner ss r = option_map lasting (by_reference ss r)

abbrev pub Keeps : List Session → List Session → Type 0
Keeps ss zz = (r : ℕ) (n : Lasting) → owner ss r ≡ Some n → owner zz r ≡ Some n

-- by place, where the reference is not 0
owner_at : (ss : List Session) (r : ℕ) (n : Lasting) → owner ss r ≡ Some n → (r ≢ 0) × ((z : Session) × (slice_get ss (r - 1) ≡ Some z) × (lasting z ≡ n))
owner_at ss r n e = ⊎_elim
    (λ (z : r ≡ 0). absurd (let h : option_map (λ (z : Session). lasting z) (cond (r == 0) None (slice_get ss (r - 1))) ≡ None = ap (λ b. option_map (λ (z : Session). lasting z) (cond b None (slice_get ss (r - 1)))) (eq_yes r 0 z) in cc))
    (λ (z : r ≢ 0). (z, found (slice_get ss (r - 1)) refl (sym (ap (λ b. option_map (λ (z : Session). lasting z) (cond b None (slice_get ss (r - 1)))) (eq_no r 0 z)) ∙ e)))
    (cases_eq r 0)
  where
    found : (o : Option Session) → slice_get ss (r - 1) ≡ o → option_map (lasting) o ≡ Some n → (z : Session) × (slice_get ss (r - 1) ≡ Some z) × (lasting z ≡ n)
    found None p q = absurd (cc)
    found (Some z) p q = (z, p, cc)

owner_from : (ss : List Session) (r : ℕ) (n : Lasting) (z : Session) → r ≢ 0 → slice_get ss (r - 1) ≡ Some z → lasting z ≡ n → owner ss r ≡ Some n
owner_from ss r n z ne g e = ap (λ b. option_map (λ (z : Session). lasting z) (cond b None (slice_get ss (r - 1)))) (eq_no r 0 ne) ∙ ap (option_map (λ (z : Session). lasting z)) g ∙ ap Some e

keeps_push : (ss : List Session) (x : Session) → Keeps ss (ss ++ x ∷ [])
keeps_push ss x r n e =
    let f = owner_at ss r n e in
    let lt = slice_get_within ss (r - 1) f.1.0 f.1.1 in
    owner_from (ss ++ x ∷ []) r n f.1.0 f.0 (get_push ss x (r - 1) ∙ ap (λ b. cond b (Some x) (slice_get ss (r - 1))) (eq_no (length ss) (r - 1) (omega arith)) ∙ f.1.1) f.1.2

keeps_set : (ss : List Session) (q : ℕ) (s y : Session) → by_reference ss q ≡ Some s → lasting y ≡ lasting s → Keeps ss (slice_set ss (q - 1) y)
keeps_set ss q s y e a r n o =
    let f = owner_at ss r n o in
    let g = owner_at ss q (lasting s) (ap (option_map (λ (z : Session). lasting z)) e) in
    ⊎_elim
    (λ (w : q - 1 ≡ r - 1).
    let z : slice_get ss (q - 1) ≡ slice_get ss (r - 1) = ap (slice_get ss) w in
    let same : g.1.0 ≡ f.1.0 = (let h : Some g.1.0 ≡ Some f.1.0 = sym g.1.1 ∙ z ∙ f.1.1 in cc) in
    owner_from (slice_set ss (q - 1) y) r n y f.0 (get_set ss (q - 1) (r - 1) y ∙ ap (λ b. cond b (option_map (λ _. y) (slice_get ss (q - 1))) (slice_get ss (r - 1))) (eq_yes (q - 1) (r - 1) w) ∙ ap (option_map (λ _. y)) g.1.1)
    (a ∙ sym g.1.2 ∙ ap (λ (z : Session). lasting z) same ∙ f.1.2))
    (λ (w : q - 1 ≢ r - 1). owner_from (slice_set ss (q - 1) y) r n f.1.0 f.0 (get_set ss (q - 1) (r - 1) y ∙ ap (λ b. cond b (option_map (λ _. y) (slice_get ss (q - 1))) (slice_get ss (r - 1))) (eq_no (q - 1) (r - 1) w) ∙ f.1.1) f.1.2)
    (cases_eq (q - 1) (r - 1))

keeps_same : (ss : List Session) → Keeps ss ss
keeps_same ss r n e = e

keeps_written : (ss : List Session) (q m : ℕ) (live : Bool) (o : Option Session) → by_reference ss q ≡ o → Keeps ss (write_session ss q m live o)
keeps_written ss q m live None e = keeps_same ss
keeps_written ss q m live (Some s) e = keeps_set ss q s (with_last m live s) e refl

keeps_opened : (ss : List Session) (q : Request) (o : Option ℕ) → Keeps ss (opened q o ss)
keeps_opened ss q None = keeps_same ss
keeps_opened ss q (Some n) = keeps_push ss _

pub keeps_after : (o : Operation) (q : Request) (account : Option ℕ) (ss : List Session) → Keeps ss (sessions_after o q account ss)
keeps_after Create q account ss = keeps_opened ss q account
keeps_after (Update r) q account ss = keeps_written ss r q.number true (by_reference ss r) refl
keeps_after (Release r) q account ss = keeps_written ss r q.number false (by_reference ss r) refl

pub keeps_one : (c : Command) (a : List Command) → Keeps (sessions a) (sessions (c ∷ a))
keeps_one (Setup p) a = keeps_same (sessions a)
keeps_one (Charge q) a = keeps_after q.operation q (account_for a q.subscriber) (sessions a)
keeps_one (Subscriber u n b) a = keeps_same (sessions a)
keeps_one (TopUp i u x) a = keeps_same (sessions a)
keeps_one (Expire m) a = keeps_same (sessions a)
keeps_one c a = keeps_same (sessions a)

-- the session that was just opened
pub pushed_owner : (ss : List Session) (x : Session) → owner (ss ++ x ∷ []) (length ss + 1) ≡ Some (lasting x)
pushed_owner ss x =
    let i : length ss + 1 - 1 ≡ length ss = omega arith in
    owner_from (ss ++ x ∷ []) (length ss + 1) (lasting x) x (λ z. let h : length ss + 1 ≡ 0 = z in omega arith) (ap (slice_get (ss ++ x ∷ [])) i ∙ get_push ss x (length ss) ∙ ap (λ b. cond b (Some x) (slice_get ss (length ss))) (eq_yes (length ss) (length ss) refl)) refl

-- a key needs the name of the session alone
via : Request → Option Lasting → Option Key
via q None = None
via q (Some p) = cond (name_eq p.consumer q.consumer) (Some (key q.consumer p.charging_id q.number)) None

is_via : (q : Request) (o : Option Session) → key_in q o ≡ via q (option_map lasting o)
unfolding via
is_via q None = refl
is_via q (Some s) = refl

has_name : (q : Request) (o : Option Lasting) (k : Key) → via q o ≡ Some k → (n : Lasting) × (o ≡ Some n)
unfolding via
has_name q None k e = absurd (cc)
has_name q (Some n) k e = (n, refl)

pub key_stays : (c : Command) (a : List Command) (q : Request) (k : Key) → key_of a q ≡ Some k → key_of (c ∷ a) q ≡ Some k
key_stays c a q k = by_op q.operation
  where
    at : (r : ℕ) → key_in q (session_at a r) ≡ Some k → key_in q (session_at (c ∷ a) r) ≡ Some k
    at r e =
        let w : via q (owner (sessions a) r) ≡ Some k = sym (is_via q (session_at a r)) ∙ e in
        let n = has_name q (owner (sessions a) r) k w in
        is_via q (session_at (c ∷ a) r) ∙ ap (via q) (keeps_one c a r n.0 n.1 ∙ sym n.1) ∙ w

    by_op : (o : Operation) → key_by o a q ≡ Some k → key_by o (c ∷ a) q ≡ Some k
    by_op Create e = e
    by_op (Update r) e = at r e
    by_op (Release r) e = at r e

pub place_within : (a : List Command) (k : Key) (i : ℕ) → place_of a k ≡ Some i → i < length a
place_within [] k i e = absurd (cc)
place_within (Setup p ∷ a) k i e = let h = place_within a k i e in omega arith
place_within (Charge q ∷ a) k i e = by_place (place_of a k) (is_key (key_of a q) k) (place_within a k i) e
  where
    by_place : (o : Option ℕ) (b : Bool) → (o ≡ Some i → i < length a) → option_or o (cond b (Some (length a)) None) ≡ Some i → i < suc (length a)
    by_place (Some j) b h e = let z = h e in omega arith
    by_place None true h e = let z : length a ≡ i = cc in omega arith
    by_place None false h e = absurd (cc)
place_within (Subscriber u n b ∷ a) k i e = let h = place_within a k i e in omega arith
place_within (TopUp j u x ∷ a) k i e = let h = place_within a k i e in omega arith
place_within (Expire m ∷ a) k i e = let h = place_within a k i e in omega arith
place_within (c ∷ a) k i e = let h = place_within a k i e in omega arith

pub both : (a b : Bool) → (a && b) ≡ true → (a ≡ true) × (b ≡ true)
both true b e = (refl, e)
both false b e = absurd (cc)

pub same_number : (a b : ℕ) → (a == b) ≡ true → a ≡ b
same_number a b e = grind (arith, nat_tests)

pub same_name : (a b : List ℕ) → name_eq a b ≡ true → a ≡ b
same_name a b e = (bytes_decides a b).0 e

pub same_key : (j k : Key) → key_eq j k ≡ true → j ≡ k
same_key j k e =
    let x = both (same_session j.session k.session) (j.number == k.number) e in
    let y = both (name_eq j.session.consumer k.session.consumer) (j.session.charging_id == k.session.charging_id) x.0 in
    λ i. record { session = record { consumer = same_name j.session.consumer k.session.consumer y.0 i; charging_id = same_number j.session.charging_id k.session.charging_id y.1 i }; number = same_number j.number k.number x.1 i }

pub kept_no : (a : List Command) (p : Request) (k : Key) (i : ℕ) (o : Outcome) → place_of a k ≡ Some i → at_key a p (Some k) ≡ Fresh o → ⊥
kept_no a p k i o e f = by_repeat (is_repeat p (command_at a i)) (ap (at_place a p (named_by p.operation a p)) (sym e) ∙ f)
  where
    by_repeat : (b : Bool) → at_kept i (last_of (named_by p.operation a p)) b ≡ Fresh o → ⊥
    by_repeat true e = cc
    by_repeat false e = cc

place_stays : (c : Command) (a : List Command) (k : Key) (i : ℕ) → place_of a k ≡ Some i → place_of (c ∷ a) k ≡ Some i
place_stays (Setup p) a k i e = e
place_stays (Charge p) a k i e = ap (λ o. option_or o (cond (is_key (key_of a p) k) (Some (length a)) None)) e
place_stays (Subscriber u n b) a k i e = e
place_stays (TopUp j u x) a k i e = e
place_stays (Expire m) a k i e = e
place_stays c a k i e = e

-- what a repeat finds
pub record Found (a : List Command) (q : Request) (i : ℕ) : Type 0 where
  pub k : Key
  pub has : key_of a q ≡ Some k
  pub stands : place_of a k ≡ Some i
  pub same : is_repeat q (command_at a i) ≡ true

pub found_again : (a : List Command) (q : Request) (i : ℕ) → Found a q i → decision a (Charge q) ≡ Kept i
found_again a q i f = ap (at_key a q) f.has ∙ ap (at_place a q (named_by q.operation a q)) f.stands ∙ ap (at_kept i (last_of (named_by q.operation a q))) f.same

found_longer : (c : Command) (a : List Command) (q : Request) (i : ℕ) → Found a q i → Found (c ∷ a) q i
found_longer c a q i f =
    let lt = place_within a f.k i f.stands in
    record {
      k = f.k;
      has = key_stays c a q f.k f.has;
      stands = place_stays c a f.k i f.stands;
      same = ap (is_repeat q) (ap (λ b. cond b (Some c) (command_at a i)) (eq_no (length a) i (omega arith))) ∙ f.same;
    }

no_later : (a : List Command) (q : Request) (i : ℕ) (s : Option Session) → at_new_later a q s ≡ Kept i → ⊥
no_later a q i None e = cc
no_later a q i (Some s) e = elim (nat_le q.number s.last) as (λ b. cond b (Refused (SequencePassed s.last)) (cond s.is_open (Fresh (Charged (first_reply a q))) (Refused (SessionClosed s.last))) ≡ Kept i → ⊥) [
  | true ↦ λ w. cc
  | false ↦ elim s.is_open as (λ b. cond b (Fresh (Charged (first_reply a q))) (Refused (SessionClosed s.last)) ≡ Kept i → ⊥) [ true ↦ λ w. cc | false ↦ λ w. cc ]
] e

no_create : (a : List Command) (q : Request) (i : ℕ) (s : Option Session) → at_new_create a q s ≡ Kept i → ⊥
no_create a q i None e = cc
no_create a q i (Some s) e = cc

no_new : (a : List Command) (q : Request) (i : ℕ) (op : Operation) (s : Option Session) → at_new op a q s ≡ Kept i → ⊥
no_new a q i Create s e = no_create a q i s e
no_new a q i (Update r) s e = no_later a q i s e
no_new a q i (Release r) s e = no_later a q i s e

pub found_from : (a : List Command) (q : Request) (i : ℕ) → decision a (Charge q) ≡ Kept i → Found a q i
found_from a q i = by_key (key_of a q) refl
  where
    by_repeat : (k : Key) (j : ℕ) (b : Bool) → key_of a q ≡ Some k → place_of a k ≡ Some j → is_repeat q (command_at a j) ≡ b → at_kept j (last_of (named_by q.operation a q)) b ≡ Kept i → Found a q i
    by_repeat k j true w p r e = let z : j ≡ i = cc in record { k = k; has = w; stands = p ∙ ap Some z; same = subst (λ n. is_repeat q (command_at a n) ≡ true) z r }
    by_repeat k j false w p r e = absurd (cc)

    by_place : (k : Key) (o : Option ℕ) → key_of a q ≡ Some k → place_of a k ≡ o → at_place a q (named_by q.operation a q) o ≡ Kept i → Found a q i
    by_place k None w p e = absurd (no_new a q i q.operation (named_by q.operation a q) e)
    by_place k (Some j) w p e = by_repeat k j (is_repeat q (command_at a j)) w p refl e

    by_key : (w : Option Key) → key_of a q ≡ w → at_key a q w ≡ Kept i → Found a q i
    by_key None w e = absurd (cc)
    by_key (Some k) w e = by_place k (place_of a k) w refl e

-- a kept request is kept at its place for good
pub kept_longer : (a : List Command) (c : Command) (q : Request) (i : ℕ) → decision a (Charge q) ≡ Kept i → decision (c ∷ a) (Charge q) ≡ Kept i
kept_longer a c q i e = found_again (c ∷ a) q i (found_longer c a q i (found_from a q i e))
