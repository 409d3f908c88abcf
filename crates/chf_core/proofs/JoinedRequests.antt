-- The state after a list of commands keeps the requests that the whole list says, and decides as it does.
use Rattle.std.proofs.Common.{◌≡◌, ◌<◌, ◌==◌, ℕ, suc, ◌+◌, Bool, true, false, cond, nat_le, List, [], ◌∷◌, ◌++◌, length, find, Option, Some, None, option_map, refl, sym, ap, ◌∙◌, subst, arith}
use Rattle.std.specs.Option.{option_or}
use Rattle.std.proofs.lemmas.List.Folds.{find-append}
use Rattle.units.specs.declared.request.Operation.{Operation}
use Rattle.units.specs.declared.request.Operation.TheVariants.{Create, Update, Release}
use Rattle.units.specs.declared.request.Request.{Request}
use Rattle.units.specs.declared.spending.SpendContext.{SpendContext}
use Rattle.counters.specs.Subscriptions.{context_of}
use Rattle.counters.specs.Watching.{are_known}
use Rattle.notices.specs.Watched.{is_first}
use Rattle.sessions.specs.Content.{content}
use Rattle.accounts.specs.Endings.{count_ending, Until}
use Rattle.records.specs.Book.{closable}
use Rattle.chf_core.specs.declared.command.Command.{Command}
use Rattle.chf_core.specs.declared.command.Command.TheVariants.{Setup, Charge, Subscriber, TopUp, Expire, CloseRecords, Subscribe, Modify, Unsubscribe, NoticeSent}
use Rattle.chf_core.specs.declared.command.Outcome.TheVariants.{Charged, Spending}
use Rattle.chf_core.specs.declared.decision.Verdict.TheVariants.{Fresh, Refused}
use Rattle.chf_core.specs.declared.refusal.ChfRefusal.TheVariants.{SessionClosed, SequencePassed}
use Rattle.chf_core.specs.declared.session.Session.{Session}
use Rattle.chf_core.specs.declared.key.Key.{Key}
use Rattle.chf_core.specs.declared.kept_request.KeptRequest.{KeptRequest}
use Rattle.chf_core.specs.Operator.{name_eq}
use Rattle.chf_core.specs.Sessions as list
use Rattle.chf_core.specs.Sessions.{id_of}
use Rattle.chf_core.specs.Keys as keys
use Rattle.chf_core.specs.Keys.{key, key_eq, key_in, is_key}
use Rattle.chf_core.specs.Money as money
use Rattle.chf_core.specs.Decisions as decisions
use Rattle.chf_core.specs.Decisions.{last_of, at_kept, decide_subscriber, decide_topup, decide_counted, decide_subscribe, decide_modify, decide_unsubscribe, decide_first, same_row}
use Rattle.chf_core.specs.Spending as spending
use Rattle.chf_core.specs.Spending.{counters_in, spent_on, status_by}
use Rattle.chf_core.specs.State.{State, session_at, key_by, key_of, kept_key, place_of, kept_at}
use Rattle.chf_core.specs.Deciding as deciding
use Rattle.chf_core.specs.Deciding.{first_reply, is_repeat, decision, status_for}
use Rattle.chf_core.specs.After.{entry_of, entered, state_of}
use Rattle.chf_core.specs.Joined.{request_of, request_at, IsLeftBy}
use Rattle.chf_core.proofs.Places.{eq_yes, eq_no}
use Rattle.chf_core.proofs.Named.{place_within, same_number}
use Rattle.chf_core.proofs.JoinedParts.{setup_is, count_is, names_are, number_is, subscribers_are, topups_are, sessions_are, key_is, references_are, book_is, account_is, named_is}
use Rattle.chf_core.proofs.JoinedMoney.{money_is, moves_are, reply_is}
use Rattle.chf_core.proofs.JoinedWatched.{watched_are}

-- ---- kept requests

pub or_none : {X : Type 0} (o : Option X) → o ≡ option_or o None
or_none None = refl
or_none (Some x) = refl

kept_more : (s : State) (q : Request) (o : Option Key) (p : ℕ) (a : List Command)
    → s.count ≡ length a → first_reply s q ≡ money.first_reply a q
    → find (λ r. r.place == p) (entered s q o) ≡ option_or (kept_at s p) (cond (length a == p) (request_of a q o) None)
kept_more s q None p a e f = or_none (kept_at s p) ∙ ap (option_or (kept_at s p)) (by (length a == p))
  where
    by : (b : Bool) → ◌≡◌ {A = Option KeptRequest} None (cond b None None)
    by true = refl
    by false = refl
kept_more s q (Some k) p a e f =
    find-append (λ r. r.place == p) s.requests (entry_of s q k ∷ [])
    ∙ (λ i. option_or (kept_at s p) (cond (e i == p) (Some (record {
      place = e i;
      charging_id = k.session.charging_id;
      request = content q;
      outcome = Charged (f i);
    })) None))

pub requests_are : (a : List Command) (p : ℕ) → kept_at (state_of a) p ≡ request_at a p
requests_are [] p = refl
requests_are (Charge q ∷ a) p =
    kept_more (state_of a) q (key_of (state_of a) q) p a (count_is a) (reply_is a q)
    ∙ (λ i. option_or (requests_are a p i) (cond (length a == p) (request_of a q (key_is a q i)) None))
requests_are (c ∷ a) p = requests_are a p

-- the key of what is entered is that of the request
in_key : (q : Request) (o : Option Session) (j : Key) → key_in q o ≡ Some j
    → key q.consumer j.session.charging_id q.number ≡ j
in_key q None j e = absurd (cc)
in_key q (Some z) j e = by (name_eq z.consumer q.consumer) e
  where
    by : (b : Bool) → cond b (Some (key q.consumer z.charging_id q.number)) None ≡ Some j
        → key q.consumer j.session.charging_id q.number ≡ j
    by true w =
        let h : key q.consumer z.charging_id q.number ≡ j = cc in
        subst (λ (x : Key). key q.consumer x.session.charging_id q.number ≡ x) h refl
    by false w = absurd (cc)

own_key : (s : State) (q : Request) (j : Key) → key_of s q ≡ Some j → key q.consumer j.session.charging_id q.number ≡ j
own_key s q j = by q.operation
  where
    by : (o : Operation) → key_by o s q ≡ Some j → key q.consumer j.session.charging_id q.number ≡ j
    by Create e =
        let h : key q.consumer (id_of q.charging_id) q.number ≡ j = cc in
        subst (λ (x : Key). key q.consumer x.session.charging_id q.number ≡ x) h refl
    by (Update r) e = in_key q (session_at s r) j e
    by (Release r) e = in_key q (session_at s r) j e

-- the place of the first of some, or of one more
place_or : (o : Option KeptRequest) (b : Bool) (r : KeptRequest)
    → option_map (λ (x : KeptRequest). x.place) (option_or o (cond b (Some r) None))
    ≡ option_or (option_map (λ (x : KeptRequest). x.place) o) (cond b (Some r.place) None)
place_or (Some x) b r = refl
place_or None true r = refl
place_or None false r = refl

pub place_push : (requests : List KeptRequest) (r : KeptRequest) (k : Key)
    → option_map (λ (x : KeptRequest). x.place) (find (λ x. key_eq (kept_key x) k) (requests ++ r ∷ []))
    ≡ option_or (option_map (λ (x : KeptRequest). x.place) (find (λ x. key_eq (kept_key x) k) requests))
    (cond (key_eq (kept_key r) k) (Some r.place) None)
place_push requests r k =
    ap (option_map (λ (x : KeptRequest). x.place)) (find-append (λ x. key_eq (kept_key x) k) requests (r ∷ []))
    ∙ place_or (find (λ x. key_eq (kept_key x) k) requests) (key_eq (kept_key r) k) r

place_more : (s : State) (q : Request) (o : Option Key) (k : Key) → key_of s q ≡ o
    → option_map (λ r. r.place) (find (λ r. key_eq (kept_key r) k) (entered s q o))
    ≡ option_or (place_of s k) (cond (is_key o k) (Some s.count) None)
place_more s q None k e = or_none (place_of s k)
place_more s q (Some j) k e =
    place_push s.requests (entry_of s q j) k
    ∙ ap (λ (x : Key). option_or (place_of s k) (cond (key_eq x k) (Some s.count) None)) (own_key s q j e)

pub places_are : (a : List Command) (k : Key) → place_of (state_of a) k ≡ keys.place_of a k
places_are [] k = refl
places_are (Charge q ∷ a) k =
    place_more (state_of a) q (key_of (state_of a) q) k refl
    ∙ (λ i. option_or (places_are a k i) (cond (is_key (key_is a q i) k) (Some (count_is a i)) None))
places_are (c ∷ a) k = places_are a k

-- no request is kept at a place that is still to come
pub request_within : (a : List Command) (p : ℕ) (r : KeptRequest) → request_at a p ≡ Some r → p < length a
request_within [] p r e = absurd (cc)
request_within (Charge q ∷ a) p r e = by (request_at a p) (length a == p) refl (request_within a p r) e
  where
    by : (o : Option KeptRequest) (b : Bool) → (length a == p) ≡ b → (o ≡ Some r → p < length a)
        → option_or o (cond b (request_of a q (keys.key_of a q)) None) ≡ Some r → p < suc (length a)
    by (Some x) b w h e = let z = h e in omega arith
    by None true w h e = let z = same_number (length a) p w in omega arith
    by None false w h e = absurd (cc)
request_within (c ∷ a) p r e = let h = request_within a p r e in omega arith

pub none_yet : (a : List Command) → request_at a (length a) ≡ None
none_yet a = by (request_at a (length a)) refl
  where
    by : (o : Option KeptRequest) → request_at a (length a) ≡ o → request_at a (length a) ≡ None
    by None e = e
    by (Some r) e = absurd (let h = request_within a (length a) r e in omega arith)

-- what is kept at the place of a key has the content of the command there
pub repeats : (a : List Command) (k : Key) (p : ℕ) (q : Request) → keys.place_of a k ≡ Some p
    → is_repeat q (request_at a p) ≡ keys.is_repeat q (keys.command_at a p)
repeats [] k p q e = absurd (cc)
repeats (Charge x ∷ a) k p q e = by (keys.place_of a k) (keys.key_of a x) refl refl (repeats a k p q) e
  where
    -- at an earlier place
    earlier : p < length a → is_repeat q (request_at a p) ≡ keys.is_repeat q (keys.command_at a p)
        → is_repeat q (request_at (Charge x ∷ a) p) ≡ keys.is_repeat q (keys.command_at (Charge x ∷ a) p)
    earlier l h =
        let no = eq_no (length a) p (λ z. let y : length a ≡ p = z in omega arith) in
        ap (λ b. is_repeat q (option_or (request_at a p) (cond b (request_of a x (keys.key_of a x)) None))) no
        ∙ ap (is_repeat q) (sym (or_none (request_at a p))) ∙ h
        ∙ sym (ap (λ b. keys.is_repeat q (cond b (Some (Charge x)) (keys.command_at a p))) no)

    -- at its own
    here : (j : Key) → keys.key_of a x ≡ Some j → length a ≡ p
        → is_repeat q (request_at (Charge x ∷ a) p) ≡ keys.is_repeat q (keys.command_at (Charge x ∷ a) p)
    here j w y =
        let yes = eq_yes (length a) p y in
        ap (λ b. is_repeat q (option_or (request_at a p) (cond b (request_of a x (keys.key_of a x)) None))) yes
        ∙ (λ i. is_repeat q (option_or ((ap (request_at a) (sym y) ∙ none_yet a) i) (request_of a x (w i))))
        ∙ sym (ap (λ b. keys.is_repeat q (cond b (Some (Charge x)) (keys.command_at a p))) yes)

    of_key : (j : Key) (b : Bool) → keys.key_of a x ≡ Some j → cond b (Some (length a)) None ≡ Some p
        → is_repeat q (request_at (Charge x ∷ a) p) ≡ keys.is_repeat q (keys.command_at (Charge x ∷ a) p)
    of_key j true w f = here j w (let y : length a ≡ p = cc in y)
    of_key j false w f = absurd (cc)

    by : (o : Option ℕ) (w : Option Key) → keys.place_of a k ≡ o → keys.key_of a x ≡ w
        → (keys.place_of a k ≡ Some p → is_repeat q (request_at a p) ≡ keys.is_repeat q (keys.command_at a p))
        → option_or o (cond (is_key w k) (Some (length a)) None) ≡ Some p
        → is_repeat q (request_at (Charge x ∷ a) p) ≡ keys.is_repeat q (keys.command_at (Charge x ∷ a) p)
    by (Some i) w u v h f = let g : keys.place_of a k ≡ Some p = u ∙ f in earlier (place_within a k p g) (h g)
    by None None u v h f = absurd (cc)
    by None (Some j) u v h f = of_key j (key_eq j k) v f
repeats (c ∷ a) k p q e =
    let l = place_within a k p e in
    repeats a k p q e
    ∙ sym (ap (λ b. keys.is_repeat q (cond b (Some c) (keys.command_at a p)))
    (eq_no (length a) p (λ z. let y : length a ≡ p = z in omega arith)))

-- ---- the decision

new_create_is : (a : List Command) (q : Request) (o : Option Session)
    → deciding.at_new_create (state_of a) q o ≡ decisions.at_new_create a q o
new_create_is a q None = λ i. Fresh (Charged (reply_is a q i))
new_create_is a q (Some z) = refl

new_later_is : (a : List Command) (q : Request) (o : Option Session)
    → deciding.at_new_later (state_of a) q o ≡ decisions.at_new_later a q o
new_later_is a q None = refl
new_later_is a q (Some z) =
    λ i. cond (nat_le q.number z.last) (Refused (SequencePassed z.last))
    (cond z.is_open (Fresh (Charged (reply_is a q i))) (Refused (SessionClosed z.last)))

new_is : (o : Operation) (a : List Command) (q : Request) (z : Option Session)
    → deciding.at_new o (state_of a) q z ≡ decisions.at_new o a q z
new_is Create a q z = new_create_is a q z
new_is (Update r) a q z = new_later_is a q z
new_is (Release r) a q z = new_later_is a q z

key_decided : (a : List Command) (q : Request) (o : Option Key)
    → deciding.at_key (state_of a) q o ≡ decisions.at_key a q o
key_decided a q None = refl
key_decided a q (Some k) =
    (λ i. deciding.at_place (state_of a) q (named_is q.operation a q i) (places_are a k i))
    ∙ by (keys.place_of a k) refl
  where
    by : (p : Option ℕ) → keys.place_of a k ≡ p
        → deciding.at_place (state_of a) q (list.named_by q.operation a q) p
        ≡ decisions.at_place a q (list.named_by q.operation a q) p
    by None e = new_is q.operation a q (list.named_by q.operation a q)
    by (Some p) e =
        ap (at_kept p (last_of (list.named_by q.operation a q)))
        (ap (is_repeat q) (requests_are a p) ∙ repeats a k p q e)

-- what a subscription is told
told_is : (a : List Command) (context : SpendContext) → status_for (state_of a) context ≡ spending.status_for a context
told_is a context = λ i.
    status_by (counters_in (setup_is a i)) (spent_on (money_is a i) (account_is a (Some context.supi) i)) context

pub decision_is : (a : List Command) (c : Command) → decision (state_of a) c ≡ decisions.decision a c
decision_is a (Setup setup) = refl
decision_is a (Charge q) = ap (deciding.at_key (state_of a) q) (key_is a q) ∙ key_decided a q (keys.key_of a q)
decision_is a (Subscriber supi account barred) =
    λ i. decide_subscriber (same_row account barred (subscribers_are a supi i))
decision_is a (TopUp id account amount) =
    λ i. decide_topup account amount (number_is a account i) (topups_are a id i)
decision_is a (Expire moment) = λ i. decide_counted (count_ending (money_is a i).reservations (Until moment))
decision_is a (CloseRecords moment) = λ i. decide_counted (closable (book_is a i).sessions)
decision_is a (Subscribe context) = λ i.
    decide_subscribe (subscribers_are a context.supi i) (are_known (counters_in (setup_is a i)) context.counters)
    (Spending (length (watched_are a i).contexts + 1) (told_is a context i))
decision_is a (Modify id context) = λ i.
    decide_modify (context_of (watched_are a i).contexts id) context.supi (are_known (counters_in (setup_is a i)) context.counters)
    (Spending id (told_is a context i))
decision_is a (Unsubscribe id) = λ i. decide_unsubscribe (context_of (watched_are a i).contexts id)
decision_is a (NoticeSent id number) = λ i. decide_first (is_first (watched_are a i) id number)

pub joined : (a : List Command) → IsLeftBy a (state_of a)
joined a = record {
  setup = setup_is a;
  count = count_is a;
  names = names_are a;
  subscribers = subscribers_are a;
  topups = topups_are a;
  sessions = sessions_are a;
  references = references_are a;
  moves = moves_are a;
  money = money_is a;
  book = book_is a;
  watched = watched_are a;
  requests = requests_are a;
  places = places_are a;
}
