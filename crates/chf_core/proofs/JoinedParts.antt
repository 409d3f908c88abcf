-- The state after a list of commands is what the whole list says: the operator's rows, sessions, keys, references.
use Rattle.std.proofs.Common.{◌≡◌, ◌==◌, ◌&&◌, ℕ, zero, suc, ◌+◌, ◌-◌, Bool, true, false, cond, List, [], ◌∷◌, ◌++◌, length, map as each, reverse, slice_get, slice_set, Option, Some, None, refl, sym, ap, ◌∙◌, arith}
use Rattle.std.specs.Option.{option_and_then}
use Rattle.std.specs.Ordering.{nat_cmp, eq_by_cmp}
use Rattle.std.specs.Cmp.Lexicographic.{slice_cmp, nat_list_cmp_total, texts_ties, nat_list_eq_equiv}
use Rattle.std.specs.FinMap.Entries.{find-put}
use Rattle.std.proofs.lemmas.List.{length-reverse}
use Rattle.units.specs.declared.request.Operation.{Operation}
use Rattle.units.specs.declared.request.Operation.TheVariants.{Create, Update, Release}
use Rattle.units.specs.declared.request.Request.{Request}
use Rattle.chf_core.specs.declared.command.Command.{Command}
use Rattle.chf_core.specs.declared.command.Command.TheVariants.{Setup, Charge, Subscriber, TopUp, CloseRecords}
use Rattle.chf_core.specs.declared.session.Session.{Session}
use Rattle.chf_core.specs.declared.subscription.Subscription.{Subscription}
use Rattle.chf_core.specs.declared.subscription.Sum.{Sum}
use Rattle.chf_core.specs.declared.key.Name.{Name}
use Rattle.chf_core.specs.Operator as operator
use Rattle.chf_core.specs.Operator.{name_eq, number_in, with_name}
use Rattle.chf_core.specs.Sessions as list
use Rattle.chf_core.specs.Sessions.{sessions_after, write_session, with_last, by_reference, same_session, name, id_of, opens_by}
use Rattle.chf_core.specs.Keys as keys
use Rattle.chf_core.specs.Keys.{key_in}
use Rattle.chf_core.specs.State.{Texts, at_text, with_text, account_named, account_for, name_of, reference_in, reference_of, session_for, named_by, key_by, key_of}
use Rattle.chf_core.specs.Filings.{limits_in, filings_by, filed}
use Rattle.chf_core.specs.Filed.{filings_in, book}
use Rattle.chf_core.specs.After.{state_of}
use Rattle.chf_core.proofs.Places.{reverse_push}

-- ---- what the operator said

pub setup_is : (a : List Command) → (state_of a).setup ≡ operator.setup_of a
setup_is [] = refl
setup_is (Setup setup ∷ a) = refl
setup_is (c ∷ a) = setup_is a

pub count_is : (a : List Command) → (state_of a).count ≡ length a
count_is [] = refl
count_is (c ∷ a) = let h = count_is a in omega arith

pub names_are : (a : List Command) → (state_of a).names ≡ operator.account_names a
names_are [] = refl
names_are (Subscriber supi account barred ∷ a) =
    λ i. with_name (names_are a i) account (number_in (names_are a i) account)
names_are (c ∷ a) = names_are a

pub number_is : (a : List Command) (account : List ℕ)
    → account_named (state_of a) account ≡ operator.account_number a account
number_is a account = λ i. number_in (names_are a i) account

-- one more at a text
texts_tied : (a b : List ℕ) → eq_by_cmp (slice_cmp nat_cmp) a b ≡ name_eq b a
texts_tied a b = sym (texts_ties a b) ∙ nat_list_eq_equiv.symm a b

one_more : {X : Type 0} (m : Texts X) (k q : List ℕ) (v : X)
    → at_text (with_text m k v) q ≡ cond (name_eq k q) (Some v) (at_text m q)
one_more m k q v =
    find-put (slice_cmp nat_cmp) nat_list_cmp_total q k v m
    ∙ ap (λ b. cond b (Some v) (at_text m q)) (texts_tied q k)

pub subscribers_are : (a : List Command) (supi : List ℕ)
    → at_text (state_of a).subscribers supi ≡ operator.subscription_of a supi
subscribers_are [] supi = refl
subscribers_are (Subscriber other account barred ∷ a) supi =
    let row : Subscription = record { account = account; barred = barred } in
    one_more (state_of a).subscribers other supi row
    ∙ ap (cond (name_eq other supi) (Some row)) (subscribers_are a supi)
subscribers_are (c ∷ a) supi = subscribers_are a supi

pub topups_are : (a : List Command) (id : List ℕ) → at_text (state_of a).topups id ≡ operator.topup_of a id
topups_are [] id = refl
topups_are (TopUp other account amount ∷ a) id =
    let sum : Sum = record { account = account; amount = amount } in
    one_more (state_of a).topups other id sum ∙ ap (cond (name_eq other id) (Some sum)) (topups_are a id)
topups_are (c ∷ a) id = topups_are a id

pub account_is : (a : List Command) (supi : Option (List ℕ)) → account_for (state_of a) supi ≡ list.account_for a supi
account_is a None = refl
account_is a (Some supi) =
    λ i. option_and_then (λ row. number_in (names_are a i) row.account) (subscribers_are a supi i)

-- ---- sessions and keys

pub sessions_are : (a : List Command) → (state_of a).sessions ≡ list.sessions a
sessions_are [] = refl
sessions_are (Charge q ∷ a) = λ i. sessions_after q.operation q (account_is a q.subscriber i) (sessions_are a i)
sessions_are (c ∷ a) = sessions_are a

key_by_is : (o : Operation) (a : List Command) (q : Request) → key_by o (state_of a) q ≡ keys.key_by o a q
key_by_is Create a q = refl
key_by_is (Update r) a q = λ i. key_in q (by_reference (sessions_are a i) r)
key_by_is (Release r) a q = λ i. key_in q (by_reference (sessions_are a i) r)

pub key_is : (a : List Command) (q : Request) → key_of (state_of a) q ≡ keys.key_of a q
key_is a q = key_by_is q.operation a q

-- ---- references

-- a session that is written keeps its name
each_push : (ss : List Session) (z : Session) → each name_of (ss ++ z ∷ []) ≡ each name_of ss ++ name_of z ∷ []
each_push [] z = refl
each_push (y ∷ ss) z = ap (λ l. name_of y ∷ l) (each_push ss z)

each_set : (ss : List Session) (i : ℕ) (y z : Session) → slice_get ss i ≡ Some z → name_of y ≡ name_of z
    → each name_of (slice_set ss i y) ≡ each name_of ss
each_set [] i y z e n = refl
each_set (x ∷ ss) zero y z e n = let h : x ≡ z = cc in λ j. (n ∙ sym (ap name_of h)) j ∷ each name_of ss
each_set (x ∷ ss) (suc i) y z e n = ap (λ l. name_of x ∷ l) (each_set ss i y z e n)

at_place : (ss : List Session) (r : ℕ) (z : Session) → by_reference ss r ≡ Some z → slice_get ss (r - 1) ≡ Some z
at_place ss r z e =
    elim (r == 0) as (λ b. cond b None (slice_get ss (r - 1)) ≡ Some z → slice_get ss (r - 1) ≡ Some z)
    [ true ↦ λ w. absurd (cc) | false ↦ λ w. w ] e

each_written : (ss : List Session) (r n : ℕ) (b : Bool) (o : Option Session) → by_reference ss r ≡ o
    → each name_of (write_session ss r n b o) ≡ each name_of ss
each_written ss r n b None e = refl
each_written ss r n b (Some z) e = each_set ss (r - 1) (with_last n b z) z (at_place ss r z e) refl

-- one name more where a Create opens a session
named_more : Operation → Request → Option ℕ → List Name → List Name
named_more op q account names = cond (opens_by op account) (names ++ name q.consumer (id_of q.charging_id) ∷ []) names

each_after : (op : Operation) (q : Request) (account : Option ℕ) (ss : List Session)
    → each name_of (sessions_after op q account ss) ≡ named_more op q account (each name_of ss)
unfolding named_more
each_after Create q None ss = refl
each_after Create q (Some n) ss = each_push ss _
each_after (Update r) q account ss = each_written ss r q.number true (by_reference ss r) refl
each_after (Release r) q account ss = each_written ss r q.number false (by_reference ss r) refl

length_each : (ss : List Session) → length (each name_of ss) ≡ length ss
length_each [] = refl
length_each (z ∷ ss) = ap suc (length_each ss)

-- whether a request opens the session of a name
abbrev pub opens : Operation → Request → Option ℕ → Name → Bool
opens op q account n = opens_by op account && same_session (name q.consumer (id_of q.charging_id)) n

found_after : (op : Operation) (q : Request) (account : Option ℕ) (names : List Name) (n : Name)
    → reference_in (reverse (named_more op q account names)) n
    ≡ cond (opens op q account n) (Some (length names + 1)) (reference_in (reverse names) n)
unfolding named_more
found_after op q account names n = by (opens_by op account)
  where
    by : (b : Bool) → reference_in (reverse (cond b (names ++ name q.consumer (id_of q.charging_id) ∷ []) names)) n
        ≡ cond (b && same_session (name q.consumer (id_of q.charging_id)) n)
        (Some (length names + 1)) (reference_in (reverse names) n)
    by true =
        ap (λ (l : List Name). reference_in l n) (reverse_push names (name q.consumer (id_of q.charging_id)))
        ∙ ap (λ k. cond (same_session (name q.consumer (id_of q.charging_id)) n)
        (Some (k + 1)) (reference_in (reverse names) n)) (length-reverse names)
    by false = refl

-- the references after a request
pub reference_after : (op : Operation) (q : Request) (account : Option ℕ) (ss : List Session) (n : Name)
    → reference_in (reverse (each name_of (sessions_after op q account ss))) n
    ≡ cond (opens op q account n) (Some (length ss + 1)) (reference_in (reverse (each name_of ss)) n)
reference_after op q account ss n =
    ap (λ (l : List Name). reference_in (reverse l) n) (each_after op q account ss)
    ∙ found_after op q account (each name_of ss) n
    ∙ ap (λ k. cond (opens op q account n) (Some (k + 1)) (reference_in (reverse (each name_of ss)) n)) (length_each ss)

pub references_are : (a : List Command) (n : Name) → reference_of (state_of a) n ≡ list.reference_of a n
references_are [] n = refl
references_are (Charge q ∷ a) n =
    let s = state_of a in
    reference_after q.operation q (account_for s q.subscriber) s.sessions n
    ∙ (λ i. cond (opens q.operation q (account_is a q.subscriber i) n) (Some (length (sessions_are a i) + 1)) (references_are a n i))
references_are (c ∷ a) n = references_are a n

-- ---- the records

pub book_is : (a : List Command) → (state_of a).book ≡ book a
book_is [] = refl
book_is (Charge q ∷ a) = λ i.
    filed (limits_in (setup_is a i))
    (filings_by q.operation (length (sessions_are a i)) q (opens_by q.operation (account_is a q.subscriber i))) (book_is a i)
book_is (CloseRecords moment ∷ a) =
    λ i. filed (limits_in (setup_is a i)) (filings_in a (CloseRecords moment)) (book_is a i)
book_is (c ∷ a) = book_is a

-- ---- the session that a request names

session_for_is : (a : List Command) (o : Option ℕ) → session_for (state_of a) o ≡ list.session_for a o
session_for_is a None = refl
session_for_is a (Some r) = λ i. by_reference (sessions_are a i) r

pub named_is : (o : Operation) (a : List Command) (q : Request) → named_by o (state_of a) q ≡ list.named_by o a q
named_is Create a q =
    let n = name q.consumer (id_of q.charging_id) in
    ap (session_for (state_of a)) (references_are a n) ∙ session_for_is a (list.reference_of a n)
named_is (Update r) a q = λ i. by_reference (sessions_are a i) r
named_is (Release r) a q = λ i. by_reference (sessions_are a i) r
