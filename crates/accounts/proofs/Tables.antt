-- The entries of a hash table, as a finite map.
use Rattle.std.proofs.Common.{◌≡◌, ◌≢◌, ◌<◌, ◌≤◌, nat_le, ◌+◌, ◌-◌, not, ℕ, Bool, true, false, cond, ◌&&◌, List, [], ◌∷◌, Option, Some, None, refl, sym, ap, ◌∙◌, subst, arith}
use Rattle.std.specs.declared.cmp.Ordering.{Ordering}
use Rattle.std.specs.declared.cmp.Ordering.TheVariants.{Less, Equal, Greater}
use Rattle.std.specs.Ordering.{nat_cmp, ordering_then, eq_by_cmp, is_eq}
use Rattle.std.specs.Result.{IsOk, OnOk, OnErr}
use Rattle.std.proofs.lemmas.Bool.Decides.{nat_tests}
use Rattle.std.specs.Prelude.{Result, Ok, Err}
use Rattle.std.specs.Cmp.{eq_by_cmp_equiv, unsigned_tied}
use Rattle.std.specs.Map.{lookup}
use Rattle.std.specs.FinMap.{find, from_entries, get, insert, remove, len, len-remove, empty_of_len, get-empty, get-retain_keys, get-from_entries, get-insert, get-remove, same_map}
use Rattle.std.specs.Option.{is_some}
use Rattle.std.proofs.lemmas.Map.Lookups.{CmpEqualImpliesEq, exact_pairs, exact_unsigned}
use Rattle.accounts.specs.declared.reservation.Key.{Key}
use Rattle.accounts.specs.declared.reservation.Reservation.{Reservation}
use Rattle.accounts.specs.Endings.{Ending}
use Rattle.accounts.specs.Reservations.{key_eq, key_cmp, keys_total, keys_exact, keys_tied, ReservationMap}
use Rattle.accounts.specs.Endings.{ends, without, without_at}
use Rattle.accounts.specs.Moves.{lessened_at, lessened}

find_key : (es : List (Key × Reservation)) (q : Key) → find key_cmp q es ≡ lookup (key_eq q) es
find_key [] q = refl
find_key (e ∷ es) q = ap (λ b. cond b (Some e.1) (find key_cmp q es)) (keys_tied q e.0) ∙ ap (cond (key_eq q e.0) (Some e.1)) (find_key es q)

-- what the map that the entries make has at a key
pub get_key : (es : List (Key × Reservation)) (q : Key) → get (from_entries {R = key_cmp} es) q ≡ lookup (key_eq q) es
get_key es q = get-from_entries keys_total es q ∙ find_key es q

-- entries that differ at one key make maps that differ there
pub one_set : (es fs : List (Key × Reservation)) (k : Key) (h : Reservation) → ((q : Key) → lookup (key_eq q) fs ≡ cond (key_eq k q) (Some h) (lookup (key_eq q) es)) → from_entries {R = key_cmp} fs ≡ insert (from_entries es) k h
one_set es fs k h e = same_map keys_total keys_exact _ _ (λ q.
    get_key fs q ∙ e q ∙ ap (λ b. cond b (Some h) (lookup (key_eq q) es)) (sym (keys_tied k q) ∙ (eq_by_cmp_equiv keys_total).symm k q)
    ∙ sym (get-insert keys_total (from_entries es) k h q ∙ ap (cond (eq_by_cmp key_cmp q k) (Some h)) (get_key es q)))

pub one_removed : (es fs : List (Key × Reservation)) (k : Key) → ((q : Key) → lookup (key_eq q) fs ≡ cond (key_eq k q) None (lookup (key_eq q) es)) → from_entries {R = key_cmp} fs ≡ remove (from_entries es) k
one_removed es fs k e = same_map keys_total keys_exact _ _ (λ q.
    get_key fs q ∙ e q ∙ ap (λ b. cond b None (lookup (key_eq q) es)) (sym (keys_tied k q) ∙ (eq_by_cmp_equiv keys_total).symm k q)
    ∙ sym (get-remove keys_total (from_entries es) k q ∙ ap (cond (eq_by_cmp key_cmp q k) None) (get_key es q)))

-- entries that answer alike make one map
pub same_held : (es fs : List (Key × Reservation)) → ((q : Key) → lookup (key_eq q) fs ≡ lookup (key_eq q) es) → from_entries {R = key_cmp} fs ≡ from_entries es
same_held es fs e = same_map keys_total keys_exact _ _ (λ q. get_key fs q ∙ e q ∙ sym (get_key es q))

pub from_ok : {T E : Type 0} (r : Result T E) (P : Type 0) → IsOk r → OnOk r P → P
from_ok (Ok x) P h p = p
from_ok (Err e) P h p = absurd (cc)

is_tied : (r : Ordering) → is_eq r ≡ true → r ≡ Equal
is_tied Less e = cc
is_tied Equal e = refl
is_tied Greater e = cc

pub same_key : (a b : Key) → key_eq a b ≡ true → a ≡ b
same_key a b e = keys_exact a b (is_tied (key_cmp a b) (keys_tied a b ∙ e))

-- to remove a key that goes changes nothing of what stays
pub without_removed : (m : ReservationMap) (g : Ending) (k : Key) → ends g k (get m k) ≡ true → without (remove m k) g ≡ without m g
without_removed m g k e = same_map keys_total keys_exact _ _ (λ q. without_at (remove m k) g q ∙ at_key q ∙ sym (without_at m g q))
  where
    at_key : (q : Key) → cond (not (ends g q (get (remove m k) q))) (get (remove m k) q) None ≡ cond (not (ends g q (get m q))) (get m q) None
    at_key q = ap (λ w. cond (not (ends g q w)) w None) (get-remove keys_total m k q)
        ∙ elim (eq_by_cmp key_cmp q k) as (λ b. eq_by_cmp key_cmp q k ≡ b → cond (not (ends g q (cond b None (get m q)))) (cond b None (get m q)) None ≡ cond (not (ends g q (get m q))) (get m q) None) [
          | true ↦ λ t. let same : ends g q (get m q) ≡ true = (let j : q ≡ k = keys_exact q k (is_tied _ t) in ap (λ z. ends g z (get m z)) j ∙ e) in sym (ap (λ b. cond (not b) (get m q) None) same)
          | false ↦ λ t. refl
        ] refl

pub without_none : (m : ReservationMap) (g : Ending) → ((k : Key) → ends g k (get m k) ≡ false) → without m g ≡ m
without_none m g h = same_map keys_total keys_exact _ _ (λ q. without_at m g q ∙ ap (λ b. cond (not b) (get m q) None) (h q))

pub len_removed : (m : ReservationMap) (g : Ending) (k : Key) → ends g k (get m k) ≡ true → len (remove m k) + 1 ≡ len m
len_removed m g k e = some (get m k) refl e
  where
    some : (w : Option Reservation) → get m k ≡ w → ends g k w ≡ true → len (remove m k) + 1 ≡ len m
    some None p q = absurd (cc)
    some (Some h) p q =
        let a : len (remove m k) ≡ len m - 1 = len-remove keys_total m k ∙ ap (λ (w : Option Reservation). cond (is_some w) (len m - 1) (len m)) p in
        let b : len m ≢ 0 = λ z. let n : get m k ≡ None = ap (λ n. get n k) (empty_of_len m z) ∙ get-empty key_cmp k in absurd (cc) in
        omega arith

-- what is left where not all is taken
pub lessened_more : (m : ReservationMap) (k : Key) (x : ℕ) (r : Reservation) → get m k ≡ Some r → x < r.left → lessened m k x ≡ insert m k (record { account = r.account; left = r.left - x; deadline = r.deadline })
lessened_more m k x r e lt = ap (lessened_at m k x) e ∙ ap (λ b. cond b (remove m k) (insert m k (record { account = r.account; left = r.left - x; deadline = r.deadline }))) more
  where
    more : nat_le r.left x ≡ false
    more = grind (arith, nat_tests)

-- a write that fails only where nothing stands
pub from_found : {T E X : Type 0} (r : Result T E) (w : Option X) (x : X) (P : Type 0) → OnErr r (w ≡ None) → w ≡ Some x → OnOk r P → P
from_found (Ok y) w x P absent e p = p
from_found (Err y) w x P absent e p = absurd (cc)

-- what the table has at a key is what the map has
pub stored_at : (es : List (Key × Reservation)) (m : ReservationMap) → from_entries {R = key_cmp} es ≡ m → (q : Key) → lookup (key_eq q) es ≡ get m q
stored_at es m e q = sym (get_key es q) ∙ ap (λ n. get n q) e
