-- What is kept by the number of a consumer: one more name, and one more key.
use Rattle.std.proofs.Common.{◌≡◌, ◌<◌, ◌==◌, ◌&&◌, ℕ, suc, Bool, true, false, cond, List, ◌∷◌, length, Option, Some, None, IfSome, refl, sym, ap, ◌∙◌, subst, arith}
use Rattle.std.specs.Option.{option_and_then}
use Rattle.std.specs.HashMap.{HashMap, get}
use Rattle.chf_core.specs.declared.key.Name.{Name}
use Rattle.chf_core.specs.declared.key.Key.{Key}
use Rattle.chf_core.specs.declared.numbered.NumberedName.{NumberedName}
use Rattle.chf_core.specs.declared.numbered.NumberedKey.{NumberedKey}
use Rattle.chf_core.specs.declared.key_table.KeyTable.{KeyTable}
use Rattle.chf_core.specs.Operator.{name_eq, number_in}
use Rattle.chf_core.specs.Sessions.{name, same_session}
use Rattle.chf_core.specs.Keys.{key, key_eq}
use Rattle.chf_core.specs.KeyTable.{AreKnown, IsSameKeyed, name_test, key_test, numbered_name, numbered_key}
use Rattle.chf_core.proofs.Named.{same_name, same_number, both}
use Rattle.chf_core.proofs.Places.{eq_yes, eq_no}
use Rattle.chf_core.proofs.NameLists.{number_below, number_one, itself}

-- a new name changes nothing, where nothing is kept of its number
pub named_same : (ns : List (List ℕ)) (c d : List ℕ) (g : ℕ → Option ℕ) → number_in ns c ≡ None → g (length ns) ≡ None → option_and_then g (number_in (c ∷ ns) d) ≡ option_and_then g (number_in ns d)
named_same ns c d g none empty = by_test (name_eq c d) refl
  where
    by_test : (b : Bool) → name_eq c d ≡ b → option_and_then g (cond b (Some (length ns)) (number_in ns d)) ≡ option_and_then g (number_in ns d)
    by_test true e = empty ∙ sym (ap (option_and_then g) (ap (number_in ns) (sym (same_name c d e)) ∙ none))
    by_test false e = refl

-- names are the same where their numbers are
number_tells : (ns : List (List ℕ)) (c d : List ℕ) (n j : ℕ) → number_in ns c ≡ Some n → number_in ns d ≡ Some j → (n == j) ≡ name_eq c d
number_tells ns c d n j e f = by_test (name_eq c d) refl
  where
    by_test : (b : Bool) → name_eq c d ≡ b → (n == j) ≡ b
    by_test true t = eq_yes n j (let h : Some n ≡ Some j = sym e ∙ ap (number_in ns) (same_name c d t) ∙ f in cc)
    by_test false t = eq_no n j (λ z. let h : c ≡ d = number_one ns c d n e (f ∙ ap Some (sym z)) in let w : true ≡ false = sym (itself c) ∙ ap (name_eq c) h ∙ t in cc)

-- one more that is kept of a number
pub entered_one : (ns : List (List ℕ)) (c d : List ℕ) (n v : ℕ) (g h : ℕ → Option ℕ) (rest : Bool) → number_in ns c ≡ Some n → ((j : ℕ) → h j ≡ cond (n == j && rest) (Some v) (g j))
    → option_and_then h (number_in ns d) ≡ cond (name_eq c d && rest) (Some v) (option_and_then g (number_in ns d))
entered_one ns c d n v g h rest e step = by_number (number_in ns d) refl
  where
    apart : number_in ns d ≡ None → name_eq c d ≡ false
    apart w = elim (name_eq c d) as (λ b. name_eq c d ≡ b → b ≡ false) [
      | true ↦ λ t. absurd (let z : Some n ≡ None = sym e ∙ ap (number_in ns) (same_name c d t) ∙ w in cc)
      | false ↦ λ t. refl
    ] refl

    by_number : (o : Option ℕ) → number_in ns d ≡ o → option_and_then h o ≡ cond (name_eq c d && rest) (Some v) (option_and_then g o)
    by_number None w = sym (ap (λ b. cond (b && rest) (Some v) None) (apart w))
    by_number (Some j) w = step j ∙ ap (λ b. cond (b && rest) (Some v) (g j)) (number_tells ns c d n j e w)

grouped : (a b c : Bool) → (a && (b && c)) ≡ ((a && b) && c)
grouped true b c = refl
grouped false b c = refl

known_one : (b : Bool) (v : ℕ) (o : Option ℕ) (P : Type 0) → (b ≡ true → P) → IfSome o (λ _. P) → IfSome (cond b (Some v) o) (λ _. P)
known_one true v o P p q = p refl
known_one false v o P p q = q

module _ {S : Type 0} where
  pub place_entered : (ns : List (List ℕ)) (m w : HashMap NumberedKey ℕ S) (c : List ℕ) (at : NumberedKey) (place : ℕ) → number_in ns c ≡ Some at.consumer
      → ((k : NumberedKey) → get key_test w k ≡ cond (key_test at k) (Some place) (get key_test m k))
      → (k : Key) → option_and_then (λ n. get key_test w (numbered_key n k)) (number_in ns k.session.consumer)
      ≡ cond (key_eq (key c at.charging_id at.number) k) (Some place) (option_and_then (λ n. get key_test m (numbered_key n k)) (number_in ns k.session.consumer))
  place_entered ns m w c at place e step k =
      entered_one ns c k.session.consumer at.consumer place (λ n. get key_test m (numbered_key n k)) (λ n. get key_test w (numbered_key n k)) (at.charging_id == k.session.charging_id && at.number == k.number) e
      (λ j. step (numbered_key j k))
      ∙ ap (λ b. cond b (Some place) (option_and_then (λ n. get key_test m (numbered_key n k)) (number_in ns k.session.consumer)))
      (grouped (name_eq c k.session.consumer) (at.charging_id == k.session.charging_id) (at.number == k.number))

  pub reference_entered : (ns : List (List ℕ)) (m w : HashMap NumberedName ℕ S) (c : List ℕ) (at : NumberedName) (reference : ℕ) → number_in ns c ≡ Some at.consumer
      → ((k : NumberedName) → get name_test w k ≡ cond (name_test at k) (Some reference) (get name_test m k))
      → (k : Name) → option_and_then (λ n. get name_test w (numbered_name n k)) (number_in ns k.consumer)
      ≡ cond (same_session (name c at.charging_id) k) (Some reference) (option_and_then (λ n. get name_test m (numbered_name n k)) (number_in ns k.consumer))
  reference_entered ns m w c at reference e step k =
      entered_one ns c k.consumer at.consumer reference (λ n. get name_test m (numbered_name n k)) (λ n. get name_test w (numbered_name n k)) (at.charging_id == k.charging_id) e (λ j. step (numbered_name j k))

  pub key_known : (ns : List (List ℕ)) (m w : HashMap NumberedKey ℕ S) (c : List ℕ) (at : NumberedKey) (place : ℕ) → number_in ns c ≡ Some at.consumer
      → ((k : NumberedKey) → get key_test w k ≡ cond (key_test at k) (Some place) (get key_test m k))
      → ((k : NumberedKey) → IfSome (get key_test m k) (λ _. k.consumer < length ns)) → (k : NumberedKey) → IfSome (get key_test w k) (λ _. k.consumer < length ns)
  key_known ns m w c at place e step old k = subst (λ o. IfSome o (λ _. k.consumer < length ns)) (sym (step k))
      (known_one (key_test at k) place (get key_test m k) (k.consumer < length ns)
      (λ t. subst (λ n. n < length ns) (same_number at.consumer k.consumer (both (at.consumer == k.consumer) (at.charging_id == k.charging_id && at.number == k.number) t).0) (number_below ns c at.consumer e)) (old k))

  pub name_known : (ns : List (List ℕ)) (m w : HashMap NumberedName ℕ S) (c : List ℕ) (at : NumberedName) (reference : ℕ) → number_in ns c ≡ Some at.consumer
      → ((k : NumberedName) → get name_test w k ≡ cond (name_test at k) (Some reference) (get name_test m k))
      → ((k : NumberedName) → IfSome (get name_test m k) (λ _. k.consumer < length ns)) → (k : NumberedName) → IfSome (get name_test w k) (λ _. k.consumer < length ns)
  name_known ns m w c at reference e step old k = subst (λ o. IfSome o (λ _. k.consumer < length ns)) (sym (step k))
      (known_one (name_test at k) reference (get name_test m k) (k.consumer < length ns)
      (λ t. subst (λ n. n < length ns) (same_number at.consumer k.consumer (both (at.consumer == k.consumer) (at.charging_id == k.charging_id) t).0) (number_below ns c at.consumer e)) (old k))

-- nothing is kept of a number that no name has
pub none_past : (n : ℕ) (o : Option ℕ) → IfSome o (λ _. n < n) → o ≡ None
none_past n None h = refl
none_past n (Some v) h = absurd (let z : n < n = h in omega arith)

pub one_longer : (o : Option ℕ) (i n : ℕ) → IfSome o (λ _. i < n) → IfSome o (λ _. i < suc n)
one_longer None i n h = tt
one_longer (Some v) i n h = let z : i < n = h in omega arith

-- tables that were reordered keep the same
pub same_keyed : (v w : KeyTable) → w.consumers.list ≡ v.consumers.list → ((k : NumberedKey) → get key_test w.places k ≡ get key_test v.places k) → ((n : NumberedName) → get name_test w.references n ≡ get name_test v.references n) → AreKnown v → IsSameKeyed v w
same_keyed v w list places references known = record {
  places = λ k i. option_and_then (λ n. places (numbered_key n k) i) (number_in (list i) k.session.consumer);
  references = λ m i. option_and_then (λ n. references (numbered_name n m) i) (number_in (list i) m.consumer);
  known = record {
    places = λ k. subst (λ (o : Option ℕ). IfSome o (λ _. k.consumer < length w.consumers.list)) (sym (places k)) (subst (λ (l : List (List ℕ)). IfSome (get key_test v.places k) (λ _. k.consumer < length l)) (sym list) (known.places k));
    references = λ m. subst (λ (o : Option ℕ). IfSome o (λ _. m.consumer < length w.consumers.list)) (sym (references m)) (subst (λ (l : List (List ℕ)). IfSome (get name_test v.references m) (λ _. m.consumer < length l)) (sym list) (known.references m));
  };
}

-- with a name that is new
pub with_one : (v w : KeyTable) (c : List ℕ) → number_in v.consumers.list c ≡ None → w.consumers.list ≡ c ∷ v.consumers.list → w.places ≡ v.places → w.references ≡ v.references → AreKnown v → IsSameKeyed v w
with_one v w c none list places references known = record {
  places = λ k.
      (λ i. option_and_then (λ n. get key_test (places i) (numbered_key n k)) (number_in (list i) k.session.consumer))
      ∙ named_same v.consumers.list c k.session.consumer (λ n. get key_test v.places (numbered_key n k)) none (none_past (length v.consumers.list) (get key_test v.places (numbered_key (length v.consumers.list) k)) (known.places (numbered_key (length v.consumers.list) k)));
  references = λ m.
      (λ i. option_and_then (λ n. get name_test (references i) (numbered_name n m)) (number_in (list i) m.consumer))
      ∙ named_same v.consumers.list c m.consumer (λ n. get name_test v.references (numbered_name n m)) none (none_past (length v.consumers.list) (get name_test v.references (numbered_name (length v.consumers.list) m)) (known.references (numbered_name (length v.consumers.list) m)));
  known = record {
    places = λ k. subst (λ (l : List (List ℕ)). IfSome (get key_test w.places k) (λ _. k.consumer < length l)) (sym list)
        (one_longer (get key_test w.places k) k.consumer (length v.consumers.list) (subst (λ t. IfSome (get key_test t k) (λ _. k.consumer < length v.consumers.list)) (sym places) (known.places k)));
    references = λ m. subst (λ (l : List (List ℕ)). IfSome (get name_test w.references m) (λ _. m.consumer < length l)) (sym list)
        (one_longer (get name_test w.references m) m.consumer (length v.consumers.list) (subst (λ t. IfSome (get name_test t m) (λ _. m.consumer < length v.consumers.list)) (sym references) (known.references m)));
  };
}

pub with_none : (v : KeyTable) → AreKnown v → IsSameKeyed v v
with_none v known = record { places = λ k. refl; references = λ n. refl; known = known }
