-- The value of a text takes at most the text.
use Rattle.std.proofs.Common.{◌≡◌, ℕ, zero, suc, ◌+◌, ◌≤◌, Bool, true, false, List, [], ◌∷◌, length, Option, Some, None, IfSome, if◌then◌else◌, option_map, option_and_then, refl, sym, ap, ◌∙◌, subst, arith, Ordering, Less, Equal, Greater}
use Rattle.std.specs.Ordering.{nat_cmp, match_ordering, is_eq}
use Rattle.std.specs.Cmp.Lexicographic.{slice_cmp}
use Rattle.std.proofs.lemmas.Map.Text.{is_eq-slice_cmp}
use Rattle.std.proofs.lemmas.Slice.Eq.{bytes_eq-Decides}
use Rattle.json.specs.Token.{Token}
use Rattle.json.specs.Lex.{tokens}
use Rattle.json.specs.Json as json
use Rattle.json.specs.Json.{Json, Parse, parse_map, after_end_array, read_key, items_step, members_step, items, members, value_with, value, if_last}
use Rattle.serde_json.specs.Data.{Data, Items, item, Members, no_members, member, put, array, object, number}
use Rattle.serde_json.specs.Read.{read, max_depth, number_of, of_json, of_items, of_members}
use Rattle.std.specs.Str.{is_utf8}
use Rattle.json_objects.specs.Fields.{is_object}
use Rattle.json_objects.specs.Body.{object_within, object_in}
use Rattle.json_objects.specs.Sizes.{size, items_size, members_size, BodiesHoldTheirObjects}
use Rattle.json_objects.proofs.TokenSizes.{tokens_size, tokens_fit}

-- ---- from tokens to a value

-- how many bytes a value's text has at least, as `size` counts them
abbrev mutual
  json_size : Json → ℕ
  json_size json.null = 1
  json_size (json.boolean b) = 1
  json_size (json.number s) = 1
  json_size (json.string s) = length s + 2
  json_size (json.array js) = suc (json_items_size js)
  json_size (json.object ms) = suc (json_members_size ms)

  json_items_size : json.Items → ℕ
  json_items_size json.no_items = 0
  json_items_size (json.item j js) = json_size j + 1 + json_items_size js

  json_members_size : json.Members → ℕ
  json_members_size json.no_members = 0
  json_members_size (json.member k j ms) = length k + 4 + json_size j + json_members_size ms

-- what was read and what is left take no more than the tokens, before which a comma counts
abbrev Fits : {A : Type 0} → (A → ℕ) → ℕ → Option (A × List Token) → Type 0
Fits measure n read = IfSome read (λ p. measure p.0 + tokens_size true p.1 ≤ n)

-- a value begins with a token that may have a comma before it
abbrev ValueFits : List Token → Option (Json × List Token) → Type 0
ValueFits ts read =
    IfSome read (λ p. (json_size p.0 + tokens_size true p.1 ≤ tokens_size false ts) ×
    (tokens_size true ts ≡ suc (tokens_size false ts)))

abbrev ItemsFit : List Token → Option (json.Items × List Token) → Type 0
ItemsFit ts read =
    Fits (λ js. json_items_size js + 1) (tokens_size true ts) read × Fits (λ js. json_items_size js + 1)
    (suc (tokens_size false ts)) read

abbrev MembersFit : List Token → Option (json.Members × List Token) → Type 0
MembersFit ts read =
    Fits (λ ms. json_members_size ms + 1) (tokens_size true ts) read × Fits (λ ms. json_members_size ms + 1)
    (suc (tokens_size false ts)) read

closed_array : (ts rest : List Token) → after_end_array ts ≡ Some rest
    → (tokens_size true ts ≡ suc (tokens_size true rest)) × (tokens_size false ts ≡ suc (tokens_size true rest))
closed_array [] rest e = absurd (cc)
closed_array (Token.begin_object ∷ ts) rest e = absurd (cc)
closed_array (Token.end_object ∷ ts) rest e = absurd (cc)
closed_array (Token.begin_array ∷ ts) rest e = absurd (cc)
closed_array (Token.end_array ∷ ts) rest e =
    let same : ts ≡ rest = cc in
    let n : tokens_size true ts ≡ tokens_size true rest = ap (tokens_size true) same in
    (omega (arith, n), omega (arith, n))
closed_array (Token.key s ∷ ts) rest e = absurd (cc)
closed_array (Token.string s ∷ ts) rest e = absurd (cc)
closed_array (Token.number s ∷ ts) rest e = absurd (cc)
closed_array (Token.boolean b ∷ ts) rest e = absurd (cc)
closed_array (Token.null ∷ ts) rest e = absurd (cc)
closed_array (Token.bad ∷ ts) rest e = absurd (cc)

then_items : (ts : List Token) (more : Parse json.Items) → ((us : List Token) → ItemsFit us (more us))
    → (o : Option (Json × List Token)) → ValueFits ts o
    → ItemsFit ts (option_and_then (λ q. parse_map (json.item q.0) (more q.1)) o)
then_items ts more all None h = (tt, tt)
then_items ts more all (Some q) h = by (more q.1) (all q.1)
  where
    by : (o : Option (json.Items × List Token)) → ItemsFit q.1 o → ItemsFit ts (parse_map (json.item q.0) o)
    by None k = (tt, tt)
    by (Some r) k = let a = k.0 in let b = h.0 in let c = h.1 in (omega (arith, a, b, c), omega (arith, a, b))

item_turn : (p : Parse Json) → ((us : List Token) → ValueFits us (p us)) → (more : Parse json.Items)
    → ((us : List Token) → ItemsFit us (more us))
    → (ts : List Token) (o : Option (List Token)) → after_end_array ts ≡ o → ItemsFit ts (items_step p more ts o)
item_turn p fits more all ts (Some rest) e =
    let n = closed_array ts rest e in let a = n.0 in let b = n.1 in (omega (arith, a), omega (arith, b))
item_turn p fits more all ts None e = then_items ts more all (p ts) (fits ts)

items_fit : (p : Parse Json) → ((us : List Token) → ValueFits us (p us)) → (n : ℕ) (ts : List Token)
    → ItemsFit ts (items p n ts)
unfolding items
items_fit p fits zero ts = (tt, tt)
items_fit p fits (suc n) ts = item_turn p fits (items p n) (items_fit p fits n) ts (after_end_array ts) refl

then_members : (k : List ℕ) (ts : List Token) (more : Parse json.Members)
    → ((us : List Token) → MembersFit us (more us)) → (o : Option (Json × List Token)) → ValueFits ts o
    → MembersFit (Token.key k ∷ ts) (option_and_then (λ q. parse_map (json.member k q.0) (more q.1)) o)
then_members k ts more all None h = (tt, tt)
then_members k ts more all (Some q) h = by (more q.1) (all q.1)
  where
    by : (o : Option (json.Members × List Token)) → MembersFit q.1 o
        → MembersFit (Token.key k ∷ ts) (parse_map (json.member k q.0) o)
    by None n = (tt, tt)
    by (Some r) n = let a = n.0 in let b = h.0 in (omega (arith, a, b), omega (arith, a, b))

member_turn : (p : Parse Json) → ((us : List Token) → ValueFits us (p us)) → (more : Parse json.Members)
    → ((us : List Token) → MembersFit us (more us))
    → (ts : List Token) → MembersFit ts (option_and_then (λ q. members_step p more q.0 q.1) (read_key ts))
member_turn p fits more all [] = (tt, tt)
member_turn p fits more all (Token.begin_object ∷ ts) = (tt, tt)
member_turn p fits more all (Token.end_object ∷ ts) = (omega arith, omega arith)
member_turn p fits more all (Token.begin_array ∷ ts) = (tt, tt)
member_turn p fits more all (Token.end_array ∷ ts) = (tt, tt)
member_turn p fits more all (Token.key k ∷ ts) = then_members k ts more all (p ts) (fits ts)
member_turn p fits more all (Token.string s ∷ ts) = (tt, tt)
member_turn p fits more all (Token.number s ∷ ts) = (tt, tt)
member_turn p fits more all (Token.boolean b ∷ ts) = (tt, tt)
member_turn p fits more all (Token.null ∷ ts) = (tt, tt)
member_turn p fits more all (Token.bad ∷ ts) = (tt, tt)

members_fit : (p : Parse Json) → ((us : List Token) → ValueFits us (p us)) → (n : ℕ) (ts : List Token)
    → MembersFit ts (members p n ts)
unfolding members
members_fit p fits zero ts = (tt, tt)
members_fit p fits (suc n) ts = member_turn p fits (members p n) (members_fit p fits n) ts

an_array : (ts : List Token) (o : Option (json.Items × List Token)) → ItemsFit ts o
    → ValueFits (Token.begin_array ∷ ts) (parse_map json.array o)
an_array ts None h = tt
an_array ts (Some r) h = let a = h.1 in (omega (arith, a), omega arith)

an_object : (ts : List Token) (o : Option (json.Members × List Token)) → MembersFit ts o
    → ValueFits (Token.begin_object ∷ ts) (parse_map json.object o)
an_object ts None h = tt
an_object ts (Some r) h = let a = h.1 in (omega (arith, a), omega arith)

one_level : (a : Parse json.Items) (o : Parse json.Members) → ((ts : List Token) → ItemsFit ts (a ts))
    → ((ts : List Token) → MembersFit ts (o ts)) → (ts : List Token) → ValueFits ts (value_with a o ts)
one_level a o ha ho [] = tt
one_level a o ha ho (Token.begin_object ∷ ts) = an_object ts (o ts) (ho ts)
one_level a o ha ho (Token.end_object ∷ ts) = tt
one_level a o ha ho (Token.begin_array ∷ ts) = an_array ts (a ts) (ha ts)
one_level a o ha ho (Token.end_array ∷ ts) = tt
one_level a o ha ho (Token.key s ∷ ts) = tt
one_level a o ha ho (Token.string s ∷ ts) = (omega arith, omega arith)
one_level a o ha ho (Token.number s ∷ ts) = (omega arith, omega arith)
one_level a o ha ho (Token.boolean b ∷ ts) = (omega arith, omega arith)
one_level a o ha ho (Token.null ∷ ts) = (omega arith, omega arith)
one_level a o ha ho (Token.bad ∷ ts) = tt

value_fits : (levels : ℕ) (ts : List Token) → ValueFits ts (value levels ts)
unfolding value
value_fits zero ts = one_level (λ us. None) (λ us. None) (λ us. (tt, tt)) (λ us. (tt, tt)) ts
value_fits (suc levels) ts =
    one_level (λ us. items (value levels) (length us) us) (λ us. members (value levels) (length us) us)
    (λ us. items_fit (value levels) (value_fits levels) (length us) us)
    (λ us. members_fit (value levels) (value_fits levels) (length us) us) ts

-- ---- the members of an object, of which the last of a name stays

same_key : (k l : List ℕ) → slice_cmp nat_cmp k l ≡ Equal → length k ≡ length l
same_key k l e = ap length ((bytes_eq-Decides k l).0 (sym (is_eq-slice_cmp k l) ∙ ap is_eq e))

put_at : (o : Ordering) (k l : List ℕ) (d e : Data) (ms : Members) → slice_cmp nat_cmp k l ≡ o
    → members_size (put k d ms) ≤ length k + 4 + size d + members_size ms
    → members_size (match_ordering o (member k d (member l e ms)) (member l d ms) (member l e (put k d ms)))
    ≤ length k + 4 + size d + members_size (member l e ms)
put_at Less k l d e ms is h = omega arith
put_at Equal k l d e ms is h = let same = same_key k l is in omega (arith, same)
put_at Greater k l d e ms is h = omega (arith, h)

put_size : (k : List ℕ) (d : Data) (ms : Members)
    → members_size (put k d ms) ≤ length k + 4 + size d + members_size ms
put_size k d no_members = omega arith
put_size k d (member l e ms) = put_at (slice_cmp nat_cmp k l) k l d e ms refl (put_size k d ms)

abbrev Kept : ℕ → Option Data → Type 0
Kept n o = IfSome o (λ d. size d ≤ n)

abbrev ItemsKept : ℕ → Option Items → Type 0
ItemsKept n o = IfSome o (λ ds. items_size ds ≤ n)

abbrev MembersKept : ℕ → Option Members → Type 0
MembersKept n o = IfSome o (λ ms. members_size ms ≤ n)

number_kept : (s : List ℕ) → Kept 1 (option_map number (number_of s))
number_kept s = by (number_of s)
  where
    by : (o : Option _) → Kept 1 (option_map number o)
    by None = tt
    by (Some n) = omega arith

array_kept : (n : ℕ) (o : Option Items) → ItemsKept n o → Kept (suc n) (option_map array o)
array_kept n None h = tt
array_kept n (Some ds) h = omega (arith, h)

object_kept : (n : ℕ) (o : Option Members) → MembersKept n o → Kept (suc n) (option_map object o)
object_kept n None h = tt
object_kept n (Some ms) h = omega (arith, h)

item_kept : (n m : ℕ) (o : Option Data) (rest : Option Items) → Kept n o → ItemsKept m rest
    → ItemsKept (n + 1 + m) (option_and_then (λ d. option_map (item d) rest) o)
item_kept n m None rest h k = tt
item_kept n m (Some d) None h k = tt
item_kept n m (Some d) (Some ds) h k = omega (arith, h, k)

member_kept : (k : List ℕ) (n m : ℕ) (found : Members) (rest : Members → Option Members) (o : Option Data) → Kept n o
    → ((ms : Members) → MembersKept (m + members_size ms) (rest ms))
    → MembersKept (length k + 4 + n + m + members_size found) (option_and_then (λ d. rest (put k d found)) o)
member_kept k n m found rest None h all = tt
member_kept k n m found rest (Some d) h all = by (rest (put k d found)) (all (put k d found))
  where
    by : (r : Option Members) → MembersKept (m + members_size (put k d found)) r
        → MembersKept (length k + 4 + n + m + members_size found) r
    by None l = tt
    by (Some ms) l = let p = put_size k d found in omega (arith, h, l, p)

mutual
  value_kept : (j : Json) → Kept (json_size j) (of_json j)
  value_kept json.null = omega arith
  value_kept (json.boolean b) = omega arith
  value_kept (json.number s) = number_kept s
  value_kept (json.string s) = omega arith
  value_kept (json.array js) = array_kept (json_items_size js) (of_items js) (items_kept js)
  value_kept (json.object ms) =
      object_kept (json_members_size ms) (of_members ms no_members)
      (by (of_members ms no_members) (members_kept ms no_members))
    where
      by : (o : Option Members) → MembersKept (json_members_size ms + 0) o → MembersKept (json_members_size ms) o
      by None h = tt
      by (Some r) h = omega (arith, h)

  items_kept : (js : json.Items) → ItemsKept (json_items_size js) (of_items js)
  items_kept json.no_items = omega arith
  items_kept (json.item j js) =
      item_kept (json_size j) (json_items_size js) (of_json j) (of_items js) (value_kept j) (items_kept js)

  members_kept : (ms : json.Members) (found : Members)
      → MembersKept (json_members_size ms + members_size found) (of_members ms found)
  members_kept json.no_members found = omega arith
  members_kept (json.member k j ms) found =
      member_kept k (json_size j) (json_members_size ms) found (of_members ms) (of_json j) (value_kept j)
      (λ more. members_kept ms more)

-- ---- a text and its value

whole_fits : (ts : List Token) (o : Option (Json × List Token)) → ValueFits ts o
    → IfSome (option_and_then (λ p. if_last p.0 p.1) o) (λ j. json_size j ≤ tokens_size false ts)
whole_fits ts None h = tt
whole_fits ts (Some (j, [])) h = let a = h.0 in omega (arith, a)
whole_fits ts (Some (j, t ∷ rest)) h = tt

data_fits : (n : ℕ) (o : Option Json) → IfSome o (λ j. json_size j ≤ n) → Kept n (option_and_then of_json o)
data_fits n None h = tt
data_fits n (Some j) h = by (of_json j) (value_kept j)
  where
    by : (o : Option Data) → Kept (json_size j) o → Kept n o
    by None k = tt
    by (Some d) k = omega (arith, h, k)

text_holds : (text : List ℕ) → IfSome (read text) (λ value. size value ≤ length text)
text_holds text =
    by (read text) (data_fits (tokens_size false (tokens text))
    (option_and_then (λ p. if_last p.0 p.1) (value max_depth (tokens text)))
    (whole_fits (tokens text) (value max_depth (tokens text)) (value_fits max_depth (tokens text))))
  where
    by : (o : Option Data) → Kept (tokens_size false (tokens text)) o → Kept (length text) o
    by None h = tt
    by (Some d) h = let l = tokens_fit text in omega (arith, h, l)

object_holds : (n : ℕ) (o : Option Data) → Kept n o → Kept n (object_within o)
object_holds n None h = tt
object_holds n (Some value) h = by (is_object value)
  where
    by : (b : Bool) → Kept n (if b then Some value else None)
    by true = h
    by false = tt

body_holds : (body : List ℕ) → Kept (length body) (object_in body)
body_holds body = by (is_utf8 body)
  where
    by : (b : Bool) → Kept (length body) (if b then object_within (read body) else None)
    by true = object_holds (length body) (read body) (text_holds body)
    by false = tt

pub bodies_hold_their_objects : BodiesHoldTheirObjects
bodies_hold_their_objects body value reads = subst (Kept (length body)) reads (body_holds body)
