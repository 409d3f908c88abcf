-- Fields whose names ascend stand in an object in their order.
use Rattle.std.proofs.Common.{◌≡◌, ℕ, Bool, true, false, ◌&&◌, List, [], ◌∷◌, ◌++◌, Option, Some, None, IsTrue, Result, Ok, Err, OnOk, refl, sym, ap, ◌∙◌, append_assoc, Ordering, Less, Equal, Greater}
use Rattle.std.specs.Ordering.{nat_cmp, match_ordering, is_gt}
use Rattle.std.specs.Cmp.Lexicographic.{slice_cmp}
use Rattle.json.specs.Token.{Token, key, begin_object, end_object}
use Rattle.json.specs.Tree.{members_tokens}
use Rattle.serde_json.specs.Data.{Data, Members, no_members, member, put}
use Rattle.serde_json.specs.Written.{members_outline}
use Rattle.json_objects.specs.Objects.{put_if, with_fields, object_of}
use Rattle.json_objects.specs.Tokens.{tokens_of, field_after, fields_after, are_above, do_ascend}

-- members, and then others
abbrev pub and_then : Members → Members → Members
and_then no_members more = more
and_then (member l e ms) more = member l e (and_then ms more)

abbrev pub before : List ℕ → Option Data → Members → Members
before name None ms = ms
before name (Some v) ms = member name v ms

-- the fields that have a value, in order
abbrev pub in_order : List (List ℕ × Option Data) → Members
in_order [] = no_members
in_order (f ∷ rest) = before f.0 f.1 (in_order rest)

-- each member's name is below this one
abbrev AreBelow : List ℕ → Members → Type 0
AreBelow name no_members = Unit {0}
AreBelow name (member l e ms) = (slice_cmp nat_cmp name l ≡ Greater) × AreBelow name ms

-- and below each of these
abbrev BelowAll : Members → List (List ℕ × Option Data) → Type 0
BelowAll ms [] = Unit {0}
BelowAll ms (f ∷ rest) = AreBelow f.0 ms × BelowAll ms rest

and_then_none : (ms : Members) → and_then ms no_members ≡ ms
and_then_none no_members = refl
and_then_none (member l e ms) = ap (member l e) (and_then_none ms)

and_then_assoc : (a b c : Members) → and_then (and_then a b) c ≡ and_then a (and_then b c)
and_then_assoc no_members b c = refl
and_then_assoc (member l e a) b c = ap (member l e) (and_then_assoc a b c)

put_last : (name : List ℕ) (v : Data) (ms : Members) → AreBelow name ms → put name v ms ≡ and_then ms (member name v no_members)
put_last name v no_members h = refl
put_last name v (member l e ms) h = ap (λ o. match_ordering o (member name v (member l e ms)) (member l v ms) (member l e (put name v ms))) h.0 ∙ ap (member l e) (put_last name v ms h.1)

below_more : (other name : List ℕ) (v : Data) (ms : Members) → slice_cmp nat_cmp other name ≡ Greater → AreBelow other ms → AreBelow other (and_then ms (member name v no_members))
below_more other name v no_members g h = (g, tt)
below_more other name v (member l e ms) g h = (h.0, below_more other name v ms g h.1)

greater : (o : Ordering) → is_gt o ≡ true → o ≡ Greater
greater Less h = absurd (cc)
greater Equal h = absurd (cc)
greater Greater h = refl

left : (a b : Bool) → (a && b) ≡ true → a ≡ true
left true b h = refl
left false b h = h

right : (a b : Bool) → (a && b) ≡ true → b ≡ true
right true b h = h
right false b h = absurd (differ h)
  where
    differ : false ≡ true → ⊥
    differ e = cc

all_more : (name : List ℕ) (v : Data) (ms : Members) (fields : List (List ℕ × Option Data)) → are_above name fields ≡ true → BelowAll ms fields → BelowAll (and_then ms (member name v no_members)) fields
all_more name v ms [] above h = tt
all_more name v ms (f ∷ rest) above h = (
  below_more f.0 name v ms (greater (slice_cmp nat_cmp f.0 name) (left (is_gt (slice_cmp nat_cmp f.0 name)) (are_above name rest) above)) h.0,
  all_more name v ms rest (right (is_gt (slice_cmp nat_cmp f.0 name)) (are_above name rest) above) h.1,
)

first : (name : List ℕ) (o : Option Data) (rest : List (List ℕ × Option Data)) (ms : Members) → are_above name rest ≡ true → AreBelow name ms → BelowAll ms rest
    → ((more : Members) → BelowAll more rest → with_fields rest more ≡ and_then more (in_order rest)) → with_fields rest (put_if name o ms) ≡ and_then ms (before name o (in_order rest))
first name None rest ms above here h later = later ms h
first name (Some v) rest ms above here h later =
    ap (with_fields rest) (put_last name v ms here) ∙ later (and_then ms (member name v no_members)) (all_more name v ms rest above h)
    ∙ and_then_assoc ms (member name v no_members) (in_order rest)

ordered_from : (fields : List (List ℕ × Option Data)) (ms : Members) → do_ascend fields ≡ true → BelowAll ms fields → with_fields fields ms ≡ and_then ms (in_order fields)
ordered_from [] ms up h = sym (and_then_none ms)
ordered_from (f ∷ rest) ms up h = first f.0 f.1 rest ms (left (are_above f.0 rest) (do_ascend rest) up) h.0 h.1 (λ more k. ordered_from rest more (right (are_above f.0 rest) (do_ascend rest) up) k)

none_below : (fields : List (List ℕ × Option Data)) → BelowAll no_members fields
none_below [] = tt
none_below (f ∷ rest) = (tt, none_below rest)

pub ordered : (fields : List (List ℕ × Option Data)) → do_ascend fields ≡ true → with_fields fields no_members ≡ in_order fields
ordered fields up = ordered_from fields no_members up (none_below fields)

-- ---- their tokens

tokens_first : (name : List ℕ) (o : Option Data) (rest : List (List ℕ × Option Data)) (ts : List Token) → ((us : List Token) → fields_after us rest ++ end_object ∷ [] ≡ us ++ members_tokens (members_outline (in_order rest)))
    → fields_after (field_after ts name o) rest ++ end_object ∷ [] ≡ ts ++ members_tokens (members_outline (before name o (in_order rest)))
unfolding tokens_of field_after
tokens_first name None rest ts later = later ts
tokens_first name (Some v) rest ts later =
    let more = members_tokens (members_outline (in_order rest)) in
    later ((ts ++ key name ∷ []) ++ tokens_of v) ∙ append_assoc (ts ++ key name ∷ []) (tokens_of v) more ∙ append_assoc ts (key name ∷ []) (tokens_of v ++ more)

tokens_ordered : (fields : List (List ℕ × Option Data)) (ts : List Token) → fields_after ts fields ++ end_object ∷ [] ≡ ts ++ members_tokens (members_outline (in_order fields))
tokens_ordered [] ts = refl
tokens_ordered (f ∷ rest) ts = tokens_first f.0 f.1 rest ts (λ us. tokens_ordered rest us)

pub object_tokens : (ts : List Token) (fields : List (List ℕ × Option Data)) → do_ascend fields ≡ true → fields_after (ts ++ begin_object ∷ []) fields ++ end_object ∷ [] ≡ ts ++ tokens_of (object_of fields)
unfolding tokens_of
object_tokens ts fields up =
    tokens_ordered fields (ts ++ begin_object ∷ []) ∙ append_assoc ts (begin_object ∷ []) (members_tokens (members_outline (in_order fields)))
    ∙ ap (λ ms. ts ++ begin_object ∷ members_tokens (members_outline ms)) (sym (ordered fields up))

pub object_ends : {E : Type 0} (r : Result (Unit {0}) E) (old new before : List Token) (fields : List (List ℕ × Option Data)) → OnOk r (new ≡ old ++ end_object ∷ []) → old ≡ fields_after (before ++ begin_object ∷ []) fields → IsTrue (do_ascend fields)
    → OnOk r (new ≡ before ++ tokens_of (object_of fields))
object_ends (Ok x) old new before fields ends is up = ends ∙ ap (λ (ts : List Token). ts ++ end_object ∷ []) is ∙ object_tokens before fields up
object_ends (Err e) old new before fields ends is up = tt
