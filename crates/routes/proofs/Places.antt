-- The table's answer is the place of a path in words of its own.
use Rattle.std.proofs.Common.{◌≡◌, ℕ, zero, suc, ◌+◌, List, [], ◌∷◌, ◌++◌, length, take, drop, Option, Some, None, Bool, true, false, cond, refl, sym, ap, ◌∙◌, arith, nat_eq, ◌==◌, ltb, ◌&&◌, codes, drop-drop}
use Rattle.std.proofs.lemmas.Bool.Decides.{nat_tests}
use Rattle.std.specs.Prelude.{bytes_eq}
use Rattle.std.specs.List.{starts_with}
use Rattle.std.specs.Cmp.Lexicographic.{pointwise, bytes_decides}
use Rattle.matchit.specs.Seek.{first, has_slash}
use Rattle.matchit.specs.Order.{lookup}
use Rattle.matchit.specs.Level.{IsText}
use Rattle.matchit.specs.Router.{map_key}
use Rattle.matchit.proofs.RenameLemmas.{first-rename}
use Rattle.rows.specs.Pieces.{piece_length}
use Rattle.routes.specs.declared.place.Place.{Place}
use Rattle.routes.specs.declared.place.Place.TheVariants as place
use Rattle.routes.specs.declared.place.Route.{Route}
use Rattle.routes.specs.declared.place.Route.TheVariants.{Sessions, Update, Release, Subscriptions, Subscription}
use Rattle.routes.specs.Paths.{begins_with, below_sessions, below_subscriptions, deed, in_session, in_subscription, number_in, place_in, sessions, subscriptions}
use Rattle.routes.specs.Table.{first_piece, name_after, place_by, route_in, route_of}
use Rattle.routes.proofs.Literal.{drop_is_text}
use Rattle.routes.proofs.Names.{after, name, slash_is_within, whole_name}
use Rattle.routes.proofs.Levels.{at_collection, charging_end, collection, deeds, first_numbered, front, in_collection, in_session_rows, in_subscription_rows, key_by, numbered, row_of, session_rows, some_session, some_subscription, spending_end, subscription_rows, table_is_numbered}

-- ---- texts that are the same

nat_eq_turned : (a b : ℕ) → nat_eq a b ≡ nat_eq b a
nat_eq_turned a b = grind (arith, nat_tests)

pub same_turned : (xs ys : List ℕ) → pointwise nat_eq xs ys ≡ pointwise nat_eq ys xs
same_turned [] [] = refl
same_turned [] (y ∷ ys) = refl
same_turned (x ∷ xs) [] = refl
same_turned (x ∷ xs) (y ∷ ys) = rw (nat_eq_turned x y, same_turned xs ys) refl

begins_is : (text beginning : List ℕ) → starts_with nat_eq text beginning ≡ begins_with text beginning
begins_is text beginning = same_turned beginning (take (length beginning) text)

-- a text begins with two texts in a row
starts_with_both : (one other text : List ℕ) → starts_with nat_eq text (one ++ other) ≡ (starts_with nat_eq text one && starts_with nat_eq (drop (length one) text) other)
starts_with_both [] other text = refl
starts_with_both (x ∷ one) other [] = refl
starts_with_both (x ∷ one) other (y ∷ text) = rw (starts_with_both one other text) (grouped (nat_eq x y) (starts_with nat_eq text one) (starts_with nat_eq (drop (length one) text) other))
  where
    grouped : (u v w : Bool) → (u && (v && w)) ≡ ((u && v) && w)
    grouped true v w = refl
    grouped false v w = refl

-- ---- the place of a key

-- the route of a key
kind : ℕ → Route
kind zero = Sessions
kind (suc zero) = Update
kind (suc (suc zero)) = Release
kind (suc (suc (suc zero))) = Subscriptions
kind (suc (suc (suc (suc key)))) = Subscription

-- the place of a path whose walk ends at a key
place_of : List ℕ → Option ℕ → Option Place
place_of path None = None
place_of path (Some key) = Some (place_by (kind key) path)

-- the place of a path that takes a route
abbrev pub routed : List ℕ → Option Route → Option Place
routed path None = None
routed path (Some route) = Some (place_by route path)

of_row : (path : List ℕ) (key : Option ℕ) → routed path (route_of (map_key row_of key)) ≡ place_of path key
unfolding kind place_of
of_row path None = refl
of_row path (Some zero) = refl
of_row path (Some (suc zero)) = refl
of_row path (Some (suc (suc zero))) = refl
of_row path (Some (suc (suc (suc zero)))) = refl
of_row path (Some (suc (suc (suc (suc key))))) = refl

-- ---- sessions

-- no text is both of the deeds
of_deed : (path text : List ℕ) → place_of path (lookup text deeds) ≡ deed (number_in (name_after sessions path)) text
unfolding kind place_of
of_deed path text =
    rw (same_turned (codes "/release") text, same_turned (codes "/update") text)
    (by (bytes_eq text (codes "/release")) refl (bytes_eq text (codes "/update")) refl)
  where
    by : (u : Bool) → bytes_eq text (codes "/release") ≡ u → (v : Bool) → bytes_eq text (codes "/update") ≡ v
        → place_of path (cond u (Some 2) (cond v (Some 1) None))
        ≡ cond v (Some (place.Update (number_in (name_after sessions path)))) (cond u (Some (place.Release (number_in (name_after sessions path)))) None)
    by true e true q =
        let same : codes "/release" ≡ codes "/update" = sym ((bytes_decides text (codes "/release")).0 e) ∙ (bytes_decides text (codes "/update")).0 q in
        absurd (cc)
    by true e false q = refl
    by false e true q = refl
    by false e false q = refl

of_session : (path text : List ℕ) → IsText text → drop (length sessions + 1) path ≡ text → place_of path (first session_rows text) ≡ in_session text
unfolding place_of
of_session path text h e = ap (place_of path) (in_session_rows text h) ∙ by (ltb 0 (piece_length 47 text))
  where
    named : number_in (name_after sessions path) ≡ number_in (name text)
    named = ap (λ z. number_in (first_piece z)) e

    by : (v : Bool) → place_of path (cond v (lookup (after text) deeds) None) ≡ cond v (deed (number_in (name text)) (after text)) None
    by true = of_deed path (after text) ∙ ap (λ z. deed z (after text)) named
    by false = refl

of_sessions : (path text : List ℕ) → IsText text → drop (length sessions) path ≡ text → place_of path (first (collection session_rows 0) text) ≡ below_sessions text
unfolding kind place_of
of_sessions path [] h e = ap (place_of path) (at_collection session_rows 0 some_session)
of_sessions path (b ∷ p) h e = ap (place_of path) (in_collection session_rows 0 b p some_session h.0) ∙ by (b == 47)
  where
    below : drop (length sessions + 1) path ≡ p
    below = sym (drop-drop 1 (length sessions) path) ∙ ap (drop 1) e

    by : (v : Bool) → place_of path (cond v (first session_rows p) None) ≡ cond v (in_session p) None
    by true = of_session path p h.1 below
    by false = refl

-- ---- subscriptions

of_subscription : (path text : List ℕ) → IsText text → drop (length subscriptions + 1) path ≡ text → place_of path (first subscription_rows text) ≡ in_subscription text
unfolding kind place_of
of_subscription path text h e =
    ap (place_of path) (in_subscription_rows text h) ∙ rw (sym (slash_is_within text)) (by (ltb 0 (length text)) (has_slash text) refl)
  where
    by : (u v : Bool) → has_slash text ≡ v → place_of path (cond u (cond v None (Some 4)) None) ≡ cond u (cond v None (Some (place.Subscription (number_in text)))) None
    by false v q = refl
    by true true q = refl
    by true false q = ap (λ z. Some (place.Subscription (number_in z))) (ap first_piece e ∙ whole_name text q)

of_subscriptions : (path text : List ℕ) → IsText text → drop (length subscriptions) path ≡ text → place_of path (first (collection subscription_rows 3) text) ≡ below_subscriptions text
unfolding kind place_of
of_subscriptions path [] h e = ap (place_of path) (at_collection subscription_rows 3 some_subscription)
of_subscriptions path (b ∷ p) h e = ap (place_of path) (in_collection subscription_rows 3 b p some_subscription h.0) ∙ by (b == 47)
  where
    below : drop (length subscriptions + 1) path ≡ p
    below = sym (drop-drop 1 (length subscriptions) path) ∙ ap (drop 1) e

    by : (v : Bool) → place_of path (cond v (first subscription_rows p) None) ≡ cond v (in_subscription p) None
    by true = of_subscription path p h.1 below
    by false = refl

-- ---- paths

of_key : (path : List ℕ) → IsText path → place_of path (key_by path) ≡ place_in path
unfolding place_of
of_key path h =
    rw (sym (begins_is path sessions), sym (begins_is path subscriptions), starts_with_both front charging_end path, starts_with_both front spending_end path)
    (by (starts_with nat_eq path front) (starts_with nat_eq (drop (length front) path) charging_end) (starts_with nat_eq (drop (length front) path) spending_end))
  where
    charging : drop (length sessions) path ≡ drop (length charging_end) (drop (length front) path)
    charging = sym (drop-drop (length charging_end) (length front) path)

    spending : drop (length subscriptions) path ≡ drop (length spending_end) (drop (length front) path)
    spending = sym (drop-drop (length spending_end) (length front) path)

    by : (u v w : Bool) → place_of path (cond u (cond v (first (collection session_rows 0) (drop (length charging_end) (drop (length front) path))) (cond w (first (collection subscription_rows 3) (drop (length spending_end) (drop (length front) path))) None)) None)
        ≡ cond (u && v) (below_sessions (drop (length sessions) path)) (cond (u && w) (below_subscriptions (drop (length subscriptions) path)) None)
    by false v w = refl
    by true true w = ap (λ z. place_of path (first (collection session_rows 0) z)) (sym charging) ∙ of_sessions path (drop (length sessions) path) (drop_is_text (length sessions) path h) refl
    by true false true = ap (λ z. place_of path (first (collection subscription_rows 3) z)) (sym spending) ∙ of_subscriptions path (drop (length subscriptions) path) (drop_is_text (length subscriptions) path h) refl
    by true false false = refl

-- the place by the route that a path takes is the place that it names
pub routed_is_place : (path : List ℕ) → IsText path → routed path (route_in path) ≡ place_in path
routed_is_place path h =
    ap (λ rs. routed path (route_of (first rs path))) table_is_numbered
    ∙ ap (λ row. routed path (route_of row)) (first-rename row_of numbered path)
    ∙ of_row path (first numbered path)
    ∙ ap (place_of path) (first_numbered path h)
    ∙ of_key path h
