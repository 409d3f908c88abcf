-- The table as the router's levels: where the walk over a path ends.
use Rattle.std.proofs.Common.{◌≡◌, ℕ, zero, suc, ◌-◌, ◌<◌, List, [], ◌∷◌, ◌++◌, length, drop, Option, Some, None, Bool, true, false, cond, refl, sym, ap, ◌∙◌, arith, nat_eq, ◌==◌, ltb, codes}
use Rattle.std.proofs.lemmas.Bool.Decides.{nat_tests}
use Rattle.std.specs.List.{starts_with}
use Rattle.matchit.specs.Rows.{Rows, Seen, prepend, ends, rows, rows_of, level}
use Rattle.matchit.specs.Seek.{step, or_else, seek, first, param_step, has_slash, segment, better, longest_suffix, after_param}
use Rattle.matchit.specs.Order.{lookup}
use Rattle.matchit.specs.Level.{IsText, IsIndexed, AreSuffixes}
use Rattle.matchit.specs.Router.{rename, RouteOf}
use Rattle.matchit.proofs.SeekLemmas.{first-prefix, seek-empty, param_step-empty, or_else-none}
use Rattle.matchit.proofs.LevelLemmas.{level-nil, level-cons, kid-found, kid-none}
use Rattle.matchit.proofs.ParamLemmas.{after_param-kid, after_param-stop, after_param-end}
use Rattle.matchit.proofs.LongestLemmas.{better-again}
use Rattle.routes.specs.declared.place.Route.{Route}
use Rattle.routes.specs.Table.{release_row, sessions_row, subscription_row, subscriptions_row, table, update_row}
use Rattle.routes.proofs.Literal.{AreTexts, drop_is_text, seek_is_lookup, tested}
use Rattle.routes.proofs.Names.{after, cuts_after_name, cuts_nowhere, nothing_after, taken}
use Rattle.rows.specs.Pieces.{piece_length}

-- ---- a node whose routes go on after a slash, whatever they are

-- no byte goes on where a level has no nodes by a byte
no_kid : (b : ℕ) (p : List ℕ) → seek 0 (step b (rows_of [])) p ≡ None
no_kid b p = seek-empty 0 p

-- no parameter goes on where a level has none
no_param : (b : ℕ) (p : List ℕ) → after_param (rows_of [] ++ ends None) (b ∷ p) ≡ None
no_param b p = rw (param_step-empty (b ∷ p)) (seek-empty ((param_step {K = ℕ} [] (b ∷ p)).0 - 1) p)

-- a level with no parameter and no catch-all answers by its nodes alone
by_kids : (bytes : List ℕ) (kids : List Seen) (own_end : Option ℕ) (b : ℕ) (p : List ℕ) → IsIndexed bytes kids → b < 256
    → first (level kids [] None None own_end) (b ∷ p) ≡ seek 0 (step b (rows_of kids)) p
by_kids bytes kids own_end b p indexed l =
    level-cons bytes kids [] None None own_end b p indexed l
    ∙ ap (λ z. or_else (seek 0 (step b (rows_of kids)) p) (or_else z None)) (no_param b p)
    ∙ or_else-none (seek 0 (step b (rows_of kids)) p)

-- a level with a parameter alone answers by it
by_param : (suffixes : List Seen) (param_end : Option ℕ) (b : ℕ) (p : List ℕ) → b < 256
    → first (level [] suffixes param_end None None) (b ∷ p) ≡ after_param (rows_of suffixes ++ ends param_end) (b ∷ p)
by_param suffixes param_end b p l =
    level-cons [] [] suffixes param_end None None b p tt l
    ∙ ap (λ z. or_else z (or_else (after_param (rows_of suffixes ++ ends param_end) (b ∷ p)) None)) (no_kid b p)
    ∙ or_else-none (after_param (rows_of suffixes ++ ends param_end) (b ∷ p))

-- the node of a slash
abbrev slash_kid : Rows → Seen
slash_kid members = record { prefix = codes "/"; tails = members; height = 1 }

-- a collection with its own route and what stands below a slash
abbrev pub collection : Rows → ℕ → Rows
collection members key = level (slash_kid members ∷ []) [] None None (Some key)

pub in_collection : (members : Rows) (key b : ℕ) (p : List ℕ) → 0 < length members → b < 256
    → first (collection members key) (b ∷ p) ≡ cond (b == 47) (first members p) None
in_collection members key b p some l =
    by_kids (47 ∷ []) (slash_kid members ∷ []) (Some key) b p indexed l ∙ at_slash (b == 47) refl
  where
    indexed : IsIndexed (47 ∷ []) (slash_kid members ∷ [])
    indexed = (omega arith, refl, tt, tt, some)

    at_slash : (v : Bool) → (b == 47) ≡ v → seek 0 (step b (rows_of (slash_kid members ∷ []))) p ≡ cond v (first members p) None
    at_slash true e =
        let same : b ≡ 47 = grind (arith, nat_tests) in
        rw same ((kid-found (47 ∷ []) (slash_kid members ∷ []) 0 (slash_kid members) 47 p indexed refl).1 ∙ first-prefix (codes "/") members (47 ∷ p) (omega arith, tt))
    at_slash false e =
        let other : (47 == b) ≡ false = grind (arith, nat_tests) in
        kid-none (47 ∷ []) (slash_kid members ∷ []) b p indexed (rw other refl)

pub at_collection : (members : Rows) (key : ℕ) → 0 < length members → first (collection members key) [] ≡ Some key
at_collection members key some =
    let indexed : IsIndexed (47 ∷ []) (slash_kid members ∷ []) = (omega arith, refl, tt, tt, some) in
    level-nil (47 ∷ []) (slash_kid members ∷ []) [] None None (Some key) indexed

-- ---- sessions

-- what is done with a session
abbrev pub deeds : Rows
deeds = (codes "/release", 2) ∷ (codes "/update", 1) ∷ []

deed_suffix : Seen
deed_suffix = record { prefix = codes "/"; tails = (codes "release", 2) ∷ (codes "update", 1) ∷ []; height = 0 }

pub session_rows : Rows
unfolding deed_suffix
session_rows = level [] (deed_suffix ∷ []) None None None

is_suffix : AreSuffixes (deed_suffix ∷ [])
unfolding deed_suffix
is_suffix = (record { some_prefix = omega arith; some_rows = omega arith; all_segment = (refl, (refl, tt)) }, tt, tt)

longest : (text : List ℕ) → longest_suffix text (rows_of (deed_suffix ∷ [])) ≡ better text [] (codes "/")
unfolding deed_suffix
longest text = better-again text [] (codes "/")

deeds_are_texts : AreTexts deeds
deeds_are_texts = (tested (codes "/release") refl, (tested (codes "/update") refl, tt))

-- a name of no byte, or of some, with a slash after it or none
by_name : (b : ℕ) (p : List ℕ) → after_param (rows_of (deed_suffix ∷ []) ++ ends None) (b ∷ p) ≡ cond (ltb 0 (piece_length 47 (b ∷ p))) (lookup (after (b ∷ p)) deeds) None
unfolding deed_suffix
by_name b p = on_slash (has_slash (b ∷ p)) refl
  where
    on_slash : (v : Bool) → has_slash (b ∷ p) ≡ v → after_param (rows_of (deed_suffix ∷ []) ++ ends None) (b ∷ p) ≡ cond (ltb 0 (piece_length 47 (b ∷ p))) (lookup (after (b ∷ p)) deeds) None
    on_slash true s = named (ltb 0 (piece_length 47 (b ∷ p))) refl
      where
        named : (w : Bool) → ltb 0 (piece_length 47 (b ∷ p)) ≡ w → after_param (rows_of (deed_suffix ∷ []) ++ ends None) (b ∷ p) ≡ cond w (lookup (after (b ∷ p)) deeds) None
        named true e =
            let chosen : better (segment (b ∷ p)) [] (codes "/") ≡ codes "/" = rw (cuts_after_name (b ∷ p) s ∙ e) refl in
            let walk = after_param-kid (deed_suffix ∷ []) 0 deed_suffix None b p is_suffix (omega arith) (sym (longest (segment (b ∷ p)) ∙ chosen)) in
            walk ∙ ap (λ z. first (rows deed_suffix) (drop z (b ∷ p))) (taken (b ∷ p) s) ∙ seek_is_lookup deeds (after (b ∷ p)) deeds_are_texts
        named false e =
            let chosen : better (segment (b ∷ p)) [] (codes "/") ≡ [] = rw (cuts_after_name (b ∷ p) s ∙ e) refl in
            after_param-stop (deed_suffix ∷ []) None b p (longest (segment (b ∷ p)) ∙ chosen) s
    on_slash false s =
        let chosen : better (segment (b ∷ p)) [] (codes "/") ≡ [] = rw (cuts_nowhere (b ∷ p) s) refl in
        after_param-end (deed_suffix ∷ []) None b p is_suffix (longest (segment (b ∷ p)) ∙ chosen) s ∙ nowhere (ltb 0 (piece_length 47 (b ∷ p))) (nothing_after (b ∷ p) s)
      where
        nowhere : (w : Bool) → after (b ∷ p) ≡ [] → None ≡ cond w (lookup (after (b ∷ p)) deeds) None
        nowhere true q = rw q refl
        nowhere false q = refl

pub in_session_rows : (text : List ℕ) → IsText text → first session_rows text ≡ cond (ltb 0 (piece_length 47 text)) (lookup (after text) deeds) None
unfolding session_rows
in_session_rows [] h = level-nil [] [] (deed_suffix ∷ []) None None None tt
in_session_rows (b ∷ p) h = by_param (deed_suffix ∷ []) None b p h.0 ∙ by_name b p

pub some_session : 0 < length session_rows
unfolding session_rows deed_suffix
some_session = omega arith

-- ---- subscriptions

pub subscription_rows : Rows
subscription_rows = level [] [] (Some 4) None None

pub in_subscription_rows : (text : List ℕ) → IsText text → first subscription_rows text ≡ cond (ltb 0 (length text)) (cond (has_slash text) None (Some 4)) None
unfolding subscription_rows
in_subscription_rows [] h = level-nil [] [] [] (Some 4) None None tt
in_subscription_rows (b ∷ p) h =
    let some : ltb 0 (suc (length p)) ≡ true = grind (arith, nat_tests) in
    rw some (by_param [] (Some 4) b p h.0 ∙ on_slash (has_slash (b ∷ p)) refl)
  where
    on_slash : (v : Bool) → has_slash (b ∷ p) ≡ v → after_param (rows_of [] ++ ends (Some 4)) (b ∷ p) ≡ cond v None (Some 4)
    on_slash true s = after_param-stop [] (Some 4) b p refl s
    on_slash false s = after_param-end [] (Some 4) b p tt refl s

pub some_subscription : 0 < length subscription_rows
unfolding subscription_rows
some_subscription = omega arith

-- ---- the table

-- what both collections begin with
abbrev pub front : List ℕ
front = codes "/nchf-"

-- what follows it
abbrev pub charging_end : List ℕ
charging_end = codes "convergedcharging/v3/chargingdata"

abbrev pub spending_end : List ℕ
spending_end = codes "spendinglimitcontrol/v1/subscriptions"

abbrev charging_kid : Seen
charging_kid = record { prefix = charging_end; tails = collection session_rows 0; height = 2 }

abbrev spending_kid : Seen
spending_kid = record { prefix = spending_end; tails = collection subscription_rows 3; height = 2 }

abbrev kids : List Seen
kids = charging_kid ∷ spending_kid ∷ []

abbrev top : Rows
top = level kids [] None None None

indexed : IsIndexed (99 ∷ 115 ∷ []) kids
unfolding session_rows subscription_rows
indexed = (omega arith, refl, (omega arith, tt), (omega arith, refl, tt, tt, omega arith), omega arith)

-- what follows the front
abbrev pub in_top_by : List ℕ → Option ℕ
in_top_by text =
    cond (starts_with nat_eq text charging_end) (first (collection session_rows 0) (drop (length charging_end) text))
    (cond (starts_with nat_eq text spending_end) (first (collection subscription_rows 3) (drop (length spending_end) text)) None)

charging_is_text : IsText charging_end
charging_is_text = tested charging_end refl

spending_is_text : IsText spending_end
spending_is_text = tested spending_end refl

front_is_text : IsText front
front_is_text = tested front refl

in_top : (text : List ℕ) → IsText text → first top text ≡ in_top_by text
in_top [] h = level-nil (99 ∷ 115 ∷ []) kids [] None None None indexed
in_top (b ∷ p) h = by_kids (99 ∷ 115 ∷ []) kids None b p indexed h.0 ∙ at_charging (b == 99) refl
  where
    at_spending : (v : Bool) → (b == 115) ≡ v → (b == 99) ≡ false → seek 0 (step b (rows_of kids)) p ≡ in_top_by (b ∷ p)
    at_spending true e n =
        let same : b ≡ 115 = grind (arith, nat_tests) in
        rw same ((kid-found (99 ∷ 115 ∷ []) kids 1 spending_kid 115 p indexed refl).1 ∙ first-prefix spending_end (collection subscription_rows 3) (115 ∷ p) spending_is_text)
    at_spending false e n =
        let other : (99 == b) ≡ false = grind (arith, nat_tests) in
        let another : (115 == b) ≡ false = grind (arith, nat_tests) in
        let first_other : nat_eq 99 b ≡ false = grind (arith, nat_tests) in
        let first_another : nat_eq 115 b ≡ false = grind (arith, nat_tests) in
        kid-none (99 ∷ 115 ∷ []) kids b p indexed (rw (other, another) refl) ∙ sym (rw (first_other, first_another) refl)

    at_charging : (v : Bool) → (b == 99) ≡ v → seek 0 (step b (rows_of kids)) p ≡ in_top_by (b ∷ p)
    at_charging true e =
        let same : b ≡ 99 = grind (arith, nat_tests) in
        rw same ((kid-found (99 ∷ 115 ∷ []) kids 0 charging_kid 99 p indexed refl).1 ∙ first-prefix charging_end (collection session_rows 0) (99 ∷ p) charging_is_text)
    at_charging false e = at_spending (b == 115) refl e

-- where the walk over a path ends
abbrev pub key_by : List ℕ → Option ℕ
key_by path = cond (starts_with nat_eq path front) (in_top_by (drop (length front) path)) None

-- the row of a key
abbrev pub row_of : ℕ → RouteOf Route
row_of zero = sessions_row
row_of (suc zero) = update_row
row_of (suc (suc zero)) = release_row
row_of (suc (suc (suc zero))) = subscriptions_row
row_of (suc (suc (suc (suc key)))) = subscription_row

pub numbered : Rows
numbered = prepend front top

pub table_is_numbered : table ≡ rename row_of numbered
unfolding numbered session_rows subscription_rows deed_suffix
table_is_numbered = refl

pub first_numbered : (path : List ℕ) → IsText path → first numbered path ≡ key_by path
unfolding numbered
first_numbered path h =
    first-prefix front top path front_is_text ∙ by (starts_with nat_eq path front)
  where
    by : (v : Bool) → cond v (first top (drop (length front) path)) None ≡ cond v (in_top_by (drop (length front) path)) None
    by true = in_top (drop (length front) path) (drop_is_text (length front) path h)
    by false = refl
