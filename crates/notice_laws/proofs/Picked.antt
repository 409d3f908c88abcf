-- The one notice of a subscription among those of some subscriptions, and the account that it watches once some moved.
use Rattle.std.proofs.Common.{◌≡◌, ◌≢◌, ◌==◌, ◌&&◌, ◌||◌, ◌+◌, ◌-◌, ◌<◌, ◌≤◌, ℕ, zero, suc, Bool, true, false, cond, if◌then◌else◌, List, [], ◌∷◌, length, get_or, Option, Some, None, option_to_list, refl, sym, ap, ◌∙◌, arith}
use Rattle.std.specs.Prelude.{⊤}
use Rattle.std.proofs.Math.ListN.{set}
use Rattle.std.specs.List.{filter, cons_option}
use Rattle.std.proofs.lemmas.Bool.{eqb-true, eqb-false, ne_eqb, eq-eqb, or_from, or_left, and_right}
use Rattle.std.proofs.lemmas.List.{length-set, get_or-set_same, get_or-set_other}
use Rattle.units.specs.declared.spending.SpendContext.{SpendContext}
use Rattle.units.specs.declared.spending.CounterStatus.{CounterStatus}
use Rattle.counters.specs.Watching.{changes}
use Rattle.counters.specs.Subscriptions.{context_of}
use Rattle.notices.specs.declared.notice.Notice.{Notice}
use Rattle.notices.specs.Watching.{watches, ids_from, watching}
use Rattle.notices.specs.Watched.{Watched, moved_to}
use Rattle.notices.specs.Due.{made_of, notice_with, notice_by, notice_of, notices_of, is_of, watching_for}
use Rattle.notices.specs.Steps.{of_subscription}

-- ---- ascending numbers of subscriptions

-- a number is among these
abbrev pub is_in : ℕ → List ℕ → Bool
is_in id [] = false
is_in id (x ∷ ids) = (x == id) || is_in id ids

-- the numbers ascend, from the least on
abbrev pub Ascend : ℕ → List ℕ → Type 0
Ascend least [] = ⊤
Ascend least (id ∷ ids) = (least ≤ id) × Ascend (suc id) ids

from_lower : (least lower : ℕ) (ids : List ℕ) → lower ≤ least → Ascend least ids → Ascend lower ids
from_lower least lower [] le up = tt
from_lower least lower (id ∷ ids) le up = let here = up.0 in (omega arith, up.1)

pub ids_ascend : (id : ℕ) (accounts : List (Option ℕ)) (account : ℕ) → Ascend id (ids_from id accounts account)
ids_ascend id [] account = tt
ids_ascend id (one ∷ more) account = by (ids_ascend (suc id) more account) (watches account one)
  where
    by : Ascend (suc id) (ids_from (suc id) more account) → (b : Bool)
        → Ascend id (if b then id ∷ ids_from (suc id) more account else ids_from (suc id) more account)
    by rest true = (omega arith, rest)
    by rest false = from_lower (suc id) id (ids_from (suc id) more account) (omega arith) rest

filter_ascends : (test : ℕ → Bool) (least : ℕ) (ids : List ℕ) → Ascend least ids → Ascend least (filter test ids)
filter_ascends test least [] up = tt
filter_ascends test least (id ∷ ids) up = by (filter_ascends test (suc id) ids up.1) (test id)
  where
    by : Ascend (suc id) (filter test ids) → (b : Bool) → Ascend least (cond b (id ∷ filter test ids) (filter test ids))
    by rest true = (up.0, rest)
    by rest false = let here = up.0 in from_lower (suc id) least (filter test ids) (omega arith) rest

-- the subscriptions of a subscriber ascend too
pub watching_ascend : (w : Watched) (account : ℕ) → Ascend 1 (watching w.accounts account)
watching_ascend w account = ids_ascend 1 w.accounts account

pub those_ascend : (w : Watched) (supi : List ℕ) (account : ℕ) → Ascend 1 (watching_for w supi account)
those_ascend w supi account =
    filter_ascends (λ id. is_of supi (context_of w.contexts id)) 1 (watching w.accounts account) (watching_ascend w account)

-- no number below the least is among them
none_below : (least id : ℕ) (ids : List ℕ) → Ascend least ids → id < least → is_in id ids ≡ false
none_below least id [] up lt = refl
none_below least id (x ∷ ids) up lt =
    let here = up.0 in
    or_from (x == id) (is_in id ids) (ne_eqb x id (λ e. omega arith)) (none_below (suc x) id ids up.1 (omega arith))

-- a subscription is among those that watch an account where it is that account that it watches
at_place : (start place id : ℕ) (accounts : List (Option ℕ)) (account : ℕ) → id ≡ start + place
    → is_in id (ids_from start accounts account) ≡ watches account (get_or accounts place None)
at_place start place id [] account e = refl
at_place start zero id (one ∷ more) account e = by (watches account one)
  where
    by : (t : Bool) → is_in id (if t then start ∷ ids_from (suc start) more account else ids_from (suc start) more account) ≡ t
    by true = or_left (start == id) (is_in id (ids_from (suc start) more account)) (eq-eqb start id (omega arith))
    by false = none_below (suc start) id (ids_from (suc start) more account) (ids_ascend (suc start) more account) (omega arith)
at_place start (suc place) id (one ∷ more) account e = by (at_place (suc start) place id more account (omega arith)) (watches account one)
  where
    by : is_in id (ids_from (suc start) more account) ≡ watches account (get_or more place None) → (t : Bool)
        → is_in id (if t then start ∷ ids_from (suc start) more account else ids_from (suc start) more account)
        ≡ watches account (get_or more place None)
    by rest true = ap (λ s. s || is_in id (ids_from (suc start) more account)) (ne_eqb start id (λ same. omega arith)) ∙ rest
    by rest false = rest

pub among_watching : (w : Watched) (account place : ℕ)
    → is_in (suc place) (watching w.accounts account) ≡ watches account (get_or w.accounts place None)
among_watching w account place = at_place 1 place (suc place) w.accounts account (omega arith)

filtered : (test : ℕ → Bool) (id : ℕ) (ids : List ℕ) → is_in id (filter test ids) ≡ (is_in id ids && test id)
filtered test id [] = refl
filtered test id (x ∷ ids) = by (test x) (x == id) refl refl (filtered test id ids)
  where
    by : (s t : Bool) → test x ≡ s → (x == id) ≡ t → is_in id (filter test ids) ≡ (is_in id ids && test id)
        → is_in id (cond s (x ∷ filter test ids) (filter test ids)) ≡ ((t || is_in id ids) && test id)
    by true true e f rest = or_left (x == id) (is_in id (filter test ids)) f ∙ sym (ap test (sym (eqb-true x id f)) ∙ e)
    by true false e f rest = ap (λ b. b || is_in id (filter test ids)) f ∙ rest
    by false true e f rest =
        let no : test id ≡ false = ap test (sym (eqb-true x id f)) ∙ e in
        rest ∙ and_right (is_in id ids) (test id) no ∙ sym no
    by false false e f rest = rest

-- and among those of a subscriber where its context is of that subscriber
pub among_those : (w : Watched) (supi : List ℕ) (account place : ℕ)
    → is_in (suc place) (watching_for w supi account)
    ≡ (watches account (get_or w.accounts place None) && is_of supi (context_of w.contexts (suc place)))
among_those w supi account place =
    filtered (λ id. is_of supi (context_of w.contexts id)) (suc place) (watching w.accounts account)
    ∙ ap (λ b. b && is_of supi (context_of w.contexts (suc place))) (among_watching w account place)

-- ---- its notice

-- a notice is of this subscription, if there is one
abbrev IfOwn : ℕ → Option Notice → Type 0
IfOwn id None = ⊤
IfOwn id (Some n) = n.id ≡ id

own_with : (id before : ℕ) (context : SpendContext) (infos : List CounterStatus) → IfOwn id (notice_with id before context infos)
own_with id before context [] = tt
own_with id before context (info ∷ infos) = refl

own : (rows : List (List (List ℕ))) (w : Watched) (before after id : ℕ) → IfOwn id (notice_of rows w before after id)
own rows w before after id = by (context_of w.contexts id)
  where
    by : (o : Option SpendContext) → IfOwn id (notice_by rows id (made_of w id) before after o)
    by None = tt
    by (Some context) = own_with id (made_of w id) context (changes rows context.counters before after)

skipped : (id x : ℕ) (o : Option Notice) (ns : List Notice) → IfOwn x o → (x == id) ≡ false
    → of_subscription id (cons_option o ns) ≡ of_subscription id ns
skipped id x None ns mine e = refl
skipped id x (Some n) ns mine e = ap (λ b. cond b (n ∷ of_subscription id ns) (of_subscription id ns)) (ap (λ k. k == id) mine ∙ e)

taken : (id x : ℕ) (o : Option Notice) (ns : List Notice) → IfOwn x o → (x == id) ≡ true → of_subscription id ns ≡ []
    → of_subscription id (cons_option o ns) ≡ option_to_list o
taken id x None ns mine e none = none
taken id x (Some n) ns mine e none =
    ap (λ b. cond b (n ∷ of_subscription id ns) (of_subscription id ns)) (ap (λ k. k == id) mine ∙ e) ∙ ap (λ (l : List Notice). n ∷ l) none

module _ (rows : List (List (List ℕ))) (w : Watched) (before after id : ℕ) where
  pub picked : (least : ℕ) (ids : List ℕ) → Ascend least ids
      → of_subscription id (notices_of rows w before after ids)
      ≡ cond (is_in id ids) (option_to_list (notice_of rows w before after id)) []
  picked least [] up = refl
  picked least (x ∷ ids) up = by (picked (suc x) ids up.1) (x == id) refl
    where
      by : of_subscription id (notices_of rows w before after ids) ≡ cond (is_in id ids) (option_to_list (notice_of rows w before after id)) []
          → (t : Bool) → (x == id) ≡ t
          → of_subscription id (notices_of rows w before after (x ∷ ids))
          ≡ cond (t || is_in id ids) (option_to_list (notice_of rows w before after id)) []
      by rest true e =
          let is : x ≡ id = eqb-true x id e in
          let none = rest ∙ ap (λ t. cond t (option_to_list (notice_of rows w before after id)) []) (none_below (suc x) id ids up.1 (omega arith)) in
          taken id x (notice_of rows w before after x) (notices_of rows w before after ids) (own rows w before after x) e none
          ∙ ap (λ k. option_to_list (notice_of rows w before after k)) is
      by rest false e = skipped id x (notice_of rows w before after x) (notices_of rows w before after ids) (own rows w before after x) e ∙ rest

-- ---- the account that it watches

-- a live subscription has a number that was given
pub within : {X : Type 0} (xs : List (Option X)) (place : ℕ) (x : X) → get_or xs place None ≡ Some x → place < length xs
within [] place x e = absurd (cc)
within (y ∷ xs) zero x e = omega arith
within (y ∷ xs) (suc place) x e = let rest = within xs place x e in omega arith

pub context_is : (contexts : List (Option SpendContext)) (place : ℕ) → context_of contexts (suc place) ≡ get_or contexts place None
context_is [] place = refl
context_is (c ∷ contexts) zero = refl
context_is (c ∷ contexts) (suc place) = context_is contexts place

pub moved_at : (account : ℕ) (accounts : List (Option ℕ)) (ids : List ℕ) (least place : ℕ) → 0 < least → Ascend least ids → place < length accounts
    → get_or (moved_to account accounts ids) place None ≡ cond (is_in (suc place) ids) (Some account) (get_or accounts place None)
moved_at account accounts [] least place some up lt = refl
moved_at account accounts (id ∷ ids) least place some up lt =
    let size = length-set accounts (id - 1) (Some account) in
    by (moved_at account (set accounts (id - 1) (Some account)) ids (suc id) place (omega arith) up.1 (omega arith)) (id == suc place) refl
  where
    same : (t : Bool) → cond t (Some account) (Some account) ≡ Some account
    same true = refl
    same false = refl

    by : get_or (moved_to account (set accounts (id - 1) (Some account)) ids) place None
        ≡ cond (is_in (suc place) ids) (Some account) (get_or (set accounts (id - 1) (Some account)) place None)
        → (t : Bool) → (id == suc place) ≡ t
        → get_or (moved_to account (set accounts (id - 1) (Some account)) ids) place None
        ≡ cond (t || is_in (suc place) ids) (Some account) (get_or accounts place None)
    by rest true e =
        let is : id ≡ suc place = eqb-true id (suc place) e in
        let at : id - 1 ≡ place = omega arith in
        let now : get_or (set accounts (id - 1) (Some account)) place None ≡ Some account =
        ap (λ k. get_or (set accounts k (Some account)) place None) at ∙ get_or-set_same accounts place (Some account) None lt in
        rest ∙ ap (cond (is_in (suc place) ids) (Some account)) now ∙ same (is_in (suc place) ids)
    by rest false e =
        let other : id ≢ suc place = eqb-false id (suc place) e in
        let low = up.0 in
        rest ∙ ap (cond (is_in (suc place) ids) (Some account)) (get_or-set_other accounts (id - 1) place (Some account) None (λ h. other (omega arith)))

pub moved_length : (account : ℕ) (accounts : List (Option ℕ)) (ids : List ℕ) → length (moved_to account accounts ids) ≡ length accounts
moved_length account accounts [] = refl
moved_length account accounts (id ∷ ids) = moved_length account (set accounts (id - 1) (Some account)) ids ∙ length-set accounts (id - 1) (Some account)
