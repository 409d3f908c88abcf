-- What events do to the containers of a session they do to those that are held; the others stay.
use Rattle.std.proofs.Common.{◌≡◌, ℕ, ◌+◌, ◌-◌, ◌≤◌, ◌==◌, ◌&&◌, ◌||◌, nat_lt, List, [], ◌∷◌, ◌++◌, length, map, filter, refl, sym, ◌∙◌, ap, arith, Bool, true, false, cond, Some, add-zero, fold}
use Rattle.std.specs.List.{find, list_any}
use Rattle.smf_model.specs.declared.session.Place.{Place}
use Rattle.smf_model.specs.declared.session.Place.TheVariants.{Open, Waiting, Frozen, Answered, GivenUp}
use Rattle.smf_model.specs.declared.session.Holding.{Holding}
use Rattle.smf_model.specs.Settle.{is_open, is_waiting, is_frozen}
use Rattle.smf_model.specs.Freeze.{move_oldest, waiting_count, used_of, used_as, is_frozen_of}
use Rattle.smf_core.specs.Reads.{is_held, is_held_at}
use Rattle.smf_core.specs.Caches.{merged, past_count}

-- what is held no more is not open, waiting or frozen
pub not_open : (p : Place) → is_held_at p ≡ false → is_open p ≡ false
not_open Open h = h
not_open Waiting h = refl
not_open Frozen h = refl
not_open Answered h = refl
not_open (GivenUp w) h = refl

pub not_waiting : (p : Place) → is_held_at p ≡ false → is_waiting p ≡ false
not_waiting Open h = refl
not_waiting Waiting h = h
not_waiting Frozen h = refl
not_waiting Answered h = refl
not_waiting (GivenUp w) h = refl

pub not_frozen : (p : Place) → is_held_at p ≡ false → is_frozen p ≡ false
not_frozen Open h = refl
not_frozen Waiting h = refl
not_frozen Frozen h = h
not_frozen Answered h = refl
not_frozen (GivenUp w) h = refl

pub past : (h : Holding) (all next : List Holding) → is_held h ≡ false → merged (h ∷ all) next ≡ h ∷ merged all next
past h all [] e = ap (λ b. cond b (merged all []) (h ∷ merged all [])) e
past h all (k ∷ next) e = ap (λ b. cond b (k ∷ merged all next) (h ∷ merged all (k ∷ next))) e

pub here : (h k : Holding) (all next : List Holding) → is_held h ≡ true → merged (h ∷ all) (k ∷ next) ≡ k ∷ merged all next
here h k all next e = ap (λ b. cond b (k ∷ merged all next) (h ∷ merged all (k ∷ next))) e

pub short : (h : Holding) (all : List Holding) → is_held h ≡ true → merged (h ∷ all) [] ≡ merged all []
short h all e = ap (λ b. cond b (merged all []) (h ∷ merged all [])) e

-- a function that leaves alone what is held no more
abbrev pub LeavesPast : (Holding → Holding) → Type 0
LeavesPast f = (h : Holding) → is_held h ≡ false → f h ≡ h

pub map-merged : (f : Holding → Holding) → LeavesPast f → (all next : List Holding) → map f (merged all next) ≡ merged all (map f next)
map-merged f leaves [] next = refl
map-merged f leaves (h ∷ all) next = at (is_held h) refl (λ ks. map-merged f leaves all ks) next
  where
    at : (b : Bool) → is_held h ≡ b → ((ks : List Holding) → map f (merged all ks) ≡ merged all (map f ks)) → (ks : List Holding) → map f (merged (h ∷ all) ks) ≡ merged (h ∷ all) (map f ks)
    at true e ih [] = ap (map f) (short h all e) ∙ ih [] ∙ sym (short h all e)
    at true e ih (k ∷ ks) = ap (map f) (here h k all ks e) ∙ ap (λ xs. f k ∷ xs) (ih ks) ∙ sym (here h (f k) all (map f ks) e)
    at false e ih ks = ap (map f) (past h all ks e) ∙ ap (λ x. x ∷ map f (merged all ks)) (leaves h e) ∙ ap (λ xs. h ∷ xs) (ih ks) ∙ sym (past h all (map f ks) e)

move_past : (n : ℕ) (p : Place) (h : Holding) (all : List Holding) → is_held h ≡ false → move_oldest n p (h ∷ all) ≡ h ∷ move_oldest n p all
move_past n p h all e = ap (λ b. cond (b && nat_lt 0 n) (record h { place = p } ∷ move_oldest (n - 1) p all) (h ∷ move_oldest n p all)) (not_waiting h.place e)

pub move_oldest-merged : (n : ℕ) (p : Place) (all next : List Holding) → move_oldest n p (merged all next) ≡ merged all (move_oldest n p next)
move_oldest-merged n p [] next = refl
move_oldest-merged n p (h ∷ all) next = at (is_held h) refl (λ m ks. move_oldest-merged m p all ks) next
  where
    moved : (b : Bool) (k : Holding) (ks : List Holding) → is_held h ≡ true → ((m : ℕ) (xs : List Holding) → move_oldest m p (merged all xs) ≡ merged all (move_oldest m p xs))
        → cond b (record k { place = p } ∷ move_oldest (n - 1) p (merged all ks)) (k ∷ move_oldest n p (merged all ks))
        ≡ merged (h ∷ all) (cond b (record k { place = p } ∷ move_oldest (n - 1) p ks) (k ∷ move_oldest n p ks))
    moved true k ks e ih = ap (λ xs. record k { place = p } ∷ xs) (ih (n - 1) ks) ∙ sym (here h (record k { place = p }) all (move_oldest (n - 1) p ks) e)
    moved false k ks e ih = ap (λ xs. k ∷ xs) (ih n ks) ∙ sym (here h k all (move_oldest n p ks) e)

    at : (b : Bool) → is_held h ≡ b → ((m : ℕ) (ks : List Holding) → move_oldest m p (merged all ks) ≡ merged all (move_oldest m p ks)) → (ks : List Holding) → move_oldest n p (merged (h ∷ all) ks) ≡ merged (h ∷ all) (move_oldest n p ks)
    at true e ih [] = ap (move_oldest n p) (short h all e) ∙ ih n [] ∙ sym (short h all e)
    at true e ih (k ∷ ks) = ap (move_oldest n p) (here h k all ks e) ∙ moved (is_waiting k.place && nat_lt 0 n) k ks e ih
    at false e ih ks = ap (move_oldest n p) (past h all ks e) ∙ move_past n p h (merged all ks) e ∙ ap (λ xs. h ∷ xs) (ih n ks) ∙ sym (past h all (move_oldest n p ks) e)

-- a test that what is held no more fails
abbrev pub FailsPast : (Holding → Bool) → Type 0
FailsPast t = (h : Holding) → is_held h ≡ false → t h ≡ false

pub find-merged : (t : Holding → Bool) → FailsPast t → (all next : List Holding) → find t (merged all next) ≡ find t next
find-merged t fails [] next = refl
find-merged t fails (h ∷ all) next = at (is_held h) refl (λ ks. find-merged t fails all ks) next
  where
    at : (b : Bool) → is_held h ≡ b → ((ks : List Holding) → find t (merged all ks) ≡ find t ks) → (ks : List Holding) → find t (merged (h ∷ all) ks) ≡ find t ks
    at true e ih [] = ap (find t) (short h all e) ∙ ih []
    at true e ih (k ∷ ks) = ap (find t) (here h k all ks e) ∙ ap (λ o. cond (t k) (Some k) o) (ih ks)
    at false e ih ks = ap (find t) (past h all ks e) ∙ ap (λ b. cond b (Some h) (find t (merged all ks))) (fails h e) ∙ ih ks

pub any-merged : (t : Holding → Bool) → FailsPast t → (all next : List Holding) → list_any t (merged all next) ≡ list_any t next
any-merged t fails [] next = refl
any-merged t fails (h ∷ all) next = at (is_held h) refl (λ ks. any-merged t fails all ks) next
  where
    at : (b : Bool) → is_held h ≡ b → ((ks : List Holding) → list_any t (merged all ks) ≡ list_any t ks) → (ks : List Holding) → list_any t (merged (h ∷ all) ks) ≡ list_any t ks
    at true e ih [] = ap (list_any t) (short h all e) ∙ ih []
    at true e ih (k ∷ ks) = ap (list_any t) (here h k all ks e) ∙ ap (λ b. t k || b) (ih ks)
    at false e ih ks = ap (list_any t) (past h all ks e) ∙ ap (λ b. b || list_any t (merged all ks)) (fails h e) ∙ ih ks

pub filter-merged : (t : Holding → Bool) → FailsPast t → (all next : List Holding) → filter t (merged all next) ≡ filter t next
filter-merged t fails [] next = refl
filter-merged t fails (h ∷ all) next = at (is_held h) refl (λ ks. filter-merged t fails all ks) next
  where
    at : (b : Bool) → is_held h ≡ b → ((ks : List Holding) → filter t (merged all ks) ≡ filter t ks) → (ks : List Holding) → filter t (merged (h ∷ all) ks) ≡ filter t ks
    at true e ih [] = ap (filter t) (short h all e) ∙ ih []
    at true e ih (k ∷ ks) = ap (filter t) (here h k all ks e) ∙ ap (λ xs. cond (t k) (k ∷ xs) xs) (ih ks)
    at false e ih ks = ap (filter t) (past h all ks e) ∙ ap (λ b. cond b (h ∷ filter t (merged all ks)) (filter t (merged all ks))) (fails h e) ∙ ih ks

-- how many wait, counted on from a number
abbrev waiting_on : ℕ → List Holding → ℕ
waiting_on a hs = fold (λ n h. n + cond (is_waiting h.place) 1 0) a hs

counted-merged : (a : ℕ) (all next : List Holding) → waiting_on a (merged all next) ≡ waiting_on a next
counted-merged a [] next = refl
counted-merged a (h ∷ all) next = at (is_held h) refl (λ b ks. counted-merged b all ks) next
  where
    at : (b : Bool) → is_held h ≡ b → ((n : ℕ) (ks : List Holding) → waiting_on n (merged all ks) ≡ waiting_on n ks) → (ks : List Holding) → waiting_on a (merged (h ∷ all) ks) ≡ waiting_on a ks
    at true e ih [] = ap (waiting_on a) (short h all e) ∙ ih a []
    at true e ih (k ∷ ks) = ap (waiting_on a) (here h k all ks e) ∙ ih (a + cond (is_waiting k.place) 1 0) ks
    at false e ih ks = ap (waiting_on a) (past h all ks e) ∙ ap (λ b. waiting_on (a + cond b 1 0) (merged all ks)) (not_waiting h.place e) ∙ ap (λ n. waiting_on n (merged all ks)) (add-zero a) ∙ ih a ks

pub waiting-merged : (all next : List Holding) → waiting_count (merged all next) ≡ waiting_count next
waiting-merged all next = counted-merged 0 all next

pub used-merged : (group : ℕ) (all next : List Holding) → used_of group (merged all next) ≡ used_of group next
used-merged group [] next = refl
used-merged group (h ∷ all) next = at (is_held h) refl (λ ks. used-merged group all ks) next
  where
    at : (b : Bool) → is_held h ≡ b → ((ks : List Holding) → used_of group (merged all ks) ≡ used_of group ks) → (ks : List Holding) → used_of group (merged (h ∷ all) ks) ≡ used_of group ks
    at true e ih [] = ap (used_of group) (short h all e) ∙ ih []
    at true e ih (k ∷ ks) = ap (used_of group) (here h k all ks e) ∙ ap (λ us. cond (is_frozen_of group k) (used_as k ∷ us) us) (ih ks)
    at false e ih ks = ap (used_of group) (past h all ks e) ∙ ap (λ b. cond (b && (h.container.group == group)) (used_as h ∷ used_of group (merged all ks)) (used_of group (merged all ks))) (not_frozen h.place e) ∙ ih ks

pub length-merged : (all next : List Holding) → length (merged all next) ≡ past_count all + length next
length-merged [] next = omega arith
length-merged (h ∷ all) next = at (is_held h) refl (λ ks. length-merged all ks) next
  where
    at : (b : Bool) → is_held h ≡ b → ((ks : List Holding) → length (merged all ks) ≡ past_count all + length ks) → (ks : List Holding) → length (merged (h ∷ all) ks) ≡ cond (is_held h) (past_count all) (past_count all + 1) + length ks
    at true e ih [] = omega (arith, ap length (short h all e), ih [], ap (λ b. cond b (past_count all) (past_count all + 1)) e)
    at true e ih (k ∷ ks) = omega (arith, ap length (here h k all ks e), ih ks, ap (λ b. cond b (past_count all) (past_count all + 1)) e)
    at false e ih ks = omega (arith, ap length (past h all ks e), ih ks, ap (λ b. cond b (past_count all) (past_count all + 1)) e)

-- at the end, where there are as many as are held
pub append-merged : (all next more : List Holding) → length (filter is_held all) ≤ length next → merged all next ++ more ≡ merged all (next ++ more)
append-merged [] next more h = refl
append-merged (x ∷ all) next more h = at (is_held x) refl (λ ks l. append-merged all ks more l) next h
  where
    at : (b : Bool) → is_held x ≡ b → ((ks : List Holding) → length (filter is_held all) ≤ length ks → merged all ks ++ more ≡ merged all (ks ++ more)) → (ks : List Holding) → length (cond (is_held x) (x ∷ filter is_held all) (filter is_held all)) ≤ length ks → merged (x ∷ all) ks ++ more ≡ merged (x ∷ all) (ks ++ more)
    at true e ih [] l = absurd (omega (arith, l, ap (λ b. length (cond b (x ∷ filter is_held all) (filter is_held all))) e))
    at true e ih (k ∷ ks) l = ap (λ xs. xs ++ more) (here x k all ks e) ∙ ap (λ xs. k ∷ xs) (ih ks (omega (arith, l, ap (λ b. length (cond b (x ∷ filter is_held all) (filter is_held all))) e))) ∙ sym (here x k all (ks ++ more) e)
    at false e ih ks l = ap (λ xs. xs ++ more) (past x all ks e) ∙ ap (λ xs. x ∷ xs) (ih ks (omega (arith, l, ap (λ b. length (cond b (x ∷ filter is_held all) (filter is_held all))) e))) ∙ sym (past x all (ks ++ more) e)

-- with those that are held it is the list
pub merged-same : (all : List Holding) → merged all (filter is_held all) ≡ all
merged-same [] = refl
merged-same (h ∷ all) = at (is_held h) refl (merged-same all)
  where
    at : (b : Bool) → is_held h ≡ b → (merged all (filter is_held all) ≡ all) → merged (h ∷ all) (cond (is_held h) (h ∷ filter is_held all) (filter is_held all)) ≡ h ∷ all
    at true e ih = ap (λ b. merged (h ∷ all) (cond b (h ∷ filter is_held all) (filter is_held all))) e ∙ here h h all (filter is_held all) e ∙ ap (λ xs. h ∷ xs) ih
    at false e ih = ap (λ b. merged (h ∷ all) (cond b (h ∷ filter is_held all) (filter is_held all))) e ∙ past h all (filter is_held all) e ∙ ap (λ xs. h ∷ xs) ih

-- how many there are
pub past-count : (all : List Holding) → past_count all + length (filter is_held all) ≡ length all
past-count all = sym (length-merged all (filter is_held all)) ∙ ap length (merged-same all)
