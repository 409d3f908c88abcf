-- Sessions by their references: one more, and one that is written over; and their names.
use Rattle.std.proofs.Common.{◌≡◌, ◌≢◌, ◌==◌, ◌&&◌, ℕ, ◌<◌, ◌+◌, ◌-◌, Bool, true, false, cond, List, [], ◌∷◌, ◌++◌, length, slice_get, slice_set, Some, None, option_map, refl, sym, ap, ◌∙◌, arith, ⊎_elim}
use Rattle.std.proofs.lemmas.Bool.{cases_eq}
use Rattle.std.proofs.lemmas.Option.{slice_get_within}
use Rattle.units.specs.declared.request.Request.{Request}
use Rattle.chf_core.specs.declared.session.Session.{Session}
use Rattle.chf_core.specs.declared.key.Name.{Name}
use Rattle.chf_core.specs.declared.key.Key.{Key}
use Rattle.chf_core.specs.Operator.{name_eq}
use Rattle.chf_core.specs.Sessions.{by_reference, name, same_session}
use Rattle.chf_core.specs.Keys.{key, key_in}
use Rattle.chf_core.specs.State.{name_of}
use Rattle.chf_core.proofs.Places.{eq_yes, eq_no, get_push, get_set}
use Rattle.chf_core.proofs.Named.{both, same_name, same_number}
use Rattle.chf_core.proofs.NameLists.{itself}

pub at_push : (ss : List Session) (x : Session) (r : ℕ)
    → by_reference (ss ++ x ∷ []) r ≡ cond (length ss + 1 == r) (Some x) (by_reference ss r)
at_push ss x r = ⊎_elim
    (λ (z : r ≡ 0). let no : (length ss + 1 == r) ≡ false =
    eq_no (length ss + 1) r (λ w. let h : length ss + 1 ≡ r = w in omega arith) in
    ap (λ b. cond b None (slice_get (ss ++ x ∷ []) (r - 1))) (eq_yes r 0 z)
    ∙ sym (ap (λ b. cond b (Some x) (by_reference ss r)) no
    ∙ ap (λ b. cond b None (slice_get ss (r - 1))) (eq_yes r 0 z)))
    (λ (z : r ≢ 0).
    let t : (r == 0) ≡ false = eq_no r 0 z in
    let same : (length ss == r - 1) ≡ (length ss + 1 == r) = ⊎_elim
    (λ (e : length ss + 1 ≡ r). eq_yes (length ss) (r - 1) (omega arith) ∙ sym (eq_yes (length ss + 1) r e))
    (λ (e : length ss + 1 ≢ r). eq_no (length ss) (r - 1) (λ w. let h : length ss ≡ r - 1 = w in e (omega arith))
    ∙ sym (eq_no (length ss + 1) r e))
    (cases_eq (length ss + 1) r) in
    ap (λ b. cond b None (slice_get (ss ++ x ∷ []) (r - 1))) t ∙ get_push ss x (r - 1)
    ∙ (λ i. cond (same i) (Some x) (sym (ap (λ b. cond b None (slice_get ss (r - 1))) t) i)))
    (cases_eq r 0)

-- where a session is written over
not_zero : (ss : List Session) (r : ℕ) (z : Session) → by_reference ss r ≡ Some z
    → (r ≢ 0) × (slice_get ss (r - 1) ≡ Some z)
not_zero ss r z e = ⊎_elim
    (λ (w : r ≡ 0). absurd
    (let h : None ≡ Some z = sym (ap (λ b. cond b None (slice_get ss (r - 1))) (eq_yes r 0 w)) ∙ e in cc))
    (λ (w : r ≢ 0). (w, sym (ap (λ b. cond b None (slice_get ss (r - 1))) (eq_no r 0 w)) ∙ e))
    (cases_eq r 0)

-- a reference is within the sessions
pub within : (ss : List Session) (r : ℕ) (z : Session) → by_reference ss r ≡ Some z → r < length ss + 1
within ss r z e =
    let f = not_zero ss r z e in let l = slice_get_within ss (r - 1) z f.1 in omega arith

pub at_set : (ss : List Session) (p r : ℕ) (x y : Session) → by_reference ss p ≡ Some x
    → by_reference (slice_set ss (p - 1) y) r ≡ cond (p == r) (Some y) (by_reference ss r)
at_set ss p r x y e = ⊎_elim
    (λ (z : r ≡ 0). let no : (p == r) ≡ false = eq_no p r (λ w. let h : p ≡ r = w in f.0 (omega arith)) in
    ap (λ b. cond b None (slice_get (slice_set ss (p - 1) y) (r - 1))) (eq_yes r 0 z)
    ∙ sym (ap (λ b. cond b (Some y) (by_reference ss r)) no
    ∙ ap (λ b. cond b None (slice_get ss (r - 1))) (eq_yes r 0 z)))
    (λ (z : r ≢ 0).
    let t : (r == 0) ≡ false = eq_no r 0 z in
    let same : (p - 1 == r - 1) ≡ (p == r) = ⊎_elim
    (λ (e : p ≡ r). eq_yes (p - 1) (r - 1) (omega arith) ∙ sym (eq_yes p r e))
    (λ (e : p ≢ r). eq_no (p - 1) (r - 1) (λ w. let h : p - 1 ≡ r - 1 = w in let nz : p ≢ 0 = f.0 in e (omega arith))
    ∙ sym (eq_no p r e))
    (cases_eq p r) in
    ap (λ b. cond b None (slice_get (slice_set ss (p - 1) y) (r - 1))) t ∙ get_set ss (p - 1) (r - 1) y
    ∙ (λ i. cond (same i) (option_map (λ _. y) (f.1 i)) (sym (ap (λ b. cond b None (slice_get ss (r - 1))) t) i)))
    (cases_eq r 0)
  where
    f : (p ≢ 0) × (slice_get ss (p - 1) ≡ Some x)
    f = not_zero ss p x e

-- names
pub same_itself : (n : Name) → same_session n n ≡ true
same_itself n = λ i. itself n.consumer i && eq_yes n.charging_id n.charging_id refl i

pub names_same : (m n : Name) → same_session m n ≡ true → m ≡ n
names_same m n e =
    let x = both (name_eq m.consumer n.consumer) (m.charging_id == n.charging_id) e in
    λ i. record
    { consumer = same_name m.consumer n.consumer x.0 i; charging_id = same_number m.charging_id n.charging_id x.1 i }

-- a test that is known to fail
pub fails : (b : Bool) → (b ≡ true → ⊥) → b ≡ false
fails true h = absurd (h refl)
fails false h = refl

-- a key that a session gives is of that session
pub of_key : (q : Request) (x : Session) (k : Key) → key_in q (Some x) ≡ Some k → k.session ≡ name_of x
of_key q x k e = by (name_eq x.consumer q.consumer) refl e
  where
    by : (b : Bool) → name_eq x.consumer q.consumer ≡ b
        → cond b (Some (key q.consumer x.charging_id q.number)) None ≡ Some k → k.session ≡ name_of x
    by true t w = let g : key q.consumer x.charging_id q.number ≡ k = cc in sym (ap (λ (j : Key). j.session) g)
        ∙ ap (λ c. name c x.charging_id) (sym (same_name x.consumer q.consumer t))
    by false t w = absurd (cc)
