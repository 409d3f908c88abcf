-- What is decided on a request stays when one that is new comes to be kept.
use Rattle.std.proofs.Common.{◌≡◌, ◌≢◌, ◌⊎◌, ℕ, ◌<◌, ◌≤◌, ◌==◌, ◌&&◌, Bool, true, false, cond, List, [], ◌∷◌, Option, Some, None, refl, sym, ap, ◌∙◌, subst, inl, inr, ⊎_elim, arith}
use Rattle.std.proofs.lemmas.Bool.{eqb-true}
use Rattle.std.proofs.lemmas.Bool.Decides.{nat_tests}
use Rattle.std.specs.Prelude.{nat_le, nat_eq}
use Rattle.std.specs.Option.{option_eq}
use Rattle.std.specs.Cmp.Lexicographic.{pointwise}
use Rattle.units.specs.declared.request.Operation.{Operation}
use Rattle.units.specs.declared.request.Operation.TheVariants.{Create, Update, Release}
use Rattle.units.specs.declared.request.Request.{Request}
use Rattle.units.specs.declared.reply.Reply.{Reply}
use Rattle.sessions.specs.Content.{content, same_content, same_operation, same_body}
use Rattle.sessions.specs.Kept.{Kept, is_success, accepted, newest_number, has_release}
use Rattle.sessions.specs.Decided.{Repeats, Passed, Exists, Over, IsNew, more, kept_under, decided_create, decided_later, decided_new, decided_under, decided, Stays}

-- what a new request says
pub data IsFresh (k : List Kept) (r : Request) : Type 0 where
  First : kept_under k r.number ≡ None → r.operation ≡ Create → accepted k ≡ [] → IsFresh k r
  Later : kept_under k r.number ≡ None → (r.operation ≡ Create → ⊥) → newest_number (accepted k) < r.number → has_release (accepted k) ≡ false → IsFresh k r

le_true : (a b : ℕ) → nat_le a b ≡ true → a ≤ b
le_true a b h = grind (arith, nat_tests)

le_false : (a b : ℕ) → nat_le a b ≡ false → b < a
le_false a b h = grind (arith, nat_tests)

to_le : (a b : ℕ) → a ≤ b → nat_le a b ≡ true
to_le a b h = grind (arith, nat_tests)

eq_no : (a b : ℕ) → a ≢ b → (a == b) ≡ false
eq_no a b h = grind (arith, nat_tests)

later_parts : (rs : List Request) (n : ℕ) → decided_later rs n ≡ IsNew → (newest_number rs < n) × (has_release rs ≡ false)
later_parts rs n = at (nat_le n (newest_number rs)) (has_release rs) refl refl
  where
    at : (b c : Bool) → nat_le n (newest_number rs) ≡ b → has_release rs ≡ c → cond b (Passed (newest_number rs)) (cond c (Over (newest_number rs)) IsNew) ≡ IsNew → (newest_number rs < n) × (has_release rs ≡ false)
    at true c e f g = absurd (cc)
    at false true e f g = absurd (cc)
    at false false e f g = (le_false _ _ e, f)

create_empty : (rs : List Request) → decided_create rs ≡ IsNew → rs ≡ []
create_empty [] e = refl
create_empty (r ∷ rs) e = absurd (cc)

is_fresh : (k : List Kept) (r : Request) → decided k r ≡ IsNew → IsFresh k r
is_fresh k r = at (kept_under k r.number) refl
  where
    not_kept : (b : Bool) (p : Reply) (n : ℕ) → cond b (Repeats p) (Passed n) ≡ IsNew → ⊥
    not_kept true p n e = cc
    not_kept false p n e = cc

    by_op : (o : Operation) → r.operation ≡ o → kept_under k r.number ≡ None → decided_new o (accepted k) r.number ≡ IsNew → IsFresh k r
    by_op Create e n d = First n e (create_empty (accepted k) d)
    by_op (Update s) e n d = let p = later_parts (accepted k) r.number d in Later n (λ c. let z : Create ≡ Update s = sym c ∙ e in cc) p.0 p.1
    by_op (Release s) e n d = let p = later_parts (accepted k) r.number d in Later n (λ c. let z : Create ≡ Release s = sym c ∙ e in cc) p.0 p.1

    at : (o : Option Kept) → kept_under k r.number ≡ o → decided_under k r o ≡ IsNew → IsFresh k r
    at None e d = by_op r.operation refl e d
    at (Some c) e d = absurd (not_kept (same_content c.request r) c.reply (newest_number (accepted k)) d)

number_new : (k : List Kept) (r : Request) → IsFresh k r → kept_under k r.number ≡ None
number_new k r (First n c e) = n
number_new k r (Later n c l h) = n

-- another operation is another content
other_content : (r q : Request) → same_operation r.operation q.operation ≡ false → same_content (content r) q ≡ false
other_content r q e = ap (λ b. (b && (pointwise nat_eq r.consumer q.consumer && (option_eq (pointwise nat_eq) r.subscriber q.subscriber && (option_eq nat_eq r.charging_id q.charging_id && nat_eq r.number q.number)))) && same_body r q) e

not_create : (o p : Operation) → o ≡ Create → (p ≡ Create → ⊥) → same_operation o p ≡ false
not_create Create Create e n = absurd (n refl)
not_create Create (Update s) e n = refl
not_create Create (Release s) e n = refl
not_create (Update r) p e n = absurd (let z : Update r ≡ Create = e in cc)
not_create (Release r) p e n = absurd (let z : Release r ≡ Create = e in cc)

create_not : (o p : Operation) → (o ≡ Create → ⊥) → p ≡ Create → same_operation o p ≡ false
create_not Create p n e = absurd (n refl)
create_not (Update r) Create n e = refl
create_not (Release r) Create n e = refl
create_not (Update r) (Update s) n e = absurd (let z : Update s ≡ Create = e in cc)
create_not (Update r) (Release s) n e = absurd (let z : Release s ≡ Create = e in cc)
create_not (Release r) (Update s) n e = absurd (let z : Update s ≡ Create = e in cc)
create_not (Release r) (Release s) n e = absurd (let z : Release s ≡ Create = e in cc)

pub kept_stays : (k : List Kept) (r q : Request) (p : Reply) → IsFresh k r → Stays (decided k q) (decided (more k r p) q)
kept_stays k r q p f = at (kept_under k q.number) refl
  where
    -- a kept one stays kept
    under : (c : Kept) → kept_under k q.number ≡ Some c → kept_under (more k r p) q.number ≡ Some c
    under c e = by (r.number == q.number) refl
      where
        by : (b : Bool) → (r.number == q.number) ≡ b → cond b (Some (record { request = content r; reply = p })) (kept_under k q.number) ≡ Some c
        by false t = e
        by true t = absurd (let z : kept_under k q.number ≡ None = ap (kept_under k) (sym (eqb-true _ _ t)) ∙ number_new k r f in let w : None ≡ Some c = sym z ∙ e in cc)

    repeats : (c : Kept) (b : Bool) → Stays (cond b (Repeats c.reply) (Passed (newest_number (accepted k)))) (cond b (Repeats c.reply) (Passed (newest_number (accepted (more k r p)))))
    repeats c true = refl
    repeats c false = (newest_number (accepted (more k r p)), refl)

    found : (c : Kept) → kept_under k q.number ≡ Some c → Stays (decided_under k q (kept_under k q.number)) (decided (more k r p) q)
    found c e =
        subst (λ o. Stays (decided_under k q o) (decided (more k r p) q)) (sym e)
        (subst (λ o. Stays (decided_under k q (Some c)) (decided_under (more k r p) q o)) (sym (under c e)) (repeats c (same_content c.request q)))

    -- under the same number, another operation
    passed_by : same_operation r.operation q.operation ≡ false → (r.number == q.number) ≡ true → decided (more k r p) q ≡ Passed (newest_number (accepted (more k r p)))
    passed_by o t =
        ap (λ b. decided_under (more k r p) q (cond b (Some (record { request = content r; reply = p })) (kept_under k q.number))) t
        ∙ ap (λ b. cond b (Repeats p) (Passed (newest_number (accepted (more k r p))))) (other_content r q o)

    none_of : kept_under k q.number ≡ None → (r.number == q.number) ≡ false → decided (more k r p) q ≡ decided_new q.operation (accepted (more k r p)) q.number
    none_of e t =
        ap (λ b. decided_under (more k r p) q (cond b (Some (record { request = content r; reply = p })) (kept_under k q.number))) t
        ∙ ap (decided_under (more k r p) q) e

    empty_or : (rs : List Request) → (rs ≡ []) ⊎ (decided_create rs ≡ Exists)
    empty_or [] = inl refl
    empty_or (x ∷ rs) = inr refl

    grown : (b : Bool) (rs : List Request) → decided_create rs ≡ Exists → decided_create (cond b (content r ∷ rs) rs) ≡ Exists
    grown true rs e = refl
    grown false rs e = e

    not_empty : {A : Type 0} (rs : List Request) → rs ≡ [] → decided_create rs ≡ Exists → A
    not_empty rs e d = absurd (let z : decided_create [] ≡ Exists = ap decided_create (sym e) ∙ d in cc)

    newest_grows : (b : Bool) (rs : List Request) (n : ℕ) → n ≤ newest_number rs → n ≤ r.number → n ≤ newest_number (cond b (content r ∷ rs) rs)
    newest_grows true rs n l m = m
    newest_grows false rs n l m = l

    exists_stays : kept_under k q.number ≡ None → q.operation ≡ Create → decided_create (accepted k) ≡ Exists → IsFresh k r → Stays Exists (decided (more k r p) q)
    exists_stays e o d (First n c z) = not_empty (accepted k) z d
    exists_stays e o d (Later n c l h) = by (r.number == q.number) refl
      where
        by : (b : Bool) → (r.number == q.number) ≡ b → Stays Exists (decided (more k r p) q)
        by true t = inr (newest_number (accepted (more k r p)), passed_by (create_not r.operation q.operation c o) t)
        by false t = inl (none_of e t ∙ ap (λ v. decided_new v (accepted (more k r p)) q.number) o ∙ grown (is_success p) (accepted k) d)

    low : (rs : List Request) → q.number ≤ newest_number rs → decided_later rs q.number ≡ Passed (newest_number rs)
    low rs l = ap (λ b. cond b (Passed (newest_number rs)) (cond (has_release rs) (Over (newest_number rs)) IsNew)) (to_le q.number (newest_number rs) l)

    new_later : (v : Operation) → (v ≡ Create → ⊥) → (rs : List Request) (n : ℕ) → decided_new v rs n ≡ decided_later rs n
    new_later Create d rs n = absurd (d refl)
    new_later (Update s) d rs n = refl
    new_later (Release s) d rs n = refl

    passed_stays : kept_under k q.number ≡ None → (q.operation ≡ Create → ⊥) → q.number ≤ newest_number (accepted k) → IsFresh k r → (later : ℕ) × (decided (more k r p) q ≡ Passed later)
    passed_stays e o l (First n c z) = by (r.number == q.number) refl
      where
        zero_number : q.number ≡ 0
        zero_number = let w : newest_number (accepted k) ≡ 0 = ap newest_number z in omega arith

        by : (b : Bool) → (r.number == q.number) ≡ b → (later : ℕ) × (decided (more k r p) q ≡ Passed later)
        by true t = (newest_number (accepted (more k r p)), passed_by (not_create r.operation q.operation c o) t)
        by false t = (newest_number (accepted (more k r p)), none_of e t ∙ new_later q.operation o (accepted (more k r p)) q.number ∙ low (accepted (more k r p)) (let w : q.number ≡ 0 = zero_number in omega arith))
    passed_stays e o l (Later n c m h) = (
      newest_number (accepted (more k r p)),
      none_of e (eq_no r.number q.number (λ t. let w : r.number ≡ q.number = t in omega arith)) ∙ new_later q.operation o (accepted (more k r p)) q.number
          ∙ low (accepted (more k r p)) (newest_grows (is_success p) (accepted k) q.number l (omega arith)),
    )

    no_release : {A : Type 0} → has_release (accepted k) ≡ true → IsFresh k r → A
    no_release t (First n c z) = absurd (let w : has_release [] ≡ true = ap has_release (sym z) ∙ t in cc)
    no_release t (Later n c l h) = absurd (let w : true ≡ false = sym t ∙ h in cc)

    later_stays : kept_under k q.number ≡ None → (q.operation ≡ Create → ⊥) → Stays (decided_later (accepted k) q.number) (decided (more k r p) q)
    later_stays e o = by (nat_le q.number (newest_number (accepted k))) (has_release (accepted k)) refl refl
      where
        by : (b c : Bool) → nat_le q.number (newest_number (accepted k)) ≡ b → has_release (accepted k) ≡ c
            → Stays (cond b (Passed (newest_number (accepted k))) (cond c (Over (newest_number (accepted k))) IsNew)) (decided (more k r p) q)
        by true c x y = passed_stays e o (le_true q.number (newest_number (accepted k)) x) f
        by false true x y = no_release y f
        by false false x y = tt

    create_stays : kept_under k q.number ≡ None → q.operation ≡ Create → Stays (decided_create (accepted k)) (decided (more k r p) q)
    create_stays e o = ⊎_elim
        (λ (z : accepted k ≡ []). subst (λ rs. Stays (decided_create rs) (decided (more k r p) q)) (sym z) tt)
        (λ (z : decided_create (accepted k) ≡ Exists). subst (λ d. Stays d (decided (more k r p) q)) (sym z) (exists_stays e o z f))
        (empty_or (accepted k))

    new_stays : (v : Operation) → q.operation ≡ v → kept_under k q.number ≡ None → Stays (decided_new v (accepted k) q.number) (decided (more k r p) q)
    new_stays Create o e = create_stays e o
    new_stays (Update s) o e = later_stays e (λ c. let z : Create ≡ Update s = sym c ∙ o in cc)
    new_stays (Release s) o e = later_stays e (λ c. let z : Create ≡ Release s = sym c ∙ o in cc)

    at : (o : Option Kept) → kept_under k q.number ≡ o → Stays (decided_under k q (kept_under k q.number)) (decided (more k r p) q)
    at (Some c) e = found c e
    at None e = subst (λ o. Stays (decided_under k q o) (decided (more k r p) q)) (sym e) (new_stays q.operation refl e)

pub decisions_stay : (k : List Kept) (r q : Request) (p : Reply) → decided k r ≡ IsNew → Stays (decided k q) (decided (more k r p) q)
decisions_stay k r q p d = kept_stays k r q p (is_fresh k r d)
