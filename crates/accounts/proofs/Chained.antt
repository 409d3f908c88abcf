-- A chain of groups, after a group was put at its head or taken off it.
use Rattle.std.proofs.Common.{◌≡◌, ◌==◌, ℕ, Bool, true, false, cond, not, ◌&&◌, ◌||◌, List, [], ◌∷◌, Option, Some, None, is_some, refl, sym, ap, ◌∙◌, subst, arith}
use Rattle.std.proofs.lemmas.Bool.Decides.{nat_tests}
use Rattle.std.specs.Option.{option_flatten}
use Rattle.accounts.specs.declared.reservation.Key.{Key}
use Rattle.accounts.specs.Reservations.{at, key_eq}
use Rattle.accounts.specs.Chains.{among, are_apart, Follow, IsChain, AreChained}

itself : (a : ℕ) → ◌==◌ a a ≡ true
itself a = grind (arith, nat_tests)

equal : (a b : ℕ) → ◌==◌ a b ≡ true → a ≡ b
equal a b e = grind (arith, nat_tests)

-- within a session, the group tells
here : (t a b : ℕ) → key_eq (at t a) (at t b) ≡ (a == b)
here t a b = ap (λ c. c && (a == b)) (itself t)

apart : (t u a b : ℕ) → ◌==◌ t u ≡ false → key_eq (at t a) (at u b) ≡ false
apart t u a b n = ap (λ c. c && (a == b)) n

or_false : (a b : Bool) → (a || b) ≡ true → a ≡ false → b ≡ true
or_false a b e n = cc

-- the head is among its list
at_head : (g : ℕ) (gs : List ℕ) → (g == g || among g gs) ≡ true
at_head g gs = ap (λ c. c || among g gs) (itself g)

in_tail : (a b : Bool) → b ≡ true → (a || b) ≡ true
in_tail true b e = refl
in_tail false b e = e

-- a chain depends on what follows its own groups alone
follow_same : (n m : Key → Option (Option ℕ)) (t : ℕ) (first : Option ℕ) (gs : List ℕ) → ((g : ℕ) → among g gs ≡ true → m (at t g) ≡ n (at t g)) → Follow n t first gs → Follow m t first gs
follow_same n m t first [] same f = f
follow_same n m t first (g ∷ gs) same f =
    (f.0, subst (λ w. Follow m t (option_flatten w) gs) (sym (same g (at_head g gs))) (follow_same n m t (option_flatten (n (at t g))) gs (λ x a. same x (in_tail (g == x) (among x gs) a)) f.1))

-- a chain of which nothing changed
pub stays_chained : (n m : Key → Option (Option ℕ)) (t : ℕ) (first last : Option ℕ) → last ≡ first → ((g : ℕ) → m (at t g) ≡ n (at t g)) → (gs : List ℕ) × IsChain n t first gs → (gs : List ℕ) × IsChain m t last gs
stays_chained n m t first last e same old = (
  old.0,
  record {
    follow = subst (λ f. Follow m t f old.0) (sym e) (follow_same n m t first old.0 (λ g _. same g) old.1.follow);
    apart = old.1.apart;
    linked = λ g. ap is_some (same g) ∙ old.1.linked g;
  },
)

and_true : (a b : Bool) → a ≡ false → b ≡ true → (not a && b) ≡ true
and_true a b e f = cc

not_false : (a b : Bool) → (not a && b) ≡ true → (a ≡ false) × (b ≡ true)
not_false true b e = absurd (cc)
not_false false b e = (refl, e)

pub link_chained : (first last : ℕ → Option ℕ) (n m : Key → Option (Option ℕ)) (k : Key) → AreChained first n → is_some (n k) ≡ false
    → ((t : ℕ) → last t ≡ cond (k.session == t) (Some k.group) (first t)) → ((q : Key) → m q ≡ cond (key_eq k q) (Some (first k.session)) (n q)) → AreChained last m
link_chained first last n m k old absent firsts nexts t = elim (k.session == t) as (λ b. ◌==◌ k.session t ≡ b → (gs : List ℕ) × IsChain m t (last t) gs) [
  | true ↦ λ e. subst (λ t. (gs : List ℕ) × IsChain m t (last t) gs) (equal k.session t e) own
  | false ↦ λ e. stays_chained n m t (first t) (last t) (firsts t ∙ ap (λ b. cond b (Some k.group) (first t)) e)
      (λ g. nexts (at t g) ∙ ap (λ b. cond b (Some (first k.session)) (n (at t g))) (apart k.session t k.group g e)) (old t)
] refl
  where
    gs : List ℕ
    gs = (old k.session).0

    chain : IsChain n k.session (first k.session) gs
    chain = (old k.session).1

    new : among k.group gs ≡ false
    new = sym (chain.linked k.group) ∙ absent

    next_at : (g : ℕ) → m (at k.session g) ≡ cond (k.group == g) (Some (first k.session)) (n (at k.session g))
    next_at g = nexts (at k.session g) ∙ ap (λ b. cond b (Some (first k.session)) (n (at k.session g))) (here k.session k.group g)

    other : (g : ℕ) → among g gs ≡ true → m (at k.session g) ≡ n (at k.session g)
    other g a = elim (k.group == g) as (λ b. ◌==◌ k.group g ≡ b → m (at k.session g) ≡ n (at k.session g)) [
      | true ↦ λ e. (let same : k.group ≡ g = equal k.group g e in let both : among g gs ≡ false = subst (λ x. among x gs ≡ false) same new in absurd (cc))
      | false ↦ λ e. next_at g ∙ ap (λ b. cond b (Some (first k.session)) (n (at k.session g))) e
    ] refl

    after_own : m (at k.session k.group) ≡ Some (first k.session)
    after_own = next_at k.group ∙ ap (λ b. cond b (Some (first k.session)) (n (at k.session k.group))) (itself k.group)

    linked_own : (g : ℕ) → is_some (m (at k.session g)) ≡ (k.group == g || among g gs)
    linked_own g = ap is_some (next_at g) ∙ elim (k.group == g) as (λ b. is_some (cond b (Some (first k.session)) (n (at k.session g))) ≡ (b || among g gs)) [ true ↦ refl | false ↦ chain.linked g ]

    own : (gs : List ℕ) × IsChain m k.session (last k.session) gs
    own = (
      k.group ∷ gs,
      record {
        follow = (
          firsts k.session ∙ ap (λ b. cond b (Some k.group) (first k.session)) (itself k.session),
          subst (λ w. Follow m k.session (option_flatten w) gs) (sym after_own) (follow_same n m k.session (first k.session) gs other chain.follow),
        );
        apart = and_true (among k.group gs) (are_apart gs) new chain.apart;
        linked = linked_own;
      },
    )

pub unlink_chained : (first last : ℕ → Option ℕ) (n m : Key → Option (Option ℕ)) (t g : ℕ) → AreChained first n → first t ≡ Some g
    → ((u : ℕ) → last u ≡ cond (t == u) (option_flatten (n (at t g))) (first u)) → ((q : Key) → m q ≡ cond (key_eq (at t g) q) None (n q)) → AreChained last m
unlink_chained first last n m t g old latest firsts nexts u = elim (t == u) as (λ b. ◌==◌ t u ≡ b → (gs : List ℕ) × IsChain m u (last u) gs) [
  | true ↦ λ e. subst (λ u. (gs : List ℕ) × IsChain m u (last u) gs) (equal t u e) (own (old t).0 (old t).1)
  | false ↦ λ e. stays_chained n m u (first u) (last u) (firsts u ∙ ap (λ b. cond b (option_flatten (n (at t g))) (first u)) e)
      (λ x. nexts (at u x) ∙ ap (λ b. cond b None (n (at u x))) (apart t u g x e)) (old u)
] refl
  where
    next_at : (x : ℕ) → m (at t x) ≡ cond (g == x) None (n (at t x))
    next_at x = nexts (at t x) ∙ ap (λ b. cond b None (n (at t x))) (here t g x)

    same_some : (a b : ℕ) → Some a ≡ Some b → a ≡ b
    same_some a b e = cc

    own : (gs : List ℕ) → IsChain n t (first t) gs → (gs : List ℕ) × IsChain m t (last t) gs
    own [] chain = (let none = chain.follow in absurd (cc))
    own (x ∷ gs) chain = (
      gs,
      record {
        follow = subst (λ f. Follow m t f gs) (sym (firsts t ∙ ap (λ b. cond b (option_flatten (n (at t g))) (first t)) (itself t)))
            (follow_same n m t (option_flatten (n (at t g))) gs other (subst (λ y. Follow n t (option_flatten (n (at t y))) gs) head chain.follow.1));
        apart = (not_false (among x gs) (are_apart gs) chain.apart).1;
        linked = linked_own;
      },
    )
      where
        head : x ≡ g
        head = same_some x g (sym chain.follow.0 ∙ latest)

        gone : among g gs ≡ false
        gone = subst (λ y. among y gs ≡ false) head (not_false (among x gs) (are_apart gs) chain.apart).0

        other : (y : ℕ) → among y gs ≡ true → m (at t y) ≡ n (at t y)
        other y a = elim (g == y) as (λ b. ◌==◌ g y ≡ b → m (at t y) ≡ n (at t y)) [
          | true ↦ λ e. (let same : g ≡ y = equal g y e in let both : among y gs ≡ false = subst (λ z. among z gs ≡ false) same gone in absurd (cc))
          | false ↦ λ e. next_at y ∙ ap (λ b. cond b None (n (at t y))) e
        ] refl

        linked_own : (y : ℕ) → is_some (m (at t y)) ≡ among y gs
        linked_own y = ap is_some (next_at y) ∙ elim (g == y) as (λ b. ◌==◌ g y ≡ b → is_some (cond b None (n (at t y))) ≡ among y gs) [
          | true ↦ λ e. sym (subst (λ z. among z gs ≡ false) (equal g y e) gone)
          | false ↦ λ e. chain.linked y ∙ ap (λ b. b || among y gs) (subst (λ z. ◌==◌ z y ≡ false) (sym head) e)
        ] refl

-- the latest group is linked
pub latest_linked : (first : ℕ → Option ℕ) (n : Key → Option (Option ℕ)) (t g : ℕ) → AreChained first n → first t ≡ Some g → is_some (n (at t g)) ≡ true
latest_linked first n t g old latest = (old t).1.linked g ∙ own (old t).0 (old t).1.follow
  where
    same_some : (a b : ℕ) → Some a ≡ Some b → a ≡ b
    same_some a b e = cc

    own : (gs : List ℕ) → Follow n t (first t) gs → among g gs ≡ true
    own [] f = absurd (cc)
    own (x ∷ gs) f = subst (λ y. (x == y || among y gs) ≡ true) (same_some x g (sym f.0 ∙ latest)) (at_head x gs)
