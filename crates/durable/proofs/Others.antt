-- A list is held still where another claims a greater epoch.
use Rattle.std.proofs.Common.{◌≡◌, ◌≤◌, ℕ, zero, suc, List, Option, Some, None, is_some, refl, sym, true≢false, ap, ◌∙◌, subst, arith}
use Rattle.journal.specs.Bytes.{StandsFor}
use Rattle.journal.specs.Lists.{EachBeginsWith, IsTied}
use Rattle.journal.specs.State.{State as Journal}
use Rattle.durable.specs.State.{State}
use Rattle.durable.specs.Held.{IsHeld}

-- what bytes stand for under an epoch of at least 1 they stand for under each of these
later : (a b : ℕ) (c : List ℕ) (list : List (List ℕ)) → 1 ≤ a → a ≤ b → StandsFor (Some a) c list → StandsFor (Some b) c list
later zero b c list one le s = absurd (omega arith)
later (suc a) zero c list one le s = absurd (omega arith)
later (suc a) (suc b) c list one le s = s

begins_later : (n f : Option ℕ) (i k : List ℕ → Type 0) (list : List (List ℕ)) → EachBeginsWith n i list → ((c : List ℕ) → k c → i c)
    → ((a : ℕ) → n ≡ Some a → 1 ≤ a) → ((e : ℕ) → f ≡ Some e → (a : ℕ) × (n ≡ Some a) × (a ≤ e)) → ((c : List ℕ) → k c → (e : ℕ) × (f ≡ Some e)) → EachBeginsWith f k list
begins_later n f i k list begins kept one rises told = λ c im.
    let w = begins c (kept c im) in
    let t = told c im in
    let r = rises t.0 t.1 in
    let stands : StandsFor (Some r.0) c w.0 = subst (λ x. StandsFor x c w.0) r.1 w.1 in
    (w.0, subst (λ x. StandsFor x c w.0) (sym t.1) (later r.0 t.0 c w.0 (one r.0 r.1) r.2 stands), w.2)

tied_later : (journal : Journal) (b d : Option (List ℕ)) (n f : Option ℕ) (i k : List ℕ → Type 0) (own : ℕ) (list : List (List ℕ)) → IsTied journal b n i list → d ≡ b → ((c : List ℕ) → k c → i c)
    → ((e : ℕ) → f ≡ Some e → (a : ℕ) × (n ≡ Some a) × (a ≤ e)) → IsTied journal d f k list
tied_later journal b d n f i k own list tied same kept rises = record {
  ends = tied.ends;
  claimed = λ e told. let r = rises e told in let one : 1 ≤ r.0 = tied.claimed r.0 r.1 in omega (arith, one, r.2);
  disk = λ e x told le is. let r = rises e told in tied.disk r.0 x r.1 (omega (arith, r.2, le)) (sym same ∙ is);
  each = λ e c told le im. let r = rises e told in tied.each r.0 c r.1 (omega (arith, r.2, le)) (kept c im);
}

one_epoch : (a b : ℕ) → Some a ≡ Some b → a ≡ b
one_epoch a b e = cc

pub others : (held : State) (b d : Option (List ℕ)) (n f : Option ℕ) (i k : List ℕ → Type 0) (list : List (List ℕ)) → IsHeld held b n i list → d ≡ b → ((c : List ℕ) → k c → i c)
    → ((e : ℕ) → f ≡ Some e → (a : ℕ) × (n ≡ Some a) × (a ≤ e)) → ((c : List ℕ) → k c → (e : ℕ) × (f ≡ Some e)) → IsHeld held d f k list
others held b d n f i k list is same kept rises told = record {
  sound = λ journal stands. tied_later journal b d n f i k held.own list (is.sound journal stands) same kept rises;
  begins = begins_later n f i k list is.begins kept is.begun rises told;
  begun = λ e t. let r = rises e t in let one : 1 ≤ r.0 = is.begun r.0 r.1 in omega (arith, one, r.2);
  claimed = λ e t. let r = rises e t in let own : held.own ≤ r.0 = is.claimed r.0 r.1 in omega (arith, own, r.2);
  same = λ journal e stands t. let r = rises e t in is.same journal r.0 stands r.1;
}

-- an epoch that is told still was told before
pub rises : (n f : Option ℕ) → is_some f ≡ is_some n → ((a : ℕ) → n ≡ Some a → (e : ℕ) × (f ≡ Some e) × (a ≤ e)) → (e : ℕ) → f ≡ Some e → (a : ℕ) × (n ≡ Some a) × (a ≤ e)
rises None f tells grown e told = absurd (true≢false (sym (ap is_some told) ∙ tells))
rises (Some a) f tells grown e told = let w = grown a refl in (a, refl, subst (λ x. a ≤ x) (one_epoch w.0 e (sym w.1 ∙ told)) w.2)
