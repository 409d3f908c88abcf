-- Bytes begin with one thing at most.
use Rattle.std.proofs.Common.{◌≡◌, ℕ, ◌+◌, ⊎_elim, false, List, take, drop, Result, Ok, Err, arith, refl, sym, ◌∙◌, ap, true≢false}
use Rattle.wire.specs.Front.{front, is_cut}
use Rattle.wire.specs.Fields.{body_length}
use Rattle.wire.specs.Heads.{AreHeads, Begins, Head, IsWhole, Look, Whole, Bad, More, RefusesFront}
use Rattle.wire.specs.declared.refusal.WireRefusal.{WireRefusal}
use Rattle.wire.specs.declared.refusal.WireRefusal.TheVariants.{BadHead, TooLong, Chunked, ReadFault, CutShort, OutOfMemory}

one_count : (m n : ℕ) (a b : Result ℕ WireRefusal) → a ≡ Ok m → b ≡ Ok n → a ≡ b → m ≡ n
one_count m n a b x y h = cc

ok_or_err : (m : ℕ) (r : WireRefusal) (a b : Result ℕ WireRefusal) → a ≡ Ok m → b ≡ Err r → a ≡ b → ⊥
ok_or_err m r a b x y h = absurd (let e : Ok m ≡ Err r = sym x ∙ h ∙ y in cc)

one_refusal : (r q : WireRefusal) (a b : Result ℕ WireRefusal) → a ≡ Err r → b ≡ Err q → a ≡ b → r ≡ q
one_refusal r q a b x y h = cc

front_once : (Hopeless : List ℕ → Type 0) (bytes : List ℕ) (r q : WireRefusal) → RefusesFront Hopeless bytes r → RefusesFront Hopeless bytes q → r ≡ q
front_once H bytes BadHead BadHead x y = refl
front_once H bytes BadHead (TooLong head) x y = absurd (y.2 x)
front_once H bytes BadHead Chunked x y = absurd y
front_once H bytes BadHead ReadFault x y = absurd y
front_once H bytes BadHead (CutShort had) x y = absurd y
front_once H bytes BadHead OutOfMemory x y = absurd y
front_once H bytes (TooLong head) BadHead x y = absurd (x.2 y)
front_once H bytes (TooLong head) (TooLong other) x y = ap TooLong (x.0 ∙ sym y.0)
front_once H bytes (TooLong head) Chunked x y = absurd y
front_once H bytes (TooLong head) ReadFault x y = absurd y
front_once H bytes (TooLong head) (CutShort had) x y = absurd y
front_once H bytes (TooLong head) OutOfMemory x y = absurd y
front_once H bytes Chunked q x y = absurd x
front_once H bytes ReadFault q x y = absurd x
front_once H bytes (CutShort had) q x y = absurd x
front_once H bytes OutOfMemory q x y = absurd x

front_not_more : (Hopeless : List ℕ → Type 0) (bytes : List ℕ) (r : WireRefusal) → RefusesFront Hopeless bytes r → is_cut bytes ≡ false → (Hopeless (front bytes) → ⊥) → ⊥
front_not_more H bytes BadHead x cut hopeful = hopeful x
front_not_more H bytes (TooLong head) x cut hopeful = true≢false (sym x.1 ∙ cut)
front_not_more H bytes Chunked x cut hopeful = x
front_not_more H bytes ReadFault x cut hopeful = x
front_not_more H bytes (CutShort had) x cut hopeful = x
front_not_more H bytes OutOfMemory x cut hopeful = x

module _ {M : Type 0} (At : List ℕ → Head M → Type 0) (Hopeless : List ℕ → Type 0) (are : AreHeads At Hopeless) where
  by_head : (bytes : List ℕ) (h k : Head M) → At (front bytes) h → At (front bytes) k → body_length h.fields ≡ body_length k.fields
  by_head bytes h k x y = ap (λ (h : Head M). body_length h.fields) (are.once (front bytes) h k x y)

  whole_once : (bytes : List ℕ) (r q : M) (m n : ℕ) → IsWhole At bytes r m → IsWhole At bytes q n → Whole r m ≡ Whole q n
  whole_once bytes r q m n x y =
      let e = are.once (front bytes) x.head y.head x.stands y.stands in
      let c : x.count ≡ y.count = one_count x.count y.count (body_length x.head.fields) (body_length y.head.fields) x.body y.body (by_head bytes x.head y.head x.stands y.stands) in
      let sizes : m ≡ n = x.all ∙ (λ i. (e i).size + c i) ∙ sym y.all in
      let messages : r ≡ q = x.is ∙ (λ i. (e i).message (take (c i) (drop (e i).size bytes))) ∙ sym y.is in
      λ i. Whole (messages i) (sizes i)

  bad_once : (bytes : List ℕ) (r q : WireRefusal) → Begins At Hopeless bytes (Bad r) → Begins At Hopeless bytes (Bad q) → r ≡ q
  unfolding Begins
  bad_once bytes r q x y =
      ⊎_elim (λ a. ⊎_elim (λ b. one_refusal r q (body_length a.0.fields) (body_length b.0.fields) a.2 b.2 (by_head bytes a.0 b.0 a.1 b.1)) (λ b. absurd (b.0 a.0 a.1)) y)
      (λ a. ⊎_elim (λ b. absurd (a.0 b.0 b.1)) (λ b. front_once Hopeless bytes r q a.1 b.1) y) x

  whole_not_bad : (bytes : List ℕ) (message : M) (m : ℕ) (r : WireRefusal) → IsWhole At bytes message m → Begins At Hopeless bytes (Bad r) → ⊥
  unfolding Begins
  whole_not_bad bytes message m r x y =
      ⊎_elim (λ b. ok_or_err x.count r (body_length x.head.fields) (body_length b.0.fields) x.body b.2 (by_head bytes x.head b.0 x.stands b.1)) (λ b. b.0 x.head x.stands) y

  whole_not_more : (bytes : List ℕ) (message : M) (m : ℕ) → IsWhole At bytes message m → Begins At Hopeless bytes More → ⊥
  unfolding Begins
  whole_not_more bytes message m x y =
      ⊎_elim (λ b. let c : x.count ≡ b.count = one_count x.count b.count (body_length x.head.fields) (body_length b.head.fields) x.body b.body (by_head bytes x.head b.head x.stands b.stands) in
      let same : x.head.size ≡ b.head.size = ap (λ (h : Head M). h.size) (are.once (front bytes) x.head b.head x.stands b.stands) in
      omega (arith, x.here, b.lacks, c, same)) (λ b. b.0 x.head x.stands) y

  bad_not_more : (bytes : List ℕ) (r : WireRefusal) → Begins At Hopeless bytes (Bad r) → Begins At Hopeless bytes More → ⊥
  unfolding Begins
  bad_not_more bytes r x y =
      ⊎_elim (λ a. ⊎_elim (λ b. ok_or_err b.count r (body_length b.head.fields) (body_length a.0.fields) b.body a.2 (by_head bytes b.head a.0 b.stands a.1)) (λ b. b.0 a.0 a.1) y)
      (λ a. ⊎_elim (λ b. a.0 b.head b.stands) (λ b. front_not_more Hopeless bytes r a.1 b.1 b.2) y) x

  pub looks_once : (bytes : List ℕ) (a b : Look M) → Begins At Hopeless bytes a → Begins At Hopeless bytes b → a ≡ b
  unfolding Begins
  looks_once bytes (Whole r m) (Whole q n) x y = whole_once bytes r q m n x y
  looks_once bytes (Whole r m) (Bad q) x y = absurd (whole_not_bad bytes r m q x y)
  looks_once bytes (Whole r m) More x y = absurd (whole_not_more bytes r m x y)
  looks_once bytes (Bad r) (Whole q n) x y = absurd (whole_not_bad bytes q n r y x)
  looks_once bytes (Bad r) (Bad q) x y = ap Bad (bad_once bytes r q x y)
  looks_once bytes (Bad r) More x y = absurd (bad_not_more bytes r x y)
  looks_once bytes More (Whole q n) x y = absurd (whole_not_more bytes q n y x)
  looks_once bytes More (Bad q) x y = absurd (bad_not_more bytes q y x)
  looks_once bytes More More x y = refl
