-- Two conversations of one stream: one goes on where the other ends.
use Rattle.std.proofs.Common.{◌≡◌, ◌⊎◌, inl, inr, ⊎_elim, ℕ, zero, suc, ◌+◌, ◌-◌, ◌<◌, Bool, true, false, List, [], ◌∷◌, ◌++◌, length, drop, arith, refl, sym, ◌∙◌, ap, subst, true≢false}
use Rattle.std.proofs.lemmas.Bool.{cases_order}
use Rattle.std.proofs.lemmas.List.{append-nil}
use Rattle.edge.specs.Connections.{Connection}
use Rattle.wire.specs.Heads.{Whole, Bad, More}
use Rattle.wire.specs.Laws.{RequestsDecide}
use Rattle.wire.specs.Requests.{RequestLooks}
use Rattle.wire.specs.declared.message.HttpRequest.{HttpRequest}
use Rattle.wire.specs.declared.refusal.WireRefusal.{WireRefusal}
use Rattle.serving.specs.Laws.{IsOneWay, WentWell, stream}
use Rattle.serving.specs.Sides.{Meaning}
use Rattle.serving.specs.Talk.{Conversation, IsOver, IsRefused, Talk, Turn, as_given, goes_on, said}
use Rattle.serving.specs.Texts.{refusal_text}
use Rattle.serving.proofs.Talking.{talk_more}

whole_is_one : RequestsDecide → (b : List ℕ) (m k : HttpRequest) (n i : ℕ) → RequestLooks b (Whole m n) → RequestLooks b (Whole k i) → (m ≡ k) × (n ≡ i)
whole_is_one laws b m k n i x y = let e : Whole m n ≡ Whole k i = laws.once b _ _ x y in (cc, cc)

no_whole_after_bad : RequestsDecide → (b : List ℕ) (m : HttpRequest) (n : ℕ) (r : WireRefusal) → RequestLooks b (Bad r) → RequestLooks b (Whole m n) → ⊥
no_whole_after_bad laws b m n r x y = let e : Bad r ≡ Whole m n = laws.once b _ _ x y in cc

no_whole_after_more : RequestsDecide → (b : List ℕ) (m : HttpRequest) (n : ℕ) → RequestLooks b More → RequestLooks b (Whole m n) → ⊥
no_whole_after_more laws b m n x y = let e : More ≡ Whole m n = laws.once b _ _ x y in cc

no_more_after_bad : RequestsDecide → (b : List ℕ) (r : WireRefusal) → RequestLooks b (Bad r) → RequestLooks b More → ⊥
no_more_after_bad laws b r x y = let e : Bad r ≡ More = laws.once b _ _ x y in cc

bad_is_one : RequestsDecide → (b : List ℕ) (r q : WireRefusal) → RequestLooks b (Bad r) → RequestLooks b (Bad q) → r ≡ q
bad_is_one laws b r q x y = let e = laws.once b (Bad r) (Bad q) x y in cc

bad_stays : RequestsDecide → (b more : List ℕ) (r : WireRefusal) → RequestLooks b (Bad r) → RequestLooks (b ++ more) (Bad r)
bad_stays laws b more r h = laws.stays b more (Bad r) (λ e. let f : Bad r ≡ More = e in cc) h

gap_of : (m n : ℕ) → m < n → n ≡ m + suc (n - suc m)
gap_of m n h = omega arith

module _ {S : Type 0} (meaning : Meaning S) (laws : RequestsDecide) (one : IsOneWay meaning) where
  -- talks of as many turns are the same
  equal_talks : (start : S) (b : List ℕ) (ts us : List Turn) (s t : S) (r q : List ℕ) → Talk meaning start b ts s r → Talk meaning start b us t q → length ts ≡ length us
      → (ts ≡ us) × (s ≡ t) × (r ≡ q)
  equal_talks start b [] [] s t r q x y e = (refl, x.0 ∙ sym y.0, x.1 ∙ sym y.1)
  equal_talks start b [] (u ∷ us) s t r q x y e = absurd (omega (arith, e))
  equal_talks start b (v ∷ ts) [] s t r q x y e = absurd (omega (arith, e))
  equal_talks start b (v ∷ ts) (u ∷ us) s t r q (s0, r0, x, this) (t0, q0, y, that) e =
      let h = equal_talks start b ts us s0 t0 r0 q0 x y (omega (arith, e)) in
      let there : RequestLooks r0 (Whole that.message that.size) = subst (λ c. RequestLooks c (Whole that.message that.size)) (sym h.2) that.stands in
      let same = whole_is_one laws r0 this.message that.message this.size that.size this.stands there in
      let given : v.message ≡ u.message = this.given ∙ (let P : ℕ → HttpRequest = λ n. as_given n this.message in ap P (ap length h.0)) ∙ ap (as_given (length us)) same.0 ∙ sym that.given in
      let other : meaning.gives s0 v.message u.answer t = subst (λ m. meaning.gives s0 m u.answer t) (sym given) (subst (λ z. meaning.gives z u.message u.answer t) (sym h.1) that.answered) in
      let answer = one s0 v.message v.answer u.answer s t this.answered other in
      ((λ i. record { message = given i; answer = answer.0 i } ∷ h.0 i), answer.1, this.after ∙ ap (λ n. drop n r0) same.1 ∙ ap (drop that.size) h.2 ∙ sym that.after)

  -- a longer talk goes on where a shorter one ends
  goes_further : (k : ℕ) (start : S) (b : List ℕ) (ts us : List Turn) (s t : S) (r q : List ℕ) → Talk meaning start b ts s r → Talk meaning start b us t q → length us ≡ length ts + suc k
      → (goes_on meaning ts s ≡ true) × ((m : HttpRequest) × (n : ℕ) × RequestLooks r (Whole m n))
  goes_further k start b ts [] s t r q x y e = absurd (omega (arith, e))
  goes_further zero start b ts (u ∷ us) s t r q x (t0, q0, y, that) e =
      let h = equal_talks start b ts us s t0 r q0 x y (omega (arith, e)) in
      ((λ i. goes_on meaning (h.0 i) (h.1 i)) ∙ that.goes, (that.message, that.size, subst (λ c. RequestLooks c (Whole that.message that.size)) (sym h.2) that.stands))
  goes_further (suc k) start b ts (u ∷ us) s t r q x (t0, q0, y, that) e = goes_further k start b ts us s t0 r q0 x y (omega (arith, e))

  -- so a conversation in which all went well is no shorter than another
  no_shorter : (k : ℕ) (start : S) (a : Connection) (ts us : List Turn) (s t : S) (r q words : List ℕ) → Talk meaning start (stream a) ts s (r ++ a.left) → Talk meaning start (stream a) us t q
      → (goes_on meaning ts s ≡ true → IsOver r words a) → a.read_failed ≡ false → length us ≡ length ts + suc k → ⊥
  no_shorter k start a ts us s t r q words x y over well e =
      let h = goes_further k start (stream a) ts us s t (r ++ a.left) q x y e in
      ⊎_elim (λ bad. no_whole_after_bad laws (r ++ a.left) h.1.0 h.1.1 bad.0 (bad_stays laws r a.left bad.0 bad.1) h.1.2)
      (λ more. no_whole_after_more laws (r ++ a.left) h.1.0 h.1.1 (subst (λ c. RequestLooks c More) (sym (ap (λ l. r ++ l) (more.2 well) ∙ append-nil r)) more.0) h.1.2)
      (over h.0)

  -- the words to a rest are determined
  abbrev WordsTo : Bool → List ℕ → List ℕ → Type 0
  WordsTo goes rest words = ((goes ≡ false) × (words ≡ [])) ⊎ ((goes ≡ true) × (IsRefused rest words ⊎ (RequestLooks rest More × (words ≡ []))))

  words_one : (goes : Bool) (rest v w : List ℕ) → WordsTo goes rest v → WordsTo goes rest w → v ≡ w
  words_one goes rest v w x y =
      ⊎_elim (λ a. ⊎_elim (λ b. a.1 ∙ sym b.1) (λ b. absurd (true≢false (sym b.0 ∙ a.0))) y)
      (λ a. ⊎_elim (λ b. absurd (true≢false (sym a.0 ∙ b.0)))
      (λ b. ⊎_elim (λ c. ⊎_elim (λ d. c.2 ∙ ap refusal_text (bad_is_one laws rest c.0 d.0 c.1 d.1) ∙ sym d.2) (λ d. absurd (no_more_after_bad laws rest c.0 c.1 d.0)) b.1)
      (λ c. ⊎_elim (λ d. absurd (no_more_after_bad laws rest d.0 d.1 c.0)) (λ d. c.1 ∙ sym d.1) b.1) a.1) y) x

  words_of : (goes : Bool) (a : Connection) (r words : List ℕ) → (words ≡ []) ⊎ ((goes ≡ true) × IsRefused r words) → (goes ≡ true → IsOver r words a) → a.read_failed ≡ false → WordsTo goes (r ++ a.left) words
  words_of true a r words last over well =
      inr (
        refl,
        ⊎_elim (λ bad. inl (bad.0, bad_stays laws r a.left bad.0 bad.1, bad.2))
            (λ more. inr (subst (λ c. RequestLooks c More) (sym (ap (λ l. r ++ l) (more.2 well) ∙ append-nil r)) more.0, more.1)) (over refl),
      )
  words_of false a r words last over well = inl (refl, ⊎_elim (λ none. none) (λ bad. absurd (true≢false (sym bad.0))) last)

  pub says_the_same : (start next other : S) (a b : Connection) → Conversation meaning true start a next → Conversation meaning true start b other
      → stream a ≡ stream b → WentWell a → WentWell b → (a.written ≡ b.written) × (next ≡ other)
  says_the_same start next other a b x y same (ar, aw) (br, bw) =
      let tx : Talk meaning start (stream a) x.turns next (x.rest ++ a.left) = talk_more meaning laws a.left start a.read x.turns next x.rest x.talk in
      let ty : Talk meaning start (stream b) y.turns other (y.rest ++ b.left) = talk_more meaning laws b.left start b.read y.turns other y.rest y.talk in
      let ty_a : Talk meaning start (stream a) y.turns other (y.rest ++ b.left) = subst (λ c. Talk meaning start c y.turns other (y.rest ++ b.left)) (sym same) ty in
      let tx_b : Talk meaning start (stream b) x.turns next (x.rest ++ a.left) = subst (λ c. Talk meaning start c x.turns next (x.rest ++ a.left)) same tx in
      let wx = x.whole refl aw in
      let wy = y.whole refl bw in
      let many : length x.turns ≡ length y.turns =
      ⊎_elim (λ e. e) (λ d. absurd (⊎_elim
      (λ lt. no_shorter (length y.turns - suc (length x.turns)) start a x.turns y.turns next other x.rest (y.rest ++ b.left) x.words tx ty_a wx.1 ar (gap_of (length x.turns) (length y.turns) lt))
      (λ lt. no_shorter (length x.turns - suc (length y.turns)) start b y.turns x.turns other next y.rest (x.rest ++ a.left) y.words ty tx_b wy.1 br (gap_of (length y.turns) (length x.turns) lt)) d))
      (cases_order (length x.turns) (length y.turns)) in
      let h = equal_talks start (stream a) x.turns y.turns next other (x.rest ++ a.left) (y.rest ++ b.left) tx ty_a many in
      let goes : goes_on meaning x.turns next ≡ goes_on meaning y.turns other = λ i. goes_on meaning (h.0 i) (h.1 i) in
      let vx : WordsTo (goes_on meaning x.turns next) (x.rest ++ a.left) x.words = words_of (goes_on meaning x.turns next) a x.rest x.words x.last wx.1 ar in
      let vy : WordsTo (goes_on meaning y.turns other) (y.rest ++ b.left) y.words = words_of (goes_on meaning y.turns other) b y.rest y.words y.last wy.1 br in
      let vy_a : WordsTo (goes_on meaning x.turns next) (x.rest ++ a.left) y.words =
      subst (λ g. WordsTo g (x.rest ++ a.left) y.words) (sym goes) (subst (λ c. WordsTo (goes_on meaning y.turns other) c y.words) (sym h.2) vy) in
      let words : x.words ≡ y.words = words_one (goes_on meaning x.turns next) (x.rest ++ a.left) x.words y.words vx vy_a in
      (wx.0 ∙ (λ i. said (h.0 i) ++ words i) ∙ sym wy.0, h.1)
