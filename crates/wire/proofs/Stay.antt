-- What decides decides whatever follows, and what does not is short.
use Rattle.std.proofs.Common.{◌≡◌, ◌≢◌, ℕ, ◌+◌, ◌<◌, ◌≤◌, inl, inr, ⊎_elim, Bool, true, false, cond, nat_le, List, [], ◌++◌, length, take, drop, Option, Some, None, codes, Ok, Err, arith, refl, sym, ◌∙◌, ap, subst, length-append, length-drop}
use Rattle.std.proofs.lemmas.List.{take-append-le, drop-append-le}
use Rattle.wire.specs.Front.{front, is_cut}
use Rattle.wire.specs.Fields.{Named, body_length, has_field, judged, length_after}
use Rattle.wire.specs.Heads.{AreHeads, Begins, Decides, Head, IsWhole, Look, Whole, Bad, More, HasNone, RefusesFront}
use Rattle.wire.specs.declared.refusal.WireRefusal.{WireRefusal}
use Rattle.wire.specs.declared.refusal.WireRefusal.TheVariants.{BadHead, TooLong, Chunked, ReadFault, CutShort, OutOfMemory}
use Rattle.wire.proofs.Fronts.{front_grows, front_within, cut_stays, open_is_short}
use Rattle.wire.proofs.Once.{looks_once}

judged_within : (stated : Option (Option ℕ)) (encoded : Bool) (count : ℕ) → judged stated encoded ≡ Ok count → count ≤ 1048576
judged_within None encoded count h = absurd (cc)
judged_within (Some stated) true count h = absurd (cc)
judged_within (Some None) false count h = let e : 0 ≡ count = cc in omega arith
judged_within (Some (Some n)) false count h = by (nat_le n 1048576) refl h where
  by : (t : Bool) → nat_le n 1048576 ≡ t → cond t (Ok n) (Err (TooLong false)) ≡ Ok count → count ≤ 1048576
  by true e h = let same : n ≡ count = cc in grind arith
  by false e h = absurd (cc)

pub body_within : (fields : List Named) (count : ℕ) → body_length fields ≡ Ok count → count ≤ 1048576
unfolding body_length
body_within fields count h = judged_within (length_after None fields) (has_field (codes "transfer-encoding") fields) count h

module _ {M : Type 0} (At : List ℕ → Head M → Type 0) (Hopeless : List ℕ → Type 0) (are : AreHeads At Hopeless) where
  head_stays : (b m : List ℕ) (h : Head M) → At (front b) h → At (front (b ++ m)) h
  head_stays b m h stands =
      let g = front_grows b m in
      subst (λ f. At f h) (sym g.1) (are.stays (front b) g.0 h stands)

  whole_stays : (b m : List ℕ) (message : M) (size : ℕ) → IsWhole At b message size → IsWhole At (b ++ m) message size
  whole_stays b m message size w =
      let n = w.head.size in
      let body : take w.count (drop n (b ++ m)) ≡ take w.count (drop n b) =
      ap (take w.count) (drop-append-le n b m (omega (arith, w.here))) ∙ take-append-le w.count (drop n b) m (omega (arith, length-drop n b, w.here)) in
      record {
        head = w.head;
        stands = head_stays b m w.head w.stands;
        count = w.count;
        body = w.body;
        here = omega (arith, length-append b m, w.here);
        all = w.all;
        is = w.is ∙ ap w.head.message (sym body);
      }

  none_stays : (b m : List ℕ) (r : WireRefusal) → HasNone At b → RefusesFront Hopeless b r → HasNone At (b ++ m) × RefusesFront Hopeless (b ++ m) r
  none_stays b m BadHead none h =
      let g = front_grows b m in
      let all : Hopeless (front (b ++ m)) = subst Hopeless (sym g.1) (are.hopeless (front b) g.0 h) in
      (λ head stands. are.none (front (b ++ m)) head all stands, all)
  none_stays b m (TooLong head) none (is, cut, hopes) =
      let c = cut_stays b m cut in
      (λ head stands. none head (subst (λ f. At f head) c.1 stands), (is, c.0, λ h. hopes (subst Hopeless c.1 h)))
  none_stays b m Chunked none h = absurd h
  none_stays b m ReadFault none h = absurd h
  none_stays b m (CutShort had) none h = absurd h
  none_stays b m OutOfMemory none h = absurd h

  looks_stay : (b m : List ℕ) (found : Look M) → found ≢ More → Begins At Hopeless b found → Begins At Hopeless (b ++ m) found
  unfolding Begins
  looks_stay b m (Whole message size) decided h = whole_stays b m message size h
  looks_stay b m (Bad r) decided h = ⊎_elim (λ a. inl (a.0, head_stays b m a.0 a.1, a.2)) (λ a. inr (none_stays b m r a.0 a.1)) h
  looks_stay b m More decided h = absurd (decided refl)

  whole_size : (b : List ℕ) (message : M) (size : ℕ) → Begins At Hopeless b (Whole message size) → (0 < size) × (size ≤ length b)
  unfolding Begins
  whole_size b message size w = let h = are.within (front b) w.head w.stands in (omega (arith, h.0, w.all), omega (arith, w.here, w.all))

  more_is_short : (b : List ℕ) → Begins At Hopeless b More → length b < 16384 + 1048576
  unfolding Begins
  more_is_short b h = ⊎_elim (λ p. omega (arith, p.lacks, body_within p.head.fields p.count p.body, (are.within (front b) p.head p.stands).1, (front_within b).0)) (λ n. omega (arith, (open_is_short b n.1).size)) h

  nothing_is_more : Begins At Hopeless [] More
  unfolding Begins front is_cut
  nothing_is_more = inr (λ head stands. absurd (let w = are.within [] head stands in omega (arith, w.0, w.1)), refl, are.nothing)

  pub decides : Decides (Begins At Hopeless)
  decides = record {
    once = looks_once At Hopeless are;
    stays = looks_stay;
    size = whole_size;
    short = more_is_short;
    nothing = nothing_is_more;
  }
