-- What the bytes held decide, read on.
use Rattle.std.proofs.Common.{◌≡◌, ℕ, ◌+◌, ◌<◌, ◌≤◌, inl, inr, ⊎_elim, Bool, true, false, List, [], ◌∷◌, ◌++◌, length, take, drop, Option, Some, None, cond, codes, nat_le, Ok, Err, arith, refl, sym, ◌∙◌, ap, subst, append_assoc, length-append}
use Rattle.std.proofs.lemmas.Bool.{cases_lt}
use Rattle.std.proofs.lemmas.List.{append-nil, length-take, take-append-drop}
use Rattle.edge.specs.Connections.{Connection}
use Rattle.wire.specs.Decisions.{HasFilled, IsOfBytes, IsReady}
use Rattle.wire.specs.Fields.{Named, body_length, has_field, judged, length_after}
use Rattle.wire.specs.Front.{front, is_cut}
use Rattle.wire.specs.Heads.{Begins, Head, Whole, More, Bad}
use Rattle.wire.specs.Held.{HasTaken}
use Rattle.wire.specs.Starts.{IsFound, IsOpen}
use Rattle.wire.specs.declared.framed.FoundHead.{FoundHead}
use Rattle.wire.specs.declared.refusal.WireRefusal.{WireRefusal}
use Rattle.wire.specs.declared.refusal.WireRefusal.TheVariants.{BadHead, TooLong, Chunked}
use Rattle.wire.proofs.Found.{first_is}
use Rattle.wire.proofs.Fronts.{front_grows, front_takes, front_within}
use Rattle.wire.proofs.Stay.{body_within}
use Rattle.wire.proofs.Taking.{took_then}

judged_of_bytes : (stated : Option (Option ℕ)) (encoded : Bool) (refusal : WireRefusal) → judged stated encoded ≡ Err refusal → IsOfBytes refusal
judged_of_bytes None encoded refusal h = let e : BadHead ≡ refusal = cc in subst IsOfBytes e tt
judged_of_bytes (Some stated) true refusal h = let e : Chunked ≡ refusal = cc in subst IsOfBytes e tt
judged_of_bytes (Some None) false refusal h = absurd (cc)
judged_of_bytes (Some (Some n)) false refusal h = by (nat_le n 1048576) h where
  by : (t : Bool) → cond t (Ok n) (Err (TooLong false)) ≡ Err refusal → IsOfBytes refusal
  by true e = absurd (cc)
  by false e = let same : TooLong false ≡ refusal = cc in subst IsOfBytes same tt

-- a head is refused for its bytes alone
pub refused_of_bytes : (fields : List Named) (refusal : WireRefusal) → body_length fields ≡ Err refusal → IsOfBytes refusal
unfolding body_length
refused_of_bytes fields refusal h = judged_of_bytes (length_after None fields) (has_field (codes "transfer-encoding") fields) refusal h

-- nothing was added where nothing changed
pub none_added : (old taken : List ℕ) → old ≡ old ++ taken → taken ≡ []
none_added old [] h = refl
none_added old (x ∷ taken) h = absurd (omega (arith, ap length h, length-append old (x ∷ taken)))

module _ {M P : Type 0} (At : List ℕ → Head M → Type 0) (Hopeless : List ℕ → Type 0) (Parts : P → List ℕ → Head M → Type 0) where
  -- the head stands at the front
  pub found_at : (bytes : List ℕ) (found : FoundHead P) → (h : IsFound At Parts (front bytes) found) → At (front bytes) h.head
  found_at bytes found h = subst (λ f. At f h.head) (take-append-drop found.size (front bytes)) (h.stands (drop found.size (front bytes)))

  -- the head and its body fit the buffer
  pub found_fits : (bytes : List ℕ) (found : FoundHead P) (count : ℕ) → IsFound At Parts (front bytes) found → found.body ≡ Ok count → (found.size ≤ 16384) × (count ≤ 1048576)
  found_fits bytes found count h body = (omega (arith, h.within, (front_within bytes).0), body_within h.head.fields count (sym h.follows ∙ body))

  -- a head stays whatever follows
  found_stays : (bytes more : List ℕ) (found : FoundHead P) → IsFound At Parts (front bytes) found → IsFound At Parts (front (bytes ++ more)) found
  found_stays bytes more found h =
      let p = take found.size (front bytes) in
      let grows = front_grows bytes more in
      let whole : front (bytes ++ more) ≡ p ++ (drop found.size (front bytes) ++ grows.0) =
      grows.1 ∙ ap (λ t. t ++ grows.0) (sym (take-append-drop found.size (front bytes))) ∙ append_assoc p (drop found.size (front bytes)) grows.0 in
      let sized = length-take found.size (front bytes) in
      let same : take found.size (front (bytes ++ more)) ≡ p = first_is (front (bytes ++ more)) p (drop found.size (front bytes) ++ grows.0) found.size whole (omega (arith, h.within, sized)) in
      record {
        head = h.head;
        stands = λ further. subst (λ b. At (b ++ further) h.head) (sym same) (h.stands further);
        within = omega (arith, h.within, ap length grows.1, length-append (front bytes) grows.0);
        all = h.all;
        follows = h.follows;
        parts_are = subst (λ b. Parts found.parts b h.head) (sym same) h.parts_are;
      }

  -- a head whose body has not all come decides nothing
  pub part_is_more : (bytes : List ℕ) (found : FoundHead P) (count : ℕ) → IsFound At Parts (front bytes) found → found.body ≡ Ok count → length bytes < found.size + count → Begins At Hopeless bytes More
  unfolding Begins
  part_is_more bytes found count h body few = inl (record { head = h.head; stands = found_at bytes found h; count = count; body = sym h.follows ∙ body; lacks = omega (arith, h.all, few) })

  -- a head that is refused
  pub refused_head : (bytes : List ℕ) (found : FoundHead P) (refusal : WireRefusal) → IsFound At Parts (front bytes) found → found.body ≡ Err refusal → Begins At Hopeless bytes (Bad refusal)
  unfolding Begins
  refused_head bytes found refusal h body = inl (h.head, found_at bytes found h, sym h.follows ∙ body)

  -- no head, and why
  pub hopeless_is_bad : (bytes : List ℕ) → ((head : Head M) → At (front bytes) head → ⊥) → Hopeless (front bytes) → Begins At Hopeless bytes (Bad BadHead)
  unfolding Begins
  hopeless_is_bad bytes none hopeless = inr (none, hopeless)

  pub cut_is_bad : (bytes : List ℕ) → ((head : Head M) → At (front bytes) head → ⊥) → (Hopeless (front bytes) → ⊥) → is_cut bytes ≡ true → Begins At Hopeless bytes (Bad (TooLong true))
  unfolding Begins
  cut_is_bad bytes none hopes cut = inr (none, (refl, cut, hopes))

  pub open_is_more : (bytes : List ℕ) → ((head : Head M) → At (front bytes) head → ⊥) → (Hopeless (front bytes) → ⊥) → is_cut bytes ≡ false → Begins At Hopeless bytes More
  unfolding Begins
  open_is_more bytes none hopes cut = inr (none, cut, hopes)

  -- the same of what a look at the bytes found
  pub looked_more : (bytes near : List ℕ) → near ≡ bytes → IsOpen At Hopeless (front near) → is_cut near ≡ false → Begins At Hopeless bytes More
  looked_more bytes near same looked whole =
      let here = subst (λ b. IsOpen At Hopeless (front b)) same looked in
      open_is_more bytes here.0 here.1 (ap is_cut (sym same) ∙ whole)

  -- a head and its body are a whole message
  pub ready_whole : (bytes : List ℕ) (found : FoundHead P) (count : ℕ) (ready : IsReady At Parts bytes found count) (message : M) → message ≡ ready.head.head.message (take count (drop found.size bytes)) → Begins At Hopeless bytes (Whole message (found.size + count))
  unfolding Begins
  ready_whole bytes found count ready message is =
      let head = ready.head.head in
      record {
        head = head;
        stands = found_at bytes found ready.head;
        count = count;
        body = sym ready.head.follows ∙ ready.body;
        here = omega (arith, ready.head.all, ready.here);
        all = omega (arith, ready.head.all);
        is = is ∙ ap (λ n. head.message (take count (drop n bytes))) ready.head.all;
      }

  -- the parts of the head lie in the first bytes
  pub ready_parts : (bytes first : List ℕ) (found : FoundHead P) (count : ℕ) (ready : IsReady At Parts bytes found count) → first ≡ take found.size bytes → Parts found.parts first ready.head.head
  ready_parts bytes first found count ready is =
      subst (λ b. Parts found.parts b ready.head.head) (front_takes bytes found.size ready.head.within ∙ sym is) ready.head.parts_are

  -- the same after bytes were taken
  pub found_now : (failed : Bool) (old now : List ℕ) (left left_now : Option (List ℕ)) (all all_now : Option (List Connection)) (found : FoundHead P) → IsFound At Parts (front old) found
      → HasTaken failed old now left left_now all all_now → IsFound At Parts (front now) found
  found_now failed old now left left_now all all_now found h took = subst (λ b. IsFound At Parts (front b) found) (sym took.had) (found_stays old took.taken found h)

  -- reading a body takes nothing where it is there
  pub filled_body : (failed : Bool) (old now : List ℕ) (left left_now : Option (List ℕ)) (all all_now : Option (List Connection)) (found : FoundHead P) (count : ℕ) → IsFound At Parts (front old) found → found.body ≡ Ok count
      → HasTaken failed old now left left_now all all_now → (found.size + count ≤ length old → now ≡ old) → HasFilled (λ bytes. Begins At Hopeless bytes More) failed old now left left_now all all_now
  filled_body failed old now left left_now all all_now found count h body took had = record {
    took = took;
    needed = λ decides. ⊎_elim
        (λ few. absurd (decides (part_is_more old found count h body few)))
        (λ enough. none_added old took.taken (sym (had enough) ∙ took.had))
        (cases_lt (length old) (found.size + count));
  }

  -- a read more where the bytes held decide nothing
  pub filled_more : (failed : Bool) (old now after : List ℕ) (left left_now left_after : Option (List ℕ)) (all all_now all_after : Option (List Connection)) → HasFilled (λ bytes. Begins At Hopeless bytes More) false old now left left_now all all_now
      → Begins At Hopeless now More → HasTaken failed now after left_now left_after all_now all_after → HasFilled (λ bytes. Begins At Hopeless bytes More) failed old after left left_after all all_after
  filled_more failed old now after left left_now left_after all all_now all_after h more took = record {
    took = took_then old now after failed left left_now left_after all all_now all_after h.took took;
    needed = λ decides. absurd (decides (subst (λ b. Begins At Hopeless b More) (same (h.needed decides)) more));
  } where
    same : h.took.taken ≡ [] → now ≡ old
    same none = h.took.had ∙ ap (λ t. old ++ t) none ∙ append-nil old

  -- the same where what came next was read in one go
  pub filled_then : (failed : Bool) (old now after : List ℕ) (left left_now left_after : Option (List ℕ)) (all all_now all_after : Option (List Connection)) → HasFilled (λ bytes. Begins At Hopeless bytes More) false old now left left_now all all_now
      → HasFilled (λ bytes. Begins At Hopeless bytes More) failed now after left_now left_after all_now all_after → HasFilled (λ bytes. Begins At Hopeless bytes More) failed old after left left_after all all_after
  filled_then failed old now after left left_now left_after all all_now all_after h k = record {
    took = took_then old now after failed left left_now left_after all all_now all_after h.took k.took;
    needed = λ decides. both (h.needed decides) (k.needed (λ more. decides (subst (λ b. Begins At Hopeless b More) (same (h.needed decides)) more)));
  } where
    same : h.took.taken ≡ [] → now ≡ old
    same none = h.took.had ∙ ap (λ t. old ++ t) none ∙ append-nil old

    both : h.took.taken ≡ [] → k.took.taken ≡ [] → h.took.taken ++ k.took.taken ≡ []
    both none also = ap (λ t. t ++ k.took.taken) none ∙ also
