-- One call of a reader, from what was filled and what was decided.
use Rattle.std.proofs.Common.{◌≡◌, ℕ, ◌+◌, Bool, true, false, List, ◌++◌, length, take, drop, Option, Some, Result, Ok, Err, option_map, refl, sym, ◌∙◌, ap, subst, append_assoc}
use Rattle.std.proofs.lemmas.List.{append-nil, drop-append-le}
use Rattle.std.specs.Io.KnownBytes.{Consumes}
use Rattle.edge.specs.Connections.{Connection, after_read}
use Rattle.wire.specs.Decisions.{HasFilled, IsOfBytes, IsReady}
use Rattle.wire.specs.Heads.{Begins, Decides, Head, Look, Whole, Bad, More}
use Rattle.wire.specs.Held.{AnswersStream, HasRead, Held, Reads, UnlessRefused, is_read_fault}
use Rattle.wire.specs.declared.framed.FoundHead.{FoundHead}
use Rattle.wire.specs.declared.refusal.WireRefusal.{WireRefusal}
use Rattle.wire.specs.declared.refusal.WireRefusal.TheVariants.{BadHead, TooLong, Chunked, ReadFault, CutShort, OutOfMemory}
use Rattle.wire.proofs.Deciding.{ready_whole}

module _ {M : Type 0} (At : List ℕ → Head M → Type 0) (Hopeless : List ℕ → Type 0) where
  -- a call on a reader that refused nothing before
  pub has_read : (old now : Held) (from had : List ℕ) (result : Result M WireRefusal) (failed : Bool) (left left_now : Option (List ℕ)) (all all_now : Option (List Connection)) → old.refused ≡ false → from ≡ old.bytes
      → HasFilled (λ bytes. Begins At Hopeless bytes More) failed from had left left_now all all_now → failed ≡ is_read_fault result → Reads (Begins At Hopeless) had left_now result now
      → HasRead (Reads (Begins At Hopeless)) (λ bytes. Begins At Hopeless bytes More) old now result left left_now all all_now
  has_read old now from had result failed left left_now all all_now fresh same filled fault reads =
      let taken = filled.took.taken in
      let had_is : had ≡ old.bytes ++ taken = filled.took.had ∙ ap (λ b. b ++ taken) same in
      record {
        taken = taken;
        source = filled.took.source;
        connections = filled.took.connections ∙ ap (λ b. option_map (after_read taken b) all) fault;
        reads = subst (λ b. UnlessRefused b old taken result now (Reads (Begins At Hopeless) (old.bytes ++ taken) left_now result now)) (sym fresh)
            (subst (λ h. Reads (Begins At Hopeless) h left_now result now) had_is reads);
        needed = λ decides. filled.needed (λ more. decides (subst (λ b. Begins At Hopeless b More) same more));
      }

  -- a refusal of the bytes held
  pub refuses : (had : List ℕ) (left : Option (List ℕ)) (now : Held) (refusal : WireRefusal) → Begins At Hopeless had (Bad refusal) → IsOfBytes refusal → now ≡ record { bytes = had; refused = true } → Reads (Begins At Hopeless) had left (Err refusal) now
  refuses had left now BadHead bad of is = (bad, is)
  refuses had left now (TooLong head) bad of is = (bad, is)
  refuses had left now Chunked bad of is = (bad, is)
  refuses had left now ReadFault bad of is = absurd of
  refuses had left now (CutShort count) bad of is = absurd of
  refuses had left now OutOfMemory bad of is = absurd of

  -- want of memory comes only where a whole message stands
  pub ready_exists : {P : Type 0} (Parts : P → List ℕ → Head M → Type 0) (bytes : List ℕ) (found : FoundHead P) (count : ℕ) → IsReady At Parts bytes found count → (message : M) × (size : ℕ) × Begins At Hopeless bytes (Whole message size)
  ready_exists Parts bytes found count ready =
      let message = ready.head.head.message (take count (drop found.size bytes)) in
      (message, found.size + count, ready_whole At Hopeless Parts bytes found count ready message refl)

consumed : (left left_now taken : List ℕ) (a b : Option (List ℕ)) → a ≡ Some left → b ≡ Some left_now → Consumes a b taken → left ≡ taken ++ left_now
consumed left left_now taken a b e f h =
    let here : Consumes (Some left) b taken = subst (λ x. Consumes x b taken) e h in
    let there : Consumes (Some left) (Some left_now) taken = subst (λ x. Consumes (Some left) x taken) f here in
    there

module _ {M : Type 0} (Looks : List ℕ → Look M → Type 0) (decides : Decides Looks) where
  bad_stays : (had left : List ℕ) (refusal : WireRefusal) → Looks had (Bad refusal) → Looks (had ++ left) (Bad refusal)
  bad_stays had left refusal h = decides.stays had left (Bad refusal) (λ e. cc) h

  whole_stays : (had left : List ℕ) (message : M) (size : ℕ) → Looks had (Whole message size) → Looks (had ++ left) (Whole message size)
  whole_stays had left message size h = decides.stays had left (Whole message size) (λ e. cc) h

  answers : (had left : List ℕ) (now : Held) (result : Result M WireRefusal) → Reads Looks had (Some left) result now → AnswersStream Looks (had ++ left) (now.bytes ++ left) result
  answers had left now (Ok message) (size, stands, rest) =
      (size, whole_stays had left message size stands, ap (λ (h : Held). h.bytes ++ left) rest ∙ sym (drop-append-le size had left (decides.size had message size stands).1))
  answers had left now (Err BadHead) h = bad_stays had left BadHead h.0
  answers had left now (Err (TooLong head)) h = bad_stays had left (TooLong head) h.0
  answers had left now (Err Chunked) h = bad_stays had left Chunked h.0
  answers had left now (Err ReadFault) h = ap (λ (h : Held). h.bytes ++ left) h.1
  answers had left now (Err (CutShort count)) h =
      let all : had ++ left ≡ had = ap (λ x. had ++ x) h.2 ∙ append-nil had in
      (subst (λ b. Looks b More) (sym all) h.0, h.1 ∙ ap length (sym all))
  answers had left now (Err OutOfMemory) ((message, size, stands), same) = ((message, size, whole_stays had left message size stands), ap (λ (h : Held). h.bytes ++ left) same)

  -- a call told of the whole stream
  pub stream_of : (old now : Held) (result : Result M WireRefusal) (a b : Option (List ℕ)) (all all_now : Option (List Connection)) (left left_now : List ℕ)
      → HasRead (Reads Looks) (λ bytes. Looks bytes More) old now result a b all all_now → old.refused ≡ false → a ≡ Some left → b ≡ Some left_now → AnswersStream Looks (old.bytes ++ left) (now.bytes ++ left_now) result
  stream_of old now result a b all all_now left left_now h fresh e f =
      let reads : UnlessRefused false old h.taken result now (Reads Looks (old.bytes ++ h.taken) b result now) = subst (λ x. UnlessRefused x old h.taken result now (Reads Looks (old.bytes ++ h.taken) b result now)) fresh h.reads in
      let there : Reads Looks (old.bytes ++ h.taken) (Some left_now) result now = subst (λ x. Reads Looks (old.bytes ++ h.taken) x result now) f reads in
      let stream : (old.bytes ++ h.taken) ++ left_now ≡ old.bytes ++ left =
      append_assoc old.bytes h.taken left_now ∙ ap (λ x. old.bytes ++ x) (sym (consumed left left_now h.taken a b e f h.source)) in
      subst (λ x. AnswersStream Looks x (now.bytes ++ left_now) result) stream (answers (old.bytes ++ h.taken) left_now now result there)
