-- How a conversation begins, and what each answer of the reader makes of it.
use Rattle.std.proofs.Common.{◌≡◌, ◌≢◌, ◌⊎◌, ⊎_elim, inl, inr, ℕ, Bool, true, false, not, ◌&&◌, ◌||◌, ◌==◌, List, [], ◌∷◌, ◌++◌, length, take, drop, Option, Some, None, Result, Ok, Err, arith, refl, sym, ◌∙◌, ap, subst, option_map, true≢false}
use Rattle.std.proofs.lemmas.List.{append-nil}
use Rattle.std.specs.Io.KnownBytes.{IsAtEnd}
use Rattle.edge.specs.Connections.{AgreesOnPresent, Connection, after_read, after_write, has_failed}
use Rattle.edge.specs.Openings.{opened}
use Rattle.edge.specs.declared.traits.Failed.{Failed}
use Rattle.units.specs.declared.memory.OutOfMemory.{OutOfMemory}
use Rattle.wire.specs.Heads.{More}
use Rattle.wire.specs.Held.{HasRead, Held, ReadsOrEnds, UnlessRefused, is_read_fault}
use Rattle.wire.specs.Laws.{RequestsDecide}
use Rattle.wire.specs.Requests.{RequestLooks}
use Rattle.wire.specs.declared.message.HttpRequest.{HttpRequest}
use Rattle.wire.specs.declared.refusal.WireRefusal.{WireRefusal}
use Rattle.wire.specs.declared.refusal.WireRefusal.TheVariants.{BadHead, TooLong, Chunked, ReadFault, CutShort, OutOfMemory as WireMemory}
use Rattle.serving.specs.Sides.{Meaning}
use Rattle.serving.specs.Talk.{AfterNext, Conversation, HasAnswered, HasRefused, HasWritten, IsOver, IsRefused, IsTalking, IsTurn, Talk, Turn, answer_text, as_given, goes_on, said}
use Rattle.serving.specs.Texts.{refusal_text}
use Rattle.serving.proofs.Talking.{done, gives_up, talk_more, turned}
use Rattle.serving.proofs.Writing.{all_where}

-- what a call of the reader did
abbrev pub HasReadNext : Held → Held → Result (Option HttpRequest) WireRefusal → Option (List ℕ) → Option (List ℕ) → Option (List Connection) → Option (List Connection) → Type 0
HasReadNext old now result left left_now all all_now = HasRead (ReadsOrEnds RequestLooks) (λ bytes. RequestLooks bytes More) old now result left left_now all all_now

or_same : (a b : Bool) → a ≡ false → (a || b) ≡ false → b ≡ false
or_same a b h k = ap (λ x. x || b) (sym h) ∙ k

or_no : (a : Bool) → a ≡ false → (a || false) ≡ false
or_no a h = ap (λ x. x || false) h

or_true : (a : Bool) → (a || true) ≡ true
or_true true = refl
or_true false = refl

at_end : (all : Option (List Connection)) (left written : Option (List ℕ)) (c : Connection) (others : List Connection) → AgreesOnPresent all left written → all ≡ Some (c ∷ others) → IsAtEnd left → c.left ≡ []
at_end all left written c others agrees told end =
    let here : AgreesOnPresent (Some (c ∷ others)) left written = subst (λ a. AgreesOnPresent a left written) told agrees in
    subst IsAtEnd here.0 end

-- what the reader answers and leaves, where it had refused nothing before
pub reads_as : (old now : Held) (r s : Result (Option HttpRequest) WireRefusal) (left left_now : Option (List ℕ)) (all all_now : Option (List Connection))
    → (h : HasReadNext old now r left left_now all all_now) → old.refused ≡ false → r ≡ s → ReadsOrEnds RequestLooks (old.bytes ++ h.taken) left_now s now
reads_as old now r s left left_now all all_now h fresh e =
    let here : UnlessRefused false old h.taken r now (ReadsOrEnds RequestLooks (old.bytes ++ h.taken) left_now r now) =
    subst (λ b. UnlessRefused b old h.taken r now (ReadsOrEnds RequestLooks (old.bytes ++ h.taken) left_now r now)) fresh h.reads in
    subst (λ x. ReadsOrEnds RequestLooks (old.bytes ++ h.taken) left_now x now) e here

-- a rest that is refused, or one that decides nothing, at its end or where a read failed, with no words
abbrev pub IsLast : List ℕ → List ℕ → Bool → Option (List ℕ) → Type 0
IsLast rest words fault left = IsRefused rest words ⊎ (RequestLooks rest More × (words ≡ []) × ((fault ≡ true) ⊎ IsAtEnd left))

-- each refusal of the reader but want of memory is of such a rest
pub last_of : (refusal : WireRefusal) (bytes : List ℕ) (left : Option (List ℕ)) (now : Held) → refusal ≢ WireMemory → ReadsOrEnds RequestLooks bytes left (Err refusal) now
    → IsLast bytes (refusal_text refusal) (is_read_fault {T = Option HttpRequest} (Err refusal)) left
unfolding refusal_text
last_of BadHead bytes left now other h = inl (BadHead, h.0.0, refl)
last_of (TooLong head) bytes left now other h = inl (TooLong head, h.0.0, refl)
last_of Chunked bytes left now other h = inl (Chunked, h.0.0, refl)
last_of ReadFault bytes left now other h = inr (h.0.0, refl, inl refl)
last_of (CutShort count) bytes left now other h = inr (h.0.0, refl, inr h.0.2)
last_of WireMemory bytes left now other h = absurd (other refl)

module _ {S : Type 0} (meaning : Meaning S) (laws : RequestsDecide) where
  -- memory was wanting for the message
  pub wanting : (start : S) (c : Connection) (others : List Connection) (turns : List Turn) (state : S) (old now : Held) (r : Result (Option HttpRequest) WireRefusal) (left left_now : Option (List ℕ)) (all all_now : Option (List Connection))
      → IsTalking meaning start c turns state old.bytes → all ≡ Some (c ∷ others) → HasReadNext old now r left left_now all all_now
      → (present : Connection) × (all_now ≡ Some (present ∷ others)) × Conversation meaning false start present state
  wanting start c others turns state old now r left left_now all all_now talking told h =
      let one : Connection = record c { read = c.read ++ h.taken; left = drop (length h.taken) c.left; read_failed = c.read_failed || is_read_fault r } in (
        one,
        h.connections ∙ ap (option_map (after_read h.taken (is_read_fault r))) told,
        gives_up meaning start one turns state (old.bytes ++ h.taken) (talk_more meaning laws h.taken start c.read turns state old.bytes talking.talk) talking.told,
      )

  -- the last words were said, as far as that went
  pub over : (start : S) (c : Connection) (others : List Connection) (turns : List Turn) (state : S) (old now : Held) (r : Result (Option HttpRequest) WireRefusal) (left left_now : Option (List ℕ)) (all all_now all_then : Option (List Connection)) (told_written : Option (List ℕ)) (words : List ℕ) (wrote : Result (Unit {0}) Failed)
      → IsTalking meaning start c turns state old.bytes → all ≡ Some (c ∷ others) → AgreesOnPresent all_now left_now told_written
      → (h : HasReadNext old now r left left_now all all_now) → IsLast (old.bytes ++ h.taken) words (is_read_fault r) left_now → HasWritten words wrote all_now all_then
      → (present : Connection) × (all_then ≡ Some (present ∷ others)) × Conversation meaning true start present state
  over start c others turns state old now r left left_now all all_now all_then told_written words wrote talking told agrees h last text =
      let one : Connection = record c { read = c.read ++ h.taken; left = drop (length h.taken) c.left; read_failed = c.read_failed || is_read_fault r } in
      let two : Connection = record one { written = one.written ++ take text.count words; write_failed = one.write_failed || has_failed wrote } in
      let told_one : all_now ≡ Some (one ∷ others) = h.connections ∙ ap (option_map (after_read h.taken (is_read_fault r))) told in
      let told_two : all_then ≡ Some (two ∷ others) = text.connections ∙ ap (option_map (after_write (take text.count words) (has_failed wrote))) told_one in
      let rest : List ℕ = old.bytes ++ h.taken in
      let ends : IsOver rest words two = ⊎_elim (λ bad. inl bad) (λ more. inr (
        more.0,
        more.1,
        λ well.
            ⊎_elim (λ fault. absurd (true≢false (sym fault ∙ or_same c.read_failed (is_read_fault r) talking.read_well well))) (λ end. at_end all_now left_now told_written one others agrees told_one end) more.2,
      )) last in (
        two,
        told_two,
        done meaning start two turns state rest words text.count
            (talk_more meaning laws h.taken start c.read turns state old.bytes talking.talk)
            (⊎_elim (λ bad. inr (talking.goes, bad)) (λ more. inl more.1) last) ends
            (ap (λ w. w ++ take text.count words) talking.told)
            (λ well. all_where words wrote text.count text.whole (or_same c.write_failed (has_failed wrote) talking.written_well well)),
      )

  -- what was refused, as what comes after one more message
  pub refused : (start : S) (c : Connection) (others : List Connection) (turns : List Turn) (state : S) (old now : Held) (r : Result (Option HttpRequest) WireRefusal) (left left_now : Option (List ℕ)) (all all_now all_then : Option (List Connection)) (told_written : Option (List ℕ)) (refusal : WireRefusal) (result : Result Bool OutOfMemory)
      → IsTalking meaning start c turns state old.bytes → all ≡ Some (c ∷ others) → AgreesOnPresent all_now left_now told_written
      → HasReadNext old now r left left_now all all_now → old.refused ≡ false → r ≡ Err refusal → HasRefused refusal result all_now all_then
      → AfterNext meaning start turns others result state now.bytes all_then
  refused start c others turns state old now r left left_now all all_now all_then told_written refusal (Ok true) talking told agrees h fresh is refusing = absurd refusing
  refused start c others turns state old now r left left_now all all_now all_then told_written refusal (Ok false) talking told agrees h fresh is (other, (wrote, text)) =
      let last : IsLast (old.bytes ++ h.taken) (refusal_text refusal) (is_read_fault r) left_now =
      subst (λ x. IsLast (old.bytes ++ h.taken) (refusal_text refusal) (is_read_fault x) left_now) (sym is)
      (last_of refusal (old.bytes ++ h.taken) left_now now other (reads_as old now r (Err refusal) left left_now all all_now h fresh is)) in
      over start c others turns state old now r left left_now all all_now all_then told_written (refusal_text refusal) wrote talking told agrees h last text
  refused start c others turns state old now r left left_now all all_now all_then told_written refusal (Err memory) talking told agrees h fresh is (same, none) =
      let w = wanting start c others turns state old now r left left_now all all_now talking told h in
      (w.0, none ∙ w.1, w.2)

  -- nothing more comes, and nothing is said
  pub silence : (start : S) (c : Connection) (others : List Connection) (turns : List Turn) (state : S) (old now : Held) (r : Result (Option HttpRequest) WireRefusal) (left left_now : Option (List ℕ)) (all all_now : Option (List Connection)) (told_written : Option (List ℕ))
      → IsTalking meaning start c turns state old.bytes → all ≡ Some (c ∷ others) → AgreesOnPresent all_now left_now told_written
      → (h : HasReadNext old now r left left_now all all_now) → ReadsOrEnds RequestLooks (old.bytes ++ h.taken) left_now (Ok None) now
      → (present : Connection) × (all_now ≡ Some (present ∷ others)) × Conversation meaning true start present state
  silence start c others turns state old now r left left_now all all_now told_written talking told agrees h ended =
      let one : Connection = record c { read = c.read ++ h.taken; left = drop (length h.taken) c.left; read_failed = c.read_failed || is_read_fault r } in
      let told_one : all_now ≡ Some (one ∷ others) = h.connections ∙ ap (option_map (after_read h.taken (is_read_fault r))) told in
      let more : RequestLooks (old.bytes ++ h.taken) More = subst (λ b. RequestLooks b More) (sym ended.0) laws.nothing in (
        one,
        told_one,
        done meaning start one turns state (old.bytes ++ h.taken) [] 0
            (talk_more meaning laws h.taken start c.read turns state old.bytes talking.talk) (inl refl)
            (inr (more, refl, λ well. at_end all_now left_now told_written one others agrees told_one ended.1))
            (talking.told ∙ sym (append-nil (said turns))) (λ well. omega arith),
      )

  -- one more turn, and its answer as far as it was written
  pub one_more : (start : S) (c : Connection) (others : List Connection) (turns : List Turn) (before state : S) (old now : Held) (message : HttpRequest) (r : Result (Option HttpRequest) WireRefusal) (left left_now : Option (List ℕ)) (all all_now all_then : Option (List Connection)) (goes : Bool) (count : ℕ)
      → IsTalking meaning start c turns before old.bytes → all ≡ Some (c ∷ others) → length turns ≡ count → is_read_fault r ≡ false
      → (h : HasReadNext old now r left left_now all all_now) → ReadsOrEnds RequestLooks (old.bytes ++ h.taken) left_now (Ok (Some message)) now
      → HasAnswered meaning count message before goes state all_now all_then
      → AfterNext meaning start turns others (Ok goes) state now.bytes all_then
  one_more start c others turns before state old now message r left left_now all all_now all_then goes count talking told counted well h (size, stands, rest) a =
      let one : Connection = record c { read = c.read ++ h.taken; left = drop (length h.taken) c.left; read_failed = c.read_failed || false } in
      let two : Connection = record one { written = one.written ++ take a.text.count (answer_text a.turn.message.close a.turn.answer); write_failed = one.write_failed || has_failed a.wrote } in
      let told_one : all_now ≡ Some (one ∷ others) = h.connections ∙ ap (λ b. option_map (after_read h.taken b) all) well ∙ ap (option_map (after_read h.taken false)) told in
      let told_two : all_then ≡ Some (two ∷ others) = a.text.connections ∙ ap (option_map (after_write (take a.text.count (answer_text a.turn.message.close a.turn.answer)) (has_failed a.wrote))) told_one in
      let this : IsTurn meaning turns before (old.bytes ++ h.taken) a.turn state now.bytes = record {
        goes = talking.goes;
        message = message;
        size = size;
        stands = stands;
        after = ap (λ x. x.bytes) rest;
        given = a.given ∙ ap (λ n. as_given n message) (sym counted);
        answered = a.answered;
      } in
      let talk : Talk meaning start two.read (a.turn ∷ turns) state now.bytes =
      (before, old.bytes ++ h.taken, talk_more meaning laws h.taken start c.read turns before old.bytes talking.talk, this) in
      turned meaning start two others turns a.turn state now.bytes all_then goes a.wrote a.text.count told_two talk
      (ap (λ w. w ++ take a.text.count (answer_text a.turn.message.close a.turn.answer)) talking.told)
      a.text.within a.text.whole (or_no c.read_failed talking.read_well) (ap (λ b. b || has_failed a.wrote) talking.written_well) a.still

module _ {S : Type 0} (meaning : Meaning S) where
  pub wanting_at_first : (start : S) (bytes : List ℕ) → Conversation meaning false start (opened [] bytes) start
  wanting_at_first start bytes = gives_up meaning start (opened [] bytes) [] start [] (refl, refl) refl

  pub stopped_at_first : (start : S) (bytes : List ℕ) → meaning.stops start ≡ true → Conversation meaning true start (opened [] bytes) start
  stopped_at_first start bytes stopped =
      let no : goes_on meaning [] start ≡ false = ap not stopped in
      record {
        turns = [];
        rest = [];
        talk = (refl, refl);
        words = [];
        last = inl refl;
        count = 0;
        part = refl;
        whole = λ f w. (refl, λ g. absurd (true≢false (sym g ∙ no)));
      }

  pub talking_at_first : (start : S) (bytes held : List ℕ) → meaning.stops start ≡ false → held ≡ [] → IsTalking meaning start (opened [] bytes) [] start held
  talking_at_first start bytes held well none = record { talk = (refl, none); goes = ap not well; told = refl; read_well = refl; written_well = refl }

  -- the 1,000th message ends the conversation
  pub full : (start : S) (c : Connection) (turns : List Turn) (state : S) (held : List ℕ) → IsTalking meaning start c turns state held → length turns ≡ 1000 → ⊥
  full start c [] state held talking count = omega (arith, count)
  full start c (turn ∷ earlier) state held talking count =
      let this = talking.talk.3 in
      let newest : length earlier ≡ 999 = omega (arith, count) in
      let closed : turn.message.close ≡ true = ap (λ m. m.close) this.given ∙ ap (λ n. this.message.close || (n == 999)) newest ∙ or_true this.message.close in
      true≢false (sym talking.goes ∙ ap (λ b. not b && not (meaning.stops state)) closed)

  -- what was answered, named
  pub after_at : (start : S) (turns : List Turn) (others : List Connection) (r s : Result Bool OutOfMemory) (state : S) (held : List ℕ) (told : Option (List Connection))
      → AfterNext meaning start turns others r state held told → r ≡ s → AfterNext meaning start turns others s state held told
  after_at start turns others r s state held told h e = subst (λ x. AfterNext meaning start turns others x state held told) e h
