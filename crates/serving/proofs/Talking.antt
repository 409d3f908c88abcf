-- A conversation, as more of its stream is read and more is said.
use Rattle.std.proofs.Common.{◌≡◌, ◌≢◌, ◌⊎◌, inl, ℕ, ◌+◌, ◌≤◌, Bool, true, false, not, ◌&&◌, List, [], ◌∷◌, ◌++◌, length, take, Option, Some, Result, Ok, Err, OnOk, is_ok, arith, refl, sym, ◌∙◌, ap, append_assoc, true≢false}
use Rattle.std.proofs.Math.Seq.{take-append_seam, take-append-add}
use Rattle.std.proofs.lemmas.List.{append-nil, take_all, drop-append-le, take-append-le}
use Rattle.edge.specs.Connections.{Connection, has_failed}
use Rattle.edge.specs.declared.traits.Failed.{Failed}
use Rattle.wire.specs.Heads.{Whole, More}
use Rattle.wire.specs.Laws.{RequestsDecide}
use Rattle.wire.specs.Requests.{RequestLooks}
use Rattle.wire.specs.declared.message.HttpRequest.{HttpRequest}
use Rattle.serving.specs.Sides.{Meaning}
use Rattle.serving.specs.Talk.{AfterNext, Conversation, IsOver, IsRefused, Talk, Turn, answer_text, goes_on, said}

not_more : (message : HttpRequest) (size : ℕ) → Whole message size ≢ More
not_more message size h = cc

-- a message that stands at the front stands there whatever follows
pub stands_still : RequestsDecide → (bytes more : List ℕ) (message : HttpRequest) (size : ℕ) → RequestLooks bytes (Whole message size) → RequestLooks (bytes ++ more) (Whole message size)
stands_still laws bytes more message size h = laws.stays bytes more (Whole message size) (not_more message size) h

module _ {S : Type 0} (meaning : Meaning S) where
  -- the same turns, of a stream of which more was read
  pub talk_more : RequestsDecide → (more : List ℕ) (start : S) (bytes : List ℕ) (turns : List Turn) (state : S) (rest : List ℕ)
      → Talk meaning start bytes turns state rest → Talk meaning start (bytes ++ more) turns state (rest ++ more)
  talk_more laws more start bytes [] state rest h = (h.0, ap (λ b. b ++ more) h.1)
  talk_more laws more start bytes (turn ∷ turns) state rest (before, left, earlier, this) = (
    before,
    left ++ more,
    talk_more laws more start bytes turns before left earlier,
    record {
      goes = this.goes;
      message = this.message;
      size = this.size;
      stands = stands_still laws left more this.message this.size this.stands;
      after = ap (λ b. b ++ more) this.after ∙ sym (drop-append-le this.size left more (laws.size left this.message this.size this.stands).1);
      given = this.given;
      answered = this.answered;
    },
  )

  -- nothing more is to be said than these words, which were written as far as that went
  pub done : (start : S) (c : Connection) (turns : List Turn) (state : S) (rest words : List ℕ) (n : ℕ)
      → Talk meaning start c.read turns state rest → (words ≡ []) ⊎ ((goes_on meaning turns state ≡ true) × IsRefused rest words) → IsOver rest words c
      → c.written ≡ said turns ++ take n words → (c.write_failed ≡ false → length words ≤ n) → Conversation meaning true start c state
  done start c turns state rest words n talk last over told complete = record {
    turns = turns;
    rest = rest;
    talk = talk;
    words = words;
    last = last;
    count = length (said turns) + n;
    part = told ∙ sym (take-append-add (said turns) words n);
    whole = λ f w. (told ∙ ap (λ x. said turns ++ x) (take_all n words (complete w)), λ g. over);
  }

  -- memory was wanting
  pub gives_up : (start : S) (c : Connection) (turns : List Turn) (state : S) (rest : List ℕ)
      → Talk meaning start c.read turns state rest → c.written ≡ said turns → Conversation meaning false start c state
  gives_up start c turns state rest talk told = record {
    turns = turns;
    rest = rest;
    talk = talk;
    words = [];
    last = inl refl;
    count = length (said turns);
    part = told ∙ sym (take-append_seam (said turns) []);
    whole = λ f. absurd (true≢false (sym f));
  }

  -- one more turn was said, as far as that went
  pub turned : (start : S) (c : Connection) (others : List Connection) (turns : List Turn) (turn : Turn) (state : S) (rest : List ℕ) (all : Option (List Connection)) (goes : Bool) (wrote : Result (Unit {0}) Failed) (n : ℕ)
      → all ≡ Some (c ∷ others) → Talk meaning start c.read (turn ∷ turns) state rest
      → c.written ≡ said turns ++ take n (answer_text turn.message.close turn.answer)
      → n ≤ length (answer_text turn.message.close turn.answer) → OnOk wrote (n ≡ length (answer_text turn.message.close turn.answer))
      → c.read_failed ≡ false → c.write_failed ≡ has_failed wrote → goes ≡ (is_ok wrote && (not turn.message.close && not (meaning.stops state)))
      → AfterNext meaning start turns others (Ok goes) state rest all
  turned start c others turns turn state rest all true (Ok done) n told talk written within whole read_well write_well still = (
    turn,
    c,
    told,
    record {
      talk = talk;
      goes = sym still;
      told = written ∙ ap (λ t. said turns ++ t) (take_all n (answer_text turn.message.close turn.answer) (omega (arith, whole)));
      read_well = read_well;
      written_well = write_well;
    },
  )
  turned start c others turns turn state rest all true (Err failed) n told talk written within whole read_well write_well still = absurd (true≢false still)
  turned start c others turns turn state rest all false (Ok done) n told talk written within whole read_well write_well still =
      let text = answer_text turn.message.close turn.answer in
      let all_said : c.written ≡ said (turn ∷ turns) ++ [] =
      written ∙ ap (λ t. said turns ++ t) (take_all n text (omega (arith, whole))) ∙ sym (append-nil (said turns ++ text)) in (
        c,
        told,
        record {
          turns = turn ∷ turns;
          rest = rest;
          talk = talk;
          words = [];
          last = inl refl;
          count = length (said (turn ∷ turns) ++ []);
          part = all_said ∙ sym (take_all _ _ (omega arith));
          whole = λ f w. (all_said, λ g. absurd (true≢false (sym g ∙ sym still)));
        },
      )
  turned start c others turns turn state rest all false (Err failed) n told talk written within whole read_well write_well still =
      let text = answer_text turn.message.close turn.answer in (
        c,
        told,
        record {
          turns = turn ∷ turns;
          rest = rest;
          talk = talk;
          words = [];
          last = inl refl;
          count = length (said turns) + n;
          part = written ∙ ap (λ t. said turns ++ t) (sym (take-append-le n text [] within)) ∙ sym (take-append-add (said turns) (text ++ []) n)
              ∙ ap (take (length (said turns) + n)) (sym (append_assoc (said turns) text []));
          whole = λ f w. absurd (true≢false (sym write_well ∙ w));
        },
      )
