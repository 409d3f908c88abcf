-- A list stays held through a call of the journal.
use Rattle.std.specs.Prelude.{⊤, IfErr, OnOk, Result, Ok, Err}
use Rattle.std.proofs.Common.{◌≡◌, ℕ, List, [], Option, Some, None, sym, ◌∙◌, append-nil, false, true≢false, inl}
use Rattle.journal.specs.Bytes.{StandsFor}
use Rattle.journal.specs.Lists.{EachBeginsWith, EachStandsFor}
use Rattle.journal.specs.Refusals.{RefusesStart}
use Rattle.journal.specs.State.{State as Journal}
use Rattle.journal.specs.declared.refusal.JournalRefusal.{JournalRefusal}
use Rattle.journal.specs.declared.refusal.JournalRefusal.TheVariants.{Fault, Fenced, Full, NotAJournal, EpochsSpent, OutOfMemory}
use Rattle.durable.specs.Held.{IsHeld}
use Rattle.durable.specs.Refusals.{RefusesAgain}
use Rattle.durable.specs.State.{State}

-- images that begin with a list stand for lists
pub stand : (e : Option ℕ) (i : List ℕ → Type 0) (list : List (List ℕ)) → EachBeginsWith e i list → EachStandsFor e i (λ _. ⊤)
stand e i list begins = λ c im. let w = begins c im in (w.0, w.1, tt)

-- images that stand for one list begin with it
pub begin_alike : (e : Option ℕ) (i : List ℕ → Type 0) (list : List (List ℕ)) → ((c : List ℕ) → i c → StandsFor e c list) → EachBeginsWith e i list
begin_alike e i list firm = λ c im. (list, firm c im, ([], sym (append-nil list)))

no_journal : (j : Journal) → None ≡ Some j → ⊥
no_journal j e = absurd (let f : None ≡ Some j = e in cc)

-- without a journal only the beginnings of the images count
pub held_closed : (held : State) (b d : Option (List ℕ)) (e f : Option ℕ) (i k : List ℕ → Type 0) (list : List (List ℕ)) → IsHeld held b e i list → held.journal ≡ None → EachBeginsWith f k list → f ≡ e → IsHeld held d f k list
held_closed held b d e f i k list is closed begins same = record {
  sound = λ journal stands. absurd (no_journal journal (sym closed ∙ stands));
  begins = begins;
  begun = λ n told. is.begun n (sym same ∙ told);
  claimed = λ n told. is.claimed n (sym same ∙ told);
  same = λ journal n stands told. absurd (no_journal journal (sym closed ∙ stands));
}

-- the refusals of a start without a claim
pub again : (r : JournalRefusal) (held : State) (content : Option (List ℕ)) (epoch : Option ℕ) (before now : ℕ) → RefusesStart content epoch false before now r → RefusesAgain content epoch before now held r
again Fault held content epoch before now is = is
again (Fenced seen) held content epoch before now is = inl is
again (Full len need) held content epoch before now is = absurd is
again (NotAJournal at) held content epoch before now is = λ e b told has. (is e b told has).1
again EpochsSpent held content epoch before now is = true≢false (sym is.0)
again OutOfMemory held content epoch before now is = is

-- the same of an answer
pub refused : {T : Type 0} (r : Result T JournalRefusal) (held : State) (content : Option (List ℕ)) (epoch : Option ℕ) (before now : ℕ) → IfErr r (RefusesStart content epoch false before now) → IfErr r (RefusesAgain content epoch before now held)
refused (Ok x) held content epoch before now is = is
refused (Err r) held content epoch before now is = again r held content epoch before now is

-- the same where an answer is Ok
pub begin_where_ok : {T E : Type 0} (r : Result T E) (e : Option ℕ) (i : List ℕ → Type 0) (list : List (List ℕ)) → OnOk r ((c : List ℕ) → i c → StandsFor e c list) → OnOk r (EachBeginsWith e i list)
begin_where_ok (Ok x) e i list firm = begin_alike e i list firm
begin_where_ok (Err x) e i list firm = firm
