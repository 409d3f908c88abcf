-- Runs and cuts with one report more.
use Rattle.std.proofs.Common.{◌≡◌, ℕ, ◌+◌, ◌^◌, ◌<◌, ◌≤◌, ◌⊎◌, nat_le, Bool, true, false, List, [], ◌∷◌, ◌++◌, length, refl, sym, ◌∙◌, ap, subst, arith, append_assoc, length-append, Some, None}
use Rattle.std.specs.List.{last_or}
use Rattle.std.proofs.lemmas.List.{append-nil}
use Rattle.std.proofs.lemmas.List.Sums.{sum_by-append}
use Rattle.std.proofs.lemmas.Bool.Decides.{nat_tests}
use Rattle.units.specs.declared.report.Report.{Report}
use Rattle.units.specs.declared.report.Container.{Container}
use Rattle.units.specs.Cut.{first_moment, last_moment, NoSwitchWithin, SwitchWithin, AreSummed, IsRun, IsCut, MayNotJoin, IsWidestCut}
use Rattle.meter.specs.Meter.{extended, opened}
use Rattle.meter.proofs.Lasts.{last_or_push}

first-append : (run : List Report) (r : Report) → 0 < length run → first_moment (run ++ r ∷ []) ≡ first_moment run
first-append [] r l = absurd (omega arith)
first-append (q ∷ run) r l = refl

last-append : (run : List Report) (r : Report) → last_moment (run ++ r ∷ []) ≡ r.moment
last-append [] r = refl
last-append (q ∷ []) r = refl
last-append (q ∷ p ∷ run) r = last-append (p ∷ run) r

-- two stretches without a switch, one after the other
one_stretch : (switches : ℕ → Bool) (first last until : ℕ) → NoSwitchWithin switches first last → NoSwitchWithin switches last until → NoSwitchWithin switches first until
one_stretch switches first last until early late moment later before = by (nat_le moment last) refl
  where
    by : (b : Bool) → nat_le moment last ≡ b → switches moment ≡ false
    by true e = early moment later (grind (arith, nat_tests, e))
    by false e = late moment (grind (arith, nat_tests, e)) before

pub run_more : (switches : ℕ → Bool) (run : List Report) (c : Container) (r : Report) → IsRun switches run c → NoSwitchWithin switches c.last r.moment → IsRun switches (run ++ r ∷ []) (extended c r)
run_more switches run c r is none =
    let old : AreSummed run c = is.summed in
    record {
      summed = record {
        some = let long = length-append run (r ∷ []) in omega (arith, long);
        up = let sums = sum_by-append (λ (k : Report). k.up) run (r ∷ []) in omega (arith, sums, old.up);
        down = let sums = sum_by-append (λ (k : Report). k.down) run (r ∷ []) in omega (arith, sums, old.down);
        seconds = let sums = sum_by-append (λ (k : Report). k.seconds) run (r ∷ []) in omega (arith, sums, old.seconds);
        first = old.first ∙ sym (first-append run r old.some);
        last = sym (last-append run r);
        reports = let long = length-append run (r ∷ []) in omega (arith, long, old.reports);
      };
      unbroken = rw (first-append run r old.some, last-append) (one_stretch switches (first_moment run) (last_moment run) r.moment is.unbroken (subst (λ m. NoSwitchWithin switches m r.moment) old.last none));
    }

pub run_one : (switches : ℕ → Bool) (r : Report) (lsn : ℕ) → IsRun switches (r ∷ []) (opened lsn r)
run_one switches r lsn = record {
  summed = record { some = omega arith; up = omega arith; down = omega arith; seconds = omega arith; first = refl; last = refl; reports = refl };
  unbroken = λ moment later before. absurd (omega arith);
}

pub cut_more : (switches : ℕ → Bool) (rs : List Report) (cs : List Container) (r : Report) (lsn : ℕ) → IsCut switches rs cs → IsCut switches (rs ++ r ∷ []) (cs ++ opened lsn r ∷ [])
cut_more switches rs [] r lsn none = (r ∷ [], [], ap (λ l. l ++ r ∷ []) none, run_one switches r lsn, refl)
cut_more switches rs (c ∷ cs) r lsn (run, rest, is, first, others) =
    (run, rest ++ r ∷ [], ap (λ l. l ++ r ∷ []) is ∙ append_assoc run rest (r ∷ []), first, cut_more switches rest cs r lsn others)

pub cut_join : (switches : ℕ → Bool) (rs : List Report) (front : List Container) (c : Container) (r : Report) → IsCut switches rs (front ++ c ∷ []) → NoSwitchWithin switches c.last r.moment → IsCut switches (rs ++ r ∷ []) (front ++ extended c r ∷ [])
cut_join switches rs [] c r (run, rest, is, last, none) safe =
    (run ++ r ∷ [], [], ap (λ l. l ++ r ∷ []) (is ∙ ap (λ l. run ++ l) none ∙ append-nil run) ∙ sym (append-nil (run ++ r ∷ [])), run_more switches run c r last safe, refl)
cut_join switches rs (d ∷ front) c r (run, rest, is, first, others) safe =
    (run, rest ++ r ∷ [], ap (λ l. l ++ r ∷ []) is ∙ append_assoc run rest (r ∷ []), first, cut_join switches rest front c r others safe)

-- the widest cut
some_rest : (switches : ℕ → Bool) (rest : List Report) (c : Container) (cs : List Container) → IsWidestCut switches rest (c ∷ cs) → 0 < length rest
some_rest switches rest c cs (run, others, is, first, less, may, more) =
    let long = length-append run others in
    let same = ap length is in
    omega (arith, long, same, first.summed.some)

some_front : (switches : ℕ → Bool) (rest : List Report) (front : List Container) (c : Container) → IsWidestCut switches rest (front ++ c ∷ []) → 0 < length rest
some_front switches rest [] c cut = some_rest switches rest c [] cut
some_front switches rest (d ∷ front) c cut = some_rest switches rest d (front ++ c ∷ []) cut

still_not : (switches : ℕ → Bool) (run rest : List Report) (r : Report) → 0 < length rest → MayNotJoin switches run rest → MayNotJoin switches run (rest ++ r ∷ [])
still_not switches run [] r some may = absurd (omega arith)
still_not switches run (q ∷ rest) r some may = may

-- the report may not join the container
abbrev pub StaysOut : (ℕ → Bool) → Container → Report → Type 0
StaysOut switches c r = SwitchWithin switches c.last r.moment ⊎ (2 ^ 32 ≤ c.seconds + r.seconds)

out_of_run : (switches : ℕ → Bool) (run : List Report) (c : Container) (r : Report) → AreSummed run c → StaysOut switches c r → MayNotJoin switches run (r ∷ [])
out_of_run switches run c r is out =
    subst (λ n. SwitchWithin switches (last_moment run) r.moment ⊎ (2 ^ 32 ≤ n + r.seconds)) is.seconds
    (subst (λ m. SwitchWithin switches m r.moment ⊎ (2 ^ 32 ≤ c.seconds + r.seconds)) is.last out)

pub widest_more : (switches : ℕ → Bool) (rs : List Report) (cs : List Container) (r : Report) (lsn : ℕ) → IsWidestCut switches rs cs → ((c : Container) → last_or None cs ≡ Some c → StaysOut switches c r) → r.seconds < 2 ^ 32 → IsWidestCut switches (rs ++ r ∷ []) (cs ++ opened lsn r ∷ [])
widest_more switches rs [] r lsn none out fits = (r ∷ [], [], ap (λ l. l ++ r ∷ []) none, run_one switches r lsn, fits, tt, refl)
widest_more switches rs (c ∷ []) r lsn (run, rest, is, first, less, may, none) out fits =
    let last : MayNotJoin switches run (r ∷ []) = out_of_run switches run c r first.summed (out c refl) in (
      run,
      rest ++ r ∷ [],
      ap (λ l. l ++ r ∷ []) is ∙ append_assoc run rest (r ∷ []),
      first,
      less,
      subst (λ l. MayNotJoin switches run (l ++ r ∷ [])) (sym none) last,
      (r ∷ [], [], ap (λ l. l ++ r ∷ []) none, run_one switches r lsn, fits, tt, refl),
    )
widest_more switches rs (c ∷ d ∷ cs) r lsn (run, rest, is, first, less, may, others) out fits = (
  run,
  rest ++ r ∷ [],
  ap (λ l. l ++ r ∷ []) is ∙ append_assoc run rest (r ∷ []),
  first,
  less,
  still_not switches run rest r (some_rest switches rest d cs others) may,
  widest_more switches rest (d ∷ cs) r lsn others out fits,
)

pub widest_join : (switches : ℕ → Bool) (rs : List Report) (front : List Container) (c : Container) (r : Report) → IsWidestCut switches rs (front ++ c ∷ []) → NoSwitchWithin switches c.last r.moment → c.seconds + r.seconds < 2 ^ 32 → IsWidestCut switches (rs ++ r ∷ []) (front ++ extended c r ∷ [])
widest_join switches rs [] c r (run, rest, is, last, less, may, none) safe fits =
    (run ++ r ∷ [], [], ap (λ l. l ++ r ∷ []) (is ∙ ap (λ l. run ++ l) none ∙ append-nil run) ∙ sym (append-nil (run ++ r ∷ [])), run_more switches run c r last safe, fits, tt, refl)
widest_join switches rs (d ∷ front) c r (run, rest, is, first, less, may, others) safe fits = (
  run,
  rest ++ r ∷ [],
  ap (λ l. l ++ r ∷ []) is ∙ append_assoc run rest (r ∷ []),
  first,
  less,
  still_not switches run rest r (some_front switches rest front c others) may,
  widest_join switches rest front c r others safe fits,
)

-- what stays out of the last container, told of the last one
pub same_last : (switches : ℕ → Bool) (front : List Container) (last : Container) (r : Report) → StaysOut switches last r → (c : Container) → last_or None (front ++ last ∷ []) ≡ Some c → StaysOut switches c r
same_last switches front last r out c is =
    let same : Some last ≡ Some c = sym (last_or_push None front last) ∙ is in
    let one : last ≡ c = cc in
    subst (λ k. StaysOut switches k r) one out
