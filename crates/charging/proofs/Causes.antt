-- What an input decides.
use Rattle.std.proofs.Common.{◌≡◌, ◌⊎◌, inl, inr, ℕ, ◌<◌, ◌≤◌, ◌^◌, length, List, refl, sym, ◌∙◌, ap, arith, Option, Some, Ok, Err, Result, IfSome}
use Rattle.edge.specs.Faults.{CountRose}
use Rattle.meter.specs.Contents.{Contents, nothing_yet}
use Rattle.chf_core.specs.declared.setup.ChfSetup.{ChfSetup}
use Rattle.charging.specs.declared.words.Task.{Task}
use Rattle.charging.specs.declared.words.Task.TheVariants.{Meter, Operator, Answer}
use Rattle.charging.specs.declared.status.Status.{Status}
use Rattle.charging.specs.declared.status.Status.TheVariants as status
use Rattle.charging.specs.MeterRows.{Comes, outcome_from}
use Rattle.charging.specs.Tasks.{Accepts, Prints, Refuses}
use Rattle.charging.specs.Status.{EndedBy}
use Rattle.charging.proofs.Readings.{same_rows}

one_outcome : (bytes : List ℕ) (a b : Result Contents ℕ) → Comes bytes a → Comes bytes b → a ≡ b
one_outcome bytes a b x y = sym x.run ∙ ap (λ k. outcome_from 1 nothing_yet k) (same_rows bytes x.rows y.rows x.of_input y.of_input) ∙ y.run

not_both : (bytes : List ℕ) (contents : Contents) (row : ℕ) → Comes bytes (Ok contents) → Comes bytes (Err row) → ⊥
not_both bytes contents row a b = let e = one_outcome bytes (Ok contents) (Err row) a b in cc

one_row : (bytes : List ℕ) (row other : ℕ) → Comes bytes (Err row) → Comes bytes (Err other) → row ≡ other
one_row bytes row other a b = let e = one_outcome bytes (Err row) (Err other) a b in cc

-- an input is not accepted and refused
pub accepted_or_refused : (task : Task) (bytes : List ℕ) (row : ℕ) → Accepts task bytes → Refuses task bytes row → ⊥
accepted_or_refused (Meter prices) bytes row good bad = not_both bytes good.0 row good.1.comes bad.comes
accepted_or_refused Operator bytes row good bad = let e : Ok good.0 ≡ Err row = sym good.1.outcome_is ∙ bad.outcome_is in cc
accepted_or_refused Answer bytes row good bad = let e : Ok good.0 ≡ Err row = sym good.1.outcome_is ∙ bad.outcome_is in cc

-- it is refused at one row
pub refused_at : (task : Task) (bytes : List ℕ) (row other : ℕ) → Refuses task bytes row → Refuses task bytes other → row ≡ other
refused_at (Meter prices) bytes row other a b = one_row bytes row other a.comes b.comes
refused_at Operator bytes row other a b = let e : ◌≡◌ {A = Result ChfSetup ℕ} (Err row) (Err other) = sym a.outcome_is ∙ b.outcome_is in cc
refused_at Answer bytes row other a b = let e : ◌≡◌ {A = Result ChfSetup ℕ} (Err row) (Err other) = sym a.outcome_is ∙ b.outcome_is in cc

-- what is printed is so of an input that is accepted
pub printed_of_accepted : (task : Task) (bytes text : List ℕ) → Prints task bytes text → Accepts task bytes
printed_of_accepted (Meter prices) bytes text p = (p.contents, p.reads)
printed_of_accepted Operator bytes text p = (p.prints.setup, record { within = p.within; outcome_is = p.prints.accepted })
printed_of_accepted Answer bytes text p = (p.prints.setup, record { within = p.within; outcome_is = p.prints.accepted })

pub accepted_within : (task : Task) (bytes : List ℕ) → Accepts task bytes → length bytes ≤ 2 ^ 28
accepted_within (Meter prices) bytes a = a.1.within
accepted_within Operator bytes a = a.1.within
accepted_within Answer bytes a = a.1.within

pub refused_within : (task : Task) (bytes : List ℕ) (row : ℕ) → Refuses task bytes row → length bytes ≤ 2 ^ 28
refused_within (Meter prices) bytes row a = a.within
refused_within Operator bytes row a = a.within
refused_within Answer bytes row a = a.within

-- an input that is accepted ends a run before its output only for want of memory
pub accepted_ends : (task : Task) (s : Status) (left : Option (List ℕ)) (before now : ℕ) (bytes : List ℕ) → EndedBy task s left before now → left ≡ Some bytes → Accepts task bytes → ¬ CountRose before now → s ≡ status.OutOfMemory
accepted_ends task status.Ok left before now bytes e is good calm = absurd e
accepted_ends task status.Usage left before now bytes e is good calm = absurd e
accepted_ends task (status.BadInput row) left before now bytes e is good calm =
    let bad : Refuses task bytes row = rw is at e in absurd (accepted_or_refused task bytes row good bad)
accepted_ends task status.ReadFault left before now bytes e is good calm = absurd (calm e)
accepted_ends task status.WriteFault left before now bytes e is good calm = absurd e
accepted_ends task status.OutOfMemory left before now bytes e is good calm = refl
accepted_ends task status.InputTooLong left before now bytes e is good calm =
    let long : 2 ^ 28 < length bytes = rw is at e in absurd (omega (arith, accepted_within task bytes good))

-- an input with a bad row ends with it
pub refused_ends : (task : Task) (s : Status) (left : Option (List ℕ)) (before now : ℕ) (bytes : List ℕ) (row : ℕ) → EndedBy task s left before now → left ≡ Some bytes → Refuses task bytes row → ¬ CountRose before now → (s ≡ status.BadInput row) ⊎ (s ≡ status.OutOfMemory)
refused_ends task status.Ok left before now bytes row e is bad calm = absurd e
refused_ends task status.Usage left before now bytes row e is bad calm = absurd e
refused_ends task (status.BadInput other) left before now bytes row e is bad calm =
    let too : Refuses task bytes other = rw is at e in inl (ap status.BadInput (refused_at task bytes other row too bad))
refused_ends task status.ReadFault left before now bytes row e is bad calm = absurd (calm e)
refused_ends task status.WriteFault left before now bytes row e is bad calm = absurd e
refused_ends task status.OutOfMemory left before now bytes row e is bad calm = inr refl
refused_ends task status.InputTooLong left before now bytes row e is bad calm =
    let long : 2 ^ 28 < length bytes = rw is at e in absurd (omega (arith, refused_within task bytes row bad))

-- and nothing is printed for it
pub refused_prints_nothing : (task : Task) (left : Option (List ℕ)) (bytes text : List ℕ) (row : ℕ) → IfSome left (λ bytes. Prints task bytes text) → left ≡ Some bytes → Refuses task bytes row → ⊥
refused_prints_nothing task left bytes text row prints is bad =
    let all : Prints task bytes text = rw is at prints in accepted_or_refused task bytes row (printed_of_accepted task bytes text all) bad

-- the status that a run ended with, after its line
pub ended_with : (due s r : Status) → (s ≡ due) ⊎ (s ≡ status.OutOfMemory) → (r ≡ s) ⊎ (r ≡ status.OutOfMemory) → (r ≡ due) ⊎ (r ≡ status.OutOfMemory)
ended_with due s r (inl e) (inl x) = inl (x ∙ e)
ended_with due s r (inr e) (inl x) = inr (x ∙ e)
ended_with due s r h (inr x) = inr x

-- words give one task
pub same_task : (told : Option Task) (task mine : Task) → told ≡ Some task → Some mine ≡ told → task ≡ mine
same_task told task mine a b = cc
