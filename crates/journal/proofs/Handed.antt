-- Refusals that are handed on.
use Rattle.std.proofs.Common.{◌≡◌, ◌≤◌, ℕ, List, Option, ◌∙◌, arith}
use Rattle.journal.specs.declared.refusal.JournalRefusal.{JournalRefusal}
use Rattle.journal.specs.declared.refusal.JournalRefusal.TheVariants.{Fault, Fenced, Full, NotAJournal, EpochsSpent, OutOfMemory}
use Rattle.journal.specs.Refusals.{RefusesReading}

-- a refusal of a reading that began earlier
pub refused_later : (e : JournalRefusal) (content content_then : Option (List ℕ)) (before between now : ℕ) → content_then ≡ content → before ≤ between → RefusesReading content_then between now e → RefusesReading content before now e
refused_later Fault content content_then before between now same later why = omega (arith, why, later)
refused_later (Fenced s) content content_then before between now same later why = why
refused_later (Full len n) content content_then before between now same later why = why
refused_later (NotAJournal at) content content_then before between now same later why = λ b told. why b (same ∙ told)
refused_later EpochsSpent content content_then before between now same later why = why
refused_later OutOfMemory content content_then before between now same later why = tt
