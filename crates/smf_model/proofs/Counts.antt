-- The machine counts the entries of its list.
use Rattle.std.proofs.Common.{◌≡◌, ◌+◌, List, [], ◌∷◌, refl, ◌∙◌, ap, arith}
use Rattle.std.specs.Prelude.{Result, Ok, Err}
use Rattle.smf_model.specs.declared.setup.SmfSetup.{SmfSetup}
use Rattle.smf_model.specs.declared.session.Machine.{Machine}
use Rattle.smf_model.specs.declared.event.SmfEvent.{SmfEvent}
use Rattle.smf_model.specs.declared.refusal.Seen.{Seen}
use Rattle.smf_model.specs.declared.refusal.Seen.TheVariants.{New, Known}
use Rattle.smf_model.specs.declared.refusal.SmfRefusal.{SmfRefusal}
use Rattle.smf_model.specs.Machine.{machine_after, answer_of, after_answer}
use Rattle.smf_model.specs.Counts.{entry_count, entries_in}

one_more : (m : Machine) (event : SmfEvent) (answer : Result Seen SmfRefusal) → (after_answer m event answer).count ≡ m.count + entry_count answer
one_more m event (Ok New) = refl
one_more m event (Ok Known) = omega arith
one_more m event (Err e) = omega arith

pub counted : (setup : SmfSetup) (events : List SmfEvent) → (machine_after setup events).count ≡ entries_in setup events
counted setup [] = refl
counted setup (event ∷ earlier) =
    one_more (machine_after setup earlier) event (answer_of (machine_after setup earlier) event)
    ∙ ap (λ n. n + entry_count (answer_of (machine_after setup earlier) event)) (counted setup earlier)
