-- A trace after more events ends with the trace before them.
use Rattle.std.proofs.Common.{◌≡◌, ℕ, List, [], ◌∷◌, ◌++◌, refl, sym, ◌∙◌, ap, append_assoc}
use Rattle.sessions.specs.Trace.{Move, requests}
use Rattle.sessions.specs.Trace.Move.{Closes, Drops, Freezes, Attempts, NotSent, NoReply, GivesUp, Answers}
use Rattle.smf_model.specs.declared.setup.SmfSetup.{SmfSetup}
use Rattle.smf_model.specs.declared.event.SmfEvent.{SmfEvent}
use Rattle.smf_model.specs.Machine.{machine_after, answer_of}
use Rattle.smf_model.specs.Trace.{trace, moves_if}
use Rattle.smf_model.specs.Prefixes.{EndsWith, AreStanding}

ends : (setup : SmfSetup) (more events : List SmfEvent) (number : ℕ) → EndsWith (trace setup (more ++ events) number) (trace setup events number)
ends setup [] events number = ([], refl)
ends setup (event ∷ more) events number =
    let m = machine_after setup (more ++ events) in
    let before = ends setup more events number in
    let moves : List Move = moves_if m number event (answer_of m event) in
    (moves ++ before.0, ap (λ l. moves ++ l) before.1 ∙ sym (append_assoc moves before.0 (trace setup events number)))

requests-append : (newer earlier : List Move) → requests (newer ++ earlier) ≡ requests newer ++ requests earlier
requests-append [] earlier = refl
requests-append (Closes c ∷ newer) earlier = requests-append newer earlier
requests-append (Drops lsn ∷ newer) earlier = requests-append newer earlier
requests-append (Freezes q ∷ newer) earlier = ap (λ rs. q ∷ rs) (requests-append newer earlier)
requests-append (Attempts ∷ newer) earlier = requests-append newer earlier
requests-append (NotSent ∷ newer) earlier = requests-append newer earlier
requests-append (NoReply ∷ newer) earlier = requests-append newer earlier
requests-append (GivesUp ∷ newer) earlier = requests-append newer earlier
requests-append (Answers p ∷ newer) earlier = requests-append newer earlier

pub standing : (setup : SmfSetup) (more events : List SmfEvent) (number : ℕ) → AreStanding setup more events number
standing setup more events number =
    let e = ends setup more events number in
    record { moves = e; requests = (requests e.0, ap requests e.1 ∙ requests-append e.0 (trace setup events number)) }
