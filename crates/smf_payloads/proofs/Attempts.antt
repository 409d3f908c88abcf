-- Attempts, their ends and restarts read back.
use Rattle.std.proofs.Common.{◌≡◌, ◌∙◌, ◌-◌, ◌^◌, ◌≤◌, ℕ, ap, sym, refl, List, [], ◌∷◌, ◌++◌, Option, Some, codes, decimal, arith, append_assoc}
use Rattle.std.specs.Prelude.{option_and_then, option_map}
use Rattle.units.specs.Ranges.{Is32}
use Rattle.row_texts.specs.Words.{after_space}
use Rattle.row_texts.specs.ReadBack.{NumbersReadBack}
use Rattle.smf_model.specs.declared.session.Peer.{Peer}
use Rattle.smf_model.specs.declared.session.Peer.TheVariants.{Primary, Alternate}
use Rattle.smf_model.specs.declared.event.SmfEvent.{SmfEvent}
use Rattle.smf_model.specs.declared.event.SmfEvent.TheVariants.{Attempt, NotSent, NoReply}
use Rattle.smf_payloads.specs.Written.{peer_text}
use Rattle.smf_payloads.specs.Read.{attempt_in, end_in, end_of, peer_of}
use Rattle.smf_payloads.specs.Payloads.{ReadsBack}

peer_back : (peer : Peer) → peer_of (peer_text peer) ≡ Some peer
peer_back Primary = refl
peer_back Alternate = refl

pub attempt_back : NumbersReadBack → (session : ℕ) (peer : Peer) → Is32 session → ReadsBack (Attempt session peer)
attempt_back numbers session peer fits =
    let text = peer_text peer in
    ap attempt_in (sym (append_assoc (decimal session) (codes " ") text))
    ∙ ap (option_and_then (λ s. option_map (λ p. Attempt s p) (peer_of (after_space ((decimal session ++ codes " ") ++ text))))) (numbers.before_space (2 ^ 32 - 1) session text (omega (arith, fits)) (omega (arith, fits)))
    ∙ ap (λ t. option_map (λ p. Attempt session p) (peer_of t)) (numbers.after_space session text (omega (arith, fits)))
    ∙ ap (option_map (λ p. Attempt session p)) (peer_back peer)

ended : NumbersReadBack → (session : ℕ) (word : List ℕ) → Is32 session → end_in ((decimal session ++ codes " ") ++ word) ≡ end_of session word
ended numbers session word fits =
    ap (option_and_then (λ s. end_of s (after_space ((decimal session ++ codes " ") ++ word)))) (numbers.before_space (2 ^ 32 - 1) session word (omega (arith, fits)) (omega (arith, fits)))
    ∙ ap (end_of session) (numbers.after_space session word (omega (arith, fits)))

pub not_sent_back : NumbersReadBack → (session : ℕ) → Is32 session → ReadsBack (NotSent session)
not_sent_back numbers session fits = ap end_in (sym (append_assoc (decimal session) (codes " ") (codes "notsent"))) ∙ ended numbers session (codes "notsent") fits

pub no_reply_back : NumbersReadBack → (session : ℕ) → Is32 session → ReadsBack (NoReply session)
no_reply_back numbers session fits = ap end_in (sym (append_assoc (decimal session) (codes " ") (codes "noreply"))) ∙ ended numbers session (codes "noreply") fits
