-- Which setups and events read back (this product's own).
use Rattle.std.specs.Prelude.{◌≡◌, ℕ, List, Some}
use Rattle.units.specs.Ranges.{Is32}
use Rattle.units.specs.ReplyRanges.{FitsReply}
use Rattle.smf_rows.specs.SetupRow.{setup_of}
use Rattle.smf_rows.specs.EventRow.{event_of}
use Rattle.smf_model.specs.declared.setup.SmfSetup.{SmfSetup}
use Rattle.smf_model.specs.declared.session.Peer.{Peer}
use Rattle.smf_model.specs.declared.event.SmfEvent.{SmfEvent}
use Rattle.smf_model.specs.declared.event.SmfEvent.TheVariants.{Answered, Attempt, NotSent, NoReply, Restart}
use Rattle.smf_payloads.specs.Payloads.{ReadsBack, SetupReadsBack}

-- an answer to a request of a session: numbers of 32 bits, and a reply in the ranges of its format
abbrev pub IsOfAnswer : SmfEvent → Type 0
IsOfAnswer (Answered session number reply) = Is32 session × Is32 number × FitsReply reply
IsOfAnswer other = ⊥

-- what rows give reads back: the setup of a setup's row, and the event of an event's row
pub record RowsReadBack : Type 0 where
  pub setups : (row : List (List ℕ)) (s : SmfSetup) → setup_of row ≡ Some s → SetupReadsBack s
  pub events : (row : List (List ℕ)) (e : SmfEvent) → event_of row ≡ Some e → ReadsBack e

-- so do attempts of a session, a number of 32 bits, and restarts
pub record AttemptsReadBack : Type 0 where
  pub attempt : (session : ℕ) (peer : Peer) → Is32 session → ReadsBack (Attempt session peer)
  pub not_sent : (session : ℕ) → Is32 session → ReadsBack (NotSent session)
  pub no_reply : (session : ℕ) → Is32 session → ReadsBack (NoReply session)
  pub restart : ReadsBack Restart
