-- A session and its moves, through attempts and their ends.
use Rattle.std.proofs.Common.{◌≡◌, ℕ, true, false, List, [], ◌∷◌, ◌++◌, map, refl, sym, ◌∙◌}
use Rattle.std.specs.Prelude.{Option, Some, None, is_some}
use Rattle.std.specs.List.{AllByRecursion}
use Rattle.units.specs.declared.trigger.TriggerType.TheVariants.{AbnormalRelease}
use Rattle.sessions.specs.Trace.{Move, flight, Admits}
use Rattle.sessions.specs.Trace.Move.{Attempts, GivesUp}
use Rattle.sessions.specs.Trace.Cause.{WasNotSent}
use Rattle.smf_model.specs.declared.setup.SmfSetup.{SmfSetup}
use Rattle.smf_model.specs.declared.session.Peer.{Peer}
use Rattle.smf_model.specs.declared.session.Loss.{Loss}
use Rattle.smf_model.specs.declared.session.Loss.TheVariants.{Unsent, Unanswered}
use Rattle.smf_model.specs.declared.session.Life.TheVariants.{Aborting}
use Rattle.smf_model.specs.declared.session.Why.TheVariants.{NotSent as WhyNotSent}
use Rattle.smf_model.specs.declared.session.Holding.{Holding}
use Rattle.smf_model.specs.declared.session.Session.{Session}
use Rattle.smf_model.specs.Sending.{attempted}
use Rattle.smf_model.specs.Traffic.{close_any, without_traffic, ended_for}
use Rattle.smf_model.specs.Rounds.{with_loss, continue_entry, lost}
use Rattle.smf_model.specs.Trace.{closes_all, loss_move, lost_moves}
use Rattle.smf_model.proofs.Losing.{KeptByLoss, lost_kept, same_content, still_asked}
use Rattle.smf_model.proofs.Placed.{IsAt, LeavesRequests, closes_leave}
use Rattle.smf_model.proofs.Frozen.{unsent_gives}
use Rattle.smf_model.proofs.Held.{Stands, same_stands, any_stands}
use Rattle.smf_model.proofs.Sends.{Sends, ended_sends, sends_by_loss}
use Rattle.smf_model.proofs.Effects.{live_not_over, shut_all, given_stands}

-- an attempt and its end leave each container where it is
all_attempt : (t : List Move) (hs : List Holding) → AllByRecursion (IsAt t) hs → AllByRecursion (IsAt (Attempts ∷ t)) hs
all_attempt t [] a = tt
all_attempt t (h ∷ hs) a = (record { place = a.0.place; closed = a.0.closed; untouched = a.0.untouched }, all_attempt t hs a.1)

all_loss : (loss : Loss) (t : List Move) (hs : List Holding) → AllByRecursion (IsAt t) hs → AllByRecursion (IsAt (loss_move loss ∷ t)) hs
all_loss loss t [] a = tt
all_loss Unsent t (h ∷ hs) a = (record { place = a.0.place; closed = a.0.closed; untouched = a.0.untouched }, all_loss Unsent t hs a.1)
all_loss Unanswered t (h ∷ hs) a = (record { place = a.0.place; closed = a.0.closed; untouched = a.0.untouched }, all_loss Unanswered t hs a.1)

-- no attempt, or one
none_flies : (o : Option ℕ) → false ≡ is_some o → o ≡ None
none_flies None e = refl
none_flies (Some n) e = cc

one_flies : (o : Option ℕ) → true ≡ is_some o → (attempt : ℕ) × (o ≡ Some attempt)
one_flies None e = cc
one_flies (Some n) e = (n, refl)

pub attempted_stands : (peer : Peer) (t : List Move) (s : Session) → is_some s.request ≡ true → s.sending.in_flight ≡ false → Sends t s → Stands t s → Stands (Attempts ∷ t) (attempted peer s)
attempted_stands peer t s asked landed w h = record {
  valid = ((h.asked asked, none_flies (flight t) (sym landed ∙ w.flight)), h.valid);
  numbered = h.numbered;
  each = all_attempt t s.holdings h.each;
  beyond = h.beyond;
  count = h.count;
  unanswered = same_content s.request ∙ h.unanswered;
  asked = λ e. h.asked asked;
  idle = λ e on. absurd (let f : true ≡ false = sym (still_asked s.request ∙ asked) ∙ e in cc);
}

ended_stands : (loss : Loss) (t : List Move) (s : Session) → s.sending.in_flight ≡ true → Sends t s → Stands t s → Stands (loss_move loss ∷ t) (with_loss loss s)
ended_stands Unsent t s flies w h = record {
  valid = ((h.asked (w.asked flies), one_flies (flight t) (sym flies ∙ w.flight)), h.valid);
  numbered = h.numbered;
  each = all_loss Unsent t s.holdings h.each;
  beyond = h.beyond;
  count = h.count;
  unanswered = h.unanswered;
  asked = h.asked;
  idle = h.idle;
}
ended_stands Unanswered t s flies w h = record {
  valid = ((h.asked (w.asked flies), one_flies (flight t) (sym flies ∙ w.flight)), h.valid);
  numbered = h.numbered;
  each = all_loss Unanswered t s.holdings h.each;
  beyond = h.beyond;
  count = h.count;
  unanswered = h.unanswered;
  asked = h.asked;
  idle = h.idle;
}

-- by its moves, and so far as the sending is
abbrev pub StandsAndSends : List Move → Session → Type 0
StandsAndSends t s = Stands t s × Sends t s

abandoned_stands : (now : ℕ) (t : List Move) (s : Session) → s.sending.in_flight ≡ false → s.sending.unsent ≡ true → is_some s.request ≡ true → StandsAndSends t s
    → Stands (GivesUp ∷ (closes_all now AbnormalRelease s ++ t)) (ended_for WhyNotSent now s)
abandoned_stands now t s landed unsent asked h =
    let c : List Move = closes_all now AbnormalRelease s in
    let shut : Session = record s { holdings = map (close_any now AbnormalRelease) s.holdings } in
    let k : Stands (c ++ t) shut = any_stands now AbnormalRelease t s shut refl refl refl (λ e. e) h.0 in
    let same : LeavesRequests t (c ++ t) = closes_leave now _ t s.holdings in
    let admits : Admits (c ++ t) GivesUp = (k.asked asked, same.flight ∙ none_flies (flight t) (sym landed ∙ h.1.flight), same.unsent ∙ sym (h.1.unsent asked) ∙ unsent) in
    given_stands WasNotSent GivesUp (c ++ t) shut (ended_for WhyNotSent now s) (unsent_gives (c ++ t)) admits refl (shut_all now AbnormalRelease s.holdings) refl refl refl refl k

stands_by_loss : KeptByLoss StandsAndSends (λ o. is_some o ≡ true)
stands_by_loss = record {
  sends = λ x t s latest flies unsent h. (same_stands t s (record s { sending = x }) refl refl refl (λ e. e) h.0, sends_by_loss.sends x t s latest flies unsent h.1);
  continues = λ t s h. (same_stands t s (record s { groups = map continue_entry s.groups }) refl refl refl (λ e. e) h.0, sends_by_loss.continues t s h.1);
  breaks = λ now t s live h. (any_stands now AbnormalRelease t s (without_traffic Aborting now AbnormalRelease s) refl refl refl (λ e. live_not_over s.life live) h.0, sends_by_loss.breaks now t s live h.1);
  gives_up = λ now t s landed unsent asked h. (abandoned_stands now t s landed unsent asked h, sends_by_loss.gives_up now t s landed unsent tt h.1);
}

pub lost_stands : (setup : SmfSetup) (now : ℕ) (loss : Loss) (t : List Move) (s : Session) → s.sending.in_flight ≡ true → StandsAndSends t s → Stands (lost_moves now loss s ++ t) (lost setup now loss s)
lost_stands setup now loss t s flies h =
    (lost_kept StandsAndSends (λ o. is_some o ≡ true) stands_by_loss setup now loss t s (h.1.asked flies) (ended_stands loss t s flies h.1 h.0, ended_sends loss t s h.1)).0
