-- What each part of the end of an attempt keeps, the whole of it keeps.
use Rattle.std.proofs.Common.{◌≡◌, ℕ, ◌∷◌, [], ◌++◌, List, map, refl, sym, ap, subst, append_assoc, Bool, true, false, cond}
use Rattle.std.specs.Prelude.{Option, Some, None, is_some}
use Rattle.units.specs.declared.request.Request.{Request}
use Rattle.units.specs.declared.trigger.TriggerType.TheVariants.{AbnormalRelease}
use Rattle.sessions.specs.Trace.{Move}
use Rattle.sessions.specs.Trace.Move.{GivesUp}
use Rattle.smf_model.specs.declared.setup.SmfSetup.{SmfSetup}
use Rattle.smf_model.specs.declared.session.Life.{Life}
use Rattle.smf_model.specs.declared.session.Life.TheVariants.{Live, Ending, Aborting, Ended}
use Rattle.smf_model.specs.declared.session.Loss.{Loss}
use Rattle.smf_model.specs.declared.session.Sending.{Sending}
use Rattle.smf_model.specs.declared.session.Why.TheVariants.{NotSent}
use Rattle.smf_model.specs.declared.session.Session.{Session}
use Rattle.smf_model.specs.Sending.{marked, unmarked}
use Rattle.smf_model.specs.Traffic.{without_traffic, ended_for}
use Rattle.smf_model.specs.Rounds.{is_continue, with_loss, is_last, next_turn, next_round, continue_entry, broken_off, after_round, moved_on, lost}
use Rattle.smf_model.specs.Machine.{is_live}
use Rattle.smf_model.specs.Trace.{closes_all, loss_move, breaking_moves, round_moves, moved_moves, lost_moves}

-- a change of how far the sending is, going on without quota, breaking off, giving up, where something is known of the unanswered request
pub record KeptByLoss (P : List Move → Session → Type 0) (known : Option Request → Type 0) : Type 0 where
  pub sends : (x : Sending) (t : List Move) (s : Session) → x.latest ≡ s.sending.latest → x.in_flight ≡ s.sending.in_flight → x.unsent ≡ s.sending.unsent → P t s → P t (record s { sending = x })
  pub continues : (t : List Move) (s : Session) → P t s → P t (record s { groups = map continue_entry s.groups })
  pub breaks : (now : ℕ) (t : List Move) (s : Session) → is_live s.life ≡ true → P t s → P (closes_all now AbnormalRelease s ++ t) (without_traffic Aborting now AbnormalRelease s)
  pub gives_up : (now : ℕ) (t : List Move) (s : Session) → s.sending.in_flight ≡ false → s.sending.unsent ≡ true → known s.request → P t s → P (GivesUp ∷ (closes_all now AbnormalRelease s ++ t)) (ended_for NotSent now s)

broken_kept : (P : List Move → Session → Type 0) (known : Option Request → Type 0) → KeptByLoss P known → (l : Life) (setup : SmfSetup) (now : ℕ) (t : List Move) (s : Session) → s.life ≡ l → P t s → P (breaking_moves now l s ++ t) (next_round setup now (broken_off now l s))
broken_kept P known k Live setup now t s is h = k.sends _ (closes_all now AbnormalRelease s ++ t) (without_traffic Aborting now AbnormalRelease s) refl refl refl (k.breaks now t s (ap is_live is) h)
broken_kept P known k Ending setup now t s is h = k.sends _ t s refl refl refl h
broken_kept P known k Aborting setup now t s is h = k.sends _ t s refl refl refl h
broken_kept P known k Ended setup now t s is h = k.sends _ t s refl refl refl h

round_kept : (P : List Move → Session → Type 0) (known : Option Request → Type 0) → KeptByLoss P known → (setup : SmfSetup) (now : ℕ) (t : List Move) (s : Session) → s.sending.in_flight ≡ false → known s.request → P t s → P (round_moves now s ++ t) (after_round setup now s)
round_kept P known k setup now t s landed asked h = at (is_continue s.handling) (s.sending.unsent) refl
  where
    at : (c u : Bool) → s.sending.unsent ≡ u
        → P (cond c [] (cond u (GivesUp ∷ closes_all now AbnormalRelease s) (breaking_moves now s.life s)) ++ t)
        (cond c (record (next_round setup now s) { groups = map continue_entry s.groups }) (cond u (ended_for NotSent now s) (next_round setup now (broken_off now s.life s))))
    at true u e = k.continues t (next_round setup now s) (k.sends _ t s refl refl refl h)
    at false true e = k.gives_up now t s landed e asked h
    at false false e = broken_kept P known k s.life setup now t s refl h

moved_kept : (P : List Move → Session → Type 0) (known : Option Request → Type 0) → KeptByLoss P known → (setup : SmfSetup) (now : ℕ) (t : List Move) (s : Session) → s.sending.in_flight ≡ false → known s.request → P t s → P (moved_moves now s ++ t) (moved_on setup now s)
moved_kept P known k setup now t s landed asked h = at (is_last s)
  where
    at : (b : Bool) → P (cond b (round_moves now s) [] ++ t) (cond b (after_round setup now s) (next_turn s))
    at true = round_kept P known k setup now t s landed asked h
    at false = k.sends _ t s refl refl refl h

-- so does all of it, from the end itself on
pub lost_kept : (P : List Move → Session → Type 0) (known : Option Request → Type 0) → KeptByLoss P known → (setup : SmfSetup) (now : ℕ) (loss : Loss) (t : List Move) (s : Session) → known s.request → P (loss_move loss ∷ t) (with_loss loss s) → P (lost_moves now loss s ++ t) (lost setup now loss s)
lost_kept P known k setup now loss t s asked h =
    subst (λ l. P l (lost setup now loss s)) (sym (append_assoc (moved_moves now (with_loss loss s)) (loss_move loss ∷ []) t))
    (moved_kept P known k setup now (loss_move loss ∷ t) (with_loss loss s) refl asked h)

-- a mark changes nothing of what is asked
pub same_content : (o : Option Request) → unmarked (marked o) ≡ unmarked o
same_content None = refl
same_content (Some q) = refl

pub still_asked : (o : Option Request) → is_some (marked o) ≡ is_some o
still_asked None = refl
still_asked (Some q) = refl
