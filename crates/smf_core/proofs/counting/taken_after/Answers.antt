use Rattle.std.proofs.Common.{◌≡◌, ◌∙◌, Bool, true, false, cond, List, [], ◌∷◌, map, ℕ, refl, sym, ap}
use Rattle.std.specs.Prelude.{None}
use Rattle.smf_model.specs.declared.session.Holding.{Holding}
use Rattle.smf_model.specs.Settle.{is_open_of, close}
use Rattle.smf_model.specs.Traffic.{close_of}
use Rattle.smf_core.specs.Draft.{joined_past}
use Rattle.smf_core.proofs.KeptRight.{if_ok}
use Rattle.smf_core.proofs.counting.taken_after.Goals as goal

-- where nothing closes it, each container is as it was
none_closed : (group moment : ℕ) (hs : List Holding) → map (close_of group moment None) hs ≡ hs
none_closed group moment [] = refl
none_closed group moment (h ∷ hs) = ap (λ x. x ∷ map (close_of group moment None) hs) (at (is_open_of group h)) ∙ ap (λ xs. h ∷ xs) (none_closed group moment hs)
  where
    at : (b : Bool) → cond b (close moment None h) h ≡ h
    at true = refl
    at false = refl

pub returns-in-None : goal.returns-in-None
returns-in-None c =
    let group = c.args.report.now.group in
    let moment = c.args.report.now.moment in
    let hs = c.args.holdings in
    let same : hs ≡ map (close_of group moment c.args.trigger) hs = sym (ap (λ t. map (close_of group moment t) hs) c.in-None.is ∙ none_closed group moment hs) in
    if_ok c.with_joined.result _ _ (λ v e. e ∙ ap (joined_past c.args.past c.args.report.now) same) c.with_joined.ensures
