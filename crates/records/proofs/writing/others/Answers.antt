use Rattle.std.proofs.Common.{◌∙◌, ◌++◌, ℕ, ap}
use Rattle.ber.specs.Written.{written}
use Rattle.records.specs.Written.{number_field, stamp_field}
use Rattle.records.proofs.Fronted.{front}
use Rattle.records.proofs.writing.others.Goals as goal

pub returns : goal.returns
returns c =
    let r = c.args.entry.now in
    front (stamp_field 6 r.opening) _ _ _ c.in_ok-stamp.ensures
    (front (number_field 7 r.duration) _ _ _ c.in_ok-small-3.ensures
    (front (number_field 8 r.sequence) _ _ _ c.in_ok-small-2.ensures
    (front (number_field 9 r.cause) _ _ _ (c.in_ok-number.ensures ∙ ap (λ (n : ℕ). written (number_field 9 n) ++ c.small.new.out) c.from.ensures)
    (front (number_field 11 r.local) _ _ _ c.in_ok-small.ensures c.in_ok-session.ensures))))
