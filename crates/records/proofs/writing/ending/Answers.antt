use Rattle.std.proofs.Common.{◌∙◌, ap, ℕ, List}
use Rattle.ber.specs.Element.{more, none}
use Rattle.ber.specs.Written.{onto}
use Rattle.records.specs.Written.{stamp_field, triggers_field}
use Rattle.records.proofs.Fronted.{two}
use Rattle.records.proofs.writing.ending.Goals as goal

pub returns : goal.returns
returns c =
    two (triggers_field c.args.used.now.triggers) (more (stamp_field 7 c.args.used.now.moment) none) _ c.stamp.new.out c.args.out.now
    (c.in_ok-triggers_of.ensures ∙ ap (λ (ts : List (List ℕ)). onto (triggers_field ts) c.stamp.new.out) c.as_slice.ensures) c.in_ok-stamp.ensures
