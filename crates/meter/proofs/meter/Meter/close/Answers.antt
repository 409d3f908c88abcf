use Rattle.std.proofs.Common.{sym, ◌∙◌, ap}
use Rattle.meter.specs.Meter.{open_of}
use Rattle.meter.proofs.Sound.{own_last, own_group}
use Rattle.meter.proofs.meter.Meter.close.Goals as goal

pub shut-requires : goal.shut-requires
shut-requires c = own_last c.args.self.now.contents c.args.group c.in-Some.container (sym c.open_container.ensures ∙ c.in-Some.is)

pub returns-in-Some-clause-none : goal.returns-in-Some-clause-none
returns-in-Some-clause-none c =
    let group = own_group c.args.self.now.contents c.args.group c.in-Some.container (sym c.open_container.ensures ∙ c.in-Some.is) in
    ap (open_of c.shut.new.self.contents) (sym group) ∙ c.shut.ensures.none

pub returns-in-Some-clause-others : goal.returns-in-Some-clause-others
returns-in-Some-clause-others c other apart =
    let group = own_group c.args.self.now.contents c.args.group c.in-Some.container (sym c.open_container.ensures ∙ c.in-Some.is) in
    c.shut.ensures.others other (λ e. apart (e ∙ group))
