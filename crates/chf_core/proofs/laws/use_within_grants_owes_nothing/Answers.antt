use Rattle.chf_core.proofs.WithinGrants.{use_owes_nothing}
use Rattle.chf_core.proofs.laws.use_within_grants_owes_nothing.Goals as goal

pub returns : goal.returns
returns c = λ u w.
    use_owes_nothing c.reserves_suffice.ensures.pay c.reservations_hold.ensures.owed u.before u.later u.request u.target
    u.group u.grant u.terms u.entries u.containers u.container w.sound w.rated w.granted w.stands w.within
