use Rattle.serving.specs.Sides.{meaning_of}
use Rattle.serving.proofs.SayingTheSame.{says_the_same}
use Rattle.serving.proofs.laws.cuts_do_not_matter.Goals as goal

pub returns : goal.returns
returns g c = λ was one. says_the_same (meaning_of g.H.Handler.gives g.H.Handler.expires g.H.Handler.notifies g.H.Handler.fence was) c.requests_decide.ensures one
