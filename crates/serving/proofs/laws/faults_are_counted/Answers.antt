use Rattle.serving.specs.Sides.{meaning_of}
use Rattle.serving.proofs.Counting.{counted}
use Rattle.serving.proofs.laws.faults_are_counted.Goals as goal

pub returns : goal.returns
returns g c = λ was faults test each. counted (meaning_of g.H.Handler.gives g.H.Handler.expires g.H.Handler.notifies g.H.Handler.fence was) faults test each
