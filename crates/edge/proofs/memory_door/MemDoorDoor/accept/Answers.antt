use Rattle.std.proofs.Common.{◌≡◌, ◌∙◌, Some, [], true, subst, sym}
use Rattle.edge.specs.Openings.{HasOpened}
use Rattle.edge.specs.Visits.{MemoryStreams}
use Rattle.edge.proofs.Visited.{opening}
use Rattle.edge.proofs.memory_door.MemDoorDoor.accept.Goals as goal

pub returns-clause-opened : goal.returns-clause-opened
returns-clause-opened c = λ came.
    let is : c.open.result ≡ true = cc in
    rw (← c.self.view_is)
    (subst (λ (s : MemoryStreams). HasOpened [] (Some s.connections) (Some c.open.new.self.connections)) c.succeed.ensures
    (opening [] c.succeed.new.self.to_come c.succeed.new.self c.open.new.self c.open.ensures.after (sym c.open.ensures.came ∙ is)))
