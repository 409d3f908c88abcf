use Rattle.std.proofs.Common.{◌≡◌, ◌∙◌, List, ℕ, Some, ap, subst, sym}
use Rattle.edge.specs.MemLinks.{MemoryLink}
use Rattle.edge.specs.Openings.{HasOpened}
use Rattle.edge.specs.Visits.{MemoryStreams}
use Rattle.edge.proofs.Visited.{opening}
use Rattle.edge.proofs.memory_link.MemLinkLink.connect.Goals as goal

pub returns-clause-opened : goal.returns-clause-opened
returns-clause-opened c =
    let streams : c.self.inside.streams ≡ c.args.self.now.streams = ap (λ (l : MemoryLink). l.streams) (c.self.view_is ∙ c.ask.ensures) in
    rw c.succeed.ensures
    (subst (λ (s : MemoryStreams). HasOpened c.args.peer.now (Some s.connections) (Some c.open.new.self.connections)) streams
    (subst (λ (peer : List ℕ). HasOpened peer (Some c.self.inside.streams.connections) (Some c.open.new.self.connections)) c.as_bytes-else-fails.ensures.value
    (opening _ c.self.inside.streams.to_come c.self.inside.streams c.open.new.self c.open.ensures.after (sym c.open.ensures.came ∙ c.if-not-open.false))))
