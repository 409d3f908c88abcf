use Rattle.std.proofs.Common.{◌++◌, drop, map as each}
use Rattle.chf_core.specs.Effect.{rating_by}
use Rattle.chf_core.specs.CommandMoves.{reserve_of, grants, info_for}
use Rattle.chf_core.specs.Drafts.{drafted}
use Rattle.chf_core.proofs.Drafting.{IsGranting}
use Rattle.chf_core.proofs.draft.Draft.grant_all.Given as goal

abbrev pub invariant-loop-a : goal.invariant-loop-a
invariant-loop-a l =
    IsGranting (rating_by l.tariffs l.grace l.barred) l.t l.stamp l.accounts.state (drop l.a-index l.asks) l.self l.told
    (l.fn.self.moves ++ each (reserve_of (rating_by l.tariffs l.grace l.barred) l.t l.stamp)
    (grants (rating_by l.tariffs l.grace l.barred) l.t l.stamp l.asks (drafted l.fn.self l.accounts.state)))
    (each (info_for (rating_by l.tariffs l.grace l.barred) l.stamp)
    (grants (rating_by l.tariffs l.grace l.barred) l.t l.stamp l.asks (drafted l.fn.self l.accounts.state)))
