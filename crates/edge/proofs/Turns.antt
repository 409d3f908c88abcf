-- What a turn leaves.
use Rattle.std.proofs.Common.{◌≡◌, ℕ, List, subst}
use Rattle.edge.specs.declared.disk_script.Turn.{Turn}
use Rattle.edge.specs.declared.disk_script.Turn.TheVariants.{Goes, Fails, Stops}
use Rattle.edge.specs.DiskScript.{Leaves}
use Rattle.edge.specs.Stored.{Stored, IsSettled}

pub leaves_goes : (turn : Turn) (fill : List ℕ) (old reached made new : Stored) → Goes ≡ turn → new ≡ made → Leaves turn fill old reached made new
leaves_goes turn fill old reached made new is e = subst (λ (t : Turn). Leaves t fill old reached made new) is e

pub leaves_fails : (turn : Turn) (fill : List ℕ) (old reached made new : Stored) → Fails ≡ turn → new ≡ old → Leaves turn fill old reached made new
leaves_fails turn fill old reached made new is e = subst (λ (t : Turn). Leaves t fill old reached made new) is e

pub leaves_stops : (turn : Turn) (fill : List ℕ) (old reached made new : Stored) → Stops ≡ turn → IsSettled fill reached new → Leaves turn fill old reached made new
leaves_stops turn fill old reached made new is s = subst (λ (t : Turn). Leaves t fill old reached made new) is s

pub ruleset turns = (leaves_goes, leaves_fails, leaves_stops)
