use Rattle.std.proofs.Common.{ap, ◌∙◌}
use Rattle.accounts.specs.Reservations.{Stored}
use Rattle.accounts.proofs.Tables.{stored_at}
use Rattle.accounts.proofs.reservations.Reservations.get.Goals as goal

pub returns : goal.returns
returns c = c.copied.ensures ∙ c.get.ensures.value ∙ stored_at c.self.inside.table.entries c.args.self.now.of (ap (λ (s : Stored). s.of) c.self.view_is) c.args.key.now
