use Rattle.std.proofs.Common.{is_some, sym, ap, ◌∙◌}
use Rattle.accounts.specs.Reservations.{Stored}
use Rattle.accounts.proofs.Tables.{stored_at}
use Rattle.accounts.proofs.Indexed.{session_has, session_has_none}
use Rattle.accounts.proofs.reservations.Reservations.one_of.Goals as goal

pub returns-in-Some : goal.returns-in-Some
returns-in-Some c =
    let m = c.args.self.now.of in
    let t = c.self.inside in
    session_has m _ t.groups c.args.session c.in-Some.group (λ q. ap is_some (stored_at t.table.entries m (ap (λ (s : Stored). s.of) c.self.view_is) q)) c.self.invariant.1 (sym c.latest.ensures ∙ c.in-Some.is)

pub returns-in-None : goal.returns-in-None
returns-in-None c =
    let m = c.args.self.now.of in
    let t = c.self.inside in
    session_has_none m _ t.groups c.args.session (λ q. ap is_some (stored_at t.table.entries m (ap (λ (s : Stored). s.of) c.self.view_is) q)) c.self.invariant.1 (sym c.latest.ensures ∙ c.in-None.is)
