use Rattle.std.proofs.Common.{ap, sym, ◌∙◌, arith}
use Rattle.std.specs.FinMap as map
use Rattle.accounts.proofs.Tables.{without_removed, without_none, len_removed}
use Rattle.accounts.proofs.accounts.Accounts.release_until.Goals as goal
use Rattle.accounts.specs.Endings.{Until}
use Rattle.accounts.specs.Endings.{without}
use Rattle.accounts.specs.Ledger.{State}

pub loop-key-smaller : goal.loop-key-smaller
loop-key-smaller c =
    let n = len_removed c.loop-key.self.state.reservations (Until c.args.moment) c.in-Some.key c.in-Some.ensures in
    let e = ap (λ (s : State). map.len s.reservations) c.release.ensures.state in
    omega arith

pub loop-key-preserved : goal.loop-key-preserved
loop-key-preserved c =
    let s = c.loop-key.self.state in
    let n = len_removed s.reservations (Until c.args.moment) c.in-Some.key c.in-Some.ensures in
    let e = ap (λ (s : State). map.len s.reservations) c.release.ensures.state in
    record {
      stays = ap (λ (s : State). without s.reservations (Until c.args.moment)) c.release.ensures.state ∙ without_removed s.reservations (Until c.args.moment) c.in-Some.key c.in-Some.ensures ∙ c.loop-key.invariant.stays;
      accounts = ap (λ (s : State). s.accounts) c.release.ensures.state ∙ c.loop-key.invariant.accounts;
      lines = ap (λ (s : State). s.lines) c.release.ensures.state ∙ c.loop-key.invariant.lines;
      spare = omega (arith, c.loop-key.invariant.spare, c.release.ensures.spare);
    }

pub returns-clause-state : goal.returns-clause-state
returns-clause-state c =
    let s = c.loop-key.self.state in
    let h = sym (without_none s.reservations (Until c.args.moment) c.in_default.ensures) ∙ c.loop-key.invariant.stays in
    λ i. record { accounts = c.loop-key.invariant.accounts i; reservations = h i; lines = c.loop-key.invariant.lines i }
