use Rattle.std.proofs.Common.{rules, ◌≡◌, Option, refl, sym, subst}
use Rattle.notices.specs.Steps.{Step}
use Rattle.chf_core.specs.declared.command.Command.TheVariants.{Subscriber}
use Rattle.chf_core.specs.Spending.{counters_in}
use Rattle.chf_core.specs.State.{at_text, account_named}
use Rattle.chf_core.specs.Stepping.{number_for}
use Rattle.chf_core.specs.CommandSteps.{step_of}
use Rattle.chf_core.specs.Machine.{IsMove}
use Rattle.chf_core.proofs.Stepped.{moving_is}
use Rattle.chf_core.proofs.chf.Chf.plan_subscriber.Goals as goal

pub returns : goal.returns
returns c =
    let s = c.args.self.now.state in
    let supi = c.args.supi.now in
    let account = c.args.account.now in
    let m = c.in_ok-moving_to.field-0 in
    let step = moving_is s.names s.money (account_named s account) supi account (at_text s.subscribers supi) in
    let move : IsMove (counters_in s.setup) s.watched (number_for s.names account) (step_of s (Subscriber supi account c.args.barred.now)) m =
    subst (λ (x : Option Step). IsMove (counters_in s.setup) s.watched (number_for s.names account) x m) (sym step) c.in_ok-moving_to.ensures in
    record {
      command = search rules;
      outcome = refl;
      moves = search rules;
      makeable = search rules;
      change = (search rules, (search rules, move));
    }
