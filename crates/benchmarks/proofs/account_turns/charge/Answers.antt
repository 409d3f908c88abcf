use Rattle.std.proofs.Common.{◌≡◌, ◌<◌, ℕ, refl, arith, length, length-set, sym, ◌∙◌, ap, rules, slice_set}
use Rattle.accounts.specs.Ledger.{State, Numbers, Contents}
use Rattle.accounts.specs.declared.moves.Move.TheVariants.{Charged, Released, Reserved, ToppedUp, Added}
use Rattle.accounts.specs.Moves.{empty_state, after}
use Rattle.benchmarks.proofs.Firsts.{kept, kept_or_same}
use Rattle.benchmarks.proofs.account_turns.charge.Goals as goal

pub returns : goal.returns
returns c =
    kept c.reservations_stay.ensures.owners c.args.accounts.now.state c.charge.new.self.state (Charged 0 c.args.session c.args.group 1 c.from.result) c.requires.first refl c.charge.ensures.state (omega (arith, length-set {A = Numbers}, c.requires.first.exists))
