use Rattle.std.proofs.Common.{◌≡◌, ◌<◌, ℕ, refl, arith, length, length-set, sym, ◌∙◌, ap, rules, slice_set}
use Rattle.accounts.specs.Ledger.{State, Numbers, Contents}
use Rattle.accounts.specs.declared.moves.Move.TheVariants.{Charged, Released, Reserved, ToppedUp, Added}
use Rattle.accounts.specs.Moves.{empty_state, after}
use Rattle.benchmarks.proofs.Firsts.{kept, kept_or_same}
use Rattle.benchmarks.proofs.account_turns.reserve.Goals as goal

pub returns : goal.returns
returns c = kept_or_same c.reservations_stay.ensures.owners c.args.accounts.now c.reserve.new.self (Reserved 0 c.args.session c.args.group c.from.result c.new.result) c.reserve.result c.requires.first refl c.reserve.ensures.state c.reserve.ensures.same c.requires.first.exists
