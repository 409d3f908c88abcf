use Rattle.std.proofs.Common.{◌^◌, ◌≡◌, ◌<◌, ℕ, refl, arith, length, length-set, sym, ◌∙◌, ap, rules, slice_set}
use Rattle.accounts.specs.Ledger.{State, Numbers, Contents}
use Rattle.accounts.specs.declared.moves.Move.TheVariants.{Charged, Released, Reserved, ToppedUp, Added}
use Rattle.accounts.specs.Moves.{empty_state, after}
use Rattle.benchmarks.proofs.Firsts.{opened}
use Rattle.benchmarks.proofs.account_turns.one_account.Goals as goal

pub returns : goal.returns
returns c = opened c.reservations_stay.ensures.owners c.make_room.new.self.state c.add-account.new.self.state c.topup.new.self.state c.add-account.result (2 ^ 100) (c.in_ok-make_room.ensures.same ∙ c.new-accounts.ensures) c.add-account.ensures.state c.topup.ensures.state
