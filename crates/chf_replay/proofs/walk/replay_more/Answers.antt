use Rattle.std.proofs.Common.{◌≤◌, ℕ, length, take, sym, subst}
use Rattle.chf_replay.specs.Entries.{IsAfter}
use Rattle.chf_replay.proofs.Turns.{begins, refused_if_bad, within}
use Rattle.chf_replay.proofs.walk.replay_more.Goals as goal

pub enter_from-requires-clause-within : goal.enter_from-requires-clause-within
enter_from-requires-clause-within c = subst (λ (k : ℕ). k ≤ length c.args.entries.now) (sym c.count-start.ensures) (within c.states_are_joined.ensures.parts c.args.chf.now.state c.args.entries.now c.requires.held)

pub enter_from-requires-clause-held : goal.enter_from-requires-clause-held
enter_from-requires-clause-held c = subst (λ (k : ℕ). IsAfter c.args.chf.now.state (take k c.args.entries.now)) (sym c.count-start.ensures) (begins c.states_are_joined.ensures.parts c.args.chf.now.state c.args.entries.now c.requires.held)

pub returns-clause-none : goal.returns-clause-none
returns-clause-none c = λ place bad. refused_if_bad c.enter_from.result c.entries_are_bad_at_one_place.ensures.none c.enter_from.new.chf.state c.args.entries.now place c.enter_from.ensures.ok bad
