use Rattle.std.proofs.Common.{◌≡◌, ◌==◌, ◌+◌, cond, is_some, ap, subst, ◌∙◌}
use Rattle.std.specs.HashMap.{hash_map_len}
use Rattle.std.specs.Prelude.{if◌then◌else◌}
use Rattle.std.specs.Option.{option_flatten}
use Rattle.accounts.specs.Chains.{first_of, next_of}
use Rattle.accounts.proofs.Chained.{unlink_chained, latest_linked}
use Rattle.accounts.proofs.groups.Groups.unlink.Goals as goal

pub returns-clause-chained : goal.returns-clause-chained
returns-clause-chained c =
    unlink_chained (first_of c.args.self.now) _ (next_of c.args.self.now) _ c.args.session c.args.group c.requires.chained c.requires.latest
    (λ u. c.replace.ensures.value u ∙ ap (λ w. cond (c.args.session == u) w (first_of c.args.self.now u)) (c.flatten-after.ensures ∙ ap option_flatten c.remove.ensures.value)) c.remove.ensures.updates.0

pub returns-clause-len : goal.returns-clause-len
returns-clause-len c =
    let linked = latest_linked (first_of c.args.self.now) (next_of c.args.self.now) c.args.session c.args.group c.requires.chained c.requires.latest in
    subst (λ b. hash_map_len c.remove.new.self + (if b then 1 else 0) ≡ hash_map_len c.args.self.now.next) (ap is_some c.remove.ensures.value ∙ linked) c.remove.ensures.len
