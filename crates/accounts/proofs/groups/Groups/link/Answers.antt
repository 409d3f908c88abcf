use Rattle.std.proofs.Common.{Some, cond, sym, ap, ◌∙◌}
use Rattle.accounts.specs.Reservations.{key_eq}
use Rattle.accounts.specs.Chains.{first_of, next_of}
use Rattle.accounts.proofs.Tables.{from_ok}
use Rattle.accounts.proofs.Chained.{link_chained}
use Rattle.accounts.proofs.groups.Groups.link.Goals as goal

pub returns-clause-chained : goal.returns-clause-chained
returns-clause-chained c =
    let ins = from_ok c.insert.result _ (c.insert.ensures.succeeds c.requires.next) c.insert.ensures.updates in
    let ins2 = from_ok c.insert-2.result _ (c.insert-2.ensures.succeeds c.requires.first) c.insert-2.ensures.updates in
    link_chained (first_of c.args.self.now) _ (next_of c.args.self.now) _ c.args.key.now c.requires.chained (sym c.contains_key.ensures ∙ c.if-contains_key.false) ins2.0
    (λ q. ins.0 q ∙ ap (λ w. cond (key_eq c.args.key.now q) (Some w) (next_of c.args.self.now q)) (c.copied-before.ensures ∙ c.get.ensures.value))
