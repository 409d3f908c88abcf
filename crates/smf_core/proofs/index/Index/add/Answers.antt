use Rattle.std.proofs.Common.{nat_eq, ◌∙◌, ap, arith, cond, Some}
use Rattle.std.specs.HashMap.{get}
use Rattle.smf_core.specs.Index.{Indexed, place_in}
use Rattle.smf_core.proofs.Indexed.{from_ok, indexed_push}
use Rattle.smf_core.proofs.index.Index.add.Goals as goal

pub invariant_of-self : goal.invariant_of-self
invariant_of-self c =
    let put = from_ok c.insert.result _ (c.insert.ensures.succeeds (omega (arith, c.requires.room, ap (λ (s : Indexed). s.room) c.self.view_is))) c.insert.ensures.updates in
    rw c.push_reserved.ensures.items (
    indexed_push (get nat_eq c.self.inside.places) (get nat_eq c.insert.new.self) c.self.inside.numbers.items c.args.number c.self.invariant
    (ap (λ (s : Indexed). place_in s.numbers c.args.number) c.self.view_is ∙ c.requires.fresh) (λ q. put.0 q ∙ ap (λ n. cond (nat_eq c.args.number q) (Some n) (get nat_eq c.self.inside.places q)) (omega (arith, c.len.ensures, c.self.inside.numbers.ok.0))))
