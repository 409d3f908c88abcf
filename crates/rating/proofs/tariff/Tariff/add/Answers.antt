use Rattle.std.proofs.Common.{List, length, length-append, ◌+◌, ◌≡◌, ◌++◌, ◌∷◌, [], max, nat_lt, true, sym, ◌∙◌, ap, subst, rules}
use Rattle.std.specs.List.{list_all, All}
use Rattle.std.specs.List.Sorted.{IsNonDecreasingBy}
use Rattle.std.proofs.lemmas.List.Elements.{All-push}
use Rattle.rating.specs.declared.period.Period.{Period}
use Rattle.rating.specs.Row.{IsSmall}
use Rattle.rating.specs.Tariff.{GroupTariff}
use Rattle.rating.specs.Grant.{top_price, unit_price}
use Rattle.rating.specs.Caches.{AreBegun}
use Rattle.rating.proofs.Begun.{begun_more, written}
use Rattle.rating.proofs.Hours.{sorted_more, top_more}
use Rattle.rating.proofs.tariff.Tariff.add.Goals as goal

pub invariant_of-self-2 : goal.invariant_of-self-2
invariant_of-self-2 c =
    let pushed : c.push.new.self ≡ c.self.inside.periods ++ c.args.period ∷ [] = search rules in
    let later : list_all (λ p. nat_lt p.hour c.args.period.hour) c.self.inside.periods ≡ true = ap (λ (t : GroupTariff). list_all (λ (p : Period). nat_lt p.hour c.args.period.hour) t.periods) c.self.view_is ∙ c.requires.later in
    let count : c.len.result ≡ length c.self.inside.periods + 1 = c.len.ensures ∙ ap length pushed ∙ length-append c.self.inside.periods (c.args.period ∷ []) in
    record {
      hours = subst (IsNonDecreasingBy (λ (p : Period). p.hour)) (sym pushed) (sorted_more c.self.inside.periods c.args.period c.self.invariant.hours later);
      small = subst (All IsSmall) (sym pushed) (All-push IsSmall c.self.inside.periods c.args.period c.self.invariant.small c.requires.small);
      top = c.higher_top-self-inside.ensures ∙ ap (λ n. max n (unit_price c.self.inside.terms.kind c.args.period)) c.self.invariant.top ∙ sym (top_more c.self.inside.terms.kind c.self.inside.periods c.args.period) ∙ ap (top_price c.self.inside.terms.kind) (sym pushed);
      begun = subst (λ (ps : List Period). AreBegun ps c.begin.new.begun) (sym pushed)
          (begun_more c.self.inside.periods c.args.period c.self.inside.begun c.begin.new.begun c.self.invariant.begun later
          (λ k. c.begin.ensures k ∙ ap (λ n. written c.self.inside.begun c.args.period.hour 24 n k) count));
    }
