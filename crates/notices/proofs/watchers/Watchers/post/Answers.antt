use Rattle.std.proofs.Common.{length, sym, ap, ◌∙◌}
use Rattle.notices.specs.InOrder.{all_put}
use Rattle.notices.specs.Numbers.{numbers_after}
use Rattle.notices.specs.Watched.{Kept}
use Rattle.notices.proofs.Answered.{posted_contexts, posted_accounts, posted_numbers, posted_unsent}
use Rattle.notices.proofs.Numbering.{numbers_length}
use Rattle.notices.proofs.watchers.Watchers.post.Goals as goal

pub invariant_of-self : goal.invariant_of-self
invariant_of-self c = record {
  aligned = c.self.invariant.aligned;
  numbered = ap length c.count_all.ensures ∙ numbers_length c.self.inside.numbers.items c.deref.result.now ∙ c.self.invariant.numbered;
}

pub returns-clause-posted : goal.returns-clause-posted
returns-clause-posted c =
    let w = c.args.self.now.of in
    let notices = c.args.notices.items in
    (λ i. record {
      contexts = (ap (λ (k : Kept). k.of.contexts) c.self.view_is ∙ sym (posted_contexts w notices)) i;
      accounts = (ap (λ (k : Kept). k.of.accounts) c.self.view_is ∙ sym (posted_accounts w notices)) i;
      numbers = (c.count_all.ensures ∙ (λ j. numbers_after (ap (λ (k : Kept). k.of.numbers) c.self.view_is j) (c.deref.ensures.value j)) ∙ sym (posted_numbers w notices)) i;
      unsent = (c.put_all.ensures ∙ ap (λ (k : Kept). all_put (λ n. n.id) k.of.unsent notices) c.self.view_is ∙ sym (posted_unsent w notices)) i;
    })
