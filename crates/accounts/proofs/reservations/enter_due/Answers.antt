use Rattle.std.proofs.Common.{◌≡◌, Contains, sym, subst, ◌∙◌}
use Rattle.std.proofs.lemmas.List.Sorted.{Contains-permutation}
use Rattle.accounts.specs.Indexes.{due_at}
use Rattle.accounts.proofs.Indexed.{contains_head, contains_later}
use Rattle.accounts.proofs.reservations.enter_due.Goals as goal

pub returns-in-Some-clause-added : goal.returns-in-Some-clause-added
returns-in-Some-clause-added c = λ d e.
    let says = sym c.in-Some.is ∙ e in
    let some : c.in-Some.deadline ≡ d = cc in
    let same : c.seconds.result ≡ d = c.seconds.ensures.value ∙ some in
    subst (λ x. Contains c.push.new.self.dues (due_at x c.args.key.now.session c.args.key.now.group)) same (Contains-permutation _ _ _ c.push.ensures.more (contains_head _ _))

pub returns-in-Some-clause-kept : goal.returns-in-Some-clause-kept
returns-in-Some-clause-kept c = λ d there. Contains-permutation _ _ _ c.push.ensures.more (contains_later _ d _ there)
