use Rattle.std.proofs.Common.{ℕ, ◌∷◌, [], List, sym, subst}
use Rattle.std.specs.List.{Contains}
use Rattle.std.proofs.lemmas.List.Elements.{Contains-push, Contains-append_left}
use Rattle.records.proofs.touched.note.Goals as goal

pub returns-then-before-now-clause-noted : goal.returns-then-before-now-clause-noted
returns-then-before-now-clause-noted c = λ rose. subst (λ (ns : List ℕ). Contains ns c.args.number) (sym c.push_reserved.ensures.items) (Contains-push c.args.touched.now.items c.args.number)

pub returns-then-before-now-clause-kept : goal.returns-then-before-now-clause-kept
returns-then-before-now-clause-kept c = λ n h. subst (λ (ns : List ℕ). Contains ns n) (sym c.push_reserved.ensures.items) (Contains-append_left c.args.touched.now.items (c.args.number ∷ []) n h)
