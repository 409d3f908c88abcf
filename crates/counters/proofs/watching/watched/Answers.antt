use Rattle.std.proofs.Common.{◌≡◌, ◌∙◌, ◌==◌, ◌||◌, ℕ, Bool, true, false, List, length, get_or, refl, ap, subst, arith}
use Rattle.std.proofs.lemmas.List.{get_or-replicate, length-replicate, length-set}
use Rattle.counters.specs.Names.{IsThere, IsGap}
use Rattle.counters.proofs.Marks.{marked, unmarked}
use Rattle.counters.proofs.watching.watched.Goals as goal
use Rattle.counters.proofs.watching.watched.Goals.{in-Ok, in_default}

or_no : (a : Bool) → a ≡ (a || false)
or_no true = refl
or_no false = refl

pub loop-name-init : goal.loop-name-init
loop-name-init c = record {
  size = length-replicate {A = Bool} 100 c.is_empty-flags.result;
  marks = λ k l. get_or-replicate {A = Bool} 100 k c.is_empty-flags.result false (let few = c.requires.few in omega arith) ∙ c.is_empty-flags.ensures ∙ or_no (length c.args.named.now == 0);
}

pub loop-name-preserved : goal.loop-name-preserved
loop-name-preserved c =
    elim c.match-search.branch [
      | in-Ok w ↦
          let there : IsThere c.args.names.now c.name-item.result w.in-Ok.at = subst (λ (n : List ℕ). IsThere c.args.names.now n w.in-Ok.at) c.as_str.ensures w.in-Ok.ensures in
          record {
            size = ap (λ (fs : List Bool). length fs) w.flags-is ∙ length-set c.loop-name.flags w.in-Ok.at true ∙ c.loop-name.invariant.size;
            marks = λ k l. ap (λ (fs : List Bool). get_or fs k false) w.flags-is
                ∙ marked c.args.names.now c.args.named.now c.loop-name.flags (length c.args.named.now == 0) c.loop-name.name-index w.in-Ok.at c.name-item.result c.requires.ascending (let few = c.requires.few in let size = c.loop-name.invariant.size in omega arith) c.loop-name-test.true c.name-item.is there c.loop-name.invariant.marks k l;
          }
      | in_default w ↦
          let gap : IsGap c.args.names.now c.name-item.result w.in_default.field-0 = subst (λ (n : List ℕ). IsGap c.args.names.now n w.in_default.field-0) c.as_str.ensures w.in_default.ensures in
          record {
            size = ap (λ (fs : List Bool). length fs) w.flags-is ∙ c.loop-name.invariant.size;
            marks = λ k l. ap (λ (fs : List Bool). get_or fs k false) w.flags-is
                ∙ unmarked c.args.names.now c.args.named.now c.loop-name.flags (length c.args.named.now == 0) c.loop-name.name-index w.in_default.field-0 c.name-item.result c.loop-name-test.true c.name-item.is gap c.loop-name.invariant.marks k l;
          }
    ]
