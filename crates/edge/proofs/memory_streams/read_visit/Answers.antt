use Rattle.std.proofs.Common.{rules, ◌∙◌, ap, drop, take}
use Rattle.edge.proofs.FromMemory.{read_of_memory}
use Rattle.edge.proofs.Visited.{read_more}
use Rattle.edge.proofs.memory_streams.read_visit.Goals as goal

pub returns-clause-read : goal.returns-clause-read
returns-clause-read c = λ all. read_more all c.args.visit.now c.copy_front-count.result _ (c.copy_front-count.ensures.bytes ∙ ap (λ xs. take c.copy_front-count.result xs) (c.split_at.ensures.back ∙ ap (λ xs. drop c.args.visit.now.at xs) c.as_slice.ensures)) (search rules)

pub returns-clause-consumes : goal.returns-clause-consumes
returns-clause-consumes c = (read_of_memory c.args.visit.now.bytes c.split_at.result.1.now c.copy_front-count.new.into c.args.visit.now.at _ _ (c.split_at.ensures.back ∙ ap (λ xs. drop c.args.visit.now.at xs) c.as_slice.ensures) c.copy_front-count.ensures.count (search rules) c.copy_front-count.ensures.bytes).0

pub returns-clause-end : goal.returns-clause-end
returns-clause-end c = (read_of_memory c.args.visit.now.bytes c.split_at.result.1.now c.copy_front-count.new.into c.args.visit.now.at _ _ (c.split_at.ensures.back ∙ ap (λ xs. drop c.args.visit.now.at xs) c.as_slice.ensures) c.copy_front-count.ensures.count (search rules) c.copy_front-count.ensures.bytes).1
