use Rattle.std.proofs.Common.{◌≡◌, List, ℕ, Some, sym, ◌∙◌, ap, subst, IsTrue, rules}
use Rattle.edge.specs.Stored.{Stored, IsImageOf, synced}
use Rattle.edge.proofs.Writes.{synced_only}
use Rattle.edge.proofs.memory_disk.MemDiskDisk.sync.Goals as goal

pub returns-clause-durable : goal.returns-clause-durable
returns-clause-durable c = λ b im.
    let goes : IsTrue c.passes.result = search rules in
    let s = c.args.self.now.store in
    let now : c.sync.new.self ≡ synced c.args.self.now.store = c.sync.ensures ∙ ap (λ (t : Stored). synced t) (c.passes.ensures.passed.same goes).0 in
    ap (λ (l : List ℕ). Some l) (sym (synced_only s.bytes s.size b (subst (λ (t : Stored). IsImageOf t b) now im)))
