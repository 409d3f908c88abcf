use Rattle.std.proofs.Common.{◌≡◌, ◌+◌, ◌-◌, ◌≤◌, ◌++◌, ◌∷◌, [], List, length, take, drop, reverse, sym, ap, ◌∙◌, arith}
use Rattle.std.specs.Prelude.{vec_len}
use Rattle.std.proofs.lemmas.List.{take-take}
use Rattle.notices.specs.declared.notice.Notice.{Notice}
use Rattle.notices.proofs.Merged.{moved_one, back_one}
use Rattle.notices.proofs.merging.move_from.Goals as goal

pub loop-notices-preserved-in-Some : goal.loop-notices-preserved-in-Some
loop-notices-preserved-in-Some c =
    let all = c.args.notices.now.items in
    let inv = c.loop-notices.invariant in
    let m = vec_len c.loop-notices.notices in
    let n = vec_len c.pop.new.self in
    let less : n + 1 ≡ m = c.in-Some.ensures.len in
    let whole : m ≤ length all = omega (arith, inv.upto, c.args.notices.now.ok.0) in
    let last : c.loop-notices.notices.items ≡ c.pop.new.self.items ++ c.in-Some.notice ∷ [] = c.in-Some.ensures.items in
    let e : m - 1 ≡ n = omega arith in
    let back = back_one all c.pop.new.self.items c.in-Some.notice m n less whole (sym inv.kept ∙ last) (omega (arith, c.pop.new.self.ok.0)) in
    let test = c.loop-notices-test.true in
    record {
      from = omega (arith, less, test, c.len.ensures);
      upto = omega (arith, less, inv.upto);
      kept = c.pop.ensures.rest ∙ ap (take (m - 1)) inv.kept ∙ take-take (m - 1) m all (omega arith) ∙ ap (λ k. take k all) e;
      moved =
          c.push_reserved.ensures.items ∙ ap (λ (ns : List Notice). ns ++ c.in-Some.notice ∷ []) inv.moved
          ∙ moved_one c.args.into.now.items (drop m all) c.in-Some.notice
          ∙ ap (λ (ns : List Notice). c.args.into.now.items ++ reverse ns) (sym back);
      room = omega (arith, less, inv.room, test, c.len.ensures, c.push_reserved.ensures.len, c.push_reserved.ensures.capacity);
      capacity = c.push_reserved.ensures.capacity ∙ inv.capacity;
    }
