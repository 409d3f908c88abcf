use Rattle.std.proofs.Common.{◌≡◌, ◌∙◌, None, Some, ap, sym, arith, vec_len}
use Rattle.edge.specs.Visits.{places}
use Rattle.edge.proofs.Visited.{kept}
use Rattle.edge.proofs.memory_streams.MemStreams.open.Goals as goal
use Rattle.edge.proofs.memory_streams.MemStreams.open.Goals.{in-Some-take, in_default-take}

pub invariant_of-self-2 : goal.invariant_of-self-2
invariant_of-self-2 c = elim c.match-take.branch [
  | in-Some-take w ↦ rw w.self-inside-is
      (let is : c.self.inside.present ≡ Some w.in-Some-take.present = sym c.take.ensures.value ∙ w.in-Some-take.is in
      let one : places c.self.inside.present ≡ 1 = ap places is in (
        c.self.invariant.0,
        c.self.invariant.1,
        omega (arith, c.self.invariant.2, one, w.push_reserved.ensures.len, w.push_reserved.ensures.capacity, c.in-Some.ensures.cases),
        rw w.push_reserved.ensures.items (kept (vec_len c.self.inside.held) c.self.inside.is_open c.self.inside.earlier.items w.in-Some-take.present c.self.inside.present is c.self.invariant.4 c.self.invariant.3),
        record { at = omega arith; part = omega (arith, c.len.ensures, c.len-2.ensures); last = rw w.self-inside-is at c.len-2.ensures },
      ))
  | in_default-take w ↦ rw w.self-inside-is
      (let is : c.self.inside.present ≡ None = sym c.take.ensures.value ∙ w.in_default-take.is in
      let none : places c.self.inside.present ≡ 0 = ap places is in (
        c.self.invariant.0,
        c.self.invariant.1,
        omega (arith, c.self.invariant.2, none, c.in-Some.ensures.cases),
        c.self.invariant.3,
        record { at = omega arith; part = omega (arith, c.len.ensures, c.len-2.ensures); last = rw w.self-inside-is at c.len-2.ensures },
      ))
]
