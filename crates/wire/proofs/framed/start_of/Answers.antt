use Rattle.std.proofs.Common.{◌<◌, arith, subst, sym, take}
use Rattle.wire.specs.Front.{line_feeds}
use Rattle.wire.specs.Starts.{Starts}
use Rattle.wire.specs.declared.framed.Start.TheVariants as start
use Rattle.wire.proofs.Fronts.{front_near}
use Rattle.wire.proofs.Found.{found_at_front}
use Rattle.wire.proofs.framed.start_of.Goals as goal

pub returns-in-Found : goal.returns-in-Found
returns-in-Found g c =
    found_at_front g.M.Framed.is_at g.M.Framed.are_parts c.args.bytes.now c.min.result c.in-Found.found (omega arith) c.in-Found.ensures.found (omega (arith, c.count_lines.ensures, c.if-count_lines-lt-MOST_LINES.true))

pub returns-in-Open : goal.returns-in-Open
returns-in-Open g c =
    let few : line_feeds (take c.min.result c.args.bytes.now) < 66 = omega arith in
    subst (λ near. Starts g.M.Framed.is_at g.M.Framed.is_hopeless g.M.Framed.are_parts near start.Open) (sym (front_near c.args.bytes.now c.min.result c.min.ensures few)) (c.in-Open.ensures.exact (omega arith))
