use Rattle.std.proofs.Common.{◌≡◌, ◌<◌, ◌∙◌, false, length, take, arith, sym, subst}
use Rattle.wire.specs.Front.{is_cut}
use Rattle.wire.specs.Starts.{IsOpen}
use Rattle.wire.proofs.Deciding.{cut_is_bad, hopeless_is_bad}
use Rattle.wire.proofs.Following.{ends_later, feeds_before, in_field}
use Rattle.wire.proofs.Fronts.{front_short, open_is_short, short_is_open}
use Rattle.wire.proofs.framed.look_at.Goals as goal

pub returns-then-goes_on : goal.returns-then-goes_on
returns-then-goes_on g c =
    let bytes = c.args.bytes.now in
    let had = take c.args.had bytes in
    let ends = c.follow-line.ensures in
    let known = c.goes_on.ensures.known c.if-goes_on.true in
    let field = in_field c.args.had bytes c.follow-line.result ends known in
    let some : 0 < c.args.had = omega (arith, field.1, field.2.some) in
    let short_had = open_is_short had (c.requires.short some) in
    let feeds = feeds_before c.args.had bytes c.follow-line.result ends known in
    let cut : is_cut bytes ≡ false = short_is_open bytes (omega (arith, c.if-bytes-lt-MOST_BYTES.true)) (omega (arith, feeds, short_had.lines)) in
    let open_had = subst (IsOpen g.M.Framed.is_at g.M.Framed.is_hopeless) (front_short had short_had) (c.requires.known some) in
    let open_now = c.goes_on.ensures.exact c.if-goes_on.true open_had in (
      subst (IsOpen g.M.Framed.is_at g.M.Framed.is_hopeless) (sym (front_short bytes (open_is_short bytes cut))) open_now,
      cut,
      ends_later c.args.had (length bytes) bytes c.follow-line.result c.requires.within ends,
    )

pub returns-in-Hopeless : goal.returns-in-Hopeless
returns-in-Hopeless g c = (hopeless_is_bad g.M.Framed.is_at g.M.Framed.is_hopeless g.M.Framed.are_parts c.args.bytes.now c.in-Hopeless.ensures.0 c.in-Hopeless.ensures.1, tt)

pub returns-then-is_front_cut : goal.returns-then-is_front_cut
returns-then-is_front_cut g c =
    (cut_is_bad g.M.Framed.is_at g.M.Framed.is_hopeless g.M.Framed.are_parts c.args.bytes.now c.in-Open.ensures.0 c.in-Open.ensures.1 (sym c.is_front_cut.ensures ∙ c.if-is_front_cut.true), tt)
