use Rattle.std.proofs.Common.{◌≡◌, ◌+◌, ◌∙◌, ap, arith, sym, take, drop}
use Rattle.std.proofs.lemmas.List.{take-append-drop}
use Rattle.wire.specs.Front.{line_feeds}
use Rattle.wire.proofs.Fronts.{line_feeds-append}
use Rattle.wire.proofs.front.count_lines.Goals as goal

pub returns : goal.returns
returns c =
    let b = c.args.bytes.now in
    let n = c.min.result in
    let whole : line_feeds b ≡ line_feeds (take n b) + line_feeds (drop n b) = ap line_feeds (sym (take-append-drop n b)) ∙ line_feeds-append (take n b) (drop n b) in
    let near : line_feeds c.split_at.result.0.now ≡ line_feeds (take n b) = ap line_feeds c.split_at.ensures.front in
    let far : line_feeds c.split_at.result.1.now ≡ line_feeds (drop n b) = ap line_feeds c.split_at.ensures.back in
    omega (arith, whole, near, far, c.from.ensures, c.count_few.ensures, c.count_many-count.ensures)
