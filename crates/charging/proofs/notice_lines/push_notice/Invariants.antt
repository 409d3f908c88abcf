use Rattle.std.proofs.Common.{◌≡◌, ◌++◌, drop}
use Rattle.std.specs.List.{flat_map}
use Rattle.charging.specs.NoticeLines.{lines_of, status_line}
use Rattle.charging.proofs.notice_lines.push_notice.Given as goal

abbrev pub invariant-loop-info : goal.invariant-loop-info
invariant-loop-info l = l.out.items ++ flat_map (status_line l.notice.id) (drop l.info-index l.info-items) ≡ l.fn.out.items ++ lines_of l.notice
