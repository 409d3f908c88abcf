use Rattle.std.proofs.Common.{◌≡◌, ◌++◌, drop}
use Rattle.std.specs.List.{flat_map}
use Rattle.charging.specs.NoticeLines.{lines_of, notice_lines}
use Rattle.charging.proofs.notice_lines.push_notices.Given as goal

abbrev pub invariant-loop-notice : goal.invariant-loop-notice
invariant-loop-notice l = l.out.items ++ flat_map lines_of (drop l.notice-index l.notice-items) ≡ l.fn.out.items ++ notice_lines l.chf.state
