-- The notice lines: `notice,ID,COUNTER,STATUS` for each counter of each notice that was not sent, in the order of the
-- subscriptions, the notices of one in the order in which they were made (this product's own).
use Rattle.std.specs.Prelude.{ℕ, List, ◌++◌, codes}
use Rattle.std.specs.List.{flat_map}
use Rattle.std.specs.Fmt.{decimal}
use Rattle.units.specs.declared.spending.CounterStatus.{CounterStatus}
use Rattle.notices.specs.declared.notice.Notice.{Notice}
use Rattle.chf_core.specs.State.{State}

-- `notice,ID,`
abbrev pub id_text : ℕ → List ℕ
id_text id = codes "notice," ++ (decimal id ++ codes ",")

-- the line of a counter in a notice of this subscription
abbrev pub status_line : ℕ → CounterStatus → List ℕ
status_line id info = id_text id ++ (info.counter ++ (codes "," ++ (info.status ++ codes "\n")))

-- the lines of a notice
abbrev pub lines_of : Notice → List ℕ
lines_of n = flat_map (status_line n.id) n.status.infos

-- all notice lines
abbrev pub notice_lines : State → List ℕ
notice_lines s = flat_map lines_of s.watched.unsent
