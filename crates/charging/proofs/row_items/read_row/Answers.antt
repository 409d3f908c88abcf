use Rattle.std.proofs.Common.{◌≡◌, ap, sym, rules, true, false, Ok}
use Rattle.csv.specs.Reading.{strip_bom}
use Rattle.csv.specs.declared.parser.State.TheVariants as st
use Rattle.charging.specs.Items.{only_row}
use Rattle.charging.proofs.OneRow.{no_row, one_row, two_rows}
use Rattle.charging.proofs.row_items.read_row.Goals as goal

pub returns-then-not-branch : goal.returns-then-not-branch
returns-then-not-branch c =
    let none : c.next_row.result ≡ Ok false = search rules in
    sym (ap only_row (no_row c.args.line.now (c.next_row.ensures.end st.StartRecord (strip_bom c.args.line.now) c.rows_of-reader.ensures none)))

pub returns-then-branch : goal.returns-then-branch
returns-then-branch c =
    let some : c.next_row.result ≡ Ok true = search rules in
    let more : c.next_row-2.result ≡ Ok true = search rules in
    let read = c.next_row.ensures.more st.StartRecord (strip_bom c.args.line.now) c.rows_of-reader.ensures some in
    let other = c.next_row-2.ensures.more read.0.1 read.0.2 read.3 more in
    sym (two_rows c.args.line.now read.0 other.0 read.1 other.1)

pub returns : goal.returns
returns c =
    let some : c.next_row.result ≡ Ok true = search rules in
    let none : c.next_row-2.result ≡ Ok false = search rules in
    let read = c.next_row.ensures.more st.StartRecord (strip_bom c.args.line.now) c.rows_of-reader.ensures some in
    let last = c.next_row-2.ensures.end read.0.1 read.0.2 read.3 none in
    rw (one_row c.args.line.now read.0 read.1 last, sym read.2) c.row_item.ensures
