use Rattle.std.proofs.Common.{◌≡◌, ◌∷◌, ◌∙◌, Ok, Some, true, false, ap, sym, rules}
use Rattle.csv.specs.Reading.{reader_state, source_of}
use Rattle.charging.specs.Items.{row_item}
use Rattle.charging.specs.Taking.{bytes_left, rows_left}
use Rattle.charging.proofs.Left.{left_here, none_left, some_left, stands_here}
use Rattle.charging.proofs.row_items.RowItemsItems.take.Goals as goal

pub returns-in_ok-row_item-clause-taken : goal.returns-in_ok-row_item-clause-taken
returns-in_ok-row_item-clause-taken c =
    let state = reader_state c.args.self.now.reader in
    let left = bytes_left (source_of (λ s. Some s.now) c.args.self.now.reader) in
    let more : c.next_row.result ≡ Ok true = search rules in
    let read = c.next_row.ensures.more state left c.requires more in
    some_left state left read.0 read.1
    ∙ ap (λ k. k ∷ rows_left read.0.1 read.0.2) (ap row_item (sym read.2) ∙ sym c.in_ok-row_item.ensures)
    ∙ ap (λ k. c.in_ok-row_item.field-0 ∷ k) (sym (left_here c.next_row.new.reader read.0.1 read.0.2 read.3))

pub returns-in_ok-row_item-clause-sound : goal.returns-in_ok-row_item-clause-sound
returns-in_ok-row_item-clause-sound c =
    let state = reader_state c.args.self.now.reader in
    let left = bytes_left (source_of (λ s. Some s.now) c.args.self.now.reader) in
    let more : c.next_row.result ≡ Ok true = search rules in
    let read = c.next_row.ensures.more state left c.requires more in
    stands_here c.next_row.new.reader read.0.1 read.0.2 read.3

pub returns-else-branch-clause-taken : goal.returns-else-branch-clause-taken
returns-else-branch-clause-taken c =
    let state = reader_state c.args.self.now.reader in
    let left = bytes_left (source_of (λ s. Some s.now) c.args.self.now.reader) in
    let none : c.next_row.result ≡ Ok false = search rules in
    none_left state left (c.next_row.ensures.end state left c.requires none)
