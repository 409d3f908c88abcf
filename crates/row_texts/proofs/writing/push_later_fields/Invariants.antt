use Rattle.std.proofs.Common.{◌≡◌, ◌++◌, take}
use Rattle.std.specs.List.{flat_map}
use Rattle.row_texts.specs.RowTexts.{later_field}
use Rattle.row_texts.proofs.writing.push_later_fields.Given as goal

abbrev pub invariant-loop-field : goal.invariant-loop-field
invariant-loop-field l = l.out.items ≡ l.fn.out.items ++ flat_map later_field (take l.field-index l.fields)
