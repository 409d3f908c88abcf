use Rattle.std.proofs.Common.{◌≡◌, ◌+◌, ◌-◌, ◌^◌, min, take, length, sum_by}
use Rattle.row_fields.proofs.size.row_size.Given as goal

abbrev pub invariant-loop-field : goal.invariant-loop-field
invariant-loop-field l = l.size ≡ min (sum_by length (take l.field-index l.fields) + l.field-index) (2 ^ 64 - 1)
