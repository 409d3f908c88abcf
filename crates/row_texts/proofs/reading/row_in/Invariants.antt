use Rattle.std.proofs.Common.{◌≡◌, ◌++◌, length}
use Rattle.std.specs.List.{list_all}
use Rattle.std.specs.Str.{is_utf8}
use Rattle.rows.specs.Pieces.{pieces}
use Rattle.row_texts.proofs.reading.row_in.Given as goal

abbrev pub invariant-loop-fields : goal.invariant-loop-fields
invariant-loop-fields l = record {
  taken : pieces 44 l.fn.line ≡ l.fields ++ pieces 44 l.rest;
  utf8 : list_all is_utf8 (pieces 44 l.fn.line) ≡ list_all is_utf8 (pieces 44 l.rest);
}

abbrev pub decreases-loop-fields : goal.decreases-loop-fields
decreases-loop-fields l = length l.rest
