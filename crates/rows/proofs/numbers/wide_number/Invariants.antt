use Rattle.std.proofs.Common.{◌≡◌, take, true}
use Rattle.std.specs.Str.Parse.{digits_value}
use Rattle.rows.specs.Number.{is_numeral}
use Rattle.rows.proofs.numbers.wide_number.Given as goal

abbrev pub invariant-loop-byte : goal.invariant-loop-byte
invariant-loop-byte l = record {
  value : l.value ≡ digits_value 10 (take l.byte-index l.text);
  number : is_numeral l.text ≡ true;
}
