use Rattle.row_texts.proofs.FieldBytes.{digits_field, field_utf8, name_field}
use Rattle.row_texts.proofs.Numerals.{read_parts}
use Rattle.row_texts.proofs.Groups.{groups_once}
use Rattle.row_texts.proofs.laws.fields_have_field_bytes.Goals as goal

pub returns : goal.returns
returns c = record {
  name = name_field;
  number = λ most n text h. digits_field text (read_parts most n text h).digits;
  groups = λ text groups h. (groups_once text groups h).field;
  utf8 = field_utf8;
}
