use Rattle.row_texts.proofs.Numerals.{number_once}
use Rattle.row_texts.proofs.Groups.{groups_once}
use Rattle.row_texts.proofs.laws.fields_are_spelled_once.Goals as goal

pub returns : goal.returns
returns c = record { number = number_once; groups = λ text groups h. (groups_once text groups h).written }
