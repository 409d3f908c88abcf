use Rattle.std.proofs.Common.{arith}
use Rattle.row_texts.proofs.Numerals.{number_back}
use Rattle.row_texts.proofs.BeforeSpace.{after_word, number_word}
use Rattle.row_texts.proofs.laws.numbers_read_back.Goals as goal

pub returns : goal.returns
returns c = record {
  field = λ most n high fits. number_back most n high (omega arith);
  before_space = λ most n text high fits. number_word most n text high (omega arith);
  after_space = λ n text fits. after_word n text (omega arith);
}
