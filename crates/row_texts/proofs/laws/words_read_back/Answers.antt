use Rattle.std.proofs.Common.{arith}
use Rattle.row_texts.proofs.BeforeSpace.{first_back, number_word_is, rest_back}
use Rattle.row_texts.proofs.laws.words_read_back.Goals as goal

pub returns : goal.returns
returns c = record { first = first_back; rest = rest_back; number = λ n fits. number_word_is n (omega arith) }
