use Rattle.std.proofs.Common.{◌≡◌, drop, arith, length-drop}
use Rattle.std.proofs.lemmas.List.{drop-set}
use Rattle.edge.proofs.EpochDigits.{first_digit}
use Rattle.edge.proofs.epoch_text.EpochText.new.Goals as goal

pub returns-then-from : goal.returns-then-from
returns-then-from c =
    first_digit (drop c.put_digits-from.result c.put_digits-from.new.text) c.args.epoch
    (omega (arith, c.put_digits-from.auto.text, c.if-from.true, length-drop c.put_digits-from.result c.put_digits-from.new.text)) c.put_digits-from.ensures.text

pub returns : goal.returns
returns c =
    let at : c.put_digits-from.result ≡ 20 = omega arith in
    let zero = drop-set c.put_digits-from.new.text 19 48 (omega (arith, c.put_digits-from.auto.text)) in
    rw zero (rw at at c.put_digits-from.ensures.text)
