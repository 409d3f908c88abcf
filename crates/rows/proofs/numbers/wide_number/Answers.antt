use Rattle.std.proofs.Common.{◌∙◌, sym, arith, ◌^◌}
use Rattle.rows.proofs.Value.{too_large, value_more}
use Rattle.rows.proofs.numbers.wide_number.Goals as goal

pub returns-in-None : goal.returns-in-None
returns-in-None c =
    let big = rw c.loop-byte.invariant.value at c.in-None.ensures in
    sym (too_large (2 ^ 128) c.args.most c.args.text.now c.loop-byte.byte-index c.loop-byte.invariant.number c.loop-byte-test.true (omega arith) big)

pub loop-byte-preserved : goal.loop-byte-preserved
loop-byte-preserved c = record {
  value = let more = value_more c.args.text.now c.loop-byte.byte-index c.loop-byte.invariant.number c.loop-byte-test.true in
      let is = rw c.loop-byte.invariant.value at c.in-Some.ensures in is.1 ∙ sym more;
  number = c.loop-byte.invariant.number;
}
