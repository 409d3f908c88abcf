use Rattle.std.proofs.lemmas.Result.{err_from_is_err_and}
use Rattle.ber.specs.Tape.{seen}
use Rattle.records.proofs.Converting.{only_ok, only_err}
use Rattle.records.proofs.reading.all.Goals as goal

pub returns-in_err-tlv-clause-only : goal.returns-in_err-tlv-clause-only
returns-in_err-tlv-clause-only c = λ r n unknown within spells.
    let p = err_from_is_err_and c.from_residual-in_err-tlv.result c.from_residual-in_err-tlv.ensures.1 in
    rw (p.1, p.2) (only_err c.in_err-tlv.field-0.0 spells.0 n (r, n, unknown) (c.in_err-tlv.ensures.only spells.0 n within spells.1 spells.2))

pub returns-clause-only : goal.returns-clause-only
returns-clause-only c = λ r n unknown within spells.
    only_ok spells.0 (seen c.in_ok-tlv.tlv) n c.in_ok-tlv.count (r, unknown) (c.in_ok-record.record, c.in_ok-record.unknown) c.in_ok-record.ensures spells.3
    (c.in_ok-tlv.ensures.only spells.0 n within spells.1 spells.2)
