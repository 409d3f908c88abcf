use Rattle.std.proofs.Common.{List, ℕ}
use Rattle.ber.specs.Spelling.{Spells}
use Rattle.std.proofs.lemmas.Result.{IfOk-weaker}
use Rattle.records.specs.Reading.{SpellsRecord}
use Rattle.records.specs.Written.{record_element}
use Rattle.records.proofs.Admitted.{bounded_written}
use Rattle.records.proofs.ReadBack.{record_spelled}
use Rattle.records.proofs.writing.write_record.Goals as goal

pub returns-clause-spells : goal.returns-clause-spells
returns-clause-spells c = λ fits.
    IfOk-weaker c.octets.result (λ (bytes : List ℕ). Spells 16 bytes (record_element c.args.entry.now)) (λ (bytes : List ℕ). SpellsRecord bytes (c.args.entry.now, 0))
    (λ bytes h. record_spelled c.stamps_read_back.ensures c.args.entry.now bytes fits h) (c.octets.ensures.spells (bounded_written c.args.entry.now))
