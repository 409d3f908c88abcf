use Rattle.std.proofs.Common.{arith}
use Rattle.acceptance.proofs.Numbered.{begun}
use Rattle.acceptance.proofs.record_books.octets.Goals as goal

pub named-requires : goal.named-requires
named-requires c = record {
  begun = begun 1 c.args.book.now.records.sessions c.args.record.now.session c.requires.numbered (omega (arith, c.if-record-lt1.false)) (omega (arith, c.if-record-begun.false, c.begun.ensures));
}
