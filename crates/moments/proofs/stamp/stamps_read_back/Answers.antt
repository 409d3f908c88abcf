use Rattle.moments.proofs.Reading.{stamp_reads}
use Rattle.moments.proofs.stamp.stamps_read_back.Goals as goal

pub returns : goal.returns
returns c = stamp_reads
