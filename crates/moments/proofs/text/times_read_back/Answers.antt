use Rattle.moments.proofs.Reading.{time_reads}
use Rattle.moments.proofs.text.times_read_back.Goals as goal

pub returns : goal.returns
returns c = time_reads
