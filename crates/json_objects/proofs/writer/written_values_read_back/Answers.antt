use Rattle.json_objects.proofs.ReadsBack.{read_back_laws}
use Rattle.json_objects.proofs.writer.written_values_read_back.Goals as goal

pub returns : goal.returns
returns c = read_back_laws
