use Rattle.std.proofs.Common.{◌∙◌, ap}
use Rattle.json.specs.Written.{Written}
use Rattle.json_objects.proofs.Items.{list_ends}
use Rattle.json_objects.proofs.writer.ObjectWriter.end_list.Goals as goal

pub returns-clause-ok : goal.returns-clause-ok
returns-clause-ok c = λ before values is.
    list_ends c.end_array.result c.self.inside.out.tokens c.end_array.new.self.tokens before values c.end_array.ensures.ok (ap (λ (w : Written). w.tokens) c.self.view_is ∙ is)
