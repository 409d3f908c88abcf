use Rattle.std.proofs.Common.{◌∙◌, ap}
use Rattle.json.specs.Written.{Written}
use Rattle.json_objects.proofs.InOrder.{object_ends}
use Rattle.json_objects.proofs.writer.ObjectWriter.end_object.Goals as goal

pub returns-clause-ok : goal.returns-clause-ok
returns-clause-ok c = λ before fields is up.
    object_ends c.end_object.result c.self.inside.out.tokens c.end_object.new.self.tokens before fields c.end_object.ensures.ok (ap (λ (w : Written). w.tokens) c.self.view_is ∙ is) up
