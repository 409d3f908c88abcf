use Rattle.std.proofs.Common.{IsUtf8, ap, subst}
use Rattle.json.specs.Print.{print}
use Rattle.json.specs.Written.{Written}
use Rattle.json_objects.proofs.BodyObjects.{object_is}
use Rattle.json_objects.proofs.ReadsBack.{text_is, reads_as}
use Rattle.json_objects.proofs.writer.ObjectWriter.into_bytes.Goals as goal

pub returns-clause-text : goal.returns-clause-text
returns-clause-text c = λ value e. text_is value c.args.self.tokens e

pub returns-clause-reads : goal.returns-clause-reads
returns-clause-reads c = λ value e can. reads_as value c.args.self.tokens (let same = c.into_inner.ensures.reads_back in cc) e can

pub returns-clause-object : goal.returns-clause-object
returns-clause-object c = λ value e can is. object_is (print c.args.self.tokens) value (subst IsUtf8 (ap (λ (w : Written). print w.tokens) c.self.view_is) c.into_inner.ensures.utf8) (reads_as value c.args.self.tokens (let same = c.into_inner.ensures.reads_back in cc) e can) is
