use Rattle.std.proofs.Common.{IsTrue, List, sym, subst, refl}
use Rattle.units.specs.declared.spending.CounterStatus.{CounterStatus}
use Rattle.json_objects.specs.Tokens.{do_ascend}
use Rattle.spend_json.specs.StatusWritten.{infos_fields, status_fields}
use Rattle.spend_json.proofs.status_writer.put_status.Goals as goal

pub returns-clause-ok : goal.returns-clause-ok
returns-clause-ok c = λ up.
    let there : IsTrue (do_ascend (infos_fields c.as_slice.result.now)) = subst (λ (infos : List CounterStatus). IsTrue (do_ascend (infos_fields infos))) (sym c.as_slice.ensures) up in
    c.end_object.ensures.ok c.args.out.now.tokens (status_fields c.args.status.now) (rw (c.in_ok-text.ensures.ok, c.as_str.ensures, c.in_ok-put_infos.ensures.ok there, c.as_slice.ensures, c.in_ok-begin_object.ensures.ok) refl) refl
