use Rattle.std.proofs.Common.{[], ◌∷◌, ◌++◌, codes, refl}
use Rattle.json.specs.Token.{key}
use Rattle.json_objects.specs.Tokens.{field_after}
use Rattle.charging_json.specs.RequestWritten.{span_fields}
use Rattle.charging_json.proofs.request_writer.put_span.Goals as goal

pub returns-clause-ok : goal.returns-clause-ok
unfolding field_after
returns-clause-ok c = c.end_object.ensures.ok (c.args.out.now.tokens ++ key (codes "pDUContainerInformation") ∷ []) (span_fields c.args.used.now) (rw (c.in_ok-time-2.ensures.ok, c.in_ok-time.ensures.ok, c.in_ok-begin_object.ensures.ok, c.in_ok-name.ensures.ok) refl) refl
