use Rattle.std.proofs.Common.{[], ◌∷◌, ◌++◌, refl}
use Rattle.json.specs.Token.{key}
use Rattle.json_objects.specs.Tokens.{field_after}
use Rattle.spend_json.specs.StatusWritten.{info_fields}
use Rattle.spend_json.proofs.status_writer.put_info.Goals as goal

pub returns-clause-ok : goal.returns-clause-ok
unfolding field_after
returns-clause-ok c = c.end_object.ensures.ok (c.args.out.now.tokens ++ key c.args.info.now.counter ∷ []) (info_fields c.args.info.now) (rw (c.in_ok-text-2.ensures.ok, c.as_str-3.ensures, c.in_ok-text.ensures.ok, c.as_str-2.ensures, c.in_ok-begin_object.ensures.ok, c.in_ok-name.ensures.ok, c.as_str.ensures) refl) refl
