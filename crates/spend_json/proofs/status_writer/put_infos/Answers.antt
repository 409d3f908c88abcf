use Rattle.std.proofs.Common.{◌≡◌, ◌∙◌, List, [], ◌∷◌, ◌++◌, codes, ap}
use Rattle.std.proofs.lemmas.List.{take_all}
use Rattle.json.specs.Token.{Token, key, begin_object}
use Rattle.units.specs.declared.spending.CounterStatus.{CounterStatus}
use Rattle.json_objects.specs.Tokens.{field_after, fields_after}
use Rattle.spend_json.specs.StatusWritten.{infos_fields}
use Rattle.spend_json.proofs.StatusWriting.{one_more}
use Rattle.spend_json.proofs.status_writer.put_infos.Goals as goal

pub loop-info-preserved : goal.loop-info-preserved
loop-info-preserved c = record {
  tokens = one_more c.begin_object.new.self.tokens c.loop-info.out.tokens c.put_info.new.out.tokens c.args.infos.now c.loop-info.info-index c.info-item.result c.loop-info-test.true c.info-item.is c.loop-info.invariant.tokens c.in_ok-put_info.ensures.ok;
  before = c.in_ok-put_info.ensures.before ∙ c.loop-info.invariant.before;
}

pub returns-clause-ok : goal.returns-clause-ok
unfolding field_after
returns-clause-ok c = λ up.
    let begun : c.begin_object.new.self.tokens ≡ (c.args.out.now.tokens ++ key (codes "statusInfos") ∷ []) ++ begin_object ∷ [] = c.in_ok-begin_object.ensures.ok ∙ ap (λ (ts : List Token). ts ++ begin_object ∷ []) c.in_ok-name.ensures.ok in
    let all : c.loop-info.out.tokens ≡ fields_after ((c.args.out.now.tokens ++ key (codes "statusInfos") ∷ []) ++ begin_object ∷ []) (infos_fields c.args.infos.now) =
    c.loop-info.invariant.tokens ∙ ap (λ (infos : List CounterStatus). fields_after c.begin_object.new.self.tokens (infos_fields infos)) (take_all c.loop-info.info-index c.args.infos.now c.loop-info-test.false)
    ∙ ap (λ (ts : List Token). fields_after ts (infos_fields c.args.infos.now)) begun in
    c.end_object.ensures.ok (c.args.out.now.tokens ++ key (codes "statusInfos") ∷ []) (infos_fields c.args.infos.now) all up
