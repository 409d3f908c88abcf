use Rattle.std.proofs.Common.{[], ◌∷◌, ◌++◌, map, codes, arith}
use Rattle.json.specs.Token.{key}
use Rattle.charging_json.specs.RequestWritten.{trigger_data}
use Rattle.charging_json.proofs.Lists.{none_listed, some_listed, all_written}
use Rattle.charging_json.proofs.request_writer.put_triggers.Goals as goal

pub returns-then-is_empty-clause-ok : goal.returns-then-is_empty-clause-ok
returns-then-is_empty-clause-ok c = none_listed trigger_data c.args.kinds.now c.args.out.now.tokens (codes "triggers") c.if-is_empty.ensures

pub returns-clause-ok : goal.returns-clause-ok
returns-clause-ok c =
    let ts = c.args.out.now.tokens in
    let items = c.args.kinds.now in
    some_listed c.end_list.result trigger_data items ts c.end_list.new.self.tokens (codes "triggers") c.if-is_empty.ensures (c.end_list.ensures.ok (ts ++ key (codes "triggers") ∷ []) (map trigger_data items)
    (all_written trigger_data items c.loop-kind.kind-index ts c.name.new.self.tokens c.begin_list.new.self.tokens c.loop-kind.out.tokens (codes "triggers") (omega arith) c.in_ok-name.ensures.ok c.in_ok-begin_list.ensures.ok c.loop-kind.invariant.tokens))
