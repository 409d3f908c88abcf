use Rattle.std.proofs.Common.{[], ◌∷◌, ◌++◌, map, codes, arith}
use Rattle.json.specs.Token.{key}
use Rattle.charging_json.specs.RequestWritten.{used_data}
use Rattle.charging_json.proofs.Lists.{none_listed, some_listed, all_written}
use Rattle.charging_json.proofs.request_writer.put_containers.Goals as goal

pub returns-then-is_empty-clause-ok : goal.returns-then-is_empty-clause-ok
returns-then-is_empty-clause-ok c = none_listed used_data c.args.used.now c.args.out.now.tokens (codes "usedUnitContainer") c.if-is_empty.ensures

pub returns-clause-ok : goal.returns-clause-ok
returns-clause-ok c =
    let ts = c.args.out.now.tokens in
    let items = c.args.used.now in
    some_listed c.end_list.result used_data items ts c.end_list.new.self.tokens (codes "usedUnitContainer") c.if-is_empty.ensures (c.end_list.ensures.ok (ts ++ key (codes "usedUnitContainer") ∷ []) (map used_data items)
    (all_written used_data items c.loop-container.container-index ts c.name.new.self.tokens c.begin_list.new.self.tokens c.loop-container.out.tokens (codes "usedUnitContainer") (omega arith) c.in_ok-name.ensures.ok c.in_ok-begin_list.ensures.ok c.loop-container.invariant.tokens))
