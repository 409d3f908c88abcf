use Rattle.std.proofs.Common.{[], ◌∷◌, ◌++◌, map, codes, arith}
use Rattle.json.specs.Token.{key}
use Rattle.charging_json.specs.ReplyWritten.{info_data}
use Rattle.charging_json.proofs.Lists.{none_listed, some_listed, all_written}
use Rattle.charging_json.proofs.reply_writer.put_infos.Goals as goal

pub returns-then-is_empty-clause-ok : goal.returns-then-is_empty-clause-ok
returns-then-is_empty-clause-ok c = none_listed info_data c.args.infos.now c.args.out.now.tokens (codes "multipleUnitInformation") c.if-is_empty.ensures

pub returns-clause-ok : goal.returns-clause-ok
returns-clause-ok c =
    let ts = c.args.out.now.tokens in
    let items = c.args.infos.now in
    some_listed c.end_list.result info_data items ts c.end_list.new.self.tokens (codes "multipleUnitInformation") c.if-is_empty.ensures (c.end_list.ensures.ok (ts ++ key (codes "multipleUnitInformation") ∷ []) (map info_data items)
    (all_written info_data items c.loop-info.info-index ts c.name.new.self.tokens c.begin_list.new.self.tokens c.loop-info.out.tokens (codes "multipleUnitInformation") (omega arith) c.in_ok-name.ensures.ok c.in_ok-begin_list.ensures.ok c.loop-info.invariant.tokens))
