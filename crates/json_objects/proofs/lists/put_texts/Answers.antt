use Rattle.std.proofs.Common.{[], ◌∷◌, ◌++◌, map, arith}
use Rattle.json.specs.Token.{key}
use Rattle.serde_json.specs.Data.{string}
use Rattle.json_objects.proofs.Listed.{none_listed, some_listed, all_written}
use Rattle.json_objects.proofs.lists.put_texts.Goals as goal

pub returns-then-is_empty-clause-ok : goal.returns-then-is_empty-clause-ok
returns-then-is_empty-clause-ok c = none_listed string c.args.texts.now c.args.out.now.tokens c.args.name.now c.if-is_empty.ensures

pub returns-clause-ok : goal.returns-clause-ok
returns-clause-ok c =
    let ts = c.args.out.now.tokens in
    let items = c.args.texts.now in
    some_listed c.end_list.result string items ts c.end_list.new.self.tokens c.args.name.now c.if-is_empty.ensures (c.end_list.ensures.ok (ts ++ key c.args.name.now ∷ []) (map string items)
    (all_written string items c.loop-text.text-index ts c.name.new.self.tokens c.begin_list.new.self.tokens c.loop-text.out.tokens c.args.name.now (omega arith) c.in_ok-name.ensures.ok c.in_ok-begin_list.ensures.ok c.loop-text.invariant.tokens))
