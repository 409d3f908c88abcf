use Rattle.std.proofs.Common.{◌∙◌, ap, take, drop}
use Rattle.wire.proofs.Deciding.{ready_parts, ready_whole}
use Rattle.wire.proofs.conn.take_message.Goals as goal

pub message-requires : goal.message-requires
message-requires g c =
    (c.requires.head.head, ready_parts g.M.Framed.is_at g.M.Framed.is_hopeless g.M.Framed.are_parts c.args.buffer.now.held _ c.args.found c.args.count c.requires (c.split_at.ensures.front ∙ ap (take c.args.found.size) c.bytes.ensures))

pub returns-clause-message : goal.returns-clause-message
returns-clause-message g c =
    let parts = ready_parts g.M.Framed.is_at g.M.Framed.is_hopeless g.M.Framed.are_parts c.args.buffer.now.held _ c.args.found c.args.count c.requires (c.split_at.ensures.front ∙ ap (take c.args.found.size) c.bytes.ensures) in
    let body = ap (take c.args.count) (c.split_at.ensures.back ∙ ap (drop c.args.found.size) c.bytes.ensures) in
    ready_whole g.M.Framed.is_at g.M.Framed.is_hopeless g.M.Framed.are_parts c.args.buffer.now.held c.args.found c.args.count c.requires c.in_ok-message.message
    (c.in_ok-message.ensures c.requires.head.head parts ∙ ap c.requires.head.head.message body)
