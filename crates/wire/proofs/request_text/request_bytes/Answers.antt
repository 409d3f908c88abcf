use Rattle.wire.proofs.RequestBack.{request_back}
use Rattle.wire.proofs.request_text.request_bytes.Goals as goal

pub returns-clause-text : goal.returns-clause-text
returns-clause-text c = simp (c.from_vec.ensures, c.in_ok-extend_from_slice-2.ensures.items, c.in_ok-extend_from_slice.ensures.items, c.in_ok-put_line-2.ensures, c.in_ok-put_line.ensures, c.in_ok-put_number.ensures, c.in_ok-put_request_line.ensures, c.new-out.ensures.items, c.as_bytes.ensures.value)

pub returns-clause-reads_back : goal.returns-clause-reads_back
returns-clause-reads_back c = λ fit more. request_back c.args.host.now c.args.path.now c.args.body.now c.from_vec.result more (returns-clause-text c) fit
