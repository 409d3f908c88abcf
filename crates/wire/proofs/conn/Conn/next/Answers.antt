use Rattle.std.proofs.Common.{◌∙◌, ◌+◌, false, ap, refl, rules}
use Rattle.wire.specs.Decisions.{IsReady}
use Rattle.wire.specs.Held.{Held}
use Rattle.wire.proofs.Reading.{has_read, ready_exists, refuses}
use Rattle.wire.proofs.conn.Conn.next.Goals as goal
use Rattle.wire.proofs.conn.Conn.next.Goals.{in-Ok, in-Err-take_message}

pub take_message-requires : goal.take_message-requires
take_message-requires g c = rw c.in-Ok-Message.field-0-is at c.in-Ok-Message.ensures.decided

pub returns-after-take_message-clause-read : goal.returns-after-take_message-clause-read
returns-after-take_message-clause-read g c =
    let fresh = ap (λ (h : Held). h.refused) c.self.view_is ∙ c.requires in
    let ready : IsReady g.M.Framed.is_at g.M.Framed.are_parts c.decide.new.buffer.held c.in-Ok-Message.found c.in-Ok-Message.count = rw c.in-Ok-Message.field-0-is at c.in-Ok-Message.ensures.decided in
    elim c.match-take_message.branch [
      | in-Ok w ↦ rw w.result-is (has_read g.M.Framed.is_at g.M.Framed.is_hopeless c.args.self.now _ _ _ _ false _ _ _ _ c.requires (ap (λ (h : Held). h.bytes) c.self.view_is) c.in-Ok-Message.ensures.filled refl
          (c.in-Ok-Message.found.size + c.in-Ok-Message.count, w.in-Ok.ensures.message, λ i. record { bytes = w.in-Ok.ensures.rest i; refused = fresh i }))
      | in-Err-take_message w ↦ rw w.result-is (has_read g.M.Framed.is_at g.M.Framed.is_hopeless c.args.self.now _ _ _ _ false _ _ _ _ c.requires (ap (λ (h : Held). h.bytes) c.self.view_is) c.in-Ok-Message.ensures.filled refl
          (ready_exists g.M.Framed.is_at g.M.Framed.is_hopeless g.M.Framed.are_parts c.decide.new.buffer.held c.in-Ok-Message.found c.in-Ok-Message.count ready, λ i. record { bytes = w.in-Err-take_message.ensures.same i; refused = fresh i }))
    ]

pub returns-in-Ok-Refused-clause-read : goal.returns-in-Ok-Refused-clause-read
returns-in-Ok-Refused-clause-read g c =
    let decided = rw c.in-Ok-Refused.field-0-is at c.in-Ok-Refused.ensures.decided in
    has_read g.M.Framed.is_at g.M.Framed.is_hopeless c.args.self.now _ _ _ _ false _ _ _ _ c.requires (ap (λ (h : Held). h.bytes) c.self.view_is) c.in-Ok-Refused.ensures.filled (search rules)
    (refuses g.M.Framed.is_at g.M.Framed.is_hopeless c.decide.new.buffer.held _ _ c.in-Ok-Refused.refusal decided.0 decided.1 refl)
