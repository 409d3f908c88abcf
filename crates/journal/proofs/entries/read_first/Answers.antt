use Rattle.std.proofs.Common.{◌≡◌, inl, inr, ◌∙◌, sym, refl, ap, take, length, arith, length-take, take_all, true≢false}
use Rattle.journal.proofs.Part.{part_read, head_there}
use Rattle.journal.proofs.entries.read_first.Goals as goal
use Rattle.journal.proofs.entries.read_first.Goals.{then-end-lt16-via-then-end-lt16, then-end-lt16-via-else-end-lt16+then-not-has_header}

pub returns-then-end-lt16-clause-refused : goal.returns-then-end-lt16-clause-refused
returns-then-end-lt16-clause-refused g c = λ b told.
    elim c.then-end-lt16.branch [
      | then-end-lt16-via-then-end-lt16 w ↦ inl (refl, λ is. omega (arith, c.requires b told, w.if-end-lt16.true, ap length is, length-take 16 b))
      | then-end-lt16-via-else-end-lt16+then-not-has_header w ↦ inl (
        refl,
        λ is.
            let r = c.in_ok-read.ensures.bytes b told in
            let read : take 16 c.read.new.into ≡ take 16 b = part_read 0 0 16 c.in_ok-read.field-0 b _ c.read.new.into r.1 (omega (arith, r.0)) (omega (arith, r.0, c.requires b told, w.if-end-lt16.false)) in
            absurd (true≢false (sym (w.has_header.ensures.1 (read ∙ is)) ∙ w.if-not-has_header.true)),
      )
    ]

pub returns-then-end-eq16-clause-refused : goal.returns-then-end-eq16-clause-refused
returns-then-end-eq16-clause-refused g c = λ b told.
    let r = c.in_ok-read.ensures.bytes b told in
    let read : take 16 c.read.new.into ≡ take 16 b = part_read 0 0 16 c.in_ok-read.field-0 b _ c.read.new.into r.1 (omega (arith, r.0)) (omega (arith, r.0, c.requires b told, c.if-end-eq16.true)) in
    inr (inl (refl, sym (take_all 16 b (omega (arith, c.requires b told, c.if-end-eq16.true))) ∙ sym read ∙ c.if-not-has_header.ensures.0 refl))

pub returns-clause-header : goal.returns-clause-header
returns-clause-header g c = λ b told.
    let r = c.in_ok-read.ensures.bytes b told in
    let read : take 16 c.read.new.into ≡ take 16 b = part_read 0 0 16 c.in_ok-read.field-0 b _ c.read.new.into r.1 (omega (arith, r.0)) (omega (arith, r.0, c.requires b told, c.if-end-lt16.false)) in
    sym read ∙ c.if-not-has_header.ensures.0 refl

pub returns-clause-head : goal.returns-clause-head
returns-clause-head g c = λ b told.
    let r = c.in_ok-read.ensures.bytes b told in
    head_there 0 16 c.in_ok-read.field-0 b _ c.read.new.into c.head_at.result r.1 r.0 refl (omega (arith, c.requires b told, c.if-end-lt16.false, c.if-end-eq16.false)) c.head_at.ensures.gate c.head_at.ensures.size
