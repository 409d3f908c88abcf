use Rattle.std.proofs.Common.{◌≡◌, ◌+◌, ◌≤◌, ◌∙◌, ap, sym, subst, arith, length, take, drop}
use Rattle.journal.specs.Bytes.{front}
use Rattle.journal.specs.Reads.{IsHeadAt}
use Rattle.journal.proofs.Read.{all_read, front_empty, front_pushed, header_read, next_read, runs_past}
use Rattle.journal.proofs.Rooms.{quiet}
use Rattle.journal.proofs.reading.load.Goals as goal

pub loop-head-init : goal.loop-head-init
loop-head-init g c = record {
  here = omega (arith, c.in_ok-head.ensures.more);
  most = omega (arith, c.min-end.ensures);
  told = λ b told. omega (arith, c.in_ok-length.ensures.length b told, c.min-end.ensures);
  long = front_empty c.new-list.result c.new-list.ensures;
  read = λ b told. header_read b (c.in_ok-head.ensures.header b (c.in_ok-length.ensures.same ∙ told)) ∙ ap front (sym c.new-list.ensures);
  small = c.in_ok-head.ensures.small;
  head = λ b told. c.in_ok-head.ensures.head b (c.in_ok-length.ensures.same ∙ told);
  same = c.in_ok-head.ensures.same ∙ c.in_ok-length.ensures.same;
  epoch = c.in_ok-head.ensures.epoch ∙ c.in_ok-length.ensures.epoch;
  crash = λ d image. c.in_ok-length.ensures.crash d (c.in_ok-head.ensures.crash d image);
  count = omega (arith, c.in_ok-head.ensures.count, c.in_ok-length.ensures.cause.later);
  openings = c.in_ok-head.ensures.openings ∙ c.in_ok-length.ensures.openings;
  room = quiet _ _ _ _ _ _ c.in_ok-length.ensures.room c.in_ok-head.ensures.room;
}

pub overflow_add-at-in-loop-head : goal.overflow_add-at-in-loop-head
overflow_add-at-in-loop-head g c = omega (arith, c.from-size.ensures, c.loop-head.invariant.small, c.loop-head.invariant.here, c.loop-head.invariant.most)

pub returns-then-end-at-clause-refused : goal.returns-then-end-at-clause-refused
returns-then-end-at-clause-refused g c = λ b told.
    let i = c.loop-head.invariant in
    let end = i.told b told in
    runs_past b c.loop-head.list c.loop-head.at c.loop-head.head (omega (arith, end, i.here)) (omega (arith, i.here, i.most)) (i.read b told) (i.head b told) c.loop-head-test.true i.small
    (omega (arith, end, c.if-end-at.true, c.from-size.ensures))

pub loop-head-preserved : goal.loop-head-preserved
loop-head-preserved g c =
    let i = c.loop-head.invariant in
    let fits : c.loop-head.at + 6 + c.loop-head.head.size ≤ c.min-end.result = omega (arith, c.if-end-at.false, c.from-size.ensures) in
    let pushed = c.in_ok-push.ensures.ok in
    record {
      here = omega (arith, fits, c.from-size.ensures);
      most = i.most;
      told = i.told;
      long = ap (λ l. length (front l)) pushed ∙ front_pushed c.loop-head.list c.in_ok-payload.payload ∙ (omega (arith, i.long, c.in_ok-payload.ensures.all, c.from-size.ensures));
      read = λ b told.
          let size : c.loop-head.at + (5 + c.from-size.result) ≡ c.loop-head.at + (c.loop-head.head.size + 5) = omega (arith, c.from-size.ensures) in
          ap (λ n. take n b) size
          ∙ next_read b c.loop-head.list c.loop-head.at c.loop-head.head c.in_ok-payload.payload (omega (arith, fits, i.told b told)) (i.read b told) (i.head b told) c.loop-head-test.true
          (c.in_ok-payload.ensures.payload b (i.same ∙ told) (omega (arith, fits, i.told b told, c.from-size.ensures)) ∙ ap (λ n. take n (drop (c.loop-head.at + 5) b)) c.from-size.ensures)
          ∙ ap front (sym pushed);
      small = c.in_ok-payload.ensures.small;
      head = λ b told. subst (λ n. IsHeadAt b n c.in_ok-payload.next) (omega arith) (c.in_ok-payload.ensures.head b (i.same ∙ told) (omega (arith, fits, i.told b told, c.from-size.ensures)));
      same = c.in_ok-payload.ensures.same ∙ i.same;
      epoch = c.in_ok-payload.ensures.epoch ∙ i.epoch;
      crash = λ d image. i.crash d (c.in_ok-payload.ensures.crash d image);
      count = omega (arith, i.count, c.in_ok-payload.ensures.count);
      openings = c.in_ok-payload.ensures.openings ∙ i.openings;
      room = quiet _ _ _ _ _ _ i.room c.in_ok-payload.ensures.room;
    }

pub returns-in_err-payload-clause-room : goal.returns-in_err-payload-clause-room
returns-in_err-payload-clause-room g c = quiet _ _ _ _ _ _ c.loop-head.invariant.room c.read_entry.ensures.room

pub returns-in_err-push-clause-room : goal.returns-in_err-push-clause-room
returns-in_err-push-clause-room g c = quiet _ _ _ _ _ _ c.loop-head.invariant.room c.read_entry.ensures.room

pub returns-clause-list : goal.returns-clause-list
returns-clause-list g c = λ b told.
    let i = c.loop-head.invariant in
    let end = i.told b told in
    all_read b c.loop-head.list c.loop-head.at (omega (arith, end, i.here)) (omega (arith, i.here, i.most)) (i.read b told) (λ gate. c.loop-head-test.false ((i.head b told).gate ∙ gate))
