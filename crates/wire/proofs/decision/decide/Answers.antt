use Rattle.std.proofs.Common.{◌≡◌, ◌∙◌, Ok, length, take, true, false, true≢false, ap, arith, refl, subst, sym}
use Rattle.std.proofs.lemmas.List.{take_at}
use Rattle.wire.specs.Front.{front, is_cut}
use Rattle.wire.specs.Heads.{Begins, More}
use Rattle.wire.specs.Starts.{IsFound, IsOpen}
use Rattle.wire.proofs.Deciding.{filled_more, filled_then, looked_more, open_is_more, refused_head, refused_of_bytes}
use Rattle.wire.proofs.Following.{ends_same}
use Rattle.wire.proofs.Fronts.{open_is_short}
use Rattle.wire.proofs.Taking.{took_none}
use Rattle.wire.proofs.decision.decide.Goals as goal

pub loop-found-init : goal.loop-found-init
loop-found-init g c = record {
  filled = record { took = took_none _ _ _; needed = λ decides. refl };
  within = omega arith;
  ends = tt;
  known = λ some. absurd (omega (arith, some));
  short = λ some. absurd (omega (arith, some));
  faults = refl;
  written = refl;
  openings = refl;
  failed_openings = refl;
}

pub returns-in-Ok-clause-filled : goal.returns-in-Ok-clause-filled
returns-in-Ok-clause-filled g c = filled_then g.M.Framed.is_at g.M.Framed.is_hopeless g.M.Framed.are_parts _ _ _ _ _ _ _ _ _ _ c.loop-found.invariant.filled c.with_body.ensures.filled

pub returns-in-Err-clause-decided : goal.returns-in-Err-clause-decided
returns-in-Err-clause-decided g c =
    let found : IsFound g.M.Framed.is_at g.M.Framed.are_parts (front c.loop-found.buffer.held) c.in-Found.found = subst (λ b. IsFound g.M.Framed.is_at g.M.Framed.are_parts (front b) c.in-Found.found) c.bytes.ensures c.in-Found.ensures in (
      refused_head g.M.Framed.is_at g.M.Framed.is_hopeless g.M.Framed.are_parts c.loop-found.buffer.held c.in-Found.found c.in-Err.refusal found c.in-Err.is,
      refused_of_bytes found.head.fields c.in-Err.refusal (sym found.follows ∙ c.in-Err.is),
    )

pub read-requires : goal.read-requires
read-requires g c = omega (arith, (open_is_short c.loop-found.buffer.held (ap is_cut (sym c.bytes.ensures) ∙ c.in-Open.ensures.1)).size)

pub loop-found-smaller : goal.loop-found-smaller
loop-found-smaller g c =
    let short = open_is_short c.loop-found.buffer.held (ap is_cut (sym c.bytes.ensures) ∙ c.in-Open.ensures.1) in
    let more = c.in-Ok-true.ensures.more (ap Ok c.in-Ok-true.field-0-test) in
    omega (arith, short.size, more)

pub loop-found-preserved : goal.loop-found-preserved
loop-found-preserved g c =
    let held = c.loop-found.buffer.held in
    let open_held = subst (λ b. IsOpen g.M.Framed.is_at g.M.Framed.is_hopeless (front b)) c.bytes.ensures c.in-Open.ensures.0 in
    let whole : is_cut held ≡ false = ap is_cut (sym c.bytes.ensures) ∙ c.in-Open.ensures.1 in
    let more = open_is_more g.M.Framed.is_at g.M.Framed.is_hopeless g.M.Framed.are_parts held open_held.0 open_held.1 whole in
    let same : take (length c.bytes-had.result.now) c.read.new.self.held ≡ held =
    ap (λ b. take (length c.bytes-had.result.now) b) c.in-Ok-true.ensures.took.had ∙ take_at held c.in-Ok-true.ensures.took.taken (length c.bytes-had.result.now) (sym (ap length c.bytes-had.ensures)) in
    record {
      filled = filled_more g.M.Framed.is_at g.M.Framed.is_hopeless g.M.Framed.are_parts false _ _ _ _ _ _ _ _ _ c.loop-found.invariant.filled more c.in-Ok-true.ensures.took;
      within = omega (arith, ap length c.bytes-had.ensures, c.in-Ok-true.ensures.more (ap Ok c.in-Ok-true.field-0-test));
      ends = ends_same c.bytes.result.now held _ _ c.in-Open.end c.bytes.ensures (ap length c.bytes-had.ensures) same c.in-Open.ensures.2;
      known = λ some. subst (λ b. IsOpen g.M.Framed.is_at g.M.Framed.is_hopeless (front b)) (sym same) open_held;
      short = λ some. ap is_cut same ∙ whole;
      faults = c.in-Ok-true.ensures.cause.kept ∙ c.loop-found.invariant.faults;
      written = c.in-Ok-true.ensures.written ∙ c.loop-found.invariant.written;
      openings = c.in-Ok-true.ensures.openings ∙ c.loop-found.invariant.openings;
      failed_openings = c.in-Ok-true.ensures.failed_openings ∙ c.loop-found.invariant.failed_openings;
    }

pub returns-in-Ok-false-clause-filled : goal.returns-in-Ok-false-clause-filled
returns-in-Ok-false-clause-filled g c = filled_more g.M.Framed.is_at g.M.Framed.is_hopeless g.M.Framed.are_parts false _ _ _ _ _ _ _ _ _ c.loop-found.invariant.filled (looked_more g.M.Framed.is_at g.M.Framed.is_hopeless g.M.Framed.are_parts c.loop-found.buffer.held c.bytes.result.now c.bytes.ensures c.in-Open.ensures.0 c.in-Open.ensures.1) c.in-Ok-false.ensures.took

pub returns-in-Ok-false-clause-decided : goal.returns-in-Ok-false-clause-decided
returns-in-Ok-false-clause-decided g c =
    let more = looked_more g.M.Framed.is_at g.M.Framed.is_hopeless g.M.Framed.are_parts c.loop-found.buffer.held c.bytes.result.now c.bytes.ensures c.in-Open.ensures.0 c.in-Open.ensures.1 in (
      subst (λ b. Begins g.M.Framed.is_at g.M.Framed.is_hopeless b More) (sym (c.in-Ok-false.ensures.same (λ e. absurd (true≢false (let f : c.in-Ok-false.field-0 ≡ true = cc in sym f ∙ c.in-Ok-false.field-0-test))))) more,
      c.in-Ok-false.ensures.end (ap Ok c.in-Ok-false.field-0-test),
    )

pub returns-in-Err-read-clause-filled : goal.returns-in-Err-read-clause-filled
returns-in-Err-read-clause-filled g c = filled_more g.M.Framed.is_at g.M.Framed.is_hopeless g.M.Framed.are_parts true _ _ _ _ _ _ _ _ _ c.loop-found.invariant.filled (looked_more g.M.Framed.is_at g.M.Framed.is_hopeless g.M.Framed.are_parts c.loop-found.buffer.held c.bytes.result.now c.bytes.ensures c.in-Open.ensures.0 c.in-Open.ensures.1) c.in-Err-read.ensures.took

pub returns-in-Err-read-clause-decided : goal.returns-in-Err-read-clause-decided
returns-in-Err-read-clause-decided g c =
    let more = looked_more g.M.Framed.is_at g.M.Framed.is_hopeless g.M.Framed.are_parts c.loop-found.buffer.held c.bytes.result.now c.bytes.ensures c.in-Open.ensures.0 c.in-Open.ensures.1 in
    subst (λ b. Begins g.M.Framed.is_at g.M.Framed.is_hopeless b More) (sym (c.in-Err-read.ensures.same (λ e. cc))) more
