use Rattle.std.proofs.Common.{sym, ◌∙◌, arith}
use Rattle.meter.specs.Caches.{contents_of}
use Rattle.meter.proofs.Groups.{place_read}
use Rattle.meter.proofs.Opens.{reads, no_last, none_open, reads_closed, reads_open}
use Rattle.meter.proofs.meter.Meter.open_container.Goals as goal

pub returns-in_err-at : goal.returns-in_err-at
returns-in_err-at c =
    let at = rw c.deref.ensures.value at c.place_of.ensures.value in
    let s = contents_of c.self.inside in
    let none = none_open s c.args.group (no_last s c.args.group c.self.inside.counts.items c.self.inside.last c.self.inside.total c.self.invariant.kept (sym at ∙ c.in_err-at.was)) in
    c.from_residual.ensures ∙ rw (← c.self.view_is) (sym none)

pub overflow_sub-place : goal.overflow_sub-place
overflow_sub-place c =
    let at = rw c.deref.ensures.value at c.place_of.ensures.value in
    let here = place_read c.args.group c.self.inside.counts.items c.in_ok-at.at c.index.result.now (sym at ∙ c.in_ok-at.was) c.index.ensures in
    (reads (contents_of c.self.inside) c.args.group c.self.inside.counts.items c.self.inside.last c.self.inside.total c.in_ok-at.at c.index.result.now c.self.invariant.kept here.0 c.index.ensures here.1).one

pub index-requires-2 : goal.index-requires-2
index-requires-2 c =
    let at = rw c.deref.ensures.value at c.place_of.ensures.value in
    let here = place_read c.args.group c.self.inside.counts.items c.in_ok-at.at c.index.result.now (sym at ∙ c.in_ok-at.was) c.index.ensures in
    let r = reads (contents_of c.self.inside) c.args.group c.self.inside.counts.items c.self.inside.last c.self.inside.total c.in_ok-at.at c.index.result.now c.self.invariant.kept here.0 c.index.ensures here.1 in
    omega (arith, r.within, c.self.invariant.closes, c.self.inside.closes.ok.0)

pub index-requires-in-None : goal.index-requires-in-None
index-requires-in-None c =
    let at = rw c.deref.ensures.value at c.place_of.ensures.value in
    let here = place_read c.args.group c.self.inside.counts.items c.in_ok-at.at c.index.result.now (sym at ∙ c.in_ok-at.was) c.index.ensures in
    let r = reads (contents_of c.self.inside) c.args.group c.self.inside.counts.items c.self.inside.last c.self.inside.total c.in_ok-at.at c.index.result.now c.self.invariant.kept here.0 c.index.ensures here.1 in
    omega (arith, r.within, c.self.inside.containers.ok.0)

pub returns-in-Some : goal.returns-in-Some
returns-in-Some c =
    let at = rw c.deref.ensures.value at c.place_of.ensures.value in
    let s = contents_of c.self.inside in
    let here = place_read c.args.group c.self.inside.counts.items c.in_ok-at.at c.index.result.now (sym at ∙ c.in_ok-at.was) c.index.ensures in
    let r = reads s c.args.group c.self.inside.counts.items c.self.inside.last c.self.inside.total c.in_ok-at.at c.index.result.now c.self.invariant.kept here.0 c.index.ensures here.1 in
    let closed = reads_closed s c.args.group c.index.result.now c.index-2.result.now c.in-Some.field-0 r c.self.invariant.closes c.index-2.ensures c.in-Some.is in
    rw (← c.self.view_is) (sym closed)

pub returns-in-None : goal.returns-in-None
returns-in-None c =
    let at = rw c.deref.ensures.value at c.place_of.ensures.value in
    let s = contents_of c.self.inside in
    let here = place_read c.args.group c.self.inside.counts.items c.in_ok-at.at c.index.result.now (sym at ∙ c.in_ok-at.was) c.index.ensures in
    let r = reads s c.args.group c.self.inside.counts.items c.self.inside.last c.self.inside.total c.in_ok-at.at c.index.result.now c.self.invariant.kept here.0 c.index.ensures here.1 in
    let is_open = reads_open s c.args.group c.index.result.now c.index-2.result.now c.index-in-None.result.now r c.self.invariant.closes c.index-2.ensures c.in-None.is c.index-in-None.ensures in
    rw (← c.self.view_is) (sym is_open)
