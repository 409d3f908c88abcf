use Rattle.std.proofs.Common.{ap, sym, ◌∙◌, ◌+◌, length}
use Rattle.std.specs.Prelude.{None}
use Rattle.std.proofs.lemmas.List.{length_push}
use Rattle.meter.specs.Caches.{contents_of}
use Rattle.meter.specs.Meter.{opened}
use Rattle.meter.proofs.Admitted.{new_is}
use Rattle.meter.proofs.Places.{places_opened}
use Rattle.meter.proofs.Earlier.{closed_opened}
use Rattle.meter.proofs.meter.Meter.open.Goals as goal

pub invariant_of-self : goal.invariant_of-self
invariant_of-self c =
    let s = contents_of c.self.inside in
    let new = rw (← c.self.view_is) at c.requires.new in
    let none = rw (← c.self.view_is) at c.requires.none in
    let few = places_opened s (opened (length s.containers + 1) c.args.report.now) c.self.invariant.groups (new_is s c.args.report.now new).place in
    record {
      kept = c.open_next.ensures.kept;
      closes = rw (c.open_next.ensures.not_closed, c.open_next.ensures.opened) (length_push c.self.inside.closes.items None ∙ ap (λ n. n + 1) c.self.invariant.closes ∙ sym (length_push c.self.inside.containers.items (opened (length s.containers + 1) c.args.report.now)));
      closed = rw (c.open_next.ensures.not_closed, c.open_next.ensures.opened) (closed_opened s c.args.report.now c.self.invariant.kept.numbered c.self.invariant.closes none c.self.invariant.closed);
      horizons = c.self.invariant.horizons;
      groups = rw c.open_next.ensures.opened few;
    }
