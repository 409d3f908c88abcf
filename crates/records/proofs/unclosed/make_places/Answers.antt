use Rattle.std.proofs.Common.{◌<◌, length, ◌∙◌, ℕ, sym, ap, subst, arith}
use Rattle.records.proofs.Places.{found, found_none, place_within, usage-set_same, grown, fits-at, fits-absent, on_ok}
use Rattle.records.proofs.unclosed.make_places.Goals as goal

pub index_mut-requires : goal.index_mut-requires
index_mut-requires c = subst (λ (n : ℕ). c.in-Some.at < n) (sym (ap length c.deref.ensures.value) ∙ c.deref.ensures.len) (place_within _ _ _ (found _ _ _ _ _ c.deref.ensures.value c.place.ensures c.in-Some.is))

pub returns-in-Some-clause-kept : goal.returns-in-Some-clause-kept
returns-in-Some-clause-kept c =
    usage-set_same _ _ _ c.make_room.new.self (place_within _ _ _ (found _ _ _ _ _ c.deref.ensures.value c.place.ensures c.in-Some.is)) c.index_mut.ensures.value c.make_room.ensures.group c.make_room.ensures.used

pub returns-in-Some-clause-grown : goal.returns-in-Some-clause-grown
returns-in-Some-clause-grown c = λ e h.
    grown _ _ _ _ c.make_room.new.self e (found _ _ _ _ _ c.deref.ensures.value c.place.ensures c.in-Some.is) c.index_mut.ensures.value c.make_room.ensures.group c.make_room.ensures.kept h

pub returns-in-Some-clause-places : goal.returns-in-Some-clause-places
returns-in-Some-clause-places c =
    on_ok c.make_room.result (λ more e same few. fits-at _ _ _ _ c.make_room.new.self e (found _ _ _ _ _ c.deref.ensures.value c.place.ensures c.in-Some.is) c.index_mut.ensures.value c.make_room.ensures.group same (omega arith)) c.make_room.ensures.room

pub returns-in-None-clause-places : goal.returns-in-None-clause-places
returns-in-None-clause-places c = λ e same few. fits-absent _ _ e (found_none _ _ _ _ c.deref.ensures.value c.place.ensures c.in-None.is) same
