use Rattle.std.proofs.Common.{◌<◌, length, ◌∙◌, ℕ, sym, ap, subst, refl}
use Rattle.records.proofs.Places.{found, found_none, place_within, places-at, usage-set_joined, usage-pushed, room-set_other, room-pushed_other, places_kept}
use Rattle.records.proofs.unclosed.join.Goals as goal

pub index_mut-requires : goal.index_mut-requires
index_mut-requires c = subst (λ (n : ℕ). c.in-Some.at < n) (sym (ap length c.deref.ensures.value) ∙ c.deref.ensures.len) (place_within _ _ _ (found _ _ _ _ _ c.deref.ensures.value c.place.ensures c.in-Some.is))

pub append-requires : goal.append-requires
append-requires c = places-at _ _ _ _ c.args.entry (found _ _ _ _ _ c.deref.ensures.value c.place.ensures c.in-Some.is) c.index_mut.ensures.value refl c.requires.places

pub returns-in-Some-clause-usage : goal.returns-in-Some-clause-usage
returns-in-Some-clause-usage c = usage-set_joined _ _ _ _ c.append.new.self _ (found _ _ _ _ _ c.deref.ensures.value c.place.ensures c.in-Some.is) c.index_mut.ensures.value c.append.ensures.group c.append.ensures.used

pub returns-in-Some-clause-others : goal.returns-in-Some-clause-others
returns-in-Some-clause-others c = λ es apart places.
    places_kept c.args.groups.now.items _ c.args.entry.group (λ p ne. room-set_other _ _ p _ _ c.append.new.self (found _ _ _ _ _ c.deref.ensures.value c.place.ensures c.in-Some.is) c.index_mut.ensures.value c.append.ensures.group ne) es apart places

pub returns-in-None-clause-usage : goal.returns-in-None-clause-usage
returns-in-None-clause-usage c = rw c.push_reserved.ensures.items (usage-pushed _ _ c.of.result _ (found_none _ _ _ _ c.deref.ensures.value c.place.ensures c.in-None.is) c.of.ensures.group c.of.ensures.used)

pub returns-in-None-clause-others : goal.returns-in-None-clause-others
returns-in-None-clause-others c = λ es apart places.
    rw c.push_reserved.ensures.items (places_kept c.args.groups.now.items _ c.args.entry.group (λ p ne. room-pushed_other c.args.groups.now.items p c.of.result (λ same. ne (sym same ∙ c.of.ensures.group))) es apart places)
