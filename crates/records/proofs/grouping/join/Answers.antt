use Rattle.std.proofs.Common.{◌<◌, ◌++◌, ◌∷◌, ◌∙◌, [], ℕ, List, length, sym, ap, subst}
use Rattle.units.specs.declared.request.Used.{Used}
use Rattle.records.specs.Usage.{unit_usage}
use Rattle.records.proofs.Grouped.{found_within, set_found, pushed_new, on_ok}
use Rattle.records.proofs.grouping.join.Goals as goal

pub index_mut-requires : goal.index_mut-requires
index_mut-requires c = subst (λ (n : ℕ). c.in-Some.at < n) (sym (ap length c.deref.ensures.value) ∙ c.deref.ensures.len) (found_within _ _ _ _ _ c.deref.ensures.value c.place.ensures c.in-Some.is)

pub returns-in-Some : goal.returns-in-Some
returns-in-Some c =
    let old = c.index_mut.result.now in
    on_ok c.grow.result (λ e. set_found _ _ _ _ _ _ c.grow.new.entry _ c.deref.ensures.value c.place.ensures c.in-Some.is c.index_mut.ensures.value (e ∙ ap (λ (us : List Used). unit_usage old.group (old.used ++ us)) c.as_slice.ensures)) c.grow.ensures

pub returns-in_ok-push-in-None : goal.returns-in_ok-push-in-None
returns-in_ok-push-in-None c =
    c.in_ok-push-in-None.ensures.items ∙ ap (λ (us : List Used). c.args.entries.now.items ++ unit_usage c.args.entry.now.group us ∷ []) c.in_ok-copy-in-None.ensures
    ∙ pushed_new _ _ _ _ _ c.deref.ensures.value c.place.ensures c.in-None.is
