use Rattle.std.proofs.Common.{◌≡◌, ◌≤◌, ◌+◌, ◌-◌, ◌++◌, ◌∙◌, sym, ap, take, drop, length, vec_capacity, arith}
use Rattle.smf_model.specs.GivenUps.{given_up_of}
use Rattle.smf_core.specs.Caches.{first_given_up, given_up_count}
use Rattle.smf_core.proofs.Told.{told_anew, told_spare}
use Rattle.smf_core.proofs.giving.retell.Goals as goal

pub tell_from-requires : goal.tell_from-requires
tell_from-requires c =
    let all = c.args.all.now.holdings in
    let given = c.args.given.now.items in
    let places = c.args.places.now in
    let moved = c.args.moved.now in
    let since = c.first_given_up-since.result in
    let first : since ≡ first_given_up places moved (length all) = c.first_given_up-since.ensures ∙ ap (first_given_up places moved) c.len.ensures in
    let fits : length given + given_up_count moved ≤ vec_capacity c.args.given.now = omega (arith, c.requires.spare, c.args.given.now.ok.0) in
    let spare = told_spare places all moved given c.untell.new.given.items since (vec_capacity c.args.given.now) c.requires.places c.requires.enough c.requires.told first c.untell.ensures.items fits in
    omega (arith, spare, c.untell.new.given.ok.0, c.untell.ensures.capacity, ap (λ xs. length (given_up_of (drop since xs))) c.put_all.ensures)

pub returns-clause-given : goal.returns-clause-given
returns-clause-given c =
    let all = c.args.all.now.holdings in
    let given = c.args.given.now.items in
    let places = c.args.places.now in
    let moved = c.args.moved.now in
    let since = c.first_given_up-since.result in
    let first : since ≡ first_given_up places moved (length all) = c.first_given_up-since.ensures ∙ ap (first_given_up places moved) c.len.ensures in
    c.tell_from.ensures
    ∙ ap (λ gs. gs ++ given_up_of (drop since c.put_all.new.all.holdings)) c.untell.ensures.items
    ∙ ap (λ xs. take (length given - given_up_count (drop since all)) given ++ given_up_of (drop since xs)) c.put_all.ensures
    ∙ told_anew places all moved given since c.requires.places c.requires.enough c.requires.told first
    ∙ ap given_up_of (sym c.put_all.ensures)
