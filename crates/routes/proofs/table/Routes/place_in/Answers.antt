use Rattle.std.proofs.Common.{◌≡◌, ℕ, ◌<◌, Some, sym, ap, ◌∙◌, slice_index}
use Rattle.routes.specs.Table.{place_by, route_in}
use Rattle.routes.proofs.Literal.{is_text}
use Rattle.routes.proofs.Places.{routed, routed_is_place}
use Rattle.routes.proofs.table.Routes.place_in.Goals as goal

pub returns-in-Some : goal.returns-in-Some
returns-in-Some c =
    let bytes : (k : ℕ) → slice_index c.args.path.now k < 256 = λ k. (c.type_inv.path k).fits in
    let found : Some c.in-Some.route ≡ route_in c.args.path.now = sym c.in-Some.is ∙ c.route_in.ensures in
    let is : Some c.place_by.result ≡ routed c.args.path.now (Some c.in-Some.route) = ap Some (c.place_by.ensures ∙ ap (place_by c.in-Some.route) c.as_bytes.ensures.value) in
    is ∙ ap (routed c.args.path.now) found ∙ routed_is_place c.args.path.now (is_text c.args.path.now bytes)

pub returns-in-None : goal.returns-in-None
returns-in-None c =
    let bytes : (k : ℕ) → slice_index c.args.path.now k < 256 = λ k. (c.type_inv.path k).fits in
    ap (routed c.args.path.now) (sym c.in-None.is ∙ c.route_in.ensures) ∙ routed_is_place c.args.path.now (is_text c.args.path.now bytes)
