use Rattle.std.proofs.Common.{length, take, sym, ap, arith, ◌∙◌, take_all}
use Rattle.routes.specs.Paths.{place_in}
use Rattle.routes.proofs.Names.{position_is_piece_length}
use Rattle.routes.proofs.table.Routes.place_at.Goals as goal

pub returns-in-Some : goal.returns-in-Some
returns-in-Some c =
    let before = (c.in-Some.ensures.byte (omega arith) (λ w o h. h)).0 in
    c.place_in.ensures ∙ ap place_in (before ∙ ap (λ n. take n c.args.path.now) (position_is_piece_length 63 c.args.path.now))

pub returns-in-None : goal.returns-in-None
returns-in-None c =
    let none = c.in-None.ensures.byte (omega arith) (λ w o h. h) in
    let whole = sym (position_is_piece_length 63 c.args.path.now) ∙ none in
    c.place_in-in-None.ensures ∙ ap place_in (sym (ap (λ n. take n c.args.path.now) whole ∙ take_all (length c.args.path.now) c.args.path.now (omega arith)))
