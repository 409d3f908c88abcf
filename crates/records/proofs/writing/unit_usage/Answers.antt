use Rattle.std.proofs.Common.{◌∙◌, ◌++◌, List, ap, sym}
use Rattle.units.specs.declared.request.Used.{Used}
use Rattle.ber.specs.Element.{constructed, more, none}
use Rattle.ber.specs.Written.{written}
use Rattle.records.specs.Written.{each, used_element, number_field}
use Rattle.records.proofs.Fronted.{fits, front}
use Rattle.records.proofs.writing.unit_usage.Goals as goal

pub close-requires : goal.close-requires
close-requires c =
    let u = c.args.usage.now in
    fits (more (number_field 0 u.group) (more (constructed 2 1 (each used_element u.used)) none)) c.args.out.now _ _ c.len-behind.ensures
    (front (number_field 0 u.group) _ _ _ c.in_ok-small.ensures
    (c.in_ok-containers_of.ensures ∙ ap (λ (us : List Used). written (constructed 2 1 (each used_element us)) ++ c.args.out.now) c.as_slice.ensures))

pub returns : goal.returns
returns c =
    let u = c.args.usage.now in
    c.in_ok-close.ensures (more (number_field 0 u.group) (more (constructed 2 1 (each used_element u.used)) none)) c.args.out.now (sym c.len-behind.ensures)
    (front (number_field 0 u.group) _ _ _ c.in_ok-small.ensures
    (c.in_ok-containers_of.ensures ∙ ap (λ (us : List Used). written (constructed 2 1 (each used_element us)) ++ c.args.out.now) c.as_slice.ensures))
