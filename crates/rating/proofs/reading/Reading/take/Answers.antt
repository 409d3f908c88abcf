use Rattle.std.proofs.Common.{◌≡◌, ◌++◌, ◌∷◌, nat_eq, [], ◌∙◌, sym, ap, subst, rules, arith, Ok, true, leb-true}
use Rattle.std.specs.HashMap.{get}
use Rattle.rating.specs.Row.{IsInRange}
use Rattle.rating.proofs.Taken.{read_group, read_price}
use Rattle.rating.proofs.reading.Reading.take.Goals as goal
use Rattle.rating.proofs.reading.Reading.take.Goals.{in-Group+then-groups-le1000+in_ok-taken-in-Group, in-Group+else-groups-le1000, in-Price+in_ok-taken-in-Price}

pub invariant_of-result : goal.invariant_of-result
invariant_of-result c =
    let pushed : c.push.new.self ≡ c.self.inside.rows ++ c.match-row.row ∷ [] = search rules in
    let taken : c.match-row.taken ≡ true = c.if-not-taken.false in
    elim c.match-row.branch [
      | in-Group+then-groups-le1000+in_ok-taken-in-Group w ↦
          let is_taken = sym w.taken-is ∙ taken in
          let groups = w.groups-is in
          read_group c.self.inside _ w.in-Group.group w.in-Group.terms c.self.invariant (pushed ∙ ap (λ r. c.self.inside.rows ++ r ∷ []) w.row-is) groups (omega (arith, groups, w.if-groups-le1000.true))
          (sym w.in_ok-taken-in-Group.ensures.taken ∙ is_taken)
          (λ q. ap (λ t. get nat_eq t q) w.table-is ∙ w.take_group.ensures.table (w.in_ok-taken-in-Group.was ∙ ap Ok is_taken) q)
      | in-Group+else-groups-le1000 w ↦ absurd (let l = leb-true _ _ (sym w.taken-is ∙ taken) in omega (arith, l, w.if-groups-le1000.false))
      | in-Price+in_ok-taken-in-Price w ↦
          let is_taken = sym w.taken-is ∙ taken in
          let small = subst IsInRange w.in-Price.is c.requires in
          read_price c.self.inside _ w.in-Price.group w.in-Price.period c.self.invariant small (pushed ∙ ap (λ r. c.self.inside.rows ++ r ∷ []) w.row-is) w.groups-is
          (sym w.in_ok-taken-in-Price.ensures.taken ∙ is_taken)
          (λ q. ap (λ t. get nat_eq t q) w.table-is ∙ w.take_price.ensures.table (w.in_ok-taken-in-Price.was ∙ ap Ok is_taken) q)
    ]
