-- The deadlines of reservations, the soonest first: no public clause names these.
use Rattle.std.specs.Prelude.{ℕ, List, refl}
use Rattle.std.specs.Coded.{Coded, code_by, coded×, coded_ℕ, coded_list}
use Rattle.std.specs.declared.cmp.Ordering.{Ordering}
use Rattle.std.specs.declared.cmp.Reverse.{Reverse}
use Rattle.std.specs.Ordering.{nat_cmp, ordering_then}
use Rattle.accounts.specs.declared.due.Due.{Due}

-- the dues, in the order in which they are stored, and for how many more there is a place
pub record Queue : Type 0 where
  pub dues : List Due
  pub spare : ℕ

-- how these are coded, as a model asks
abbrev pub coded_due : Coded Due
coded_due = code_by (ℕ × (ℕ × ℕ)) (coded× coded_ℕ (coded× coded_ℕ coded_ℕ)) (λ d. (d.deadline, (d.session, d.group))) (λ p. record { deadline = p.0; session = p.1.0; group = p.1.1 }) (λ _. refl)

-- the same of the queue
abbrev pub coded_queue : Coded Queue
coded_queue = code_by (List Due × ℕ) (coded× (coded_list coded_due) coded_ℕ) (λ q. (q.dues, q.spare)) (λ p. record { dues = p.0; spare = p.1 }) (λ _. refl)

-- the order of the heap: the sooner is the greater
abbrev pub due_cmp : Reverse Due → Reverse Due → Ordering
due_cmp a b = ordering_then (nat_cmp (b.0).deadline (a.0).deadline) (ordering_then (nat_cmp (b.0).session (a.0).session) (nat_cmp (b.0).group (a.0).group))
