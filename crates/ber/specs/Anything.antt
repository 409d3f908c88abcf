-- The grammar that lets every element stand (this product's own).
use Rattle.std.specs.Prelude.{ℕ, true, List, Result}
use Rattle.ber.specs.declared.anything.Anything.{Anything}
use Rattle.ber.specs.declared.grammar.Step.TheVariants as steps
use Rattle.ber.specs.Element.{Element}
use Rattle.ber.specs.Grammar.{Rules}
use Rattle.ber.specs.Reading.{element_at}

-- Every tag may stand, all contents are taken, and every element is whole (this product's own).
abbrev pub anything : Rules Anything
anything = record { enter = λ s tag. steps.Into s s; takes = λ s contents. true; whole = λ s. true }

-- Its one state (this product's own).
abbrev pub one : Anything
one = record {}

-- The element at the front of the octets, and how many it takes, or the octet of the fault that is met first (X.690 8.1).
abbrev pub first_element : List ℕ → Result (Element × ℕ) ℕ
first_element bytes = element_at anything one bytes
