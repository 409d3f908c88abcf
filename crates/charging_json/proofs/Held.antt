-- What holds of an answer holds of what is given.
use Rattle.std.proofs.Common.{Result, IfOk, inl, inr, sym, subst}
use Rattle.units.specs.Answers.{IsOrNoMemory}

pub holds : {A E : Type 0} (P : A → Type 0) (no_memory : E) (result told : Result A E) → IsOrNoMemory no_memory result told → IfOk told P → IfOk result P
holds P no_memory result told (inl e) h = subst (λ r. IfOk r P) (sym e) h
holds P no_memory result told (inr e) h = subst (λ r. IfOk r P) (sym e) tt
