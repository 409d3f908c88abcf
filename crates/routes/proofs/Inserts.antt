-- Only want of memory keeps a row out of a table that has none in conflict with it.
use Rattle.std.proofs.Common.{◌≡◌, ◌∙◌, ℕ, List, None, refl, Result, Ok, Err, IfErr}
use Rattle.std.specs.Result.{IsErrAnd}
use Rattle.matchit.specs.Rows.{RowsOf}
use Rattle.matchit.specs.Router.{nearest, Refused, RouteOf}
use Rattle.matchit.specs.declared.error.InsertError.{InsertError}
use Rattle.matchit.specs.declared.error.InsertError.TheVariants.{Conflict, InvalidParam, InvalidParamSegment, InvalidCatchAll, OutOfMemory}
use Rattle.routes.specs.declared.place.Route.{Route}

pub only_memory : (pattern : List ℕ) (rows : RowsOf (RouteOf Route)) (why : InsertError) → nearest pattern rows ≡ None → Refused pattern rows why → why ≡ OutOfMemory
only_memory pattern rows (Conflict text) free h = let found = h.1 in absurd (cc)
only_memory pattern rows OutOfMemory free h = refl
only_memory pattern rows InvalidParamSegment free h = absurd h
only_memory pattern rows InvalidParam free h = absurd h
only_memory pattern rows InvalidCatchAll free h = absurd h

-- what is handed on says the same
pub hands_on : {T : Type 0} (result : Result T InsertError) (why : InsertError) → IsErrAnd result (λ other. other ≡ why) → why ≡ OutOfMemory → IfErr result (λ other. other ≡ OutOfMemory)
hands_on (Ok one) why h is = absurd h
hands_on (Err other) why h is = h ∙ is
