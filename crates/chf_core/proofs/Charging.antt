-- The reference of the session that a request opens.
use Rattle.std.proofs.Common.{◌≡◌, ◌&&◌, ℕ, Bool, cond, Option, Some, None, is_some, option_map, refl}
use Rattle.units.specs.declared.request.Operation.{Operation}
use Rattle.units.specs.declared.request.Operation.TheVariants.{Create, Update, Release}
use Rattle.units.specs.declared.request.Request.{Request}
use Rattle.chf_core.specs.Sessions.{opens_by}
use Rattle.chf_core.specs.Machine.{session_by}

-- the reference of the session that a Create opens
pub opened_one : (op : Operation) (q : Request) (account : Option ℕ) (n : ℕ) (b : Bool) (old : Option ℕ)
    → cond (is_some (option_map (λ _. n) (session_by op q account)) && b) (option_map (λ _. n) (session_by op q account)) old ≡ cond (opens_by op account && b) (Some n) old
opened_one Create q None n b old = refl
opened_one Create q (Some i) n b old = refl
opened_one (Update r) q account n b old = refl
opened_one (Release r) q account n b old = refl
