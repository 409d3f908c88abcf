-- What is made of values that can be read can be read.
use Rattle.std.proofs.Common.{◌≤◌, ℕ, List, [], ◌∷◌, map, Option, option_map, Some, None}
use Rattle.std.specs.List.{AllByRecursion}
use Rattle.serde_json.specs.Data.{Data}
use Rattle.units.specs.Ranges.{IfGiven}
use Rattle.json_objects.specs.ReadBack.{CanBeRead, IfThere, ItemsCanBeRead, ReadBackLaws}

pub all_readable : {T : Type 0} (levels : ℕ) (f : T → Data) (P : T → Type 0) (xs : List T) → ((x : T) → P x → CanBeRead levels (f x)) → AllByRecursion P xs → ItemsCanBeRead levels (map f xs)
all_readable levels f P [] each all = tt
all_readable levels f P (x ∷ xs) each all = (each x all.0, all_readable levels f P xs each all.1)

pub some_readable : {T : Type 0} (levels : ℕ) (f : T → Data) (P : T → Type 0) (o : Option T) → ((x : T) → P x → CanBeRead levels (f x)) → IfGiven P o → IfThere levels (option_map f o)
some_readable levels f P None each all = tt
some_readable levels f P (Some x) each all = each x all

-- where each value can be read
pub any_readable : {T : Type 0} (levels : ℕ) (f : T → Data) (o : Option T) → ((x : T) → CanBeRead levels (f x)) → IfThere levels (option_map f o)
any_readable levels f None each = tt
any_readable levels f (Some x) each = each x

pub deeper_if : ReadBackLaws → (levels more : ℕ) (o : Option Data) → levels ≤ more → IfThere levels o → IfThere more o
deeper_if laws levels more None le here = tt
deeper_if laws levels more (Some value) le here = laws.deeper levels more value le here
