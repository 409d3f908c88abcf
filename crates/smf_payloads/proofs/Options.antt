-- Values read one after another.
use Rattle.std.proofs.Common.{◌≡◌, ◌∙◌, ap, sym, refl, Bool, true, false, Option, Some, None, if◌then◌else◌}
use Rattle.std.specs.Prelude.{option_and_then, option_map}

-- a value that was read from another
pub record IsFrom {A B : Type 0} (read : A → Option B) (given : Option A) (value : B) : Type 0 where
  pub source : A
  pub is : given ≡ Some source
  pub read_is : read source ≡ Some value

pub and_then : {A B : Type 0} (read : A → Option B) (given : Option A) (value : B) → option_and_then read given ≡ Some value → IsFrom read given value
and_then read None value h = absurd (cc)
and_then read (Some source) value h = record { source = source; is = refl; read_is = h }

pub record IsMapped {A B : Type 0} (made : A → B) (given : Option A) (value : B) : Type 0 where
  pub source : A
  pub is : given ≡ Some source
  pub made_is : made source ≡ value

pub mapped : {A B : Type 0} (made : A → B) (given : Option A) (value : B) → option_map made given ≡ Some value → IsMapped made given value
mapped made None value h = absurd (cc)
mapped made (Some source) value h = record { source = source; is = refl; made_is = cc }

-- a value that was read where a test passed
pub passed : {A : Type 0} (test : Bool) (read : Option A) (value : A) → (if test then read else None) ≡ Some value → (test ≡ true) × (read ≡ Some value)
passed true read value h = (refl, h)
passed false read value h = absurd (cc)
