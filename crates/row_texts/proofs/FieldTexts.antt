-- What reading a field as text tells.
use Rattle.std.proofs.Common.{◌≡◌, ℕ, Bool, true, false, List, refl, Option, Some, None, if◌then◌else◌}

pub no_text : (b : Bool) (field : List ℕ) (read : Option (List ℕ)) → read ≡ (if b then Some field else None) → read ≡ None → b ≡ false
no_text true field read e none = absurd (cc)
no_text false field read e none = refl

pub some_text : (b : Bool) (field text : List ℕ) (read : Option (List ℕ)) → read ≡ (if b then Some field else None) → read ≡ Some text → (b ≡ true) × (text ≡ field)
some_text true field text read e some = (refl, cc)
some_text false field text read e some = absurd (cc)
