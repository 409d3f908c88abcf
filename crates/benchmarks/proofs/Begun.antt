-- A session that begins is none of the others.
use Rattle.std.proofs.Common.{◌≡◌, ◌≢◌, ℕ, eqb, ltb, cond, Bool, true, false, List, [], ◌∷◌, Option, Some, None, refl}
use Rattle.std.proofs.lemmas.Bool.{ne_eqb}
use Rattle.records.specs.Book.{Session, session_of, entered}

not_first : (z : Session) (r : Option Session) (b : Bool) → cond b (Some z) r ≡ None → (b ≡ false) × (r ≡ None)
not_first z r true h = absurd cc
not_first z r false h = (refl, h)

entered_by : (new z : Session) (zs : List Session) (m : ℕ) → session_of (new ∷ z ∷ zs) m ≡ None → session_of (z ∷ entered new zs) m ≡ None → (b : Bool) → session_of (cond b (new ∷ z ∷ zs) (z ∷ entered new zs)) m ≡ None
entered_by new z zs m here later true = here
entered_by new z zs m here later false = later

pub others_missing : (new : Session) (zs : List Session) (m : ℕ) → new.number ≢ m → session_of zs m ≡ None → session_of (entered new zs) m ≡ None
others_missing new [] m other h = let no = ne_eqb new.number m other in rw no refl
others_missing new (z ∷ zs) m other h =
    let no = ne_eqb new.number m other in
    let first = not_first z (session_of zs m) (eqb z.number m) h in
    let here : session_of (new ∷ z ∷ zs) m ≡ None = rw no h in
    let later : session_of (z ∷ entered new zs) m ≡ None = let e = first.0 in rw e (others_missing new zs m other first.1) in
    entered_by new z zs m here later (ltb new.number z.number)
