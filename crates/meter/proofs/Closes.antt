-- The container with a number, and how it was closed.
use Rattle.std.proofs.Common.{◌≡◌, ◌==◌, ℕ, suc, zero, ◌+◌, ◌-◌, ◌<◌, ◌≤◌, List, [], ◌∷◌, length, get_or, refl, ◌∙◌, ap, arith, eq-eqb, Option, Some, None}
use Rattle.std.specs.List.{slice_get, find}
use Rattle.std.specs.Option.{option_flatten}
use Rattle.units.specs.declared.report.Container.{Container}
use Rattle.meter.specs.declared.close.Close.{Close}
use Rattle.meter.specs.Meter.{Contents, close_of, closed_of, closed_as, AreNumbered}
use Rattle.meter.proofs.Finds.{got}
use Rattle.meter.proofs.Lasts.{not_eq}

find_numbered : (cs : List Container) (n k m : ℕ) → m ≡ n + k → AreNumbered n cs → find (λ c. c.lsn == m) cs ≡ slice_get cs k
find_numbered [] n k m e all = refl
find_numbered (c ∷ cs) n zero m e all = rw (eq-eqb c.lsn m (omega (arith, all.0))) refl
find_numbered (c ∷ cs) n (suc k) m e all = rw (not_eq c.lsn m (λ is. omega (arith, all.0, is))) (find_numbered cs (n + 1) k m (omega arith) all.1)

no_zero : (cs : List Container) (n : ℕ) → 1 ≤ n → AreNumbered n cs → find (λ c. c.lsn == 0) cs ≡ None
no_zero [] n l all = refl
no_zero (c ∷ cs) n l all = rw (not_eq c.lsn 0 (λ is. omega (arith, all.0, is))) (no_zero cs (n + 1) (omega arith) all.1)

past : {X : Type 0} (xs : List X) (i : ℕ) → length xs ≤ i → slice_get xs i ≡ None
past [] i l = refl
past (x ∷ xs) zero l = absurd (omega arith)
past (x ∷ xs) (suc i) l = past xs i (omega arith)

pub closed_zero : (s : Contents) → AreNumbered 1 s.containers → closed_of s 0 ≡ None
closed_zero s numbered = ap (λ c. closed_as c (close_of s 0)) (no_zero s.containers 1 (omega arith) numbered)

at_place : (s : Contents) (lsn : ℕ) → 1 ≤ lsn → AreNumbered 1 s.containers → closed_of s lsn ≡ closed_as (slice_get s.containers (lsn - 1)) (close_of s lsn)
at_place s lsn l numbered = ap (λ c. closed_as c (close_of s lsn)) (find_numbered s.containers 1 (lsn - 1) lsn (omega arith) numbered)

pub closed_past : (s : Contents) (lsn : ℕ) → 1 ≤ lsn → AreNumbered 1 s.containers → length s.containers ≤ lsn - 1 → closed_of s lsn ≡ None
closed_past s lsn l numbered le = at_place s lsn l numbered ∙ ap (λ c. closed_as c (close_of s lsn)) (past s.containers (lsn - 1) le)

read_close : (s : Contents) (lsn : ℕ) (k : Option Close) → lsn - 1 < length s.closes → k ≡ get_or s.closes (lsn - 1) k → close_of s lsn ≡ k
read_close s lsn k l is = ap option_flatten (got s.closes (lsn - 1) k l is)

any : (c : Option Container) → closed_as c None ≡ None
any None = refl
any (Some c) = refl

pub closed_not : (s : Contents) (lsn : ℕ) (k : Option Close) → 1 ≤ lsn → AreNumbered 1 s.containers → lsn - 1 < length s.closes → k ≡ get_or s.closes (lsn - 1) k → k ≡ None → closed_of s lsn ≡ None
closed_not s lsn k l numbered inside is none =
    at_place s lsn l numbered ∙ ap (closed_as (slice_get s.containers (lsn - 1))) (read_close s lsn k inside is ∙ none) ∙ any (slice_get s.containers (lsn - 1))

pub closed_some : (s : Contents) (lsn : ℕ) (c : Container) (k : Option Close) (x : Close) → 1 ≤ lsn → AreNumbered 1 s.containers → lsn - 1 < length s.containers → lsn - 1 < length s.closes → c ≡ get_or s.containers (lsn - 1) c → k ≡ get_or s.closes (lsn - 1) k → k ≡ Some x → closed_of s lsn ≡ Some (record { container = c; trigger = x.trigger; moment = x.moment })
closed_some s lsn c k x l numbered within inside read is some =
    at_place s lsn l numbered ∙ ap (λ o. closed_as o (close_of s lsn)) (got s.containers (lsn - 1) c within read) ∙ ap (closed_as (Some c)) (read_close s lsn k inside is ∙ some)
