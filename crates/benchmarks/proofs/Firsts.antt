-- Moves that leave each reservation on the first account.
use Rattle.std.proofs.Common.{◌∙◌, ◌≡◌, ℕ, ◌<◌, ◌==◌, Bool, Option, Result, Ok, Err, OnOk, OnErr, length, true, refl, sym, ap, subst, arith, length-set}
use Rattle.std.specs.FinMap.{get-empty}
use Rattle.accounts.specs.declared.reservation.Key.{Key}
use Rattle.accounts.specs.Ledger.{State, Contents, Numbers}
use Rattle.accounts.specs.declared.moves.Move.{Move}
use Rattle.accounts.specs.declared.moves.Move.TheVariants.{Added, ToppedUp}
use Rattle.accounts.specs.Moves.{after, empty_state}
use Rattle.accounts.specs.Steps.{AreOwned, OwnersStay, keeps_owners}
use Rattle.benchmarks.specs.Books.{IsOnFirst}

pub kept : OwnersStay → (s t : State) (m : Move) → IsOnFirst s → keeps_owners (λ key account. account == 0) m ≡ true → t ≡ after m s → 0 < length (after m s).accounts → IsOnFirst t
kept stay s t m first keeps is some = subst IsOnFirst (sym is) (record { exists = some; owned = stay (λ key account. account == 0) s m first.owned keeps })

pub kept_or_same : {X Y : Type 0} → OwnersStay → (s t : Contents) (m : Move) (r : Result X Y) → IsOnFirst s.state → keeps_owners (λ key account. account == 0) m ≡ true → OnOk r (t.state ≡ after m s.state) → OnErr r (t ≡ s) → 0 < length (after m s.state).accounts → IsOnFirst t.state
kept_or_same stay s t m (Ok x) first keeps ok err some = kept stay s.state t.state m first keeps ok some
kept_or_same stay s t m (Err x) first keeps ok err some = subst (λ (c : Contents). IsOnFirst c.state) (sym err) first

none_owned : AreOwned (λ key account. account == 0) empty_state
none_owned key = rw get-empty tt

-- one account, and no reservation
pub opened : OwnersStay → (s t u : State) (account amount : ℕ) → s ≡ empty_state → t ≡ after Added s → u ≡ after (ToppedUp account amount) t → IsOnFirst u
opened stay s t u account amount none added topped =
    let on = λ (key : Key) (account : ℕ). account == 0 in
    let owned = subst (AreOwned on) (sym topped) (stay on t (ToppedUp account amount) (subst (AreOwned on) (sym added) (stay on s Added (subst (AreOwned on) (sym none) none_owned) refl)) refl) in
    let one : length t.accounts ≡ 1 = ap (λ (k : State). length k.accounts) (added ∙ ap (after Added) none) in
    record { exists = omega (arith, ap (λ (k : State). length k.accounts) topped, length-set {A = Numbers}, one); owned = owned }
