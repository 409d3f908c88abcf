-- The notices of a subscription have the numbers 1, 2, 3 and so on.
use Rattle.std.proofs.Common.{◌≡◌, ◌≢◌, ◌==◌, ◌+◌, ◌-◌, ◌<◌, ◌≤◌, ℕ, zero, suc, Bool, true, false, cond, if◌then◌else◌, List, [], ◌∷◌, ◌++◌, length, get_or, Option, Some, None, refl, sym, ap, subst, ◌∙◌, arith, length-append}
use Rattle.std.specs.Prelude.{⊤}
use Rattle.std.proofs.Math.ListN.{set}
use Rattle.std.specs.List.{filter, cons_option}
use Rattle.std.proofs.lemmas.Bool.{eqb-true, eqb-false, ne_eqb}
use Rattle.std.proofs.lemmas.List.{length-set, get_or-set_same, get_or-set_other}
use Rattle.units.specs.declared.spending.SpendContext.{SpendContext}
use Rattle.units.specs.declared.spending.CounterStatus.{CounterStatus}
use Rattle.counters.specs.Watching.{changes}
use Rattle.counters.specs.Subscriptions.{context_of}
use Rattle.notices.specs.declared.notice.Notice.{Notice}
use Rattle.notices.specs.Watching.{watches, ids_from, watching}
use Rattle.notices.specs.Watched.{Watched, all_posted, moved_to}
use Rattle.notices.specs.Numbers.{numbers_after}
use Rattle.notices.proofs.Answered.{posted_accounts, posted_numbers}
use Rattle.notices.specs.Due.{made_of, notice_with, notice_by, notice_of, notices_of, is_of, watching_for}
use Rattle.notices.specs.Steps.{Step, Subscribed, Modified, Ended, Spent, Moved, Sent, makes, after, state_of, of_subscription, made, AreNumberedFrom}

-- ---- ascending numbers of subscriptions

-- the numbers ascend, from the least on and below the end
abbrev Ascend : ℕ → ℕ → List ℕ → Type 0
Ascend least end [] = ⊤
Ascend least end (id ∷ ids) = (least ≤ id) × (id < end) × Ascend (suc id) end ids

from_lower : (least lower end : ℕ) (ids : List ℕ) → lower ≤ least → Ascend least end ids → Ascend lower end ids
from_lower least lower end [] le up = tt
from_lower least lower end (id ∷ ids) le up = let here = up.0 in (omega arith, up.1, up.2)

ids_ascend : (id end : ℕ) (watched : List (Option ℕ)) (account : ℕ) → id + length watched ≡ end → Ascend id end (ids_from id watched account)
ids_ascend id end [] account e = tt
ids_ascend id end (one ∷ more) account e = by (ids_ascend (suc id) end more account (omega arith)) (watches account one)
  where
    by : Ascend (suc id) end (ids_from (suc id) more account) → (b : Bool) → Ascend id end (if b then id ∷ ids_from (suc id) more account else ids_from (suc id) more account)
    by rest true = (omega arith, omega arith, rest)
    by rest false = from_lower (suc id) id end (ids_from (suc id) more account) (omega arith) rest

filter_ascends : (test : ℕ → Bool) (least end : ℕ) (ids : List ℕ) → Ascend least end ids → Ascend least end (filter test ids)
filter_ascends test least end [] up = tt
filter_ascends test least end (id ∷ ids) up = by (filter_ascends test (suc id) end ids up.2) (test id)
  where
    by : Ascend (suc id) end (filter test ids) → (b : Bool) → Ascend least end (cond b (id ∷ filter test ids) (filter test ids))
    by rest true = (up.0, up.1, rest)
    by rest false = let here = up.0 in from_lower (suc id) least end (filter test ids) (omega arith) rest

-- ---- notices one after another

pub numbers_length : (numbers : List ℕ) (notices : List Notice) → length (numbers_after numbers notices) ≡ length numbers
numbers_length numbers [] = refl
numbers_length numbers (n ∷ notices) = numbers_length (set numbers (n.id - 1) n.number) notices ∙ length-set numbers (n.id - 1) n.number

-- each has the number after that of the one before it of its subscription
abbrev Follow : List ℕ → List Notice → Type 0
Follow numbers [] = ⊤
Follow numbers (n ∷ notices) = (0 < n.id) × (n.id ≤ length numbers) × (n.number ≡ get_or numbers (n.id - 1) 0 + 1) × Follow (set numbers (n.id - 1) n.number) notices

-- so those of a subscription are numbered on from what was made of it
record AreNext (numbers : List ℕ) (notices : List Notice) (place : ℕ) : Type 0 where
  numbered : AreNumberedFrom (get_or numbers place 0 + 1) (of_subscription (suc place) notices)
  count : get_or (numbers_after numbers notices) place 0 ≡ get_or numbers place 0 + length (of_subscription (suc place) notices)

next_of : (numbers : List ℕ) (notices : List Notice) (place : ℕ) → Follow numbers notices → AreNext numbers notices place
next_of numbers [] place follow = record { numbered = tt; count = omega arith }
next_of numbers (n ∷ notices) place follow = by (next_of (set numbers (n.id - 1) n.number) notices place follow.3) (n.id == suc place) refl
  where
    by : AreNext (set numbers (n.id - 1) n.number) notices place → (b : Bool) → (n.id == suc place) ≡ b → AreNext numbers (n ∷ notices) place
    by more true e =
        let is : n.id ≡ suc place = eqb-true n.id (suc place) e in
        let at : n.id - 1 ≡ place = omega arith in
        let within : n.id ≤ length numbers = follow.1 in
        let number : n.number ≡ get_or numbers place 0 + 1 = follow.2 ∙ ap (λ k. get_or numbers k 0 + 1) at in
        let now : get_or (set numbers (n.id - 1) n.number) place 0 ≡ n.number = ap (λ k. get_or (set numbers k n.number) place 0) at ∙ get_or-set_same numbers place n.number 0 (omega arith) in
        let s : get_or (set numbers (n.id - 1) n.number) place 0 + 1 ≡ suc (get_or numbers place 0 + 1) = omega arith in
        let here : of_subscription (suc place) (n ∷ notices) ≡ n ∷ of_subscription (suc place) notices = ap (λ b. cond b (n ∷ of_subscription (suc place) notices) (of_subscription (suc place) notices)) e in
        record {
          numbered = subst (AreNumberedFrom (get_or numbers place 0 + 1)) (sym here) (number, subst (λ k. AreNumberedFrom k (of_subscription (suc place) notices)) s more.numbered);
          count = let size = ap length here in let rest = more.count in omega arith;
        }
    by more false e =
        let other : n.id ≢ suc place = eqb-false n.id (suc place) e in
        let some : 0 < n.id = follow.0 in
        let apart : place ≢ n.id - 1 = λ h. other (omega arith) in
        let same : get_or (set numbers (n.id - 1) n.number) place 0 ≡ get_or numbers place 0 = get_or-set_other numbers (n.id - 1) place n.number 0 apart in
        let here : of_subscription (suc place) (n ∷ notices) ≡ of_subscription (suc place) notices = ap (λ b. cond b (n ∷ of_subscription (suc place) notices) (of_subscription (suc place) notices)) e in
        record {
          numbered = subst (AreNumberedFrom (get_or numbers place 0 + 1)) (sym here) (subst (λ k. AreNumberedFrom (k + 1) (of_subscription (suc place) notices)) same more.numbered);
          count = let size = ap length here in let rest = more.count in omega arith;
        }

-- none has the number 0
none_first : (numbers : List ℕ) (notices : List Notice) → Follow numbers notices → of_subscription 0 notices ≡ []
none_first numbers [] follow = refl
none_first numbers (n ∷ notices) follow =
    let some : 0 < n.id = follow.0 in
    ap (λ b. cond b (n ∷ of_subscription 0 notices) (of_subscription 0 notices)) (ne_eqb n.id 0 (λ e. omega arith)) ∙ none_first (set numbers (n.id - 1) n.number) notices follow.3

-- ---- the notices that are due

-- a notice is of its subscription, and has the next number
pub record IsNext (w : Watched) (id : ℕ) (n : Notice) : Type 0 where
  pub own : n.id ≡ id
  pub number : n.number ≡ made_of w id + 1

abbrev pub IfNext : Watched → ℕ → Option Notice → Type 0
IfNext w id None = ⊤
IfNext w id (Some n) = IsNext w id n

with_next : (w : Watched) (id : ℕ) (context : SpendContext) (infos : List CounterStatus) → IfNext w id (notice_with id (made_of w id) context infos)
with_next w id context [] = tt
with_next w id context (info ∷ infos) = record { own = refl; number = refl }

pub is_next : (rows : List (List (List ℕ))) (w : Watched) (before after id : ℕ) → IfNext w id (notice_of rows w before after id)
is_next rows w before after id = by (context_of w.contexts id)
  where
    by : (o : Option SpendContext) → IfNext w id (notice_by rows id (made_of w id) before after o)
    by None = tt
    by (Some context) = with_next w id context (changes rows context.counters before after)

all_follow : (rows : List (List (List ℕ))) (w : Watched) (before after least : ℕ) (numbers ids : List ℕ) → 0 < least → Ascend least (suc (length numbers)) ids
    → ((id : ℕ) → least ≤ id → get_or numbers (id - 1) 0 ≡ made_of w id)
    → Follow numbers (notices_of rows w before after ids)
all_follow rows w before after least numbers [] some up same = tt
all_follow rows w before after least numbers (id ∷ ids) some up same =
    by (λ numbers' size agree. all_follow rows w before after (suc id) numbers' ids (omega arith) (subst (λ k. Ascend (suc id) (suc k) ids) (sym size) up.2) agree)
    (notice_of rows w before after id) (is_next rows w before after id)
  where
    by : ((numbers' : List ℕ) → length numbers' ≡ length numbers → ((j : ℕ) → suc id ≤ j → get_or numbers' (j - 1) 0 ≡ made_of w j) → Follow numbers' (notices_of rows w before after ids))
        → (o : Option Notice) → IfNext w id o → Follow numbers (cons_option o (notices_of rows w before after ids))
    by rest None next = let low = up.0 in rest numbers refl (λ j le. same j (omega arith))
    by rest (Some n) next =
        let low : least ≤ id = up.0 in
        let high : id < suc (length numbers) = up.1 in
        let is : n.id ≡ id = next.own in (
          omega arith,
          omega arith,
          next.number ∙ ap (λ k. k + 1) (sym (same id low)) ∙ ap (λ k. get_or numbers (k - 1) 0 + 1) (sym is),
          rest (set numbers (n.id - 1) n.number) (length-set numbers (n.id - 1) n.number)
              (λ j le. get_or-set_other numbers (n.id - 1) (j - 1) n.number 0 (λ h. omega arith) ∙ same j (omega arith)),
        )

-- so do all that a step makes
step_follows : (rows : List (List (List ℕ))) (w : Watched) (step : Step) → length w.accounts ≡ length w.numbers → Follow w.numbers (makes rows w step)
step_follows rows w (Subscribed context account) same = tt
step_follows rows w (Modified id context) same = tt
step_follows rows w (Ended id) same = tt
step_follows rows w (Spent account before after) same =
    all_follow rows w before after 1 w.numbers (watching w.accounts account) (omega arith) (ids_ascend 1 (suc (length w.numbers)) w.accounts account (omega arith)) (λ id le. refl)
step_follows rows w (Moved supi from to before after) same =
    all_follow rows w before after 1 w.numbers (watching_for w supi from) (omega arith)
    (filter_ascends (λ id. is_of supi (context_of w.contexts id)) 1 (suc (length w.numbers)) (watching w.accounts from) (ids_ascend 1 (suc (length w.numbers)) w.accounts from (omega arith))) (λ id le. refl)
step_follows rows w (Sent id) same = tt

-- ---- every step

moved_length : (account : ℕ) (accounts : List (Option ℕ)) (ids : List ℕ) → length (moved_to account accounts ids) ≡ length accounts
moved_length account accounts [] = refl
moved_length account accounts (id ∷ ids) = moved_length account (set accounts (id - 1) (Some account)) ids ∙ length-set accounts (id - 1) (Some account)

zero_more : (numbers : List ℕ) (place : ℕ) → get_or (numbers ++ 0 ∷ []) place 0 ≡ get_or numbers place 0
zero_more [] zero = refl
zero_more [] (suc place) = refl
zero_more (n ∷ numbers) zero = refl
zero_more (n ∷ numbers) (suc place) = zero_more numbers place

-- what else a step does makes no notice
record KeepsNumbers (w v : Watched) (notices : List Notice) : Type 0 where
  sizes : length v.accounts ≡ length v.numbers
  numbers : (place : ℕ) → get_or v.numbers place 0 ≡ get_or (numbers_after w.numbers notices) place 0

posted_sizes : (w : Watched) (notices : List Notice) → length w.accounts ≡ length w.numbers → length (all_posted w notices).accounts ≡ length (all_posted w notices).numbers
posted_sizes w notices same = ap length (posted_accounts w notices) ∙ same ∙ sym (numbers_length w.numbers notices) ∙ sym (ap length (posted_numbers w notices))

keeps : (rows : List (List (List ℕ))) (step : Step) (w : Watched) → length w.accounts ≡ length w.numbers → KeepsNumbers w (after rows w step) (makes rows w step)
keeps rows (Subscribed context account) w same = record {
  sizes = omega (arith, length-append w.accounts (Some account ∷ []), length-append w.numbers (0 ∷ []));
  numbers = zero_more w.numbers;
}
keeps rows (Modified id context) w same = record { sizes = same; numbers = λ place. refl }
keeps rows (Ended id) w same = record { sizes = length-set w.accounts (id - 1) None ∙ same; numbers = λ place. refl }
keeps rows (Spent account before later) w same =
    let notices = makes rows w (Spent account before later) in
    record { sizes = posted_sizes w notices same; numbers = λ place. ap (λ ns. get_or ns place 0) (posted_numbers w notices) }
keeps rows (Moved supi from to before later) w same =
    let notices = makes rows w (Moved supi from to before later) in
    record {
      sizes = moved_length to (all_posted w notices).accounts (watching_for w supi from) ∙ posted_sizes w notices same;
      numbers = λ place. ap (λ ns. get_or ns place 0) (posted_numbers w notices);
    }
keeps rows (Sent id) w same = record { sizes = same; numbers = λ place. refl }

numbered_append : (number : ℕ) (xs ys : List Notice) → AreNumberedFrom number xs → AreNumberedFrom (number + length xs) ys → AreNumberedFrom number (xs ++ ys)
numbered_append number [] ys a b = let e : number + length {A = Notice} [] ≡ number = omega arith in subst (λ k. AreNumberedFrom k ys) e b
numbered_append number (x ∷ xs) ys a b =
    let e : number + length (x ∷ xs) ≡ suc number + length xs = omega arith in
    (a.0, numbered_append (suc number) xs ys a.1 (subst (λ k. AreNumberedFrom k ys) e b))

-- what holds after a list of steps
record AreCounted (rows : List (List (List ℕ))) (steps : List Step) : Type 0 where
  sizes : length (state_of rows steps).accounts ≡ length (state_of rows steps).numbers
  none : made rows steps 0 ≡ []
  numbered : (place : ℕ) → AreNumberedFrom 1 (made rows steps (suc place))
  count : (place : ℕ) → get_or (state_of rows steps).numbers place 0 ≡ length (made rows steps (suc place))

counted : (rows : List (List (List ℕ))) (steps : List Step) → AreCounted rows steps
counted rows [] = record { sizes = refl; none = refl; numbered = λ place. tt; count = λ place. refl }
counted rows (step ∷ before) =
    let w = state_of rows before in
    let old = counted rows before in
    let notices = makes rows w step in
    let follow = step_follows rows w step old.sizes in
    let kept = keeps rows step w old.sizes in
    record {
      sizes = kept.sizes;
      none = (λ i. old.none i ++ none_first w.numbers notices follow i);
      numbered = λ place.
          let next = next_of w.numbers notices place follow in
          let count = old.count place in
          let e : get_or w.numbers place 0 + 1 ≡ 1 + length (made rows before (suc place)) = omega arith in
          numbered_append 1 (made rows before (suc place)) (of_subscription (suc place) notices) (old.numbered place) (subst (λ k. AreNumberedFrom k (of_subscription (suc place) notices)) e next.numbered);
      count = λ place.
          let next = next_of w.numbers notices place follow in
          kept.numbers place ∙ next.count
          ∙ ap (λ k. k + length (of_subscription (suc place) notices)) (old.count place)
          ∙ sym (length-append (made rows before (suc place)) (of_subscription (suc place) notices));
    }

pub numbered : (rows : List (List (List ℕ))) (steps : List Step) (id : ℕ) → AreNumberedFrom 1 (made rows steps id)
numbered rows steps zero = subst (AreNumberedFrom 1) (sym (counted rows steps).none) tt
numbered rows steps (suc place) = (counted rows steps).numbered place
