-- What answers say of subscriptions.
use Rattle.std.proofs.Common.{◌≡◌, ◌<◌, ◌+◌, ◌-◌, ◌++◌, ◌∷◌, [], ◌∙◌, ℕ, zero, suc, sym, ap, take, map, option_to_list, Bool, true, false, if◌then◌else◌, List, Option, Some, None, Ok, Err, is_some, refl, All, length, get_or}
use Rattle.std.specs.List.{filter, filter_map, cons_option}
use Rattle.std.proofs.Math.ListN.{set}
use Rattle.std.proofs.lemmas.List.{take_more}
use Rattle.std.proofs.lemmas.List.Sums.{fold_push}
use Rattle.std.proofs.lemmas.List.Elements.{filter_passes, filter_map-append}
use Rattle.units.specs.declared.spending.SpendContext.{SpendContext}
use Rattle.counters.specs.declared.refusal.CounterRefusal.TheVariants.{UnknownCounter, UnknownSubscription}
use Rattle.counters.specs.Watching.{are_known}
use Rattle.counters.specs.Subscriptions.{context_of, is_live, modify_answer, remove_answer}
use Rattle.notices.specs.declared.notice.Notice.{Notice}
use Rattle.notices.specs.InOrder.{all_put}
use Rattle.notices.specs.Numbers.{numbers_after}
use Rattle.notices.specs.Places.{Ascending, room_at}
use Rattle.notices.specs.Watched.{Watched, posted, all_posted, moved_to}
use Rattle.notices.specs.Due.{is_of}

-- what was given another context was live
pub modified_live : (rows : List (List (List ℕ))) (contexts : List (Option SpendContext)) (id : ℕ) (context : SpendContext) (u : Unit {0}) → Ok u ≡ modify_answer rows contexts id context → is_live contexts id ≡ true
modified_live rows contexts id context u = by (is_live contexts id) (are_known rows context.counters)
  where
    by : (live known : Bool) → Ok u ≡ (if live then (if known then Ok tt else Err UnknownCounter) else Err UnknownSubscription) → live ≡ true
    by true known h = refl
    by false known h = cc

-- what ended was live
pub ended_live : (contexts : List (Option SpendContext)) (id : ℕ) (u : Unit {0}) → Ok u ≡ remove_answer contexts id → is_live contexts id ≡ true
ended_live contexts id u = by (is_live contexts id)
  where
    by : (live : Bool) → Ok u ≡ (if live then Ok tt else Err UnknownSubscription) → live ≡ true
    by true h = refl
    by false h = cc

-- the subscriptions of a subscriber are live
of_live : (supi : List ℕ) (context : Option SpendContext) → is_of supi context ≡ true → is_some context ≡ true
of_live supi None h = h
of_live supi (Some context) h = refl

pub all_live : (contexts : List (Option SpendContext)) (supi ids : List ℕ) → All (λ id. is_live contexts id ≡ true) (filter (λ id. is_of supi (context_of contexts id)) ids)
all_live contexts supi ids = λ k d l. of_live supi (context_of contexts (get_or (filter (λ id. is_of supi (context_of contexts id)) ids) k d)) (filter_passes (λ id. is_of supi (context_of contexts id)) ids k d l)

-- the room of an account
pub rooms_at : (lists : List Ascending) (account : ℕ) → get_or (map (λ l. l.room) lists) account 0 ≡ room_at lists account
rooms_at [] account = refl
rooms_at (l ∷ lists) zero = refl
rooms_at (l ∷ lists) (suc account) = rooms_at lists account

-- one subscription more that may give a notice
pub one_more : {X Y : Type 0} (f : X → Option Y) (xs : List X) (at : ℕ) (d : X) → at < length xs → filter_map f (take at xs) ++ option_to_list (f (get_or xs at d)) ≡ filter_map f (take (at + 1) xs)
one_more {Y = Y} f xs at d within = sym (ap (filter_map f) (take_more xs at d within) ∙ filter_map-append f (take at xs) (get_or xs at d ∷ []) ∙ ap (λ ys. filter_map f (take at xs) ++ ys) (by (f (get_or xs at d))))
  where
    by : (o : Option Y) → cons_option o [] ≡ option_to_list o
    by None = refl
    by (Some y) = refl

-- one more watches another account
pub moved_more : (account : ℕ) (accounts : List (Option ℕ)) (ids : List ℕ) (at : ℕ) → at < length ids
    → set (moved_to account accounts (take at ids)) (get_or ids at 0 - 1) (Some account) ≡ moved_to account accounts (take (at + 1) ids)
moved_more account accounts ids at within =
    sym (ap (moved_to account accounts) (take_more ids at 0 within) ∙ fold_push (λ (before : List (Option ℕ)) (id : ℕ). set before (id - 1) (Some account)) accounts (take at ids) (get_or ids at 0))

-- notices leave contexts and accounts as they are
pub posted_contexts : (w : Watched) (notices : List Notice) → (all_posted w notices).contexts ≡ w.contexts
posted_contexts w [] = refl
posted_contexts w (n ∷ notices) = posted_contexts (posted w n) notices

pub posted_accounts : (w : Watched) (notices : List Notice) → (all_posted w notices).accounts ≡ w.accounts
posted_accounts w [] = refl
posted_accounts w (n ∷ notices) = posted_accounts (posted w n) notices

-- they count on
pub posted_numbers : (w : Watched) (notices : List Notice) → (all_posted w notices).numbers ≡ numbers_after w.numbers notices
posted_numbers w [] = refl
posted_numbers w (n ∷ notices) = posted_numbers (posted w n) notices

-- and are put among those that wait
pub posted_unsent : (w : Watched) (notices : List Notice) → (all_posted w notices).unsent ≡ all_put (λ n. n.id) w.unsent notices
posted_unsent w [] = refl
posted_unsent w (n ∷ notices) = posted_unsent (posted w n) notices
