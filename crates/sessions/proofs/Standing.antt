-- Laws of kept requests, by induction on the later ones.
use Rattle.std.proofs.Common.{◌≡◌, ℕ, ◌+◌, ◌==◌, Bool, true, false, cond, List, [], ◌∷◌, ◌++◌, Some, None, ap, ◌∙◌, arith}
use Rattle.std.proofs.lemmas.Bool.Decides.{nat_tests}
use Rattle.std.specs.Option.{option_or}
use Rattle.units.specs.declared.reply.Reply.{Reply}
use Rattle.sessions.specs.Kept.{Kept, is_success, first_reply, accepted, uses, times}

pub first_stands : (later earlier : List Kept) (n : ℕ) (r : Reply) → first_reply earlier n ≡ Some r → first_reply (later ++ earlier) n ≡ Some r
first_stands [] earlier n r e = e
first_stands (x ∷ later) earlier n r e = ap (λ o. option_or o (cond (x.request.number == n) (Some x.reply) None)) (first_stands later earlier n r e)

same_is : (n : ℕ) → (n == n) ≡ true
same_is n = grind (arith, nat_tests)

pub new_is_first : (later earlier : List Kept) (k : Kept) → first_reply earlier k.request.number ≡ None → first_reply (later ++ k ∷ earlier) k.request.number ≡ Some k.reply
new_is_first later earlier k none =
    first_stands later (k ∷ earlier) k.request.number k.reply
    (ap (λ o. option_or o (cond (k.request.number == k.request.number) (Some k.reply) None)) none ∙ ap (λ b. cond b (Some k.reply) None) (same_is k.request.number))

pub times_add : (later earlier : List Kept) (lsn : ℕ) → times (later ++ earlier) lsn ≡ times later lsn + times earlier lsn
times_add [] earlier lsn = omega arith
times_add (x ∷ later) earlier lsn = by_test (is_success x.reply) (times_add later earlier lsn)
  where
    by_test : (b : Bool) → times (later ++ earlier) lsn ≡ times later lsn + times earlier lsn
        → uses lsn (cond b (x.request ∷ accepted (later ++ earlier)) (accepted (later ++ earlier))) ≡ uses lsn (cond b (x.request ∷ accepted later) (accepted later)) + uses lsn (accepted earlier)
    by_test true i = omega (arith, i)
    by_test false i = i
