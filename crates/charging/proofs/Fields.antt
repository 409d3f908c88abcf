-- The four fields of a row.
use Rattle.std.proofs.Common.{◌≡◌, ◌≢◌, ℕ, List, [], ◌∷◌, length, refl, arith, Some, None}
use Rattle.csv.specs.Records.{field_at}
use Rattle.csv.proofs.RecordFacts.{field-there}
use Rattle.charging.specs.MeterRows.{report_from, report_of}

-- a row of another number of fields gives no report
pub other_count : (number : ℕ) (row : List (List ℕ)) → length row ≢ 4 → report_of number row ≡ None
other_count number [] h = refl
other_count number (a ∷ []) h = refl
other_count number (a ∷ b ∷ []) h = refl
other_count number (a ∷ b ∷ c ∷ []) h = refl
other_count number (a ∷ b ∷ c ∷ d ∷ []) h = absurd (h (omega arith))
other_count number (a ∷ b ∷ c ∷ d ∷ e ∷ row) h = refl

-- a row of four fields gives the report of these
pub report_of_four : (number : ℕ) (row : List (List ℕ)) (a b c d : List ℕ) → length row ≡ 4 → Some a ≡ field_at row 0 → Some b ≡ field_at row 1 → Some c ≡ field_at row 2 → Some d ≡ field_at row 3 → report_of number row ≡ report_from number a b c d
unfolding field_at
report_of_four number [] a b c d h ea eb ec ed = absurd (omega arith)
report_of_four number (p ∷ []) a b c d h ea eb ec ed = absurd (omega arith)
report_of_four number (p ∷ q ∷ []) a b c d h ea eb ec ed = absurd (omega arith)
report_of_four number (p ∷ q ∷ r ∷ []) a b c d h ea eb ec ed = absurd (omega arith)
report_of_four number (p ∷ q ∷ r ∷ s ∷ []) a b c d h ea eb ec ed =
    let p_is : p ≡ a = cc in let q_is : q ≡ b = cc in let r_is : r ≡ c = cc in let s_is : s ≡ d = cc in
    rw (p_is, q_is, r_is, s_is) refl
report_of_four number (p ∷ q ∷ r ∷ s ∷ t ∷ row) a b c d h ea eb ec ed = absurd (omega arith)

pub ruleset four_fields = (other_count, report_of_four, field-there)
