-- A setup put together from its tariff, its counters and its limits.
use Rattle.std.proofs.Common.{◌≡◌, ◌∙◌, ap, refl, sym, subst, ℕ, List, Result, Ok, Err, inl}
use Rattle.units.specs.Answers.{IsOrNoMemory}
use Rattle.chf_core.specs.declared.setup.ChfSetup.{ChfSetup}
use Rattle.chf_rows.specs.declared.limits.Limits.{Limits}
use Rattle.chf_rows.specs.declared.refusal.SetupRefusal.{SetupRefusal}
use Rattle.chf_rows.specs.declared.refusal.SetupRefusal.TheVariants.{BadRow, OutOfMemory}
use Rattle.chf_rows.specs.Setup.{counters_of, front_of, limits_answer, naming_row, setup_answer, setup_with, tariff_of}

given : List (List (List ℕ)) → List (List (List ℕ)) → Limits → Result ChfSetup SetupRefusal
given tariffs counters limits = Ok (record { tariffs = tariffs; counters = counters; limits = limits.records; grace = limits.grace; failover = limits.failover })

-- where the limits are there
pub accepted : (rows tariffs counters : List (List (List ℕ))) (limits : Limits) → limits_answer rows ≡ Ok limits → tariffs ≡ tariff_of (front_of rows) → counters ≡ counters_of (front_of rows)
    → IsOrNoMemory OutOfMemory (Ok (record { tariffs = tariffs; counters = counters; limits = limits.records; grace = limits.grace; failover = limits.failover })) (naming_row (setup_answer rows))
unfolding given
accepted rows tariffs counters limits is tariff counter =
    let with : naming_row (setup_answer rows) ≡ naming_row (setup_with (front_of rows) (Ok limits)) = ap (λ a. naming_row (setup_with (front_of rows) a)) is in
    let parts : given tariffs counters limits ≡ given (tariff_of (front_of rows)) (counters_of (front_of rows)) limits =
    ap (λ t. given t counters limits) tariff ∙ ap (λ c. given (tariff_of (front_of rows)) c limits) counter in
    inl (parts ∙ sym with)

-- where a row is bad
pub refused : (rows : List (List (List ℕ))) (row : ℕ) → limits_answer rows ≡ Err row → IsOrNoMemory {T = ChfSetup} OutOfMemory (Err (BadRow row)) (naming_row (setup_answer rows))
refused rows row is = inl (sym (ap (λ a. naming_row (setup_with (front_of rows) a)) is))
