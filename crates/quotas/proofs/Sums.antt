-- What a group keeps of its use is a sum over what came to it.
use Rattle.std.proofs.Common.{◌≡◌, ℕ, ◌+◌, ◌||◌, List, [], ◌∷◌, refl, ap, arith}
use Rattle.std.specs.Prelude.{Some, None, sum_by}
use Rattle.std.proofs.lemmas.List.Sums.{sum_by-cons}
use Rattle.quotas.specs.Quota.{capped}
use Rattle.quotas.specs.Effect.{returns_quota}
use Rattle.quotas.specs.Laws.{IsOfTheList}
use Rattle.quotas.specs.declared.step.Step.{Step}
use Rattle.quotas.specs.Steps.{since_set, since_freezing}
use Rattle.quotas.specs.History.{octets_in, seconds_in}
use Rattle.quotas.specs.declared.step.Step.TheVariants.{Asked, Frozen, Continued, Shut, Answered, Used, Fired}

-- a step adds its number to the sum
more : (f : Step → ℕ) (step : Step) (steps : List Step) (n k : ℕ) → f step ≡ k → n ≡ capped (sum_by f steps) → capped (n + k) ≡ capped (sum_by f (step ∷ steps))
more f step steps n k one h = let e = sum_by-cons f step steps in omega (arith, e, one, h)

-- and none where it has none
same : (f : Step → ℕ) (step : Step) (steps : List Step) (n : ℕ) → f step ≡ 0 → n ≡ capped (sum_by f steps) → n ≡ capped (sum_by f (step ∷ steps))
same f step steps n zero h = let e = sum_by-cons f step steps in omega (arith, e, zero, h)

pub sums : (steps : List Step) → IsOfTheList steps
sums [] = record { octets = refl; seconds = refl; fresh_octets = refl; fresh_seconds = refl; last_use = refl; given_back = refl; shut = refl }
sums (Asked ∷ steps) = let h = sums steps in record {
  octets = same octets_in Asked (since_set steps) _ refl h.octets;
  seconds = same seconds_in Asked (since_set steps) _ refl h.seconds;
  fresh_octets = same octets_in Asked (since_freezing steps) _ refl h.fresh_octets;
  fresh_seconds = same seconds_in Asked (since_freezing steps) _ refl h.fresh_seconds;
  last_use = h.last_use;
  given_back = h.given_back;
  shut = h.shut;
}
sums (Continued ∷ steps) = let h = sums steps in record {
  octets = same octets_in Continued (since_set steps) _ refl h.octets;
  seconds = same seconds_in Continued (since_set steps) _ refl h.seconds;
  fresh_octets = same octets_in Continued (since_freezing steps) _ refl h.fresh_octets;
  fresh_seconds = same seconds_in Continued (since_freezing steps) _ refl h.fresh_seconds;
  last_use = h.last_use;
  given_back = h.given_back;
  shut = h.shut;
}
sums (Shut ∷ steps) = let h = sums steps in record {
  octets = same octets_in Shut (since_set steps) _ refl h.octets;
  seconds = same seconds_in Shut (since_set steps) _ refl h.seconds;
  fresh_octets = same octets_in Shut (since_freezing steps) _ refl h.fresh_octets;
  fresh_seconds = same seconds_in Shut (since_freezing steps) _ refl h.fresh_seconds;
  last_use = h.last_use;
  given_back = h.given_back;
  shut = refl;
}
sums (Answered stamp None ∷ steps) = let h = sums steps in record {
  octets = same octets_in (Answered stamp None) (since_set steps) _ refl h.octets;
  seconds = same seconds_in (Answered stamp None) (since_set steps) _ refl h.seconds;
  fresh_octets = same octets_in (Answered stamp None) (since_freezing steps) _ refl h.fresh_octets;
  fresh_seconds = same seconds_in (Answered stamp None) (since_freezing steps) _ refl h.fresh_seconds;
  last_use = h.last_use;
  given_back = h.given_back;
  shut = h.shut;
}
sums (Answered stamp (Some info) ∷ steps) = let h = sums steps in record {
  octets = h.fresh_octets;
  seconds = h.fresh_seconds;
  fresh_octets = same octets_in (Answered stamp (Some info)) (since_freezing steps) _ refl h.fresh_octets;
  fresh_seconds = same seconds_in (Answered stamp (Some info)) (since_freezing steps) _ refl h.fresh_seconds;
  last_use = h.last_use;
  given_back = h.given_back;
  shut = h.shut;
}
sums (Frozen ∷ steps) = let h = sums steps in record {
  octets = same octets_in Frozen (since_set steps) _ refl h.octets;
  seconds = same seconds_in Frozen (since_set steps) _ refl h.seconds;
  fresh_octets = refl;
  fresh_seconds = refl;
  last_use = h.last_use;
  given_back = refl;
  shut = h.shut;
}
sums (Used octets seconds moment ∷ steps) = let h = sums steps in record {
  octets = more octets_in (Used octets seconds moment) (since_set steps) _ octets refl h.octets;
  seconds = more seconds_in (Used octets seconds moment) (since_set steps) _ seconds refl h.seconds;
  fresh_octets = more octets_in (Used octets seconds moment) (since_freezing steps) _ octets refl h.fresh_octets;
  fresh_seconds = more seconds_in (Used octets seconds moment) (since_freezing steps) _ seconds refl h.fresh_seconds;
  last_use = refl;
  given_back = h.given_back;
  shut = h.shut;
}
sums (Fired trigger ∷ steps) = let h = sums steps in record {
  octets = same octets_in (Fired trigger) (since_set steps) _ refl h.octets;
  seconds = same seconds_in (Fired trigger) (since_set steps) _ refl h.seconds;
  fresh_octets = same octets_in (Fired trigger) (since_freezing steps) _ refl h.fresh_octets;
  fresh_seconds = same seconds_in (Fired trigger) (since_freezing steps) _ refl h.fresh_seconds;
  last_use = h.last_use;
  given_back = ap (λ b. returns_quota trigger || b) h.given_back;
  shut = h.shut;
}
