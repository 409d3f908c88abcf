-- The words of the command line (this product's own).
use Rattle.std.specs.Prelude.{ℕ, ◌≤◌, ◌^◌, bytes_eq, List, [], ◌∷◌, Option, Some, None, if◌then◌else◌, option_and_then, option_map, codes}
use Rattle.rows.specs.Number.{number_of}
use Rattle.charging.specs.declared.words.Prices.{Prices}
use Rattle.charging.specs.declared.words.Task.{Task}
use Rattle.charging.specs.declared.words.Task.TheVariants.{Meter, Operator, Answer}

-- the three prices that words give, where they are numerals of at most 2 ^ 32
abbrev pub prices_of : List ℕ → List ℕ → List ℕ → Option Prices
prices_of up down seconds =
    option_and_then (λ u. option_and_then (λ d. option_and_then (λ s.
    Some (record { up = u; down = d; seconds = s })) (number_of (2 ^ 32) seconds)) (number_of (2 ^ 32) down)) (number_of (2 ^ 32) up)

-- the words after `meter`
abbrev pub meter_words : List (List ℕ) → Option Prices
meter_words (up ∷ down ∷ seconds ∷ []) = prices_of up down seconds
meter_words _ = None

-- a command that has no words after it
abbrev pub alone : Task → List (List ℕ) → Option Task
alone task [] = Some task
alone task (word ∷ words) = None

-- what a command's words give
abbrev pub task_by : List ℕ → List (List ℕ) → Option Task
task_by command words =
    if bytes_eq command (codes "meter") then option_map Meter (meter_words words) else
    (if bytes_eq command (codes "operator") then alone Operator words else
    (if bytes_eq command (codes "answer") then alone Answer words else None))

-- `meter PU PD PS`, `operator` or `answer`
abbrev pub task_of : List (List ℕ) → Option Task
task_of [] = None
task_of (command ∷ words) = task_by command words

-- each price is at most 2 ^ 32
pub record AreInRange (prices : Prices) : Type 0 where
  pub up : prices.up ≤ 2 ^ 32
  pub down : prices.down ≤ 2 ^ 32
  pub seconds : prices.seconds ≤ 2 ^ 32

-- so of a task
abbrev pub IsInRange : Task → Type 0
IsInRange (Meter prices) = AreInRange prices
IsInRange Operator = Unit {0}
IsInRange Answer = Unit {0}
