-- The row that sets a charging trigger function up: `smf,NAME,FAILOVER,HANDLING,RETRY,HELDMAX,CHANGESMAX,VOLUMELIMIT,TIMELIMIT` (this product's own).
use Rattle.std.specs.Prelude.{ℕ, ◌-◌, ◌^◌, nat_lt, nat_le, bytes_eq, List, [], ◌∷◌, Option, Some, None, if◌then◌else◌, option_and_then, codes}
use Rattle.rows.specs.Number.{number_of}
use Rattle.row_fields.specs.Fields.{name_of, row_size}
use Rattle.units.specs.Words.{failover_named, handling_named}
use Rattle.smf_model.specs.declared.setup.SmfSetup.{SmfSetup}
use Rattle.smf_rows.specs.declared.setup_row.Defaults.{Defaults}

-- a number of 1 to that many
abbrev pub count_of : ℕ → List ℕ → Option ℕ
count_of most field = option_and_then (λ n. if nat_lt 0 n then Some n else None) (number_of most field)

-- what follows the name: failover and failure handling; seconds from a round of attempts to the next; how many closed containers may wait, and how
-- many of these make an Update; the limits of a container in octets and seconds, 0 for none
abbrev pub defaults_of : List ℕ → List ℕ → List ℕ → List ℕ → List ℕ → List ℕ → List ℕ → Option Defaults
defaults_of failover handling retry held changes volume time =
    option_and_then (λ f. option_and_then (λ h. option_and_then (λ r. option_and_then (λ m. option_and_then (λ c. option_and_then (λ v. option_and_then (λ t.
    Some (record { failover = f; handling = h; retry = r; held_max = m; changes_max = c; volume_limit = v; time_limit = t })) (number_of (2 ^ 32 - 1) time))
    (number_of (2 ^ 64 - 1) volume)) (count_of m changes)) (count_of 1000 held)) (count_of 86400 retry)) (handling_named handling)) (failover_named failover)

-- the setup of this name with these
abbrev pub setup_with : Defaults → List ℕ → SmfSetup
setup_with d name = record {
  name = name;
  failover = d.failover;
  handling = d.handling;
  retry = d.retry;
  held_max = d.held_max;
  changes_max = d.changes_max;
  volume_limit = d.volume_limit;
  time_limit = d.time_limit;
}

-- where both are there
abbrev pub setup_by : Option Defaults → Option (List ℕ) → Option SmfSetup
setup_by (Some d) (Some name) = Some (setup_with d name)
setup_by _ _ = None

-- the fields after the name
abbrev pub defaults_in : List (List ℕ) → Option Defaults
defaults_in (failover ∷ handling ∷ retry ∷ held ∷ changes ∷ volume ∷ time ∷ []) = defaults_of failover handling retry held changes volume time
defaults_in _ = None

-- the fields after the word
abbrev pub setup_in : List (List ℕ) → Option SmfSetup
setup_in [] = None
setup_in (name ∷ fields) = setup_by (defaults_in fields) (name_of name)

-- a row by its word
abbrev pub worded : List (List ℕ) → Option SmfSetup
worded [] = None
worded (word ∷ fields) = if bytes_eq word (codes "smf") then setup_in fields else None

-- the setup that a row gives: its fields joined by commas have, with a line feed, at most 65,536 bytes
abbrev pub setup_of : List (List ℕ) → Option SmfSetup
setup_of fields = if nat_le (row_size fields) 65536 then worded fields else None
