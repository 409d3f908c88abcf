-- What `clap` reads of the words after a command (this product's own).
use Rattle.std.specs.Prelude.{ℕ, ◌==◌, not, List, slice_index, Bool, true, codes}
use Rattle.clap.specs.Words.{App, Rule, new_app, new_rule, with_rule}
use Rattle.clap.specs.Simple.{on_top}

-- a word that does not begin with a hyphen
abbrev pub is_plain : List ℕ → Bool
is_plain word = not (slice_index word 0 == 45)

-- a word that has to be there
abbrev pub required_rule : List ℕ → Rule
required_rule name = record (new_rule name) { required = true }

-- a command without words after it
abbrev pub bare_app : List ℕ → App
bare_app name = on_top (λ s. record s { no_binary_name = true; disable_help_flag = true }) (new_app name)

-- `meter` with its three words
abbrev pub meter_app : App
meter_app = with_rule (with_rule (with_rule (bare_app (codes "meter")) (required_rule (codes "up"))) (required_rule (codes "down"))) (required_rule (codes "seconds"))

-- `operator`, and so `answer`, which is told apart before
abbrev pub alone_app : App
alone_app = bare_app (codes "alone")
