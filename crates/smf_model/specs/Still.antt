-- What the end of an event leaves as it is (TS 32.255, 5.2.1).
use Rattle.std.specs.Prelude.{ℕ, Bool, is_some}
use Rattle.std.specs.List.{list_any}
use Rattle.smf_model.specs.declared.setup.SmfSetup.{SmfSetup}
use Rattle.smf_model.specs.declared.session.Session.{Session}
use Rattle.smf_model.specs.Settle.{due_in}

-- a trigger is due in a rating group of the session at a moment
abbrev pub is_due : SmfSetup → ℕ → Session → Bool
is_due setup now s = list_any (λ e. is_some (due_in setup now s e)) s.groups
