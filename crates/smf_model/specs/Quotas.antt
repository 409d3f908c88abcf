-- A rating group's quota by the whole list of what came to it (TS 32.290, quota management; the laws are this product's own).
use Rattle.std.specs.Prelude.{◌≡◌, ℕ, Bool, Option, Some, None, List, []}
use Rattle.std.specs.List.{AllByRecursion}
use Rattle.units.specs.declared.report.Container.{Container}
use Rattle.quotas.specs.declared.state.Limits.{Limits}
use Rattle.quotas.specs.declared.step.Step.{Step}
use Rattle.quotas.specs.Steps.{quota_after}
use Rattle.quotas.specs.Quota.{gate_of}
use Rattle.quotas.specs.Due.{due_of}
use Rattle.quotas.specs.Laws.{by_list, FitsGranted}
use Rattle.smf_model.specs.declared.setup.SmfSetup.{SmfSetup}
use Rattle.smf_model.specs.declared.session.Entry.{Entry}
use Rattle.smf_model.specs.declared.session.Session.{Session}
use Rattle.smf_model.specs.Settle.{entry_of, due_in, settled}

-- the quota is that of what came to the group; so what is due and the gate are those of the latest answer's terms and the sum over the reports
-- since the freezing of its request, where granted units are of their type
pub record IsOfSteps (steps : List Step) (e : Entry) : Type 0 where
  pub quota : e.quota ≡ quota_after steps
  pub due : FitsGranted e.quota.standing → (open_container : Option Container) (unsafe_hour : Bool) (now : ℕ) (limits : Limits) → due_of e.quota open_container unsafe_hour now limits ≡ due_of (by_list steps) open_container unsafe_hour now limits
  pub gate : FitsGranted e.quota.standing → gate_of e.quota ≡ gate_of (by_list steps)

-- a rating group that the session has is as its steps leave it
abbrev pub EntryIsOfSteps : List Step → Option Entry → Type 0
EntryIsOfSteps steps None = steps ≡ []
EntryIsOfSteps steps (Some e) = IsOfSteps steps e

-- so of a rating group of a session; to one that it does not have nothing came
abbrev pub StandsBySteps : ℕ → List Step → Option Session → Type 0
StandsBySteps group steps None = steps ≡ []
StandsBySteps group steps (Some s) = EntryIsOfSteps steps (entry_of group s.groups)

-- once the session is settled, no trigger of its rating groups is due at that moment
abbrev pub NoneIsDue : SmfSetup → ℕ → Option Session → Type 0
NoneIsDue setup now None = Unit {0}
NoneIsDue setup now (Some s) = AllByRecursion (λ e. due_in setup now (settled setup now s) e ≡ None) (settled setup now s).groups
