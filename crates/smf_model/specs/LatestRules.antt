-- Categories and limits are those of the latest answers that gave them, over the whole list of answers of a session (TS 32.291, 6.1.6.2.1.7).
use Rattle.std.specs.Prelude.{◌≡◌, ℕ, ◌==◌, Bool, if◌then◌else◌, Option, Some, None, List, [], ◌∷◌, ◌++◌}
use Rattle.units.specs.declared.trigger.TriggerType.{TriggerType}
use Rattle.units.specs.declared.trigger.TriggerType.TheVariants.{VolumeLimit, TimeLimit, MaxNumberOfChangesInChargingConditions}
use Rattle.units.specs.declared.trigger.TriggerRule.{TriggerRule}
use Rattle.units.specs.declared.request.Request.{Request}
use Rattle.units.specs.declared.answer.Answer.{Answer}
use Rattle.units.specs.declared.answer.UnitInfo.{UnitInfo}
use Rattle.units.specs.declared.reply.Reply.{Reply}
use Rattle.units.specs.declared.reply.Reply.TheVariants.{Created, Updated, Released, Refused}
use Rattle.smf_model.specs.declared.session.Entry.{Entry}
use Rattle.smf_model.specs.declared.session.Session.{Session}
use Rattle.smf_model.specs.declared.event.SmfEvent.TheVariants.{Answered}
use Rattle.smf_model.specs.Categories.{same_type}
use Rattle.smf_model.specs.Rules.{or_earlier, firsts, category_in, volume_in, seconds_in, changes_in}
use Rattle.smf_model.specs.Replies.{info_of}
use Rattle.smf_model.specs.Reports.{in_order}
use Rattle.smf_model.specs.History.{Brings}

-- the rules of an entry of an answer that count, of which there is at most one of each type, the last of them first
abbrev pub of_info : Option UnitInfo → List TriggerRule
of_info None = []
of_info (Some info) = in_order (firsts info.triggers)

-- those that an answer gives a rating group, where the session has it
abbrev pub of_group : ℕ → List UnitInfo → List Entry → List TriggerRule
of_group group units [] = []
of_group group units (e ∷ entries) = of_group group units entries ++ (if e.number == group then of_info (info_of group units) else [])

-- those that an answer gives a rating group, or the session
abbrev pub of_answer : Option ℕ → Answer → List Entry → List TriggerRule
of_answer None answer entries = in_order (firsts answer.triggers)
of_answer (Some group) answer entries = of_group group answer.units entries

-- those of a reply to the unanswered request
abbrev pub of_reply : Option ℕ → Reply → Option Request → List Entry → List TriggerRule
of_reply group reply None entries = []
of_reply group (Created reference answer) (Some q) entries = of_answer group answer entries
of_reply group (Updated answer) (Some q) entries = of_answer group answer entries
of_reply group Released (Some q) entries = []
of_reply group (Refused problem) (Some q) entries = []

-- those that an event brings to its session
abbrev pub rules_in : Option ℕ → Brings TriggerRule
rules_in group setup now number (Answered session place reply) (Some s) = if s.number == session then of_reply group reply s.request s.groups else []
rules_in group setup now number event s = []

-- the category of the latest rule of a type
abbrev pub latest_category : TriggerType → List TriggerRule → Option Bool
latest_category trigger [] = None
latest_category trigger (r ∷ earlier) = if same_type r.trigger trigger then Some r.immediate else latest_category trigger earlier

-- the limit of the latest rule of a type that gave one
abbrev pub latest_limit : TriggerType → (TriggerRule → Option ℕ) → List TriggerRule → Option ℕ
latest_limit trigger limit [] = None
latest_limit trigger limit (r ∷ earlier) = if same_type r.trigger trigger then or_earlier (limit r) (latest_limit trigger limit earlier) else latest_limit trigger limit earlier

-- the category of each type, for the session and for each rating group, and each limit are the latest that answers gave
pub record AreLatest (given : Option ℕ → List TriggerRule) (s : Session) : Type 0 where
  pub categories : (group : Option ℕ) (trigger : TriggerType) → category_in group trigger s.rules ≡ latest_category trigger (given group)
  pub volumes : (group : Option ℕ) → volume_in group s.rules ≡ latest_limit VolumeLimit (λ r. r.volume) (given group)
  pub seconds : (group : Option ℕ) → seconds_in group s.rules ≡ latest_limit TimeLimit (λ r. r.seconds) (given group)
  pub changes : changes_in s.rules ≡ latest_limit MaxNumberOfChangesInChargingConditions (λ r. r.changes) (given None)

-- so of a session that is there, by all that its answers gave
abbrev pub RulesAreLatest : (Option ℕ → List TriggerRule) → Option Session → Type 0
RulesAreLatest given None = Unit {0}
RulesAreLatest given (Some s) = AreLatest given s
