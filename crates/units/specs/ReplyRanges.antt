-- Replies within the ranges of their format: those that are written so that they read back (TS 32.291, 6.1.6.2.1.6 to 6.1.6.2.1.10; the bounds are this product's own).
use Rattle.std.specs.Prelude.{◌≡◌, ◌≤◌, ◌==◌, false, ⊤}
use Rattle.std.specs.List.{AllByRecursion}
use Rattle.units.specs.declared.answer.Answer.{Answer}
use Rattle.units.specs.declared.answer.Amount.{Amount}
use Rattle.units.specs.declared.answer.Amount.TheVariants.{Volume, Seconds}
use Rattle.units.specs.declared.answer.UnitInfo.{UnitInfo}
use Rattle.units.specs.declared.trigger.TriggerRule.{TriggerRule}
use Rattle.units.specs.declared.reply.Problem.{Problem}
use Rattle.units.specs.declared.reply.Reply.{Reply}
use Rattle.units.specs.declared.reply.Reply.TheVariants.{Created, Updated, Released, Refused}
use Rattle.units.specs.Ranges.{Is32, IsMoment, IsVolume, IfGiven}

-- a trigger rule in range
pub record FitsRule (rule : TriggerRule) : Type 0 where
  pub octets : IfGiven IsVolume rule.volume
  pub time : IfGiven Is32 rule.seconds
  pub count : IfGiven Is32 rule.changes

-- a granted amount in range
abbrev pub FitsAmount : Amount → Type 0
FitsAmount (Volume octets) = IsVolume octets
FitsAmount (Seconds seconds) = Is32 seconds

-- what is said of a rating group, in range
pub record FitsInfo (info : UnitInfo) : Type 0 where
  pub number : Is32 info.group
  pub granted : IfGiven FitsAmount info.grant
  pub switched : IfGiven IsMoment info.switch
  pub valid : IfGiven Is32 info.validity
  pub held : IfGiven Is32 info.holding
  pub octets : IfGiven IsVolume info.volume_threshold
  pub time : IfGiven Is32 info.time_threshold
  pub rules : AllByRecursion FitsRule info.triggers

-- an answer in range
pub record FitsAnswer (answer : Answer) : Type 0 where
  pub stamped : IsMoment answer.stamp
  pub numbered : Is32 answer.number
  pub rules : AllByRecursion FitsRule answer.triggers
  pub entries : AllByRecursion FitsInfo answer.units

-- a problem's status is none of those that stand for success
pub record FitsProblem (problem : Problem) : Type 0 where
  pub not_created : (problem.status == 201) ≡ false
  pub not_updated : (problem.status == 200) ≡ false
  pub not_released : (problem.status == 204) ≡ false

-- a reply in range; a reference is from 1 to 2^32 - 1
abbrev pub FitsReply : Reply → Type 0
FitsReply (Created reference answer) = (1 ≤ reference) × Is32 reference × FitsAnswer answer
FitsReply (Updated answer) = FitsAnswer answer
FitsReply Released = ⊤
FitsReply (Refused problem) = FitsProblem problem
