-- The kept requests of one session in a list of commands, the newest first, and lists of which each command was fresh (TS 32.290, 5.3.2; this product's own).
use Rattle.std.specs.Prelude.{◌≡◌, ℕ, Bool, true, false, cond, List, [], ◌∷◌, Option, Some, None}
use Rattle.units.specs.declared.request.Request.{Request}
use Rattle.units.specs.declared.reply.Reply.{Reply}
use Rattle.sessions.specs.Content.{content}
use Rattle.sessions.specs.Kept.{Kept as KeptRequest, AreKeyed, first_reply as replied}
use Rattle.chf_core.specs.declared.key.Name.{Name}
use Rattle.chf_core.specs.declared.key.Key.{Key}
use Rattle.chf_core.specs.declared.command.Command.{Command}
use Rattle.chf_core.specs.declared.command.Command.TheVariants.{Charge}
use Rattle.chf_core.specs.declared.command.Outcome.{Outcome}
use Rattle.chf_core.specs.declared.command.Outcome.TheVariants.{Charged}
use Rattle.chf_core.specs.declared.decision.Verdict.TheVariants.{Fresh, Kept}
use Rattle.chf_core.specs.Sessions.{same_session}
use Rattle.chf_core.specs.Keys.{key_of, command_at, is_repeat}
use Rattle.chf_core.specs.Money.{first_reply}
use Rattle.chf_core.specs.Decisions.{decision}
use Rattle.chf_core.specs.Outcomes.{outcome_at}

-- whether a request with this key is of a session
abbrev pub is_of : Option Key → Name → Bool
is_of None n = false
is_of (Some k) n = same_session k.session n

-- the contents of the requests of a session, each with its first reply
abbrev pub kept_of : List Command → Name → List KeptRequest
kept_of [] n = []
kept_of (Charge q ∷ before) n =
    cond (is_of (key_of before q) n) (record { request = content q; reply = first_reply before q } ∷ kept_of before n)
    (kept_of before n)
kept_of (c ∷ before) n = kept_of before n

-- each command was fresh at its place, by the commands before it
abbrev pub AreFresh : List Command → Type 0
AreFresh [] = Unit {0}
AreFresh (c ∷ before) = ((o : Outcome) × (decision before c ≡ Fresh o)) × AreFresh before

-- No two kept requests of a session have one number.
abbrev pub KeptAreKeyed : Type 0
KeptAreKeyed = (commands : List Command) (n : Name) → AreFresh commands → AreKeyed (kept_of commands n)

-- what a kept request is answered: the first reply that its session has under its number, to a request of its content
pub record IsFirstReply (commands : List Command) (q : Request) (place : ℕ) : Type 0 where
  pub key : Key
  pub reply : Reply
  pub has_key : key_of commands q ≡ Some key
  pub is_first : replied (kept_of commands key.session) q.number ≡ Some reply
  pub is_kept : outcome_at commands place ≡ Some (Charged reply)
  pub same : is_repeat q (command_at commands place) ≡ true

-- A request that was kept gets the first reply under its number.
abbrev pub RepeatsGetFirstReplies : Type 0
RepeatsGetFirstReplies = (commands : List Command) (q : Request) (place : ℕ) → decision commands (Charge q) ≡ Kept place → IsFirstReply commands q place
