-- That the state is what whole lists of commands, the newest first, say (this product's own).
use Rattle.std.specs.Prelude.{◌≡◌, ℕ, ◌==◌, cond, List, [], ◌∷◌, length, Option, Some, None}
use Rattle.std.specs.Option.{option_or}
use Rattle.units.specs.declared.request.Request.{Request}
use Rattle.sessions.specs.Content.{content}
use Rattle.accounts.specs.Moves.{state_of as money_of}
use Rattle.chf_core.specs.declared.command.Command.{Command}
use Rattle.chf_core.specs.declared.command.Command.TheVariants.{Charge}
use Rattle.chf_core.specs.declared.command.Outcome.TheVariants.{Charged}
use Rattle.chf_core.specs.declared.key.Name.{Name}
use Rattle.chf_core.specs.declared.key.Key.{Key}
use Rattle.chf_core.specs.declared.kept_request.KeptRequest.{KeptRequest}
use Rattle.chf_core.specs.Operator.{setup_of, subscription_of, account_names, topup_of}
use Rattle.chf_core.specs.Sessions.{sessions, reference_of as reference_in_list}
use Rattle.chf_core.specs.Keys.{key_of as key_in_list, place_of as place_in_list}
use Rattle.chf_core.specs.Money.{money, first_reply as first_reply_in_list}
use Rattle.chf_core.specs.Filed.{book}
use Rattle.chf_core.specs.Watched.{watched}
use Rattle.chf_core.specs.Decisions.{decision as decision_in_list}
use Rattle.chf_core.specs.State.{State, at_text, reference_of, place_of, kept_at}
use Rattle.chf_core.specs.Deciding.{decision, first_reply}
use Rattle.chf_core.specs.After.{state_of, account_moves}

-- what is kept of a request that has a key: its content and its first reply from the commands before it
abbrev pub request_of : List Command → Request → Option Key → Option KeptRequest
request_of before q None = None
request_of before q (Some k) = Some (record {
  place = length before;
  charging_id = k.session.charging_id;
  request = content q;
  outcome = Charged (first_reply_in_list before q);
})

-- the request that is kept at a place
abbrev pub request_at : List Command → ℕ → Option KeptRequest
request_at [] place = None
request_at (Charge q ∷ before) place =
    option_or (request_at before place)
    (cond (length before == place) (request_of before q (key_in_list before q)) None)
request_at (c ∷ before) place = request_at before place

-- each part of the state is what the whole list says
pub record IsLeftBy (commands : List Command) (s : State) : Type 0 where
  pub setup : s.setup ≡ setup_of commands
  pub count : s.count ≡ length commands
  pub names : s.names ≡ account_names commands
  pub subscribers : (supi : List ℕ) → at_text s.subscribers supi ≡ subscription_of commands supi
  pub topups : (id : List ℕ) → at_text s.topups id ≡ topup_of commands id
  pub sessions : s.sessions ≡ sessions commands
  pub references : (n : Name) → reference_of s n ≡ reference_in_list commands n
  pub moves : s.money ≡ money_of (account_moves commands)
  pub money : s.money ≡ money commands
  pub book : s.book ≡ book commands
  pub watched : s.watched ≡ watched commands
  pub requests : (place : ℕ) → kept_at s place ≡ request_at commands place
  pub places : (k : Key) → place_of s k ≡ place_in_list commands k

-- The state that a list leaves has in each part what the list says.
abbrev pub StatesAreJoined : Type 0
StatesAreJoined = (commands : List Command) → IsLeftBy commands (state_of commands)

-- The decision in that state is the decision after the list.
abbrev pub DecisionsAreJoined : Type 0
DecisionsAreJoined =
    (commands : List Command) (c : Command) → decision (state_of commands) c ≡ decision_in_list commands c

-- So is each first reply.
abbrev pub RepliesAreJoined : Type 0
RepliesAreJoined =
    (commands : List Command) (q : Request) → first_reply (state_of commands) q ≡ first_reply_in_list commands q
