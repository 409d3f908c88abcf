-- The state after a command, one transition for each, and after a list of commands, the newest first (this product's
-- own).
use Rattle.std.specs.Prelude.{◌≡◌, ◌+◌, ◌==◌, Bool, true, false, List, [], ◌∷◌, ◌++◌, length, Option, Some, None}
use Rattle.units.specs.declared.request.Request.{Request}
use Rattle.sessions.specs.Content.{content}
use Rattle.accounts.specs.declared.moves.Move.{Move}
use Rattle.accounts.specs.Making.{made, onto}
use Rattle.chf_core.specs.declared.command.Command.{Command}
use Rattle.chf_core.specs.declared.command.Command.TheVariants.{Setup, Charge, Subscriber, TopUp}
use Rattle.chf_core.specs.declared.command.Outcome.{Outcome}
use Rattle.chf_core.specs.declared.command.Outcome.TheVariants.{Charged}
use Rattle.chf_core.specs.declared.decision.Verdict.TheVariants.{Fresh}
use Rattle.chf_core.specs.declared.key.Key.{Key}
use Rattle.chf_core.specs.declared.kept_request.KeptRequest.{KeptRequest}
use Rattle.chf_core.specs.Operator.{with_name}
use Rattle.chf_core.specs.Sessions.{sessions_after}
use Rattle.chf_core.specs.State.{State, with_text, nothing_yet, account_named, account_for, key_of}
use Rattle.chf_core.specs.CommandMoves.{moves_of}
use Rattle.chf_core.specs.Spending.{counters_in}
use Rattle.chf_core.specs.Stepping.{stepped}
use Rattle.chf_core.specs.CommandSteps.{step_of}
use Rattle.chf_core.specs.Filings.{limits_in, filings_of, filed}
use Rattle.chf_core.specs.Deciding.{decision, first_reply}

-- what is kept of a request: its place, its session's charging id, its content and its first reply (TS 32.290, 5.3.2)
abbrev pub entry_of : State → Request → Key → KeptRequest
entry_of s q k = record {
  place = s.count;
  charging_id = k.session.charging_id;
  request = content q;
  outcome = Charged (first_reply s q);
}

-- the kept requests after one that has a key
abbrev pub entered : State → Request → Option Key → List KeptRequest
entered s q None = s.requests
entered s q (Some k) = s.requests ++ entry_of s q k ∷ []

-- what a command writes, but for the money, the records, the subscriptions and the count
abbrev pub written : State → Command → State
written s (Setup setup) = record s { setup = Some setup }
written s (Charge q) = record s {
  sessions = sessions_after q.operation q (account_for s q.subscriber) s.sessions;
  requests = entered s q (key_of s q);
}
written s (Subscriber supi account barred) = record s {
  names = with_name s.names account (account_named s account);
  subscribers = with_text s.subscribers supi (record { account = account; barred = barred });
}
written s (TopUp id account amount) =
    record s { topups = with_text s.topups id (record { account = account; amount = amount }) }
written s other = s

-- the state after a command: its moves are made, what it files stands in the records, its step is taken, and there is
-- one command more
abbrev pub after : State → Command → State
after s c = record (written s c) {
  money = made (moves_of s c) s.money;
  book = filed (limits_in s.setup) (filings_of s c) s.book;
  watched = stepped (counters_in s.setup) s.watched (step_of s c);
  count = s.count + 1;
}

-- the state that a list of commands leaves
abbrev pub state_of : List Command → State
state_of [] = nothing_yet
state_of (c ∷ before) = after (state_of before) c

-- all moves of money of a list of commands, the newest first
abbrev pub account_moves : List Command → List Move
account_moves [] = []
account_moves (c ∷ before) = onto (moves_of (state_of before) c) (account_moves before)

-- whether a command is a setup
abbrev pub is_setup : Command → Bool
is_setup (Setup setup) = true
is_setup other = false

-- a list of commands that came to be: the setup is the first one and no other, and each was fresh by those before it
abbrev pub IsHistory : List Command → Type 0
IsHistory [] = Unit {0}
IsHistory (c ∷ before) =
    ((o : Outcome) × (decision (state_of before) c ≡ Fresh o))
    × ((is_setup c ≡ (length before == 0)) × IsHistory before)
