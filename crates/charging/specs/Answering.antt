-- What a run prints: a line for each operator's row and each message, then the account lines and the notice lines (this
-- product's own).
use Rattle.std.specs.Prelude.{ℕ, List, [], ◌∷◌, ◌++◌, Option, Some, None, codes}
use Rattle.std.specs.Fmt.{decimal}
use Rattle.chf_core.specs.declared.command.Command.{Command}
use Rattle.chf_core.specs.declared.decision.Verdict.{Verdict}
use Rattle.chf_core.specs.declared.decision.Verdict.TheVariants.{Kept, Known, Refused, Fresh}
use Rattle.chf_core.specs.declared.refusal.ChfRefusal.{ChfRefusal}
use Rattle.chf_core.specs.declared.refusal.ChfRefusal.TheVariants.{UnknownAccount, SessionExists, SessionClosed, SequencePassed, UnknownReference, TopUpDiffers, WrongSupi, UnknownCounter, UnknownSubscription, UserUnknown}
use Rattle.chf_core.specs.State.{State}
use Rattle.chf_core.specs.Deciding.{decision}
use Rattle.chf_rows.specs.OperatorRow.{command_of}
use Rattle.chf_messages.specs.declared.response.Response.{Response}
use Rattle.chf_messages.specs.Answering.{after_message, decided, message_response}
use Rattle.chf_messages.specs.Routing.{command_at}
use Rattle.charging.specs.declared.item.Item.{Item}
use Rattle.charging.specs.declared.item.Item.TheVariants.{Row, Message}
use Rattle.charging.specs.AccountLines.{account_lines}
use Rattle.charging.specs.NoticeLines.{notice_lines}

-- ---- operator's rows

-- the number of a refusal
abbrev pub refusal_number : ChfRefusal → ℕ
refusal_number WrongSupi = 7
refusal_number UnknownAccount = 15
refusal_number UnknownCounter = 22
refusal_number UnknownSubscription = 23
refusal_number UserUnknown = 27
refusal_number SessionExists = 28
refusal_number (SessionClosed last) = 29
refusal_number (SequencePassed last) = 30
refusal_number UnknownReference = 31
refusal_number TopUpDiffers = 36

-- the line of an operator's row: whether it was carried out, changes nothing or is refused
abbrev pub verdict_line : Verdict → List ℕ
verdict_line (Kept place) = codes "known\n"
verdict_line Known = codes "known\n"
verdict_line (Refused refusal) = codes "refused,E" ++ (decimal (refusal_number refusal) ++ codes "\n")
verdict_line (Fresh outcome) = codes "ok\n"

-- the line of a row's command; a row that gives none has no line
abbrev pub command_line : State → Option Command → List ℕ
command_line s None = []
command_line s (Some command) = verdict_line (decision s command)

-- the state after a row
abbrev pub after_command : State → Option Command → State
after_command s None = s
after_command s (Some command) = decided s command (decision s command)

-- ---- messages

-- an absent part is a hyphen
abbrev pub part : List ℕ → List ℕ
part [] = codes "-"
part (byte ∷ text) = byte ∷ text

-- a part that may be absent
abbrev pub part_of : Option (List ℕ) → List ℕ
part_of None = codes "-"
part_of (Some text) = text

-- `STATUS LOCATION BODY`
abbrev pub response_line : Response → List ℕ
response_line r =
    decimal r.status ++ (codes " " ++ (part_of r.location ++ (codes " " ++ (part r.body ++ codes "\n"))))

-- the line of a message
abbrev pub message_line : Option Response → List ℕ
message_line None = []
message_line (Some r) = response_line r

-- ---- runs

-- the line of an item in the state before it
abbrev pub line_of : State → Item → List ℕ
line_of s (Row fields) = command_line s (command_of fields)
line_of s (Message method path body) = message_line (message_response s (command_at method path body))
line_of s other = []

-- the state after an item
abbrev pub after_item : State → Item → State
after_item s (Row fields) = after_command s (command_of fields)
after_item s (Message method path body) = after_message s (command_at method path body)
after_item s other = s

-- all that is printed from a state on
abbrev pub printed : State → List Item → List ℕ
printed s [] = account_lines s ++ notice_lines s
printed s (item ∷ items) = line_of s item ++ printed (after_item s item) items
