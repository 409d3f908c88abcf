-- The commands that payloads give, however they are spelled (this product's own).
use Rattle.std.specs.Prelude.{ℕ, ◌-◌, ◌^◌, ◌==◌, List, [], ◌∷◌, Option, Some, None, Result, Ok, Err, if◌then◌else◌, option_and_then, option_map, codes}
use Rattle.rows.specs.Number.{number_of}
use Rattle.units.specs.declared.request.Operation.{Operation}
use Rattle.units.specs.declared.request.Operation.TheVariants.{Create, Update, Release}
use Rattle.units.specs.declared.request.Request.{Request}
use Rattle.units.specs.declared.spending.SpendContext.{SpendContext}
use Rattle.units.specs.declared.refusal.JsonRefusal.{JsonRefusal}
use Rattle.std.specs.Result.{result_ok}
use Rattle.row_texts.specs.RowTexts.{row_in, rows_in}
use Rattle.row_texts.specs.Words.{after_space, after_word, number_before}
use Rattle.charging_json.specs.Request.{request_in}
use Rattle.spend_json.specs.Context.{context_in}
use Rattle.chf_rows.specs.Setup.{naming_row, setup_answer}
use Rattle.chf_rows.specs.OperatorRow.{command_of}
use Rattle.chf_rows.specs.declared.refusal.SetupRefusal.{SetupRefusal}
use Rattle.chf_core.specs.declared.setup.ChfSetup.{ChfSetup}
use Rattle.chf_core.specs.declared.command.Command.{Command}
use Rattle.chf_core.specs.declared.command.Command.TheVariants.{Setup, Charge, Subscribe, Modify, Unsubscribe, NoticeSent}

-- a reference or an id, before a space
abbrev pub small_before : List ℕ → Option ℕ
small_before text = number_before (2 ^ 32 - 1) text

-- ---- rows

-- the command of a setup, where there is one
abbrev pub set_up : Result ChfSetup SetupRefusal → Option Command
set_up (Ok setup) = Some (Setup setup)
set_up (Err refusal) = None

-- the setup of rows
abbrev pub setup_by : List (List (List ℕ)) → Option Command
setup_by rows = set_up (naming_row (setup_answer rows))

-- the setup of rows, each with a line feed after it
abbrev pub setup_in : List ℕ → Option Command
setup_in text = option_and_then setup_by (rows_in text)

-- the command of an operator's row
abbrev pub operator_in : List ℕ → Option Command
operator_in text = option_and_then command_of (row_in text)

-- ---- charging data requests

-- the command of a request, where there is one
abbrev pub charged : Result Request JsonRefusal → Option Command
charged (Ok request) = Some (Charge request)
charged (Err refusal) = None

-- the request of an operation
abbrev pub request_of : Operation → List ℕ → Option Command
request_of operation body = charged (request_in operation body)

-- the request of an operation on the session of a reference
abbrev pub session_request : (ℕ → Operation) → List ℕ → Option Command
session_request operation text = option_and_then (λ reference. request_of (operation reference) (after_space text)) (small_before text)

-- a request behind its operation, where it is a Release
abbrev pub release_in : List ℕ → Option Command
release_in text = option_and_then (session_request Release) (after_word text (codes "release "))

-- where it is an Update; else that
abbrev pub update_or : Option (List ℕ) → Option Command → Option Command
update_or (Some text) other = session_request Update text
update_or None other = other

-- where it is a Create; else that
abbrev pub create_or : Option (List ℕ) → Option Command → Option Command
create_or (Some body) other = request_of Create body
create_or None other = other

-- a request behind its operation
abbrev pub charge_in : List ℕ → Option Command
charge_in text = create_or (after_word text (codes "create ")) (update_or (after_word text (codes "update ")) (release_in text))

-- ---- subscriptions to spending limits

-- the context of a body, where it is one
abbrev pub context_of : List ℕ → Option SpendContext
context_of body = result_ok (context_in body)

-- a subscription that is made
abbrev pub subscribe_in : List ℕ → Option Command
subscribe_in body = option_map (λ context. Subscribe context) (context_of body)

-- a subscription that gets another context
abbrev pub modify_in : List ℕ → Option Command
modify_in text = option_and_then (λ id. option_map (λ context. Modify id context) (context_of (after_space text))) (small_before text)

-- a subscription that ends
abbrev pub remove_in : List ℕ → Option Command
remove_in text = option_map (λ id. Unsubscribe id) (number_of (2 ^ 32 - 1) text)

-- a change that is no new subscription nor another context, where it ends one
abbrev pub ending_in : List ℕ → Option Command
ending_in text = option_and_then remove_in (after_word text (codes "remove "))

-- where it gives another context; else that
abbrev pub modify_or : Option (List ℕ) → Option Command → Option Command
modify_or (Some text) other = modify_in text
modify_or None other = other

-- where it makes a subscription; else that
abbrev pub subscribe_or : Option (List ℕ) → Option Command → Option Command
subscribe_or (Some body) other = subscribe_in body
subscribe_or None other = other

-- a change of subscriptions
abbrev pub spending_in : List ℕ → Option Command
spending_in text = subscribe_or (after_word text (codes "subscribe ")) (modify_or (after_word text (codes "modify ")) (ending_in text))

-- ---- notices

-- a notice that was sent: the number of its subscription, and its own
abbrev pub sent_in : List ℕ → Option Command
sent_in text =
    option_and_then
    (λ id. option_map (λ number. NoticeSent id number) (number_of (2 ^ 32 - 1) (after_space text)))
    (small_before text)

-- ---- payloads

-- the command of a kind, by its letter: `c`, `r`, `q`, `s` or `n`
abbrev pub command_by : ℕ → List ℕ → Option Command
command_by kind text =
    if kind == 99 then setup_in text else
    (if kind == 114 then operator_in text else
    (if kind == 113 then charge_in text else
    (if kind == 115 then spending_in text else
    (if kind == 110 then sent_in text else None))))

-- the command that a payload gives, however it is spelled
abbrev pub command_in : List ℕ → Option Command
command_in [] = None
command_in (kind ∷ text) = command_by kind text
