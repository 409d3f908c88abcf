-- The payloads of commands, as they are written into a journal (this product's own).
use Rattle.std.specs.Prelude.{ℕ, List, [], ◌∷◌, ◌++◌, codes, decimal}
use Rattle.serde_json.specs.Written.{compact_text}
use Rattle.units.specs.Words.{name_of_failover}
use Rattle.units.specs.declared.request.Operation.{Operation}
use Rattle.units.specs.declared.request.Operation.TheVariants.{Create, Update, Release}
use Rattle.row_texts.specs.RowTexts.{groups_text, row_text, rows_text}
use Rattle.charging_json.specs.RequestWritten.{container_count, request_data}
use Rattle.spend_json.specs.ContextWritten.{context_data}
use Rattle.chf_core.specs.declared.setup.ChfSetup.{ChfSetup}
use Rattle.chf_core.specs.declared.command.Command.{Command}
use Rattle.chf_core.specs.declared.command.Command.TheVariants.{Setup, Charge, Subscriber, TopUp, Expire, CloseRecords, Subscribe, Modify, Unsubscribe, NoticeSent}

-- the limits row of a setup
abbrev pub limits_row : ChfSetup → List (List ℕ)
limits_row s =
    codes "limits" ∷ decimal s.limits.volume ∷ decimal s.limits.seconds ∷ decimal s.limits.changes ∷ decimal s.limits.containers ∷ decimal s.grace
    ∷ s.limits.function ∷ name_of_failover s.failover ∷ []

-- the rows of a setup: those of the tariff and of the policy counters as they were given, then the limits row
abbrev pub setup_rows : ChfSetup → List (List (List ℕ))
setup_rows s = s.tariffs ++ (s.counters ++ limits_row s ∷ [])

-- what stands before a request: its operation, with the reference of the charging session (TS 32.290, 5.3.2)
abbrev pub operation_text : Operation → List ℕ
operation_text Create = codes "create "
operation_text (Update reference) = codes "update " ++ (decimal reference ++ codes " ")
operation_text (Release reference) = codes "release " ++ (decimal reference ++ codes " ")

-- the row of an operator's command; other commands have none
abbrev pub operator_row : Command → List (List ℕ)
operator_row (Subscriber supi account barred) = codes "subscriber" ∷ supi ∷ account ∷ groups_text barred ∷ []
operator_row (TopUp id account amount) = codes "topup" ∷ id ∷ account ∷ decimal amount ∷ []
operator_row (Expire moment) = codes "expire" ∷ decimal moment ∷ []
operator_row (CloseRecords moment) = codes "close" ∷ decimal moment ∷ []
operator_row other = []

-- the payload of a command. Its first byte is its kind: `c` the rows of the setup, `r` an operator's row, `q` a request
-- (TS 32.291, 6.1.6.2.1.1) behind its operation, with the mark of a repeat as it stands, `s` a change of subscriptions
-- to spending limits (TS 29.594, 4.2), `n` the numbers of a subscription and of its notice that was sent (TS 29.594,
-- 4.2.4)
abbrev pub payload_of : Command → List ℕ
payload_of (Setup setup) = codes "c" ++ rows_text (setup_rows setup)
payload_of (Charge request) = codes "q" ++ (operation_text request.operation ++ compact_text (request_data request))
payload_of (Subscribe context) = codes "ssubscribe " ++ compact_text (context_data context)
payload_of (Modify id context) = codes "smodify " ++ (decimal id ++ (codes " " ++ compact_text (context_data context)))
payload_of (Unsubscribe id) = codes "sremove " ++ decimal id
payload_of (NoticeSent id number) = codes "n" ++ (decimal id ++ (codes " " ++ decimal number))
payload_of other = codes "r" ++ row_text (operator_row other)

-- how many containers a command has
abbrev pub containers_of : Command → ℕ
containers_of (Charge request) = container_count request
containers_of other = 0
