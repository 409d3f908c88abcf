-- What a response says: its status, its Location and its body (TS 32.291, 6.1; TS 29.594, 5.3).
use Rattle.std.specs.Prelude.{ℕ, List, [], ◌++◌, Some, None, codes}
use Rattle.std.specs.Fmt.{decimal}
use Rattle.units.specs.declared.reply.Reply.{Reply}
use Rattle.units.specs.declared.spending.SpendStatus.{SpendStatus}
use Rattle.serde_json.specs.Written.{compact_text}
use Rattle.routes.specs.Paths.{subscriptions}
use Rattle.spend_json.specs.StatusWritten.{status_data}
use Rattle.charging_json.specs.ReplyWritten.{location_of, reply_text, status_of}
use Rattle.chf_messages.specs.declared.response.Response.{Response}

-- the response that a reply is
abbrev pub response_of : Reply → Response
response_of one = record { status = status_of one; location = location_of one; body = reply_text one }

-- the path of a subscription to spending limits (TS 29.594, 5.3.3)
abbrev pub subscription_path : ℕ → List ℕ
subscription_path id = subscriptions ++ (codes "/" ++ decimal id)

-- a subscription is made (TS 29.594, 5.3.2.3.1)
abbrev pub made_response : ℕ → SpendStatus → Response
made_response id status =
    record { status = 201; location = Some (subscription_path id); body = compact_text (status_data status) }

-- a subscription has another context (TS 29.594, 5.3.3.3.1)
abbrev pub given_response : SpendStatus → Response
given_response status = record { status = 200; location = None; body = compact_text (status_data status) }

-- a subscription ended (TS 29.594, 5.3.3.3.2)
abbrev pub removed_response : Response
removed_response = record { status = 204; location = None; body = [] }
