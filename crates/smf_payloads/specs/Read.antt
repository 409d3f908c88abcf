-- The setups and events that payloads give, however they are spelled (this product's own).
use Rattle.std.specs.Prelude.{ℕ, ◌-◌, ◌^◌, ◌==◌, bytes_eq, List, [], ◌∷◌, Option, Some, None, if◌then◌else◌, option_and_then, option_map, codes}
use Rattle.std.specs.Result.{result_ok}
use Rattle.std.specs.Str.{is_utf8}
use Rattle.units.specs.declared.reply.Reply.{Reply}
use Rattle.row_texts.specs.RowTexts.{row_in}
use Rattle.row_texts.specs.Words.{after_space, first_word, number_before}
use Rattle.charging_json.specs.Reply.{reply_in}
use Rattle.smf_rows.specs.SetupRow.{setup_of}
use Rattle.smf_rows.specs.EventRow.{event_of}
use Rattle.smf_model.specs.declared.setup.SmfSetup.{SmfSetup}
use Rattle.smf_model.specs.declared.session.Peer.{Peer}
use Rattle.smf_model.specs.declared.session.Peer.TheVariants.{Primary, Alternate}
use Rattle.smf_model.specs.declared.event.SmfEvent.{SmfEvent}
use Rattle.smf_model.specs.declared.event.SmfEvent.TheVariants.{Answered, Attempt, NotSent, NoReply, Restart}

-- the session, or the request's number, before a space
abbrev pub small_before : List ℕ → Option ℕ
small_before text = number_before (2 ^ 32 - 1) text

-- ---- rows

-- the event of a row
abbrev pub row_event : List ℕ → Option SmfEvent
row_event text = option_and_then event_of (row_in text)

-- ---- attempts

-- the peer of an attempt
abbrev pub peer_of : List ℕ → Option Peer
peer_of text = if bytes_eq text (codes "0") then Some Primary else (if bytes_eq text (codes "1") then Some Alternate else None)

-- the beginning of an attempt
abbrev pub attempt_in : List ℕ → Option SmfEvent
attempt_in text = option_and_then (λ session. option_map (λ peer. Attempt session peer) (peer_of (after_space text))) (small_before text)

-- how an attempt of a session ended
abbrev pub end_of : ℕ → List ℕ → Option SmfEvent
end_of session text = if bytes_eq text (codes "notsent") then Some (NotSent session) else (if bytes_eq text (codes "noreply") then Some (NoReply session) else None)

-- the end of an attempt without an answer
abbrev pub end_in : List ℕ → Option SmfEvent
end_in text = option_and_then (λ session. end_of session (after_space text)) (small_before text)

-- ---- replies

-- a Location, which may be absent
abbrev pub location_in : List ℕ → Option (Option (List ℕ))
location_in text = if bytes_eq text (codes "-") then Some None else (if is_utf8 text then Some (Some text) else None)

-- a body, which may be empty
abbrev pub body_in : List ℕ → List ℕ
body_in text = if bytes_eq text (codes "-") then [] else text

-- the reply of a status, a Location and a body
abbrev pub reply_at : ℕ → List ℕ → List ℕ → Option Reply
reply_at status location body = option_and_then (λ given. result_ok (reply_in status given body)) (location_in location)

-- the reply of a status and what follows it: Location and body
abbrev pub reply_by : ℕ → List ℕ → Option Reply
reply_by status text = reply_at status (first_word text) (body_in (after_space text))

-- the reply of `STATUS LOCATION BODY`
abbrev pub reply_of : List ℕ → Option Reply
reply_of text = option_and_then (λ status. reply_by status (after_space text)) (number_before 65535 text)

-- the answer to a request of a session
abbrev pub answered : ℕ → List ℕ → Option SmfEvent
answered session text = option_and_then (λ number. option_map (λ reply. Answered session number reply) (reply_of (after_space text))) (small_before text)

-- an answer
abbrev pub answer_in : List ℕ → Option SmfEvent
answer_in text = option_and_then (λ session. answered session (after_space text)) (small_before text)

-- ---- payloads

-- a restart, of which nothing is said
abbrev pub restart_in : List ℕ → Option SmfEvent
restart_in [] = Some Restart
restart_in (byte ∷ text) = None

-- the event of a kind, by its letter: `e`, `a`, `o`, `p` or `z`
abbrev pub event_by : ℕ → List ℕ → Option SmfEvent
event_by kind text =
    if kind == 101 then row_event text else
    (if kind == 97 then attempt_in text else
    (if kind == 111 then end_in text else
    (if kind == 112 then answer_in text else
    (if kind == 122 then restart_in text else None))))

-- the event that a payload gives, however it is spelled
abbrev pub event_in : List ℕ → Option SmfEvent
event_in [] = None
event_in (kind ∷ text) = event_by kind text

-- the setup of a row
abbrev pub row_setup : List ℕ → Option SmfSetup
row_setup text = option_and_then setup_of (row_in text)

-- the setup that a payload gives, however it is spelled; its kind is `c`
abbrev pub setup_in : List ℕ → Option SmfSetup
setup_in [] = None
setup_in (kind ∷ text) = if kind == 99 then row_setup text else None
