-- The payloads of a setup and of events, as they are written into a journal (this product's own).
use Rattle.std.specs.Prelude.{ℕ, Bool, true, false, List, [], ◌∷◌, ◌++◌, Option, Some, None, codes, decimal}
use Rattle.units.specs.Words.{name_of_failover, name_of_handling, name_of_type}
use Rattle.units.specs.declared.reply.Reply.{Reply}
use Rattle.row_texts.specs.RowTexts.{groups_text, row_text}
use Rattle.charging_json.specs.ReplyWritten.{location_of, reply_text, status_of}
use Rattle.smf_model.specs.declared.setup.SmfSetup.{SmfSetup}
use Rattle.smf_model.specs.declared.session.Peer.{Peer}
use Rattle.smf_model.specs.declared.session.Peer.TheVariants.{Primary, Alternate}
use Rattle.smf_model.specs.declared.event.SmfEvent.{SmfEvent}
use Rattle.smf_model.specs.declared.event.SmfEvent.TheVariants.{Attach, Start, Count, Change, Tick, Detach, Answered, Attempt, NotSent, NoReply, Restart}

-- ---- rows

-- the row of a setup
abbrev pub setup_row : SmfSetup → List (List ℕ)
setup_row s =
    codes "smf" ∷ s.name ∷ name_of_failover s.failover ∷ name_of_handling s.handling ∷ decimal s.retry ∷ decimal s.held_max ∷ decimal s.changes_max
    ∷ decimal s.volume_limit ∷ decimal s.time_limit ∷ []

-- the word of a detach, by whether it is abnormal
abbrev pub detach_word : Bool → List ℕ
detach_word true = codes "abort"
detach_word false = codes "detach"

-- the row of an event that has one (TS 32.255, 5.2.1)
abbrev pub event_row : SmfEvent → List (List ℕ)
event_row (Attach session subscriber groups moment) = codes "attach" ∷ decimal session ∷ subscriber ∷ decimal moment ∷ groups_text groups ∷ []
event_row (Start session group moment) = codes "start" ∷ decimal session ∷ decimal group ∷ decimal moment ∷ []
event_row (Count session r) =
    codes "report" ∷ decimal session ∷ decimal r.group ∷ decimal r.number ∷ decimal r.up ∷ decimal r.down ∷ decimal r.seconds ∷ decimal r.moment ∷ []
event_row (Change session trigger moment) = codes "change" ∷ decimal session ∷ name_of_type trigger ∷ decimal moment ∷ []
event_row (Tick moment) = codes "tick" ∷ decimal moment ∷ []
event_row (Detach session abnormal moment) = detach_word abnormal ∷ decimal session ∷ decimal moment ∷ []
event_row other = []

-- ---- replies

-- a part of a response, a hyphen where it is empty
abbrev pub part : List ℕ → List ℕ
part [] = codes "-"
part (byte ∷ text) = byte ∷ text

-- a part that may be absent
abbrev pub part_of : Option (List ℕ) → List ℕ
part_of None = codes "-"
part_of (Some text) = text

-- `STATUS LOCATION BODY`, as the reply's response has them (TS 32.291, 6.1.3)
abbrev pub reply_parts : Reply → List ℕ
reply_parts reply = decimal (status_of reply) ++ (codes " " ++ (part_of (location_of reply) ++ (codes " " ++ part (reply_text reply))))

-- ---- attempts

-- the peer of an attempt (TS 32.290, failure handling)
abbrev pub peer_text : Peer → List ℕ
peer_text Primary = codes "0"
peer_text Alternate = codes "1"

-- ---- payloads

-- the payload of a setup, of kind `c`: its row
abbrev pub setup_payload : SmfSetup → List ℕ
setup_payload s = codes "c" ++ row_text (setup_row s)

-- the payload of an event. Its first byte is its kind: `e` an event's row, `a` an attempt and its peer, `o` how an
-- attempt ended without an answer, `p` an answer with the reply's response, `z` a restart
abbrev pub event_payload : SmfEvent → List ℕ
event_payload (Attempt session peer) = codes "a" ++ (decimal session ++ (codes " " ++ peer_text peer))
event_payload (NotSent session) = codes "o" ++ (decimal session ++ codes " notsent")
event_payload (NoReply session) = codes "o" ++ (decimal session ++ codes " noreply")
event_payload (Answered session number reply) = codes "p" ++ (decimal session ++ (codes " " ++ (decimal number ++ (codes " " ++ reply_parts reply))))
event_payload Restart = codes "z"
event_payload other = codes "e" ++ row_text (event_row other)
