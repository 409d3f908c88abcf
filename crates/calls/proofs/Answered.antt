-- What a connection shows on which a message was written and a response read.
use Rattle.std.proofs.Common.{◌≡◌, ℕ, false, ◌||◌, List, [], ◌∷◌, ◌++◌, length, take, drop, Option, Some, Result, Ok, Err, OnOk, is_err, arith, refl, sym, ◌∙◌, ap, subst, option_map, true≢false}
use Rattle.std.proofs.lemmas.List.{take_all}
use Rattle.std.specs.Io.KnownBytes.{Consumes}
use Rattle.edge.specs.Connections.{AgreesOnPresent, Connection, after_read, after_write}
use Rattle.edge.specs.Openings.{opened}
use Rattle.edge.specs.declared.traits.Failed.{Failed}
use Rattle.wire.specs.Heads.{Whole, Bad, More}
use Rattle.wire.specs.Held.{AnswersStream, HasRead, Held, Reads, is_read_fault}
use Rattle.wire.specs.Laws.{ResponsesDecide}
use Rattle.wire.specs.Responses.{ResponseLooks}
use Rattle.wire.specs.declared.message.HttpResponse.{HttpResponse}
use Rattle.wire.specs.declared.refusal.WireRefusal.{WireRefusal}
use Rattle.calls.specs.Asked.{BeginsWith, given}

-- a reader that has read nothing
abbrev pub fresh : Held
fresh = record { bytes = []; refused = false }

-- what a call of the reader did
abbrev pub HasReadOne : Held → Held → Result HttpResponse WireRefusal → Option (List ℕ) → Option (List ℕ) → Option (List Connection) → Option (List Connection) → Type 0
HasReadOne old now result left left_now all all_now = HasRead (Reads ResponseLooks) (λ bytes. ResponseLooks bytes More) old now result left left_now all all_now

-- what it answers of the stream, where the bytes are told
abbrev pub AnswersOne : Held → Held → Result HttpResponse WireRefusal → Option (List ℕ) → Option (List ℕ) → Type 0
AnswersOne old now result left left_now = old.refused ≡ false → (bytes bytes_now : List ℕ) → left ≡ Some bytes → left_now ≡ Some bytes_now → AnswersStream ResponseLooks (old.bytes ++ bytes) (now.bytes ++ bytes_now) result

-- the connection, to whom it is, what was written, and what is answered of all that the peer gave
abbrev pub Shows : List ℕ → List ℕ → List Connection → Option (List Connection) → Result HttpResponse WireRefusal → Type 0
Shows peer message earlier told result = (connection : Connection) × (told ≡ Some (connection ∷ earlier)) × (connection.peer ≡ peer) × (connection.written ≡ message)
    × ((rest : List ℕ) × AnswersStream ResponseLooks (given connection) rest result)

left_at : (all : Option (List Connection)) (left written : Option (List ℕ)) (c : Connection) (earlier : List Connection) → AgreesOnPresent all left written → all ≡ Some (c ∷ earlier) → left ≡ Some c.left
left_at all left written c earlier agrees told = let here : AgreesOnPresent (Some (c ∷ earlier)) left written = subst (λ a. AgreesOnPresent a left written) told agrees in here.0

pub shows : (peer bytes message : List ℕ) (earlier : List Connection) (had wrote after : Option (List Connection)) (w v left left_now : Option (List ℕ)) (old now : Held) (r s : Result HttpResponse WireRefusal)
    → had ≡ Some (opened peer bytes ∷ earlier) → wrote ≡ option_map (after_write message false) had → AgreesOnPresent wrote left w
    → HasReadOne old now r left left_now wrote after → AnswersOne old now r left left_now → old ≡ fresh → AgreesOnPresent after left_now v → r ≡ s
    → Shows peer message earlier after s
shows peer bytes message earlier had wrote after w v left left_now old now r s told written first h answers nothing second is =
    let one : Connection = record (opened peer bytes) { written = [] ++ message; write_failed = false || false } in
    let two : Connection = record one { read = [] ++ h.taken; left = drop (length h.taken) bytes; read_failed = false || is_read_fault r } in
    let told_one : wrote ≡ Some (one ∷ earlier) = written ∙ ap (option_map (after_write message false)) told in
    let told_two : after ≡ Some (two ∷ earlier) = h.connections ∙ ap (option_map (after_read h.taken (is_read_fault r))) told_one in
    let before : left ≡ Some bytes = left_at wrote left w one earlier first told_one in
    let behind : left_now ≡ Some two.left = left_at after left_now v two earlier second told_two in
    let consumed : Consumes (Some bytes) (Some two.left) h.taken = subst (λ x. Consumes (Some bytes) x h.taken) behind (subst (λ x. Consumes x left_now h.taken) before h.source) in
    let first_answers : AnswersOne fresh now r left left_now = subst (λ o. AnswersOne o now r left left_now) nothing answers in
    let whole : AnswersStream ResponseLooks (given two) (now.bytes ++ two.left) r = subst (λ x. AnswersStream ResponseLooks x (now.bytes ++ two.left) r) consumed (first_answers refl bytes two.left before behind) in
    (two, told_two, refl, refl, (now.bytes ++ two.left, subst (λ x. AnswersStream ResponseLooks (given two) (now.bytes ++ two.left) x) is whole))

-- what holds of a call that went well
pub on_ok : {P : Type 0} (wrote : Result (Unit {0}) Failed) → OnOk wrote P → is_err wrote ≡ false → P
on_ok (Ok done) h well = h
on_ok (Err failed) h well = absurd (true≢false well)

-- bytes that are refused, or decide nothing, begin with no whole response
pub none_of_bad : ResponsesDecide → (bytes : List ℕ) (refusal : WireRefusal) → ResponseLooks bytes (Bad refusal) → (response : HttpResponse) → BeginsWith bytes response → ⊥
none_of_bad laws bytes refusal bad response (size, whole) = let e : Bad refusal ≡ Whole response size = laws.once bytes _ _ bad whole in cc

pub none_of_more : ResponsesDecide → (bytes : List ℕ) → ResponseLooks bytes More → (response : HttpResponse) → BeginsWith bytes response → ⊥
none_of_more laws bytes more response (size, whole) = let e : More ≡ Whole response size = laws.once bytes _ _ more whole in cc

-- a message that was written whole is written as far as its length
pub whole : (written message : List ℕ) → written ≡ message → (count : ℕ) × (written ≡ take count message)
whole written message e = (length message, e ∙ sym (take_all (length message) message (omega arith)))
