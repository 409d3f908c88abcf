-- The operator's rows: `subscriber,SUPI,ACCOUNT,BARRED`, `topup,ID,ACCOUNT,AMOUNT`, `expire,MOMENT` and `close,MOMENT` (this product's own).
use Rattle.std.specs.Prelude.{ℕ, ◌-◌, ◌^◌, nat_le, nat_lt, bytes_eq, List, [], ◌∷◌, Option, Some, None, if◌then◌else◌, option_and_then, option_map, codes}
use Rattle.rows.specs.Number.{number_of}
use Rattle.chf_core.specs.declared.command.Command.{Command}
use Rattle.chf_core.specs.declared.command.Command.TheVariants.{Subscriber, TopUp, Expire, CloseRecords}
use Rattle.row_fields.specs.Fields.{groups_of, name_of, row_size}

-- a subscriber's row: its SUPI, its account and the barred groups
abbrev pub subscriber_of : List (List ℕ) → Option Command
subscriber_of (supi ∷ account ∷ barred ∷ []) =
    option_and_then (λ s. option_and_then (λ a. option_map (λ groups. Subscriber s a groups) (groups_of barred)) (name_of account)) (name_of supi)
subscriber_of _ = None

-- an amount of 1 to 2 ^ 80 grains
abbrev pub amount_of : List ℕ → Option ℕ
amount_of field = option_and_then (λ n. if nat_lt 0 n then Some n else None) (number_of (2 ^ 80) field)

-- a top-up's row: its id, the account and the amount
abbrev pub topup_of : List (List ℕ) → Option Command
topup_of (id ∷ account ∷ amount ∷ []) =
    option_and_then (λ i. option_and_then (λ a. option_map (λ n. TopUp i a n) (amount_of amount)) (name_of account)) (name_of id)
topup_of _ = None

-- an expiry's row: the moment
abbrev pub expire_of : List (List ℕ) → Option Command
expire_of (moment ∷ []) = option_map (λ m. Expire m) (number_of 3155759999 moment)
expire_of _ = None

-- a row that closes records: the moment
abbrev pub close_of : List (List ℕ) → Option Command
close_of (moment ∷ []) = option_map (λ m. CloseRecords m) (number_of 3155759999 moment)
close_of _ = None

-- the command of a row, by its word
abbrev pub command_in : List (List ℕ) → Option Command
command_in [] = None
command_in (word ∷ fields) =
    if bytes_eq word (codes "subscriber") then subscriber_of fields else
    (if bytes_eq word (codes "topup") then topup_of fields else
    (if bytes_eq word (codes "expire") then expire_of fields else
    (if bytes_eq word (codes "close") then close_of fields else None)))

-- the command that a row gives: its fields joined by commas have at most 1,048,576 bytes
abbrev pub command_of : List (List ℕ) → Option Command
command_of fields = if nat_le (row_size fields) 1048577 then command_in fields else None
