-- Which items are accepted, and which is the first that is not (this product's own).
use Rattle.std.specs.Prelude.{ℕ, ◌+◌, ◌-◌, ◌==◌, Bool, true, false, is_some, List, [], ◌∷◌, ◌++◌, drop, Option, Some, None, Result, Ok, Err, if◌then◌else◌}
use Rattle.chf_core.specs.declared.setup.ChfSetup.{ChfSetup}
use Rattle.chf_rows.specs.Setup.{is_setup_row, setup_answer}
use Rattle.chf_rows.specs.OperatorRow.{command_of}
use Rattle.charging.specs.declared.item.Item.{Item}
use Rattle.charging.specs.declared.item.Item.TheVariants.{Blank, Row, Message, Bad}

-- whether an item belongs to the setup, where all before it do: an empty line, or a row of a setup kind
abbrev pub is_setup : Item → Bool
is_setup Blank = true
is_setup (Row fields) = is_setup_row fields
is_setup (Message method path body) = false
is_setup Bad = false

-- the row that an item is
abbrev pub row_in : Item → List (List (List ℕ))
row_in Blank = []
row_in (Row fields) = fields ∷ []
row_in (Message method path body) = []
row_in Bad = []

-- the setup rows: the rows of a setup kind before all others, empty lines passed over
abbrev pub setup_rows : List Item → List (List (List ℕ))
setup_rows [] = []
setup_rows (item ∷ items) = if is_setup item then row_in item ++ setup_rows items else []

-- how many items these and the empty lines before and after them are
abbrev pub setup_length : List Item → ℕ
setup_length [] = 0
setup_length (item ∷ items) = if is_setup item then setup_length items + 1 else 0

-- an empty line
abbrev pub is_blank : Item → Bool
is_blank Blank = true
is_blank (Row fields) = false
is_blank (Message method path body) = false
is_blank Bad = false

-- the number of the item with an ordinal from 0 among those that are no empty line, where the first item has the number `here` and the last one before
-- it that is no empty line the number `last`; past the end it is the number after the last
abbrev pub number_at : ℕ → ℕ → ℕ → List Item → ℕ
number_at ordinal last here [] = last + 1
number_at ordinal last here (item ∷ items) =
    if is_blank item then number_at ordinal last (here + 1) items else
    (if ordinal == 0 then here else number_at (ordinal - 1) here (here + 1) items)

-- after the setup an empty line, an operator's row and a message are accepted
abbrev pub is_accepted : Item → Bool
is_accepted Blank = true
is_accepted (Row fields) = is_some (command_of fields)
is_accepted (Message method path body) = true
is_accepted Bad = false

-- the number of the first item that is not accepted
abbrev pub first_bad : ℕ → List Item → Option ℕ
first_bad here [] = None
first_bad here (item ∷ items) = if is_accepted item then first_bad (here + 1) items else Some here

-- the number of the first item that is not accepted, and does not belong to the setup where all before these items do
abbrev pub bad_from : Bool → ℕ → List Item → Option ℕ
bad_from true here items = first_bad (setup_length items + here) (drop (setup_length items) items)
bad_from false here items = first_bad here items

-- the number of the first item after the setup that is not accepted
abbrev pub bad_after_setup : List Item → Option ℕ
bad_after_setup items = bad_from true 1 items

-- the setup, or the number of the bad item
abbrev pub unless_bad : ChfSetup → Option ℕ → Result ChfSetup ℕ
unless_bad setup None = Ok setup
unless_bad setup (Some number) = Err number

-- what follows the setup, or the number of the item that is not accepted in it
abbrev pub after_setup : Result ChfSetup ℕ → List Item → Result ChfSetup ℕ
after_setup (Ok setup) items = unless_bad setup (bad_after_setup items)
after_setup (Err row) items = Err (number_at (row - 1) 0 1 items)

-- a run begins with nothing, so it needs setup rows
abbrev pub begun : List (List (List ℕ)) → List Item → Result ChfSetup ℕ
begun [] items = Err 1
begun (row ∷ rows) items = after_setup (setup_answer (row ∷ rows)) items

-- the setup of an input whose items are all accepted, or the number, from 1, of the first that is not
abbrev pub outcome : List Item → Result ChfSetup ℕ
outcome items = begun (setup_rows items) items
