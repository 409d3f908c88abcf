-- What is found among marks: the least of each part, and the places of those that have what is searched for (this product's own).
use Rattle.std.specs.Prelude.{ℕ, ◌+◌, ◌||◌, nat_lt, Bool, false, if◌then◌else◌, Option, Some, None, List, [], ◌∷◌, fold}
use Rattle.quotas.specs.Deadline.{earlier, has_come}
use Rattle.smf_model.specs.declared.session.Peer.{Peer}
use Rattle.agenda.specs.declared.mark.Mark.{Mark}
use Rattle.agenda.specs.declared.mark.Search.{Search}
use Rattle.agenda.specs.declared.mark.Search.TheVariants.{Waits, Due, Flies}

-- a mark with nothing to find
abbrev pub quiet : Mark
quiet = record { send = None; wait = None; due = None; flies = false }

-- the attempt of the lesser number
abbrev pub first_send : Option (ℕ × Peer) → Option (ℕ × Peer) → Option (ℕ × Peer)
first_send None b = b
first_send (Some a) None = Some a
first_send (Some a) (Some b) = if nat_lt b.0 a.0 then Some b else Some a

-- two marks together
abbrev pub both : Mark → Mark → Mark
both a b = record { send = first_send a.send b.send; wait = earlier a.wait b.wait; due = earlier a.due b.due; flies = a.flies || b.flies }

-- marks together
abbrev pub all_of : List Mark → Mark
all_of marks = fold both quiet marks

-- a mark has what is searched for
abbrev pub finds : Search → Mark → Bool
finds (Waits now) m = has_come now m.wait
finds (Due now) m = has_come now m.due
finds Flies m = m.flies

-- the places, from this one on, of the marks that have it
abbrev pub places_from : Search → ℕ → List Mark → List ℕ
places_from search at [] = []
places_from search at (m ∷ marks) = if finds search m then at ∷ places_from search (at + 1) marks else places_from search (at + 1) marks
