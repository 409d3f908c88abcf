-- The room of a session that begins.
use Rattle.std.proofs.Common.{◌≡◌, ◌≤◌, ℕ, List, length, Option, Some, sym, subst}
use Rattle.std.specs.Prelude.{IfSome}
use Rattle.units.specs.declared.request.UnitUsage.{UnitUsage}
use Rattle.records.specs.declared.session.SessionKept.{SessionKept}
use Rattle.records.specs.Groups.{GroupSeen, UnclosedSeen, HaveAllPlaces, HasRoom}
use Rattle.records.specs.Seen.{HasRoomIn}

-- room depends on the groups and the spare places alone
pub room_of_same : (a b : UnclosedSeen) (used : List UnitUsage) → a.groups ≡ b.groups → a.spare ≡ b.spare → HasRoom a used → HasRoom b used
room_of_same a b used g s h =
    record { apart = h.apart; spare = subst (λ (n : ℕ). length used ≤ n) s h.spare; places = subst (λ (gs : List GroupSeen). HaveAllPlaces gs used) g h.places }

pub begun : (after u : UnclosedSeen) (found : Option SessionKept) (new : SessionKept) (used : List UnitUsage) → found ≡ Some new → new.unclosed ≡ Some u → HasRoom u used → HasRoomIn after found used
begun after u found new used some is h = subst (λ (o : Option SessionKept). HasRoomIn after o used) (sym some) (subst (λ (w : Option UnclosedSeen). IfSome w (λ v. HasRoom v used)) (sym is) h)
