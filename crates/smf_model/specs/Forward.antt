-- Where a container may go as events come: what is answered or given up stays so (this product's own).
use Rattle.std.specs.Prelude.{◌≡◌, ◌⊎◌, ℕ, ◌<◌, List, [], ◌∷◌, Option, Some, None}
use Rattle.smf_model.specs.declared.session.Place.{Place}
use Rattle.smf_model.specs.declared.session.Place.TheVariants.{Open, Waiting, Frozen, Answered, GivenUp}
use Rattle.smf_model.specs.declared.session.Holding.{Holding}
use Rattle.smf_model.specs.declared.session.Session.{Session}

-- how far a container is
abbrev pub rank : Place → ℕ
rank Open = 0
rank Waiting = 1
rank Frozen = 2
rank Answered = 3
rank (GivenUp why) = 3

-- it stays where it is, or goes on
abbrev pub GoesOn : Holding → Holding → Type 0
GoesOn before after = (after.container.lsn ≡ before.container.lsn) × ((after.place ≡ before.place) ⊎ (rank before.place < rank after.place))

-- each container goes on, and new ones come at the end
abbrev pub AreLater : List Holding → List Holding → Type 0
AreLater [] after = Unit {0}
AreLater (h ∷ before) [] = ⊥
AreLater (h ∷ before) (k ∷ after) = GoesOn h k × AreLater before after

-- a session stays, and each of its containers goes on
abbrev pub IsLaterSession : Option Session → Option Session → Type 0
IsLaterSession None after = Unit {0}
IsLaterSession (Some s) None = ⊥
IsLaterSession (Some s) (Some t) = AreLater s.holdings t.holdings
