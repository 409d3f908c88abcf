-- What serving does: one connection after another (this product's own).
use Rattle.std.specs.Prelude.{ℕ, ◌≡◌, ◌≤◌, ◌⊎◌, Bool, true, false, max, List, [], ◌∷◌, ◌++◌, length, Option, Some, Result, Ok, Err, IfSome}
use Rattle.edge.specs.Connections.{Connection}
use Rattle.serving.specs.declared.serving.Served.{Served}
use Rattle.serving.specs.declared.serving.Served.TheVariants.{Most}
use Rattle.serving.specs.declared.serving.ServeRefusal.{ServeRefusal}
use Rattle.serving.specs.declared.serving.ServeRefusal.TheVariants.{DoorFault, NotOwner, OutOfMemory}
use Rattle.serving.specs.Sides.{Ends, Meaning}
use Rattle.serving.specs.Talk.{Conversation}

-- whether serving was not out of memory, so that its last connection was done with
abbrev pub is_finished : Result Served ServeRefusal → Bool
is_finished (Ok served) = true
is_finished (Err DoorFault) = true
is_finished (Err (NotOwner own seen)) = true
is_finished (Err OutOfMemory) = false

module _ {S : Type 0} (meaning : Meaning S) where
  -- the round of notices after a connection: none where the node is to stop, and one that ended well, unless memory was wanting before it or in it
  abbrev pub HasRounded : Bool → S → S → Type 0
  HasRounded finished before after =
      ((meaning.stops before ≡ true) × (after ≡ before))
      ⊎ (((finished ≡ false) × (after ≡ before))
      ⊎ ((meaning.stops before ≡ false) × ((ends : Ends) × meaning.notifies before ends after × (finished ≡ true → ends ≡ Ok tt))))

  -- what is due at a moment expires, then comes the conversation
  pub record IsHosted (finished : Bool) (moment : ℕ) (before : S) (connection : Connection) (after : S) : Type 0 where
    pub ends : Ends
    pub between : S
    pub expired : meaning.expires before moment ends between
    pub conversation : Conversation meaning finished between connection after

  -- one connection: the clock is asked once, and what it tells counts as no earlier than what it told before; the connection is hosted, then comes the round of notices
  pub record Visit (asked : Option ℕ) (finished : Bool) (latest : ℕ) (before : S) (connection : Connection) (now : ℕ) (after : S) : Type 0 where
    pub moment : ℕ
    pub told : IfSome asked (λ m. moment ≡ m)
    pub never_back : now ≡ max latest moment
    pub said : S
    pub hosted : IsHosted finished now before connection said
    pub rounded : HasRounded finished said after

  -- the connections served, the newest first; the clock told a moment for each
  abbrev pub Visits : (ℕ → Option ℕ) → Bool → S → List Connection → ℕ → S → Type 0
  Visits clock finished start [] latest state = (latest ≡ 0) × (state ≡ start)
  Visits clock finished start (connection ∷ earlier) latest state = (before : S) × (previous : ℕ) × Visits clock true start earlier previous before
      × Visit (clock (length earlier)) finished previous before connection latest state

  -- what serving did, from the connections told before
  pub record HasServed (clock : ℕ → Option ℕ) (most : ℕ) (start : S) (told : Option (List Connection)) (result : Result Served ServeRefusal) (state : S) (earlier : List Connection) : Type 0 where
    pub connections : List Connection
    pub latest : ℕ
    pub all : told ≡ Some (connections ++ earlier)
    pub visits : Visits clock (is_finished result) start connections latest state
    pub few : length connections ≤ most
    pub as_many : result ≡ Ok Most → length connections ≡ most
