-- One connection more.
use Rattle.std.proofs.Common.{◌≡◌, ℕ, ◌+◌, ◌≤◌, Bool, true, false, List, [], ◌∷◌, ◌++◌, length, Option, Some, Result, Ok, Err, is_ok, arith, refl, sym, ◌∙◌, ap, subst, true≢false}
use Rattle.edge.specs.Connections.{Connection}
use Rattle.edge.specs.Openings.{HasOpened, opened}
use Rattle.serving.specs.Sides.{Ends, Meaning}
use Rattle.serving.specs.Visits.{HasServed, IsHosted, Visit, Visits, is_finished}
use Rattle.serving.specs.declared.serving.Served.{Served}
use Rattle.serving.specs.declared.serving.Served.TheVariants.{Most}
use Rattle.serving.specs.declared.serving.ServeRefusal.{ServeRefusal}

-- what ended well
pub went_well : (ends : Ends) → is_ok ends ≡ true → ends ≡ Ok tt
went_well (Ok done) h = refl
went_well (Err memory) h = absurd (true≢false (sym h))

module _ {S : Type 0} (meaning : Meaning S) where
  -- what was served so far
  abbrev pub SoFar : (ℕ → Option ℕ) → Bool → S → ℕ → Option (List Connection) → List Connection → ℕ → S → Type 0
  SoFar clock finished start count told earlier latest state = (connections : List Connection) × (length connections ≡ count) × (told ≡ Some (connections ++ earlier))
      × Visits meaning clock finished start connections latest state

  -- what a visit did, whatever came
  abbrev pub HasVisited : Option ℕ → Bool → ℕ → S → Option (List Connection) → ℕ → S → Option (List Connection) → Type 0
  HasVisited asked finished latest before told now after told_now = (bytes : List ℕ) (others : List Connection) → told ≡ Some (opened [] bytes ∷ others)
      → (present : Connection) × (told_now ≡ Some (present ∷ others)) × Visit meaning asked finished latest before present now after

  pub one_more : (clock : ℕ → Option ℕ) (finished : Bool) (start : S) (count : ℕ) (all came then_told : Option (List Connection)) (earlier : List Connection) (latest now : ℕ) (before after : S) (asked : Option ℕ) (well : Bool)
      → SoFar clock true start count all earlier latest before → HasOpened [] all came → HasVisited asked well latest before came now after then_told → asked ≡ clock count → well ≡ finished
      → SoFar clock finished start (count + 1) then_told earlier now after
  one_more clock finished start count all came then_told earlier latest now before after asked well (connections, many, told, served) here visits at same =
      let opened_one : HasOpened [] (Some (connections ++ earlier)) came = subst (λ a. HasOpened [] a came) told here in
      let visited = visits opened_one.0 (connections ++ earlier) opened_one.1 in
      let this : Visit meaning (clock (length connections)) finished latest before visited.0 now after =
      subst (λ f. Visit meaning (clock (length connections)) f latest before visited.0 now after) same
      (subst (λ a. Visit meaning a well latest before visited.0 now after) (at ∙ ap clock (sym many)) visited.2) in
      (visited.0 ∷ connections, omega (arith, many), visited.1, (before, latest, served, this))

  pub has_served : (clock : ℕ → Option ℕ) (most : ℕ) (start : S) (told : Option (List Connection)) (result : Result Served ServeRefusal) (state : S) (earlier : List Connection) (count latest : ℕ)
      → SoFar clock (is_finished result) start count told earlier latest state → count ≤ most → (result ≡ Ok Most → count ≡ most)
      → HasServed meaning clock most start told result state earlier
  has_served clock most start told result state earlier count latest (connections, many, all, served) few full =
      record { connections = connections; latest = latest; all = all; visits = served; few = omega (arith, many); as_many = λ e. many ∙ full e }

  -- memory was wanting: what was hosted is not said to be done with
  pub unfinished : (moment : ℕ) (before : S) (connection : Connection) (after : S) (finished : Bool) → IsHosted meaning finished moment before connection after → IsHosted meaning false moment before connection after
  unfinished moment before connection after finished h = record {
    ends = h.ends;
    between = h.between;
    expired = h.expired;
    conversation = record {
      turns = h.conversation.turns;
      rest = h.conversation.rest;
      talk = h.conversation.talk;
      words = h.conversation.words;
      last = h.conversation.last;
      count = h.conversation.count;
      part = h.conversation.part;
      whole = λ f. absurd (true≢false (sym f));
    };
  }

  -- what was hosted well is so whatever is said of what came after
  pub hosted_well : (moment : ℕ) (before : S) (connection : Connection) (after : S) (well finished : Bool) → IsHosted meaning well moment before connection after → well ≡ true → IsHosted meaning finished moment before connection after
  hosted_well moment before connection after well true h e = subst (λ b. IsHosted meaning b moment before connection after) e h
  hosted_well moment before connection after well false h e = unfinished moment before connection after well h
