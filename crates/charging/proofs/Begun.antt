-- The setup and what follows it.
use Rattle.std.proofs.Common.{◌≡◌, ◌≢◌, ◌⊎◌, inl, inr, ℕ, List, [], ◌∷◌, refl, sym, ap, ◌∙◌, Result, Ok, Err}
use Rattle.chf_core.specs.declared.setup.ChfSetup.{ChfSetup}
use Rattle.chf_rows.specs.declared.refusal.SetupRefusal.{SetupRefusal}
use Rattle.chf_rows.specs.declared.refusal.SetupRefusal.TheVariants.{BadRow, OutOfMemory}
use Rattle.chf_rows.specs.Setup.{naming_row, setup_answer}
use Rattle.charging.specs.declared.item.Item.{Item}
use Rattle.charging.specs.Accepted.{after_setup, begun, outcome, setup_rows}

pub named_ok : (a : Result ChfSetup ℕ) (setup : ChfSetup) → (Ok setup ≡ naming_row a) ⊎ (Ok setup ≡ Err OutOfMemory) → a ≡ Ok setup
named_ok (Ok other) setup (inl e) = let same : setup ≡ other = cc in ap Ok (sym same)
named_ok (Err row) setup (inl e) = absurd (cc)
named_ok a setup (inr e) = absurd (cc)

pub named_row : (a : Result ChfSetup ℕ) (row : ℕ) → (Err (BadRow row) ≡ naming_row a) ⊎ (◌≡◌ {A = Result ChfSetup SetupRefusal} (Err (BadRow row)) (Err OutOfMemory)) → a ≡ Err row
named_row (Ok other) row (inl e) = absurd (cc)
named_row (Err other) row (inl e) = let same : row ≡ other = cc in ap Err (sym same)
named_row a row (inr e) = absurd (cc)

pub begun_with : (rows : List (List (List ℕ))) (items : List Item) → rows ≢ [] → begun rows items ≡ after_setup (setup_answer rows) items
begun_with [] items some = absurd (some refl)
begun_with (row ∷ rows) items some = refl

-- what follows some setup rows
pub outcome_by : (rows : List (List (List ℕ))) (items : List Item) (a : Result ChfSetup ℕ) → rows ≡ setup_rows items → rows ≢ [] → setup_answer rows ≡ a → outcome items ≡ after_setup a items
outcome_by rows items a is some answer =
    ap (λ k. begun k items) (sym is) ∙ begun_with rows items some ∙ ap (λ k. after_setup k items) answer

pub ruleset begun_by = (named_ok, named_row)
