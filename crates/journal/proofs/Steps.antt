-- How the images go on from one call of a disk to the next.
use Rattle.std.proofs.Common.{◌≡◌, ℕ, zero, suc, ◌≤◌, List, refl, sym, subst, arith, append-nil, Option, Some, None, is_some, true}
use Rattle.std.specs.Prelude.{⊤}
use Rattle.edge.specs.Disk.{EachFollows, KeepsImages}
use Rattle.journal.specs.Bytes.{Spells, StandsFor}
use Rattle.journal.specs.Lists.{MayStandFor, EachStandsFor, Extends}

abbrev Images : Type 1
Images = List ℕ → Type 0

-- each image now has P, and is there only where one was there at first
pub record Holds (old now : List ℕ → Type 0) (P : List ℕ → Type 0) (L : Type 0) : Type 0 where
  pub each : (c : List ℕ) → now c → P c
  pub first : (c : List ℕ) → now c → L

pub follows : {old now new P Q : List ℕ → Type 0} {L : Type 0} (step : List ℕ → List ℕ → Type 0) → Holds old now P L → EachFollows step now new → ((d c : List ℕ) → P d → step d c → Q c) → Holds old new Q L
follows step h goes to = record {
  each = λ c im. let from = goes c im in to from.0 c (h.each from.0 from.1) from.2;
  first = λ c im. let from = goes c im in h.first from.0 from.1;
}

pub keeps : {old now new P : List ℕ → Type 0} {L : Type 0} → Holds old now P L → KeepsImages now new → Holds old new P L
keeps h goes = record { each = λ c im. h.each c (goes c im); first = λ c im. h.first c (goes c im) }

pub stands : (e : ℕ) (bytes : List ℕ) (list : List (List ℕ)) → 1 ≤ e → Spells bytes list → StandsFor (Some e) bytes list
stands zero bytes list le s = absurd (omega arith)
stands (suc e) bytes list le s = s

pub stands_under : (epoch : Option ℕ) (e : ℕ) (bytes : List ℕ) (list : List (List ℕ)) → epoch ≡ Some e → 1 ≤ e → Spells bytes list → StandsFor epoch bytes list
stands_under epoch e bytes list is le s = subst (λ o. StandsFor o bytes list) (sym is) (stands e bytes list le s)

pub told : {T : Type 0} (o : Option T) → is_some o ≡ true → (x : T) × (o ≡ Some x)
told None is = cc
told (Some x) is = (x, refl)

-- nothing but what was
pub unchanged : (epoch epoch_now : Option ℕ) (old now : List ℕ → Type 0) (added : List (List ℕ)) → epoch_now ≡ epoch → EachStandsFor epoch old (λ _. ⊤) → KeepsImages old now → Extends epoch old epoch_now now added 0
unchanged epoch epoch_now old now added same stand goes = record {
  each = λ c im. let s = stand c (goes c im) in
      (s.0, subst (λ o. StandsFor o c s.0) (sym same) s.1, (s.0, 0, omega arith, (c, goes c im, s.1), sym (append-nil s.0)));
}

-- the list as it was
pub as_before : (epoch : Option ℕ) (old now : List ℕ → Type 0) (list added : List (List ℕ)) → ((c : List ℕ) → now c → StandsFor epoch c list × MayStandFor epoch old list) → Extends epoch old epoch now added 0
as_before epoch old now list added each = record {
  each = λ c im. let s = each c im in (list, s.0, (list, 0, omega arith, s.1, sym (append-nil list)));
}
