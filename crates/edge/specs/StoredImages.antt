-- Laws of the images of a disk in memory (this product's own).
use Rattle.std.specs.Prelude.{◌≡◌, ℕ, List, Some, None, refl}
use Rattle.std.proofs.Common.{subst, arith}
use Rattle.edge.specs.Stored.{Stored, IsImageOf}

-- the bytes themselves are an image
image_self : (s : Stored) → IsImageOf s s.bytes
image_self s = record { no_shorter = omega arith; no_longer = omega arith; same = λ k a b c. refl }

-- what is told is what there is
some_is : (a b : List ℕ) → Some a ≡ Some b → a ≡ b
some_is a b e = cc

-- as it reads a disk is one of its images
pub reads_as : (s : Stored) (b : List ℕ) → Some s.bytes ≡ Some b → IsImageOf s b
reads_as s b is = subst (λ l. IsImageOf s l) (some_is s.bytes b is) (image_self s)

-- a disk that tells nothing reads as nothing
pub none_told : (b : List ℕ) → None ≡ Some b → ⊥
none_told b is = cc
