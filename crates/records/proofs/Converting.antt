-- A record from the element that was read.
use Rattle.std.proofs.Common.{◌≡◌, ℕ, Result, Ok, sym, ap, ◌∙◌}
use Rattle.ber.specs.declared.refusal.BerRefusal.{BerRefusal}
use Rattle.ber.specs.declared.refusal.BerRefusal.TheVariants as refusal
use Rattle.ber.specs.Element.{Element}
use Rattle.ber.specs.Reading.{Fails}
use Rattle.records.specs.declared.record.Record.{Record}
use Rattle.records.specs.Reading.{read_in}

abbrev read : Element → ℕ → Result (Element × ℕ) ℕ
read e n = Ok (e, n)

abbrev triple : Record × ℕ → ℕ → Result (Record × ℕ × ℕ) ℕ
triple x n = Ok (x.0, n, x.1)

abbrev done : {A : Type 0} → A → Result A ℕ
done x = Ok x

pair_is : {A : Type 0} (x y : A) → done x ≡ done y → x ≡ y
pair_is x y e = cc

pub only_ok : (e f : Element) (n m : ℕ) (x made : Record × ℕ) → made ≡ read_in f → x ≡ read_in e → read e n ≡ read f m → triple x n ≡ triple made m
only_ok e f n m x made made-is x-is same =
    let pair = pair_is (e, n) (f, m) same in
    let e-is : e ≡ f = ap (λ (p : Element × ℕ). p.0) pair in
    let n-is : n ≡ m = ap (λ (p : Element × ℕ). p.1) pair in
    let x-same : x ≡ made = x-is ∙ ap read_in e-is ∙ sym made-is in
    ap (λ (y : Record × ℕ). triple y n) x-same ∙ ap (λ (k : ℕ). triple made k) n-is

pub only_err : {B : Type 0} (f : BerRefusal) (e : Element) (n : ℕ) (y : B) → Fails f (read e n) → Fails f (done y)
only_err refusal.OutOfMemory e n y h = tt
only_err (refusal.BadRecord at) e n y h = absurd cc
