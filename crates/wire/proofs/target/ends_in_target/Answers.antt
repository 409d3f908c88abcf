use Rattle.std.proofs.Common.{◌≡◌, ◌∙◌, ap, sym, refl, fold, take, arith}
use Rattle.std.proofs.lemmas.List.{take_all}
use Rattle.wire.specs.Target.{step}
use Rattle.wire.specs.declared.target.Place.TheVariants.{Start, Target}
use Rattle.wire.proofs.Scan.{scan_ends, target_ends}
use Rattle.wire.proofs.target.ends_in_target.Goals as goal

pub returns-in-Target : goal.returns-in-Target
returns-in-Target c =
    let whole : take c.loop-byte.byte-index c.args.bytes.now ≡ c.args.bytes.now = take_all c.loop-byte.byte-index c.args.bytes.now (omega arith) in
    let scanned : fold step Start c.args.bytes.now ≡ Target = sym (ap (fold step Start) whole) ∙ sym c.loop-byte.invariant ∙ c.in-Target.is in
    (λ _. target_ends c.args.bytes.now scanned, λ _. refl)

pub returns-in_default : goal.returns-in_default
returns-in_default c =
    let whole : take c.loop-byte.byte-index c.args.bytes.now ≡ c.args.bytes.now = take_all c.loop-byte.byte-index c.args.bytes.now (omega arith) in
    (λ e. absurd (cc), λ ends. absurd (c.in_default.not-Target (c.loop-byte.invariant ∙ ap (fold step Start) whole ∙ scan_ends c.args.bytes.now ends)))
