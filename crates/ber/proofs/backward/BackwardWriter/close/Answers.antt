use Rattle.std.proofs.Common.{◌≡◌, ◌-◌, ◌++◌, ℕ, subst}
use Rattle.std.specs.Prelude.{OnOk}
use Rattle.ber.specs.Written.{length_octets, identifier}
use Rattle.ber.proofs.Putting.{closed}
use Rattle.ber.proofs.backward.BackwardWriter.close.Goals as goal

pub returns-clause-ok : goal.returns-clause-ok
returns-clause-ok c = λ inner rest is all.
    closed c.header.result c.args.tag.now inner c.args.self.now rest c.header.new.self c.args.behind c.requires.tag is all
    (subst (λ (n : ℕ). OnOk c.header.result (c.header.new.self ≡ identifier c.args.tag.now ++ (length_octets (n - c.args.behind) ++ c.args.self.now))) c.len.ensures c.header.ensures.ok)
