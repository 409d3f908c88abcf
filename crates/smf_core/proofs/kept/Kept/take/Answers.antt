use Rattle.std.proofs.Common.{◌∙◌, sym, ap, subst}
use Rattle.smf_core.specs.declared.plan.Change.{Change}
use Rattle.smf_core.specs.Caches.{HasRoom}
use Rattle.smf_core.specs.Plan.{changed, Fits}
use Rattle.smf_core.proofs.kept.Kept.take.Goals as goal

pub take_change-requires : goal.take_change-requires
take_change-requires c =
    record {
      fits = subst (λ (x : Change). Fits x c.args.self.now.session) (sym c.into_change.ensures) c.requires.fits;
      room = subst (λ (x : Change). HasRoom x c.args.self.now) (sym c.into_change.ensures) c.requires.room;
    }

pub returns : goal.returns
returns c = c.take_change.ensures ∙ ap (λ (x : Change). changed x c.args.self.now.session) c.into_change.ensures
