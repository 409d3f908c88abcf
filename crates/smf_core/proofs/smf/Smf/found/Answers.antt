use Rattle.std.proofs.Common.{◌≡◌, ◌∙◌, sym, ap, option_map}
use Rattle.std.specs.Prelude.{slice_get}
use Rattle.smf_core.specs.Index.{place_for}
use Rattle.smf_core.specs.Lookup.{session_for}
use Rattle.smf_core.specs.Caches.{KeptAs, sessions_of}
use Rattle.smf_core.specs.Plan.{Shown}
use Rattle.smf_core.proofs.Found.{found_some, found_none}
use Rattle.smf_core.proofs.smf.Smf.found.Goals as goal

pub returns-in-None : goal.returns-in-None
returns-in-None c =
    let seen : sessions_of c.self.inside.sessions.items ≡ c.args.self.now.machine.sessions = ap (λ (x : Shown). x.machine.sessions) c.self.view_is in
    found_none c.args.number c.self.inside.sessions.items (ap (place_for c.args.number) (sym c.self.invariant.numbers) ∙ sym c.place.ensures.value ∙ c.in-None.is) ∙ ap (session_for c.args.number) seen

pub returns-in-Some : goal.returns-in-Some
returns-in-Some c =
    let seen : sessions_of c.self.inside.sessions.items ≡ c.args.self.now.machine.sessions = ap (λ (x : Shown). x.machine.sessions) c.self.view_is in
    ap (option_map (λ (k : KeptAs). k.session)) (c.kept_at.ensures ∙ ap (λ xs. slice_get xs c.in-Some.at) c.deref.ensures.value)
    ∙ found_some c.args.number c.in-Some.at c.self.inside.sessions.items (ap (place_for c.args.number) (sym c.self.invariant.numbers) ∙ sym c.place.ensures.value ∙ c.in-Some.is) ∙ ap (session_for c.args.number) seen
