use Rattle.std.proofs.Common.{◌≡◌, ℕ, List, map, Bor, refl, true, false}
use Rattle.clap.specs.Words.{app_of, kind_of}
use Rattle.charging.proofs.ClapFaults.{none_ok, none_err}
use Rattle.charging.proofs.parsing.are_none.Goals as goal

pub returns-in-Ok : goal.returns-in-Ok
returns-in-Ok c =
    let ws = map (λ (w : Bor (List ℕ)). w.now) c.args.texts.now in
    (λ _. none_ok (app_of c.bare_command.result) ws c.bare_command.ensures c.requires c.in-Ok.ensures.kinds, λ _. refl)

pub returns : goal.returns
returns c =
    let ws = map (λ (w : Bor (List ℕ)). w.now) c.args.texts.now in
    (λ f. absurd (cc), λ are. absurd (none_err (app_of c.bare_command.result) ws (kind_of c.in-Err.e) c.bare_command.ensures c.requires c.in-Err.ensures.kinds (λ same. let f : false ≡ true = c.if-is_memory.ensures.1 same in absurd (cc)) are))
