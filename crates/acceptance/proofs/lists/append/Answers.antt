use Rattle.std.proofs.Common.{◌++◌, ◌∷◌, []}
use Rattle.acceptance.proofs.lists.append.Goals as goal

pub returns-in-Ok : goal.returns-in-Ok
returns-in-Ok g c = record { held = (c.requires.held.0 ++ c.args.entry.now ∷ [], c.in-Ok.ensures.added c.requires.held.0 c.requires.held.1) }

pub returns-in-Err : goal.returns-in-Err
returns-in-Err g c = record { held = (c.requires.held.0, c.in-Err.ensures.kept c.requires.held.0 c.requires.held.1) }
