use Rattle.std.proofs.Common.{rules, ◌≡◌, ◌∙◌, sym, Ok, Err}
use Rattle.chf_rows.specs.Setup.{counters_of, front_of, limits_answer, tariff_of}
use Rattle.chf_rows.proofs.Made.{accepted, refused}
use Rattle.chf_rows.proofs.setup_rows.read_setup.Goals as goal

pub returns-in-Some-Some : goal.returns-in-Some-Some
returns-in-Some-Some c = accepted c.args.rows.now c.in-Some-Some.tariffs c.in-Some-Some.counters c.in-Ok.limits (search rules) (search rules) (search rules)

pub returns-in-Err : goal.returns-in-Err
returns-in-Err c = refused c.args.rows.now c.in-Err.row (search rules)
