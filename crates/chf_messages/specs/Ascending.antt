-- That the policy counters of a status ascend, so that they can be written (this product's own).
use Rattle.std.specs.Prelude.{⊤, IsTrue}
use Rattle.json_objects.specs.Tokens.{do_ascend}
use Rattle.spend_json.specs.StatusWritten.{infos_fields}
use Rattle.chf_core.specs.declared.command.Outcome.{Outcome}
use Rattle.chf_core.specs.declared.command.Outcome.TheVariants.{Spending}

-- where an outcome tells a status, its counters ascend
abbrev pub AscendsIn : Outcome → Type 0
AscendsIn (Spending id status) = IsTrue (do_ascend (infos_fields status.infos))
AscendsIn other = ⊤
