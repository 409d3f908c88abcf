use Rattle.std.proofs.Common.{◌≡◌, ◌∙◌, ap, sym}
use Rattle.std.proofs.lemmas.Option.{same_Some}
use Rattle.chf_payloads.specs.Read.{command_in}
use Rattle.chf_payloads.proofs.payloads.payloads_differ.Goals as goal

pub returns : goal.returns
returns c = λ a b reads other same. same_Some a b (sym reads ∙ ap command_in same ∙ other)
