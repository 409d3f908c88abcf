use Rattle.std.proofs.Common.{◌≡◌, ◌∙◌, ap, sym}
use Rattle.std.proofs.lemmas.Option.{same_Some}
use Rattle.smf_payloads.specs.Read.{event_in, setup_in}
use Rattle.smf_payloads.proofs.payloads.payloads_differ.Goals as goal

pub returns : goal.returns
returns c = record {
  setups = λ a b reads other same. same_Some a b (sym reads ∙ ap setup_in same ∙ other);
  events = λ a b reads other same. same_Some a b (sym reads ∙ ap event_in same ∙ other);
}
