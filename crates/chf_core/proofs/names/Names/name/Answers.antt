use Rattle.std.proofs.Common.{ap, ◌∙◌, slice_get, option_map, reverse, string_bytes}
use Rattle.chf_core.specs.Named.{Named}
use Rattle.chf_core.proofs.NameLists.{names_at}
use Rattle.chf_core.proofs.names.Names.name.Goals as goal

pub returns : goal.returns
returns c = c.text_in.ensures ∙ ap (λ l. option_map string_bytes (slice_get l c.args.number)) c.as_slice.ensures.keys ∙ names_at c.self.inside.texts.keys c.args.number ∙ ap (λ (v : Named). slice_get (reverse v.list) c.args.number) c.self.view_is
