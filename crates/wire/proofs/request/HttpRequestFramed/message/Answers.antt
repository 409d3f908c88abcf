use Rattle.std.proofs.Common.{◌∙◌, subst, sym}
use Rattle.std.specs.Prelude.{IsUtf8}
use Rattle.wire.proofs.Found.{token_is_text}
use Rattle.wire.proofs.request.HttpRequestFramed.message.Goals as goal

pub text_of-requires : goal.text_of-requires
text_of-requires c = let parts = c.requires.1 in subst IsUtf8 (sym (c.of.ensures ∙ parts.method)) (token_is_text parts.head.method parts.token)
