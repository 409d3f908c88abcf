use Rattle.std.proofs.Common.{◌≡◌, ◌++◌, take}
use Rattle.std.specs.Prelude.{fold}
use Rattle.serde_json.specs.Data.{string}
use Rattle.json_objects.specs.Tokens.{tokens_of}
use Rattle.json_objects.proofs.lists.put_texts.Given as goal

abbrev pub invariant-loop-text : goal.invariant-loop-text
invariant-loop-text l = record {
  tokens : l.out.tokens ≡ fold (λ ts text. ts ++ tokens_of (string text)) l.initial.out.tokens (take l.text-index l.texts);
  before : l.out.before ≡ l.initial.out.before;
}
