use Rattle.std.proofs.Common.{◌≡◌, ◌++◌, take}
use Rattle.std.specs.Prelude.{fold}
use Rattle.json_objects.specs.Tokens.{tokens_of}
use Rattle.charging_json.specs.ReplyWritten.{info_data}
use Rattle.charging_json.proofs.reply_writer.put_infos.Given as goal

abbrev pub invariant-loop-info : goal.invariant-loop-info
invariant-loop-info l = record {
  tokens : l.out.tokens ≡ fold (λ ts info. ts ++ tokens_of (info_data info)) l.initial.out.tokens (take l.info-index l.infos);
  before : l.out.before ≡ l.initial.out.before;
}
