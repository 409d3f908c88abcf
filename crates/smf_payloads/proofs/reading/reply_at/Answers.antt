use Rattle.std.proofs.Common.{◌≡◌, ◌∙◌, true, false, bytes_eq, codes, Some, rules}
use Rattle.std.specs.Result.{result_ok}
use Rattle.std.specs.Str.{is_utf8}
use Rattle.std.proofs.lemmas.Result.{IfOk-weaker}
use Rattle.std.proofs.lemmas.Str.{is_utf8-from_IsUtf8}
use Rattle.charging_json.specs.Reply.{reply_in}
use Rattle.smf_payloads.specs.Read.{reply_at}
use Rattle.smf_payloads.proofs.Locations.{at_text, no_text}
use Rattle.smf_payloads.proofs.Utf8.{no_utf8}
use Rattle.smf_payloads.proofs.reading.reply_at.Goals as goal

pub returns-in-Ok : goal.returns-in-Ok
returns-in-Ok c =
    let absent : bytes_eq c.args.location.now (codes "-") ≡ false = search rules in
    let text : is_utf8 c.args.location.now ≡ true = is_utf8-from_IsUtf8 c.args.location.now c.in-Ok.ensures.cases.1 in
    let same : c.in-Ok.text.now ≡ c.args.location.now = c.in-Ok.ensures.cases.0 in
    IfOk-weaker c.read_as-in-Ok.result (λ o. o ≡ result_ok (reply_in c.args.status (Some c.in-Ok.text.now) c.args.body.now)) (λ o. o ≡ reply_at c.args.status c.args.location.now c.args.body.now)
    (λ o e. e ∙ at_text c.args.status c.args.location.now c.args.body.now c.in-Ok.text.now same absent text) c.read_as-in-Ok.ensures

pub returns-in-Err : goal.returns-in-Err
returns-in-Err c =
    let absent : bytes_eq c.args.location.now (codes "-") ≡ false = search rules in
    no_text c.args.status c.args.location.now c.args.body.now absent (no_utf8 c.args.location.now c.in-Err.ensures.cases.0)
