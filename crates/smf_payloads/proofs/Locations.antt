-- A Location that is a text.
use Rattle.std.proofs.Common.{◌≡◌, ◌∙◌, ℕ, ap, sym, refl, true, false, bytes_eq, List, codes, Some, None}
use Rattle.std.specs.Result.{result_ok}
use Rattle.std.specs.Str.{is_utf8}
use Rattle.charging_json.specs.Reply.{reply_in}
use Rattle.smf_payloads.specs.Read.{reply_at}

pub at_text : (status : ℕ) (location body text : List ℕ) → text ≡ location → bytes_eq location (codes "-") ≡ false → is_utf8 location ≡ true → result_ok (reply_in status (Some text) body) ≡ reply_at status location body
at_text status location body text same absent utf8 = ap (λ t. result_ok (reply_in status (Some t) body)) same ∙ rw (absent, utf8) refl

pub no_text : (status : ℕ) (location body : List ℕ) → bytes_eq location (codes "-") ≡ false → is_utf8 location ≡ false → None ≡ reply_at status location body
no_text status location body absent utf8 = rw (absent, utf8) refl
