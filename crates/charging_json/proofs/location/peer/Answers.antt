use Rattle.std.proofs.Common.{◌≡◌, None, Ok, codes, refl}
use Rattle.url.specs.Parser.{parse_url, Parsed}
use Rattle.url.specs.Parts.{Parts}
use Rattle.url.proofs.OnLiterals.{url_on_literals}
use Rattle.charging_json.specs.Location.{base}
use Rattle.charging_json.proofs.location.peer.Goals as goal

base_is : parse_url None (codes "http://peer/") ≡ Ok base
unfolding url_on_literals
base_is = refl

same_url : (p : Parsed Parts) (a b : Parts) → p ≡ Ok a → p ≡ Ok b → a ≡ b
same_url p a b e f = cc

pub returns-in-Ok : goal.returns-in-Ok
returns-in-Ok c = same_url (parse_url None (codes "http://peer/")) c.in-Ok.url base c.in-Ok.ensures base_is
