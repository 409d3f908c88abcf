-- How long a charging data request that was read may be as it is written (this product's own).
use Rattle.std.specs.Prelude.{◌≡◌, ◌≤◌, ◌*◌, ℕ, List, length, Ok}
use Rattle.serde_json.specs.Written.{compact_text}
use Rattle.units.specs.declared.request.Operation.{Operation}
use Rattle.units.specs.declared.request.Request.{Request}
use Rattle.charging_json.specs.Request.{request_in}
use Rattle.charging_json.specs.RequestWritten.{request_data}

-- the request that a body is has a text of at most ten times the bytes of the body
abbrev pub WrittenRequestsAreBounded : Type 0
WrittenRequestsAreBounded =
    (operation : Operation) (body : List ℕ) (request : Request) → request_in operation body ≡ Ok request
    → length (compact_text (request_data request)) ≤ 10 * length body
