-- The commands of messages read back where their bodies do.
use Rattle.std.proofs.Common.{◌≡◌, ◌∙◌, ◌-◌, ◌^◌, ◌≤◌, ℕ, ap, sym, refl, List, [], ◌∷◌, ◌++◌, Option, Some, None, Result, Ok, Err, codes, decimal, arith, append_assoc}
use Rattle.std.specs.Prelude.{option_and_then, option_map}
use Rattle.std.specs.Result.{OnOk, result_ok}
use Rattle.serde_json.specs.Written.{compact_text}
use Rattle.units.specs.Ranges.{Is32}
use Rattle.units.specs.declared.request.Operation.{Operation}
use Rattle.units.specs.declared.request.Operation.TheVariants.{Create, Update, Release}
use Rattle.units.specs.declared.request.Request.{Request}
use Rattle.units.specs.declared.spending.SpendContext.{SpendContext}
use Rattle.rows.specs.Number.{number_of}
use Rattle.row_texts.specs.Words.{after_space}
use Rattle.row_texts.specs.ReadBack.{NumbersReadBack}
use Rattle.charging_json.specs.Request.{request_in}
use Rattle.charging_json.specs.RequestWritten.{request_data}
use Rattle.spend_json.specs.Context.{context_in}
use Rattle.spend_json.specs.ContextWritten.{context_data}
use Rattle.chf_core.specs.declared.command.Command.TheVariants.{Charge, Subscribe, Modify, Unsubscribe, NoticeSent}
use Rattle.chf_payloads.specs.Written.{operation_text}
use Rattle.chf_payloads.specs.Read.{charge_in, charged, context_of, modify_in, request_of, sent_in, session_request}
use Rattle.chf_payloads.specs.Payloads.{ReadsBack}
use Rattle.chf_payloads.specs.Laws.{FitsOperation}

-- the request of the session of a reference
session : NumbersReadBack → (operation : ℕ → Operation) (reference : ℕ) (body : List ℕ) → Is32 reference → session_request operation ((decimal reference ++ codes " ") ++ body) ≡ request_of (operation reference) body
session numbers operation reference body fits =
    let text = (decimal reference ++ codes " ") ++ body in
    ap (option_and_then (λ r. request_of (operation r) (after_space text))) (numbers.before_space (2 ^ 32 - 1) reference body (omega (arith, fits)) (omega (arith, fits)))
    ∙ ap (request_of (operation reference)) (numbers.after_space reference body (omega (arith, fits)))

-- a request behind its operation
behind : NumbersReadBack → (operation : Operation) (body : List ℕ) → FitsOperation operation → charge_in (operation_text operation ++ body) ≡ request_of operation body
behind numbers Create body fits = refl
behind numbers (Update reference) body fits = session numbers Update reference body fits
behind numbers (Release reference) body fits = session numbers Release reference body fits

pub charge_back : NumbersReadBack → (q : Request) → FitsOperation q.operation → request_in q.operation (compact_text (request_data q)) ≡ Ok q → ReadsBack (Charge q)
charge_back numbers q fits back = behind numbers q.operation (compact_text (request_data q)) fits ∙ ap charged back

pub subscribe_back : (x : SpendContext) → context_in (compact_text (context_data x)) ≡ Ok x → ReadsBack (Subscribe x)
subscribe_back x back = ap (λ r. option_map (λ c. Subscribe c) (result_ok r)) back

pub modify_back : NumbersReadBack → (id : ℕ) (x : SpendContext) → Is32 id → context_in (compact_text (context_data x)) ≡ Ok x → ReadsBack (Modify id x)
modify_back numbers id x fits back =
    let body = compact_text (context_data x) in
    let text = (decimal id ++ codes " ") ++ body in
    ap modify_in (sym (append_assoc (decimal id) (codes " ") body))
    ∙ ap (option_and_then (λ n. option_map (λ c. Modify n c) (context_of (after_space text)))) (numbers.before_space (2 ^ 32 - 1) id body (omega (arith, fits)) (omega (arith, fits)))
    ∙ ap (λ t. option_map (λ c. Modify id c) (context_of t)) (numbers.after_space id body (omega (arith, fits)))
    ∙ ap (λ r. option_map (λ c. Modify id c) (result_ok r)) back

pub remove_back : NumbersReadBack → (id : ℕ) → Is32 id → ReadsBack (Unsubscribe id)
remove_back numbers id fits = ap (option_map (λ n. Unsubscribe n)) (numbers.field (2 ^ 32 - 1) id (omega (arith, fits)) (omega (arith, fits)))

pub sent_back : NumbersReadBack → (id number : ℕ) → Is32 id → Is32 number → ReadsBack (NoticeSent id number)
sent_back numbers id number fits small =
    let body = decimal number in
    let text = (decimal id ++ codes " ") ++ body in
    ap sent_in (sym (append_assoc (decimal id) (codes " ") body))
    ∙ ap (option_and_then (λ n. option_map (λ m. NoticeSent n m) (number_of (2 ^ 32 - 1) (after_space text)))) (numbers.before_space (2 ^ 32 - 1) id body (omega (arith, fits)) (omega (arith, fits)))
    ∙ ap (λ t. option_map (λ m. NoticeSent id m) (number_of (2 ^ 32 - 1) t)) (numbers.after_space id body (omega (arith, fits)))
    ∙ ap (option_map (λ m. NoticeSent id m)) (numbers.field (2 ^ 32 - 1) number (omega (arith, small)) (omega (arith, small)))

-- what holds anyway holds where a call went well
pub always : {T E P : Type 0} (r : Result T E) → P → OnOk r P
always (Ok x) p = p
always (Err e) p = tt
