use Rattle.std.proofs.Common.{◌≡◌, None, ◌∙◌, ap}
use Rattle.matchit.proofs.OnLiterals.{matchit_on_literals}
use Rattle.matchit.specs.Order.{placed}
use Rattle.matchit.specs.Router.{nearest}
use Rattle.routes.specs.Table.{release_row, sessions_row, subscription_row, subscriptions_row, update_row}
use Rattle.routes.proofs.Inserts.{hands_on, only_memory}
use Rattle.routes.proofs.table.router.Goals as goal

pub returns-clause-table : goal.returns-clause-table
unfolding matchit_on_literals
returns-clause-table c =
    c.in_ok-insert-5.ensures.1 ∙ ap (λ rs. placed (subscription_row.pattern, subscription_row) rs) (c.in_ok-insert-4.ensures.1 ∙ ap (λ rs. placed (subscriptions_row.pattern, subscriptions_row) rs) (c.in_ok-insert-3.ensures.1 ∙ ap (λ rs. placed (release_row.pattern, release_row) rs) (c.in_ok-insert-2.ensures.1 ∙ ap (λ rs. placed (update_row.pattern, update_row) rs) (c.in_ok-insert.ensures.1 ∙ ap (λ rs. placed (sessions_row.pattern, sessions_row) rs) c.new-router.ensures))))

pub returns-in_err-insert-clause-memory : goal.returns-in_err-insert-clause-memory
unfolding matchit_on_literals
returns-in_err-insert-clause-memory c =
    let why = c.in_err-insert.field-0.0 in
    let free : nearest sessions_row.pattern c.new-router.result ≡ None = ap (nearest sessions_row.pattern) (c.new-router.ensures) in
    hands_on c.from_residual.result why c.from_residual.ensures.1 (only_memory sessions_row.pattern c.new-router.result why free c.in_err-insert.ensures.1)

pub returns-in_err-insert-2-clause-memory : goal.returns-in_err-insert-2-clause-memory
unfolding matchit_on_literals
returns-in_err-insert-2-clause-memory c =
    let why = c.in_err-insert-2.field-0.0 in
    let free : nearest update_row.pattern c.insert.new.self ≡ None = ap (nearest update_row.pattern) (c.in_ok-insert.ensures.1 ∙ ap (λ rs. placed (sessions_row.pattern, sessions_row) rs) (c.new-router.ensures)) in
    hands_on c.from_residual-in_err-insert-2.result why c.from_residual-in_err-insert-2.ensures.1 (only_memory update_row.pattern c.insert.new.self why free c.in_err-insert-2.ensures.1)

pub returns-in_err-insert-3-clause-memory : goal.returns-in_err-insert-3-clause-memory
unfolding matchit_on_literals
returns-in_err-insert-3-clause-memory c =
    let why = c.in_err-insert-3.field-0.0 in
    let free : nearest release_row.pattern c.insert-2.new.self ≡ None = ap (nearest release_row.pattern) (c.in_ok-insert-2.ensures.1 ∙ ap (λ rs. placed (update_row.pattern, update_row) rs) (c.in_ok-insert.ensures.1 ∙ ap (λ rs. placed (sessions_row.pattern, sessions_row) rs) (c.new-router.ensures))) in
    hands_on c.from_residual-in_err-insert-3.result why c.from_residual-in_err-insert-3.ensures.1 (only_memory release_row.pattern c.insert-2.new.self why free c.in_err-insert-3.ensures.1)

pub returns-in_err-insert-4-clause-memory : goal.returns-in_err-insert-4-clause-memory
unfolding matchit_on_literals
returns-in_err-insert-4-clause-memory c =
    let why = c.in_err-insert-4.field-0.0 in
    let free : nearest subscriptions_row.pattern c.insert-3.new.self ≡ None = ap (nearest subscriptions_row.pattern) (c.in_ok-insert-3.ensures.1 ∙ ap (λ rs. placed (release_row.pattern, release_row) rs) (c.in_ok-insert-2.ensures.1 ∙ ap (λ rs. placed (update_row.pattern, update_row) rs) (c.in_ok-insert.ensures.1 ∙ ap (λ rs. placed (sessions_row.pattern, sessions_row) rs) (c.new-router.ensures)))) in
    hands_on c.from_residual-in_err-insert-4.result why c.from_residual-in_err-insert-4.ensures.1 (only_memory subscriptions_row.pattern c.insert-3.new.self why free c.in_err-insert-4.ensures.1)

pub returns-in_err-insert-5-clause-memory : goal.returns-in_err-insert-5-clause-memory
unfolding matchit_on_literals
returns-in_err-insert-5-clause-memory c =
    let why = c.in_err-insert-5.field-0.0 in
    let free : nearest subscription_row.pattern c.insert-4.new.self ≡ None = ap (nearest subscription_row.pattern) (c.in_ok-insert-4.ensures.1 ∙ ap (λ rs. placed (subscriptions_row.pattern, subscriptions_row) rs) (c.in_ok-insert-3.ensures.1 ∙ ap (λ rs. placed (release_row.pattern, release_row) rs) (c.in_ok-insert-2.ensures.1 ∙ ap (λ rs. placed (update_row.pattern, update_row) rs) (c.in_ok-insert.ensures.1 ∙ ap (λ rs. placed (sessions_row.pattern, sessions_row) rs) (c.new-router.ensures))))) in
    hands_on c.from_residual-in_err-insert-5.result why c.from_residual-in_err-insert-5.ensures.1 (only_memory subscription_row.pattern c.insert-4.new.self why free c.in_err-insert-5.ensures.1)
