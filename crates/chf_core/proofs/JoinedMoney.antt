-- The moves of the commands of a list make the accounts that the whole list says, and the same first replies.
use Rattle.std.proofs.Common.{◌≡◌, ◌||◌, ℕ, ◌+◌, Bool, true, false, cond, List, [], ◌∷◌, ◌++◌, length, map as each, Option, Some, None, is_some, refl, sym, ap, ◌∙◌}
use Rattle.units.specs.declared.answer.UnitInfo.{UnitInfo}
use Rattle.units.specs.declared.request.Operation.{Operation}
use Rattle.units.specs.declared.request.Operation.TheVariants.{Create, Update, Release}
use Rattle.units.specs.declared.request.Used.{Used}
use Rattle.units.specs.declared.request.UnitUsage.{UnitUsage}
use Rattle.units.specs.declared.request.Request.{Request}
use Rattle.units.specs.declared.reply.Reply.TheVariants as reply
use Rattle.accounts.specs.Ledger.{State as Money, free}
use Rattle.accounts.specs.declared.moves.Move.{Move}
use Rattle.accounts.specs.declared.moves.Move.TheVariants.{Released as ReleasedMove, Expired as ExpiredMove}
use Rattle.accounts.specs.Moves.{after as moved, state_of as money_of}
use Rattle.accounts.specs.Making.{made, onto}
use Rattle.chf_core.specs.declared.target.Target.{Target}
use Rattle.chf_core.specs.declared.target.GroupAsk.{GroupAsk}
use Rattle.chf_core.specs.declared.command.Command.{Command}
use Rattle.chf_core.specs.declared.command.Command.TheVariants.{Setup, Charge, Subscriber, TopUp, Expire, CloseRecords}
use Rattle.chf_core.specs.Operator.{barred_in}
use Rattle.chf_core.specs.Sessions as list
use Rattle.chf_core.specs.Sessions.{by_reference}
use Rattle.chf_core.specs.Effect.{Rating, charged_used, charged, gives_back, released, released_one, with_grants, with_grant, closed_by, asks_of, settled, granted, info_of, infos, rating_by}
use Rattle.chf_core.specs.Money as money
use Rattle.chf_core.specs.Money.{used, rates_in, grace_in, failover_in, supi_in, opened_target, named_target, topped, with_account}
use Rattle.chf_core.specs.State.{at_text, account_named}
use Rattle.chf_core.specs.CommandMoves.{target_by, target_of, supi_by, rating_of, charge_of, charges, release_of, releases, settling, reserve_of, grants, closing, moves_for, adding, topping, moves_of, info_for, infos_for}
use Rattle.chf_core.specs.Deciding.{answer_of, created, reply_by, first_reply}
use Rattle.chf_core.specs.After.{state_of, account_moves}
use Rattle.chf_core.proofs.JoinedParts.{setup_is, number_is, account_is, subscribers_are, sessions_are}

-- ---- what the moves of a request make

pub made_more : (x y : List Move) (s : Money) → made (x ++ y) s ≡ made y (made x s)
made_more [] y s = refl
made_more (m ∷ x) y s = made_more x y (moved m s)

made_used : (rates : List (List (List ℕ))) (t : Target) (group : ℕ) (used : List Used) (s : Money)
    → made (each (charge_of rates t group) used) s ≡ charged_used rates t group used s
made_used rates t group [] s = refl
made_used rates t group (c ∷ used) s = made_used rates t group used (moved (charge_of rates t group c) s)

made_charges : (rates : List (List (List ℕ))) (t : Target) (usage : List UnitUsage) (s : Money)
    → made (charges rates t usage) s ≡ charged rates t usage s
made_charges rates t [] s = refl
made_charges rates t (u ∷ usage) s =
    made_more (each (charge_of rates t u.group) u.used) (charges rates t usage) s
    ∙ ap (made (charges rates t usage)) (made_used rates t u.group u.used s)
    ∙ made_charges rates t usage (charged_used rates t u.group u.used s)

made_one : (t : Target) (u : UnitUsage) (s : Money) → made (release_of t u) s ≡ released_one t u s
made_one t u s = by (is_some u.ask || gives_back u)
  where
    by : (b : Bool) → made (cond b (ReleasedMove t.session u.group ∷ []) []) s
        ≡ cond b (moved (ReleasedMove t.session u.group) s) s
    by true = refl
    by false = refl

made_releases : (t : Target) (usage : List UnitUsage) (s : Money)
    → made (releases t usage) s ≡ released t usage s
made_releases t [] s = refl
made_releases t (u ∷ usage) s =
    made_more (release_of t u) (releases t usage) s
    ∙ ap (made (releases t usage)) (made_one t u s)
    ∙ made_releases t usage (released_one t u s)

pub made_settled : (rating : Rating) (t : Target) (usage : List UnitUsage) (s : Money)
    → made (settling rating t usage) s ≡ settled rating t usage s
made_settled rating t usage s =
    made_more (charges rating.rates t usage) (releases t usage) s
    ∙ ap (made (releases t usage)) (made_charges rating.rates t usage s)
    ∙ made_releases t usage (charged rating.rates t usage s)

made_grants : (rating : Rating) (t : Target) (stamp : ℕ) (asks : List GroupAsk) (s : Money)
    → made (each (reserve_of rating t stamp) (grants rating t stamp asks s)) s ≡ with_grants rating t stamp asks s
made_grants rating t stamp [] s = refl
made_grants rating t stamp (a ∷ asks) s =
    made_grants rating t stamp asks (with_grant rating t stamp a (granted rating (free s t.account) a) s)

made_closing : (o : Operation) (t : Target) (s : Money) → made (closing o t) s ≡ closed_by o t s
made_closing Create t s = refl
made_closing (Update r) t s = refl
made_closing (Release r) t s = refl

-- they make of the accounts what the request does to them
pub made_request : (rating : Rating) (q : Request) (s : Money) (o : Option Target)
    → made (moves_for rating q s o) s ≡ used rating q s o
made_request rating q s None = refl
made_request rating q s (Some t) =
    let first = settling rating t q.usage in
    let mid = made first s in
    let asks = asks_of q.usage in
    let given = each (reserve_of rating t q.stamp) (grants rating t q.stamp asks mid) in
    made_more first (given ++ closing q.operation t) s ∙ made_more given (closing q.operation t) mid
    ∙ ap (made (closing q.operation t)) (made_grants rating t q.stamp asks mid)
    ∙ made_closing q.operation t (with_grants rating t q.stamp asks mid)
    ∙ ap (λ (z : Money). closed_by q.operation t (with_grants rating t q.stamp asks z))
    (made_settled rating t q.usage s)

-- ---- whom a request charges, and by what it is rated

supi_is : (o : Operation) (a : List Command) (q : Request) → supi_by o (state_of a) q ≡ money.supi_by o a q
supi_is Create a q = refl
supi_is (Update r) a q = λ i. supi_in (by_reference (sessions_are a i) r)
supi_is (Release r) a q = λ i. supi_in (by_reference (sessions_are a i) r)

rating_is : (a : List Command) (q : Request) → rating_of (state_of a) q ≡ money.rating_of a q
rating_is a q =
    let supi = supi_is q.operation a q in
    let row = ap (at_text (state_of a).subscribers) supi ∙ subscribers_are a (money.supi_by q.operation a q) in
    λ i. rating_by (rates_in (setup_is a i)) (grace_in (setup_is a i)) (barred_in (row i))

target_by_is : (o : Operation) (a : List Command) (q : Request) → target_by o (state_of a) q ≡ money.target_by o a q
target_by_is Create a q = λ i. opened_target (length (sessions_are a i)) (account_is a q.subscriber i)
target_by_is (Update r) a q = λ i. named_target r (by_reference (sessions_are a i) r)
target_by_is (Release r) a q = λ i. named_target r (by_reference (sessions_are a i) r)

pub target_is : (a : List Command) (q : Request) → target_of (state_of a) q ≡ money.target_of a q
target_is a q = target_by_is q.operation a q

-- ---- the accounts

made_adding : (o : Option ℕ) (s : Money) → made (adding o) s ≡ with_account s o
made_adding None s = refl
made_adding (Some n) s = refl

made_topping : (amount : ℕ) (o : Option ℕ) (s : Money) → made (topping amount o) s ≡ topped s amount o
made_topping amount None s = refl
made_topping amount (Some n) s = refl

pub money_is : (a : List Command) → (state_of a).money ≡ money.money a
money_is [] = refl
money_is (Setup setup ∷ a) = money_is a
money_is (Charge q ∷ a) =
    let s = state_of a in
    made_request (rating_of s q) q s.money (target_of s q)
    ∙ (λ i. used (rating_is a q i) q (money_is a i) (target_is a q i))
money_is (Subscriber supi account barred ∷ a) =
    let s = state_of a in
    made_adding (account_named s account) s.money ∙ (λ i. with_account (money_is a i) (number_is a account i))
money_is (TopUp id account amount ∷ a) =
    let s = state_of a in
    made_topping amount (account_named s account) s.money
    ∙ (λ i. topped (money_is a i) amount (number_is a account i))
money_is (Expire moment ∷ a) = ap (moved (ExpiredMove moment)) (money_is a)
money_is (c ∷ a) = money_is a

-- and they are those of all moves
onto_made : (moves before : List Move) → money_of (onto moves before) ≡ made moves (money_of before)
onto_made [] before = refl
onto_made (m ∷ moves) before = onto_made moves (m ∷ before)

pub moves_are : (a : List Command) → (state_of a).money ≡ money_of (account_moves a)
moves_are [] = refl
moves_are (c ∷ a) =
    let moves = moves_of (state_of a) c in
    ap (made moves) (moves_are a) ∙ sym (onto_made moves (account_moves a))

-- ---- first replies

told_grants : (rating : Rating) (t : Target) (stamp : ℕ) (asks : List GroupAsk) (s : Money)
    → each (info_for rating stamp) (grants rating t stamp asks s) ≡ infos rating t stamp asks s
told_grants rating t stamp [] s = refl
told_grants rating t stamp (a ∷ asks) s =
    let g = granted rating (free s t.account) a in
    ap (λ (l : List UnitInfo). info_of rating stamp a g ∷ l)
    (told_grants rating t stamp asks (with_grant rating t stamp a g s))

infos_are : (rating : Rating) (q : Request) (s : Money) (o : Option Target)
    → infos_for rating q s o ≡ money.infos_for rating q s o
infos_are rating q s None = refl
infos_are rating q s (Some t) =
    told_grants rating t q.stamp (asks_of q.usage) (made (settling rating t q.usage) s)
    ∙ ap (infos rating t q.stamp (asks_of q.usage)) (made_settled rating t q.usage s)

answer_is : (a : List Command) (q : Request) → answer_of (state_of a) q ≡ money.answer_of a q
answer_is a q =
    let s = state_of a in
    let units = infos_are (rating_of s q) q s.money (target_of s q)
    ∙ (λ i. money.infos_for (rating_is a q i) q (money_is a i) (target_is a q i)) in
    λ i. record {
      number = q.number;
      stamp = q.stamp;
      failover = failover_in (setup_is a i);
      handling = None;
      triggers = [];
      units = units i;
    }

created_is : (a : List Command) (q : Request) (o : Option ℕ) → created (state_of a) q o ≡ money.created a q o
created_is a q None = refl
created_is a q (Some n) = λ i. reply.Created (length (sessions_are a i) + 1) (answer_is a q i)

reply_by_is : (o : Operation) (a : List Command) (q : Request) → reply_by o (state_of a) q ≡ money.reply_by o a q
reply_by_is Create a q =
    ap (created (state_of a) q) (account_is a q.subscriber) ∙ created_is a q (list.account_for a q.subscriber)
reply_by_is (Update r) a q = λ i. reply.Updated (answer_is a q i)
reply_by_is (Release r) a q = refl

pub reply_is : (a : List Command) (q : Request) → first_reply (state_of a) q ≡ money.first_reply a q
reply_is a q = reply_by_is q.operation a q
