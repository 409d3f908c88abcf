-- What is granted in a first reply has the first switch after its request's time stamp.
use Rattle.std.proofs.Common.{◌≡◌, ◌==◌, ℕ, suc, Bool, true, false, cond, List, [], ◌∷◌, length, Option, Some, None, refl, sym, subst, arith, ⊎_elim}
use Rattle.std.specs.List.{All}
use Rattle.std.proofs.lemmas.List.Elements.{All-nil, All-cons}
use Rattle.units.specs.declared.request.Operation.{Operation}
use Rattle.units.specs.declared.request.Operation.TheVariants.{Create, Update, Release}
use Rattle.units.specs.declared.request.Request.{Request}
use Rattle.sessions.specs.Kept.{Kept as KeptRequest}
use Rattle.rating.specs.declared.terms.Terms.{Terms}
use Rattle.rating.specs.declared.grant.Grant.{Grant}
use Rattle.accounts.specs.Ledger.{State, free}
use Rattle.chf_core.specs.declared.setup.ChfSetup.{ChfSetup}
use Rattle.chf_core.specs.declared.target.Target.{Target}
use Rattle.chf_core.specs.declared.target.GroupAsk.{GroupAsk}
use Rattle.chf_core.specs.declared.key.Name.{Name}
use Rattle.chf_core.specs.declared.command.Command.{Command}
use Rattle.chf_core.specs.declared.command.Command.TheVariants.{Setup, Charge}
use Rattle.chf_core.specs.Operator.{setup_of}
use Rattle.chf_core.specs.Sessions.{account_for}
use Rattle.chf_core.specs.Effect.{Rating, asks_of, settled, granted, with_grant, terms_of, bare, quota_info, is_success, info_by, infos}
use Rattle.chf_core.specs.Money.{reply_by, created, rates_in, rating_of, target_of, infos_for, answer_of, money}
use Rattle.chf_core.specs.KeptRequests.{kept_of}
use Rattle.chf_core.specs.After.{IsHistory}
use Rattle.chf_core.specs.OfSessions.{HasKey, with_first, units_in, TellsSwitch}
use Rattle.chf_core.proofs.Named.{same_number}
use Rattle.chf_core.proofs.OwnKeys.{next_kept}

one_tells : (rows : List (List (List ℕ))) (stamp group : ℕ) (g : Grant) (t : Option Terms)
    → TellsSwitch rows stamp (info_by rows stamp group g t)
one_tells rows stamp group g None = λ e. absurd (cc)
one_tells rows stamp group g (Some t) = at (is_success g.code)
  where
    at : (b : Bool) → TellsSwitch rows stamp (cond b (quota_info rows stamp group t g) (bare group g.code))
    at true = λ e. refl
    at false = λ e. absurd (cc)

all_tell : (rating : Rating) (t : Target) (stamp : ℕ) (asks : List GroupAsk) (s : State)
    → All (TellsSwitch rating.rates stamp) (infos rating t stamp asks s)
all_tell rating t stamp [] s = All-nil (TellsSwitch rating.rates stamp)
all_tell rating t stamp (a ∷ asks) s =
    All-cons (TellsSwitch rating.rates stamp)
    (info_by rating.rates stamp a.group (granted rating (free s t.account) a) (terms_of rating.rates a.group))
    (infos rating t stamp asks (with_grant rating t stamp a (granted rating (free s t.account) a) s))
    (one_tells rating.rates stamp a.group (granted rating (free s t.account) a) (terms_of rating.rates a.group))
    (all_tell rating t stamp asks (with_grant rating t stamp a (granted rating (free s t.account) a) s))

answer_tells : (rating : Rating) (q : Request) (s : State) (o : Option Target)
    → All (TellsSwitch rating.rates q.stamp) (infos_for rating q s o)
answer_tells rating q s None = All-nil (TellsSwitch rating.rates q.stamp)
answer_tells rating q s (Some t) = all_tell rating t q.stamp (asks_of q.usage) (settled rating t q.usage s)

-- the units of a kept request tell switches, by the tariffs' rows
abbrev pub Tells : List (List (List ℕ)) → KeptRequest → Type 0
Tells rows k = All (TellsSwitch rows k.request.stamp) (units_in k.reply)

reply_tells : (a : List Command) (q : Request) → Tells (rates_in (setup_of a)) (with_first a q)
reply_tells a q = by q.operation
  where
    answered : All (TellsSwitch (rates_in (setup_of a)) q.stamp) (answer_of a q).units
    answered = answer_tells (rating_of a q) q (money a) (target_of a q)

    opened : (o : Option ℕ) → All (TellsSwitch (rates_in (setup_of a)) q.stamp) (units_in (created a q o))
    opened None = All-nil (TellsSwitch (rates_in (setup_of a)) q.stamp)
    opened (Some n) = answered

    by : (o : Operation) → All (TellsSwitch (rates_in (setup_of a)) q.stamp) (units_in (reply_by o a q))
    by Create = opened (account_for a q.subscriber)
    by (Update r) = answered
    by (Release r) = All-nil (TellsSwitch (rates_in (setup_of a)) q.stamp)

abbrev pub AllTell : List Command → Name → Type 0
AllTell a n = All (Tells (rates_in (setup_of a))) (kept_of a n)

charge_tells : (a : List Command) (q : Request) (n : Name) → AllTell a n → AllTell (Charge q ∷ a) n
charge_tells a q n t = ⊎_elim
    (λ (e : kept_of (Charge q ∷ a) n ≡ kept_of a n). subst (All (Tells (rates_in (setup_of a)))) (sym e) t)
    (λ (w : (r : Request) × (Charge q ≡ Charge r) × HasKey a r n
    × (kept_of (Charge q ∷ a) n ≡ with_first a r ∷ kept_of a n)).
    subst (All (Tells (rates_in (setup_of a)))) (sym w.3)
    (All-cons (Tells (rates_in (setup_of a))) (with_first a w.0) (kept_of a n) (reply_tells a w.0) t))
    (next_kept a (Charge q) n)

-- a setup comes first
setup_tells : (setup : ChfSetup) (a : List Command) (n : Name) → (true ≡ (length a == 0)) → AllTell (Setup setup ∷ a) n
setup_tells setup [] n e = All-nil (Tells (rates_in (Some setup)))
setup_tells setup (c ∷ a) n e = absurd (let h : suc (length a) ≡ 0 = same_number (suc (length a)) 0 (sym e) in omega arith)

pub replies_tell : (a : List Command) (n : Name) → IsHistory a → AllTell a n
replies_tell [] n h = All-nil (Tells (rates_in (setup_of [])))
replies_tell (Setup p ∷ a) n h = setup_tells p a n h.1.0
replies_tell (Charge q ∷ a) n h = charge_tells a q n (replies_tell a n h.1.1)
replies_tell (c ∷ a) n h = replies_tell a n h.1.1
