-- The requests that charge a session are its accepted ones, and its lines are theirs.
use Rattle.std.proofs.Common.{◌≡◌, ◌≢◌, ◌⊎◌, ◌==◌, ◌&&◌, ℕ, suc, ◌+◌, ◌-◌, Bool, true, false, cond, List, [], ◌∷◌, ◌++◌, map, length, slice_get, Option, Some, None, option_map, refl, sym, ap, ◌∙◌, subst, arith, inl, inr, ⊎_elim}
use Rattle.std.proofs.lemmas.Bool.{cases_eq}
use Rattle.std.proofs.lemmas.Option.{slice_get_past}
use Rattle.std.proofs.lemmas.List.Elements.{filter-append}
use Rattle.std.proofs.lemmas.List.{append-nil}
use Rattle.units.specs.declared.request.Operation.{Operation}
use Rattle.units.specs.declared.request.Operation.TheVariants.{Create, Update, Release}
use Rattle.units.specs.declared.request.Used.{Used}
use Rattle.units.specs.declared.request.UnitUsage.{UnitUsage}
use Rattle.units.specs.declared.request.Request.{Request}
use Rattle.sessions.specs.Content.{content}
use Rattle.sessions.specs.Kept.{is_success, accepted}
use Rattle.accounts.specs.declared.line.Line.{Line}
use Rattle.chf_core.specs.declared.setup.ChfSetup.{ChfSetup}
use Rattle.chf_core.specs.declared.target.Target.{Target}
use Rattle.chf_core.specs.declared.session.Session.{Session}
use Rattle.chf_core.specs.declared.key.Name.{Name}
use Rattle.chf_core.specs.declared.key.Key.{Key}
use Rattle.chf_core.specs.declared.command.Command.{Command}
use Rattle.chf_core.specs.declared.command.Command.TheVariants.{Setup, Charge}
use Rattle.chf_core.specs.declared.command.Outcome.{Outcome}
use Rattle.chf_core.specs.declared.decision.Verdict.TheVariants.{Fresh}
use Rattle.chf_core.specs.Operator.{setup_of}
use Rattle.chf_core.specs.Sessions.{id_of, name, same_session, account_for, sessions, sessions_after, session_at, reference_of, opens_by, named_by}
use Rattle.chf_core.specs.Keys.{key_of, key_by, key_in}
use Rattle.chf_core.specs.Money.{first_reply, reply_by, created, rates_in, target_of, target_by, opened_target, named_target}
use Rattle.chf_core.specs.Decisions.{decision, at_new, at_new_later}
use Rattle.chf_core.specs.KeptRequests.{is_of, kept_of}
use Rattle.chf_core.specs.Ledger.{line_of, lines_of, lines_for, ledger}
use Rattle.chf_core.specs.State.{name_of}
use Rattle.chf_core.specs.After.{IsHistory}
use Rattle.chf_core.specs.OfSessions.{HasKey, lines_by, lines_of_all, LinesAreOf}
use Rattle.chf_core.proofs.Places.{eq_yes, eq_no}
use Rattle.chf_core.proofs.Named.{same_number, Lasting, lasting, owner, keeps_one, pushed_owner}
use Rattle.chf_core.proofs.SessionLists.{names_same, fails, of_key}
use Rattle.chf_core.proofs.Entered.{fresh_key}
use Rattle.chf_core.proofs.Keyed.{own_number}
use Rattle.chf_core.proofs.OwnKeys.{creates, own_kept, kept_elsewhere, new_session}
use Rattle.chf_core.proofs.ByKept.{AreBySession, by_session, are_fresh, is_new, is_unnamed, goes_on, not_accepted}

rates : List Command → List (List (List ℕ))
rates a = rates_in (setup_of a)

-- ---- of the lines of a target, all are of its session

module _ (rows : List (List (List ℕ))) (t : Target) (r : ℕ) where
  of_used : (b : Bool) → (t.session == r) ≡ b → (group : ℕ) (used : List Used)
      → lines_by r (map (line_of rows t group) used) ≡ cond b (map (line_of rows t group) used) []
  of_used true e group [] = refl
  of_used false e group [] = refl
  of_used true e group (u ∷ used) =
      ap (λ b. cond b (line_of rows t group u ∷ lines_by r (map (line_of rows t group) used))
      (lines_by r (map (line_of rows t group) used))) e
      ∙ ap (λ l. line_of rows t group u ∷ l) (of_used true e group used)
  of_used false e group (u ∷ used) =
      ap (λ b. cond b (line_of rows t group u ∷ lines_by r (map (line_of rows t group) used))
      (lines_by r (map (line_of rows t group) used))) e
      ∙ of_used false e group used

  of_usage : (b : Bool) → (t.session == r) ≡ b → (usage : List UnitUsage)
      → lines_by r (lines_of rows t usage) ≡ cond b (lines_of rows t usage) []
  of_usage true e [] = refl
  of_usage false e [] = refl
  of_usage true e (u ∷ usage) =
      filter-append (λ (l : Line). l.session == r) (map (line_of rows t u.group) u.used) (lines_of rows t usage)
      ∙ (λ i. of_used true e u.group u.used i ++ of_usage true e usage i)
  of_usage false e (u ∷ usage) =
      filter-append (λ (l : Line). l.session == r) (map (line_of rows t u.group) u.used) (lines_of rows t usage)
      ∙ (λ i. of_used false e u.group u.used i ++ of_usage false e usage i)

-- ---- the requests that charge a session

-- whether a target is of it
abbrev pub is_at : ℕ → Option Target → Bool
is_at r None = false
is_at r (Some t) = t.session == r

-- their contents, the newest first
abbrev pub requests_by : List Command → ℕ → List Request
requests_by [] r = []
requests_by (Charge q ∷ before) r =
    cond (is_at r (target_of before q)) (content q ∷ requests_by before r) (requests_by before r)
requests_by (c ∷ before) r = requests_by before r

-- ---- the invariant: the requests and lines of each session, and none of one that is not there

pub record IsLined (a : List Command) (n : Name) (r : ℕ) : Type 0 where
  pub lasts : Lasting
  pub there : owner (sessions a) r ≡ Some lasts
  pub lines : lines_by r (ledger a) ≡ lines_of_all (rates_in (setup_of a)) lasts.account r (accepted (kept_of a n))
  pub requests : requests_by a r ≡ accepted (kept_of a n)

pub record AreLined (a : List Command) : Type 0 where
  pub each : (n : Name) (r : ℕ) → reference_of a n ≡ Some r → IsLined a n r
  pub beyond : (r : ℕ) → owner (sessions a) r ≡ None → lines_by r (ledger a) ≡ []
  pub unasked : (r : ℕ) → owner (sessions a) r ≡ None → requests_by a r ≡ []

-- a later command that charges nothing of it
still_lined : (c : Command) (a : List Command) (n : Name) (r : ℕ) → setup_of (c ∷ a) ≡ setup_of a
    → lines_by r (ledger (c ∷ a)) ≡ lines_by r (ledger a) → accepted (kept_of (c ∷ a) n) ≡ accepted (kept_of a n)
    → requests_by (c ∷ a) r ≡ requests_by a r → IsLined a n r → IsLined (c ∷ a) n r
still_lined c a n r p e t s h = record {
  lasts = h.lasts;
  there = keeps_one c a r h.lasts h.there;
  lines = e ∙ h.lines ∙ (λ i. lines_of_all (rates_in (sym p i)) h.lasts.account r (sym t i));
  requests = s ∙ h.requests ∙ sym t;
}

-- what is not there was not there before
none_before : (c : Command) (a : List Command) (r : ℕ) → owner (sessions (c ∷ a)) r ≡ None
    → owner (sessions a) r ≡ None
none_before c a r e = at (owner (sessions a) r) refl
  where
    at : (o : Option Lasting) → owner (sessions a) r ≡ o → o ≡ None
    at None f = refl
    at (Some l) f = absurd (let z : Some l ≡ None = sym (keeps_one c a r l f) ∙ e in cc)

past_end : (ss : List Session) → owner ss (length ss + 1) ≡ None
past_end ss =
    ap (λ b. option_map lasting (cond b None (slice_get ss (length ss + 1 - 1))))
    (eq_no (length ss + 1) 0 (λ z. let h : length ss + 1 ≡ 0 = z in omega arith))
    ∙ ap (option_map lasting) (slice_get_past ss (length ss + 1 - 1) (omega arith))

-- ---- a request

-- what it adds to the lines of a session
added : (a : List Command) (q : Request) (r : ℕ) (o : Option Target) → target_of a q ≡ o
    → lines_by r (ledger (Charge q ∷ a)) ≡ lines_by r (ledger a) ++ lines_by r (lines_for (rates a) q o)
unfolding rates
added a q r o e =
    filter-append (λ (l : Line). l.session == r) (ledger a) (lines_for (rates_in (setup_of a)) q (target_of a q))
    ∙ ap (λ t. lines_by r (ledger a) ++ lines_by r (lines_for (rates_in (setup_of a)) q t)) e

-- and to its requests
asked : (a : List Command) (q : Request) (r : ℕ) (o : Option Target) → target_of a q ≡ o
    → requests_by (Charge q ∷ a) r ≡ cond (is_at r o) (content q ∷ requests_by a r) (requests_by a r)
asked a q r o e = ap (λ (t : Option Target). cond (is_at r t) (content q ∷ requests_by a r) (requests_by a r)) e

-- one that is not accepted charges nothing
unknown_lined : (a : List Command) (q : Request) → AreLined a → target_of a q ≡ None
    → ((n : Name) → reference_of (Charge q ∷ a) n ≡ reference_of a n)
    → is_success (first_reply a q) ≡ false → AreLined (Charge q ∷ a)
unknown_lined a q l t refs g = record {
  each = λ n r e. still_lined (Charge q) a n r refl (same r)
      (not_accepted a q (is_of (key_of a q) n) (first_reply a q) (kept_of a n) g) (asked a q r None t)
      (l.each n r (sym (refs n) ∙ e));
  beyond = λ r e. same r ∙ l.beyond r (none_before (Charge q) a r e);
  unasked = λ r e. asked a q r None t ∙ l.unasked r (none_before (Charge q) a r e);
}
  where
    same : (r : ℕ) → lines_by r (ledger (Charge q ∷ a)) ≡ lines_by r (ledger a)
    same r = added a q r None t ∙ append-nil (lines_by r (ledger a))

-- one that is accepted charges the session of its key alone
module _ (a : List Command) (q : Request) (m : Name) (t : Target) (l : AreLined a) (mine : HasKey a q m)
    (at : target_of a q ≡ Some t) (good : is_success (first_reply a q) ≡ true) where
  others : (r : ℕ) → t.session ≢ r → lines_by r (ledger (Charge q ∷ a)) ≡ lines_by r (ledger a)
  others r d =
      added a q r (Some t) at
      ∙ ap (λ x. lines_by r (ledger a) ++ x) (of_usage (rates a) t r false (eq_no t.session r d) q.usage)
      ∙ append-nil (lines_by r (ledger a))

  others_asked : (r : ℕ) → t.session ≢ r → requests_by (Charge q ∷ a) r ≡ requests_by a r
  others_asked r d =
      asked a q r (Some t) at ∙ ap (λ b. cond b (content q ∷ requests_by a r) (requests_by a r)) (eq_no t.session r d)

  own_asked : requests_by (Charge q ∷ a) t.session ≡ content q ∷ requests_by a t.session
  own_asked =
      asked a q t.session (Some t) at
      ∙ ap (λ b. cond b (content q ∷ requests_by a t.session) (requests_by a t.session))
      (eq_yes t.session t.session refl)

  all : lines_by t.session (ledger (Charge q ∷ a))
      ≡ lines_by t.session (ledger a) ++ lines_of (rates_in (setup_of a)) t q.usage
  unfolding rates
  all =
      added a q t.session (Some t) at
      ∙ ap (λ x. lines_by t.session (ledger a) ++ x)
      (of_usage (rates_in (setup_of a)) t t.session true (eq_yes t.session t.session refl) q.usage)

  one_more : accepted (kept_of (Charge q ∷ a) m) ≡ content q ∷ accepted (kept_of a m)
  one_more =
      ap accepted (own_kept a q m mine) ∙ ap (λ b. cond b (content q ∷ accepted (kept_of a m)) (accepted (kept_of a m))) good

  -- its own session, of which the lines before are those of its accepted requests before
  own_lined : (x : Lasting) → owner (sessions (Charge q ∷ a)) t.session ≡ Some x → x.account ≡ t.account
      → lines_by t.session (ledger a) ≡ lines_of_all (rates_in (setup_of a)) x.account t.session (accepted (kept_of a m))
      → requests_by a t.session ≡ accepted (kept_of a m) → IsLined (Charge q ∷ a) m t.session
  own_lined x o e f g = record {
    lasts = x;
    there = o;
    lines =
        all
        ∙ (λ i. f i ++ lines_of (rates_in (setup_of a)) (record { account = sym e i; session = t.session }) q.usage)
        ∙ sym (ap (lines_of_all (rates_in (setup_of a)) x.account t.session) one_more);
    requests = own_asked ∙ ap (λ l. content q ∷ l) g ∙ sym one_more;
  }

  -- a reference after it: its own session's, or that of another as before
  abbrev pub Splits : Type 0
  Splits =
      (n : Name) (r : ℕ) → reference_of (Charge q ∷ a) n ≡ Some r
      → ((m ≡ n) × (t.session ≡ r))
      ⊎ ((reference_of a n ≡ Some r) × (t.session ≢ r) × (same_session m n ≡ false))

  charged_lined : Splits → IsLined (Charge q ∷ a) m t.session → AreLined (Charge q ∷ a)
  charged_lined splits h = record {
    each = λ n r e. ⊎_elim
        (λ (w : (m ≡ n) × (t.session ≡ r)).
        subst (λ x. IsLined (Charge q ∷ a) n x) w.1 (subst (λ x. IsLined (Charge q ∷ a) x t.session) w.0 h))
        (λ (w : (reference_of a n ≡ Some r) × (t.session ≢ r) × (same_session m n ≡ false)).
        still_lined (Charge q) a n r refl (others r w.1) (ap accepted (kept_elsewhere a q m n mine w.2))
        (others_asked r w.1) (l.each n r w.0))
        (splits n r e);
    beyond = λ r e. others r (elsewhere r e) ∙ l.beyond r (none_before (Charge q) a r e);
    unasked = λ r e. others_asked r (elsewhere r e) ∙ l.unasked r (none_before (Charge q) a r e);
  }
    where
      elsewhere : (r : ℕ) → owner (sessions (Charge q ∷ a)) r ≡ None → t.session ≢ r
      elsewhere r e z =
          let w : Some h.lasts ≡ None = sym h.there ∙ ap (owner (sessions (Charge q ∷ a))) z ∙ e in cc

-- a Create that opens a session
opens_lined : (a : List Command) (q : Request) (x : ℕ) → AreBySession a → AreLined a → q.operation ≡ Create
    → account_for a q.subscriber ≡ Some x → reference_of a (name q.consumer (id_of q.charging_id)) ≡ None
    → AreLined (Charge q ∷ a)
opens_lined a q x s l e f unnamed = charged_lined a q mine t l own_it at good splits
    (own_lined a q mine t l own_it at good (lasting (new_session q x))
    ((λ i. owner (sessions_after (e i) q (f i) (sessions a)) (length (sessions a) + 1))
    ∙ pushed_owner (sessions a) (new_session q x)) refl
    (l.beyond (length (sessions a) + 1) (past_end (sessions a))
    ∙ sym (ap (lines_of_all (rates_in (setup_of a)) x (length (sessions a) + 1)) (s.none mine unnamed)))
    (l.unasked (length (sessions a) + 1) (past_end (sessions a)) ∙ sym (s.none mine unnamed)))
  where
    mine : Name
    mine = name q.consumer (id_of q.charging_id)

    t : Target
    t = record { account = x; session = length (sessions a) + 1 }

    own_it : HasKey a q mine
    own_it = creates a q e

    at : target_of a q ≡ Some t
    at = ap (λ p. target_by p a q) e ∙ ap (opened_target (length (sessions a))) f

    good : is_success (first_reply a q) ≡ true
    good = ap (λ p. is_success (reply_by p a q)) e ∙ ap (λ v. is_success (created a q v)) f

    splits : Splits a q mine t l own_it at good
    splits n r w = by (same_session mine n) refl
        (sym (λ i. cond (opens_by (e i) (f i) && same_session mine n) (Some (length (sessions a) + 1)) (reference_of a n)) ∙ w)
      where
        by : (b : Bool) → same_session mine n ≡ b
            → cond b (Some (length (sessions a) + 1)) (reference_of a n) ≡ Some r
            → ((mine ≡ n) × (t.session ≡ r))
            ⊎ ((reference_of a n ≡ Some r) × (t.session ≢ r) × (same_session mine n ≡ false))
        by true y z = inl (names_same mine n y, let g : length (sessions a) + 1 ≡ r = cc in g)
        by false y z = inr (
          z,
          λ g. let h = l.each n r z in
              let k : Some h.lasts ≡ None = sym h.there ∙ ap (owner (sessions a)) (sym g) ∙ past_end (sessions a) in cc,
          y,
        )

-- an Update or Release of a session
goes_lined : (a : List Command) (q : Request) (m : Name) (p : ℕ) (x : Session) → AreBySession a → AreLined a
    → HasKey a q m → session_at a p ≡ Some x → m ≡ name_of x
    → target_of a q ≡ Some (record { account = x.account; session = p })
    → opens_by q.operation (account_for a q.subscriber) ≡ false → is_success (first_reply a q) ≡ true
    → AreLined (Charge q ∷ a)
goes_lined a q m p x s l own_it at_p named at shut good = charged_lined a q m t l own_it at good splits
    (own_lined a q m t l own_it at good (lasting x) (keeps_one (Charge q) a p (lasting x) there) refl
    (before.lines
    ∙ ap (λ (y : Lasting). lines_of_all (rates_in (setup_of a)) y.account p (accepted (kept_of a m))) same_lasts)
    before.requests)
  where
    t : Target
    t = record { account = x.account; session = p }

    there : owner (sessions a) p ≡ Some (lasting x)
    there = ap (option_map lasting) at_p

    referred : reference_of a m ≡ Some p
    referred = ap (reference_of a) named ∙ s.back p x at_p

    before : IsLined a m p
    before = l.each m p referred

    same_lasts : before.lasts ≡ lasting x
    same_lasts = let z : Some before.lasts ≡ Some (lasting x) = sym before.there ∙ there in cc

    splits : Splits a q m t l own_it at good
    splits n r w = ⊎_elim
        (λ (g : p ≡ r).
        let v = s.valid n r e in
        let z : Some x ≡ Some v.0 = sym at_p ∙ ap (session_at a) g ∙ v.1 in
        let same : x ≡ v.0 = cc in inl (named ∙ ap name_of same ∙ v.2, g))
        (λ (g : p ≢ r).
        inr (
          e,
          g,
          fails (same_session m n) (λ y.
              let z : Some p ≡ Some r = sym referred ∙ ap (reference_of a) (names_same m n y) ∙ e in
              let k : p ≡ r = cc in g k),
        ))
        (cases_eq p r)
      where
        e : reference_of a n ≡ Some r
        e = sym (ap (λ b. cond (b && same_session (name q.consumer (id_of q.charging_id)) n)
            (Some (length (sessions a) + 1)) (reference_of a n)) shut) ∙ w

charge_lined : (a : List Command) (q : Request) (o : Outcome) → AreBySession a → AreLined a
    → decision a (Charge q) ≡ Fresh o → AreLined (Charge q ∷ a)
charge_lined a q o s l d = by q.operation refl (is_new a q o k.0 k.1 d)
  where
    k : (k : Key) × (key_of a q ≡ Some k)
    k = fresh_key a q o d

    create : q.operation ≡ Create → (w : Option ℕ) → account_for a q.subscriber ≡ w
        → reference_of a (name q.consumer (id_of q.charging_id)) ≡ None → AreLined (Charge q ∷ a)
    create e None f n = unknown_lined a q l
        (ap (λ p. target_by p a q) e ∙ ap (opened_target (length (sessions a))) f)
        (λ n. λ i. cond (opens_by (e i) (f i) && same_session (name q.consumer (id_of q.charging_id)) n)
        (Some (length (sessions a) + 1)) (reference_of a n))
        (ap (λ p. is_success (reply_by p a q)) e ∙ ap (λ v. is_success (created a q v)) f)
    create e (Some x) f n = opens_lined a q x s l e f n

    later : (p : ℕ) → key_in q (session_at a p) ≡ Some k.0 → target_of a q ≡ named_target p (session_at a p)
        → opens_by q.operation (account_for a q.subscriber) ≡ false → is_success (first_reply a q) ≡ true
        → at_new_later a q (session_at a p) ≡ Fresh o → AreLined (Charge q ∷ a)
    later p w t shut good f =
        let g = goes_on a q o (session_at a p) f in
        let named = of_key q g.0 k.0 (ap (key_in q) (sym g.1) ∙ w) in
        goes_lined a q k.0.session p g.0 s l
        (k.1 ∙ (λ i. Some (record { session = k.0.session; number = own_number a q k.0 k.1 i })))
        g.1 named (t ∙ ap (named_target p) g.1) shut good

    by : (op : Operation) → q.operation ≡ op → at_new q.operation a q (named_by q.operation a q) ≡ Fresh o
        → AreLined (Charge q ∷ a)
    by Create e n =
        create e (account_for a q.subscriber) refl
        (is_unnamed a q o s (sym (ap (λ p. at_new p a q (named_by p a q)) e) ∙ n))
    by (Update p) e n =
        later p (sym (ap (λ op. key_by op a q) e) ∙ k.1) (ap (λ op. target_by op a q) e)
        (ap (λ op. opens_by op (account_for a q.subscriber)) e) (ap (λ op. is_success (reply_by op a q)) e)
        (sym (ap (λ op. at_new op a q (named_by op a q)) e) ∙ n)
    by (Release p) e n =
        later p (sym (ap (λ op. key_by op a q) e) ∙ k.1) (ap (λ op. target_by op a q) e)
        (ap (λ op. opens_by op (account_for a q.subscriber)) e) (ap (λ op. is_success (reply_by op a q)) e)
        (sym (ap (λ op. at_new op a q (named_by op a q)) e) ∙ n)

-- ---- every list that came to be

nothing_lined : AreLined []
nothing_lined = record { each = λ n r e. absurd (cc); beyond = λ r e. refl; unasked = λ r e. refl }

-- a setup comes first
setup_lined : (setup : ChfSetup) (a : List Command) → (true ≡ (length a == 0)) → AreLined (Setup setup ∷ a)
setup_lined setup [] e = record { each = λ n r w. absurd (cc); beyond = λ r w. refl; unasked = λ r w. refl }
setup_lined setup (c ∷ a) e = absurd (let h : suc (length a) ≡ 0 = same_number (suc (length a)) 0 (sym e) in omega arith)

-- what is no request changes nothing
same_lined : (c : Command) (a : List Command) → sessions (c ∷ a) ≡ sessions a → setup_of (c ∷ a) ≡ setup_of a
    → ledger (c ∷ a) ≡ ledger a → ((n : Name) → kept_of (c ∷ a) n ≡ kept_of a n)
    → ((n : Name) → reference_of (c ∷ a) n ≡ reference_of a n)
    → ((r : ℕ) → requests_by (c ∷ a) r ≡ requests_by a r) → AreLined a → AreLined (c ∷ a)
same_lined c a w p e t n s l = record {
  each = λ m r x. still_lined c a m r p (ap (lines_by r) e) (ap accepted (t m)) (s r) (l.each m r (sym (n m) ∙ x));
  beyond = λ r x. ap (lines_by r) e ∙ l.beyond r (none_before c a r x);
  unasked = λ r x. s r ∙ l.unasked r (none_before c a r x);
}

lined : (a : List Command) → IsHistory a → AreLined a
lined [] h = nothing_lined
lined (Setup p ∷ a) h = setup_lined p a h.1.0
lined (Charge q ∷ a) h =
    let f = are_fresh (Charge q ∷ a) h in charge_lined a q f.0.0 (by_session a f.1) (lined a h.1.1) f.0.1
lined (c ∷ a) h = same_lined c a refl refl refl (λ n. refl) (λ n. refl) (λ r. refl) (lined a h.1.1)

-- those that charge the session of a name
pub requests_are : (a : List Command) (n : Name) (r : ℕ) → IsHistory a → reference_of a n ≡ Some r
    → requests_by a r ≡ accepted (kept_of a n)
requests_are a n r h e = ((lined a h).each n r e).requests

pub by_sessions : (a : List Command) (n : Name) → IsHistory a → LinesAreOf a (kept_of a n) (reference_of a n)
by_sessions a n h = at (reference_of a n) refl
  where
    at : (o : Option ℕ) → reference_of a n ≡ o → LinesAreOf a (kept_of a n) o
    at None e = (by_session a (are_fresh a h)).none n e
    at (Some r) e = let w = (lined a h).each n r e in (w.lasts.account, w.lines)
