-- The records of a session hold the containers of its accepted requests.
use Rattle.std.proofs.Common.{◌≡◌, ◌==◌, ℕ, ◌+◌, Bool, true, false, cond, List, [], ◌∷◌, ◌++◌, length, Option, Some, None, is_some, sum_by, refl, sym, ap, ◌∙◌, subst, append_assoc, arith}
use Rattle.std.proofs.lemmas.List.{append-nil}
use Rattle.std.proofs.lemmas.List.Sums.{sum_by-cons}
use Rattle.units.specs.declared.request.Operation.{Operation}
use Rattle.units.specs.declared.request.Operation.TheVariants.{Create, Update, Release}
use Rattle.units.specs.declared.request.Used.{Used}
use Rattle.units.specs.declared.request.UnitUsage.{UnitUsage}
use Rattle.units.specs.declared.request.Request.{Request}
use Rattle.sessions.specs.Content.{content}
use Rattle.sessions.specs.Kept.{accepted, occurs, occurs_in, uses, times}
use Rattle.records.specs.declared.filing.Filing.{Filing}
use Rattle.records.specs.Sums.{total}
use Rattle.records.specs.Book.{Records, records_after}
use Rattle.records.specs.Once.{stand, came, came_by, ContainersStandOnce}
use Rattle.records.specs.InOrder.{usages_of, entries_by, entries_of, AreDivided, ContainersInOrder}
use Rattle.chf_core.specs.declared.target.Target.{Target}
use Rattle.chf_core.specs.declared.session.Session.{Session}
use Rattle.chf_core.specs.declared.key.Name.{Name}
use Rattle.chf_core.specs.declared.key.Key.{Key}
use Rattle.chf_core.specs.declared.command.Command.{Command}
use Rattle.chf_core.specs.declared.command.Command.TheVariants.{Setup, Charge, CloseRecords}
use Rattle.chf_core.specs.declared.command.Outcome.{Outcome}
use Rattle.chf_core.specs.declared.decision.Verdict.TheVariants.{Fresh}
use Rattle.chf_core.specs.Operator.{setup_of}
use Rattle.chf_core.specs.Sessions.{sessions, session_at, account_for, opens_by, named_by, reference_of}
use Rattle.chf_core.specs.Keys.{key_of}
use Rattle.chf_core.specs.Money.{target_of, target_by, opened_target, named_target}
use Rattle.chf_core.specs.Decisions.{decision, at_new}
use Rattle.chf_core.specs.KeptRequests.{kept_of}
use Rattle.chf_core.specs.Filings.{limits_in, filed_usage, created_filings, filings_by}
use Rattle.chf_core.specs.Filed.{filings_in, onto, filings}
use Rattle.chf_core.specs.After.{state_of, IsHistory}
use Rattle.chf_core.specs.RecordLaws.{over_requests, HoldsAccepted, filed_entries, has_number}
use Rattle.chf_core.proofs.Requested.{over_filed}
use Rattle.chf_core.proofs.SessionLines.{is_at, requests_by, requests_are}
use Rattle.chf_core.proofs.FiledRecords.{records_are, are_kept}
use Rattle.chf_core.proofs.JoinedParts.{book_is}
use Rattle.chf_core.proofs.ByKept.{by_session, are_fresh, is_new, goes_on}
use Rattle.chf_core.proofs.Entered.{fresh_key}

module _ (f : Used → ℕ) (r : ℕ) where
  abbrev by : Filing → ℕ
  by x = came_by f r x

  came_first : (x : Filing) (fs : List Filing) → came f r (x ∷ fs) ≡ by x + came f r fs
  came_first x fs = sum_by-cons (came_by f r) x fs

  came_onto : (fs gs : List Filing) → came f r (onto fs gs) ≡ came f r fs + came f r gs
  came_onto [] gs = omega arith
  came_onto (x ∷ fs) gs =
      let a = came_onto fs (x ∷ gs) in let b = came_first x gs in let c = came_first x fs in a ∙ (let z : came f r fs + came f r (x ∷ gs) ≡ came f r (x ∷ fs) + came f r gs = omega arith in z)

  -- what a request brings to the session
  abbrev brings : Request → Option Target → ℕ
  brings q o = cond (is_at r o) (total f q.usage) 0

  -- one call with its containers
  one_call : (p : ℕ) (q : Request) → cond (p == r) (total f (filed_usage q)) 0 ≡ cond (p == r) (total f q.usage) 0
  one_call p q = ap (λ n. cond (p == r) n 0) (over_filed f q.usage)

  created : (a : List Command) (q : Request) (w : Option ℕ) → came f r (created_filings (length (sessions a) + 1) q (is_some w)) ≡ brings q (opened_target (length (sessions a)) w)
  created a q None = refl
  created a q (Some x) = let e = one_call (length (sessions a) + 1) q in omega (arith, e)

  went_on : (a : List Command) (q : Request) (p : ℕ) (x : Session) → session_at a p ≡ Some x → (o : Operation) (opens : Bool)
      → came f r (filings_by o (length (sessions a)) q opens) ≡ cond (p == r) (total f (filed_usage q)) 0
      → came f r (filings_by o (length (sessions a)) q opens) ≡ brings q (named_target p (session_at a p))
  went_on a q p x at o opens e = e ∙ one_call p q ∙ sym (ap (λ (s : Option Session). brings q (named_target p s)) at)

  brought : (a : List Command) (q : Request) (o : Outcome) → decision a (Charge q) ≡ Fresh o → came f r (filings_in a (Charge q)) ≡ brings q (target_of a q)
  brought a q o d = by_op q.operation refl (is_new a q o k.0 k.1 d)
    where
      k : (k : Key) × (key_of a q ≡ Some k)
      k = fresh_key a q o d

      by_op : (op : Operation) → q.operation ≡ op → at_new q.operation a q (named_by q.operation a q) ≡ Fresh o
          → came f r (filings_by op (length (sessions a)) q (opens_by op (account_for a q.subscriber))) ≡ brings q (target_by op a q)
      by_op Create e n = created a q (account_for a q.subscriber)
      by_op (Update p) e n =
          let g = goes_on a q o (session_at a p) (sym (ap (λ op. at_new op a q (named_by op a q)) e) ∙ n) in
          went_on a q p g.0 g.1 (Update p) false (omega arith)
      by_op (Release p) e n =
          let g = goes_on a q o (session_at a p) (sym (ap (λ op. at_new op a q (named_by op a q)) e) ∙ n) in
          went_on a q p g.0 g.1 (Release p) false (omega arith)

  over_first : (q : Request) (qs : List Request) → over_requests f (q ∷ qs) ≡ total f q.usage + over_requests f qs
  over_first q qs = sum_by-cons (λ (q : Request). total f q.usage) q qs

  asked : (q : Request) (qs : List Request) (b : Bool) → over_requests f (cond b (content q ∷ qs) qs) ≡ cond b (total f q.usage) 0 + over_requests f qs
  asked q qs true = over_first (content q) qs
  asked q qs false = omega arith

  pub came_is : (a : List Command) → IsHistory a → came f r (filings a) ≡ over_requests f (requests_by a r)
  came_is [] h = refl
  came_is (Charge q ∷ a) h =
      let d = are_fresh (Charge q ∷ a) h in
      let i = came_is a h.1.1 in
      let e = came_onto (filings_in a (Charge q)) (filings a) in
      let b = brought a q d.0.0 d.0.1 in
      let s = asked q (requests_by a r) (is_at r (target_of a q)) in
      e ∙ (λ j. b j + i j) ∙ sym s
  came_is (CloseRecords moment ∷ a) h = let i = came_is a h.1.1 in omega (arith, i)
  came_is (c ∷ a) h = came_is a h.1.1

pub held : ContainersStandOnce → (a : List Command) (n : Name) → IsHistory a → HoldsAccepted a (kept_of a n) (reference_of a n)
held once a n h = at (reference_of a n) refl
  where
    at : (o : Option ℕ) → reference_of a n ≡ o → HoldsAccepted a (kept_of a n) o
    at None e = (by_session a (are_fresh a h)).none n e
    at (Some r) e = λ f.
        ap (stand f r) (book_is a ∙ records_are a h) ∙ once (limits_in (setup_of a)) (filings a) f r (are_kept a h).may
        ∙ came_is f r a h ∙ ap (over_requests f) (requests_are a n r h e)

-- ---- in order

module _ (r : ℕ) where
  -- the entries of some calls, the first one first
  brought_by : List Filing → List UnitUsage
  brought_by [] = []
  brought_by (x ∷ fs) = entries_by r x ++ brought_by fs

  entries_onto : (fs gs : List Filing) → entries_of r (onto fs gs) ≡ entries_of r gs ++ brought_by fs
  unfolding brought_by
  entries_onto [] gs = sym (append-nil (entries_of r gs))
  entries_onto (x ∷ fs) gs = entries_onto fs (x ∷ gs) ∙ append_assoc (entries_of r gs) (entries_by r x) (brought_by fs)

  -- what a request brings to the session
  abbrev entries_for : Request → Option Target → List UnitUsage
  entries_for q o = cond (is_at r o) (filed_usage q) []

  began : (a : List Command) (q : Request) (w : Option ℕ) → brought_by (created_filings (length (sessions a) + 1) q (is_some w)) ≡ entries_for q (opened_target (length (sessions a)) w)
  unfolding brought_by
  began a q None = refl
  began a q (Some x) = append-nil (cond (length (sessions a) + 1 == r) (filed_usage q) [])

  filed_on : (a : List Command) (q : Request) (p : ℕ) (x : Session) → session_at a p ≡ Some x → (fs : List Filing) → brought_by fs ≡ cond (p == r) (filed_usage q) []
      → brought_by fs ≡ entries_for q (named_target p (session_at a p))
  filed_on a q p x at fs e = e ∙ sym (ap (λ (s : Option Session). entries_for q (named_target p s)) at)

  entries_are : (a : List Command) (q : Request) (o : Outcome) → decision a (Charge q) ≡ Fresh o → brought_by (filings_in a (Charge q)) ≡ entries_for q (target_of a q)
  unfolding brought_by
  entries_are a q o d = by_op q.operation refl (is_new a q o k.0 k.1 d)
    where
      k : (k : Key) × (key_of a q ≡ Some k)
      k = fresh_key a q o d

      by_op : (op : Operation) → q.operation ≡ op → at_new q.operation a q (named_by q.operation a q) ≡ Fresh o
          → brought_by (filings_by op (length (sessions a)) q (opens_by op (account_for a q.subscriber))) ≡ entries_for q (target_by op a q)
      by_op Create e n = began a q (account_for a q.subscriber)
      by_op (Update p) e n =
          let g = goes_on a q o (session_at a p) (sym (ap (λ op. at_new op a q (named_by op a q)) e) ∙ n) in
          filed_on a q p g.0 g.1 (filings_by (Update p) (length (sessions a)) q false) (append-nil (cond (p == r) (filed_usage q) []))
      by_op (Release p) e n =
          let g = goes_on a q o (session_at a p) (sym (ap (λ op. at_new op a q (named_by op a q)) e) ∙ n) in
          filed_on a q p g.0 g.1 (filings_by (Release p) (length (sessions a)) q false) (append-nil (cond (p == r) (filed_usage q) []))

  one_asked : (q : Request) (qs : List Request) (b : Bool) → filed_entries qs ++ cond b (filed_usage q) [] ≡ filed_entries (cond b (content q ∷ qs) qs)
  one_asked q qs true = refl
  one_asked q qs false = append-nil (filed_entries qs)

  pub all_entries : (a : List Command) → IsHistory a → entries_of r (filings a) ≡ filed_entries (requests_by a r)
  all_entries [] h = refl
  all_entries (Charge q ∷ a) h =
      let d = are_fresh (Charge q ∷ a) h in
      entries_onto (filings_in a (Charge q)) (filings a)
      ∙ (λ i. all_entries a h.1.1 i ++ entries_are a q d.0.0 d.0.1 i)
      ∙ one_asked q (requests_by a r) (is_at r (target_of a q))
  all_entries (CloseRecords moment ∷ a) h = append-nil (entries_of r (filings a)) ∙ all_entries a h.1.1
  all_entries (c ∷ a) h = all_entries a h.1.1

pub in_order : ContainersInOrder → (a : List Command) (n : Name) (r : ℕ) → IsHistory a → reference_of a n ≡ Some r
    → AreDivided (usages_of r (state_of a).book) (filed_entries (accepted (kept_of a n)))
in_order divided a n r h e =
    subst (λ (b : Records). AreDivided (usages_of r b) (filed_entries (accepted (kept_of a n)))) (sym (book_is a ∙ records_are a h))
    (subst (λ (us : List UnitUsage). AreDivided (usages_of r (records_after (limits_in (setup_of a)) (filings a))) us)
    (all_entries r a h ∙ ap filed_entries (requests_are a n r h e))
    (divided (limits_in (setup_of a)) (filings a) r (are_kept a h).may))

-- ---- how often a container stands

numbers : (lsn : ℕ) (used : List Used) → sum_by (has_number lsn) used ≡ occurs lsn used
numbers lsn [] = refl
numbers lsn (c ∷ used) = let s = sum_by-cons (has_number lsn) c used in let i = numbers lsn used in omega (arith, s, i)

numbers_in : (lsn : ℕ) (usage : List UnitUsage) → total (has_number lsn) usage ≡ occurs_in lsn usage
numbers_in lsn [] = refl
numbers_in lsn (u ∷ usage) =
    let s = sum_by-cons (λ (u : UnitUsage). sum_by (has_number lsn) u.used) u usage in
    let i = numbers_in lsn usage in let j = numbers lsn u.used in omega (arith, s, i, j)

numbers_over : (lsn : ℕ) (qs : List Request) → over_requests (has_number lsn) qs ≡ uses lsn qs
numbers_over lsn [] = refl
numbers_over lsn (q ∷ qs) =
    let s = sum_by-cons (λ (q : Request). total (has_number lsn) q.usage) q qs in
    let i = numbers_over lsn qs in let j = numbers_in lsn q.usage in omega (arith, s, i, j)

pub held_times : ContainersStandOnce → (a : List Command) (n : Name) (r lsn : ℕ) → IsHistory a → reference_of a n ≡ Some r
    → stand (has_number lsn) r (state_of a).book ≡ times (kept_of a n) lsn
held_times once a n r lsn h e = at (reference_of a n) (held once a n h) e
  where
    at : (o : Option ℕ) → HoldsAccepted a (kept_of a n) o → o ≡ Some r → stand (has_number lsn) r (state_of a).book ≡ times (kept_of a n) lsn
    at None w z = absurd (cc)
    at (Some p) w z =
        let g : p ≡ r = cc in
        ap (λ m. stand (has_number lsn) m (state_of a).book) (sym g) ∙ w (has_number lsn) ∙ numbers_over lsn (accepted (kept_of a n))
