-- The session of a request at longer lists, and what comes to be kept of it.
use Rattle.std.proofs.Common.{◌≡◌, ◌⊎◌, ℕ, ◌+◌, Bool, true, false, cond, List, [], ◌∷◌, ◌++◌, length, Option, Some, None, option_map, refl, sym, ap, ◌∙◌, subst, inl, inr, ⊎_elim}
use Rattle.std.specs.List.{All}
use Rattle.std.proofs.lemmas.List.Elements.{All-nil, All-cons}
use Rattle.units.specs.declared.request.Operation.{Operation}
use Rattle.units.specs.declared.request.Operation.TheVariants.{Create, Update, Release}
use Rattle.units.specs.declared.request.Request.{Request}
use Rattle.units.specs.declared.answer.Answer.{Answer}
use Rattle.units.specs.declared.reply.Reply.TheVariants.{Created}
use Rattle.sessions.specs.Kept.{Kept as KeptRequest}
use Rattle.chf_core.specs.declared.command.Command.{Command}
use Rattle.chf_core.specs.declared.command.Command.TheVariants.{Charge}
use Rattle.chf_core.specs.declared.session.Session.{Session}
use Rattle.chf_core.specs.declared.key.Name.{Name}
use Rattle.chf_core.specs.declared.key.Key.{Key}
use Rattle.chf_core.specs.Operator.{name_eq}
use Rattle.chf_core.specs.Sessions.{id_of, supi_of, name, same_session, account_for, sessions, opened, sessions_after, by_reference, session_at}
use Rattle.chf_core.specs.Keys.{key, key_in, key_by, key_of}
use Rattle.chf_core.specs.Money.{reply_by, created}
use Rattle.chf_core.specs.KeptRequests.{is_of, kept_of}
use Rattle.chf_core.specs.State.{name_of}
use Rattle.chf_core.specs.OfSessions.{HasKey, IsReferenceOf, IsNextKept, with_first}
use Rattle.chf_core.proofs.Places.{eq_yes}
use Rattle.chf_core.proofs.Named.{lasting, keeps_one, key_stays}
use Rattle.chf_core.proofs.SessionLists.{at_push, same_itself, names_same}
use Rattle.chf_core.proofs.References.{found_lasting}

-- ---- keys are a request's own

own_in : (q : Request) (o : Option Session)
    → (key_in q o ≡ None)
    ⊎ ((n : Name) × (key_in q o ≡ Some (record { session = n; number = q.number })) × (n.consumer ≡ q.consumer))
own_in q None = inl refl
own_in q (Some z) = at (name_eq z.consumer q.consumer)
  where
    at : (b : Bool)
        → (cond b (Some (key q.consumer z.charging_id q.number)) None ≡ None)
        ⊎ ((n : Name)
        × (cond b (Some (key q.consumer z.charging_id q.number)) None ≡ Some (record { session = n; number = q.number }))
        × (n.consumer ≡ q.consumer))
    at true = inr (name q.consumer z.charging_id, refl, refl)
    at false = inl refl

own_by : (a : List Command) (q : Request) (o : Operation)
    → (key_by o a q ≡ None)
    ⊎ ((n : Name) × (key_by o a q ≡ Some (record { session = n; number = q.number })) × (n.consumer ≡ q.consumer))
own_by a q Create = inr (name q.consumer (id_of q.charging_id), refl, refl)
own_by a q (Update r) = own_in q (session_at a r)
own_by a q (Release r) = own_in q (session_at a r)

pub own : (a : List Command) (q : Request)
    → (key_of a q ≡ None) ⊎ ((n : Name) × HasKey a q n × (n.consumer ≡ q.consumer))
own a q = own_by a q q.operation

pub creates : (a : List Command) (q : Request) → q.operation ≡ Create
    → HasKey a q (name q.consumer (id_of q.charging_id))
creates a q e = ap (λ o. key_by o a q) e

pub stand : (b a : List Command) (q : Request) (n : Name) → HasKey a q n → HasKey (b ++ a) q n
stand [] a q n h = h
stand (c ∷ b) a q n h =
    key_stays c (b ++ a) q (record { session = n; number = q.number }) (stand b a q n h)

-- ---- what comes to be kept

-- a request of a session is kept in it, and in no other
module _ (a : List Command) (q : Request) (m n : Name) (h : HasKey a q m) where
  kept_where : (b : Bool) → same_session m n ≡ b
      → kept_of (Charge q ∷ a) n ≡ cond b (with_first a q ∷ kept_of a n) (kept_of a n)
  kept_where b e =
      ap (λ o. cond (is_of o n) (with_first a q ∷ kept_of a n) (kept_of a n)) h
      ∙ ap (λ t. cond t (with_first a q ∷ kept_of a n) (kept_of a n)) e

  pub kept_elsewhere : same_session m n ≡ false → kept_of (Charge q ∷ a) n ≡ kept_of a n
  kept_elsewhere e = kept_where false e

  pub kept_here : same_session m n ≡ true → kept_of (Charge q ∷ a) n ≡ with_first a q ∷ kept_of a n
  kept_here e = kept_where true e

  next_of : (b : Bool) → same_session m n ≡ b → IsNextKept a (Charge q) n
  next_of false e = inl (kept_where false e)
  next_of true e = inr (q, refl, subst (HasKey a q) (names_same m n e) h, kept_where true e)

pub own_kept : (a : List Command) (q : Request) (n : Name) → HasKey a q n
    → kept_of (Charge q ∷ a) n ≡ with_first a q ∷ kept_of a n
own_kept a q n h = kept_where a q n n h true (same_itself n)

pub next_kept : (a : List Command) (c : Command) (n : Name) → IsNextKept a c n
next_kept a (Charge q) n = ⊎_elim
    (λ (e : key_of a q ≡ None).
    inl (ap (λ o. cond (is_of o n) (with_first a q ∷ kept_of a n) (kept_of a n)) e))
    (λ (h : (m : Name) × HasKey a q m × (m.consumer ≡ q.consumer)). next_of a q h.0 n h.1 (same_session h.0 n) refl)
    (own a q)
next_kept a c n = inl refl

-- ---- the reference that a kept Create was given

-- a reference names its session at longer lists
named_later : (c : Command) (a : List Command) (r : ℕ) (n : Name) → IsReferenceOf a r n → IsReferenceOf (c ∷ a) r n
named_later c a r n h =
    let f = found_lasting (session_at (c ∷ a) r) h.0
    (keeps_one c a r (lasting h.0) (ap (option_map lasting) h.1)) in
    (f.0, f.1, (λ i. name (f.2.consumer i) (f.2.charging_id i)) ∙ h.2)

-- what a reply says of the references of a session
abbrev pub NamesIt : List Command → Name → KeptRequest → Type 0
NamesIt a n k =
    (reference : ℕ) (answer : Answer) → k.reply ≡ Created reference answer → IsReferenceOf a reference n

-- the session that a Create opens
abbrev pub new_session : Request → ℕ → Session
new_session q account = record {
  consumer = q.consumer;
  charging_id = id_of q.charging_id;
  supi = supi_of q.subscriber;
  account = account;
  last = q.number;
  is_open = true;
}

-- a Create that is answered with a reference opens the session of that reference
opened_named : (a : List Command) (q : Request) (o : Option ℕ) (reference : ℕ) (answer : Answer)
    → created a q o ≡ Created reference answer
    → (z : Session) × (by_reference (opened q o (sessions a)) reference ≡ Some z)
    × (name_of z ≡ name q.consumer (id_of q.charging_id))
opened_named a q None reference answer e = absurd (cc)
opened_named a q (Some x) reference answer e =
    let r : length (sessions a) + 1 ≡ reference = cc in (
      new_session q x,
      at_push (sessions a) (new_session q x) reference
          ∙ ap (λ b. cond b (Some (new_session q x)) (by_reference (sessions a) reference))
          (eq_yes (length (sessions a) + 1) reference r),
      refl,
    )

first_named : (a : List Command) (q : Request) (n : Name) → HasKey a q n → NamesIt (Charge q ∷ a) n (with_first a q)
first_named a q n h reference answer = by q.operation refl
  where
    by : (o : Operation) → q.operation ≡ o → reply_by o a q ≡ Created reference answer
        → IsReferenceOf (Charge q ∷ a) reference n
    by (Update r) f e = absurd (cc)
    by (Release r) f e = absurd (cc)
    by Create f e =
        let w = opened_named a q (account_for a q.subscriber) reference answer e in
        let k : record { session = name q.consumer (id_of q.charging_id); number = q.number }
        ≡ record { session = n; number = q.number } =
        (let z : Some (record { session = name q.consumer (id_of q.charging_id); number = q.number })
        ≡ Some (record { session = n; number = q.number }) = sym (creates a q f) ∙ h in cc) in (
          w.0,
          ap (λ o. by_reference (sessions_after o q (account_for a q.subscriber) (sessions a)) reference) f ∙ w.1,
          w.2 ∙ ap (λ (x : Key). x.session) k,
        )

all_later : (c : Command) (a : List Command) (n : Name) (l : List KeptRequest) → All (NamesIt a n) l
    → All (NamesIt (c ∷ a) n) l
all_later c a n l h k d i = λ reference answer e. named_later c a reference n (h k d i reference answer e)

next_named : (c : Command) (a : List Command) (n : Name) → All (NamesIt a n) (kept_of a n)
    → All (NamesIt (c ∷ a) n) (kept_of (c ∷ a) n)
next_named c a n h = ⊎_elim
    (λ (e : kept_of (c ∷ a) n ≡ kept_of a n). subst (All (NamesIt (c ∷ a) n)) (sym e) before)
    (λ (w : (q : Request) × (c ≡ Charge q) × HasKey a q n
    × (kept_of (c ∷ a) n ≡ with_first a q ∷ kept_of a n)).
    subst (All (NamesIt (c ∷ a) n)) (sym w.3)
    (All-cons (NamesIt (c ∷ a) n) (with_first a w.0) (kept_of a n)
    (subst (λ x. NamesIt (x ∷ a) n (with_first a w.0)) (sym w.1) (first_named a w.0 n w.2)) before))
    (next_kept a c n)
  where
    before : All (NamesIt (c ∷ a) n) (kept_of a n)
    before = all_later c a n (kept_of a n) h

pub references : (a : List Command) (n : Name) → All (NamesIt a n) (kept_of a n)
references [] n = All-nil (NamesIt [] n)
references (c ∷ a) n = next_named c a n (references a n)
