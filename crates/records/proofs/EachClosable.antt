-- The sessions whose record has a container, and the numbers among which theirs are.
use Rattle.std.proofs.Common.{◌≡◌, ◌≢◌, ℕ, zero, suc, ◌+◌, ◌<◌, ◌≤◌, eqb, ltb, cond, Bool, true, false, List, [], ◌∷◌, length, get_or, set, drop, Option, Some, None, refl, sym, ap, ◌∙◌, subst, arith}
use Rattle.std.specs.List.{Contains}
use Rattle.std.specs.List.Sorted.{IsNonDecreasing}
use Rattle.std.proofs.lemmas.Bool.{eqb-true}
use Rattle.std.proofs.lemmas.List.{length-drop, get_or-drop, get_or_default, drop_more}
use Rattle.records.specs.declared.record.Kept.{Kept}
use Rattle.records.specs.declared.session.SessionKept.{SessionKept}
use Rattle.records.specs.Book.{Session, Records, with_open, with_one, reopened, entered, ended, closable_in, closable}
use Rattle.records.specs.Seen.{session_seen, sessions_seen, numbers_of, records_seen, IsBelow, AreRising, IsMissing, EachClosable}
use Rattle.records.proofs.Closable.{first}
use Rattle.records.proofs.Rising.{below_at}

-- what holds of more numbers
pub weaker : (P Q : ℕ → Type 0) (zs : List Session) → ((n : ℕ) → P n → Q n) → EachClosable P zs → EachClosable Q zs
weaker P Q [] f h = tt
weaker P Q (z ∷ zs) f h = (λ some. f z.number (h.0 some), weaker P Q zs f h.1)

-- where no record has a container
pub of_none : (P : ℕ → Type 0) (zs : List Session) → closable zs ≡ 0 → EachClosable P zs
of_none P [] none = tt
of_none P (z ∷ zs) none = let a = first z zs in (λ some. absurd (omega arith), of_none P zs (omega arith))

none_in : (m n : ℕ) → (0 < m → Contains {X = ℕ} [] n) → m ≡ 0
none_in zero n h = refl
none_in (suc m) n h = let k = h (omega arith) in absurd (omega (arith, k.1))

pub none_among_none : (zs : List Session) → EachClosable (Contains []) zs → closable zs ≡ 0
none_among_none [] h = refl
none_among_none (z ∷ zs) h = let a = first z zs in let b = none_in (closable_in z.unclosed) z.number h.0 in let r = none_among_none zs h.1 in omega arith

-- a session begins
entered_by : (P : ℕ → Type 0) (new z : Session) (zs : List Session) → (0 < closable_in new.unclosed → P new.number) → EachClosable P (z ∷ zs) → EachClosable P (entered new zs) → (b : Bool) → EachClosable P (cond b (new ∷ z ∷ zs) (z ∷ entered new zs))
entered_by P new z zs holds h rest true = (holds, h)
entered_by P new z zs holds h rest false = (h.0, rest)

pub each_entered : (P : ℕ → Type 0) (new : Session) (zs : List Session) → (0 < closable_in new.unclosed → P new.number) → EachClosable P zs → EachClosable P (entered new zs)
each_entered P new [] holds h = (holds, tt)
each_entered P new (z ∷ zs) holds h = entered_by P new z zs holds h (each_entered P new zs holds h.1) (ltb new.number z.number)

-- containers come to a session, or it ends: its number is noted where there are more records that have a container
noted : (P Q : ℕ → Type 0) (a b m n : ℕ) → ((k : ℕ) → P k → Q k) → (a + m < b + m → Q n) → (0 < a → P n) → 0 < b → Q n
noted P Q zero b m n keeps rose had some = rose (omega arith)
noted P Q (suc a) b m n keeps rose had some = keeps n (had (omega arith))

reopened_by : (P Q : ℕ → Type 0) (z : Session) (zs : List Session) (n : ℕ) (k : Option Kept) → ((m : ℕ) → P m → Q m) → EachClosable P (z ∷ zs)
    → ((closable zs < closable (reopened n k zs) → Q n) → EachClosable Q (reopened n k zs))
    → (b : Bool) → (b ≡ true → z.number ≡ n) → (closable (z ∷ zs) < closable (cond b (with_open k z ∷ zs) (z ∷ reopened n k zs)) → Q n)
    → EachClosable Q (cond b (with_open k z ∷ zs) (z ∷ reopened n k zs))
reopened_by P Q z zs n k keeps h rest true same rose =
    let a = first z zs in
    let b = first (with_open k z) zs in
    let is : z.number ≡ n = same refl in
    (λ some. subst Q (sym is) (noted P Q (closable_in z.unclosed) (closable_in k) (closable zs) n keeps (λ lt. rose (omega arith)) (λ had. subst P is (h.0 had)) some), weaker P Q zs keeps h.1)
reopened_by P Q z zs n k keeps h rest false same rose =
    let a = first z zs in
    let b = first z (reopened n k zs) in
    (λ some. keeps z.number (h.0 some), rest (λ lt. rose (omega arith)))

each_reopened : (P Q : ℕ → Type 0) (zs : List Session) (n : ℕ) (k : Option Kept) → ((m : ℕ) → P m → Q m) → (closable zs < closable (reopened n k zs) → Q n) → EachClosable P zs → EachClosable Q (reopened n k zs)
each_reopened P Q [] n k keeps rose h = tt
each_reopened P Q (z ∷ zs) n k keeps rose h = reopened_by P Q z zs n k keeps h (λ r. each_reopened P Q zs n k keeps r h.1) (eqb z.number n) (eqb-true z.number n) rose

pub after_add : (old new : List SessionKept) (n : ℕ) (x : Option Kept × List Kept) (closed more : List Kept) (touched noted : List ℕ) (before now : ℕ) → with_one n (records_seen old closed) x ≡ records_seen new more
    → before ≡ closable (sessions_seen old) → now ≡ closable (sessions_seen new) → ((m : ℕ) → Contains touched m → Contains noted m) → (before < now → Contains noted n)
    → EachClosable (Contains touched) (sessions_seen old) → EachClosable (Contains noted) (sessions_seen new)
after_add old new n x closed more touched noted before now comes was is keeps rose h =
    let same : reopened n x.0 (sessions_seen old) ≡ sessions_seen new = ap (λ (r : Records). r.sessions) comes in
    let count = ap closable same in
    subst (EachClosable (Contains noted)) same (each_reopened (Contains touched) (Contains noted) (sessions_seen old) n x.0 keeps (λ lt. rose (omega arith)) h)

ended_by : (P : ℕ → Type 0) (z : Session) (zs : List Session) (n : ℕ) → EachClosable P (z ∷ zs) → EachClosable P (reopened n None zs) → (b : Bool) → EachClosable P (cond b (with_open None z ∷ zs) (z ∷ reopened n None zs))
ended_by P z zs n h rest true = (λ some. absurd (omega arith), h.1)
ended_by P z zs n h rest false = (h.0, rest)

each_ended : (P : ℕ → Type 0) (zs : List Session) (n : ℕ) → EachClosable P zs → EachClosable P (reopened n None zs)
each_ended P [] n h = tt
each_ended P (z ∷ zs) n h = ended_by P z zs n h (each_ended P zs n h.1) (eqb z.number n)

none_open : (cause stamp : ℕ) (o : Option Kept) (closed : List Kept) → (ended cause stamp o closed).0 ≡ None
none_open cause stamp None closed = refl
none_open cause stamp (Some k) closed = refl

pub after_close : (old new : List SessionKept) (n cause stamp : ℕ) (o : Option Kept) (closed more : List Kept) (touched : List ℕ) → with_one n (records_seen old closed) (ended cause stamp o closed) ≡ records_seen new more
    → EachClosable (Contains touched) (sessions_seen old) → EachClosable (Contains touched) (sessions_seen new)
after_close old new n cause stamp o closed more touched comes h =
    let none : reopened n None (sessions_seen old) ≡ reopened n (ended cause stamp o closed).0 (sessions_seen old) = ap (λ (k : Option Kept). reopened n k (sessions_seen old)) (sym (none_open cause stamp o closed)) in
    subst (EachClosable (Contains touched)) (none ∙ ap (λ (r : Records). r.sessions) comes) (each_ended (Contains touched) (sessions_seen old) n h)

-- a number is taken from the front of those among which they are
behind : (n : ℕ) (ns : List ℕ) (m : ℕ) → m ≢ n → Contains (n ∷ ns) m → Contains ns m
behind n ns m other h = by h.0 h.1 h.2 where
  by : (k : ℕ) → k < length (n ∷ ns) → get_or (n ∷ ns) k m ≡ m → Contains ns m
  by zero lt is = absurd (other (sym is))
  by (suc k) lt is = (k, omega arith, is)

all_above : (zs : List SessionKept) (n : ℕ) (ns : List ℕ) → IsBelow n (numbers_of zs) → EachClosable (Contains (n ∷ ns)) (sessions_seen zs) → EachClosable (Contains ns) (sessions_seen zs)
all_above [] n ns below h = tt
all_above (z ∷ zs) n ns below h = let lt = below.0 in (λ some. behind n ns z.number (λ same. omega arith) (h.0 some), all_above zs n ns below.1 h.1)

pub one_closed : (zs : List SessionKept) (n i : ℕ) (new : SessionKept) (ns : List ℕ) → AreRising (numbers_of zs) → i < length (numbers_of zs) → get_or (numbers_of zs) i 0 ≡ n → closable_in (session_seen new).unclosed ≡ 0
    → EachClosable (Contains (n ∷ ns)) (sessions_seen zs) → EachClosable (Contains ns) (sessions_seen (set zs i new))
one_closed [] n i new ns rise lt is none h = absurd (omega arith)
one_closed (z ∷ zs) n zero new ns rise lt is none h = (λ some. absurd (omega arith), all_above zs n ns (subst (λ (m : ℕ). IsBelow m (numbers_of zs)) is rise.0) h.1)
one_closed (z ∷ zs) n (suc i) new ns rise lt is none h =
    let below = below_at z.number (numbers_of zs) rise.0 i (omega arith) in
    (λ some. behind n ns z.number (λ same. omega arith) (h.0 some), one_closed zs n i new ns rise.1 (omega arith) is none h.1)

pub none_closed : (zs : List SessionKept) (n : ℕ) (ns : List ℕ) → IsMissing (numbers_of zs) n → EachClosable (Contains (n ∷ ns)) (sessions_seen zs) → EachClosable (Contains ns) (sessions_seen zs)
none_closed [] n ns missing h = tt
none_closed (z ∷ zs) n ns missing h =
    (λ some. behind n ns z.number (missing 0 (omega arith)) (h.0 some), none_closed zs n ns (λ k lt. missing (suc k) (omega arith)) h.1)

-- of the rising numbers from a place on the first is the least
at_least : (xs : List ℕ) (i d : ℕ) → IsNonDecreasing xs → i < length xs → (m : ℕ) → Contains (drop i xs) m → get_or xs i d ≤ m
at_least xs i d order lt m h =
    let k = h.1 in
    let left = length-drop i xs in
    let is : get_or xs (i + h.0) m ≡ m = sym (get_or-drop i xs h.0 m) ∙ h.2 in
    let le = order i (i + h.0) m (omega arith) (omega arith) in
    let same = get_or_default xs i d m lt in omega arith

pub least_first : (xs : List ℕ) (i d : ℕ) (zs : List Session) → IsNonDecreasing xs → i < length xs → EachClosable (Contains (drop i xs)) zs → EachClosable (λ m. get_or xs i d ≤ m) zs
least_first xs i d zs order lt h = weaker (Contains (drop i xs)) (λ m. get_or xs i d ≤ m) zs (at_least xs i d order lt) h

pub next_first : (xs : List ℕ) (i d : ℕ) (zs : List Session) → i < length xs → EachClosable (Contains (drop i xs)) zs → EachClosable (Contains (get_or xs i d ∷ drop (i + 1) xs)) zs
next_first xs i d zs lt h = subst (λ (ns : List ℕ). EachClosable (Contains ns) zs) (drop_more xs i d lt) h
