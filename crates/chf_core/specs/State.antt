-- The charging function as its commands left it: what later decisions and replies depend on, and nothing else (this
-- product's own).
use Rattle.std.specs.Prelude.{ℕ, ◌+◌, ◌==◌, cond, List, [], ◌∷◌, length, map as each, reverse, find, Option, Some, None, option_map}
use Rattle.std.specs.Option.{option_and_then}
use Rattle.std.specs.Ordering.{nat_cmp}
use Rattle.std.specs.Cmp.Lexicographic.{slice_cmp}
use Rattle.std.specs.FinMap.{find as find_key, put}
use Rattle.units.specs.declared.request.Operation.{Operation}
use Rattle.units.specs.declared.request.Operation.TheVariants.{Create, Update, Release}
use Rattle.units.specs.declared.request.Request.{Request}
use Rattle.accounts.specs.Ledger.{State as Money}
use Rattle.records.specs.Book.{Records, no_records}
use Rattle.accounts.specs.Moves.{empty_state}
use Rattle.notices.specs.Watched.{Watched, nothing_watched}
use Rattle.chf_core.specs.declared.setup.ChfSetup.{ChfSetup}
use Rattle.chf_core.specs.declared.session.Session.{Session}
use Rattle.chf_core.specs.declared.subscription.Subscription.{Subscription}
use Rattle.chf_core.specs.declared.subscription.Sum.{Sum}
use Rattle.chf_core.specs.declared.key.Name.{Name}
use Rattle.chf_core.specs.declared.key.Key.{Key}
use Rattle.chf_core.specs.declared.kept_request.KeptRequest.{KeptRequest}
use Rattle.chf_core.specs.Operator.{number_in}
use Rattle.chf_core.specs.Sessions.{by_reference, same_session, id_of, name}
use Rattle.chf_core.specs.Keys.{key, key_eq, key_in}

-- values by the bytes of a text, in ascending order (this product's own)
abbrev pub Texts : Type 0 → Type 0
Texts X = List (List ℕ × X)

-- the value at a text
abbrev pub at_text : {X : Type 0} → Texts X → List ℕ → Option X
at_text values text = find_key (slice_cmp nat_cmp) text values

-- with this value at a text
abbrev pub with_text : {X : Type 0} → Texts X → List ℕ → X → Texts X
with_text values text value = put (slice_cmp nat_cmp) text value values

-- the setup; how many commands there were; the names of the accounts, the newest first; the latest row of each
-- subscriber; the top-ups by id; the sessions by reference; the money; the records; the subscriptions
-- to spending limits with their notices; and the kept requests, the oldest first
pub record State : Type 0 where
  pub setup : Option ChfSetup
  pub count : ℕ
  pub names : List (List ℕ)
  pub subscribers : Texts Subscription
  pub topups : Texts Sum
  pub sessions : List Session
  pub money : Money
  pub book : Records
  pub watched : Watched
  pub requests : List KeptRequest

-- before any command
abbrev pub nothing_yet : State
nothing_yet = record {
  setup = None;
  count = 0;
  names = [];
  subscribers = [];
  topups = [];
  sessions = [];
  money = empty_state;
  book = no_records;
  watched = nothing_watched;
  requests = [];
}

-- ---- accounts

-- the number of an account by its name (this product's own)
abbrev pub account_named : State → List ℕ → Option ℕ
account_named s account = number_in s.names account

-- the account of a subscriber, by its latest row (this product's own)
abbrev pub account_of : State → List ℕ → Option ℕ
account_of s supi = option_and_then (λ row. account_named s row.account) (at_text s.subscribers supi)

-- the account of the subscriber that a Create names; one that names none has none (this product's own)
abbrev pub account_for : State → Option (List ℕ) → Option ℕ
account_for s None = None
account_for s (Some supi) = account_of s supi

-- ---- sessions

-- the session with a reference, which counts from 1 (TS 32.291, 6.1.3.3)
abbrev pub session_at : State → ℕ → Option Session
session_at s reference = by_reference s.sessions reference

-- what tells a session from others: its consumer and charging id
abbrev pub name_of : Session → Name
name_of z = name z.consumer z.charging_id

-- the reference of a name among the names of sessions, the newest first
abbrev pub reference_in : List Name → Name → Option ℕ
reference_in [] n = None
reference_in (m ∷ names) n = cond (same_session m n) (Some (length names + 1)) (reference_in names n)

-- the reference of the session with a name
abbrev pub reference_of : State → Name → Option ℕ
reference_of s n = reference_in (reverse (each name_of s.sessions)) n

-- the session with a reference, if there is a reference
abbrev pub session_for : State → Option ℕ → Option Session
session_for s None = None
session_for s (Some reference) = session_at s reference

-- the session that a request names: a Create by consumer and charging id, an Update or Release by its reference
abbrev pub named_by : Operation → State → Request → Option Session
named_by Create s q = session_for s (reference_of s (name q.consumer (id_of q.charging_id)))
named_by (Update reference) s q = session_at s reference
named_by (Release reference) s q = session_at s reference

-- ---- keys and kept requests

-- the key of a request: an Update or Release has the charging id of the session of its reference, where that is of its
-- consumer (this product's own)
abbrev pub key_by : Operation → State → Request → Option Key
key_by Create s q = Some (key q.consumer (id_of q.charging_id) q.number)
key_by (Update reference) s q = key_in q (session_at s reference)
key_by (Release reference) s q = key_in q (session_at s reference)

-- the key of a request
abbrev pub key_of : State → Request → Option Key
key_of s q = key_by q.operation s q

-- the key of a kept request
abbrev pub kept_key : KeptRequest → Key
kept_key r = key r.request.consumer r.charging_id r.request.number

-- the place of the first request with a key (TS 32.290, 5.3.2; this product's own)
abbrev pub place_of : State → Key → Option ℕ
place_of s k = option_map (λ r. r.place) (find (λ r. key_eq (kept_key r) k) s.requests)

-- the request that is kept at a place
abbrev pub kept_at : State → ℕ → Option KeptRequest
kept_at s place = find (λ r. r.place == place) s.requests
