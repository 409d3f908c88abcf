-- A kept request gets the first reply that its session has under its number.
use Rattle.std.proofs.Common.{◌≡◌, ◌<◌, ◌==◌, ℕ, Bool, true, false, cond, List, [], ◌∷◌, length, Option, Some, None, refl, sym, ap, ◌∙◌, arith}
use Rattle.units.specs.declared.request.Request.{Request}
use Rattle.units.specs.declared.reply.Reply.{Reply}
use Rattle.std.specs.Option.{option_or}
use Rattle.sessions.specs.Content.{content}
use Rattle.sessions.specs.Kept.{Kept as KeptRequest, first_reply as replied}
use Rattle.chf_core.specs.declared.key.Key.{Key}
use Rattle.chf_core.specs.declared.command.Command.{Command}
use Rattle.chf_core.specs.declared.command.Command.TheVariants.{Setup, Charge, Subscriber, TopUp, Expire, CloseRecords}
use Rattle.chf_core.specs.declared.command.Outcome.TheVariants.{Charged}
use Rattle.chf_core.specs.declared.decision.Verdict.TheVariants.{Kept}
use Rattle.chf_core.specs.Sessions.{same_session}
use Rattle.chf_core.specs.Keys.{key_of, key_eq, is_key, place_of}
use Rattle.chf_core.specs.Money.{first_reply}
use Rattle.chf_core.specs.Decisions.{decision}
use Rattle.chf_core.specs.Outcomes.{outcome_of, outcome_at}
use Rattle.chf_core.specs.KeptRequests.{is_of, kept_of, IsFirstReply}
use Rattle.chf_core.proofs.Places.{eq_yes, eq_no}
use Rattle.chf_core.proofs.Named.{found_from, place_within, both}
use Rattle.chf_core.proofs.Keyed.{own_number, none_under}

-- the reply at the place of a key
record Replied (a : List Command) (k : Key) (place : ℕ) : Type 0 where
  reply : Reply
  is_first : replied (kept_of a k.session) k.number ≡ Some reply
  is_kept : outcome_at a place ≡ Some (Charged reply)

-- a first reply stands with one more command, which is after the place
later : (a : List Command) (c : Command) (k : Key) (place : ℕ) → place < length a
    → ((reply : Reply) → replied (kept_of a k.session) k.number ≡ Some reply → replied (kept_of (c ∷ a) k.session) k.number ≡ Some reply) → Replied a k place → Replied (c ∷ a) k place
later a c k place l stands h = record {
  reply = h.reply;
  is_first = stands h.reply h.is_first;
  is_kept = ap (λ b. cond b (Some (outcome_of a c)) (outcome_at a place)) (eq_no (length a) place (omega arith)) ∙ h.is_kept;
}

-- so it does with a later request
reply_stands : (kept : List KeptRequest) (n : ℕ) (x : KeptRequest) (b : Bool) (reply : Reply) → replied kept n ≡ Some reply → replied (cond b (x ∷ kept) kept) n ≡ Some reply
reply_stands kept n x true reply e = ap (λ o. option_or o (cond (x.request.number == n) (Some x.reply) None)) e
reply_stands kept n x false reply e = e

-- the first request of a key
first_one : (a : List Command) (q : Request) (k j : Key) (place : ℕ) → key_of a q ≡ Some j → key_eq j k ≡ true → length a ≡ place → place_of a k ≡ None → Replied (Charge q ∷ a) k place
first_one a q k j place w t n none =
    let x = both (same_session j.session k.session) (j.number == k.number) t in
    let is : is_of (key_of a q) k.session ≡ true = ap (λ o. is_of o k.session) w ∙ x.0 in
    let number : (q.number == k.number) ≡ true = ap (λ m. m == k.number) (sym (own_number a q j w)) ∙ x.1 in
    let nothing : replied (kept_of a k.session) k.number ≡ None = none_under a k none in
    record {
      reply = first_reply a q;
      is_first =
          ap (λ b. replied (cond b (record { request = content q; reply = first_reply a q } ∷ kept_of a k.session) (kept_of a k.session)) k.number) is
          ∙ (λ i. option_or (nothing i) (cond (number i) (Some (first_reply a q)) None));
      is_kept = ap (λ b. cond b (Some (Charged (first_reply a q))) (outcome_at a place)) (eq_yes (length a) place n);
    }

replied_at : (a : List Command) (k : Key) (place : ℕ) → place_of a k ≡ Some place → Replied a k place
replied_at [] k place e = absurd (cc)
replied_at (Setup setup ∷ a) k place e = later a (Setup setup) k place (place_within a k place e) (λ r h. h) (replied_at a k place e)
replied_at (Charge q ∷ a) k place e = by_place (place_of a k) refl e (replied_at a k place)
  where
    by_key : (w : Option Key) → key_of a q ≡ w → cond (is_key w k) (Some (length a)) None ≡ Some place → place_of a k ≡ None → Replied (Charge q ∷ a) k place
    by_key None w f none = absurd (cc)
    by_key (Some j) w f none = elim (key_eq j k) as (λ b. key_eq j k ≡ b → cond b (Some (length a)) None ≡ Some place → Replied (Charge q ∷ a) k place) [
      | true ↦ λ t g. first_one a q k j place w t (let z : length a ≡ place = cc in z) none
      | false ↦ λ t g. absurd (cc)
    ] refl f

    by_place : (o : Option ℕ) → place_of a k ≡ o → option_or o (cond (is_key (key_of a q) k) (Some (length a)) None) ≡ Some place → (place_of a k ≡ Some place → Replied a k place) → Replied (Charge q ∷ a) k place
    by_place (Some i) p f more =
        let z : place_of a k ≡ Some place = p ∙ f in
        later a (Charge q) k place (place_within a k place z) (reply_stands (kept_of a k.session) k.number (record { request = content q; reply = first_reply a q }) (is_of (key_of a q) k.session)) (more z)
    by_place None p f more = by_key (key_of a q) refl f p
replied_at (Subscriber supi account barred ∷ a) k place e = later a (Subscriber supi account barred) k place (place_within a k place e) (λ r h. h) (replied_at a k place e)
replied_at (TopUp id account amount ∷ a) k place e = later a (TopUp id account amount) k place (place_within a k place e) (λ r h. h) (replied_at a k place e)
replied_at (Expire moment ∷ a) k place e = later a (Expire moment) k place (place_within a k place e) (λ r h. h) (replied_at a k place e)
replied_at (c ∷ a) k place e = later a c k place (place_within a k place e) (λ r h. h) (replied_at a k place e)

pub first_replies : (commands : List Command) (q : Request) (place : ℕ) → decision commands (Charge q) ≡ Kept place → IsFirstReply commands q place
first_replies commands q place e =
    let f = found_from commands q place e in
    let r = replied_at commands f.k place f.stands in
    record {
      key = f.k;
      reply = r.reply;
      has_key = f.has;
      is_first = ap (replied (kept_of commands f.k.session)) (sym (own_number commands q f.k f.has)) ∙ r.is_first;
      is_kept = r.is_kept;
      same = f.same;
    }
