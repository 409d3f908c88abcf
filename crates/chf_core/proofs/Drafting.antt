-- A draft follows the accounts through the moves that it notes.
use Rattle.std.proofs.Common.{◌≡◌, ◌<◌, ◌≤◌, ◌==◌, ◌^◌, ℕ, ◌+◌, ◌-◌, Bool, true, false, cond, List, [], ◌∷◌, ◌++◌, length, map as each, drop, get_or, suc, append_assoc, Option, Some, None, IfSome, refl, sym, ap, ◌∙◌, subst, arith}
use Rattle.std.proofs.lemmas.List.{append-nil, get_or-set_same}
use Rattle.std.specs.FinMap as map
use Rattle.accounts.specs.declared.moves.Move.{Move}
use Rattle.accounts.specs.declared.moves.Move.TheVariants.{Charged, Released, Reserved, ReleasedAll}
use Rattle.accounts.specs.Reservations.{at}
use Rattle.accounts.specs.Ledger.{State as Money, Numbers, nothing, numbers, free, left, from_own, from_free, uncovered}
use Rattle.accounts.specs.Moves.{after, debited, IsAllowed}
use Rattle.accounts.specs.Making.{made, Fits, AreMakeable}
use Rattle.accounts.specs.Steps.{ChargesTake, ReleasesGive, ReservesTake, BalanceStays}
use Rattle.chf_core.specs.declared.target.Target.{Target}
use Rattle.chf_core.specs.declared.draft.Draft.{Draft}
use Rattle.chf_core.specs.Trials.{Follows}
use Rattle.chf_core.specs.Drafts.{left_in, drafted, Holds}
use Rattle.accounts.specs.declared.reservation.Reservation.{Reservation}
use Rattle.rating.specs.declared.grant.Grant.{Grant}
use Rattle.chf_core.specs.declared.target.GroupAsk.{GroupAsk}
use Rattle.chf_core.specs.Admits.{AreClear}
use Rattle.units.specs.declared.answer.UnitInfo.{UnitInfo}
use Rattle.std.proofs.Math.Seq.{drop-cons}
use Rattle.chf_core.specs.Effect.{Rating, granted, deadline_of, terms_of, info_by, info_of}
use Rattle.units.specs.declared.request.Operation.{Operation}
use Rattle.units.specs.declared.request.Operation.TheVariants.{Create, Update, Release}
use Rattle.units.specs.declared.request.Request.{Request}
use Rattle.units.specs.declared.request.UnitUsage.{UnitUsage}
use Rattle.chf_core.specs.Effect.{asks_of, charged}
use Rattle.chf_core.specs.Spending.{spent_on}
use Rattle.chf_core.specs.CommandMoves.{reserve_of, grants, info_for, infos_for, charges, releases, settling, closing, moves_for}
use Rattle.chf_core.proofs.JoinedMoney.{made_more, made_settled}
use Rattle.chf_core.proofs.Admitted.{charged_sums, owner_inserted}
use Rattle.chf_core.proofs.Clear.{clear_granted, asks_clear}
use Rattle.chf_core.proofs.Following.{charge_follows, release_follows, by_group}

joined : {Y : Type 0} (a b c : List Y) → (a ++ b) ++ c ≡ a ++ (b ++ c)
joined a b c = simp append_assoc

pub makeable_more : (x : List Move) (m : Move) (s : Money) → AreMakeable x s → IsAllowed (made x s) m
    → Fits (made x s) m → AreMakeable (x ++ m ∷ []) s
makeable_more [] m s h a f = ((a, f), tt)
makeable_more (y ∷ x) m s h a f = (h.0, makeable_more x m (after y s) h.1 a f)

-- what was charged to the account after a charge
used_charged : (s : Money) (t : Target) (group lsn amount : ℕ) → t.account < length s.accounts
    → (numbers (after (Charged t.account t.session group lsn amount) s) t.account).taken +
    (numbers (after (Charged t.account t.session group lsn amount) s) t.account).owed ≡ (numbers s t.account).taken +
    (numbers s t.account).owed + amount
used_charged s t group lsn amount known =
    let k = at t.session group in
    let one = debited (numbers s t.account) (from_own s k amount + from_free s t.account k amount)
    (uncovered s t.account k amount) in
    ap (λ (n : Numbers). n.taken + n.owed) (get_or-set_same s.accounts t.account one nothing known)
    ∙ charged_sums (numbers s t.account) amount (left s k) (free s t.account)

pub charged_holds : (takes : ChargesTake) (stays : BalanceStays) (v w : Draft) (accounts : Money) (t : Target)
    (group lsn amount stood : ℕ)
    → stood ≡ left_in v accounts t group → w.moves ≡ v.moves ++ Charged t.account t.session group lsn amount ∷ []
    → w.free ≡ v.free - (amount - stood) → w.used ≡ v.used + amount → w.used < 2 ^ 128
    → ((g : ℕ) → left_in w accounts t g ≡ cond (group == g) (stood - amount) (left_in v accounts t g))
    → Holds v accounts t → Holds w accounts t
charged_holds takes stays v w accounts t group lsn amount stood e moves free used fits step h =
    let f = h.follows in
    let m = Charged t.account t.session group lsn amount in
    let s = drafted v accounts in
    let z : drafted w accounts ≡ after m s = ap (λ x. made x accounts) moves ∙ made_more v.moves (m ∷ []) accounts in
    record {
      makeable = subst (λ x. AreMakeable x accounts) (sym moves)
          (makeable_more v.moves m accounts h.makeable (f.known, f.owner group) (let u = h.used in omega arith));
      follows = subst (λ x. Follows w.free (left_in w accounts t) t x) (sym z)
          (subst (λ n. Follows n (left_in w accounts t) t (after m s)) (sym free)
          (charge_follows takes stays v.free (left_in v accounts t)
          (left_in w accounts t) t s group lsn amount stood e step f));
      used = used ∙ ap (λ n. n + amount) h.used ∙ sym (used_charged s t group lsn amount f.known)
          ∙ ap (λ x. (numbers x t.account).taken + (numbers x t.account).owed) (sym z);
    }

pub released_holds : (gives : ReleasesGive) (stays : BalanceStays) (v w : Draft) (accounts : Money) (t : Target)
    (group stood : ℕ)
    → stood ≡ left_in v accounts t group → w.moves ≡ v.moves ++ Released t.session group ∷ []
    → w.free ≡ v.free + stood → w.used ≡ v.used
    → ((g : ℕ) → left_in w accounts t g ≡ cond (group == g) 0 (left_in v accounts t g)) → Holds v accounts t
    → Holds w accounts t
released_holds gives stays v w accounts t group stood e moves free used step h =
    let f = h.follows in
    let m = Released t.session group in
    let s = drafted v accounts in
    let z : drafted w accounts ≡ after m s = ap (λ x. made x accounts) moves ∙ made_more v.moves (m ∷ []) accounts in
    record {
      makeable = subst (λ x. AreMakeable x accounts) (sym moves) (makeable_more v.moves m accounts h.makeable tt tt);
      follows = subst (λ x. Follows w.free (left_in w accounts t) t x) (sym z)
          (subst (λ n. Follows n (left_in w accounts t) t (after m s)) (sym free)
          (release_follows gives stays v.free (left_in v accounts t) (left_in w accounts t) t s group stood e step f));
      used = used ∙ h.used ∙ ap (λ x. (numbers x t.account).taken + (numbers x t.account).owed) (sym z);
    }

-- a walk that notes something for each element: one more of what is to be noted
pub walked : {Y : Type 0} (item rest whole before now all : List Y) → whole ≡ item ++ rest → now ≡ before ++ item
    → before ++ whole ≡ all → now ++ rest ≡ all
walked item rest whole before now all e n h =
    ap (λ l. l ++ rest) n ∙ joined before item rest ∙ ap (λ l. before ++ l) (sym e) ∙ h

-- and where nothing is to be noted any more
pub walk_ended : {Y : Type 0} (whole before all : List Y) → whole ≡ [] → before ++ whole ≡ all → before ≡ all
walk_ended whole before all e h = sym (append-nil before) ∙ ap (λ l. before ++ l) (sym e) ∙ h

-- after a reservation
reserved_owner : (s : Money) (t : Target) (group amount : ℕ) (deadline : Option ℕ) (g : ℕ)
    → IfSome (map.get s.reservations (at t.session g)) (λ r. r.account ≡ t.account)
    → IfSome (map.get (after (Reserved t.account t.session group amount deadline) s).reservations (at t.session g))
    (λ r. r.account ≡ t.account)
reserved_owner s t group amount deadline g h = by (amount == 0)
  where
    r : Reservation
    r = record { account = t.account; left = amount; deadline = deadline }

    by : (b : Bool)
        → IfSome (map.get (cond b s.reservations (map.insert s.reservations (at t.session group) r)) (at t.session g))
        (λ x. x.account ≡ t.account)
    by true = h
    by false = owner_inserted s.reservations (at t.session group) (at t.session g) r t.account refl h

pub reserved_holds : (takes : ReservesTake) (stays : BalanceStays) (v w : Draft) (accounts : Money) (t : Target)
    (group amount : ℕ) (deadline : Option ℕ)
    → amount ≤ v.free → w.moves ≡ v.moves ++ Reserved t.account t.session group amount deadline ∷ []
    → w.free ≡ v.free - amount → w.used ≡ v.used
    → ((g : ℕ) → left_in w accounts t g ≡ cond (group == g) amount (left_in v accounts t g)) → Holds v accounts t
    → map.get (drafted v accounts).reservations (at t.session group) ≡ None → Holds w accounts t
reserved_holds takes stays v w accounts t group amount deadline le moves free_is used step h none =
    let f = h.follows in
    let m = Reserved t.account t.session group amount deadline in
    let s = drafted v accounts in
    let z : drafted w accounts ≡ after m s = ap (λ x. made x accounts) moves ∙ made_more v.moves (m ∷ []) accounts in
    let within : amount ≤ free s t.account = subst (λ n. amount ≤ n) f.free le in
    let allowed : IsAllowed s m = (f.known, none, within) in
    let took = takes s t.account t.session group amount deadline none in
    let next : Follows (v.free - amount) (left_in w accounts t) t (after m s) = record {
      known = f.known;
      owner = λ g. reserved_owner s t group amount deadline g (f.owner g);
      balanced = stays s m t.account allowed f.balanced;
      free = ap (λ n. n - amount) f.free ∙ sym took.free;
      standing_are = λ g. step g
          ∙ by_group group (left_in v accounts t) s (after m s) t amount
          (sym took.left) took.others.left f.standing_are g;
    } in
    record {
      makeable = subst (λ x. AreMakeable x accounts) (sym moves)
          (makeable_more v.moves m accounts h.makeable allowed tt);
      follows = subst (λ x. Follows w.free (left_in w accounts t) t x) (sym z)
          (subst (λ n. Follows n (left_in w accounts t) t (after m s)) (sym free_is) next);
      used = used ∙ h.used ∙ ap (λ x. (numbers x t.account).taken + (numbers x t.account).owed) (sym z);
    }

-- one group more is granted
module _ (r : Rating) (t : Target) (stamp : ℕ) (accounts : Money) (a : GroupAsk) where
  abbrev pub given : Draft → GroupAsk × Grant
  given v = (a, granted r (free (drafted v accounts) t.account) a)

  pub noted : (v w : Draft) (g : Grant) (d : Option ℕ) → g ≡ granted r v.free a
      → v.free ≡ free (drafted v accounts) t.account → d ≡ deadline_of r stamp a.group
      → w.moves ≡ v.moves ++ Reserved t.account t.session a.group g.reserve d ∷ []
      → w.moves ≡ v.moves ++ reserve_of r t stamp (given v) ∷ []
  noted v w g d e f x m = m
      ∙ (λ i. v.moves ++ Reserved t.account t.session a.group ((e ∙ ap (λ n. granted r n a) f) i).reserve (x i) ∷ [])

  drafted_next : (v w : Draft) → w.moves ≡ v.moves ++ reserve_of r t stamp (given v) ∷ []
      → drafted w accounts ≡ after (reserve_of r t stamp (given v)) (drafted v accounts)
  drafted_next v w m = ap (λ x. made x accounts) m ∙ made_more v.moves (reserve_of r t stamp (given v) ∷ []) accounts

  pub grants_next : (v w : Draft) (asks rest : List GroupAsk) → asks ≡ a ∷ rest
      → w.moves ≡ v.moves ++ reserve_of r t stamp (given v) ∷ []
      → grants r t stamp asks (drafted v accounts) ≡ given v ∷ grants r t stamp rest (drafted w accounts)
  grants_next v w asks rest e m =
      ap (λ (l : List GroupAsk). grants r t stamp l (drafted v accounts)) e
      ∙ ap (λ (s : Money). given v ∷ grants r t stamp rest s) (sym (drafted_next v w m))

  pub clear_next : (v w : Draft) (asks rest : List GroupAsk) → asks ≡ a ∷ rest
      → w.moves ≡ v.moves ++ reserve_of r t stamp (given v) ∷ [] → AreClear t asks (drafted v accounts)
      → (map.get (drafted v accounts).reservations (at t.session a.group) ≡ None) × AreClear t rest (drafted w accounts)
  clear_next v w asks rest e m h =
      let c : AreClear t (a ∷ rest) (drafted v accounts) =
      subst (λ (l : List GroupAsk). AreClear t l (drafted v accounts)) e h in (
        c.0,
        subst (λ (s : Money). AreClear t rest s) (sym (drafted_next v w m))
            (clear_granted r t stamp a (granted r (free (drafted v accounts) t.account) a) rest
            (drafted v accounts) c.1.0 c.1.1),
      )

-- where the grants of these groups are still to be noted
pub record IsGranting (r : Rating) (t : Target) (stamp : ℕ) (accounts : Money) (asks : List GroupAsk) (v : Draft)
    (told : List UnitInfo) (moves : List Move) (infos : List UnitInfo) : Type 0 where
  pub moves_are : v.moves ++ each (reserve_of r t stamp) (grants r t stamp asks (drafted v accounts)) ≡ moves
  pub infos_are : told ++ each (info_for r stamp) (grants r t stamp asks (drafted v accounts)) ≡ infos
  pub holds : Holds v accounts t
  pub clear : AreClear t asks (drafted v accounts)

pub one_granted : (r : Rating) (t : Target) (stamp : ℕ) (accounts : Money) (asks : List GroupAsk) (i : ℕ)
    (d : GroupAsk) (v w : Draft) (told more : List UnitInfo) (moves : List Move) (infos : List UnitInfo) (g : Grant)
    (deadline : Option ℕ) (info : UnitInfo)
    → i < length asks → IsGranting r t stamp accounts (drop i asks) v told moves infos
    → g ≡ granted r v.free (get_or asks i d) → deadline ≡ deadline_of r stamp (get_or asks i d).group
    → info ≡ info_by r.rates stamp (get_or asks i d).group g (terms_of r.rates (get_or asks i d).group)
    → w.moves ≡ v.moves ++ Reserved t.account t.session (get_or asks i d).group g.reserve deadline ∷ []
    → more ≡ told ++ info ∷ []
    → (Holds v accounts t → map.get (drafted v accounts).reservations (at t.session (get_or asks i d).group) ≡ None
    → Holds w accounts t)
    → IsGranting r t stamp accounts (drop (i + 1) asks) w more moves infos
one_granted r t stamp accounts asks i d v w told more moves infos g deadline info lt h eg ed ei em et holds =
    let a = get_or asks i d in
    let rest = drop (i + 1) asks in
    let s : suc i ≡ i + 1 = omega arith in
    let one = given r t stamp accounts a v in
    let all = grants r t stamp (drop i asks) (drafted v accounts) in
    let after_it = grants r t stamp rest (drafted w accounts) in
    let n : drop i asks ≡ a ∷ rest = drop-cons asks i d lt ∙ (λ j. get_or asks i d ∷ drop (s j) asks) in
    let free_is = h.holds.follows.free in
    let m = noted r t stamp accounts a v w g deadline eg free_is ed em in
    let next = grants_next r t stamp accounts a v w (drop i asks) rest n m in
    let c = clear_next r t stamp accounts a v w (drop i asks) rest n m h.clear in
    let same : g ≡ granted r (free (drafted v accounts) t.account) a = eg ∙ ap (λ x. granted r x a) free_is in
    record {
      moves_are =
          walked (reserve_of r t stamp one ∷ []) (each (reserve_of r t stamp) after_it)
          (each (reserve_of r t stamp) all) v.moves w.moves moves
          (ap (each (reserve_of r t stamp)) next) m h.moves_are;
      infos_are =
          walked (info_for r stamp one ∷ []) (each (info_for r stamp) after_it)
          (each (info_for r stamp) all) told more infos
          (ap (each (info_for r stamp)) next)
          (et ∙ (λ j. told ++ (ei ∙ ap (λ (x : Grant). info_of r stamp a x) same) j ∷ [])) h.infos_are;
      holds = holds h.holds c.0;
      clear = c.1;
    }

pub granting_begins : (r : Rating) (t : Target) (stamp : ℕ) (accounts : Money) (asks : List GroupAsk) (v : Draft)
    (told : List UnitInfo) → told ≡ [] → Holds v accounts t → AreClear t asks (drafted v accounts)
    → IsGranting r t stamp accounts asks v told
    (v.moves ++ each (reserve_of r t stamp) (grants r t stamp asks (drafted v accounts)))
    (each (info_for r stamp) (grants r t stamp asks (drafted v accounts)))
granting_begins r t stamp accounts asks v told e h c =
    record {
      moves_are = refl;
      infos_are =
          ap (λ (l : List UnitInfo). l ++ each (info_for r stamp) (grants r t stamp asks (drafted v accounts))) e;
      holds =
          h;
      clear = c;
    }

-- and where none is left
pub granting_ends : (r : Rating) (t : Target) (stamp : ℕ) (accounts : Money) (asks : List GroupAsk) (v : Draft)
    (told : List UnitInfo) (moves : List Move) (infos : List UnitInfo) → asks ≡ []
    → IsGranting r t stamp accounts asks v told moves infos → (v.moves ≡ moves) × (told ≡ infos)
granting_ends r t stamp accounts asks v told moves infos e h =
    let n = ap (λ (l : List GroupAsk). grants r t stamp l (drafted v accounts)) e in
    let all = grants r t stamp asks (drafted v accounts) in (
      walk_ended (each (reserve_of r t stamp) all) v.moves moves (ap (each (reserve_of r t stamp)) n) h.moves_are,
      walk_ended (each (info_for r stamp) all) told infos (ap (each (info_for r stamp)) n) h.infos_are,
    )

-- a Release at the end
pub closed_makeable : (x y : List Move) (session : ℕ) → y ≡ x ++ ReleasedAll session ∷ [] → (s : Money)
    → AreMakeable x s → AreMakeable y s
closed_makeable x y session e s h =
    subst (λ l. AreMakeable l s) (sym e) (makeable_more x (ReleasedAll session) s h tt tt)

-- what was spent on the account stays when a Release gives back what its session still has
pub closed_spent : (v : Draft) (moves : List Move) (op : Operation) (accounts : Money) (t : Target)
    → moves ≡ v.moves ++ closing op t → Holds v accounts t
    → v.used ≡ spent_on (made moves accounts) (Some t.account)
closed_spent v moves op accounts t e h =
    h.used
    ∙ sym (ap (λ x. spent_on (made x accounts) (Some t.account)) e
    ∙ ap (λ z. spent_on z (Some t.account)) (made_more v.moves (closing op t) accounts) ∙ by op)
  where
    by : (o : Operation) → spent_on (made (closing o t) (drafted v accounts)) (Some t.account)
        ≡ spent_on (drafted v accounts) (Some t.account)
    by Create = refl
    by (Update r) = refl
    by (Release r) = refl

-- what was charged and released, in the order of the request
pub settled_moves : (rates : List (List (List ℕ))) (t : Target) (usage used : List UnitUsage) (u v w : Draft)
    → u.moves ≡ [] → v.moves ≡ u.moves ++ charges rates t used → w.moves ≡ v.moves ++ releases t used → used ≡ usage
    → w.moves ≡ charges rates t usage ++ releases t usage
settled_moves rates t usage used u v w e f g i =
    g ∙ ap (λ l. l ++ releases t used) (f ∙ ap (λ l. l ++ charges rates t used) e)
    ∙ ap (λ (l : List UnitUsage). charges rates t l ++ releases t l) i

pub clear_settled : (r : Rating) (t : Target) (usage : List UnitUsage) (asks : List GroupAsk) (accounts : Money)
    (v : Draft) → v.moves ≡ settling r t usage → asks ≡ asks_of usage → AreClear t asks (drafted v accounts)
clear_settled r t usage asks accounts v e f =
    let z = ap (λ l. made l accounts) e ∙ made_settled r t usage accounts in
    subst (λ (l : List GroupAsk). AreClear t l (drafted v accounts)) (sym f)
    (subst (λ (s : Money). AreClear t (asks_of usage) s) (sym z)
    (asks_clear t usage (charged r.rates t usage accounts)))

pub all_moves : (r : Rating) (t : Target) (q : Request) (asks : List GroupAsk) (accounts : Money) (v w : Draft)
    (x : List Move) → v.moves ≡ settling r t q.usage → asks ≡ asks_of q.usage
    → w.moves ≡ v.moves ++ each (reserve_of r t q.stamp) (grants r t q.stamp asks (drafted v accounts))
    → x ≡ w.moves ++ closing q.operation t → x ≡ moves_for r q accounts (Some t)
all_moves r t q asks accounts v w x e f g h =
    h ∙ ap (λ l. l ++ closing q.operation t)
    (g ∙ (λ i. e i ++ each (reserve_of r t q.stamp) (grants r t q.stamp (f i) (made (e i) accounts))))
    ∙ joined (settling r t q.usage)
    (each (reserve_of r t q.stamp) (grants r t q.stamp (asks_of q.usage) (made (settling r t q.usage) accounts)))
    (closing q.operation t)

pub all_infos : (r : Rating) (t : Target) (q : Request) (asks : List GroupAsk) (accounts : Money) (v : Draft)
    (x : List UnitInfo) → v.moves ≡ settling r t q.usage → asks ≡ asks_of q.usage
    → x ≡ each (info_for r q.stamp) (grants r t q.stamp asks (drafted v accounts)) → x ≡ infos_for r q accounts (Some t)
all_infos r t q asks accounts v x e f h = h
    ∙ (λ i. each (info_for r q.stamp) (grants r t q.stamp (f i) (made (e i) accounts)))
