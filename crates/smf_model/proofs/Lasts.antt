-- An open container is the last of its rating group, and a report goes into it or behind it.
use Rattle.std.proofs.Common.{◌≡◌, ℕ, ◌-◌, ◌==◌, ◌&&◌, ◌||◌, nat_lt, Bool, true, false, cond, List, [], ◌∷◌, ◌++◌, map, refl, sym, ◌∙◌, ap, append-nil}
use Rattle.std.specs.Prelude.{Some, None}
use Rattle.std.specs.List.{list_any, find}
use Rattle.std.proofs.lemmas.Bool.{eqb-true, eq-eqb, ne_eqb, and_parts}
use Rattle.units.specs.declared.report.Report.{Report}
use Rattle.units.specs.declared.report.Container.{Container}
use Rattle.units.specs.Cut.{containers_of}
use Rattle.meter.specs.Joining.{extended}
use Rattle.smf_model.specs.declared.session.Place.{Place}
use Rattle.smf_model.specs.declared.session.Holding.{Holding}
use Rattle.smf_model.specs.Settle.{is_open, is_waiting, is_open_of, container_in, open_of}
use Rattle.smf_model.specs.Freeze.{move_oldest}
use Rattle.smf_model.specs.Traffic.{extend_of}
use Rattle.smf_model.specs.Reports.{containers_in}

-- the containers stay as they are, and none that was closed opens
abbrev pub AreSame : List Holding → List Holding → Type 0
AreSame [] [] = Unit {0}
AreSame [] (k ∷ ks) = ⊥
AreSame (h ∷ hs) [] = ⊥
AreSame (h ∷ hs) (k ∷ ks) = (k.container ≡ h.container) × (is_open k.place ≡ true → is_open h.place ≡ true) × AreSame hs ks

pub same_self : (hs : List Holding) → AreSame hs hs
same_self [] = tt
same_self (h ∷ hs) = (refl, λ e. e, same_self hs)

pub same_then : (hs ks ms : List Holding) → AreSame hs ks → AreSame ks ms → AreSame hs ms
same_then [] [] [] a b = tt
same_then [] [] (m ∷ ms) a b = absurd b
same_then [] (k ∷ ks) ms a b = absurd a
same_then (h ∷ hs) [] ms a b = absurd a
same_then (h ∷ hs) (k ∷ ks) [] a b = absurd b
same_then (h ∷ hs) (k ∷ ks) (m ∷ ms) a b = (b.0 ∙ a.0, λ e. a.1 (b.1 e), same_then hs ks ms a.2 b.2)

pub same_mapped : (f : Holding → Holding) (hs : List Holding) → ((h : Holding) → ((f h).container ≡ h.container) × (is_open (f h).place ≡ true → is_open h.place ≡ true)) → AreSame hs (map f hs)
same_mapped f [] each = tt
same_mapped f (h ∷ hs) each = ((each h).0, (each h).1, same_mapped f hs each)

pub same_moved : (most : ℕ) (p : Place) (hs : List Holding) → is_open p ≡ false → AreSame hs (move_oldest most p hs)
same_moved most p [] shut = tt
same_moved most p (h ∷ hs) shut = at (is_waiting h.place && nat_lt 0 most) (λ n. same_moved n p hs shut)
  where
    at : (b : Bool) → ((n : ℕ) → AreSame hs (move_oldest n p hs)) → AreSame (h ∷ hs) (cond b (record h { place = p } ∷ move_oldest (most - 1) p hs) (h ∷ move_oldest most p hs))
    at true k = (refl, λ e. absurd (let f : true ≡ false = sym e ∙ shut in cc), k (most - 1))
    at false k = (refl, λ e. e, k most)

pub same_containers : (hs ks : List Holding) → AreSame hs ks → containers_in ks ≡ containers_in hs
same_containers [] [] a = refl
same_containers [] (k ∷ ks) a = absurd a
same_containers (h ∷ hs) [] a = absurd a
same_containers (h ∷ hs) (k ∷ ks) a = ap (λ c. c ∷ containers_in ks) a.0 ∙ ap (λ cs. h.container ∷ cs) (same_containers hs ks a.2)

-- the containers of a rating group
abbrev pub own : ℕ → List Holding → List Container
own group hs = containers_of group (containers_in hs)

-- no container of the group comes after its open one
abbrev pub OpenAreLast : List Holding → Type 0
OpenAreLast [] = Unit {0}
OpenAreLast (h ∷ hs) = (is_open h.place ≡ true → own h.container.group hs ≡ []) × OpenAreLast hs

pub last_same : (hs ks : List Holding) → AreSame hs ks → OpenAreLast hs → OpenAreLast ks
last_same [] [] a l = tt
last_same [] (k ∷ ks) a l = absurd a
last_same (h ∷ hs) [] a l = absurd a
last_same (h ∷ hs) (k ∷ ks) a l = (
  λ e. ap (λ (c : Container). own c.group ks) a.0 ∙ ap (containers_of h.container.group) (same_containers hs ks a.2) ∙ l.0 (a.1 e),
  last_same hs ks a.2 l.1,
)

-- a report that joins

own_none : (g : ℕ) (c : Container) (cs : List Container) → containers_of g (c ∷ cs) ≡ [] → ((c.group == g) ≡ false) × (containers_of g cs ≡ [])
own_none g c cs e = at (c.group == g) refl e
  where
    at : (b : Bool) → (c.group == g) ≡ b → cond b (c ∷ containers_of g cs) (containers_of g cs) ≡ [] → ((c.group == g) ≡ false) × (containers_of g cs ≡ [])
    at true is e = cc
    at false is e = (is, e)

own_next : (g : ℕ) (c : Container) (cs : List Container) → (c.group == g) ≡ false → containers_of g (c ∷ cs) ≡ containers_of g cs
own_next g c cs e = ap (λ b. cond b (c ∷ containers_of g cs) (containers_of g cs)) e

own_first : (g : ℕ) (c : Container) (cs : List Container) → (c.group == g) ≡ true → containers_of g (c ∷ cs) ≡ c ∷ containers_of g cs
own_first g c cs e = ap (λ b. cond b (c ∷ containers_of g cs) (containers_of g cs)) e

extend_closed : (r : Report) (h : Holding) → is_open_of r.group h ≡ false → extend_of r h ≡ h
extend_closed r h e = ap (λ b. cond b (record h { container = extended h.container r }) h) e

extend_open : (r : Report) (h : Holding) → is_open_of r.group h ≡ true → extend_of r h ≡ record h { container = extended h.container r }
extend_open r h e = ap (λ b. cond b (record h { container = extended h.container r }) h) e

not_of : (g : ℕ) (h : Holding) → (h.container.group == g) ≡ false → is_open_of g h ≡ false
not_of g h e = ap (λ b. b && is_open h.place) e

-- none of the group: none joins
none_joins : (r : Report) (hs : List Holding) → own r.group hs ≡ [] → map (extend_of r) hs ≡ hs
none_joins r [] e = refl
none_joins r (h ∷ hs) e =
    let none = own_none r.group h.container (containers_in hs) e in
    ap (λ k. k ∷ map (extend_of r) hs) (extend_closed r h (not_of r.group h none.0)) ∙ ap (λ ks. h ∷ ks) (none_joins r hs none.1)

-- the open container of the group is its last, and the report goes into it
pub record Joins (r : Report) (hs : List Holding) : Type 0 where
  pub front : List Container
  pub container : Container
  pub is_open : open_of r.group hs ≡ Some container
  pub before : own r.group hs ≡ front ++ container ∷ []
  pub after : own r.group (map (extend_of r) hs) ≡ front ++ extended container r ∷ []

pub joins : (r : Report) (hs : List Holding) → OpenAreLast hs → list_any (is_open_of r.group) hs ≡ true → Joins r hs
joins r [] l e = cc
joins r (h ∷ hs) l e = at (is_open_of r.group h) (h.container.group == r.group) refl refl e (λ f. joins r hs l.1 f)
  where
    at : (o g : Bool) → is_open_of r.group h ≡ o → (h.container.group == r.group) ≡ g → (o || list_any (is_open_of r.group) hs) ≡ true → (list_any (is_open_of r.group) hs ≡ true → Joins r hs) → Joins r (h ∷ hs)
    at true g is of e rest =
        let both = and_parts (h.container.group == r.group) (is_open h.place) is in
        let none : own r.group hs ≡ [] = ap (λ n. own n hs) (sym (eqb-true h.container.group r.group both.0)) ∙ l.0 both.1 in
        record {
          front = [];
          container = h.container;
          is_open = ap (λ b. container_in (cond b (Some h) (find (is_open_of r.group) hs))) is;
          before = own_first r.group h.container (containers_in hs) both.0 ∙ ap (λ cs. h.container ∷ cs) none;
          after =
              ap (λ k. own r.group (k ∷ map (extend_of r) hs)) (extend_open r h is)
              ∙ own_first r.group (extended h.container r) (containers_in (map (extend_of r) hs)) both.0
              ∙ ap (λ cs. extended h.container r ∷ cs) (ap (own r.group) (none_joins r hs none) ∙ none);
        }
    at false true is of e rest = let k : Joins r hs = rest e in record {
      front = h.container ∷ k.front;
      container = k.container;
      is_open = ap (λ b. container_in (cond b (Some h) (find (is_open_of r.group) hs))) is ∙ k.is_open;
      before = own_first r.group h.container (containers_in hs) of ∙ ap (λ cs. h.container ∷ cs) k.before;
      after =
          ap (λ x. own r.group (x ∷ map (extend_of r) hs)) (extend_closed r h is)
          ∙ own_first r.group h.container (containers_in (map (extend_of r) hs)) of ∙ ap (λ cs. h.container ∷ cs) k.after;
    }
    at false false is of e rest = let k : Joins r hs = rest e in record {
      front = k.front;
      container = k.container;
      is_open = ap (λ b. container_in (cond b (Some h) (find (is_open_of r.group) hs))) is ∙ k.is_open;
      before = own_next r.group h.container (containers_in hs) of ∙ k.before;
      after =
          ap (λ x. own r.group (x ∷ map (extend_of r) hs)) (extend_closed r h is)
          ∙ own_next r.group h.container (containers_in (map (extend_of r) hs)) of ∙ k.after;
    }

-- other groups are as they were
extend_group : (r : Report) (h : Holding) → (extend_of r h).container.group ≡ h.container.group
extend_group r h = at (is_open_of r.group h)
  where
    at : (b : Bool) → (cond b (record h { container = extended h.container r }) h).container.group ≡ h.container.group
    at true = refl
    at false = refl

extend_place : (r : Report) (h : Holding) → (extend_of r h).place ≡ h.place
extend_place r h = at (is_open_of r.group h)
  where
    at : (b : Bool) → (cond b (record h { container = extended h.container r }) h).place ≡ h.place
    at true = refl
    at false = refl

pub joins_other : (r : Report) (g : ℕ) (hs : List Holding) → (r.group == g) ≡ false → own g (map (extend_of r) hs) ≡ own g hs
joins_other r g [] away = refl
joins_other r g (h ∷ hs) away = at (is_open_of r.group h) (h.container.group == g) refl refl (joins_other r g hs away)
  where
    at : (o b : Bool) → is_open_of r.group h ≡ o → (h.container.group == g) ≡ b → own g (map (extend_of r) hs) ≡ own g hs → own g (map (extend_of r) (h ∷ hs)) ≡ own g (h ∷ hs)
    at false b is of k =
        ap (λ x. own g (x ∷ map (extend_of r) hs)) (extend_closed r h is) ∙ ap (λ c. cond c (h.container ∷ own g (map (extend_of r) hs)) (own g (map (extend_of r) hs))) of
        ∙ ap (λ cs. cond b (h.container ∷ cs) cs) k ∙ sym (ap (λ c. cond c (h.container ∷ own g hs) (own g hs)) of)
    at true b is of k =
        let same : h.container.group ≡ r.group = eqb-true h.container.group r.group (and_parts (h.container.group == r.group) (is_open h.place) is).0 in
        let none : (h.container.group == g) ≡ false = ap (λ n. n == g) same ∙ away in
        ap (λ x. own g (x ∷ map (extend_of r) hs)) (extend_open r h is) ∙ own_next g (extended h.container r) (containers_in (map (extend_of r) hs)) none ∙ k ∙ sym (own_next g h.container (containers_in hs) none)

own_kept : (r : Report) (g : ℕ) (hs : List Holding) → own g hs ≡ [] → own g (map (extend_of r) hs) ≡ []
own_kept r g [] e = refl
own_kept r g (h ∷ hs) e =
    let none = own_none g h.container (containers_in hs) e in
    own_next g (extend_of r h).container (containers_in (map (extend_of r) hs)) (ap (λ n. n == g) (extend_group r h) ∙ none.0) ∙ own_kept r g hs none.1

pub last_extended : (r : Report) (hs : List Holding) → OpenAreLast hs → OpenAreLast (map (extend_of r) hs)
last_extended r [] l = tt
last_extended r (h ∷ hs) l = (
  λ e. ap (λ n. own n (map (extend_of r) hs)) (extend_group r h) ∙ own_kept r h.container.group hs (l.0 (ap is_open (sym (extend_place r h)) ∙ e)),
  last_extended r hs l.1,
)

-- a report that opens the next container

own_push : (g : ℕ) (hs : List Holding) (h : Holding) → own g (hs ++ h ∷ []) ≡ own g hs ++ containers_of g (h.container ∷ [])
own_push g [] h = refl
own_push g (k ∷ hs) h = at (k.container.group == g) (own_push g hs h)
  where
    at : (b : Bool) → own g (hs ++ h ∷ []) ≡ own g hs ++ containers_of g (h.container ∷ [])
        → cond b (k.container ∷ own g (hs ++ h ∷ [])) (own g (hs ++ h ∷ [])) ≡ cond b (k.container ∷ own g hs) (own g hs) ++ containers_of g (h.container ∷ [])
    at true e = ap (λ cs. k.container ∷ cs) e
    at false e = e

pub opens : (g : ℕ) (hs : List Holding) (h : Holding) → (h.container.group == g) ≡ true → own g (hs ++ h ∷ []) ≡ own g hs ++ h.container ∷ []
opens g hs h e = own_push g hs h ∙ ap (λ cs. own g hs ++ cs) (own_first g h.container [] e)

pub opens_other : (g : ℕ) (hs : List Holding) (h : Holding) → (h.container.group == g) ≡ false → own g (hs ++ h ∷ []) ≡ own g hs
opens_other g hs h e = own_push g hs h ∙ ap (λ cs. own g hs ++ cs) (own_next g h.container [] e) ∙ append-nil (own g hs)

pub last_pushed : (g : ℕ) (hs : List Holding) (h : Holding) → h.container.group ≡ g → list_any (is_open_of g) hs ≡ false → OpenAreLast hs → OpenAreLast (hs ++ h ∷ [])
last_pushed g [] h is e l = (λ open_it. refl, tt)
last_pushed g (k ∷ hs) h is e l = at (is_open_of g k) refl e (λ f. last_pushed g hs h is f l.1)
  where
    at : (b : Bool) → is_open_of g k ≡ b → (b || list_any (is_open_of g) hs) ≡ false → (list_any (is_open_of g) hs ≡ false → OpenAreLast (hs ++ h ∷ [])) → OpenAreLast (k ∷ hs ++ h ∷ [])
    at true o e rest = cc
    at false o e rest = (λ open_it. opens_other k.container.group hs h (other open_it o) ∙ l.0 open_it, rest e)
      where
        other : is_open k.place ≡ true → is_open_of g k ≡ false → (h.container.group == k.container.group) ≡ false
        other open_it o = ne_eqb h.container.group k.container.group (λ same. absurd (let f : true ≡ false = sym (ap (λ b. b && is_open k.place) (eq-eqb k.container.group g (sym same ∙ is)) ∙ open_it) ∙ o in cc))

pub none_open : (g : ℕ) (hs : List Holding) → list_any (is_open_of g) hs ≡ false → open_of g hs ≡ None
none_open g [] e = refl
none_open g (h ∷ hs) e = at (is_open_of g h) e (none_open g hs)
  where
    at : (b : Bool) → (b || list_any (is_open_of g) hs) ≡ false → (list_any (is_open_of g) hs ≡ false → open_of g hs ≡ None) → container_in (cond b (Some h) (find (is_open_of g) hs)) ≡ None
    at true e k = cc
    at false e k = k e
