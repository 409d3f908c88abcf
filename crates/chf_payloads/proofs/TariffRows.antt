-- The rows of an accepted tariff and of accepted policy counters have plain fields.
use Rattle.std.proofs.Common.{◌≡◌, ◌∙◌, ◌+◌, ◌-◌, ◌^◌, ◌&&◌, ℕ, ap, sym, refl, Bool, true, false, List, [], ◌∷◌, ◌++◌, length, Option, Some, None, if◌then◌else◌, codes, nat_eq}
use Rattle.std.specs.Prelude.{bytes_eq}
use Rattle.std.specs.List.{list_all}
use Rattle.std.specs.Cmp.Lexicographic.{bytes_decides, pointwise}
use Rattle.std.proofs.lemmas.Bool.{and_from, and_parts}
use Rattle.units.specs.Names.{spells_name}
use Rattle.units.specs.Words.{action_named}
use Rattle.units.specs.declared.answer.Action.{Action}
use Rattle.units.specs.declared.answer.Action.TheVariants as action
use Rattle.rows.specs.Number.{number_of}
use Rattle.row_texts.specs.ReadBack.{AreFields, is_field, is_row}
use Rattle.rating.specs.declared.terms.Kind.{Kind}
use Rattle.rating.specs.declared.terms.Kind.TheVariants.{Volume, Time, Offline}
use Rattle.rating.specs.declared.row.TariffRow.{TariffRow}
use Rattle.rating.specs.Row.{chunk_of, group_row, kind_of, most_chunk, price_row, tariff_row}
use Rattle.rating.specs.Grammar.{first_bad, may_follow, read_on}
use Rattle.counters.specs.declared.row.CounterRow.{CounterRow}
use Rattle.counters.specs.Row.{counter_row, limit_row, with_limit}
use Rattle.counters.specs.Grammar as counter
use Rattle.chf_payloads.proofs.Options.{and_then, mapped, passed}

-- ---- words

pub same_text : (a b : List ℕ) → pointwise nat_eq a b ≡ true → a ≡ b
same_text a b e = (bytes_decides a b).0 e

-- a text that is a plain word, or what the next test says
pub word_or : {A : Type 0} (text word : List ℕ) (b : Bool) (found : A) (other : Option A) (value : A) → pointwise nat_eq text word ≡ b → is_field word ≡ true → (if b then Some found else other) ≡ Some value → (other ≡ Some value → is_field text ≡ true) → is_field text ≡ true
word_or text word true found other value e plain h rest = ap is_field (same_text text word e) ∙ plain
word_or text word false found other value e plain h rest = rest h

kind_field : (field : List ℕ) (kind : Kind) → kind_of field ≡ Some kind → is_field field ≡ true
kind_field field kind h =
    word_or field (codes "volume") (pointwise nat_eq field (codes "volume")) Volume
    (if pointwise nat_eq field (codes "time") then Some Time else (if pointwise nat_eq field (codes "offline") then Some Offline else None)) kind refl refl h
    (λ h2. word_or field (codes "time") (pointwise nat_eq field (codes "time")) Time (if pointwise nat_eq field (codes "offline") then Some Offline else None) kind refl refl h2
    (λ h3. word_or field (codes "offline") (pointwise nat_eq field (codes "offline")) Offline None kind refl refl h3 (λ h4. absurd (cc))))

action_field : (field : List ℕ) (a : Action) → action_named field ≡ Some a → is_field field ≡ true
action_field field a h =
    word_or field (codes "TERMINATE") (bytes_eq field (codes "TERMINATE")) action.Terminate
    (if bytes_eq field (codes "REDIRECT") then Some action.Redirect else (if bytes_eq field (codes "RESTRICT_ACCESS") then Some action.RestrictAccess else None)) a refl refl h
    (λ h2. word_or field (codes "REDIRECT") (bytes_eq field (codes "REDIRECT")) action.Redirect (if bytes_eq field (codes "RESTRICT_ACCESS") then Some action.RestrictAccess else None) a refl refl h2
    (λ h3. word_or field (codes "RESTRICT_ACCESS") (bytes_eq field (codes "RESTRICT_ACCESS")) action.RestrictAccess None a refl refl h3 (λ h4. absurd (cc))))

-- ---- rows of a tariff

chunk_field : AreFields → (kind : Kind) (field : List ℕ) (n : ℕ) → chunk_of kind field ≡ Some n → is_field field ≡ true
chunk_field fields kind field n h = let c = and_then _ (number_of (most_chunk kind) field) n h in fields.number (most_chunk kind) c.source field c.is

group_fields : AreFields → (group : List ℕ) (rest : List (List ℕ)) (row : TariffRow) → group_row group rest ≡ Some row → list_all is_field (group ∷ rest) ≡ true
group_fields fields group (kind ∷ chunk ∷ threshold ∷ validity ∷ holding ∷ action ∷ []) row h =
    let g = and_then _ (number_of (2 ^ 32 - 1) group) row h in
    let k = and_then _ (kind_of kind) row g.read_is in
    let c = and_then _ (chunk_of k.source chunk) row k.read_is in
    let t = and_then _ (number_of (2 ^ 32 - 1) threshold) row c.read_is in
    let v = and_then _ (number_of 604800 validity) row t.read_is in
    let q = and_then _ (number_of 604800 holding) row v.read_is in
    let a = and_then _ (action_named action) row q.read_is in
    let one : is_field group ≡ true = fields.number (2 ^ 32 - 1) g.source group g.is in
    let two : is_field kind ≡ true = kind_field kind k.source k.is in
    let three : is_field chunk ≡ true = chunk_field fields k.source chunk c.source c.is in
    let four : is_field threshold ≡ true = fields.number (2 ^ 32 - 1) t.source threshold t.is in
    let five : is_field validity ≡ true = fields.number 604800 v.source validity v.is in
    let six : is_field holding ≡ true = fields.number 604800 q.source holding q.is in
    let seven : is_field action ≡ true = action_field action a.source a.is in
    rw (one, two, three, four, five, six, seven) refl
group_fields fields group rest row h = absurd (cc)

price_fields : AreFields → (group : List ℕ) (rest : List (List ℕ)) (row : TariffRow) → price_row group rest ≡ Some row → list_all is_field (group ∷ rest) ≡ true
price_fields fields group (hour ∷ up ∷ down ∷ seconds ∷ []) row h =
    let g = and_then _ (number_of (2 ^ 32 - 1) group) row h in
    let o = and_then _ (number_of 23 hour) row g.read_is in
    let u = and_then _ (number_of (2 ^ 32) up) row o.read_is in
    let d = and_then _ (number_of (2 ^ 32) down) row u.read_is in
    let s = and_then _ (number_of (2 ^ 32) seconds) row d.read_is in
    let one : is_field group ≡ true = fields.number (2 ^ 32 - 1) g.source group g.is in
    let two : is_field hour ≡ true = fields.number 23 o.source hour o.is in
    let three : is_field up ≡ true = fields.number (2 ^ 32) u.source up u.is in
    let four : is_field down ≡ true = fields.number (2 ^ 32) d.source down d.is in
    let five : is_field seconds ≡ true = fields.number (2 ^ 32) s.source seconds s.is in
    rw (one, two, three, four, five) refl
price_fields fields group rest row h = absurd (cc)

tariff_fields : AreFields → (row : List (List ℕ)) (read : TariffRow) → tariff_row row ≡ Some read → is_row row ≡ true
tariff_fields fields [] read h = absurd (cc)
tariff_fields fields (word ∷ []) read h = absurd (cc)
tariff_fields fields (word ∷ group ∷ rest) read h = by (pointwise nat_eq word (codes "group")) (pointwise nat_eq word (codes "price")) refl refl h
  where
    by : (g p : Bool) → pointwise nat_eq word (codes "group") ≡ g → pointwise nat_eq word (codes "price") ≡ p → (if g then group_row group rest else (if p then price_row group rest else None)) ≡ Some read → (is_field word && list_all is_field (group ∷ rest)) ≡ true
    by true p gw pw e = and_from (is_field word) (list_all is_field (group ∷ rest)) (ap is_field (same_text word (codes "group") gw)) (group_fields fields group rest read e)
    by false true gw pw e = and_from (is_field word) (list_all is_field (group ∷ rest)) (ap is_field (same_text word (codes "price") pw)) (price_fields fields group rest read e)
    by false false gw pw e = absurd (cc)

pub tariff_rows : AreFields → (before : List TariffRow) (rows : List (List (List ℕ))) → first_bad before rows ≡ None → list_all is_row rows ≡ true
tariff_rows fields before [] h = refl
tariff_rows fields before (row ∷ rows) h = by (tariff_row row) refl (λ b. tariff_rows fields b rows) h
  where
    by : (o : Option TariffRow) → tariff_row row ≡ o → ((b : List TariffRow) → first_bad b rows ≡ None → list_all is_row rows ≡ true) → read_on before o (λ more. first_bad more rows) ≡ None → (is_row row && list_all is_row rows) ≡ true
    by None o_is more e = absurd (cc)
    by (Some read) o_is more e = by_place (may_follow before read) e
      where
        by_place : (m : Bool) → (if m then first_bad (before ++ read ∷ []) rows else Some (length before + 1)) ≡ None → (is_row row && list_all is_row rows) ≡ true
        by_place true f = and_from (is_row row) (list_all is_row rows) (tariff_fields fields row read o_is) (more (before ++ read ∷ []) f)
        by_place false f = absurd (cc)

-- ---- rows of policy counters

counter_fields : AreFields → (row : List (List ℕ)) (read : CounterRow) → counter_row row ≡ Some read → is_row row ≡ true
counter_fields fields (word ∷ name ∷ amount ∷ status ∷ []) read h =
    let one = passed (pointwise nat_eq word (codes "counter")) (limit_row name amount status) read h in
    let two = passed (spells_name name && spells_name status) _ read one.1 in
    let names = and_parts (spells_name name) (spells_name status) two.0 in
    let n = mapped (with_limit name status) (number_of (2 ^ 128 - 1) amount) read two.1 in
    let word_is : is_field word ≡ true = ap is_field (same_text word (codes "counter") one.0) in
    let name_is : is_field name ≡ true = fields.name name names.0 in
    let amount_is : is_field amount ≡ true = fields.number (2 ^ 128 - 1) n.source amount n.is in
    let status_is : is_field status ≡ true = fields.name status names.1 in
    rw (word_is, name_is, amount_is, status_is) refl
counter_fields fields row read h = absurd (cc)

pub counter_rows : AreFields → (before : List CounterRow) (rows : List (List (List ℕ))) → counter.first_bad before rows ≡ None → list_all is_row rows ≡ true
counter_rows fields before [] h = refl
counter_rows fields before (row ∷ rows) h = by (counter_row row) refl (λ b. counter_rows fields b rows) h
  where
    by : (o : Option CounterRow) → counter_row row ≡ o → ((b : List CounterRow) → counter.first_bad b rows ≡ None → list_all is_row rows ≡ true) → counter.read_on before o (λ more. counter.first_bad more rows) ≡ None → (is_row row && list_all is_row rows) ≡ true
    by None o_is more e = absurd (cc)
    by (Some read) o_is more e = by_place (counter.may_follow before read) e
      where
        by_place : (m : Bool) → (if m then counter.first_bad (before ++ read ∷ []) rows else Some (length before + 1)) ≡ None → (is_row row && list_all is_row rows) ≡ true
        by_place true f = and_from (is_row row) (list_all is_row rows) (counter_fields fields row read o_is) (more (before ++ read ∷ []) f)
        by_place false f = absurd (cc)
