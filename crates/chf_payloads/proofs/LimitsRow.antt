-- The limits row of a setup is written as it was read.
use Rattle.std.proofs.Common.{◌≡◌, ◌∙◌, ◌+◌, ◌-◌, ◌^◌, ◌<◌, ◌&&◌, ℕ, ap, sym, refl, Bool, true, false, List, [], ◌∷◌, Option, Some, None, if◌then◌else◌, codes, decimal, arith}
use Rattle.std.specs.Prelude.{bytes_eq, option_and_then}
use Rattle.std.proofs.lemmas.Option.{same_Some}
use Rattle.std.specs.List.{list_all}
use Rattle.std.specs.Cmp.Lexicographic.{bytes_decides}
use Rattle.units.specs.Words.{failover_named, name_of_failover}
use Rattle.rows.specs.Number.{number_of}
use Rattle.row_fields.specs.Fields.{name_of}
use Rattle.row_texts.specs.ReadBack.{is_field}
use Rattle.chf_rows.specs.declared.limits.Limits.{Limits}
use Rattle.chf_rows.specs.Setup.{limits_by, limits_of, limits_with}
use Rattle.chf_core.specs.declared.setup.ChfSetup.{ChfSetup}
use Rattle.chf_payloads.specs.Written as written
use Rattle.chf_payloads.proofs.OperatorRows.{Laws, named}

-- ---- failover

record IsFailover (field : List ℕ) (f : Bool) : Type 0 where
  same : name_of_failover f ≡ field
  plain : is_field field ≡ true

is_failover : (field : List ℕ) (f : Bool) → failover_named field ≡ Some f → IsFailover field f
is_failover field f h = by (bytes_eq field (codes "FAILOVER_SUPPORTED")) (bytes_eq field (codes "FAILOVER_NOT_SUPPORTED")) refl refl h
  where
    yes : field ≡ codes "FAILOVER_SUPPORTED" → true ≡ f → IsFailover field f
    yes e t = record { same = ap name_of_failover (sym t) ∙ sym e; plain = ap is_field e }

    no : field ≡ codes "FAILOVER_NOT_SUPPORTED" → false ≡ f → IsFailover field f
    no e t = record { same = ap name_of_failover (sym t) ∙ sym e; plain = ap is_field e }

    by : (s n : Bool) → bytes_eq field (codes "FAILOVER_SUPPORTED") ≡ s → bytes_eq field (codes "FAILOVER_NOT_SUPPORTED") ≡ n → (if s then Some true else (if n then Some false else None)) ≡ Some f → IsFailover field f
    by true n sw nw e = yes ((bytes_decides field (codes "FAILOVER_SUPPORTED")).0 sw) cc
    by false true sw nw e = no ((bytes_decides field (codes "FAILOVER_NOT_SUPPORTED")).0 nw) cc
    by false false sw nw e = absurd (cc)

-- ---- the row

-- the fields of a limits row, as they were read
record AreRead (volume seconds changes containers grace : Option ℕ) (failover : Option Bool) (name : Option (List ℕ)) (limits : Limits) : Type 0 where
  volume_is : volume ≡ Some limits.records.volume
  seconds_is : seconds ≡ Some limits.records.seconds
  changes_is : changes ≡ Some limits.records.changes
  containers_is : containers ≡ Some limits.records.containers
  grace_is : grace ≡ Some limits.grace
  failover_is : failover ≡ Some limits.failover
  name_is : name ≡ Some limits.records.function

are_read : (volume seconds changes containers grace : Option ℕ) (failover : Option Bool) (name : Option (List ℕ)) (limits : Limits)
    → limits_by (option_and_then (λ v. option_and_then (λ s. option_and_then (λ c. option_and_then (λ n. option_and_then (λ g. option_and_then (λ f. Some (record { volume = v; seconds = s; changes = c; containers = n; grace = g; failover = f })) failover) grace) containers) changes) seconds) volume) name ≡ Some limits
    → AreRead volume seconds changes containers grace failover name limits
are_read (Some v) (Some s) (Some c) (Some n) (Some g) (Some f) (Some m) limits h =
    let same = same_Some (limits_with (record { volume = v; seconds = s; changes = c; containers = n; grace = g; failover = f }) m) limits h in
    record {
      volume_is = ap (λ l. Some l.records.volume) same;
      seconds_is = ap (λ l. Some l.records.seconds) same;
      changes_is = ap (λ l. Some l.records.changes) same;
      containers_is = ap (λ l. Some l.records.containers) same;
      grace_is = ap (λ l. Some l.grace) same;
      failover_is = ap (λ l. Some l.failover) same;
      name_is = ap (λ l. Some l.records.function) same;
    }
are_read volume seconds changes containers grace failover name limits h = absurd (cc)

-- the limits row is that of a setup with these limits
pub record IsLimitsRow (fields : List (List ℕ)) (s : ChfSetup) : Type 0 where
  pub same : written.limits_row s ≡ codes "limits" ∷ fields
  pub plain : list_all is_field fields ≡ true

pub limits_row_is : Laws → (fields : List (List ℕ)) (limits : Limits) (s : ChfSetup) → limits_of fields ≡ Some limits → s.limits ≡ limits.records → s.grace ≡ limits.grace → s.failover ≡ limits.failover → IsLimitsRow fields s
limits_row_is laws (volume ∷ seconds ∷ changes ∷ containers ∷ grace ∷ name ∷ failover ∷ []) limits s h records_is grace_is failover_is =
    let a = are_read (number_of (2 ^ 64 - 1) volume) (number_of (2 ^ 32 - 1) seconds) (number_of (2 ^ 32 - 1) changes) (number_of (2 ^ 32 - 1) containers) (number_of 604800 grace) (failover_named failover) (name_of name) limits h in
    let n = named name limits.records.function a.name_is in
    let o = is_failover failover limits.failover a.failover_is in
    let v_is : decimal s.limits.volume ≡ volume = ap (λ r. decimal r.volume) records_is ∙ laws.once.number (2 ^ 64 - 1) limits.records.volume volume (omega arith) a.volume_is in
    let t_is : decimal s.limits.seconds ≡ seconds = ap (λ r. decimal r.seconds) records_is ∙ laws.once.number (2 ^ 32 - 1) limits.records.seconds seconds (omega arith) a.seconds_is in
    let c_is : decimal s.limits.changes ≡ changes = ap (λ r. decimal r.changes) records_is ∙ laws.once.number (2 ^ 32 - 1) limits.records.changes changes (omega arith) a.changes_is in
    let k_is : decimal s.limits.containers ≡ containers = ap (λ r. decimal r.containers) records_is ∙ laws.once.number (2 ^ 32 - 1) limits.records.containers containers (omega arith) a.containers_is in
    let g_is : decimal s.grace ≡ grace = ap decimal grace_is ∙ laws.once.number 604800 limits.grace grace (omega arith) a.grace_is in
    let f_is : s.limits.function ≡ name = ap (λ r. r.function) records_is ∙ n.same in
    let o_is : name_of_failover s.failover ≡ failover = ap name_of_failover failover_is ∙ o.same in
    let one : is_field volume ≡ true = laws.fields.number (2 ^ 64 - 1) limits.records.volume volume a.volume_is in
    let two : is_field seconds ≡ true = laws.fields.number (2 ^ 32 - 1) limits.records.seconds seconds a.seconds_is in
    let three : is_field changes ≡ true = laws.fields.number (2 ^ 32 - 1) limits.records.changes changes a.changes_is in
    let four : is_field containers ≡ true = laws.fields.number (2 ^ 32 - 1) limits.records.containers containers a.containers_is in
    let five : is_field grace ≡ true = laws.fields.number 604800 limits.grace grace a.grace_is in
    let six : is_field name ≡ true = ap is_field (sym n.same) ∙ laws.fields.name limits.records.function n.spells in
    let seven : is_field failover ≡ true = o.plain in
    record {
      same = λ i. codes "limits" ∷ v_is i ∷ t_is i ∷ c_is i ∷ k_is i ∷ g_is i ∷ f_is i ∷ o_is i ∷ [];
      plain = rw (one, two, three, four, five, six, seven) refl;
    }
limits_row_is laws fields limits s h records_is grace_is failover_is = absurd (cc)
