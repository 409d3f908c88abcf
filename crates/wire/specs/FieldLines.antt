-- Where bytes end that are followed without the parser, for private clauses (RFC 9112 section 5).
use Rattle.std.specs.Prelude.{ℕ, ◌≡◌, ◌≢◌, ◌==◌, ◌-◌, ◌<◌, ◌≤◌, ◌⊎◌, List, [], ◌∷◌, ◌++◌, get_or, drop, if◌then◌else◌, ⊤}
use Rattle.httparse.specs.Grammar.{AllPass, IsToken, is_token_byte, is_value_byte}
use Rattle.wire.specs.declared.field_line.Line.{Line}
use Rattle.wire.specs.declared.field_line.Line.TheVariants.{Unknown, Start, Name, Value}

-- a name, a colon and some of a value
abbrev pub IsNamed : List ℕ → Type 0
IsNamed line = (name : List ℕ) × (raw : List ℕ) × IsToken name × AllPass is_value_byte raw × (line ≡ name ++ 58 ∷ raw)

-- the line of a field so far: some of its name, or its name, a colon and some of its value
abbrev pub IsFieldPart : List ℕ → Type 0
IsFieldPart line = AllPass is_token_byte line ⊎ IsNamed line

-- the bytes begin with no empty line, and what follows a line feed within the first so many of them has P
pub record EndsInLine (P : List ℕ → Type 0) (had : ℕ) (bytes : List ℕ) : Type 0 where
  pub at : ℕ
  pub some : 0 < at
  pub within : at ≤ had
  pub feed : get_or bytes (at - 1) 0 ≡ 10
  pub return : get_or bytes 0 0 ≢ 13
  pub blank : get_or bytes 0 0 ≢ 10
  pub part : P (drop at bytes)

-- where bytes end: at the beginning of a line, within a field's name or its value, or it is not known
abbrev pub EndsIn : ℕ → List ℕ → Line → Type 0
EndsIn had bytes Unknown = ⊤
EndsIn had bytes Start = EndsInLine (λ line. line ≡ []) had bytes
EndsIn had bytes Name = EndsInLine IsToken had bytes
EndsIn had bytes Value = EndsInLine IsNamed had bytes

-- where they end with one byte more
abbrev pub step_line : Line → ℕ → Line
step_line Unknown b = Unknown
step_line Start b = if is_token_byte b then Name else Unknown
step_line Name b = if is_token_byte b then Name else if b == 58 then Value else Unknown
step_line Value b = if is_value_byte b then Value else Unknown
