-- A scan of a request line, for private clauses: where it stands after each byte (RFC 9112 section 3).
use Rattle.std.specs.Prelude.{◌==◌, ℕ, if◌then◌else◌}
use Rattle.httparse.specs.Grammar.{is_token_byte, is_uri_byte}
use Rattle.wire.specs.declared.target.Place.{Place}
use Rattle.wire.specs.declared.target.Place.TheVariants.{Start, AfterReturn, Method, Target, Elsewhere}

-- where the scan stands after one byte more
abbrev pub step : Place → ℕ → Place
step Start b = if is_token_byte b then Method else if b == 13 then AfterReturn else if b == 10 then Start else Elsewhere
step AfterReturn b = if b == 10 then Start else Elsewhere
step Method b = if is_token_byte b then Method else if b == 32 then Target else Elsewhere
step Target b = if is_uri_byte b then Target else Elsewhere
step Elsewhere b = Elsewhere
