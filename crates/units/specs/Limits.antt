-- The bounds that every layer speaks of (this product's own).
use Rattle.std.specs.Prelude.{ℕ, ◌^◌}

-- the last moment, 2069-12-31T23:59:59Z, in seconds from 1970-01-01T00:00:00Z
abbrev pub greatest_moment : ℕ
greatest_moment = 3155759999

-- the most containers of a charging data request that an SMF freezes
abbrev pub most_containers : ℕ
most_containers = 500

-- the most rating groups of a session
abbrev pub most_groups : ℕ
most_groups = 16

-- the most usage reports of a session
abbrev pub most_reports : ℕ
most_reports = 2 ^ 20

-- the most entries of a list in a charging data request that is read
abbrev pub most_entries : ℕ
most_entries = 1000
