-- What a list of commands, the newest first, files in the records of sessions, and the records that it leaves (TS 32.255, 5.2.3).
use Rattle.std.specs.Prelude.{List, [], ◌∷◌, length}
use Rattle.records.specs.declared.filing.Filing.{Filing}
use Rattle.records.specs.declared.filing.Filing.TheVariants.{ClosedAll}
use Rattle.records.specs.Book.{Records, no_records}
use Rattle.chf_core.specs.declared.command.Command.{Command}
use Rattle.chf_core.specs.declared.command.Command.TheVariants.{Charge, CloseRecords}
use Rattle.chf_core.specs.Operator.{setup_of}
use Rattle.chf_core.specs.Sessions.{sessions, opens}
use Rattle.chf_core.specs.Filings.{limits_in, filings_by, filed}

-- what a command files after those before it, the first call first
abbrev pub filings_in : List Command → Command → List Filing
filings_in before (Charge q) = filings_by q.operation (length (sessions before)) q (opens before q)
filings_in before (CloseRecords moment) = ClosedAll moment ∷ []
filings_in before other = []

-- some calls more, onto those before, the newest first
abbrev pub onto : List Filing → List Filing → List Filing
onto [] before = before
onto (f ∷ fs) before = onto fs (f ∷ before)

-- all that the commands file, the newest first
abbrev pub filings : List Command → List Filing
filings [] = []
filings (c ∷ before) = onto (filings_in before c) (filings before)

-- the records after the commands: each files under the limits of the setup before it
abbrev pub book : List Command → Records
book [] = no_records
book (c ∷ before) = filed (limits_in (setup_of before)) (filings_in before c) (book before)
