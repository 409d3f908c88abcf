-- A record with the names of its session.
use Rattle.records.specs.declared.limits.RecordLimits.{RecordLimits}
use Rattle.records.specs.declared.record.Kept.{Kept}
use Rattle.records.specs.declared.record.Record.{Record}
use Rattle.records.specs.Book.{Session}

-- What a book keeps of a record, with the function that writes it and the names that its session gave (TS 32.298, 5.1.5.0).
abbrev pub named_as : RecordLimits → Session → Kept → Record
named_as l z k = record { function = l.function; subscriber = z.subscriber; consumer = z.consumer; charging_id = z.charging_id; usage = k.usage; opening = k.opening; duration = k.duration; sequence = k.sequence; cause = k.cause; local = k.local }
