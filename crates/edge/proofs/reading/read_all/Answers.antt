use Rattle.std.proofs.Common.{◌≡◌, ◌++◌, take, false, Result, Ok, Err, IfErr, IsErrAnd, subst, sym}
use Rattle.edge.specs.Reading.{EndsReading}
use Rattle.edge.specs.declared.reading.ReadEnd.TheVariants as end
use Rattle.edge.proofs.Known.{Consumes-then, connections-read_more}
use Rattle.edge.proofs.reading.read_all.Goals as goal

-- what holds of the one error holds of the result
when_err : {T E : Type 0} (result : Result T E) (P : E → Type 0) (why : E) → IsErrAnd result (λ e. e ≡ why) → P why → IfErr result P
when_err (Ok value) P why is p = absurd is
when_err (Err error) P why is p = subst P (sym is) p

-- the bytes of this turn were read, and found no memory
pub returns-in_err-extend_from_slice-clause-unread : goal.returns-in_err-extend_from_slice-clause-unread
returns-in_err-extend_from_slice-clause-unread g c =
    let read = take c.in_ok-count.count c.read.new.into in
    let ends : EndsReading end.OutOfMemory (g.S.Stream.left c.args.source.now) (g.S.Stream.left c.read.new.self) (g.S.Stream.connections c.args.source.now) (g.S.Stream.connections c.read.new.self) = record {
      bytes = c.loop-chunk.bytes.items ++ read;
      taken = Consumes-then _ _ _ _ read c.loop-chunk.invariant.taken c.in_ok-count.ensures.bytes.0;
      present = connections-read_more _ _ _ _ read false c.loop-chunk.invariant.connections c.in_ok-count.ensures.connections;
    } in
    when_err _ (λ why. EndsReading why (g.S.Stream.left c.args.source.now) (g.S.Stream.left c.read.new.self) (g.S.Stream.connections c.args.source.now) (g.S.Stream.connections c.read.new.self)) end.OutOfMemory c.from_residual-in_err-extend_from_slice.ensures.1 ends
