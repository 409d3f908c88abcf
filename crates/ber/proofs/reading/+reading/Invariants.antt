use Rattle.std.proofs.Common.{◌≡◌, ◌+◌, ◌-◌, ◌*◌, ◌≤◌, length}
use Rattle.ber.specs.Reading.{items_with, inside_at}
use Rattle.ber.proofs.Turns.{with_front}
use Rattle.ber.specs.Element.{Elements}
use Rattle.ber.specs.Tape.{Adds}
use Rattle.ber.proofs.reading.+reading.Given as goal

abbrev pub decreases-inside : goal.decreases-inside
decreases-inside g l = 4 * l.levels

abbrev pub decreases-item : goal.decreases-item
decreases-item g l = 4 * l.levels + 1

abbrev pub decreases-items : goal.decreases-items
decreases-items g l = 4 * l.levels + 2

abbrev pub invariant-items-loop : goal.invariant-items-loop
invariant-items-loop g l = record {
  read : (front : Elements) × Adds l.initial.out.items l.out.items front
      × (with_front front (items_with g.G.Grammar.rules (inside_at g.G.Grammar.rules l.levels) (l.end - l.counter) l.definite l.state l.around l.at l.rest)
      ≡ items_with g.G.Grammar.rules (inside_at g.G.Grammar.rules l.levels) (length l.bytes + 1) l.definite l.initial.state l.around l.place l.bytes);
  turns : l.end ≡ length l.bytes + 1;
  within : length l.rest ≤ length l.bytes;
  place : l.at + length l.rest ≤ l.place + length l.bytes;
}
