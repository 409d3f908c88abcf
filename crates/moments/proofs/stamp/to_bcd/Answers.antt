use Rattle.std.proofs.Common.{◌∙◌, ap, sym, subst}
use Rattle.moments.proofs.Dated.{zulu_at}
use Rattle.moments.proofs.Reading.{stamp_reads}
use Rattle.moments.specs.Calendar.{IsZulu}
use Rattle.moments.specs.Stamp.{stamp_time, stamp_octets, zulu_octets}
use Rattle.moments.proofs.stamp.to_bcd.Goals as goal

pub zulu-requires : goal.zulu-requires
zulu-requires c = subst IsZulu (sym c.at.ensures.shown) (zulu_at c.args.moment c.at.ensures.range)

pub returns-clause-octets : goal.returns-clause-octets
unfolding stamp_octets
returns-clause-octets c = c.zulu.ensures ∙ ap zulu_octets c.at.ensures.shown

pub returns-clause-reads_back : goal.returns-clause-reads_back
unfolding stamp_octets
returns-clause-reads_back c = ap stamp_time (c.zulu.ensures ∙ ap zulu_octets c.at.ensures.shown) ∙ stamp_reads c.args.moment c.at.ensures.range
