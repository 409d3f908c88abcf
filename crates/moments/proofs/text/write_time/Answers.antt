use Rattle.std.proofs.Common.{◌∙◌, ap, sym, subst}
use Rattle.moments.proofs.Dated.{zulu_at}
use Rattle.moments.proofs.Reading.{time_reads}
use Rattle.moments.specs.Calendar.{IsZulu}
use Rattle.moments.specs.Text.{time_of, time_text, zulu_text}
use Rattle.moments.proofs.text.write_time.Goals as goal

pub zulu-requires : goal.zulu-requires
zulu-requires c = subst IsZulu (sym c.at.ensures.shown) (zulu_at c.args.moment c.at.ensures.range)

pub returns-clause-text : goal.returns-clause-text
unfolding time_text
returns-clause-text c = c.zulu.ensures ∙ ap zulu_text c.at.ensures.shown

pub returns-clause-reads_back : goal.returns-clause-reads_back
unfolding time_text
returns-clause-reads_back c = ap time_of (c.zulu.ensures ∙ ap zulu_text c.at.ensures.shown) ∙ time_reads c.args.moment c.at.ensures.range
