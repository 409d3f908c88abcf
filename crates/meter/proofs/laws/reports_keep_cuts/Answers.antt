use Rattle.meter.proofs.Cuts.{group_cut, join_cut}
use Rattle.meter.proofs.Runs.{cut_more}
use Rattle.meter.proofs.laws.reports_keep_cuts.Goals as goal

pub returns : goal.returns
returns c = record {
  taken = λ s report switches reports group numbered known cut. group_cut switches s report group reports numbered known cut;
  joined = λ horizon report switches reports front last known may cut. join_cut switches horizon reports front last report known may cut;
  opened = λ report switches reports containers lsn cut. cut_more switches reports containers report lsn cut;
}
