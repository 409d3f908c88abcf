use Rattle.std.proofs.Common.{refl, []}
use Rattle.edge.specs.Openings.{opened}
use Rattle.serving.specs.Sides.{Expired, meaning_of}
use Rattle.serving.proofs.Ending.{wanting_at_first}
use Rattle.serving.proofs.Reached.{and_then, one_step}
use Rattle.serving.proofs.visits.host.Goals as goal

pub returns-in-Ok-clause-reached : goal.returns-in-Ok-clause-reached
returns-in-Ok-clause-reached g c = λ link.
    and_then (meaning_of g.H.Handler.gives g.H.Handler.expires g.H.Handler.notifies g.H.Handler.fence c.args.was) _ _ _ (one_step (meaning_of g.H.Handler.gives g.H.Handler.expires g.H.Handler.notifies g.H.Handler.fence c.args.was) _ (Expired c.args.moment c.expire.result) (record { handler = c.expire.new.self; disk = c.expire.new.disk; link = link }) (c.expire.ensures.expired, refl)) (c.converse.ensures.reached link)

pub returns-in-Err-clause-reached : goal.returns-in-Err-clause-reached
returns-in-Err-clause-reached g c = λ link. one_step (meaning_of g.H.Handler.gives g.H.Handler.expires g.H.Handler.notifies g.H.Handler.fence c.args.was) _ (Expired c.args.moment c.expire.result) _ (c.expire.ensures.expired, refl)

pub returns-in-Ok-clause-hosted : goal.returns-in-Ok-clause-hosted
returns-in-Ok-clause-hosted g c = λ link bytes others told.
    let talk = c.converse.ensures.talks link bytes others told in (
      talk.0,
      talk.1,
      record {
        ends = c.expire.result;
        between = record { handler = c.expire.new.self; disk = c.expire.new.disk; link = link };
        expired = (c.expire.ensures.expired, refl);
        conversation = talk.2;
      },
    )

pub returns-in-Err-clause-hosted : goal.returns-in-Err-clause-hosted
returns-in-Err-clause-hosted g c = λ link bytes others told. (
  opened [] bytes,
  told,
  record {
    ends = c.expire.result;
    between = record { handler = c.expire.new.self; disk = c.expire.new.disk; link = link };
    expired = (c.expire.ensures.expired, refl);
    conversation = wanting_at_first (meaning_of g.H.Handler.gives g.H.Handler.expires g.H.Handler.notifies g.H.Handler.fence c.args.was) _ bytes;
  },
)
