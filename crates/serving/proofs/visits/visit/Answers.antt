use Rattle.std.proofs.Common.{rules, ◌∙◌, refl, inl, inr, is_ok}
use Rattle.serving.specs.Sides.{meaning_of}
use Rattle.serving.proofs.Reached.{and_then}
use Rattle.serving.proofs.Visiting.{hosted_well, unfinished}
use Rattle.serving.proofs.visits.visit.Goals as goal

pub returns-in-Ok-clause-reached : goal.returns-in-Ok-clause-reached
returns-in-Ok-clause-reached g c = and_then (meaning_of g.H.Handler.gives g.H.Handler.expires g.H.Handler.notifies g.H.Handler.fence c.args.was) _ _ _ (c.host-hosted.ensures.reached (g.L.Stream.connections c.args.link.now)) c.round.ensures.reached

pub returns-in-Ok-clause-visited : goal.returns-in-Ok-clause-visited
returns-in-Ok-clause-visited g c = λ bytes others told.
    let hosted = c.host-hosted.ensures.hosted (g.L.Stream.connections c.args.link.now) bytes others told in (
      hosted.0,
      c.shut.ensures.connections ∙ hosted.1,
      record {
        moment = c.now.result;
        told = c.now.ensures.first;
        never_back = c.later_of-moment.ensures;
        said = record { handler = c.host-hosted.new.handler; disk = c.host-hosted.new.disk; link = g.L.Stream.connections c.args.link.now };
        hosted = hosted_well (meaning_of g.H.Handler.gives g.H.Handler.expires g.H.Handler.notifies g.H.Handler.fence c.args.was) _ _ _ _ (is_ok c.host-hosted.result) (is_ok c.round.result) hosted.2 (search rules);
        rounded = c.round.ensures.rounded;
      },
    )

pub returns-in-Err-clause-visited : goal.returns-in-Err-clause-visited
returns-in-Err-clause-visited g c = λ bytes others told.
    let hosted = c.host-hosted.ensures.hosted (g.L.Stream.connections c.args.link.now) bytes others told in (
      hosted.0,
      c.shut.ensures.connections ∙ hosted.1,
      record {
        moment = c.now.result;
        told = c.now.ensures.first;
        never_back = c.later_of-moment.ensures;
        said = record { handler = c.host-hosted.new.handler; disk = c.host-hosted.new.disk; link = g.L.Stream.connections c.args.link.now };
        hosted = unfinished (meaning_of g.H.Handler.gives g.H.Handler.expires g.H.Handler.notifies g.H.Handler.fence c.args.was) _ _ _ _ _ hosted.2;
        rounded = inr (inl (refl, refl));
      },
    )
