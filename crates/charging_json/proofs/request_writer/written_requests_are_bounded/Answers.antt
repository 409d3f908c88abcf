use Rattle.charging_json.proofs.RequestBound.{request_bound}
use Rattle.charging_json.proofs.request_writer.written_requests_are_bounded.Goals as goal

pub returns : goal.returns
returns c = request_bound c.bodies_hold_their_objects.ensures
