use Rattle.json_objects.proofs.ValueSizes.{bodies_hold_their_objects}
use Rattle.json_objects.proofs.body.bodies_hold_their_objects.Goals as goal

pub returns : goal.returns
returns c = bodies_hold_their_objects
