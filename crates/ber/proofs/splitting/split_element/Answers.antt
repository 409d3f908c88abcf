use Rattle.ber.proofs.Split.{is_split, is_shorter}
use Rattle.ber.proofs.splitting.split_element.Goals as goal

pub returns-clause-found : goal.returns-clause-found
returns-clause-found c = is_split _ c.args.identifier c.args.bytes.now c.front.result c.front.ensures

pub returns-clause-rest : goal.returns-clause-rest
returns-clause-rest c = is_shorter _ c.args.identifier c.args.bytes.now c.front.result c.front.ensures
