use Rattle.std.proofs.Common.{rules, refl}
use Rattle.serving.specs.Talk.{Turn}
use Rattle.serving.proofs.turns.answer.Goals as goal

pub returns-clause-answered : goal.returns-clause-answered
returns-clause-answered g c = λ link.
    let the_turn : Turn = record { message = c.given-message.result; answer = c.handle-answer.result } in
    record {
      turn = the_turn;
      given = c.given-message.ensures;
      answered = (c.handle-answer.ensures.given, refl);
      wrote = c.say-wrote.result;
      text = c.say-wrote.ensures.text;
      still = search rules;
    }
