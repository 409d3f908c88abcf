use Rattle.chf_payloads.proofs.OperatorRows.{Laws, command_back}
use Rattle.chf_payloads.proofs.SetupRows.{setup_back}
use Rattle.chf_payloads.proofs.laws.given_rows_read_back.Goals as goal

pub returns : goal.returns
returns c =
    let laws : Laws = record {
      back = c.rows_read_back.ensures;
      fields = c.fields_have_field_bytes.ensures;
      numbers = c.numbers_read_back.ensures;
      once = c.fields_are_spelled_once.ensures;
      sizes = c.rows_have_sizes.ensures;
    } in
    record {
      setups = λ rows setup h. (setup_back laws rows setup h).reads;
      setup_sizes = λ rows setup h. (setup_back laws rows setup h).small;
      commands = λ row c h. (command_back laws row c h).reads;
      command_sizes = λ row c h. (command_back laws row c h).small;
    }
