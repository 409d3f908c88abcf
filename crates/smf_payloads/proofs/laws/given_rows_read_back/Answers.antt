use Rattle.smf_payloads.proofs.EventRows.{Laws, event_back}
use Rattle.smf_payloads.proofs.SetupRow.{setup_back}
use Rattle.smf_payloads.proofs.laws.given_rows_read_back.Goals as goal

pub returns : goal.returns
returns c =
    let laws : Laws = record { back = c.rows_read_back.ensures; fields = c.fields_have_field_bytes.ensures; once = c.fields_are_spelled_once.ensures } in
    record { setups = setup_back laws; events = event_back laws }
