use Rattle.records.proofs.Encoding.{puts_encoded, fields_fit}
use Rattle.records.proofs.encoded.Goals as goal

pub returns : goal.returns
returns c = puts_encoded c.args.says (fields_fit c.args.says) c.put_fields.ensures
