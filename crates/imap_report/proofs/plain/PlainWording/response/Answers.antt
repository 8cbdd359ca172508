use Rattle.imap_proto.specs.Responses.{response_value}
use Rattle.imap_report.proofs.Names.{counted_alike}
use Rattle.imap_report.proofs.plain.PlainWording.response.Goals as goal

pub returns : goal.returns
returns c = counted_alike (response_value c.args.response.now) c.name.result.now c.args.size c.counted.result c.name.ensures c.counted.ensures
