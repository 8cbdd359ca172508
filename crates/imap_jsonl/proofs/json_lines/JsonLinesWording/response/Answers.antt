use Rattle.imap_proto.specs.Responses.{response_value}
use Rattle.imap_jsonl.proofs.Owned.{text_alike}
use Rattle.imap_jsonl.proofs.json_lines.JsonLinesWording.response.Goals as goal

pub returns : goal.returns
returns c = text_alike (response_value c.args.response.now) c.to_json.result c.to_json.ensures.text
