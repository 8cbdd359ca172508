use Rattle.imap_extensions.proofs.Ids.{id_value-insert}
use Rattle.imap_extensions.proofs.types.ids.put.Goals as goal

pub returns : goal.returns
returns c = id_value-insert c.args.map.now c.insert.new.self c.args.key c.args.value c.in_ok-insert.ensures.updates.0
