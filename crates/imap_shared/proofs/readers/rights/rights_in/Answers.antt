use Rattle.std.proofs.Common.{rules}
use Rattle.std.proofs.lemmas.Iterator.{items_from_collect, YieldsList-from_chars, YieldsList-from_map}
use Rattle.imap_shared.specs.Rights.{right_of}
use Rattle.imap_shared.proofs.readers.rights.rights_in.Goals as goal

pub returns : goal.returns
returns c =
    items_from_collect c.collect.result c.collect.ensures.ran
    (YieldsList-from_map _ right_of (YieldsList-from_chars c.args.text.now c.utf8.text (rw (c.map.ensures.source) c.chars.ensures.rest)) c.map.ensures.closure (λ x r q k. search rules))
