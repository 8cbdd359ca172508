use Rattle.std.proofs.Common.{length}
use Rattle.imap_extensions.specs.Ids.{id_value, pair_value, put_pair}
use Rattle.imap_extensions.proofs.IdPairs.{PutBehind}
use Rattle.imap_extensions.proofs.readers.ids.put_pairs.Given as goal

abbrev pub invariant-pairs : goal.invariant-pairs
invariant-pairs l = PutBehind l.fn.i l.rest (put_pair (id_value l.map) (pair_value l.pair))

abbrev pub decreases-pairs : goal.decreases-pairs
decreases-pairs l = length l.rest
