use Rattle.std.proofs.Common.{◌≡◌, map, take}
use Rattle.imap_body_types.specs.FieldValues.{pair_seen}
use Rattle.imap_body_types.proofs.maps.fields.mapped_pairs.Given as goal

abbrev pub invariant-loop-name : goal.invariant-loop-name
invariant-loop-name g l = map (pair_seen g.C.Change.after) l.mapped.items ≡ map (pair_seen (g.C.Change.before l.c)) (take l.name-index l.name-items)
