use Rattle.std.proofs.Common.{◌≡◌, map, take}
use Rattle.imap_body_types.specs.ExtensionValues.{extension_seen}
use Rattle.imap_body_types.proofs.shapes.extensions.BodyExtension.+try_map.Given as goal

abbrev pub invariant-loop-member : goal.invariant-loop-member
invariant-loop-member g l = map (extension_seen g.C.Change.after) l.mapped.items ≡ map (extension_seen (g.C.Change.before l.c)) (take l.member-index l.member-items)
