use Rattle.std.proofs.Common.{◌≡◌, map, take}
use Rattle.imap_body_types.proofs.maps.parts.mapped_texts.Given as goal

abbrev pub invariant-loop-text : goal.invariant-loop-text
invariant-loop-text g l = map g.C.Change.after l.mapped.items ≡ map (g.C.Change.before l.c) (take l.text-index l.text-items)
