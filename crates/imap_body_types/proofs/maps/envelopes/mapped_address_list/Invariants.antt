use Rattle.std.proofs.Common.{◌≡◌, map, take}
use Rattle.imap_body_types.specs.EnvelopeValues.{address_seen}
use Rattle.imap_body_types.proofs.maps.envelopes.mapped_address_list.Given as goal

abbrev pub invariant-loop-address : goal.invariant-loop-address
invariant-loop-address g l = map (address_seen g.C.Change.after) l.mapped.items ≡ map (address_seen (g.C.Change.before l.c)) (take l.address-index l.address-items)
