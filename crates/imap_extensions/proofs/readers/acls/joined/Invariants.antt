use Rattle.std.proofs.Common.{◌≡◌, ◌++◌, map}
use Rattle.imap_extensions.specs.Acls.{joined}
use Rattle.imap_extensions.proofs.readers.acls.joined.Given as goal

abbrev pub invariant-loop-group : goal.invariant-loop-group
invariant-loop-group l = l.rights.items ++ joined (map (λ group. group.items) l.group-iterator.rest.items) ≡ joined (map (λ group. group.items) l.fn.groups.items)
