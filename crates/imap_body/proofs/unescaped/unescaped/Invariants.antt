use Rattle.std.proofs.Common.{◌≡◌, ◌++◌, drop}
use Rattle.imap_body.specs.Unescaped.{unescaped}
use Rattle.imap_body.proofs.Escapes.{unescaped_behind}
use Rattle.imap_body.proofs.unescaped.unescaped.Given as goal

abbrev pub invariant-loop-b : goal.invariant-loop-b
invariant-loop-b l = l.kept.items ++ unescaped_behind l.dropped (drop l.b-index l.content) ≡ unescaped l.content
