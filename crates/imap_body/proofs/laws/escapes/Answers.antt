use Rattle.imap_grammar.specs.Positions.{named_in}
use Rattle.imap_body.proofs.Escapes.{parts_stand}
use Rattle.imap_body.proofs.laws.escapes.Goals as goal

pub returns : goal.returns
returns c = λ m s none. parts_stand (named_in m s.span) s.parts none
