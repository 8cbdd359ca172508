use Rattle.std.proofs.Common.{◌∷◌, get_or, take}
use Rattle.std.specs.Fmt.{HasWritten, IsPlainFormatter}
use Rattle.imap_grammar.specs.Pieces.{written}
use Rattle.imap_sections.specs.SectionTexts.{canonical_part}
use Rattle.imap_sections.proofs.types.sections.DottedDisplay.fmt.Given as goal

abbrev pub invariant-loop-number : goal.invariant-loop-number
invariant-loop-number g l = IsPlainFormatter l.fn.f → HasWritten g.W.Write.write_str_gives l.fn.f (written (canonical_part (get_or l.self.0.now 0 0 ∷ take l.number-index l.more))) l.f
