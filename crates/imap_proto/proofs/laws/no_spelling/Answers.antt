use Rattle.std.proofs.Common.{refl, codes}
use Rattle.imap_grammar.specs.Text.{as_text}
use Rattle.imap_grammar.proofs.NoSpelling.{refuted}
use Rattle.imap_proto.proofs.NoSpelling.{passes-alert}
use Rattle.imap_proto.proofs.laws.no_spelling.Goals as goal

pub returns-clause-two_characters : goal.returns-clause-two_characters
returns-clause-two_characters c = refuted (passes-alert (as_text (codes "x"))).1 (codes "[ALERT]  x") refl

pub returns-clause-another_code : goal.returns-clause-another_code
returns-clause-another_code c = refuted (passes-alert (as_text (codes "x"))).1 (codes "[PARSE] x") refl
