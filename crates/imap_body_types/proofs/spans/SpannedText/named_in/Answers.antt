use Rattle.std.proofs.Common.{rules}
use Rattle.std.proofs.lemmas.Str.{IsUtf8-from_is_utf8}
use Rattle.imap_body_types.proofs.spans.SpannedText.named_in.Goals as goal

pub returns-in-Message-clause-is : goal.returns-in-Message-clause-is
returns-in-Message-clause-is c = search rules depth 2

pub returns-in-Part-clause-memory : goal.returns-in-Part-clause-memory
returns-in-Part-clause-memory c = λ h. c.decode.ensures.memory (IsUtf8-from_is_utf8 _ (rw c.part.ensures (rw c.in-Part.is at h)))
