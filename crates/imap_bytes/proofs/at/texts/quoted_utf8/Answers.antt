use Rattle.std.proofs.Common.{rules}
use Rattle.imap_grammar.specs.Text.{IsOwned}
use Rattle.imap_bytes.specs.Strings.{quoted}
use Rattle.imap_bytes.specs.Texts.{quoted_utf8}
use Rattle.imap_bytes.proofs.Memory.{exact_memory, decoding_memory}
use Rattle.imap_bytes.proofs.at.texts.quoted_utf8.Goals as goal

pub returns-in_err-q-clause-memory : goal.returns-in_err-q-clause-memory
returns-in_err-q-clause-memory c = exact_memory IsOwned quoted quoted_utf8 _ c.in_err-q.field-0.0 _ (search rules) c.in_err-q.ensures.steps

pub returns-in_err-text-clause-memory : goal.returns-in_err-text-clause-memory
unfolding quoted_utf8
returns-in_err-text-clause-memory c = decoding_memory quoted _ _ _ _ c.in_ok-q.ensures.steps c.in_err-text.ensures.memory
