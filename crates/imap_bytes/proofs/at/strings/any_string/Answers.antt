use Rattle.std.proofs.Common.{drop, sym, ◌∙◌}
use Rattle.imap_bytes.proofs.Places.{quoted_there, literal_there}
use Rattle.imap_bytes.proofs.StringStarts.{string_quoted, string_literal}
use Rattle.imap_bytes.proofs.at.strings.any_string.Goals as goal

pub returns-then-quote_follows-clause-steps : goal.returns-then-quote_follows-clause-steps
returns-then-quote_follows-clause-steps c = rw (string_quoted (drop c.args.p c.args.m.now) (sym c.quote_follows.ensures ∙ c.if-quote_follows.true)) c.quoted.ensures.steps

pub returns-else-quote_follows-clause-steps : goal.returns-else-quote_follows-clause-steps
returns-else-quote_follows-clause-steps c = rw (string_literal (drop c.args.p c.args.m.now) (sym c.quote_follows.ensures ∙ c.if-quote_follows.false)) c.literal.ensures.steps

pub returns-then-quote_follows-clause-place : goal.returns-then-quote_follows-clause-place
returns-then-quote_follows-clause-place c = quoted_there c.args.m.now c.args.p c.quoted.result (sym c.quote_follows.ensures ∙ c.if-quote_follows.true) c.quoted.ensures.place

pub returns-else-quote_follows-clause-place : goal.returns-else-quote_follows-clause-place
returns-else-quote_follows-clause-place c = literal_there c.args.m.now c.args.p c.literal.result (sym c.quote_follows.ensures ∙ c.if-quote_follows.false) c.literal.ensures.place
