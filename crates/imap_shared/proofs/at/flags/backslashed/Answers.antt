use Rattle.std.proofs.Common.{refl, arith}
use Rattle.imap_grammar.specs.Positions.{named_in}
use Rattle.imap_grammar.specs.Classes.{is_atom_char}
use Rattle.imap_grammar.specs.Rule.{run0, ◌⨾◌}
use Rattle.imap_grammar.specs.Tags.{tag}
use Rattle.imap_shared.specs.Flags.{backslashed}
use Rattle.imap_shared.proofs.Spanned.{raw_between}
use Rattle.imap_shared.proofs.at.flags.backslashed.Goals as goal

pub returns-clause-steps : goal.returns-clause-steps
unfolding backslashed
returns-clause-steps c =
    raw_between (tag "\\" ⨾ run0 is_atom_char) c.args.m.now c.args.p c.in_ok-q-2.q (named_in c.args.m.now c.in_ok-q.field-0-1, named_in c.args.m.now c.in_ok-q-2.field-0-1) (omega (arith, c.in_ok-q.ensures.inside, c.in_ok-q-2.ensures.inside)) c.in_ok-q-2.ensures.inside.1 (rw (c.in_ok-q.ensures.steps, c.in_ok-q-2.ensures.steps) refl)
