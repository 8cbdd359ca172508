use Rattle.std.proofs.Common.{rules, ◌≡◌, Err, drop}
use Rattle.imap_grammar.specs.declared.answer.Err.TheVariants.{Error}
use Rattle.imap_grammar.specs.Classes.{is_astring_char}
use Rattle.imap_grammar.specs.Rule.{run1}
use Rattle.imap_grammar.specs.Step.{step}
use Rattle.imap_bytes.specs.Strings.{astring}
use Rattle.imap_bytes.proofs.Places.{run_there, string_there}
use Rattle.imap_bytes.proofs.at.strings.astring.Goals as goal

pub returns-clause-steps : goal.returns-clause-steps
unfolding astring
returns-clause-steps c = search rules depth 2

pub returns-in_default-2-clause-place : goal.returns-in_default-2-clause-place
returns-in_default-2-clause-place c = run_there c.args.m.now c.args.p c.astring_chars.result c.astring_chars.ensures.steps c.astring_chars.ensures.place

pub returns-clause-place : goal.returns-clause-place
returns-clause-place c =
    let no_run : step (run1 is_astring_char) (drop c.args.p c.args.m.now) ≡ Err Error = search rules depth 2 in
    string_there c.args.m.now c.args.p c.string.result no_run c.string.ensures.place
