use Rattle.std.proofs.Common.{◌+◌, sym, ap, ◌∙◌}
use Rattle.std.proofs.Math.Nat.{le_trans}
use Rattle.imap_grammar.specs.Ascii.{quote}
use Rattle.imap_bytes.proofs.Places.{behind_byte}
use Rattle.imap_bytes.proofs.at.strings.quoted.Goals as goal

pub returns-clause-inside : goal.returns-clause-inside
returns-clause-inside c =
    let opened = c.in_ok-p.ensures.inside in
    let content = c.in_ok-p-2.ensures.inside in
    let closed = c.in_ok-p-3.ensures.inside in
    ((le_trans opened.0.0 (le_trans opened.0.1 (le_trans opened.0.2 content.0.0)), content.0.1, le_trans content.0.2 (le_trans closed.0.0 (le_trans closed.0.1 closed.0.2))), closed.1)

pub returns-clause-place : goal.returns-clause-place
returns-clause-place c =
    let opened = behind_byte quote c.args.m.now _ c.args.p c.in_ok-p.p c.in_ok-p.ensures.steps c.in_ok-p.ensures.inside.1 in
    let content = c.in_ok-p-2.ensures.place in
    let closed = behind_byte quote c.args.m.now _ c.in_ok-p-2.p c.in_ok-p-3.p c.in_ok-p-3.ensures.steps c.in_ok-p-3.ensures.inside.1 in
    (content.0 ∙ opened, ap (λ k. k + 1) content.1 ∙ sym closed)
