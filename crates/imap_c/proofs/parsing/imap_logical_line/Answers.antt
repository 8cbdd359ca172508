use Rattle.std.proofs.Common.{refl, inl, inr}
use Rattle.imap_grammar.specs.Answer.{Answers}
use Rattle.imap_c.proofs.parsing.imap_logical_line.Goals as goal

pub returns-in-Ok : goal.returns-in-Ok
unfolding Answers
returns-in-Ok c = inl (c.in-Ok.line.now, c.in-Ok.field-0-0.now, c.in-Ok.ensures.answer, refl)

pub returns-in-Err-Incomplete : goal.returns-in-Err-Incomplete
unfolding Answers
returns-in-Err-Incomplete c =
    let refuses = rw c.in-Err-Incomplete.field-0-is at c.in-Err-Incomplete.ensures.answer in
    inr (c.in-Err-Incomplete.needed, refuses, rw c.missing.ensures refl)
