use Rattle.imap_command.proofs.Lists.{first_and_numbers}
use Rattle.imap_command.proofs.sections.push_part.Goals as goal

pub returns-after-loop-number : goal.returns-after-loop-number
returns-after-loop-number c =
    rw (c.loop-number.invariant, c.in_ok-push_number.ensures, c.from.ensures)
    (first_and_numbers c.args.out.now.items c.args.part.now c.loop-number.number-index 0 c.in-len1-up.len_at_least c.loop-number-test.false)
