use Rattle.imap_c.proofs.Moving.{lacking_told, moved_fits}
use Rattle.imap_c.proofs.parsing.imap_next.Goals as goal

pub returns-then-held-wanted-clause-answer : goal.returns-then-held-wanted-clause-answer
returns-then-held-wanted-clause-answer c = λ f.
    lacking_told c.args.bytes.now c.args.cursor.now _ f (rw c.split_at.ensures.back at c.if-held-wanted.true) (rw c.split_at.ensures.back at c.without_response-then-held-wanted.ensures)

pub returns-clause-fits : goal.returns-clause-fits
returns-clause-fits c = λ f.
    moved_fits c.args.bytes.now c.args.cursor.now c.moved.result c.parsed-answer.result c.if-start-bytes.false (rw c.split_at.ensures.back at c.parsed-answer.ensures.answer) c.moved.ensures.start c.moved.ensures.nothing
    (rw c.split_at.ensures.back at c.moved.ensures.wanted)

pub returns-clause-failure : goal.returns-clause-failure
returns-clause-failure c = rw c.split_at.ensures.back at c.parsed-answer.ensures.failure
