use Rattle.imap_report.proofs.Items.{shorter}
use Rattle.imap_report.proofs.Turns.{told_front, told_on, told_line, told_begun, line_begun, on_err}
use Rattle.imap_report.proofs.telling.tell.Goals as goal

pub returns-in_err-text-clause-begun : goal.returns-in_err-text-clause-begun
returns-in_err-text-clause-begun g c = on_err _ (told_front _ _ _ _ _ c.turns.invariant.told)

pub turns-preserved : goal.turns-preserved
turns-preserved g c =
    let h = rw c.in-Line.is at c.in_ok-text.ensures in
    record {
      told = told_on _ _ _ _ _ _ _ c.turns.invariant.told (told_line _ _ _ _ _ h.0 _ _ h.1 c.as_bytes.ensures.value h.2 c.in_ok-write_all-in-Line.ensures.ok);
      on = c.in_ok-write_all-in-Line.ensures.failed;
    }

pub turns-smaller : goal.turns-smaller
turns-smaller g c = let h = rw c.in-Line.is at c.in_ok-text.ensures in shorter _ _ _ h.0 h.1

pub returns-in_err-write_all-in-Line-clause-begun : goal.returns-in_err-write_all-in-Line-clause-begun
returns-in_err-write_all-in-Line-clause-begun g c =
    let h = rw c.in-Line.is at c.in_ok-text.ensures in
    on_err _ (told_begun _ _ _ _ _ _ c.turns.invariant.told (line_begun _ _ _ _ _ h.0 _ _ h.1 c.as_bytes.ensures.value h.2 c.in_err-write_all-in-Line.ensures.front))
