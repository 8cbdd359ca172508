use Rattle.std.proofs.Common.{rules, ◌≤◌, ◌+◌, ◌-◌, ◌^◌, ◌∙◌, arith}
use Rattle.imap_report.proofs.Progress.{counted_more, counted_some, counted_long}
use Rattle.imap_report.proofs.running.count_on.Goals as goal

pub reads-preserved : goal.reads-preserved
reads-preserved g c = record {
  counted = counted_more _ _ _ _ _ _ c.in-Ok.n _ c.reads.invariant.counted c.in-Ok.ensures.bytes.0 c.in-Ok.ensures.bound (rw c.in_ok-total-in-Ok.ensures.ok_part at c.checked_add.ensures).1;
  on = c.in-Ok.ensures.failed ∙ c.reads.invariant.on;
}

pub returns-in_err-total-in-Ok-clause-some : goal.returns-in_err-total-in-Ok-clause-some
returns-in_err-total-in-Ok-clause-some g c = let some = counted_some _ _ _ _ _ _ c.reads.invariant.counted c.in-Ok.ensures.bytes.0 in search rules

pub returns-in_err-total-in-Ok-clause-long : goal.returns-in_err-total-in-Ok-clause-long
returns-in_err-total-in-Ok-clause-long g c =
    let much : 2 ^ 64 - 1 ≤ c.reads.total + c.in-Ok.n = omega (arith, rw c.in_err-total-in-Ok.ensures.ok_part at c.checked_add.ensures) in
    let long = counted_long _ _ _ _ _ c.in-Ok.n _ _ c.reads.invariant.counted c.in-Ok.ensures.bytes.0 c.in-Ok.ensures.bound much in
    search rules
