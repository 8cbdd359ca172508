use Rattle.std.proofs.Common.{arith, ◌∙◌, ◌<◌}
use Rattle.imap_report.proofs.Bytes.{moves_on}
use Rattle.imap_report.proofs.devices.write_all.Goals as goal

pub pieces-preserved : goal.pieces-preserved
pieces-preserved g c =
    let w = c.pieces.invariant.written in
    let some : 0 < c.in-Ok.n = omega arith in
    record {
      written = moves_on c.args.bytes.now w.0 c.pieces.rest.now c.split_at.result.1.now c.in-Ok.n _ _ _ w.1 w.2 c.in-Ok.ensures.bytes c.split_at.ensures.back;
      on = c.in-Ok.ensures.went_on some ∙ c.pieces.invariant.on;
    }
