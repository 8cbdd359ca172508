use Rattle.std.proofs.Common.{rules, ◌≡◌, ◌-◌, ◌^◌, subst, sym, ap, ◌∙◌, ◌+◌, length}
use Rattle.imap_proto.specs.Streams.{EndsAs}
use Rattle.imap_proto.proofs.Streams.{nothing_waits}
use Rattle.imap_report.specs.declared.outcome.Fault.TheVariants.{TooLong}
use Rattle.imap_report.specs.Report.{ReadsAtLeast}
use Rattle.imap_report.proofs.Items.{nothing_none}
use Rattle.imap_report.proofs.Turns.{on_err}
use Rattle.imap_report.proofs.Progress.{nothing_yet, some_read, lines_told, breaks_off, stops_here, stops_behind, reads_long_behind, ends_denied}
use Rattle.imap_report.proofs.running.tell_items.Goals as goal

pub pieces-init : goal.pieces-init
pieces-init g c = record {
  so_far = rw c.new-feed.ensures.empty (nothing_yet _ _ _);
  ends = rw c.new-feed.ensures.empty nothing_waits;
  none = rw c.new-feed.ensures.empty (nothing_none _);
  reads = c.requires.reads;
  writes = c.requires.writes;
}

pub returns-in_err-n-clause-begun : goal.returns-in_err-n-clause-begun
returns-in_err-n-clause-begun g c = on_err _ (stops_behind _ _ _ _ _ _ _ _ 0 c.pieces.invariant.so_far c.in_err-n.ensures.some)

pub returns-in_err-end-clause-begun : goal.returns-in_err-end-clause-begun
returns-in_err-end-clause-begun g c =
    let so_far = some_read _ _ _ _ _ _ _ _ _ _ c.pieces.invariant.so_far c.in_ok-n.ensures.taken c.if-n-eq0.false in
    on_err _ (breaks_off _ _ _ _ _ _ _ _ so_far c.in_err-end.ensures.begun)

pub pieces-preserved : goal.pieces-preserved
pieces-preserved g c =
    let so_far = some_read _ _ _ _ _ _ _ _ _ _ c.pieces.invariant.so_far c.in_ok-n.ensures.taken c.if-n-eq0.false in
    record {
      so_far = lines_told _ _ _ _ _ _ _ _ _ so_far c.in_ok-end.ensures.told;
      ends = c.in_ok-end.ensures.ends;
      none = c.in_ok-end.ensures.none;
      reads = c.in_ok-n.ensures.failed;
      writes = c.in_ok-end.ensures.failed;
    }

pub returns-in_err-left-clause-begun : goal.returns-in_err-left-clause-begun
returns-in_err-left-clause-begun g c =
    let so_far = some_read _ _ _ _ _ _ _ _ _ _ c.pieces.invariant.so_far c.in_ok-n.ensures.taken c.if-n-eq0.false in
    let told = lines_told _ _ _ _ _ _ _ _ _ so_far c.in_ok-end.ensures.told in
    on_err _ (stops_behind _ _ _ _ _ _ _ _ 0 told c.in_err-left.ensures.some)

pub returns-in_err-left-clause-long : goal.returns-in_err-left-clause-long
returns-in_err-left-clause-long g c =
    let so_far = some_read _ _ _ _ _ _ _ _ _ _ c.pieces.invariant.so_far c.in_ok-n.ensures.taken c.if-n-eq0.false in
    let told = lines_told _ _ _ _ _ _ _ _ _ so_far c.in_ok-end.ensures.told in
    let long : c.in_err-left.field-0.0 ≡ TooLong → ReadsAtLeast (2 ^ 64 - 1) (g.R.Source.remaining c.args.reader.now) (g.R.Source.remaining c.count_on.new.reader) =
    λ is. reads_long_behind _ _ _ _ _ _ c.tell.new.feed _ (2 ^ 64 - 1) told (rw c.held-then-is_over.ensures at (c.in_err-left.ensures.long is)) in
    search rules

pub returns-then-is_over-clause-told : goal.returns-then-is_over-clause-told
returns-then-is_over-clause-told g c =
    let so_far = some_read _ _ _ _ _ _ _ _ _ _ c.pieces.invariant.so_far c.in_ok-n.ensures.taken c.if-n-eq0.false in
    let told = lines_told _ _ _ _ _ _ _ _ _ so_far c.in_ok-end.ensures.told in
    let over = c.is_over.ensures.0 c.if-is_over.true in
    let read = c.in_ok-left.ensures.read in
    ends_denied _ _ _ _ _ _ c.tell.new.feed read.0 _ _ told (sym c.on_denied.ensures ∙ over.1) (subst (EndsAs c.tell.new.feed) over.0 c.in_ok-end.ensures.ends) read.1
    (read.2 ∙ ap (λ k. length k + length read.0) c.held-then-is_over.ensures) c.in_ok-left.ensures.end

pub returns-clause-begun : goal.returns-clause-begun
returns-clause-begun g c = stops_here _ _ _ _ _ _ _ c.pieces.invariant.so_far
