use Rattle.std.proofs.Common.{◌≡◌, ◌++◌, ◌∙◌, ap, sym, ℕ, get_or, append-nil}
use Rattle.imap_body.proofs.Escapes.{one_more, other_stays, is_dropped, kept_of}
use Rattle.imap_body.proofs.unescaped.unescaped.Goals as goal
use Rattle.imap_body.proofs.unescaped.unescaped.Goals.{then-b-eq92, else-b-eq92, then-not-dropped+in_ok-push, else-not-dropped}

pub loop-b-preserved : goal.loop-b-preserved
loop-b-preserved c =
    let b : ℕ = get_or c.args.content.now c.loop-b.b-index 0 in
    let now : c.if-b-eq92.dropped ≡ is_dropped c.loop-b.dropped b = elim c.if-b-eq92.branch [ then-b-eq92 w ↦ rw w.if-b-eq92.true w.dropped-is | else-b-eq92 w ↦ w.dropped-is ∙ other_stays b c.loop-b.dropped w.if-b-eq92.false ] in
    let kept : c.if-not-dropped.kept.items ≡ c.loop-b.kept.items ++ kept_of c.if-b-eq92.dropped b = elim c.if-not-dropped.branch [ then-not-dropped+in_ok-push w ↦ rw w.if-not-dropped.true (ap (λ v. v.items) w.kept-is ∙ w.in_ok-push.ensures.items) | else-not-dropped w ↦ rw w.if-not-dropped.false (ap (λ v. v.items) w.kept-is ∙ sym (append-nil c.loop-b.kept.items)) ] in
    one_more c.loop-b.kept.items c.if-not-dropped.kept.items c.loop-b.dropped c.if-b-eq92.dropped c.args.content.now c.loop-b.b-index c.loop-b-test.true now kept c.loop-b.invariant
