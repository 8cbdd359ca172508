use Rattle.std.proofs.Common.{◌+◌, ◌<◌, length, refl, sym, ap, ◌∙◌, arith}
use Rattle.std.proofs.lemmas.List.{drop-drop, length-drop}
use Rattle.imap_bytes.proofs.PlainStrings.{plain_string}
use Rattle.imap_bytes.proofs.at.strings.plain_string.Goals as goal

pub returns-clause-steps : goal.returns-clause-steps
returns-clause-steps c =
    let m = c.args.m.now in
    let p = c.args.p in
    let n = c.in_ok-n.n in
    let back = c.split_at.ensures.back in
    let within : p + 1 + n < length m = omega (arith, ap length back, c.in_ok-n.ensures.within, length-drop (p + 1) m) in
    plain_string m p (p + 1 + n) within (sym c.quote_follows.ensures ∙ c.if-not-quote_follows.false) (rw (← drop-drop n (p + 1) m, ← back) c.in_ok-n.ensures.closed) n refl (sym (rw back at c.in_ok-n.ensures.at))

pub returns-clause-place : goal.returns-clause-place
returns-clause-place c = rw (sym c.quote_follows.ensures ∙ c.if-not-quote_follows.false) (refl, refl)
