use Rattle.std.proofs.Common.{refl, sym, drop, arith, rules, ◌≡◌, ◌<◌, ◌≤◌, Some, None}
use Rattle.std.specs.Prelude.{slice_get}
use Rattle.std.proofs.Math.Nat.{le_trans}
use Rattle.std.proofs.lemmas.Result.{err_from_is_err_and}
use Rattle.imap_grammar.proofs.Agreement.{stops, stops_with}
use Rattle.imap_grammar.specs.Rule.{◌or◌}
use Rattle.imap_grammar.proofs.Memory.{holds_already}
use Rattle.imap_bodystructure.specs.Bodies.{body, bracketed_body, quoted_type, body_type_text, body_type_basic, body_type_msg, body_type_mpart, some_bodies}
use Rattle.imap_body_types.specs.BodyValues.{body_seen}
use Rattle.imap_envelopes.proofs.Keeping.{kept_rests}
use Rattle.imap_bodystructure.proofs.Reading.{message_rests, multipart_rests, message_reads, multipart_reads, boxed_rests, unboxed_rests}
use Rattle.imap_bodystructure.proofs.FirstBytes.{type_none, type_is_quoted, type_is_literal, type_is_mpart, type_other}
use Rattle.imap_bodystructure.proofs.Levels.{body_below, body_takes, above_none}
use Rattle.imap_bodystructure.proofs.Choosing.{put_first, put_second}
use Rattle.imap_envelopes.proofs.Gathering.{first, next, all, halted, onward}
use Rattle.imap_grammar.specs.Positions.{named_in}
use Rattle.imap_body_types.proofs.Places.{rests_more, alone, together}
use Rattle.imap_bodystructure.proofs.at.bodies.+body.Goals as goal

pub body-returns-then-level-eq0-clause-puts : goal.body-returns-then-level-eq0-clause-puts
unfolding body
body-returns-then-level-eq0-clause-puts g t c = rw c.if-level-eq0.true refl

pub body-returns-clause-puts : goal.body-returns-clause-puts
body-returns-clause-puts g t c = rw (body_below c.args.level (drop c.args.p c.args.input.now) c.if-level-eq0.false) c.bracketed_body.ensures.puts

pub body-returns-then-level-eq0-clause-memory : goal.body-returns-then-level-eq0-clause-memory
body-returns-then-level-eq0-clause-memory g t c = λ q. absurd cc

pub body-returns-clause-memory : goal.body-returns-clause-memory
body-returns-clause-memory g t c = holds_already _ _ (above_none c.args.level c.if-level-eq0.false)

pub bracketed_body-returns-in_err-p-clause-puts : goal.bracketed_body-returns-in_err-p-clause-puts
unfolding bracketed_body
bracketed_body-returns-in_err-p-clause-puts g t c =
    let r = err_from_is_err_and c.from_residual.result c.from_residual.ensures.1 in
    rw (r.1, r.2) (stops _ _ (rw (← c.input.view_is, c.in_err-p.ensures.steps) refl))

pub bracketed_body-returns-in_err-p-2-clause-puts : goal.bracketed_body-returns-in_err-p-2-clause-puts
unfolding bracketed_body
bracketed_body-returns-in_err-p-2-clause-puts g t c =
    let r = err_from_is_err_and c.from_residual-in_err-p-2.result c.from_residual-in_err-p-2.ensures.1 in
    rw (r.1, r.2) (stops_with _ _ _ c.in_err-p-2.ensures.puts (λ d h. rw (← c.input.view_is, c.in_ok-p.ensures.steps, c.input.view_is, h) refl))

pub bracketed_body-returns-in-Err-clause-puts : goal.bracketed_body-returns-in-Err-clause-puts
unfolding bracketed_body
bracketed_body-returns-in-Err-clause-puts g t c =
    let put = c.in_ok-p-2.ensures.puts in
    stops _ _ (rw (← c.input.view_is, c.in_ok-p.ensures.steps, c.input.view_is, put.read, ← c.input.view_is, c.in-Err.ensures.steps) refl)

pub bracketed_body-returns-in-Err-clause-leaves : goal.bracketed_body-returns-in-Err-clause-leaves
bracketed_body-returns-in-Err-clause-leaves g t c =
    let put = c.in_ok-p-2.ensures.puts in
    c.drop_last.ensures _ put.one put.behind

pub bracketed_body-returns-in-Ok-clause-puts : goal.bracketed_body-returns-in-Ok-clause-puts
unfolding bracketed_body
bracketed_body-returns-in-Ok-clause-puts g t c =
    let put = c.in_ok-p-2.ensures.puts in
    record {
      one = put.one;
      behind = put.behind;
      read = rw (← c.input.view_is, c.in_ok-p.ensures.steps, c.input.view_is, put.read, ← c.input.view_is, c.in-Ok.ensures.steps) refl;
      rests = rests_more _ (omega (arith, c.in-Ok.ensures.inside)) put.rests;
    }

pub body_type_mpart-returns-in_err-subtype-clause-leaves : goal.body_type_mpart-returns-in_err-subtype-clause-leaves
body_type_mpart-returns-in_err-subtype-clause-leaves g t c =
    let p = err_from_is_err_and c.from_residual-in_err-subtype.result c.from_residual-in_err-subtype.ensures.1 in
    rw p.1 c.in_ok-reserve.ensures.items

pub body_type_mpart-push_reserved-requires : goal.body_type_mpart-push_reserved-requires
body_type_mpart-push_reserved-requires g t c = omega (arith, c.in_ok-reserve.ensures.ok)

pub body_type_mpart-returns-in_err-p-clause-puts : goal.body_type_mpart-returns-in_err-p-clause-puts
unfolding body_type_mpart
body_type_mpart-returns-in_err-p-clause-puts g t c =
    let r = err_from_is_err_and c.from_residual-in_err-p.result c.from_residual-in_err-p.ensures.1 in
    rw (r.1, r.2) (stops_with _ _ _ c.in_err-p.ensures.steps (λ d h. rw h refl))

pub body_type_mpart-returns-clause-puts : goal.body_type_mpart-returns-clause-puts
unfolding body_type_mpart
body_type_mpart-returns-clause-puts g t c =
    stops _ _ (rw (c.in_ok-p.ensures.steps, ← c.input.view_is, c.in-Err-or_drop.ensures.steps) refl)

pub body_type_mpart-returns-2-clause-puts : goal.body_type_mpart-returns-2-clause-puts
unfolding body_type_mpart
body_type_mpart-returns-2-clause-puts g t c =
    stops_with _ _ _ c.in-Err-or_drop-2.ensures.steps (λ d h. rw (c.in_ok-p.ensures.steps, ← c.input.view_is, c.in-Ok-or_drop.ensures.steps, c.input.view_is, h) refl)

pub body_type_mpart-returns-3-clause-puts : goal.body_type_mpart-returns-3-clause-puts
body_type_mpart-returns-3-clause-puts g t c =
    let named = rw c.input.view_is at c.in-Ok-or_drop.ensures in
    let q = c.in-Ok-or_drop-2.field-0.0 in
    let e2 : c.in-Ok-or_drop.field-0.0 ≤ q = c.in-Ok-or_drop-2.ensures.ahead.0 in
    let e1 : c.in_ok-p.p ≤ q = le_trans named.ahead.0 e2 in
    let ty = kept_rests _ _ _ q _ _ c.in_ok-ty.ensures (record { same = λ n k alike. refl }) in
    let subtype = kept_rests _ _ _ q _ _ c.in_ok-subtype.ensures (rests_more q e2 named.rests) in
    record {
      one = _;
      behind = rw c.push_reserved.ensures.items (rw c.in_ok-reserve.ensures.items refl);
      read = multipart_reads _ _ c.args.level _ _ _ _ _ _ _ _ c.in_ok-ty.ensures.is c.in_ok-p.ensures.steps (rw (sym c.in_ok-subtype.ensures.is) at named.steps) c.in-Ok-or_drop-2.ensures.steps;
      rests = multipart_rests _ _ q _ _ _ _ (rests_more q e1 c.in_ok-p.ensures.rests) ty subtype c.in-Ok-or_drop-2.ensures.rests;
    }

pub body_type_msg-returns-in_err-p-clause-puts : goal.body_type_msg-returns-in_err-p-clause-puts
unfolding body_type_msg
body_type_msg-returns-in_err-p-clause-puts g t c =
    let r = err_from_is_err_and c.from_residual.result c.from_residual.ensures.1 in
    rw (r.1, r.2) (stops _ _ (rw (← c.input.view_is, c.in_err-p.ensures.steps) refl))

pub body_type_msg-returns-in_err-p-2-clause-puts : goal.body_type_msg-returns-in_err-p-2-clause-puts
unfolding body_type_msg
body_type_msg-returns-in_err-p-2-clause-puts g t c =
    let r = err_from_is_err_and c.from_residual-in_err-p-2.result c.from_residual-in_err-p-2.ensures.1 in
    rw (r.1, r.2) (stops_with _ _ _ c.in_err-p-2.ensures.steps (λ d h. rw (← c.input.view_is, c.in_ok-p.ensures.steps, c.input.view_is, h) refl))

pub body_type_msg-returns-clause-puts : goal.body_type_msg-returns-clause-puts
unfolding body_type_msg
body_type_msg-returns-clause-puts g t c =
    stops_with _ _ _ c.in-Err-or_drop.ensures.steps (λ d h. rw (← c.input.view_is, c.in_ok-p.ensures.steps, c.input.view_is, c.in_ok-p-2.ensures.steps, h) refl)

pub body_type_msg-returns-2-clause-puts : goal.body_type_msg-returns-2-clause-puts
unfolding body_type_msg
body_type_msg-returns-2-clause-puts g t c =
    stops_with _ _ _ c.in-Err-or_drop-2.ensures.steps (λ d h. rw (← c.input.view_is, c.in_ok-p.ensures.steps, c.input.view_is, c.in_ok-p-2.ensures.steps, c.in-Ok-or_drop.ensures.steps, h) refl)

pub body_type_msg-returns-3-clause-puts : goal.body_type_msg-returns-3-clause-puts
unfolding body_type_msg
body_type_msg-returns-3-clause-puts g t c =
    stops _ _ (rw (← c.input.view_is, c.in_ok-p.ensures.steps, c.input.view_is, c.in_ok-p-2.ensures.steps, c.in-Ok-or_drop.ensures.steps, c.in-Ok-or_drop-2.ensures.steps, ← c.input.view_is, c.in-Err-or_drop-3.ensures.steps) refl)

pub body_type_msg-returns-4-clause-puts : goal.body_type_msg-returns-4-clause-puts
unfolding body_type_msg
body_type_msg-returns-4-clause-puts g t c =
    stops_with _ _ _ c.in-Err-or_drop-4.ensures.steps (λ d h. rw (← c.input.view_is, c.in_ok-p.ensures.steps, c.input.view_is, c.in_ok-p-2.ensures.steps, c.in-Ok-or_drop.ensures.steps, c.in-Ok-or_drop-2.ensures.steps, ← c.input.view_is, c.in-Ok-or_drop-3.ensures.steps, c.input.view_is, h) refl)

pub body_type_msg-returns-5-clause-puts : goal.body_type_msg-returns-5-clause-puts
body_type_msg-returns-5-clause-puts g t c =
    let word = rw c.input.view_is at c.in_ok-p.ensures in
    let lines = rw c.input.view_is at c.in-Ok-or_drop-3.ensures in
    let q = c.in-Ok-or_drop-4.field-0.0 in
    let e5 : c.in-Ok-or_drop-3.field-0.0 ≤ q = c.in-Ok-or_drop-4.ensures.ahead.0 in
    let e4 : c.in-Ok-or_drop-2.field-0.0 ≤ q = le_trans lines.ahead.0 e5 in
    let e3 : c.in-Ok-or_drop.field-0.0 ≤ q = le_trans c.in-Ok-or_drop-2.ensures.ahead.0 e4 in
    let e2 : c.in_ok-p-2.p ≤ q = le_trans c.in-Ok-or_drop.ensures.ahead.0 e3 in
    let ty = kept_rests _ _ _ q _ _ c.in_ok-ty.ensures (record { same = λ n k alike. refl }) in
    let subtype = kept_rests _ _ _ q _ _ c.in_ok-subtype.ensures (record { same = λ n k alike. refl }) in
    record {
      one = _;
      behind = rw c.push_reserved.ensures.items (rw c.in_ok-reserve.ensures.items refl);
      read = message_reads _ _ c.args.level _ _ _ _ _ _ _ _ _ _ _ _ c.in-Ok-or_drop-2.field-0.1.value c.in-Ok-or_drop-2.field-0.1 _ _ c.in_ok-ty.ensures.is c.in_ok-subtype.ensures.is refl word.steps c.in_ok-p-2.ensures.steps c.in-Ok-or_drop.ensures.steps c.in-Ok-or_drop-2.ensures.steps lines.steps c.in-Ok-or_drop-4.ensures.steps;
      rests = message_rests _ _ q _ _ _ _ _ _ _ ty subtype (rests_more q e2 c.in_ok-p-2.ensures.rests) (rests_more q e3 c.in-Ok-or_drop.ensures.rests) (unboxed_rests _ _ q _ (rests_more q e4 c.in-Ok-or_drop-2.ensures.rests)) c.in-Ok-or_drop-4.ensures.rests;
    }

pub one_body-returns-2 : goal.one_body-returns-2
one_body-returns-2 g t c =
    let put = c.in-Ok-or_drop.ensures.puts in
    let same = c.in_ok-boxed_only.ensures put.one (rw put.behind (rw c.in_ok-bodies.ensures.items refl)) in
    record {
      steps = rw same put.read;
      ahead = c.in-Ok-or_drop.ensures.ahead;
      rests = boxed_rests _ _ _ _ put.one same put.rests;
    }

pub some_bodies-bodies-init : goal.some_bodies-bodies-init
some_bodies-bodies-init g t c =
    let put = c.in-Ok-or_drop.ensures.puts in
    record {
      gathered = rw put.behind (rw c.new-items.ensures.items (first (body c.args.level) (body c.args.level) _ _ _ put.read));
      rests = rw put.behind (rw c.new-items.ensures.items (alone (λ n x. body_seen (g.K.Keep.text_said n) (g.K.Keep.bytes_said n) x) _ _ put.rests));
      ahead = c.in-Ok-or_drop.ensures.ahead.0;
      within = c.in-Ok-or_drop.ensures.ahead.1;
    }

pub some_bodies-bodies-smaller : goal.some_bodies-bodies-smaller
some_bodies-bodies-smaller g t c =
    let less : c.bodies.q < c.in-Ok.after = onward (body c.args.level) c.args.input.now _ _ _ c.in-Ok.ensures.puts.read (body_takes c.args.level) in
    omega (arith, less, c.in-Ok.ensures.ahead)

pub some_bodies-bodies-preserved : goal.some_bodies-bodies-preserved
some_bodies-bodies-preserved g t c =
    let put = c.in-Ok.ensures.puts in
    record {
      gathered = rw put.behind (next (λ x. body_seen (g.K.Keep.text_said (named_in c.args.input.now)) (g.K.Keep.bytes_said (named_in c.args.input.now)) x) _ (body c.args.level) _ _ _ put.one c.bodies.invariant.gathered put.read (body_takes c.args.level));
      rests = rw put.behind (together (λ n x. body_seen (g.K.Keep.text_said n) (g.K.Keep.bytes_said n) x) _ _ _ _ (c.in-Ok.ensures.ahead.0) c.bodies.invariant.rests put.rests);
      ahead = le_trans c.bodies.invariant.ahead c.in-Ok.ensures.ahead.0;
      within = c.in-Ok.ensures.ahead.1;
    }

pub some_bodies-returns-in-Error : goal.some_bodies-returns-in-Error
unfolding some_bodies
some_bodies-returns-in-Error g t c =
    record {
      steps = rw c.in-Err.ensures.leaves (all _ (body c.args.level) _ _ c.bodies.invariant.gathered (rw c.in-Error.is at c.in-Err.ensures.puts));
      ahead = (c.bodies.invariant.ahead, c.bodies.invariant.within);
      rests = record { same = λ n k alike. rw c.in-Err.ensures.leaves (c.bodies.invariant.rests.same n k alike) };
    }

pub some_bodies-returns-in_default : goal.some_bodies-returns-in_default
unfolding some_bodies
some_bodies-returns-in_default g t c =
    record {
      steps = halted _ (body c.args.level) _ _ c.in-Err.error c.bodies.invariant.gathered c.in_default.not-Error c.in-Err.ensures.puts;
      ahead = tt;
      rests = tt;
    }

pub body_type-returns-in-Some-eq34-clause-puts : goal.body_type-returns-in-Some-eq34-clause-puts
body_type-returns-in-Some-eq34-clause-puts g t c =
    let here : slice_get (drop c.args.p c.args.input.now) 0 ≡ Some 34 = search rules in
    rw (type_is_quoted c.args.level (drop c.args.p c.args.input.now) here) c.quoted_type.ensures.puts

pub body_type-returns-in-Some-eq123-clause-puts : goal.body_type-returns-in-Some-eq123-clause-puts
body_type-returns-in-Some-eq123-clause-puts g t c =
    let here : slice_get (drop c.args.p c.args.input.now) 0 ≡ Some 123 = search rules in
    rw (type_is_literal c.args.level (drop c.args.p c.args.input.now) here) c.body_type_basic.ensures.puts

pub body_type-returns-in-Some-eq40-clause-puts : goal.body_type-returns-in-Some-eq40-clause-puts
body_type-returns-in-Some-eq40-clause-puts g t c =
    let here : slice_get (drop c.args.p c.args.input.now) 0 ≡ Some 40 = search rules in
    rw (type_is_mpart c.args.level (drop c.args.p c.args.input.now) here) c.body_type_mpart.ensures.puts

pub body_type-returns-in-None-clause-puts : goal.body_type-returns-in-None-clause-puts
body_type-returns-in-None-clause-puts g t c =
    let here : slice_get (drop c.args.p c.args.input.now) 0 ≡ None = search rules in
    type_none c.args.level (drop c.args.p c.args.input.now) here

pub body_type-returns-in-Some-clause-puts : goal.body_type-returns-in-Some-clause-puts
body_type-returns-in-Some-clause-puts g t c = type_other c.args.level (drop c.args.p c.args.input.now) (search rules) (search rules)

pub quoted_type-returns-in_default-2-clause-puts : goal.quoted_type-returns-in_default-2-clause-puts
unfolding quoted_type
quoted_type-returns-in_default-2-clause-puts g t c =
    put_first body_type_text (body_type_msg (body c.args.level) or body_type_basic) _ c.args.input.now c.args.p _ _ _ (search rules) c.body_type_text.ensures.puts

pub quoted_type-returns-in_default-first-2-clause-puts : goal.quoted_type-returns-in_default-first-2-clause-puts
unfolding quoted_type
quoted_type-returns-in_default-first-2-clause-puts g t c =
    let inner = body c.args.level in
    let text = c.in-Err-Error-first in
    let put = put_first (body_type_msg inner) body_type_basic _ c.args.input.now c.args.p _ _ _ (search rules) c.body_type_msg.ensures.puts in
    put_second body_type_text (body_type_msg inner or body_type_basic) _ c.args.input.now c.args.p _ _ _ (rw text.field-0-is at text.ensures.puts) (rw text.ensures.leaves at put)

pub quoted_type-returns-clause-puts : goal.quoted_type-returns-clause-puts
unfolding quoted_type
quoted_type-returns-clause-puts g t c =
    let inner = body c.args.level in
    let text = c.in-Err-Error-first in
    let message = c.in-Err-Error-first-first in
    let put = put_second (body_type_msg inner) body_type_basic _ c.args.input.now c.args.p _ _ _ (rw message.field-0-is at message.ensures.puts) c.body_type_basic.ensures.puts in
    put_second body_type_text (body_type_msg inner or body_type_basic) _ c.args.input.now c.args.p _ _ _ (rw text.field-0-is at text.ensures.puts) (rw (message.ensures.leaves, text.ensures.leaves) at put)
