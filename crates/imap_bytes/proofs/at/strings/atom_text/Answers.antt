use Rattle.std.proofs.Common.{◌≡◌, refl, arith}
use Rattle.std.specs.Str.{is_utf8}
use Rattle.std.proofs.lemmas.Result.{err_from_is_err_and}
use Rattle.imap_grammar.specs.declared.answer.Err.TheVariants.{Error}
use Rattle.imap_grammar.proofs.Positions.{kept_self}
use Rattle.imap_bytes.specs.Strings.{atom}
use Rattle.imap_bytes.proofs.at.strings.atom_text.Goals as goal

pub returns-in_err-q-clause-span : goal.returns-in_err-q-clause-span
unfolding atom
returns-in_err-q-clause-span c =
    let r = err_from_is_err_and c.from_residual.result c.from_residual.ensures.1 in
    rw (r.1, r.2, c.in_err-q.ensures.steps) refl

pub returns-in_err-q-clause-text : goal.returns-in_err-q-clause-text
unfolding atom
returns-in_err-q-clause-text c =
    let r = err_from_is_err_and c.from_residual.result c.from_residual.ensures.1 in
    rw (r.1, r.2, c.in_err-q.ensures.steps) refl

pub returns-in_err-text-clause-span : goal.returns-in_err-text-clause-span
unfolding atom
returns-in_err-text-clause-span c =
    let r = err_from_is_err_and c.from_residual-in_err-text.result c.from_residual-in_err-text.ensures.1 in
    let none = rw c.in_err-text.ensures.ok_part at c.as_utf8.ensures in
    let error : c.in_err-text.field-0.0 ≡ Error = grind arith in
    rw (r.1, r.2, c.in_ok-q.ensures.steps, ← c.bytes.ensures, ← none, error) refl

pub returns-in_err-text-clause-text : goal.returns-in_err-text-clause-text
unfolding atom
returns-in_err-text-clause-text c =
    let r = err_from_is_err_and c.from_residual-in_err-text.result c.from_residual-in_err-text.ensures.1 in
    let none = rw c.in_err-text.ensures.ok_part at c.as_utf8.ensures in
    let error : c.in_err-text.field-0.0 ≡ Error = grind arith in
    rw (r.1, r.2, c.in_ok-q.ensures.steps, ← c.bytes.ensures, ← none, error) refl

pub returns-clause-span : goal.returns-clause-span
unfolding atom
returns-clause-span c =
    let kept = rw c.in_ok-text.ensures.ok_part at c.as_utf8.ensures in
    rw (c.in_ok-q.ensures.steps, ← c.bytes.ensures, kept_self is_utf8 _ _ kept) refl

pub returns-clause-text : goal.returns-clause-text
unfolding atom
returns-clause-text c =
    let kept = rw c.in_ok-text.ensures.ok_part at c.as_utf8.ensures in
    rw (c.in_ok-q.ensures.steps, ← c.bytes.ensures, ← kept) refl
