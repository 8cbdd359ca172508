use Rattle.std.proofs.Common.{drop, rules, ◌≡◌, Some}
use Rattle.std.specs.Prelude.{slice_get}
use Rattle.imap_bodystructure.proofs.FirstBytes.{encoding_is_literal}
use Rattle.imap_bodystructure.proofs.at.fields.body_fld_enc.Goals as goal

pub returns-in-Some-eq123-clause-reads : goal.returns-in-Some-eq123-clause-reads
returns-in-Some-eq123-clause-reads c =
    let here : slice_get (drop c.args.p c.args.m.now) 0 ≡ Some 123 = search rules in
    rw (encoding_is_literal (drop c.args.p c.args.m.now) here) c.other_encoding.ensures
