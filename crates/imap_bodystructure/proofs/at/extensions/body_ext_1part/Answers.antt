use Rattle.std.proofs.Common.{refl, ap, ◌≡◌}
use Rattle.std.specs.Prelude.{Option}
use Rattle.std.proofs.Math.Nat.{le_trans}
use Rattle.imap_grammar.specs.Text.{Text}
use Rattle.imap_envelopes.proofs.Keeping.{kept_rests}
use Rattle.imap_body_types.specs.ExtensionValues.{ext_1part_seen}
use Rattle.imap_bodystructure.specs.Extensions.{SharedValue, ext_1part_of, body_ext_1part, shared_fields_seen}
use Rattle.imap_body_types.proofs.Places.{rests_more}
use Rattle.imap_bodystructure.proofs.at.extensions.body_ext_1part.Goals as goal

-- The same fields behind what is the same give the same.
same_behind : {x y : SharedValue} → (md5 : Option Text) → x ≡ y → ext_1part_of (md5, x) ≡ ext_1part_of (md5, y)
same_behind md5 same = ap (λ v. ext_1part_of (md5, v)) same

pub returns : goal.returns
unfolding body_ext_1part ext_1part_seen shared_fields_seen
returns g c =
    let read = rw c.input.view_is at c.in_ok-p.ensures in
    let shared = c.in_ok-p-2.ensures in
    let md5 = kept_rests _ _ _ _ _ _ c.in_ok-md5.ensures (rests_more c.in_ok-p-2.p shared.ahead.0 read.rests) in
    record {
      steps = rw (read.steps, shared.steps, c.in_ok-md5.ensures.is) refl;
      ahead = (le_trans read.ahead.0 shared.ahead.0, shared.ahead.1);
      rests = record { same = λ n k alike. rw (md5.same n k alike) (same_behind _ (shared.rests.same n k alike)) };
    }
