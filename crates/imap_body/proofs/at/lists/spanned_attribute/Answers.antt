use Rattle.std.proofs.Common.{rules, refl, arith}
use Rattle.imap_body_types.proofs.Places.{rests_more}
use Rattle.imap_body.proofs.Standing.{attribute_named, ends_there}
use Rattle.imap_body.proofs.at.lists.spanned_attribute.Goals as goal

pub returns-2-clause-steps : goal.returns-2-clause-steps
returns-2-clause-steps g c = search (rules, attribute_named) depth 2

pub returns-2-clause-stands : goal.returns-2-clause-stands
returns-2-clause-stands g c = ends_there _ _ _ _ _ _ (returns-2-clause-steps g c) (rests_more _ (omega arith) c.in-Ok-or_drop.ensures.rests) (omega (arith)) refl refl
