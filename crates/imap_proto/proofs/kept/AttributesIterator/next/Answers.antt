use Rattle.std.proofs.Common.{◌≡◌, ◌∷◌, ap, map, rules}
use Rattle.imap_body.specs.SpannedAttributes.{attribute_in}
use Rattle.imap_proto.proofs.kept.AttributesIterator.next.Goals as goal

pub returns-clause-steps : goal.returns-clause-steps
returns-clause-steps c =
    let named = attribute_in c.args.self.now.bytes.now in
    let cases = c.in_ok-first.ensures.cases in
    let whole : c.args.self.now.left.now ≡ c.in_ok-first.first.now ∷ c.in_ok-first.others.now = first_of (cc (cases.0, c.in_ok-first.first-is, c.in_ok-first.others-is), search rules) in
    (named c.in_ok-first.first.now, ap (λ xs. map named xs) whole, c.value.ensures)
