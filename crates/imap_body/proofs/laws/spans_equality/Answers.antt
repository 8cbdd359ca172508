use Rattle.imap_body_types.proofs.Equality.{field}
use Rattle.imap_body.specs.SpannedAttributes.{place_of, place_of_text, places_of_body}
use Rattle.imap_body.proofs.Equality.{places_tell, text_places_tell}
use Rattle.imap_body.proofs.laws.spans_equality.Goals as goal

pub returns-clause-body_structure : goal.returns-clause-body_structure
returns-clause-body_structure c = c.equality.ensures.body_structure place_of_text place_of text_places_tell places_tell

pub returns-clause-attribute : goal.returns-clause-attribute
returns-clause-attribute c =
    c.attributes_equality.ensures place_of_text place_of (λ b. places_of_body b.value) text_places_tell places_tell (field (λ b. b.value) (c.equality.ensures.body_structure place_of_text place_of text_places_tell places_tell))
