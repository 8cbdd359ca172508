use Rattle.imap_body.proofs.AttributeEquality.{attribute_tells}
use Rattle.imap_body.proofs.laws.attributes_equality.Goals as goal

pub returns : goal.returns
returns g c f h b t u w =
    attribute_tells g.row.S g.row.B g.row.Y g.S.PartialEq g.S.PartialEq-dict g.B.PartialEq g.B.PartialEq-dict g.Y.PartialEq g.Y.PartialEq-dict f h b t u w
