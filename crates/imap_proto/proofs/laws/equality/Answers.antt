use Rattle.imap_proto.proofs.Equality.{outcome_tells, fetches_tell, response_tells, whole_tells}
use Rattle.imap_proto.proofs.laws.equality.Goals as goal

pub returns-clause-outcome : goal.returns-clause-outcome
returns-clause-outcome c = outcome_tells

pub returns-clause-response : goal.returns-clause-response
returns-clause-response c = response_tells (fetches_tell _ c.equality.ensures.attribute)

pub returns-clause-whole : goal.returns-clause-whole
returns-clause-whole c = whole_tells (fetches_tell _ c.equality.ensures.attribute)
