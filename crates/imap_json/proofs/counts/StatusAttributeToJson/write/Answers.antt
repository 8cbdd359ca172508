use Rattle.imap_json.proofs.counts.StatusAttributeToJson.write.Goals as goal

pub returns-in-HighestModSeq : goal.returns-in-HighestModSeq
returns-in-HighestModSeq c = rw c.in-HighestModSeq.is c.variant.ensures
