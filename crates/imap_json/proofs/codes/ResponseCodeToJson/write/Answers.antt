use Rattle.imap_json.proofs.codes.ResponseCodeToJson.write.Goals as goal

pub returns-in-BadCharset : goal.returns-in-BadCharset
returns-in-BadCharset c = rw c.in-BadCharset.is c.variant.ensures

pub returns-in-Capabilities : goal.returns-in-Capabilities
returns-in-Capabilities c = rw c.in-Capabilities.is c.variant-in-Capabilities.ensures

pub returns-in-HighestModSeq : goal.returns-in-HighestModSeq
returns-in-HighestModSeq c = rw c.in-HighestModSeq.is c.variant-in-HighestModSeq.ensures

pub returns-in-PermanentFlags : goal.returns-in-PermanentFlags
returns-in-PermanentFlags c = rw c.in-PermanentFlags.is c.variant-in-PermanentFlags.ensures

pub returns-in-MetadataLongEntries : goal.returns-in-MetadataLongEntries
returns-in-MetadataLongEntries c = rw c.in-MetadataLongEntries.is c.variant-in-MetadataLongEntries.ensures
