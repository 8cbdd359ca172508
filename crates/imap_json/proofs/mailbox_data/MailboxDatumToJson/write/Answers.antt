use Rattle.imap_json.proofs.mailbox_data.MailboxDatumToJson.write.Goals as goal

pub returns-in-MetadataSolicited : goal.returns-in-MetadataSolicited
returns-in-MetadataSolicited c = rw c.in-MetadataSolicited.is c.of_mailbox-in-MetadataSolicited.ensures

pub returns-in-MetadataUnsolicited : goal.returns-in-MetadataUnsolicited
returns-in-MetadataUnsolicited c = rw c.in-MetadataUnsolicited.is c.of_mailbox-in-MetadataUnsolicited.ensures

pub returns-in-GmailLabels : goal.returns-in-GmailLabels
returns-in-GmailLabels c = rw c.in-GmailLabels.is c.variant-in-GmailLabels.ensures

pub returns-in-GmailMsgId : goal.returns-in-GmailMsgId
returns-in-GmailMsgId c = rw c.in-GmailMsgId.is c.variant-in-GmailMsgId.ensures

pub returns-in-GmailThrId : goal.returns-in-GmailThrId
returns-in-GmailThrId c = rw c.in-GmailThrId.is c.variant-in-GmailThrId.ensures
