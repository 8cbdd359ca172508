use Rattle.imap_json.proofs.attributes.AttributeValueToJson.write.Goals as goal

pub returns-in-InternalDate : goal.returns-in-InternalDate
returns-in-InternalDate c = rw c.in-InternalDate.is c.variant-in-InternalDate.ensures

pub returns-in-Rfc822Header : goal.returns-in-Rfc822Header
returns-in-Rfc822Header c = rw c.in-Rfc822Header.is c.variant-in-Rfc822Header.ensures

pub returns-in-Rfc822Size : goal.returns-in-Rfc822Size
returns-in-Rfc822Size c = rw c.in-Rfc822Size.is c.variant-in-Rfc822Size.ensures

pub returns-in-Rfc822Text : goal.returns-in-Rfc822Text
returns-in-Rfc822Text c = rw c.in-Rfc822Text.is c.variant-in-Rfc822Text.ensures

pub returns-in-GmailLabels : goal.returns-in-GmailLabels
returns-in-GmailLabels c = rw c.in-GmailLabels.is c.variant-in-GmailLabels.ensures

pub returns-in-GmailMsgId : goal.returns-in-GmailMsgId
returns-in-GmailMsgId c = rw c.in-GmailMsgId.is c.variant-in-GmailMsgId.ensures

pub returns-in-GmailThrId : goal.returns-in-GmailThrId
returns-in-GmailThrId c = rw c.in-GmailThrId.is c.variant-in-GmailThrId.ensures
