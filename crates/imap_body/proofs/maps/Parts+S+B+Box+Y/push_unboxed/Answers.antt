use Rattle.std.proofs.Common.{refl}
use Rattle.imap_body.proofs.Putting.{put_behind}
use Rattle.imap_body.proofs.maps.Parts+S+B+Box+Y.push_unboxed.Goals as goal

pub returns-in-BodyStructure : goal.returns-in-BodyStructure
returns-in-BodyStructure g c f h k = rw c.in-BodyStructure.is (rw c.in_ok-reserve.ensures.items at c.push_structure.ensures f h k)

pub returns-in-BodySection : goal.returns-in-BodySection
returns-in-BodySection g c f h k = put_behind _ _ _ _ _ _ c.in_ok-reserve.ensures.items c.push_reserved.ensures.items (rw c.in-BodySection.is refl)

pub returns-in-Envelope : goal.returns-in-Envelope
returns-in-Envelope g c f h k = put_behind _ _ _ _ _ _ c.in_ok-reserve.ensures.items c.push_reserved-in-Envelope.ensures.items (rw c.in-Envelope.is refl)

pub returns-in-Flags : goal.returns-in-Flags
returns-in-Flags g c f h k = put_behind _ _ _ _ _ _ c.in_ok-reserve.ensures.items c.push_reserved-in-Flags.ensures.items (rw c.in-Flags.is refl)

pub returns-in-InternalDate : goal.returns-in-InternalDate
returns-in-InternalDate g c f h k = put_behind _ _ _ _ _ _ c.in_ok-reserve.ensures.items c.push_reserved-in-InternalDate.ensures.items (rw c.in-InternalDate.is refl)

pub returns-in-ModSeq : goal.returns-in-ModSeq
returns-in-ModSeq g c f h k = put_behind _ _ _ _ _ _ c.in_ok-reserve.ensures.items c.push_reserved-in-ModSeq.ensures.items (rw c.in-ModSeq.is refl)

pub returns-in-Rfc822 : goal.returns-in-Rfc822
returns-in-Rfc822 g c f h k = put_behind _ _ _ _ _ _ c.in_ok-reserve.ensures.items c.push_reserved-in-Rfc822.ensures.items (rw c.in-Rfc822.is refl)

pub returns-in-Rfc822Header : goal.returns-in-Rfc822Header
returns-in-Rfc822Header g c f h k = put_behind _ _ _ _ _ _ c.in_ok-reserve.ensures.items c.push_reserved-in-Rfc822Header.ensures.items (rw c.in-Rfc822Header.is refl)

pub returns-in-Rfc822Size : goal.returns-in-Rfc822Size
returns-in-Rfc822Size g c f h k = put_behind _ _ _ _ _ _ c.in_ok-reserve.ensures.items c.push_reserved-in-Rfc822Size.ensures.items (rw c.in-Rfc822Size.is refl)

pub returns-in-Rfc822Text : goal.returns-in-Rfc822Text
returns-in-Rfc822Text g c f h k = put_behind _ _ _ _ _ _ c.in_ok-reserve.ensures.items c.push_reserved-in-Rfc822Text.ensures.items (rw c.in-Rfc822Text.is refl)

pub returns-in-Uid : goal.returns-in-Uid
returns-in-Uid g c f h k = put_behind _ _ _ _ _ _ c.in_ok-reserve.ensures.items c.push_reserved-in-Uid.ensures.items (rw c.in-Uid.is refl)

pub returns-in-GmailLabels : goal.returns-in-GmailLabels
returns-in-GmailLabels g c f h k = put_behind _ _ _ _ _ _ c.in_ok-reserve.ensures.items c.push_reserved-in-GmailLabels.ensures.items (rw c.in-GmailLabels.is refl)

pub returns-in-GmailMsgId : goal.returns-in-GmailMsgId
returns-in-GmailMsgId g c f h k = put_behind _ _ _ _ _ _ c.in_ok-reserve.ensures.items c.push_reserved-in-GmailMsgId.ensures.items (rw c.in-GmailMsgId.is refl)

pub returns-in-GmailThrId : goal.returns-in-GmailThrId
returns-in-GmailThrId g c f h k = put_behind _ _ _ _ _ _ c.in_ok-reserve.ensures.items c.push_reserved-in-GmailThrId.ensures.items (rw c.in-GmailThrId.is refl)

pub returns-in-EmailId : goal.returns-in-EmailId
returns-in-EmailId g c f h k = put_behind _ _ _ _ _ _ c.in_ok-reserve.ensures.items c.push_reserved-in-EmailId.ensures.items (rw c.in-EmailId.is refl)

pub returns-in-ThreadId : goal.returns-in-ThreadId
returns-in-ThreadId g c f h k = put_behind _ _ _ _ _ _ c.in_ok-reserve.ensures.items c.push_reserved-in-ThreadId.ensures.items (rw c.in-ThreadId.is refl)

pub returns-in-SaveDate : goal.returns-in-SaveDate
returns-in-SaveDate g c f h k = put_behind _ _ _ _ _ _ c.in_ok-reserve.ensures.items c.push_reserved-in-SaveDate.ensures.items (rw c.in-SaveDate.is refl)

pub returns-in-Unknown : goal.returns-in-Unknown
returns-in-Unknown g c f h k = put_behind _ _ _ _ _ _ c.in_ok-reserve.ensures.items c.push_reserved-in-Unknown.ensures.items (rw c.in-Unknown.is refl)
