use Rattle.std.proofs.Common.{refl, rules}
use Rattle.imap_body.proofs.Putting.{put_behind}
use Rattle.imap_body.proofs.attributes.AttributeParts.push_mapped.Goals as goal

pub returns-in-BodyStructure : goal.returns-in-BodyStructure
returns-in-BodyStructure g c = rw c.in-BodyStructure.is (rw c.in_ok-reserve.ensures.items at c.push_body.ensures g.C.Change.after g.D.Change.after)

pub returns-in-Ok-or_drop : goal.returns-in-Ok-or_drop
returns-in-Ok-or_drop g c = put_behind _ _ _ _ _ _ c.in_ok-reserve.ensures.items c.push_reserved.ensures.items (rw (c.in-BodySection.is, c.in_ok-section-in-BodySection.ensures, c.in-Ok-or_drop.ensures.changed) refl)

pub returns-in-Ok-or_drop-2 : goal.returns-in-Ok-or_drop-2
returns-in-Ok-or_drop-2 g c = put_behind _ _ _ _ _ _ c.in_ok-reserve.ensures.items c.push_reserved-in-Envelope.ensures.items (rw (c.in-Envelope.is, c.in-Ok-or_drop-2.ensures) (search rules))

pub returns-in-Ok-or_drop-3 : goal.returns-in-Ok-or_drop-3
returns-in-Ok-or_drop-3 g c = put_behind _ _ _ _ _ _ c.in_ok-reserve.ensures.items c.push_reserved-in-Flags.ensures.items (rw (c.in-Flags.is, c.in-Ok-or_drop-3.ensures) refl)

pub returns-in-Ok-or_drop-4 : goal.returns-in-Ok-or_drop-4
returns-in-Ok-or_drop-4 g c = put_behind _ _ _ _ _ _ c.in_ok-reserve.ensures.items c.push_reserved-in-InternalDate.ensures.items (rw (c.in-InternalDate.is, c.in-Ok-or_drop-4.ensures) refl)

pub returns-in-ModSeq : goal.returns-in-ModSeq
returns-in-ModSeq g c = put_behind _ _ _ _ _ _ c.in_ok-reserve.ensures.items c.push_reserved-in-ModSeq.ensures.items (rw c.in-ModSeq.is refl)

pub returns-in-Ok-or_drop-5 : goal.returns-in-Ok-or_drop-5
returns-in-Ok-or_drop-5 g c = put_behind _ _ _ _ _ _ c.in_ok-reserve.ensures.items c.push_reserved-in-Rfc822.ensures.items (rw (c.in-Rfc822.is, c.in-Ok-or_drop-5.ensures.changed) refl)

pub returns-in-Ok-or_drop-6 : goal.returns-in-Ok-or_drop-6
returns-in-Ok-or_drop-6 g c = put_behind _ _ _ _ _ _ c.in_ok-reserve.ensures.items c.push_reserved-in-Rfc822Header.ensures.items (rw (c.in-Rfc822Header.is, c.in-Ok-or_drop-6.ensures.changed) refl)

pub returns-in-Rfc822Size : goal.returns-in-Rfc822Size
returns-in-Rfc822Size g c = put_behind _ _ _ _ _ _ c.in_ok-reserve.ensures.items c.push_reserved-in-Rfc822Size.ensures.items (rw c.in-Rfc822Size.is refl)

pub returns-in-Ok-or_drop-7 : goal.returns-in-Ok-or_drop-7
returns-in-Ok-or_drop-7 g c = put_behind _ _ _ _ _ _ c.in_ok-reserve.ensures.items c.push_reserved-in-Rfc822Text.ensures.items (rw (c.in-Rfc822Text.is, c.in-Ok-or_drop-7.ensures.changed) refl)

pub returns-in-Uid : goal.returns-in-Uid
returns-in-Uid g c = put_behind _ _ _ _ _ _ c.in_ok-reserve.ensures.items c.push_reserved-in-Uid.ensures.items (rw c.in-Uid.is refl)

pub returns-in-Ok-or_drop-8 : goal.returns-in-Ok-or_drop-8
returns-in-Ok-or_drop-8 g c = put_behind _ _ _ _ _ _ c.in_ok-reserve.ensures.items c.push_reserved-in-GmailLabels.ensures.items (rw (c.in-GmailLabels.is, c.in-Ok-or_drop-8.ensures) refl)

pub returns-in-GmailMsgId : goal.returns-in-GmailMsgId
returns-in-GmailMsgId g c = put_behind _ _ _ _ _ _ c.in_ok-reserve.ensures.items c.push_reserved-in-GmailMsgId.ensures.items (rw c.in-GmailMsgId.is refl)

pub returns-in-GmailThrId : goal.returns-in-GmailThrId
returns-in-GmailThrId g c = put_behind _ _ _ _ _ _ c.in_ok-reserve.ensures.items c.push_reserved-in-GmailThrId.ensures.items (rw c.in-GmailThrId.is refl)

pub returns-in-Ok-or_drop-9 : goal.returns-in-Ok-or_drop-9
returns-in-Ok-or_drop-9 g c = put_behind _ _ _ _ _ _ c.in_ok-reserve.ensures.items c.push_reserved-in-EmailId.ensures.items (rw (c.in-EmailId.is, c.in-Ok-or_drop-9.ensures) refl)

pub returns-in-Ok-or_drop-10 : goal.returns-in-Ok-or_drop-10
returns-in-Ok-or_drop-10 g c = put_behind _ _ _ _ _ _ c.in_ok-reserve.ensures.items c.push_reserved-in-ThreadId.ensures.items (rw (c.in-ThreadId.is, c.in-Ok-or_drop-10.ensures.changed) refl)

pub returns-in-Ok-or_drop-11 : goal.returns-in-Ok-or_drop-11
returns-in-Ok-or_drop-11 g c = put_behind _ _ _ _ _ _ c.in_ok-reserve.ensures.items c.push_reserved-in-SaveDate.ensures.items (rw (c.in-SaveDate.is, c.in-Ok-or_drop-11.ensures.changed) refl)

pub returns-in-Unknown : goal.returns-in-Unknown
returns-in-Unknown g c = put_behind _ _ _ _ _ _ c.in_ok-reserve.ensures.items c.push_reserved-in-Unknown.ensures.items (rw c.in-Unknown.is refl)
