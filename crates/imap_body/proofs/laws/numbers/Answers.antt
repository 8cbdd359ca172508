use Rattle.imap_body.proofs.AttributeNumbers.{reads_sizes, reads_uids, reads_mod_seqs, reads_msgids, reads_thrids}
use Rattle.imap_body.proofs.laws.numbers.Goals as goal

pub returns-clause-rfc822_size : goal.returns-clause-rfc822_size
returns-clause-rfc822_size c = reads_sizes

pub returns-clause-uid : goal.returns-clause-uid
returns-clause-uid c = reads_uids

pub returns-clause-mod_seq : goal.returns-clause-mod_seq
returns-clause-mod_seq c = reads_mod_seqs

pub returns-clause-gmail_msgid : goal.returns-clause-gmail_msgid
returns-clause-gmail_msgid c = reads_msgids

pub returns-clause-gmail_thrid : goal.returns-clause-gmail_thrid
returns-clause-gmail_thrid c = reads_thrids
