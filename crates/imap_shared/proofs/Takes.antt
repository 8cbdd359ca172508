-- That a rule takes at least a byte wherever it yields: of the items of lists, and of the rules that these stand on.
use Rattle.std.proofs.Common.{◌≡◌, true, refl}
use Rattle.imap_grammar.proofs.Consumption.{consumes}
use Rattle.imap_bytes.proofs.Takes.{number_takes, sequence_range_takes, quoted_utf8_takes, astring_utf8_takes}
use Rattle.imap_shared.specs.Flags.{backslashed, backslashed_text, keyword, flag, flag_perm, flag_text}
use Rattle.imap_shared.specs.Gmail.{gmail_label}
use Rattle.imap_shared.specs.Capabilities.{spaced_capability, spaced_name}
use Rattle.imap_shared.specs.UidSets.{uid_set_member}
use Rattle.imap_shared.specs.Rights.{rights}

pub backslashed_text_takes : consumes backslashed_text ≡ true
unfolding backslashed_text backslashed
backslashed_text_takes = refl

pub keyword_takes : consumes keyword ≡ true
unfolding keyword
keyword_takes = refl

pub flag_takes : consumes flag ≡ true
unfolding flag
flag_takes = rw (backslashed_text_takes, keyword_takes) refl

pub flag_perm_takes : consumes flag_perm ≡ true
unfolding flag_perm
flag_perm_takes = flag_takes

pub flag_text_takes : consumes flag_text ≡ true
unfolding flag_text
flag_text_takes = flag_perm_takes

pub gmail_label_takes : consumes gmail_label ≡ true
unfolding gmail_label
gmail_label_takes = rw (flag_takes, quoted_utf8_takes) refl

pub spaced_capability_takes : consumes spaced_capability ≡ true
unfolding spaced_capability
spaced_capability_takes = refl

pub spaced_name_takes : consumes spaced_name ≡ true
unfolding spaced_name
spaced_name_takes = refl

pub uid_set_member_takes : consumes uid_set_member ≡ true
unfolding uid_set_member
uid_set_member_takes = rw (sequence_range_takes, number_takes) refl

pub rights_take : consumes rights ≡ true
unfolding rights
rights_take = astring_utf8_takes
