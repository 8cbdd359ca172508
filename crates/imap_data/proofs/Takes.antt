-- That a rule takes at least a byte wherever it yields: of the items of lists.
use Rattle.std.proofs.Common.{◌≡◌, true, refl}
use Rattle.imap_grammar.proofs.Consumption.{consumes}
use Rattle.imap_bytes.proofs.Takes.{astring_takes}
use Rattle.imap_shared.proofs.Takes.{backslashed_text_takes}
use Rattle.imap_data.specs.Annotations.{entry, entry_utf8, annotation}
use Rattle.imap_data.specs.Names.{name_attribute}
use Rattle.imap_data.specs.Counts.{status_item, found_number}
use Rattle.imap_data.proofs.Rules.{item_rules}

pub name_attribute_takes : consumes name_attribute ≡ true
unfolding name_attribute
name_attribute_takes = backslashed_text_takes

pub status_item_takes : consumes status_item ≡ true
unfolding item_rules
status_item_takes = refl

pub found_number_takes : consumes found_number ≡ true
unfolding found_number
found_number_takes = refl

pub entry_utf8_takes : consumes entry_utf8 ≡ true
unfolding entry_utf8 entry
entry_utf8_takes = astring_takes

pub annotation_takes : consumes annotation ≡ true
unfolding annotation
annotation_takes = rw entry_utf8_takes refl
