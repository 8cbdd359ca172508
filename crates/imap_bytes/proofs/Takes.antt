-- That a rule takes at least a byte wherever it yields: of each public rule that does.
use Rattle.std.proofs.Common.{◌≡◌, true, refl}
use Rattle.imap_grammar.proofs.Consumption.{consumes}
use Rattle.imap_bytes.specs.Numbers.{number, number_64, digits}
use Rattle.imap_bytes.specs.Sets.{sequence_range, sequence_item, sequence_set}
use Rattle.imap_bytes.specs.Strings.{nil, quoted, literal, literal_header, string, astring, atom, nstring}
use Rattle.imap_bytes.specs.Texts.{quoted_utf8, string_utf8, astring_utf8, nstring_utf8}

pub number_takes : consumes number ≡ true
unfolding number digits
number_takes = refl

pub number_64_takes : consumes number_64 ≡ true
unfolding number_64 digits
number_64_takes = refl

pub sequence_range_takes : consumes sequence_range ≡ true
unfolding sequence_range
sequence_range_takes = rw number_takes refl

pub sequence_item_takes : consumes sequence_item ≡ true
unfolding sequence_item
sequence_item_takes = rw (sequence_range_takes, number_takes) refl

pub sequence_set_takes : consumes sequence_set ≡ true
unfolding sequence_set
sequence_set_takes = rw sequence_item_takes refl

pub nil_takes : consumes nil ≡ true
unfolding nil
nil_takes = refl

pub quoted_takes : consumes quoted ≡ true
unfolding quoted
quoted_takes = refl

pub literal_takes : consumes literal ≡ true
unfolding literal literal_header
literal_takes = refl

pub string_takes : consumes string ≡ true
unfolding string
string_takes = rw (quoted_takes, literal_takes) refl

pub astring_takes : consumes astring ≡ true
unfolding astring
astring_takes = string_takes

pub atom_takes : consumes atom ≡ true
unfolding atom
atom_takes = refl

pub nstring_takes : consumes nstring ≡ true
unfolding nstring
nstring_takes = rw (nil_takes, string_takes) refl

pub quoted_utf8_takes : consumes quoted_utf8 ≡ true
unfolding quoted_utf8
quoted_utf8_takes = quoted_takes

pub string_utf8_takes : consumes string_utf8 ≡ true
unfolding string_utf8
string_utf8_takes = string_takes

pub astring_utf8_takes : consumes astring_utf8 ≡ true
unfolding astring_utf8
astring_utf8_takes = astring_takes

pub nstring_utf8_takes : consumes nstring_utf8 ≡ true
unfolding nstring_utf8
nstring_utf8_takes = rw (nil_takes, string_utf8_takes) refl
