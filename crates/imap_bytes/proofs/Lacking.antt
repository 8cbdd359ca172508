-- What strings lack is all that they lack: only a literal counts its bytes, and it stands last.
use Rattle.std.proofs.Common.{Some, None, refl}
use Rattle.imap_grammar.specs.Classes.{is_astring_char}
use Rattle.imap_grammar.specs.Rule.{run1, gives, nothing, ◌▹◌}
use Rattle.imap_grammar.specs.Stable.{LacksAll}
use Rattle.imap_grammar.proofs.Stability.{counted_lacks, later_lacks, given_lacks}
use Rattle.imap_bytes.specs.Numbers.{number, digits}
use Rattle.imap_bytes.specs.Strings.{quoted_part, quoted_content, quoted, literal_header, literal, string, astring, nil, nstring}

pub literal_lacks : LacksAll literal
unfolding literal literal_header number digits
literal_lacks = counted_lacks literal_header refl

pub string_lacks : LacksAll string
unfolding string quoted quoted_content quoted_part
string_lacks = later_lacks quoted literal refl literal_lacks

pub astring_lacks : LacksAll astring
unfolding astring
astring_lacks = later_lacks (run1 is_astring_char) string refl string_lacks

pub nstring_lacks : LacksAll nstring
unfolding nstring nil
nstring_lacks = later_lacks (nil ▹ nothing None) (gives Some string) refl (given_lacks Some string string_lacks)

pub ruleset strings_lack = (literal_lacks, string_lacks, astring_lacks, nstring_lacks)
