-- Sets of UIDs (RFC 4315, section 4: uid-set, uid-range).
use Rattle.std.specs.Prelude.{ℕ, min, max, ◌≤◌, List, Option, None, Some}
use Rattle.std.specs.Range.{range_inclusive_start, range_inclusive_end}
use Rattle.imap_grammar.specs.Rule.{Rule, gives, list1, opt, ◌⨾◌, ◌or◌}
use Rattle.imap_grammar.specs.Ranges.{Range, fresh, range_of}
use Rattle.imap_grammar.specs.Tags.{tag}
use Rattle.imap_bytes.specs.Numbers.{number}
use Rattle.imap_bytes.specs.Sets.{range_end, sequence_range}
use Rattle.imap_shared.specs.declared.types.uid_sets.UidSetMember.{UidSetMember}
use Rattle.imap_shared.specs.declared.types.uid_sets.UidSetMember.TheVariants as member

pub data MemberValue : Type 0 where
  UidRange : Range → MemberValue
  Uid : ℕ → MemberValue

abbrev pub member_value : UidSetMember → MemberValue
member_value (member.UidRange r) = UidRange (range_of r)
member_value (member.Uid n) = Uid n

-- a range starts not above its end
abbrev pub IsOrdered : UidSetMember → Type 0
IsOrdered (member.UidRange r) = range_inclusive_start r ≤ range_inclusive_end r
IsOrdered (member.Uid n) = Unit {0}

-- ---- rules

-- a range with its smaller end first, whichever end was written first
abbrev pub in_order : Range → MemberValue
in_order r = UidRange (fresh (min r.start r.end) (max r.start r.end))

-- uniqueid / uid-range, where uid-range = (uniqueid ":" uniqueid), in either order. Here a UID is any number.
unfoldable pub uid_set_member : Rule MemberValue
uid_set_member = gives in_order sequence_range or gives Uid number

-- a member as it is read: a number, and the one behind a colon if there is one
unfoldable pub maybe_range : Rule (ℕ × Option ℕ)
maybe_range = number ⨾ opt range_end

abbrev pub member_of : ℕ × Option ℕ → MemberValue
member_of (n, None) = Uid n
member_of (n, Some m) = in_order (fresh n m)

-- uid-set = (uniqueid / uid-range) *("," uid-set)
unfoldable pub uid_set : Rule (List MemberValue)
uid_set = list1 (tag ",") uid_set_member
