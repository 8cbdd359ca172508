-- The text of a response: one line.
use Rattle.std.specs.Prelude.{◌≡◌, ◌≤◌, ◌^◌, ◌⊎◌, Bool, true, false, not, nat_lt, [], ◌∷◌, ◌++◌, length, None, Some}
use Rattle.std.specs.List.{list_any}
use Rattle.imap_grammar.specs.Ascii.{line_feed, carriage_return, open_bracket}
use Rattle.imap_grammar.specs.Text.{Bytes, Text}
use Rattle.imap_grammar.specs.Rule.{meaning}
use Rattle.imap_grammar.specs.Pieces.{Piece, Raw, Lit, Pieces, ◌then◌, words, raw, space, number_text, written}
use Rattle.imap_grammar.specs.ReadBack.{Texts}
use Rattle.imap_grammar.specs.Spelling.{this, exactly, in_any_case, ◌and◌, all_of, utf8_of, as_it_is, maybe, spells_number}
use Rattle.imap_shared.specs.StatusTexts.{canonical_status, spells_status}
use Rattle.imap_shared.specs.CapabilityTexts.{canonical_capabilities, spells_capability_data, spells_enabled_data}
use Rattle.imap_data.specs.MailboxDataTexts.{canonical_datum, spells_datum}
use Rattle.imap_extensions.specs.VanishingTexts.{canonical_vanished, spells_vanished}
use Rattle.imap_extensions.specs.QuotaTexts.{canonical_quota, spells_quota, canonical_quota_root, spells_quota_root}
use Rattle.imap_extensions.specs.IdTexts.{canonical_id, spells_id}
use Rattle.imap_extensions.specs.AclTexts.{canonical_acl, spells_acl, canonical_list_rights, spells_list_rights, canonical_my_rights, spells_my_rights}
use Rattle.imap_body.specs.AttributeTexts.{canonical_attributes, spells_attributes}
use Rattle.imap_proto.specs.Responses.{OutcomeValue, ResponseValue, lent_response}
use Rattle.imap_proto.specs.Responses as said
use Rattle.imap_proto.specs.OutcomeTexts.{canonical_outcome, canonical_spaced, is_bracketed, spells_outcome, spells_spaced}
use Rattle.imap_proto.specs.Lines.{is_space, is_tag_char, response}

-- ---- canonical text

-- CRLF
abbrev pub line_end : Pieces
line_end = raw (carriage_return ∷ line_feed ∷ [])

-- what stands between `* ` and the end of the line; empty for a continuation and a tagged line
abbrev pub canonical_data : ResponseValue → Pieces
canonical_data (said.Data status o) = canonical_status status then canonical_spaced o
canonical_data (said.MailboxData datum) = canonical_datum datum
canonical_data (said.Expunge n) = number_text n then words " EXPUNGE"
canonical_data (said.Fetch n attributes) =
    number_text n then words " FETCH " then canonical_attributes attributes
canonical_data (said.Capabilities capabilities) = canonical_capabilities capabilities
canonical_data (said.Vanished earlier uids) = canonical_vanished (earlier, uids)
canonical_data (said.Quota quota) = canonical_quota quota
canonical_data (said.QuotaRoot root) = canonical_quota_root root
canonical_data (said.Id params) = canonical_id params
canonical_data (said.Acl acl) = canonical_acl acl
canonical_data (said.ListRights rights) = canonical_list_rights rights
canonical_data (said.MyRights rights) = canonical_my_rights rights
canonical_data (said.Continue o) = []
canonical_data (said.Done tag status o) = []

abbrev pub canonical_response : ResponseValue → Pieces
canonical_response (said.Continue o) = words "+" then space then canonical_outcome o then line_end
canonical_response (said.Done tag status o) =
    raw tag then space then canonical_status status then canonical_spaced o then line_end
canonical_response r = words "* " then canonical_data r then line_end

abbrev pub canonical_bytes : ResponseValue → Bytes
canonical_bytes r = written (canonical_response r)

-- ---- spelling

abbrev pub spells_data : ResponseValue → Texts
spells_data (said.Data status o) = spells_status status and spells_spaced o
spells_data (said.MailboxData datum) = spells_datum datum
spells_data (said.Expunge n) = spells_number n and in_any_case " EXPUNGE"
spells_data (said.Fetch n attributes) =
    spells_number n and in_any_case " FETCH " and spells_attributes attributes
spells_data (said.Capabilities capabilities) =
    λ c. spells_capability_data capabilities c ⊎ spells_enabled_data capabilities c
spells_data (said.Vanished earlier uids) = spells_vanished (earlier, uids)
spells_data (said.Quota quota) = spells_quota quota
spells_data (said.QuotaRoot root) = spells_quota_root root
spells_data (said.Id params) = spells_id params
spells_data (said.Acl acl) = spells_acl acl
spells_data (said.ListRights rights) = spells_list_rights rights
spells_data (said.MyRights rights) = spells_my_rights rights
spells_data (said.Continue o) = λ c. ⊥
spells_data (said.Done tag status o) = λ c. ⊥

abbrev pub ends_line : Texts
ends_line = this (carriage_return ∷ line_feed ∷ [])

-- spaces may stand before the end of a data line
abbrev pub spells_response : ResponseValue → Texts
spells_response (said.Continue o) =
    exactly "+" and maybe (exactly " ") and spells_outcome o and ends_line
spells_response (said.Done tag status o) =
    as_it_is (utf8_of is_tag_char) tag
    and exactly " "
    and spells_status status
    and spells_spaced o
    and ends_line
spells_response r = exactly "* " and spells_data r and all_of is_space and ends_line

-- what stands before the rest spells the response
abbrev pub Spelled : Bytes → Bytes → ResponseValue → Type 0
Spelled m rest r = (c : Bytes) × (m ≡ c ++ rest) × spells_response r c

-- ---- the two kinds of responses that are not read back

-- Without a code, its information begins with `[`, as a code does.
abbrev pub has_bracket : ResponseValue → Bool
has_bracket (said.Continue o) = is_bracketed o
has_bracket (said.Done tag status o) = is_bracketed o
has_bracket (said.Data status o) = is_bracketed o
has_bracket r = false

-- a literal of more than 4,294,967,295 bytes, whose length no number tells
abbrev pub is_too_long : Piece → Bool
is_too_long (Raw b) = false
is_too_long (Lit b) = not (nat_lt (length b) (2 ^ 32))

abbrev pub has_too_long_text : ResponseValue → Bool
has_too_long_text r = list_any is_too_long (canonical_response r)

-- ---- what these kinds are

-- a continuation, a tagged line or an untagged status, with this outcome
abbrev pub SaysOutcome : ResponseValue → OutcomeValue → Type 0
SaysOutcome (said.Continue outcome) o = outcome ≡ o
SaysOutcome (said.Done tag status outcome) o = outcome ≡ o
SaysOutcome (said.Data status outcome) o = outcome ≡ o
SaysOutcome r o = ⊥

-- the first: one of these lines, without a code, whose information begins with `[`
abbrev pub BracketIsSaid : Type 0
BracketIsSaid =
    (r : ResponseValue) → has_bracket r ≡ true
    → (o : OutcomeValue) × (information : Text) × (behind : Bytes)
    × SaysOutcome r o
    × (o.code ≡ None)
    × (o.information ≡ Some information)
    × (information.bytes ≡ open_bracket ∷ behind)

-- the second: a literal of its canonical text has 2 ^ 32 bytes or more
abbrev pub LiteralIsTooLong : Type 0
LiteralIsTooLong =
    (r : ResponseValue) → has_too_long_text r ≡ true
    → (front : Pieces) × (b : Bytes) × (behind : Pieces)
    × (canonical_response r ≡ front ++ Lit b ∷ behind)
    × (2 ^ 32 ≤ length b)

-- ---- the law of the whole grammar

-- A response that the grammar yields on some bytes, and that is of neither kind, it yields again on the response's
-- canonical text, with all texts borrowed, and leaves exactly what follows, whatever that is.
abbrev pub CanonicalReadsBack : Type 0
CanonicalReadsBack =
    (m : Bytes) (r : ResponseValue) (rest : Bytes) → (meaning response).yields m r rest
    → has_bracket r ≡ false → has_too_long_text r ≡ false
    → (t : Bytes) → (meaning response).yields (canonical_bytes r ++ t) (lent_response r) t

-- the same response, whichever texts are borrowed
abbrev pub Same : ResponseValue → ResponseValue → Type 0
Same r s = lent_response r ≡ lent_response s

-- Responses that say the same have one canonical text, and each is of either kind where the other is.
abbrev pub SaidAlike : Type 0
SaidAlike =
    (r s : ResponseValue) → Same r s
    → (canonical_response r ≡ canonical_response s)
    × (has_bracket r ≡ has_bracket s)
    × (has_too_long_text r ≡ has_too_long_text s)

-- So what says the same as a response that the grammar yields, as its owned form does, reads back as it.
abbrev pub SameReadsBack : Type 0
SameReadsBack =
    (m : Bytes) (r : ResponseValue) (rest : Bytes) → (meaning response).yields m r rest
    → (s : ResponseValue) → Same s r → has_bracket s ≡ false → has_too_long_text s ≡ false
    → (t : Bytes) → (meaning response).yields (canonical_bytes s ++ t) (lent_response s) t
