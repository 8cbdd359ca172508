-- Why a text spells no such range of UIDs, and no INBOX.
use Rattle.std.proofs.Common.{ℕ, ◌||◌, ◌&&◌, Bool, codes}
use Rattle.imap_grammar.specs.Text.{Bytes}
use Rattle.imap_grammar.specs.Ranges.{fresh}
use Rattle.imap_grammar.specs.Spelling.{spells_ends}
use Rattle.imap_shared.specs.UidSets.{UidRange}
use Rattle.imap_shared.specs.UidSetTexts.{spells_member}
use Rattle.imap_grammar.specs.Meaning.{is_word}
use Rattle.imap_grammar.specs.Tags.{same_letter}
use Rattle.imap_shared.specs.MailboxTexts.{spells_inbox}
use Rattle.imap_grammar.proofs.NoSpelling.{Passes, told_astring, tells-astring, tells-lossy, may_decode, any_cut, ◌andᵖ◌, ◌orᵖ◌, passes-this, passes-number, is_number, same_as}

-- two numbers with a colon between
abbrev pub is_ends : ℕ → ℕ → Bytes → Bool
is_ends a b = any_cut (λ n r. is_number a n && any_cut (λ k m. same_as (codes ":") k && is_number b m) r)

pub passes-ends : (a b : ℕ) → Passes (spells_ends a b) (is_ends a b)
passes-ends a b = passes-number a andᵖ passes-this (codes ":") andᵖ passes-number b

pub passes-member : (a b : ℕ) → Passes (spells_member (UidRange (fresh a b))) (λ c. is_ends a b c || is_ends b a c)
passes-member a b = record { passes = λ c x. (passes-ends a b orᵖ passes-ends b a).passes c x.2 }

abbrev pub may_be_inbox : Bytes → Bool
may_be_inbox = told_astring (may_decode (is_word same_letter (codes "INBOX")))

pub passes-inbox : Passes spells_inbox may_be_inbox
passes-inbox = record { passes = λ c x. tells-lossy tells-astring (is_word same_letter (codes "INBOX")) x.0 c x.2 x.1 }
