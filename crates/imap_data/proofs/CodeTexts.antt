-- Response codes: what their rules take spells them, and their canonical texts read back.
use Rattle.std.proofs.Common.{refl, map}
use Rattle.std.specs.Option.{option_map}
use Rattle.imap_grammar.specs.Rule.{opt, gives}
use Rattle.imap_grammar.specs.Text.{Bytes, lent_text}
use Rattle.imap_grammar.specs.ReadBack.{SpellsAndReadsBack, Any, as_is}
use Rattle.imap_grammar.proofs.Reading.{reads-gives, apart_forms, denies-after, denies-tag, Begins, begun}
use Rattle.imap_grammar.proofs.Spelling.{spells-gives}
use Rattle.imap_grammar.proofs.Keeping.{keeps-names, keeps-word, keeps-tag, keeps-before, keeps-seq, keeps-gives, keeps-follow, keeps-anywhere, keeps-first, keeps-opt, keeps-nonempty_list_of}
use Rattle.imap_grammar.specs.Spelling.{spells_number}
use Rattle.imap_grammar.specs.Pieces.{number_text}
use Rattle.imap_bytes.proofs.Keeping.{keeps-number, keeps-number_64, keeps-astring_utf8}
use Rattle.imap_bytes.specs.Numbers.{number, number_64}
use Rattle.imap_shared.specs.Capabilities.{capability_data}
use Rattle.imap_shared.proofs.CapabilityTexts.{reads_offered, keeps_capability_data}
use Rattle.imap_shared.specs.UidSets.{uid_set}
use Rattle.imap_shared.specs.UidSetTexts.{canonical_uid_set, spells_uid_set}
use Rattle.imap_shared.proofs.FlagTexts.{keeps_flag_list}
use Rattle.imap_shared.proofs.UidSetTexts.{keeps_uid_set}
use Rattle.imap_data.specs.Codes.{lent_code, charsets, append_uid_of, copy_uid_of, basic_code, uid_code, metadata_code, any_code, response_code, Alert, Parse, ReadOnly, ReadWrite, TryCreate, UidNotSticky, MetadataTooMany, MetadataNoPrivate, BadCharset, Capabilities, PermanentFlags, UidNext, UidValidity, Unseen, HighestModSeq, MetadataLongEntries, MetadataMaxSize}
use Rattle.imap_data.proofs.Rules.{basic_rules, uid_rules, metadata_rules, code_rules}
use Rattle.imap_data.specs.CodeTexts.{canonical_charsets, canonical_code, canonical_response_code, spells_charsets, spells_code, spells_response_code}

-- the bracket behind a code
abbrev Bracket : Bytes → Type 0
Bracket = Begins 93

keeps_charsets : SpellsAndReadsBack (opt charsets) (option_map (map lent_text)) canonical_charsets spells_charsets Bracket
unfolding charsets
keeps_charsets =
    keeps-opt refl refl (keeps-anywhere (keeps-tag " " (keeps-nonempty_list_of keeps-astring_utf8 (λ t. tt) (λ t. tt))))
    (begun _ (λ u. denies-after _ _ _ (denies-tag _ _ _ refl))) (λ x. refl) refl

keeps_capabilities : SpellsAndReadsBack (gives Capabilities capability_data) lent_code canonical_code spells_code Bracket
keeps_capabilities = record {
  spelled = spells-gives Capabilities keeps_capability_data.spelled;
  back = reads-gives Capabilities (reads_offered (begun _ (λ u. refl)) (begun _ (λ u. denies-tag _ _ _ refl))) (λ x. refl);
}

-- a number before the bracket
keeps_number : SpellsAndReadsBack number as_is number_text spells_number Bracket
keeps_number = keeps-follow keeps-number (begun _ (λ u. refl))

keeps_number_64 : SpellsAndReadsBack number_64 as_is number_text spells_number Bracket
keeps_number_64 = keeps-follow keeps-number_64 (begun _ (λ u. refl))

keeps_uids : SpellsAndReadsBack uid_set as_is canonical_uid_set spells_uid_set Bracket
keeps_uids = keeps-follow keeps_uid_set (begun _ (λ u. refl))

-- ---- the groups

keeps_basic : SpellsAndReadsBack basic_code lent_code canonical_code spells_code Bracket
unfolding basic_rules capability_data
keeps_basic =
    keeps-first (keeps-names "ALERT" Alert refl refl (λ c h. h)) (search apart_forms depth 20)
    (keeps-first (keeps-gives BadCharset (keeps-word "BADCHARSET" keeps_charsets) (λ x. refl)) (search apart_forms depth 20)
    (keeps-first keeps_capabilities (search apart_forms depth 20)
    (keeps-first (keeps-names "PARSE" Parse refl refl (λ c h. h)) (search apart_forms depth 20)
    (keeps-first (keeps-gives PermanentFlags (keeps-word "PERMANENTFLAGS " (keeps-anywhere keeps_flag_list)) (λ x. refl)) (search apart_forms depth 20)
    (keeps-first (keeps-gives UidValidity (keeps-word "UIDVALIDITY " keeps_number) (λ x. refl)) (search apart_forms depth 20)
    (keeps-first (keeps-gives UidNext (keeps-word "UIDNEXT " keeps_number) (λ x. refl)) (search apart_forms depth 20)
    (keeps-first (keeps-gives Unseen (keeps-word "UNSEEN " keeps_number) (λ x. refl)) (search apart_forms depth 20)
    (keeps-first (keeps-names "READ-ONLY" ReadOnly refl refl (λ c h. h)) (search apart_forms depth 20)
    (keeps-first (keeps-names "READ-WRITE" ReadWrite refl refl (λ c h. h)) (search apart_forms depth 20)
    (keeps-names "TRYCREATE" TryCreate refl refl (λ c h. h)))))))))))

keeps_uid : SpellsAndReadsBack uid_code lent_code canonical_code spells_code Bracket
unfolding uid_rules
keeps_uid =
    keeps-first (keeps-gives HighestModSeq (keeps-word "HIGHESTMODSEQ " keeps_number_64) (λ x. refl)) (search apart_forms depth 20)
    (keeps-first (keeps-gives append_uid_of (keeps-word "APPENDUID " (keeps-seq keeps-number (keeps-tag " " keeps_uids) (λ y t g. refl))) (λ x. refl)) (search apart_forms depth 20)
    (keeps-first
    (keeps-gives copy_uid_of (keeps-word "COPYUID " (keeps-seq keeps-number (keeps-tag " " (keeps-seq keeps_uid_set (keeps-tag " " keeps_uids) (λ y t g. refl))) (λ y t g. refl))) (λ x. refl))
    (search apart_forms depth 20)
    (keeps-names "UIDNOTSTICKY" UidNotSticky refl refl (λ c h. h))))

keeps_metadata : SpellsAndReadsBack metadata_code lent_code canonical_code spells_code Bracket
unfolding metadata_rules
keeps_metadata =
    keeps-first (keeps-gives MetadataLongEntries (keeps-word "METADATA LONGENTRIES " keeps_number_64) (λ x. refl)) (search apart_forms depth 20)
    (keeps-first (keeps-gives MetadataMaxSize (keeps-word "METADATA MAXSIZE " keeps_number_64) (λ x. refl)) (search apart_forms depth 20)
    (keeps-first (keeps-names "METADATA TOOMANY" MetadataTooMany refl refl (λ c h. h)) (search apart_forms depth 20)
    (keeps-names "METADATA NOPRIVATE" MetadataNoPrivate refl refl (λ c h. h))))

keeps_code : SpellsAndReadsBack any_code lent_code canonical_code spells_code Bracket
unfolding code_rules
keeps_code = keeps-first keeps_basic (search apart_forms depth 30) (keeps-first keeps_uid (search apart_forms depth 30) keeps_metadata)

pub keeps_response_code : SpellsAndReadsBack response_code lent_code canonical_response_code spells_response_code Any
unfolding response_code
keeps_response_code = keeps-tag "[" (keeps-before "]" keeps_code (λ t. (t, refl)))
