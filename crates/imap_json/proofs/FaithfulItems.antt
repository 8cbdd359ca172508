-- Statuses, capabilities, sets of UIDs, rights and sections.
use Rattle.std.proofs.Common.{◌≡◌, refl, ap}
use Rattle.imap_shared.specs.declared.types.statuses.Status.{Status}
use Rattle.imap_shared.specs.declared.types.statuses.Status.TheVariants as status
use Rattle.imap_shared.specs.declared.types.rights.AclRight.{AclRight}
use Rattle.imap_shared.specs.declared.types.rights.AclRight.TheVariants as right
use Rattle.imap_shared.specs.Capabilities.{CapabilityValue, Imap4rev1, Auth, Atom, lent_capability}
use Rattle.imap_shared.specs.UidSets.{MemberValue, UidRange, Uid}
use Rattle.imap_sections.specs.SectionValues.{PathValue, Full, Part}
use Rattle.imap_sections.specs.declared.types.sections.MessageSection.{MessageSection}
use Rattle.imap_sections.specs.declared.types.sections.MessageSection.TheVariants as section
use Rattle.imap_json.specs.Statuses.{status_json}
use Rattle.imap_json.specs.Capabilities.{capability_json}
use Rattle.imap_json.specs.UidSets.{member_json}
use Rattle.imap_json.specs.Rights.{right_json}
use Rattle.imap_json.specs.Sections.{section_json, path_json}
use Rattle.imap_json.specs.Forms.{list_json, number_json, option_json, pair_json}
use Rattle.imap_json.specs.Laws.{IsFaithful}
use Rattle.imap_json.proofs.Faithful.{names_apart, inner, numbers, plain_lists, plain_options, pairs, IsSolid}
use Rattle.imap_json.proofs.FaithfulTexts.{texts, characters, ranges}

statuses_apart : (a b : Status) → status_json a ≡ status_json b → a ≡ b
statuses_apart status.Ok status.Ok h = refl
statuses_apart status.No status.No h = refl
statuses_apart status.Bad status.Bad h = refl
statuses_apart status.PreAuth status.PreAuth h = refl
statuses_apart status.Bye status.Bye h = refl
statuses_apart a b h = absurd (names_apart _ _ refl h)

pub statuses : IsFaithful status_json (λ s. s)
statuses = record { apart = statuses_apart; alike = λ s. refl }

capabilities_apart : (a b : CapabilityValue) → capability_json a ≡ capability_json b → lent_capability a ≡ lent_capability b
capabilities_apart Imap4rev1 Imap4rev1 h = refl
capabilities_apart (Auth s) (Auth t) h = ap Auth (texts.apart s t (ap inner h))
capabilities_apart (Atom s) (Atom t) h = ap Atom (texts.apart s t (ap inner h))
capabilities_apart a b h = absurd (names_apart _ _ refl h)

capabilities_alike : (a : CapabilityValue) → capability_json (lent_capability a) ≡ capability_json a
capabilities_alike Imap4rev1 = refl
capabilities_alike (Auth t) = refl
capabilities_alike (Atom t) = refl

pub capabilities : IsFaithful capability_json lent_capability
capabilities = record { apart = capabilities_apart; alike = capabilities_alike }

members_apart : (a b : MemberValue) → member_json a ≡ member_json b → a ≡ b
members_apart (UidRange r) (UidRange s) h = ap UidRange (ranges.apart r s (ap inner h))
members_apart (Uid n) (Uid m) h = ap Uid (numbers.apart n m (ap inner h))
members_apart a b h = absurd (names_apart _ _ refl h)

members : IsFaithful member_json (λ m. m)
members = record { apart = members_apart; alike = λ m. refl }

pub uid_sets : IsFaithful (list_json member_json) (λ ms. ms)
uid_sets = plain_lists members

rights_apart : (a b : AclRight) → right_json a ≡ right_json b → a ≡ b
rights_apart right.Lookup right.Lookup h = refl
rights_apart right.Read right.Read h = refl
rights_apart right.Seen right.Seen h = refl
rights_apart right.Write right.Write h = refl
rights_apart right.Insert right.Insert h = refl
rights_apart right.Post right.Post h = refl
rights_apart right.CreateMailbox right.CreateMailbox h = refl
rights_apart right.DeleteMailbox right.DeleteMailbox h = refl
rights_apart right.DeleteMessage right.DeleteMessage h = refl
rights_apart right.Expunge right.Expunge h = refl
rights_apart right.Administer right.Administer h = refl
rights_apart right.Annotation right.Annotation h = refl
rights_apart right.OldCreate right.OldCreate h = refl
rights_apart right.OldDelete right.OldDelete h = refl
rights_apart (right.Custom c) (right.Custom d) h = ap right.Custom (characters.apart c d (ap inner h))
rights_apart a b h = absurd (names_apart _ _ refl h)

pub rights : IsFaithful (list_json right_json) (λ rs. rs)
rights = plain_lists (record { apart = rights_apart; alike = λ r. refl })

sections_apart : (a b : MessageSection) → section_json a ≡ section_json b → a ≡ b
sections_apart section.Header section.Header h = refl
sections_apart section.Mime section.Mime h = refl
sections_apart section.Text section.Text h = refl
sections_apart a b h = absurd (names_apart _ _ refl h)

sections : IsFaithful section_json (λ s. s)
sections = record { apart = sections_apart; alike = λ s. refl }

parts : IsFaithful (pair_json (list_json number_json) (option_json section_json)) (λ p. (p.0, p.1))
parts = pairs (plain_lists numbers) (plain_options sections (λ s. refl))

paths_apart : (a b : PathValue) → path_json a ≡ path_json b → a ≡ b
paths_apart (Full s) (Full t) h = ap Full (sections.apart s t (ap inner h))
paths_apart (Part ns s) (Part ms t) h = ap (λ p. Part p.0 p.1) (parts.apart (ns, s) (ms, t) (ap inner h))
paths_apart a b h = absurd (names_apart _ _ refl h)

paths_solid : IsSolid path_json
paths_solid (Full s) = refl
paths_solid (Part ns s) = refl

pub paths : IsFaithful (option_json path_json) (λ p. p)
paths = plain_options (record { apart = paths_apart; alike = λ p. refl }) paths_solid
