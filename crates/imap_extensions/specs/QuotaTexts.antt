-- The text of quotas.
use Rattle.imap_grammar.specs.Pieces.{Pieces, ◌then◌, words, space, number_text, literal_text, each, list_text}
use Rattle.imap_grammar.specs.ReadBack.{Texts}
use Rattle.imap_grammar.specs.Spelling.{exactly, in_any_case, ◌and◌, some_blanks, each_of, with_between, spells_number, spells_astring_text}
use Rattle.imap_extensions.specs.Quotas.{QuotaResourceNameValue, QuotaResourceValue, QuotaValue, QuotaRootValue, Storage, Message, Atom}

abbrev pub canonical_resource_name : QuotaResourceNameValue → Pieces
canonical_resource_name Storage = words "STORAGE"
canonical_resource_name Message = words "MESSAGE"
canonical_resource_name (Atom t) = literal_text t

-- the name, the usage, the limit
abbrev pub canonical_resource : QuotaResourceValue → Pieces
canonical_resource r =
    canonical_resource_name r.name
    then space
    then number_text r.usage
    then space
    then number_text r.limit

abbrev pub canonical_quota : QuotaValue → Pieces
canonical_quota q =
    words "QUOTA"
    then space
    then literal_text q.root_name
    then space
    then list_text canonical_resource q.resources

abbrev pub canonical_quota_root : QuotaRootValue → Pieces
canonical_quota_root q =
    words "QUOTAROOT"
    then space
    then literal_text q.mailbox_name
    then each (λ t. space then literal_text t) q.quota_root_names

abbrev pub spells_resource_name : QuotaResourceNameValue → Texts
spells_resource_name Storage = in_any_case "STORAGE"
spells_resource_name Message = in_any_case "MESSAGE"
spells_resource_name (Atom t) = spells_astring_text t

abbrev pub spells_resource : QuotaResourceValue → Texts
spells_resource r =
    spells_resource_name r.name
    and some_blanks
    and spells_number r.usage
    and some_blanks
    and spells_number r.limit

abbrev pub spells_quota : QuotaValue → Texts
spells_quota q =
    in_any_case "QUOTA"
    and some_blanks
    and spells_astring_text q.root_name
    and some_blanks
    and exactly "("
    and with_between some_blanks spells_resource q.resources
    and exactly ")"

abbrev pub spells_quota_root : QuotaRootValue → Texts
spells_quota_root q =
    in_any_case "QUOTAROOT"
    and some_blanks
    and spells_astring_text q.mailbox_name
    and each_of (λ t. some_blanks and spells_astring_text t) q.quota_root_names
