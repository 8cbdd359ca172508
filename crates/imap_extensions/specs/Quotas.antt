-- Quotas (RFC 2087, section 6: quota_response, quota_list, quota_resource, quotaroot_response), with any blanks between
-- the parts.
use Rattle.std.specs.Prelude.{ℕ, List, map}
use Rattle.imap_grammar.specs.Text.{Text, text_of, lent_text}
use Rattle.imap_grammar.specs.Rule.{Rule, many, gives, list0, ◌⨾◌, ◌▹◌, ◌◃◌, ◌or◌}
use Rattle.imap_grammar.specs.Tags.{tag, word, names, blanks1}
use Rattle.imap_bytes.specs.Numbers.{number_64}
use Rattle.imap_bytes.specs.Texts.{astring_utf8}
use Rattle.imap_shared.specs.Copies.{IsLent}
use Rattle.imap_extensions.specs.declared.types.quotas.QuotaResourceName.{QuotaResourceName}
use Rattle.imap_extensions.specs.declared.types.quotas.QuotaResourceName.TheVariants as name
use Rattle.imap_extensions.specs.declared.types.quotas.QuotaResource.{QuotaResource}
use Rattle.imap_extensions.specs.declared.types.quotas.Quota.{Quota}
use Rattle.imap_extensions.specs.declared.types.quotas.QuotaRoot.{QuotaRoot}

-- ---- values

pub data QuotaResourceNameValue : Type 0 where
  Storage Message : QuotaResourceNameValue
  Atom : Text → QuotaResourceNameValue

pub record QuotaResourceValue : Type 0 where
  pub name : QuotaResourceNameValue
  pub usage : ℕ
  pub limit : ℕ

pub record QuotaValue : Type 0 where
  pub root_name : Text
  pub resources : List QuotaResourceValue

pub record QuotaRootValue : Type 0 where
  pub mailbox_name : Text
  pub quota_root_names : List Text

-- ---- of the code's values

abbrev pub quota_resource_name_value : QuotaResourceName → QuotaResourceNameValue
quota_resource_name_value name.Storage = Storage
quota_resource_name_value name.Message = Message
quota_resource_name_value (name.Atom t) = Atom (text_of t)

abbrev pub quota_resource_value : QuotaResource → QuotaResourceValue
quota_resource_value r =
    record {
      name = quota_resource_name_value r.name;
      usage = r.usage;
      limit = r.limit;
    }

abbrev pub quota_value : Quota → QuotaValue
quota_value q =
    record {
      root_name = text_of q.root_name;
      resources = map quota_resource_value q.resources.items;
    }

abbrev pub quota_root_value : QuotaRoot → QuotaRootValue
quota_root_value q =
    record {
      mailbox_name = text_of q.mailbox_name;
      quota_root_names = map text_of q.quota_root_names.items;
    }

-- ---- with each text changed by h

abbrev pub changed_quota_resource_name : (Text → Text) → QuotaResourceNameValue → QuotaResourceNameValue
changed_quota_resource_name h (Atom t) = Atom (h t)
changed_quota_resource_name h other = other

abbrev pub changed_quota_resource : (Text → Text) → QuotaResourceValue → QuotaResourceValue
changed_quota_resource h r =
    record {
      name = changed_quota_resource_name h r.name;
      usage = r.usage;
      limit = r.limit;
    }

abbrev pub changed_quota : (Text → Text) → QuotaValue → QuotaValue
changed_quota h q =
    record {
      root_name = h q.root_name;
      resources = map (changed_quota_resource h) q.resources;
    }

abbrev pub changed_quota_root : (Text → Text) → QuotaRootValue → QuotaRootValue
changed_quota_root h q =
    record {
      mailbox_name = h q.mailbox_name;
      quota_root_names = map h q.quota_root_names;
    }

-- ---- with all texts borrowed: two values say the same where these are equal

abbrev pub lent_quota_resource_name : QuotaResourceNameValue → QuotaResourceNameValue
lent_quota_resource_name = changed_quota_resource_name lent_text

abbrev pub lent_quota_resource : QuotaResourceValue → QuotaResourceValue
lent_quota_resource = changed_quota_resource lent_text

abbrev pub lent_quota : QuotaValue → QuotaValue
lent_quota = changed_quota lent_text

abbrev pub lent_quota_root : QuotaRootValue → QuotaRootValue
lent_quota_root = changed_quota_root lent_text

abbrev pub quota_resource_name_content : QuotaResourceName → QuotaResourceNameValue
quota_resource_name_content x = lent_quota_resource_name (quota_resource_name_value x)

abbrev pub quota_resource_content : QuotaResource → QuotaResourceValue
quota_resource_content x = lent_quota_resource (quota_resource_value x)

abbrev pub quota_content : Quota → QuotaValue
quota_content x = lent_quota (quota_value x)

abbrev pub quota_root_content : QuotaRoot → QuotaRootValue
quota_root_content x = lent_quota_root (quota_root_value x)

-- it holds no owned text
abbrev pub IsLentName : QuotaResourceNameValue → Type 0
IsLentName (Atom t) = IsLent t
IsLentName other = Unit {0}

-- ---- rules

-- Behind either word no more is looked at: of `STORAGE2` it takes `STORAGE`.
unfoldable pub quota_resource_name : Rule QuotaResourceNameValue
quota_resource_name = names "STORAGE" Storage or names "MESSAGE" Message or gives Atom astring_utf8

abbrev pub resource_of : QuotaResourceNameValue × (ℕ × ℕ) → QuotaResourceValue
resource_of (name, (usage, limit)) = record { name = name; usage = usage; limit = limit }

-- quota_resource = atom SP number SP number, where the name may be any astring
unfoldable pub quota_resource : Rule QuotaResourceValue
quota_resource = gives resource_of (quota_resource_name ⨾ blanks1 ▹ number_64 ⨾ blanks1 ▹ number_64)

unfoldable pub quota_resources : Rule (List QuotaResourceValue)
quota_resources = list0 blanks1 quota_resource

-- quota_list = "(" #quota_resource ")", where `#` is any number of them with SP between
unfoldable pub quota_list : Rule (List QuotaResourceValue)
quota_list = tag "(" ▹ quota_resources ◃ tag ")"

abbrev pub quota_of : Text × List QuotaResourceValue → QuotaValue
quota_of (root_name, resources) = record { root_name = root_name; resources = resources }

-- quota_response = "QUOTA" SP astring SP quota_list
unfoldable pub quota : Rule QuotaValue
quota = gives quota_of (word "QUOTA" ▹ blanks1 ▹ astring_utf8 ⨾ blanks1 ▹ quota_list)

unfoldable pub quota_root_name : Rule Text
quota_root_name = blanks1 ▹ astring_utf8

unfoldable pub quota_root_names : Rule (List Text)
quota_root_names = many quota_root_name

abbrev pub quota_root_of : Text × List Text → QuotaRootValue
quota_root_of (mailbox_name, names) =
    record {
      mailbox_name = mailbox_name;
      quota_root_names = names;
    }

-- quotaroot_response = "QUOTAROOT" SP astring *(SP astring)
unfoldable pub quota_root : Rule QuotaRootValue
quota_root = gives quota_root_of (word "QUOTAROOT" ▹ blanks1 ▹ astring_utf8 ⨾ quota_root_names)
