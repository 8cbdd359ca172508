-- The lines of extensions: quotas, IDs and access control lists.
use Rattle.std.proofs.Common.{◌≡◌, Bool, true, false, List, [], ◌∷◌, refl, sym, ap, ◌∙◌, map, codes}
use Rattle.std.specs.Option.{option_map}
use Rattle.std.specs.FinMap.{entries, from_entries}
use Rattle.std.proofs.lemmas.Simd.{map-map}
use Rattle.serde_json.specs.Data.{Data, null, Members, no_members, member}
use Rattle.imap_grammar.specs.Text.{Bytes, Text}
use Rattle.imap_grammar.proofs.Seen.{unequal}
use Rattle.imap_extensions.specs.Quotas.{QuotaResourceNameValue, lent_quota_resource_name, lent_quota_resource, lent_quota, lent_quota_root}
use Rattle.imap_extensions.specs.Quotas as quota
use Rattle.imap_extensions.specs.Ids.{lent_entry, lent_id}
use Rattle.imap_extensions.specs.Acls.{lent_acl_entry, lent_acl, lent_list_rights, lent_my_rights}
use Rattle.imap_extensions.proofs.Ids.{entries-lent_id}
use Rattle.imap_json.specs.Forms.{members_of, option_json, number_json, object_json}
use Rattle.imap_json.specs.Texts.{text_json}
use Rattle.imap_json.specs.Quotas.{resource_name_json, resource_json, quota_json, quota_root_json}
use Rattle.imap_json.specs.Ids.{entry_field, id_json}
use Rattle.imap_json.specs.Acls.{acl_entry_json, acl_json, list_rights_json, my_rights_json}
use Rattle.imap_json.specs.Laws.{IsFaithful}
use Rattle.imap_json.proofs.Faithful.{names_apart, inner, part, members_in, numbers, lists, options}
use Rattle.imap_json.proofs.FaithfulTexts.{texts}
use Rattle.imap_json.proofs.FaithfulItems.{rights}

-- ---- quotas

names_of_resources_apart : (a b : QuotaResourceNameValue) → resource_name_json a ≡ resource_name_json b → lent_quota_resource_name a ≡ lent_quota_resource_name b
names_of_resources_apart quota.Storage quota.Storage h = refl
names_of_resources_apart quota.Message quota.Message h = refl
names_of_resources_apart (quota.Atom s) (quota.Atom t) h = ap quota.Atom (texts.apart s t (ap inner h))
names_of_resources_apart a b h = absurd (names_apart _ _ refl h)

names_of_resources_alike : (a : QuotaResourceNameValue) → resource_name_json (lent_quota_resource_name a) ≡ resource_name_json a
names_of_resources_alike quota.Storage = refl
names_of_resources_alike quota.Message = refl
names_of_resources_alike (quota.Atom t) = refl

resource : IsFaithful resource_json lent_quota_resource
resource = record {
  apart = λ a b h.
      let p = names_of_resources_apart a.name b.name (ap (part 0) h) in
      let q = numbers.apart a.usage b.usage (ap (part 1) h) in
      let r = numbers.apart a.limit b.limit (ap (part 2) h) in
      λ i. record { name = p i; usage = q i; limit = r i };
  alike = λ a.
      let p = names_of_resources_alike a.name in
      λ i. object_json ((codes "name", p i) ∷ (codes "usage", number_json a.usage) ∷ (codes "limit", number_json a.limit) ∷ []);
}

pub quotas : IsFaithful quota_json lent_quota
quotas = record {
  apart = λ a b h.
      let p = texts.apart a.root_name b.root_name (ap (part 0) h) in
      let q = (lists resource).apart a.resources b.resources (ap (part 1) h) in
      λ i. record { root_name = p i; resources = q i };
  alike = λ a. let q = (lists resource).alike a.resources in λ i. object_json ((codes "root_name", text_json a.root_name) ∷ (codes "resources", q i) ∷ []);
}

pub quota_roots : IsFaithful quota_root_json lent_quota_root
quota_roots = record {
  apart = λ a b h.
      let p = texts.apart a.mailbox_name b.mailbox_name (ap (part 0) h) in
      let q = (lists texts).apart a.quota_root_names b.quota_root_names (ap (part 1) h) in
      λ i. record { mailbox_name = p i; quota_root_names = q i };
  alike = λ a. let q = (lists texts).alike a.quota_root_names in λ i. object_json ((codes "mailbox_name", text_json a.mailbox_name) ∷ (codes "quota_root_names", q i) ∷ []);
}

-- ---- IDs

abbrev has_member : Members → Bool
has_member no_members = false
has_member (member k d ms) = true

abbrev first_key : Members → Bytes
first_key no_members = []
first_key (member k d ms) = k

abbrev first_member : Members → Data
first_member no_members = null
first_member (member k d ms) = d

abbrev later_members : Members → Members
later_members no_members = no_members
later_members (member k d ms) = ms

entries_apart : (es fs : List (Bytes × Text)) → members_of (map entry_field es) ≡ members_of (map entry_field fs) → map lent_entry es ≡ map lent_entry fs
entries_apart [] [] h = refl
entries_apart [] (f ∷ fs) h = absurd (unequal (ap has_member h))
entries_apart (e ∷ es) [] h = absurd (unequal (sym (ap has_member h)))
entries_apart (e ∷ es) (f ∷ fs) h =
    let k = ap first_key h in
    let v = texts.apart e.1 f.1 (ap first_member h) in
    let more = entries_apart es fs (ap later_members h) in
    λ i. (k i, v i) ∷ more i

pub ids : IsFaithful id_json lent_id
ids = record {
  apart = λ a b h. ap from_entries (entries_apart (entries a) (entries b) (ap members_in h));
  alike = λ m. ap (λ es. object_json (map entry_field es)) (entries-lent_id m) ∙ ap object_json (map-map entry_field lent_entry (entries m));
}

pub optional_ids : IsFaithful (option_json id_json) (option_map lent_id)
optional_ids = options ids (λ m. refl)

-- ---- access control lists

acl_entry : IsFaithful acl_entry_json lent_acl_entry
acl_entry = record {
  apart = λ a b h.
      let p = texts.apart a.identifier b.identifier (ap (part 0) h) in
      let q = rights.apart a.rights b.rights (ap (part 1) h) in
      λ i. record { identifier = p i; rights = q i };
  alike = λ a. refl;
}

pub acls : IsFaithful acl_json lent_acl
acls = record {
  apart = λ a b h.
      let p = texts.apart a.mailbox b.mailbox (ap (part 0) h) in
      let q = (lists acl_entry).apart a.acls b.acls (ap (part 1) h) in
      λ i. record { mailbox = p i; acls = q i };
  alike = λ a. let q = (lists acl_entry).alike a.acls in λ i. object_json ((codes "mailbox", text_json a.mailbox) ∷ (codes "acls", q i) ∷ []);
}

pub list_rights : IsFaithful list_rights_json lent_list_rights
list_rights = record {
  apart = λ a b h.
      let p = texts.apart a.mailbox b.mailbox (ap (part 0) h) in
      let q = texts.apart a.identifier b.identifier (ap (part 1) h) in
      let r = rights.apart a.required b.required (ap (part 2) h) in
      let s = rights.apart a.optional b.optional (ap (part 3) h) in
      λ i. record { mailbox = p i; identifier = q i; required = r i; optional = s i };
  alike = λ a. refl;
}

pub my_rights : IsFaithful my_rights_json lent_my_rights
my_rights = record {
  apart = λ a b h.
      let p = texts.apart a.mailbox b.mailbox (ap (part 0) h) in
      let q = rights.apart a.rights b.rights (ap (part 1) h) in
      λ i. record { mailbox = p i; rights = q i };
  alike = λ a. refl;
}
