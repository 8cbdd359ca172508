-- What `==` and hashing tell of quotas.
use Rattle.std.proofs.Common.{rules, ◌≡◌, ap, true}
use Rattle.std.proofs.lemmas.Bool.{and_parts, and_from}
use Rattle.imap_grammar.specs.Equality.{Tells, HashesAlike}
use Rattle.imap_grammar.specs.Text.{text_of, lent_text}
use Rattle.imap_grammar.proofs.Seen.{texts_tell, lists_tell, text_lists_tell}
use Rattle.imap_extensions.specs.Quotas.{QuotaValue, QuotaRootValue, quota_resource_value, lent_quota_resource, quota_resource_content, quota_content, quota_root_content}
use Rattle.imap_extensions.specs.declared.types.quotas.Quota.{Quota}
use Rattle.imap_extensions.specs.declared.types.quotas.QuotaRoot.{QuotaRoot}
use Rattle.imap_extensions.specs.contracts.types.quotas.QuotaResourcePartialEq.TheImpl as resource_eq
use Rattle.imap_extensions.specs.contracts.types.quotas.QuotaPartialEq.TheImpl as quota_eq
use Rattle.imap_extensions.specs.contracts.types.quotas.QuotaRootPartialEq.TheImpl as root_eq
use Rattle.imap_extensions.specs.contracts.types.quotas.QuotaResourceHash.TheImpl as resource_hash
use Rattle.imap_extensions.specs.contracts.types.quotas.QuotaHash.TheImpl as quota_hash
use Rattle.imap_extensions.specs.contracts.types.quotas.QuotaRootHash.TheImpl as root_hash
use Rattle.imap_grammar.proofs.Hashing.{lists_alike, same_bytes, texts_alike}

resources_tell : Tells (resource_eq.eq-value).it quota_resource_content
resources_tell = search rules

quota_same : (x y : Quota) → (quota_eq.eq-value).it x y ≡ true → quota_content x ≡ quota_content y
quota_same x y h =
    let parts = and_parts _ _ h in
    let root = texts_tell.same x.root_name y.root_name parts.0 in
    let resources = (lists_tell _ quota_resource_value lent_quota_resource resources_tell).same x.resources.items y.resources.items parts.1 in
    cc

quota_equal : (x y : Quota) → quota_content x ≡ quota_content y → (quota_eq.eq-value).it x y ≡ true
quota_equal x y h = and_from _ _ (texts_tell.equal x.root_name y.root_name (ap (λ (q : QuotaValue). q.root_name) h)) ((lists_tell _ quota_resource_value lent_quota_resource resources_tell).equal x.resources.items y.resources.items (ap (λ (q : QuotaValue). q.resources) h))

pub quotas_tell : Tells (quota_eq.eq-value).it quota_content
quotas_tell = record { same = quota_same; equal = quota_equal }

root_same : (x y : QuotaRoot) → (root_eq.eq-value).it x y ≡ true → quota_root_content x ≡ quota_root_content y
root_same x y h =
    let parts = and_parts _ _ h in
    let mailbox = texts_tell.same x.mailbox_name y.mailbox_name parts.0 in
    let roots = text_lists_tell.same x.quota_root_names.items y.quota_root_names.items parts.1 in
    cc

root_equal : (x y : QuotaRoot) → quota_root_content x ≡ quota_root_content y → (root_eq.eq-value).it x y ≡ true
root_equal x y h = and_from _ _ (texts_tell.equal x.mailbox_name y.mailbox_name (ap (λ (q : QuotaRootValue). q.mailbox_name) h)) (text_lists_tell.equal x.quota_root_names.items y.quota_root_names.items (ap (λ (q : QuotaRootValue). q.quota_root_names) h))

pub roots_tell : Tells (root_eq.eq-value).it quota_root_content
roots_tell = record { same = root_same; equal = root_equal }

-- ---- hashing

resources_alike : HashesAlike (resource_hash.hash_input-value).it quota_resource_content
resources_alike = search rules

pub quotas_alike : HashesAlike (quota_hash.hash_input-value).it quota_content
quotas_alike x y h =
    let root = same_bytes x.root_name y.root_name (ap (λ (q : QuotaValue). q.root_name) h) in
    let resources = lists_alike _ quota_resource_value lent_quota_resource resources_alike x.resources.items y.resources.items (ap (λ (q : QuotaValue). q.resources) h) in
    let lengths = resources.lengths in
    let items = resources.items in
    cc

pub roots_alike : HashesAlike (root_hash.hash_input-value).it quota_root_content
roots_alike x y h =
    let mailbox = same_bytes x.mailbox_name y.mailbox_name (ap (λ (q : QuotaRootValue). q.mailbox_name) h) in
    let roots = lists_alike _ text_of lent_text texts_alike x.quota_root_names.items y.quota_root_names.items (ap (λ (q : QuotaRootValue). q.quota_root_names) h) in
    let lengths = roots.lengths in
    let items = roots.items in
    cc
