-- What `==` tells of access control lists.
use Rattle.std.proofs.Common.{◌≡◌, List, Bool, true, ◌&&◌, nat_eq, ap, map}
use Rattle.std.specs.Cow.{cow_str_bytes}
use Rattle.std.specs.Global.{Global}
use Rattle.std.specs.declared.borrow.CowStr.{CowStr}
use Rattle.std.specs.Cmp.Lexicographic.{pointwise}
use Rattle.std.proofs.lemmas.Bool.{and_parts, and_from}
use Rattle.imap_extensions.specs.declared.types.acls.AclEntry.{AclEntry}
use Rattle.imap_extensions.specs.declared.types.acls.Acl.{Acl}
use Rattle.imap_extensions.specs.declared.types.acls.ListRights.{ListRights}
use Rattle.imap_extensions.specs.declared.types.acls.MyRights.{MyRights}
use Rattle.imap_shared.specs.declared.types.rights.AclRight.{AclRight}
use Rattle.imap_extensions.specs.Acls.{acl_entry_value, lent_acl_entry, acl_entry_content, acl_content, list_rights_content, my_rights_content}
use Rattle.imap_shared.proofs.Rights.{right_tells}
use Rattle.imap_extensions.specs.contracts.types.acls.AclEntryPartialEq.TheImpl as entry_eq
use Rattle.imap_extensions.specs.contracts.types.acls.AclPartialEq.TheImpl as acl_eq
use Rattle.imap_extensions.specs.contracts.types.acls.ListRightsPartialEq.TheImpl as list_eq
use Rattle.imap_extensions.specs.contracts.types.acls.MyRightsPartialEq.TheImpl as my_eq
use Rattle.imap_shared.specs.contracts.types.rights.AclRightPartialEq.TheImpl as right_eq
use Rattle.imap_grammar.proofs.Seen.{Tells, texts_tell, lists_tell, plain_lists_tell}

rights_tell : Tells (pointwise (right_eq.eq-value).it) (λ (rights : List AclRight). rights)
rights_tell = plain_lists_tell (right_eq.eq-value).it right_tells

abbrev same_name : CowStr Global → CowStr Global → Bool
same_name x y = pointwise nat_eq (cow_str_bytes x) (cow_str_bytes y)

abbrev same_rights : List AclRight → List AclRight → Bool
same_rights x y = pointwise (right_eq.eq-value).it x y

entry_same : (x y : AclEntry) → (entry_eq.eq-value).it x y ≡ true → acl_entry_content x ≡ acl_entry_content y
entry_same x y h =
    let p = and_parts (same_name x.identifier y.identifier) (same_rights x.rights.items y.rights.items) h in
    let identifier = texts_tell.same x.identifier y.identifier p.0 in
    let rights = rights_tell.same x.rights.items y.rights.items p.1 in
    cc

entry_equal : (x y : AclEntry) → acl_entry_content x ≡ acl_entry_content y → (entry_eq.eq-value).it x y ≡ true
entry_equal x y h =
    and_from (same_name x.identifier y.identifier) (same_rights x.rights.items y.rights.items)
    (texts_tell.equal x.identifier y.identifier (ap (λ e. e.identifier) h))
    (rights_tell.equal x.rights.items y.rights.items (ap (λ e. e.rights) h))

pub entry_tells : Tells (entry_eq.eq-value).it acl_entry_content
entry_tells = record { same = entry_same; equal = entry_equal }

abbrev same_entries : List AclEntry → List AclEntry → Bool
same_entries x y = pointwise (entry_eq.eq-value).it x y

entries_tell : Tells same_entries (λ xs. map lent_acl_entry (map acl_entry_value xs))
entries_tell = lists_tell (entry_eq.eq-value).it acl_entry_value lent_acl_entry entry_tells

acl_same : (x y : Acl) → (acl_eq.eq-value).it x y ≡ true → acl_content x ≡ acl_content y
acl_same x y h =
    let p = and_parts (same_name x.mailbox y.mailbox) (same_entries x.acls.items y.acls.items) h in
    let mailbox = texts_tell.same x.mailbox y.mailbox p.0 in
    let entries = entries_tell.same x.acls.items y.acls.items p.1 in
    cc

acl_equal : (x y : Acl) → acl_content x ≡ acl_content y → (acl_eq.eq-value).it x y ≡ true
acl_equal x y h =
    and_from (same_name x.mailbox y.mailbox) (same_entries x.acls.items y.acls.items)
    (texts_tell.equal x.mailbox y.mailbox (ap (λ a. a.mailbox) h))
    (entries_tell.equal x.acls.items y.acls.items (ap (λ a. a.acls) h))

pub acl_tells : Tells (acl_eq.eq-value).it acl_content
acl_tells = record { same = acl_same; equal = acl_equal }

my_same : (x y : MyRights) → (my_eq.eq-value).it x y ≡ true → my_rights_content x ≡ my_rights_content y
my_same x y h =
    let p = and_parts (same_name x.mailbox y.mailbox) (same_rights x.rights.items y.rights.items) h in
    let mailbox = texts_tell.same x.mailbox y.mailbox p.0 in
    let rights = rights_tell.same x.rights.items y.rights.items p.1 in
    cc

my_equal : (x y : MyRights) → my_rights_content x ≡ my_rights_content y → (my_eq.eq-value).it x y ≡ true
my_equal x y h =
    and_from (same_name x.mailbox y.mailbox) (same_rights x.rights.items y.rights.items)
    (texts_tell.equal x.mailbox y.mailbox (ap (λ e. e.mailbox) h))
    (rights_tell.equal x.rights.items y.rights.items (ap (λ e. e.rights) h))

pub my_rights_tell : Tells (my_eq.eq-value).it my_rights_content
my_rights_tell = record { same = my_same; equal = my_equal }

abbrev same_sets : ListRights → ListRights → Bool
same_sets x y = same_rights x.required.items y.required.items && same_rights x.optional.items y.optional.items

list_same : (x y : ListRights) → (list_eq.eq-value).it x y ≡ true → list_rights_content x ≡ list_rights_content y
list_same x y h =
    let p = and_parts (same_name x.mailbox y.mailbox) (same_name x.identifier y.identifier && same_sets x y) h in
    let q = and_parts (same_name x.identifier y.identifier) (same_sets x y) p.1 in
    let r = and_parts (same_rights x.required.items y.required.items) (same_rights x.optional.items y.optional.items) q.1 in
    let mailbox = texts_tell.same x.mailbox y.mailbox p.0 in
    let identifier = texts_tell.same x.identifier y.identifier q.0 in
    let required = rights_tell.same x.required.items y.required.items r.0 in
    let optional = rights_tell.same x.optional.items y.optional.items r.1 in
    cc

list_equal : (x y : ListRights) → list_rights_content x ≡ list_rights_content y → (list_eq.eq-value).it x y ≡ true
list_equal x y h =
    and_from (same_name x.mailbox y.mailbox) (same_name x.identifier y.identifier && same_sets x y)
    (texts_tell.equal x.mailbox y.mailbox (ap (λ l. l.mailbox) h))
    (and_from (same_name x.identifier y.identifier) (same_sets x y)
    (texts_tell.equal x.identifier y.identifier (ap (λ l. l.identifier) h))
    (and_from (same_rights x.required.items y.required.items) (same_rights x.optional.items y.optional.items)
    (rights_tell.equal x.required.items y.required.items (ap (λ l. l.required) h))
    (rights_tell.equal x.optional.items y.optional.items (ap (λ l. l.optional) h))))

pub list_rights_tell : Tells (list_eq.eq-value).it list_rights_content
list_rights_tell = record { same = list_same; equal = list_equal }
