-- A text's mark is whether it is borrowed. Where all texts of a value are marked alike twice, the later mark stays.
use Rattle.std.proofs.Common.{Bool, refl, sym, ap, ◌∙◌}
use Rattle.std.specs.Option.{option_map}
use Rattle.std.specs.FinMap.{get}
use Rattle.imap_grammar.proofs.Marks.{marked, LaterStays, lists, texts, ntext}
use Rattle.imap_extensions.specs.Quotas.{Storage, Message, Atom, changed_quota_resource_name, changed_quota_resource, changed_quota, changed_quota_root}
use Rattle.imap_extensions.specs.Ids.{changed_id}
use Rattle.imap_extensions.specs.Acls.{changed_acl_entry, changed_acl, changed_list_rights, changed_my_rights}
use Rattle.imap_extensions.proofs.Ids.{alike, get-changed}

-- marked with b, and then with a
module _ (a b : Bool) where
  pub quota_resource_name : LaterStays a b changed_quota_resource_name
  quota_resource_name Storage = refl
  quota_resource_name Message = refl
  quota_resource_name (Atom t) = refl

  pub quota_resource : LaterStays a b changed_quota_resource
  quota_resource r = rw (quota_resource_name r.name) refl

  pub quota : LaterStays a b changed_quota
  quota q = rw (lists a b changed_quota_resource quota_resource q.resources) refl

  pub quota_root : LaterStays a b changed_quota_root
  quota_root q = rw (texts a b q.quota_root_names) refl

  -- at each key of a map the later mark stays
  pub id_map : LaterStays a b changed_id
  id_map m =
      let once = changed_id (marked b) m in
      alike (changed_id (marked a) once) (changed_id (marked a) m)
      (λ q. get-changed (marked a) once q ∙ ap (option_map (marked a)) (get-changed (marked b) m q) ∙ ntext a b (get m q) ∙ sym (get-changed (marked a) m q))

  pub acl_entry : LaterStays a b changed_acl_entry
  acl_entry e = refl

  pub acl : LaterStays a b changed_acl
  acl list = rw (lists a b changed_acl_entry acl_entry list.acls) refl

  pub list_rights : LaterStays a b changed_list_rights
  list_rights r = refl

  pub my_rights : LaterStays a b changed_my_rights
  my_rights r = refl
