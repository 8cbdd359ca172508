-- Response codes: what `==` tells, and each range of UIDs starts not above its end.
use Rattle.std.proofs.Common.{◌≡◌, refl, ap, map, nat_eq, true, Vec, Global, ℕ, List, Ok}
use Rattle.std.specs.Prelude.{option_map}
use Rattle.std.specs.Option.{option_eq}
use Rattle.std.specs.declared.borrow.CowStr.{CowStr}
use Rattle.std.specs.Cow.{cow_str_bytes}
use Rattle.std.specs.Cmp.Lexicographic.{pointwise}
use Rattle.imap_grammar.specs.Equality.{Tells}
use Rattle.imap_grammar.specs.Text.{text_of, lent_text}
use Rattle.imap_shared.specs.Capabilities.{capability_value, lent_capability}
use Rattle.imap_data.specs.Codes.{code_content, Alert, Parse, ReadOnly, ReadWrite, TryCreate, UidNotSticky, MetadataTooMany, MetadataNoPrivate, AppendUid, CopyUid, BadCharset, Capabilities, PermanentFlags, UidNext, UidValidity, Unseen, HighestModSeq, MetadataLongEntries, MetadataMaxSize, CodeValue, code_value, HasOrderedUids, AppendUid, CopyUid, append_uid_of, copy_uid_of, append_uid, copy_uid, highest_mod_seq, basic_code, uid_code, metadata_code, any_code}
use Rattle.imap_data.specs.declared.types.codes.ResponseCode.{ResponseCode}
use Rattle.imap_data.specs.declared.types.codes.ResponseCode.TheVariants as code
use Rattle.imap_data.specs.contracts.types.codes.ResponseCodePartialEq.TheImpl as code_eq
use Rattle.std.proofs.lemmas.Bool.{and_parts, and_from}
use Rattle.imap_grammar.proofs.Seen.{unequal, kinds_apart, items_tell, option_tells, on_tells, numbers_tell, retold, lists_tell, text_lists_tell, option_twice}
use Rattle.imap_shared.proofs.Capabilities.{capability_tells}
use Rattle.imap_shared.proofs.UidSets.{member_tells}
use Rattle.std.specs.List.{All}
use Rattle.imap_grammar.specs.Step.{step}
use Rattle.imap_grammar.proofs.Agreement.{reads}
use Rattle.imap_shared.proofs.UidSets.{IsOrderedValue, set_ordered, all_ordered}
use Rattle.imap_grammar.proofs.Yields.{Yields, either_yields, given_yields, made_yields, named_yields, both_yield, right_yields, second_yields}
use Rattle.imap_data.proofs.Rules.{basic_rules, metadata_rules}

texts_list_tell : Tells (λ (x y : Vec (CowStr Global) Global). pointwise (λ (a b : CowStr Global). pointwise nat_eq (cow_str_bytes a) (cow_str_bytes b)) x.items y.items) (λ v. map lent_text (map text_of v.items))
texts_list_tell = on_tells (λ v. v.items) _ _ text_lists_tell

charsets_tell : Tells (option_eq (λ (x y : Vec (CowStr Global) Global). pointwise (λ (a b : CowStr Global). pointwise nat_eq (cow_str_bytes a) (cow_str_bytes b)) x.items y.items)) (λ o. option_map (map lent_text) (option_map (λ v. map text_of v.items) o))
charsets_tell = retold (option_map (λ v. map lent_text (map text_of v.items))) (λ o. option_map (map lent_text) (option_map (λ v. map text_of v.items) o)) (option_twice (λ v. map text_of v.items) (map lent_text)) (option_tells _ _ texts_list_tell)

-- the number of its kind
abbrev kind_of : CodeValue → ℕ
kind_of Alert = 0
kind_of (BadCharset _) = 1
kind_of (Capabilities _) = 2
kind_of (HighestModSeq _) = 3
kind_of Parse = 4
kind_of (PermanentFlags _) = 5
kind_of ReadOnly = 6
kind_of ReadWrite = 7
kind_of TryCreate = 8
kind_of (UidNext _) = 9
kind_of (UidValidity _) = 10
kind_of (Unseen _) = 11
kind_of (AppendUid _ _) = 12
kind_of (CopyUid _ _ _) = 13
kind_of UidNotSticky = 14
kind_of (MetadataLongEntries _) = 15
kind_of (MetadataMaxSize _) = 16
kind_of MetadataTooMany = 17
kind_of MetadataNoPrivate = 18

code_same : (x y : ResponseCode) → (code_eq.eq-value).it x y ≡ true → code_content x ≡ code_content y
code_same code.Alert code.Alert h = refl
code_same code.Parse code.Parse h = refl
code_same code.ReadOnly code.ReadOnly h = refl
code_same code.ReadWrite code.ReadWrite h = refl
code_same code.TryCreate code.TryCreate h = refl
code_same code.UidNotSticky code.UidNotSticky h = refl
code_same code.MetadataTooMany code.MetadataTooMany h = refl
code_same code.MetadataNoPrivate code.MetadataNoPrivate h = refl
code_same (code.UidNext x) (code.UidNext y) h = ap UidNext (numbers_tell.same x y h)
code_same (code.UidValidity x) (code.UidValidity y) h = ap UidValidity (numbers_tell.same x y h)
code_same (code.Unseen x) (code.Unseen y) h = ap Unseen (numbers_tell.same x y h)
code_same (code.HighestModSeq x) (code.HighestModSeq y) h = ap HighestModSeq (numbers_tell.same x y h)
code_same (code.MetadataLongEntries x) (code.MetadataLongEntries y) h = ap MetadataLongEntries (numbers_tell.same x y h)
code_same (code.MetadataMaxSize x) (code.MetadataMaxSize y) h = ap MetadataMaxSize (numbers_tell.same x y h)
code_same (code.BadCharset x) (code.BadCharset y) h = ap BadCharset (charsets_tell.same x y h)
code_same (code.Capabilities x) (code.Capabilities y) h = ap Capabilities ((lists_tell _ capability_value lent_capability capability_tells).same x.items y.items h)
code_same (code.PermanentFlags x) (code.PermanentFlags y) h = ap PermanentFlags (texts_list_tell.same x y h)
code_same (code.AppendUid m x) (code.AppendUid n y) h =
    let p = and_parts _ _ h in
    let a = numbers_tell.same m n p.0 in
    let b = (items_tell _ _ member_tells).same x.items y.items p.1 in
    cc
code_same (code.CopyUid m x v) (code.CopyUid n y w) h =
    let p = and_parts _ _ h in
    let q = and_parts _ _ p.1 in
    let a = numbers_tell.same m n p.0 in
    let b = (items_tell _ _ member_tells).same x.items y.items q.0 in
    let d = (items_tell _ _ member_tells).same v.items w.items q.1 in
    cc
code_same x y h = absurd (unequal h)

code_equal : (x y : ResponseCode) → code_content x ≡ code_content y → (code_eq.eq-value).it x y ≡ true
code_equal code.Alert code.Alert h = refl
code_equal code.Parse code.Parse h = refl
code_equal code.ReadOnly code.ReadOnly h = refl
code_equal code.ReadWrite code.ReadWrite h = refl
code_equal code.TryCreate code.TryCreate h = refl
code_equal code.UidNotSticky code.UidNotSticky h = refl
code_equal code.MetadataTooMany code.MetadataTooMany h = refl
code_equal code.MetadataNoPrivate code.MetadataNoPrivate h = refl
code_equal (code.UidNext x) (code.UidNext y) h = numbers_tell.equal x y cc
code_equal (code.UidValidity x) (code.UidValidity y) h = numbers_tell.equal x y cc
code_equal (code.Unseen x) (code.Unseen y) h = numbers_tell.equal x y cc
code_equal (code.HighestModSeq x) (code.HighestModSeq y) h = numbers_tell.equal x y cc
code_equal (code.MetadataLongEntries x) (code.MetadataLongEntries y) h = numbers_tell.equal x y cc
code_equal (code.MetadataMaxSize x) (code.MetadataMaxSize y) h = numbers_tell.equal x y cc
code_equal (code.BadCharset x) (code.BadCharset y) h = charsets_tell.equal x y cc
code_equal (code.Capabilities x) (code.Capabilities y) h = (lists_tell _ capability_value lent_capability capability_tells).equal x.items y.items cc
code_equal (code.PermanentFlags x) (code.PermanentFlags y) h = texts_list_tell.equal x y cc
code_equal (code.AppendUid m x) (code.AppendUid n y) h = and_from _ _ (numbers_tell.equal m n cc) ((items_tell _ _ member_tells).equal x.items y.items cc)
code_equal (code.CopyUid m x v) (code.CopyUid n y w) h =
    and_from _ _ (numbers_tell.equal m n cc) (and_from _ _ ((items_tell _ _ member_tells).equal x.items y.items cc) ((items_tell _ _ member_tells).equal v.items w.items cc))
code_equal x y h = absurd (kinds_apart kind_of _ _ refl h)

pub code_tells : Tells (code_eq.eq-value).it code_content
code_tells = record { same = code_same; equal = code_equal }

-- ---- ranges in order

abbrev HasOrderedValues : CodeValue → Type 0
HasOrderedValues (AppendUid n uids) = All IsOrderedValue uids
HasOrderedValues (CopyUid n from to) = All IsOrderedValue from × All IsOrderedValue to
HasOrderedValues other = Unit {0}

append_ordered : Yields HasOrderedValues append_uid
unfolding append_uid
append_ordered = given_yields append_uid_of (right_yields (second_yields (right_yields set_ordered))) (λ v h. h)

copy_ordered : Yields HasOrderedValues copy_uid
unfolding copy_uid
copy_ordered = given_yields copy_uid_of (right_yields (second_yields (right_yields (both_yield set_ordered (right_yields set_ordered))))) (λ v h. h)

basic_ordered : Yields HasOrderedValues basic_code
unfolding basic_rules
basic_ordered =
    either_yields (named_yields tt) (either_yields (made_yields BadCharset (λ v. tt)) (either_yields (made_yields Capabilities (λ v. tt)) (either_yields (named_yields tt)
    (either_yields (made_yields PermanentFlags (λ v. tt)) (either_yields (made_yields UidValidity (λ v. tt)) (either_yields (made_yields UidNext (λ v. tt)) (either_yields (made_yields Unseen (λ v. tt))
    (either_yields (named_yields tt) (either_yields (named_yields tt) (named_yields tt))))))))))

uid_ordered : Yields HasOrderedValues uid_code
unfolding uid_code highest_mod_seq
uid_ordered = either_yields (made_yields HighestModSeq (λ v. tt)) (either_yields append_ordered (either_yields copy_ordered (named_yields tt)))

metadata_ordered : Yields HasOrderedValues metadata_code
unfolding metadata_rules
metadata_ordered =
    either_yields (made_yields MetadataLongEntries (λ v. tt)) (either_yields (made_yields MetadataMaxSize (λ v. tt)) (either_yields (named_yields tt) (named_yields tt)))

code_ordered : (c : ResponseCode) → HasOrderedValues (code_value c) → HasOrderedUids c
code_ordered (code.AppendUid n uids) h = all_ordered uids.items h
code_ordered (code.CopyUid n from to) h = (all_ordered from.items h.0, all_ordered to.items h.1)
code_ordered other h = tt

any_ordered : Yields HasOrderedValues any_code
unfolding any_code
any_ordered = either_yields basic_ordered (either_yields uid_ordered metadata_ordered)

pub ordered_code : (c : ResponseCode) (m rest : List ℕ) → step any_code m ≡ Ok (rest, code_value c) → HasOrderedUids c
ordered_code c m rest is = code_ordered c (any_ordered.each m (code_value c) rest (reads any_code m rest (code_value c) is))
