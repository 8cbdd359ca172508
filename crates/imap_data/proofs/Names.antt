-- What `==` tells of name attributes and of the data of LIST.
use Rattle.std.proofs.Common.{rules, ◌≡◌, ap, true, map, nat_eq, Global}
use Rattle.std.specs.Prelude.{option_map}
use Rattle.std.specs.Option.{option_eq}
use Rattle.std.specs.Cow.{cow_str_bytes}
use Rattle.std.specs.Cmp.Lexicographic.{pointwise}
use Rattle.std.specs.declared.borrow.CowStr.{CowStr}
use Rattle.std.proofs.lemmas.Bool.{and_parts, and_from}
use Rattle.imap_grammar.specs.Equality.{Tells}
use Rattle.imap_grammar.specs.Text.{text_of, lent_text}
use Rattle.imap_grammar.proofs.Seen.{texts_tell, lists_tell, options_tell}
use Rattle.imap_data.specs.Names.{ListValue, name_attribute_value, lent_name_attribute, name_attribute_content, list_content}
use Rattle.imap_data.specs.declared.types.names.MailboxListData.{MailboxListData}
use Rattle.imap_data.specs.contracts.types.names.NameAttributePartialEq.TheImpl as name_attribute_eq
use Rattle.imap_data.specs.contracts.types.names.MailboxListDataPartialEq.TheImpl as list_eq

name_attributes_tell : Tells (name_attribute_eq.eq-value).it name_attribute_content
name_attributes_tell = search rules

delimiters_tell : Tells (option_eq (λ (x y : CowStr Global). pointwise nat_eq (cow_str_bytes x) (cow_str_bytes y))) (λ x. option_map lent_text (option_map text_of x))
delimiters_tell = options_tell _ text_of lent_text texts_tell

names_tell : Tells (pointwise (name_attribute_eq.eq-value).it) (λ xs. map lent_name_attribute (map name_attribute_value xs))
names_tell = lists_tell _ name_attribute_value lent_name_attribute name_attributes_tell

list_same : (x y : MailboxListData) → (list_eq.eq-value).it x y ≡ true → list_content x ≡ list_content y
list_same x y h =
    let parts = and_parts _ _ h in
    let ends = and_parts _ _ parts.1 in
    let attributes = names_tell.same x.name_attributes.items y.name_attributes.items parts.0 in
    let delimiter = delimiters_tell.same x.delimiter y.delimiter ends.0 in
    let name = texts_tell.same x.name y.name ends.1 in
    cc

list_equal : (x y : MailboxListData) → list_content x ≡ list_content y → (list_eq.eq-value).it x y ≡ true
list_equal x y h =
    and_from _ _ (names_tell.equal x.name_attributes.items y.name_attributes.items (ap (λ (l : ListValue). l.name_attributes) h))
    (and_from _ _ (delimiters_tell.equal x.delimiter y.delimiter (ap (λ (l : ListValue). l.delimiter) h)) (texts_tell.equal x.name y.name (ap (λ (l : ListValue). l.name) h)))

pub list_tells : Tells (list_eq.eq-value).it list_content
list_tells = record { same = list_same; equal = list_equal }
