-- What `==` tells of attributes.
use Rattle.std.proofs.Common.{◌≡◌, refl, ap, Bool, true, map, nat_eq, ℕ, Option, None, Some, Vec, Global}
use Rattle.std.specs.Option.{option_map, option_eq}
use Rattle.std.specs.Cmp.Lexicographic.{pointwise}
use Rattle.std.specs.declared.cmp.PartialEq as partial
use Rattle.std.proofs.lemmas.Bool.{and_parts, and_from, false≢true, true≢false}
use denote.RattleType.{RattleType}
use mir.Syntax.{Dict}
use Rattle.imap_grammar.specs.Text.{Text, lent_text}
use Rattle.imap_grammar.specs.Equality.{Tells}
use Rattle.imap_grammar.proofs.Seen.{numbers_tell, option_tells, options_tell, retold, lists_tell}
use Rattle.imap_body_types.specs.BodyValues.{BodyValue}
use Rattle.imap_body_types.specs.Lent.{lent_ntext, lent_body}
use Rattle.imap_body_types.proofs.Equality.{field, envelope_tells}
use Rattle.imap_sections.specs.SectionValues.{path_value}
use Rattle.imap_sections.proofs.Equality.{paths_tell}
use Rattle.imap_body.specs.AttributeValues.{AttributeValue, attribute_seen}
use Rattle.imap_body.specs.AttributeValues as said
use Rattle.imap_body.specs.Changed.{lent_attribute}
use Rattle.imap_body.specs.declared.attributes.AttributeParts.{AttributeParts}
use Rattle.imap_body.specs.declared.attributes.AttributeParts.TheVariants as parts
use Rattle.imap_body.specs.contracts.attributes.AttributePartsPartialEq.TheImpl as parts_eq

indexes_tell : Tells (option_eq nat_eq) (λ (x : Option ℕ). x)
indexes_tell = retold (option_map (λ n. n)) (λ x. x) same (option_tells nat_eq (λ n. n) numbers_tell)
  where
    same : (x : Option ℕ) → option_map (λ n. n) x ≡ x
    same None = refl
    same (Some n) = refl

-- Two kinds of attribute are told apart by a number each: so one clause refutes all unlike pairs at once.
abbrev kind : AttributeValue → ℕ
kind (said.BodySection _ _ _) = 0
kind (said.BodyStructure _) = 1
kind (said.Envelope _) = 2
kind (said.Flags _) = 3
kind (said.InternalDate _) = 4
kind (said.ModSeq _) = 5
kind (said.Rfc822 _) = 6
kind (said.Rfc822Header _) = 7
kind (said.Rfc822Size _) = 8
kind (said.Rfc822Text _) = 9
kind (said.Uid _) = 10
kind (said.GmailLabels _) = 11
kind (said.GmailMsgId _) = 12
kind (said.GmailThrId _) = 13
kind (said.EmailId _) = 14
kind (said.ThreadId _) = 15
kind (said.SaveDate _) = 16
kind said.Unknown = 17

module _
    (S B Y : RattleType) (q : partial.Ghosts S.Denot) (d : Dict) (r : partial.Ghosts B.Denot) (e : Dict) (p : partial.Ghosts Y.Denot) (k : Dict)
    (f : S.Denot → Text) (g : B.Denot → Text) (h : Y.Denot → BodyValue) (t : Tells q.eq (λ s. lent_text (f s))) (u : Tells r.eq (λ b. lent_text (g b))) (w : Tells p.eq (λ y. lent_body (h y))) where
  abbrev Attribute : Type 0
  Attribute = AttributeParts S.Denot B.Denot Y.Denot

  abbrev eq : Attribute → Attribute → Bool
  eq = (parts_eq.eq-value S B Y q d r e p k).it

  abbrev view : Attribute → AttributeValue
  view x = lent_attribute (attribute_seen f g h x)

  texts : Tells (λ (x y : Vec S.Denot Global). pointwise q.eq x.items y.items) (λ v. map lent_text (map f v.items))
  texts = field (λ v. v.items) (lists_tell q.eq f lent_text t)

  nstrings : Tells (option_eq r.eq) (λ x. lent_ntext (option_map g x))
  nstrings = options_tell r.eq g lent_text u

  ntexts : Tells (option_eq q.eq) (λ x. lent_ntext (option_map f x))
  ntexts = options_tell q.eq f lent_text t

  attribute_same : (x y : Attribute) → eq x y ≡ true → view x ≡ view y
  attribute_same (parts.BodySection x i c) (parts.BodySection y j b) H =
      let section = and_parts _ _ H in
      let rest = and_parts _ _ section.1 in
      (λ z. said.BodySection ((option_tells _ path_value paths_tell).same x y section.0 z) (indexes_tell.same i j rest.0 z) (nstrings.same c b rest.1 z))
  attribute_same (parts.BodyStructure x) (parts.BodyStructure y) H = ap said.BodyStructure (w.same x y H)
  attribute_same (parts.Envelope x) (parts.Envelope y) H = ap said.Envelope ((envelope_tells B r e g u).same x.value y.value H)
  attribute_same (parts.Flags x) (parts.Flags y) H = ap said.Flags (texts.same x y H)
  attribute_same (parts.InternalDate x) (parts.InternalDate y) H = ap said.InternalDate (t.same x y H)
  attribute_same (parts.ModSeq x) (parts.ModSeq y) H = ap said.ModSeq (numbers_tell.same x y H)
  attribute_same (parts.Rfc822 x) (parts.Rfc822 y) H = ap said.Rfc822 (nstrings.same x y H)
  attribute_same (parts.Rfc822Header x) (parts.Rfc822Header y) H = ap said.Rfc822Header (nstrings.same x y H)
  attribute_same (parts.Rfc822Size x) (parts.Rfc822Size y) H = ap said.Rfc822Size (numbers_tell.same x y H)
  attribute_same (parts.Rfc822Text x) (parts.Rfc822Text y) H = ap said.Rfc822Text (nstrings.same x y H)
  attribute_same (parts.Uid x) (parts.Uid y) H = ap said.Uid (numbers_tell.same x y H)
  attribute_same (parts.GmailLabels x) (parts.GmailLabels y) H = ap said.GmailLabels (texts.same x y H)
  attribute_same (parts.GmailMsgId x) (parts.GmailMsgId y) H = ap said.GmailMsgId (numbers_tell.same x y H)
  attribute_same (parts.GmailThrId x) (parts.GmailThrId y) H = ap said.GmailThrId (numbers_tell.same x y H)
  attribute_same (parts.EmailId x) (parts.EmailId y) H = ap said.EmailId (t.same x y H)
  attribute_same (parts.ThreadId x) (parts.ThreadId y) H = ap said.ThreadId (ntexts.same x y H)
  attribute_same (parts.SaveDate x) (parts.SaveDate y) H = ap said.SaveDate (ntexts.same x y H)
  attribute_same parts.Unknown parts.Unknown H = refl
  attribute_same x y H = absurd (false≢true H)

  attribute_equal : (x y : Attribute) → view x ≡ view y → eq x y ≡ true
  attribute_equal (parts.BodySection x i c) (parts.BodySection y j b) H =
      and_from _ _ ((option_tells _ path_value paths_tell).equal x y cc) (and_from _ _ (indexes_tell.equal i j cc) (nstrings.equal c b cc))
  attribute_equal (parts.BodyStructure x) (parts.BodyStructure y) H = w.equal x y cc
  attribute_equal (parts.Envelope x) (parts.Envelope y) H = (envelope_tells B r e g u).equal x.value y.value cc
  attribute_equal (parts.Flags x) (parts.Flags y) H = texts.equal x y cc
  attribute_equal (parts.InternalDate x) (parts.InternalDate y) H = t.equal x y cc
  attribute_equal (parts.ModSeq x) (parts.ModSeq y) H = numbers_tell.equal x y cc
  attribute_equal (parts.Rfc822 x) (parts.Rfc822 y) H = nstrings.equal x y cc
  attribute_equal (parts.Rfc822Header x) (parts.Rfc822Header y) H = nstrings.equal x y cc
  attribute_equal (parts.Rfc822Size x) (parts.Rfc822Size y) H = numbers_tell.equal x y cc
  attribute_equal (parts.Rfc822Text x) (parts.Rfc822Text y) H = nstrings.equal x y cc
  attribute_equal (parts.Uid x) (parts.Uid y) H = numbers_tell.equal x y cc
  attribute_equal (parts.GmailLabels x) (parts.GmailLabels y) H = texts.equal x y cc
  attribute_equal (parts.GmailMsgId x) (parts.GmailMsgId y) H = numbers_tell.equal x y cc
  attribute_equal (parts.GmailThrId x) (parts.GmailThrId y) H = numbers_tell.equal x y cc
  attribute_equal (parts.EmailId x) (parts.EmailId y) H = t.equal x y cc
  attribute_equal (parts.ThreadId x) (parts.ThreadId y) H = ntexts.equal x y cc
  attribute_equal (parts.SaveDate x) (parts.SaveDate y) H = ntexts.equal x y cc
  attribute_equal parts.Unknown parts.Unknown H = refl
  attribute_equal x y H = absurd (true≢false (ap (λ v. nat_eq (kind (view x)) (kind v)) H))

  pub attribute_tells : Tells eq view
  attribute_tells = record { same = attribute_same; equal = attribute_equal }
