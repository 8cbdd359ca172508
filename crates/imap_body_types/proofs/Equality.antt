-- What `==` tells of shapes whose texts are told by what they say, whichever are borrowed.
use Rattle.std.proofs.Common.{◌≡◌, refl, sym, ap, ◌∙◌, Bool, true, ◌&&◌, map, Vec, Global}
use Rattle.std.specs.Option.{option_map, option_eq}
use Rattle.std.specs.Cmp.Lexicographic.{pointwise}
use Rattle.std.specs.declared.cmp.PartialEq as partial
use Rattle.std.proofs.lemmas.Bool.{and_parts, and_from}
use denote.RattleType.{RattleType}
use mir.Syntax.{Dict}
use Rattle.imap_grammar.specs.Text.{Text, lent_text}
use Rattle.imap_grammar.specs.Equality.{Tells}
use Rattle.imap_grammar.proofs.Seen.{on_tells, lists_tell, options_tell, numbers_tell}
use Rattle.imap_body_types.specs.EnvelopeValues.{address_seen, addresses_seen, envelope_seen}
use Rattle.imap_body_types.specs.FieldValues.{pair_seen, params_seen, encoding_seen}
use Rattle.imap_body_types.specs.ExtensionValues.{disposition_seen, languages_seen}
use Rattle.imap_body_types.specs.BodyValues.{type_seen, common_seen, single_seen}
use Rattle.imap_body_types.specs.Lent.{lent_ntext, lent_address, lent_addresses, lent_envelope, lent_pair, lent_params, lent_encoding, lent_disposition, lent_languages, lent_type, lent_common, lent_single}
use Rattle.imap_body_types.specs.declared.shapes.envelopes.Address.{Address}
use Rattle.imap_body_types.specs.declared.shapes.fields.ContentEncoding.{ContentEncoding}
use Rattle.imap_body_types.specs.declared.shapes.fields.ContentEncoding.TheVariants as encoding
use Rattle.imap_body_types.specs.contracts.shapes.envelopes.AddressPartialEq.TheImpl as address_eq
use Rattle.imap_body_types.specs.contracts.shapes.envelopes.EnvelopePartialEq.TheImpl as envelope_eq
use Rattle.imap_body_types.specs.contracts.shapes.fields.ContentEncodingPartialEq.TheImpl as encoding_eq
use Rattle.imap_body_types.specs.contracts.shapes.extensions.ContentDispositionPartialEq.TheImpl as disposition_eq
use Rattle.imap_body_types.specs.contracts.shapes.bodies.ContentTypePartialEq.TheImpl as type_eq
use Rattle.imap_body_types.specs.contracts.shapes.bodies.BodyContentCommonPartialEq.TheImpl as common_eq
use Rattle.imap_body_types.specs.contracts.shapes.bodies.BodyContentSinglePartPartialEq.TheImpl as single_eq

-- ---- records: field by field, as pairs, which are then told by the fields' names

pub both_tell : {A V W : Type 0} {d e : A → A → Bool} {v : A → V} {w : A → W} → Tells d v → Tells e w → Tells {V = V × W} (λ x y. d x y && e x y) (λ x. (v x, w x))
both_tell {d = d} {e = e} s t = record {
  same = λ x y h. let parts = and_parts (d x y) (e x y) h in (λ i. (s.same x y parts.0 i, t.same x y parts.1 i));
  equal = λ x y h. and_from (d x y) (e x y) (s.equal x y (ap (λ p. p.0) h)) (t.equal x y (ap (λ p. p.1) h));
}

pub named_tell : {A V W : Type 0} {e : A → A → Bool} {v : A → V} → Tells e v → (name : V → W) (fields : W → V) → ((x : V) → fields (name x) ≡ x) → Tells e (λ x. name (v x))
named_tell {v = v} t name fields back = record {
  same = λ x y h. ap name (t.same x y h);
  equal = λ x y h. t.equal x y (sym (back (v x)) ∙ ap fields h ∙ back (v y));
}

pub field : {A B V : Type 0} {e : B → B → Bool} {v : B → V} (f : A → B) → Tells e v → Tells (λ x y. e (f x) (f y)) (λ x. v (f x))
field {e = e} {v = v} f t = on_tells f e v t

-- ---- shapes, where `==` tells two texts by what f says of them

module _ (S : RattleType) (q : partial.Ghosts S.Denot) (d : Dict) (f : S.Denot → Text) (t : Tells q.eq (λ s. lent_text (f s))) where
  pub ntexts_tell : Tells (option_eq q.eq) (λ x. lent_ntext (option_map f x))
  ntexts_tell = options_tell q.eq f lent_text t

  pub texts_tell : Tells (λ (x y : Vec S.Denot Global). pointwise q.eq x.items y.items) (λ v. map lent_text (map f v.items))
  texts_tell = field (λ v. v.items) (lists_tell q.eq f lent_text t)

  pub languages_tell : Tells (option_eq (λ (x y : Vec S.Denot Global). pointwise q.eq x.items y.items)) (λ l. lent_languages (languages_seen f l))
  languages_tell = options_tell (λ x y. pointwise q.eq x.items y.items) (λ v. map f v.items) (map lent_text) texts_tell

  -- envelopes
  pub address_tells : Tells ((address_eq.eq-value S q d).it) (λ a. lent_address (address_seen f a))
  address_tells =
      named_tell
      (both_tell (field (λ a. a.name) ntexts_tell) (both_tell (field (λ a. a.adl) ntexts_tell) (both_tell (field (λ a. a.mailbox) ntexts_tell) (field (λ a. a.host) ntexts_tell))))
      (λ v. record { name = v.0; adl = v.1.0; mailbox = v.1.1.0; host = v.1.1.1 }) (λ a. (a.name, (a.adl, (a.mailbox, a.host)))) (λ v. refl)

  pub addresses_tell : Tells (option_eq (λ (x y : Vec (Address S.Denot) Global). pointwise (address_eq.eq-value S q d).it x.items y.items)) (λ l. lent_addresses (addresses_seen f l))
  addresses_tell =
      options_tell (λ x y. pointwise (address_eq.eq-value S q d).it x.items y.items) (λ v. map (address_seen f) v.items) (map lent_address)
      (field (λ v. v.items) (lists_tell (address_eq.eq-value S q d).it (address_seen f) lent_address address_tells))

  pub envelope_tells : Tells ((envelope_eq.eq-value S q d).it) (λ e. lent_envelope (envelope_seen f e))
  unfolding envelope_seen
  envelope_tells =
      named_tell
      (both_tell (field (λ e. e.date) ntexts_tell) (both_tell (field (λ e. e.subject) ntexts_tell)
      (both_tell (field (λ e. e.from) addresses_tell) (both_tell (field (λ e. e.sender) addresses_tell) (both_tell (field (λ e. e.reply_to) addresses_tell)
      (both_tell (field (λ e. e.to) addresses_tell) (both_tell (field (λ e. e.cc) addresses_tell) (both_tell (field (λ e. e.bcc) addresses_tell)
      (both_tell (field (λ e. e.in_reply_to) ntexts_tell) (field (λ e. e.message_id) ntexts_tell))))))))))
      (λ v. record { date = v.0; subject = v.1.0; from = v.1.1.0; sender = v.1.1.1.0; reply_to = v.1.1.1.1.0; to = v.1.1.1.1.1.0; cc = v.1.1.1.1.1.1.0; bcc = v.1.1.1.1.1.1.1.0; in_reply_to = v.1.1.1.1.1.1.1.1.0; message_id = v.1.1.1.1.1.1.1.1.1 })
      (λ e. (e.date, (e.subject, (e.from, (e.sender, (e.reply_to, (e.to, (e.cc, (e.bcc, (e.in_reply_to, e.message_id))))))))))
      (λ v. refl)

  -- fields
  pub pair_tells : Tells (λ (x y : S.Denot × S.Denot). q.eq x.0 y.0 && q.eq x.1 y.1) (λ p. lent_pair (pair_seen f p))
  pair_tells = both_tell (field (λ p. p.0) t) (field (λ p. p.1) t)

  pub params_tell : Tells (option_eq (λ (x y : Vec (S.Denot × S.Denot) Global). pointwise (λ p r. q.eq p.0 r.0 && q.eq p.1 r.1) x.items y.items)) (λ x. lent_params (params_seen f x))
  params_tell =
      options_tell (λ x y. pointwise (λ p r. q.eq p.0 r.0 && q.eq p.1 r.1) x.items y.items) (λ v. map (pair_seen f) v.items) (map lent_pair)
      (field (λ v. v.items) (lists_tell (λ p r. q.eq p.0 r.0 && q.eq p.1 r.1) (pair_seen f) lent_pair pair_tells))

  encoding_same : (x y : ContentEncoding S.Denot) → (encoding_eq.eq-value S q d).it x y ≡ true → lent_encoding (encoding_seen f x) ≡ lent_encoding (encoding_seen f y)
  encoding_same encoding.SevenBit encoding.SevenBit h = refl
  encoding_same encoding.EightBit encoding.EightBit h = refl
  encoding_same encoding.Binary encoding.Binary h = refl
  encoding_same encoding.Base64 encoding.Base64 h = refl
  encoding_same encoding.QuotedPrintable encoding.QuotedPrintable h = refl
  encoding_same (encoding.Other x) (encoding.Other y) h = ap encoding.Other (t.same x y h)
  encoding_same x y h = cc

  encoding_equal : (x y : ContentEncoding S.Denot) → lent_encoding (encoding_seen f x) ≡ lent_encoding (encoding_seen f y) → (encoding_eq.eq-value S q d).it x y ≡ true
  encoding_equal encoding.SevenBit encoding.SevenBit h = refl
  encoding_equal encoding.EightBit encoding.EightBit h = refl
  encoding_equal encoding.Binary encoding.Binary h = refl
  encoding_equal encoding.Base64 encoding.Base64 h = refl
  encoding_equal encoding.QuotedPrintable encoding.QuotedPrintable h = refl
  encoding_equal (encoding.Other x) (encoding.Other y) h = t.equal x y cc
  encoding_equal x y h = cc

  pub encoding_tells : Tells ((encoding_eq.eq-value S q d).it) (λ x. lent_encoding (encoding_seen f x))
  encoding_tells = record { same = encoding_same; equal = encoding_equal }

  -- extension data, and what bodies say of their content
  pub disposition_tells : Tells ((disposition_eq.eq-value S q d).it) (λ x. lent_disposition (disposition_seen f x))
  disposition_tells = named_tell (both_tell (field (λ x. x.ty) t) (field (λ x. x.params) params_tell)) (λ v. record { ty = v.0; params = v.1 }) (λ x. (x.ty, x.params)) (λ v. refl)

  pub type_tells : Tells ((type_eq.eq-value S q d).it) (λ x. lent_type (type_seen f x))
  type_tells =
      named_tell (both_tell (field (λ x. x.ty) t) (both_tell (field (λ x. x.subtype) t) (field (λ x. x.params) params_tell)))
      (λ v. record { ty = v.0; subtype = v.1.0; params = v.1.1 }) (λ x. (x.ty, (x.subtype, x.params))) (λ v. refl)

  pub common_tells : Tells ((common_eq.eq-value S q d).it) (λ x. lent_common (common_seen f x))
  unfolding common_seen
  common_tells =
      named_tell
      (both_tell (field (λ x. x.ty) type_tells) (both_tell (field (λ x. x.disposition) (options_tell (disposition_eq.eq-value S q d).it (disposition_seen f) lent_disposition disposition_tells))
      (both_tell (field (λ x. x.language) languages_tell) (field (λ x. x.location) ntexts_tell))))
      (λ v. record { ty = v.0; disposition = v.1.0; language = v.1.1.0; location = v.1.1.1 }) (λ x. (x.ty, (x.disposition, (x.language, x.location)))) (λ v. refl)

  pub single_tells : Tells ((single_eq.eq-value S q d).it) (λ x. lent_single (single_seen f x))
  unfolding single_seen
  single_tells =
      named_tell
      (both_tell (field (λ x. x.id) ntexts_tell) (both_tell (field (λ x. x.md5) ntexts_tell) (both_tell (field (λ x. x.description) ntexts_tell)
      (both_tell (field (λ x. x.transfer_encoding) encoding_tells) (field (λ x. x.octets) numbers_tell)))))
      (λ v. record { id = v.0; md5 = v.1.0; description = v.1.1.0; transfer_encoding = v.1.1.1.0; octets = v.1.1.1.1 }) (λ x. (x.id, (x.md5, (x.description, (x.transfer_encoding, x.octets))))) (λ v. refl)
