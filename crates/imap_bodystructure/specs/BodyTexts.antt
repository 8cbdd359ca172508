-- The text of the structure of a body.
use Rattle.std.specs.Prelude.{◌≡◌, [], Option, codes}
use Prim.Native.String.{String}
use Rattle.imap_grammar.specs.Text.{Text}
use Rattle.imap_grammar.specs.Pieces.{Pieces, ◌then◌, words, space, number_text, literal_text}
use Rattle.imap_grammar.specs.ReadBack.{Texts}
use Rattle.imap_grammar.specs.Spelling.{this, exactly, in_any_case, ◌and◌, spells_number, spells_string_text}
use Rattle.imap_body_types.specs.FieldValues.{FieldsValue}
use Rattle.imap_body_types.specs.ExtensionValues.{ExtensionValue, Ext1PartValue, ExtMPartValue}
use Rattle.imap_body_types.specs.BodyValues.{CommonValue, SingleValue, BodyValue, Basic, TextBody, Message, Multipart, Bodies, no_bodies, one_body}
use Rattle.imap_envelopes.specs.EnvelopeTexts.{canonical_envelope, behind_space, spells_envelope}
use Rattle.imap_bodystructure.specs.FieldTexts.{canonical_fields, spells_fields}
use Rattle.imap_bodystructure.specs.ExtensionTexts.{canonical_ext_1part, canonical_ext_mpart, spells_ext_1part, spells_ext_mpart}

-- ---- what a body's values say of its fields and its extension data

abbrev pub fields_in : CommonValue → SingleValue → FieldsValue
fields_in common single =
    record {
      param = common.ty.params;
      id = single.id;
      description = single.description;
      transfer_encoding = single.transfer_encoding;
      octets = single.octets;
    }

abbrev pub ext_1part_in : CommonValue → SingleValue → Option ExtensionValue → Ext1PartValue
ext_1part_in common single last =
    record {
      md5 = single.md5;
      disposition = common.disposition;
      language = common.language;
      location = common.location;
      extension = last;
    }

abbrev pub ext_mpart_in : CommonValue → Option ExtensionValue → ExtMPartValue
ext_mpart_in common last =
    record {
      param = common.ty.params;
      disposition = common.disposition;
      language = common.language;
      location = common.location;
      extension = last;
    }

-- ---- canonical text

abbrev pub in_brackets : Pieces → Pieces
in_brackets p = words "(" then p then words ")"

-- what stands between the brackets
abbrev mutual
  pub canonical_inside : BodyValue → Pieces
  canonical_inside (Basic common single last) =
      literal_text common.ty.ty
      then space
      then literal_text common.ty.subtype
      then space
      then canonical_fields (fields_in common single)
      then canonical_ext_1part (ext_1part_in common single last)
  canonical_inside (TextBody common single lines last) =
      words "\"TEXT\""
      then space
      then literal_text common.ty.subtype
      then space
      then canonical_fields (fields_in common single)
      then space
      then number_text lines
      then canonical_ext_1part (ext_1part_in common single last)
  canonical_inside (Message common single envelope body lines last) =
      words "\"MESSAGE\" \"RFC822\""
      then space
      then canonical_fields (fields_in common single)
      then space
      then canonical_envelope envelope
      then space
      then in_brackets (canonical_inside body)
      then space then number_text lines then canonical_ext_1part (ext_1part_in common single last)
  canonical_inside (Multipart common bodies last) =
      canonical_each bodies
      then space
      then literal_text common.ty.subtype
      then canonical_ext_mpart (ext_mpart_in common last)

  -- no space between bodies
  pub canonical_each : Bodies → Pieces
  canonical_each no_bodies = []
  canonical_each (one_body b bs) = in_brackets (canonical_inside b) then canonical_each bs

abbrev pub canonical_body : BodyValue → Pieces
canonical_body b = in_brackets (canonical_inside b)

-- ---- spelling

abbrev pub spelt_in_brackets : Texts → Texts
spelt_in_brackets P = exactly "(" and P and exactly ")"

-- of a body whose type is that word
abbrev pub of_type : Text → String → Texts → Texts
of_type ty k P c = (ty.bytes ≡ codes k) × P c

abbrev mutual
  pub spells_inside : BodyValue → Texts
  spells_inside (Basic common single last) =
      spells_string_text common.ty.ty
      and behind_space (spells_string_text common.ty.subtype)
      and behind_space (spells_fields (fields_in common single))
      and spells_ext_1part (ext_1part_in common single last)
  spells_inside (TextBody common single lines last) =
      of_type common.ty.ty "TEXT"
      (in_any_case "\"TEXT\""
      and behind_space (spells_string_text common.ty.subtype)
      and behind_space (spells_fields (fields_in common single))
      and behind_space (spells_number lines)
      and spells_ext_1part (ext_1part_in common single last))
  spells_inside (Message common single envelope body lines last) =
      of_type common.ty.ty "MESSAGE"
      (of_type common.ty.subtype "RFC822"
      (in_any_case "\"MESSAGE\" \"RFC822\""
      and behind_space (spells_fields (fields_in common single))
      and behind_space (spells_envelope envelope)
      and behind_space (spelt_in_brackets (spells_inside body))
      and behind_space (spells_number lines)
      and spells_ext_1part (ext_1part_in common single last)))
  spells_inside (Multipart common bodies last) =
      of_type common.ty.ty "MULTIPART"
      (spells_bodies bodies
      and behind_space (spells_string_text common.ty.subtype)
      and spells_ext_mpart (ext_mpart_in common last))

  pub spells_bodies : Bodies → Texts
  spells_bodies no_bodies = λ c. ⊥
  spells_bodies (one_body b bs) = spelt_in_brackets (spells_inside b) and spells_each bs

  pub spells_each : Bodies → Texts
  spells_each no_bodies = this []
  spells_each (one_body b bs) = spelt_in_brackets (spells_inside b) and spells_each bs

abbrev pub spells_body : BodyValue → Texts
spells_body b = spelt_in_brackets (spells_inside b)
