-- What an attribute rests on, by what it was made of.
use Rattle.std.proofs.Common.{◌≡◌, ℕ, Box, Global, Ok, ap}
use Rattle.std.specs.Str.{is_utf8}
use Rattle.imap_grammar.specs.Classes.{is_astring_char}
use Rattle.imap_grammar.specs.Rule.{run1, gives}
use Rattle.imap_grammar.specs.Step.{step}
use Rattle.imap_grammar.specs.Text.{Bytes, Text, as_text, decoded}
use Rattle.imap_grammar.proofs.Reading.{test-has}
use Rattle.imap_shared.proofs.Spanned.{utf8_decoded}
use Rattle.imap_body_types.specs.Spans.{Lookup, Rests}
use Rattle.imap_body_types.specs.declared.shapes.envelopes.Envelope.{Envelope as Kept}
use Rattle.imap_body_types.specs.declared.shapes.bodies.BodyStructure.{BodyStructure as Structure}
use Rattle.imap_body_types.specs.EnvelopeValues.{envelope_seen}
use Rattle.imap_body_types.proofs.Places.{part_rests}
use Rattle.imap_body_types.specs.BodyValues.{boxed_seen}
use Rattle.imap_body.specs.declared.attributes.AttributeParts.TheVariants as parts
use Rattle.imap_body.specs.AttributeValues.{BodyStructure, Envelope, parts_said}
use Rattle.imap_body.specs.Attributes.{id_bytes}

pub structure_rests : {S B : Type 0} (text : Lookup → S → Text) (bytes : Lookup → B → Text) (q : ℕ) (b : Box (Structure S B) Global) → Rests (λ n x. boxed_seen (text n) (bytes n) x) q b → Rests (λ n x. parts_said text bytes n x) q (parts.BodyStructure b)
structure_rests text bytes q b h = record { same = λ n k alike. ap (λ v. BodyStructure v) (h.same n k alike) }

pub envelope_rests : {S B : Type 0} (text : Lookup → S → Text) (bytes : Lookup → B → Text) (q : ℕ) (b : Box (Kept B) Global) (x : Kept B) → b.value ≡ x → Rests (λ n e. envelope_seen (bytes n) e) q x → Rests (λ n e. parts_said text bytes n e) q (parts.Envelope b)
envelope_rests text bytes q b x is h = record { same = λ n k alike. rw is (ap (λ v. Envelope v) (h.same n k alike)) }

-- ---- the id of an object is UTF-8, so decoding changes nothing

pub id_decoded : (m rest v : Bytes) → step id_bytes m ≡ Ok (rest, v) → step (gives as_text id_bytes) m ≡ Ok (rest, decoded v)
unfolding id_bytes
id_decoded m rest v is = utf8_decoded id_bytes m rest v (record { each = λ n x k y. (test-has is_utf8 (run1 is_astring_char) n x k y).1 }) is

pub ruleset ids = (id_decoded, part_rests)
