-- What trees say, by their kinds.
use Rattle.std.proofs.Common.{◌≡◌, ℕ, zero, suc, ◌+◌, ◌<◌, ◌≤◌, arith, List, [], ◌∷◌, length, get_or, sym, ap, ◌∙◌, map, Vec, Box, Global, Option}
use Rattle.std.specs.Option.{option_map}
use Rattle.imap_grammar.specs.Text.{Text, as_text}
use Rattle.imap_body_types.specs.EnvelopeValues.{envelope_seen}
use Rattle.imap_body_types.specs.ExtensionValues.{ExtensionValue, Listed, extensions_of, extension_step, extension_seen}
use Rattle.imap_body_types.specs.BodyValues.{BodyValue, Basic, TextBody, Message, Multipart, Bodies, no_bodies, one_body, bodies_of, common_seen, single_seen, body_step, body_seen}
use Rattle.imap_body_types.specs.declared.shapes.extensions.BodyExtension.{BodyExtension}
use Rattle.imap_body_types.specs.declared.shapes.extensions.BodyExtension.TheVariants as extension
use Rattle.imap_body_types.specs.declared.shapes.extensions.BodyExtension.TheOpen as extension_layer
use Rattle.imap_body_types.specs.declared.shapes.extensions.BodyExtension.TheFolds.{fold-roll-BodyExtension}
use Rattle.imap_body_types.specs.declared.shapes.envelopes.Envelope.{Envelope}
use Rattle.imap_body_types.specs.declared.shapes.bodies.BodyContentCommon.{BodyContentCommon}
use Rattle.imap_body_types.specs.declared.shapes.bodies.BodyContentSinglePart.{BodyContentSinglePart}
use Rattle.imap_body_types.specs.declared.shapes.bodies.BodyStructure.{BodyStructure}
use Rattle.imap_body_types.specs.declared.shapes.bodies.BodyStructure.TheVariants as body
use Rattle.imap_body_types.specs.declared.shapes.bodies.BodyStructure.TheOpen as body_layer
use Rattle.imap_body_types.specs.declared.shapes.bodies.BodyStructure.TheFolds.{fold-roll-BodyStructure}

pub extension_list_seen : {S : Type 0} (f : S → Text) (v : Vec (BodyExtension S) Global) → extension_seen f (extension.List v) ≡ Listed (extensions_of (map (extension_seen f) v.items))
extension_list_seen {S} f v = ap (extension_seen f) (sym (extension.rolls-List v)) ∙ fold-roll-BodyExtension S ExtensionValue (extension_step f) (extension_layer.List v)

module _ {S B : Type 0} (f : S → Text) (g : B → Text) where
  pub basic_seen : (common : BodyContentCommon S) (other : BodyContentSinglePart S) (last : Option (BodyExtension S)) → body_seen f g (body.Basic common other last) ≡ Basic (common_seen f common) (single_seen f other) (option_map (extension_seen f) last)
  basic_seen common other last = ap (body_seen f g) (sym (body.rolls-Basic common other last)) ∙ fold-roll-BodyStructure S B BodyValue (body_step f g) (body_layer.Basic common other last)

  pub text_seen : (common : BodyContentCommon S) (other : BodyContentSinglePart S) (lines : ℕ) (last : Option (BodyExtension S)) → body_seen f g (body.Text common other lines last) ≡ TextBody (common_seen f common) (single_seen f other) lines (option_map (extension_seen f) last)
  text_seen common other lines last = ap (body_seen f g) (sym (body.rolls-Text common other lines last)) ∙ fold-roll-BodyStructure S B BodyValue (body_step f g) (body_layer.Text common other lines last)

  pub message_seen : (common : BodyContentCommon S) (other : BodyContentSinglePart S) (envelope : Envelope B) (inner : Box (BodyStructure S B) Global) (lines : ℕ) (last : Option (BodyExtension S)) → body_seen f g (body.Message common other envelope inner lines last) ≡ Message (common_seen f common) (single_seen f other) (envelope_seen g envelope) (body_seen f g inner.value) lines (option_map (extension_seen f) last)
  message_seen common other envelope inner lines last = ap (body_seen f g) (sym (body.rolls-Message common other envelope inner lines last)) ∙ fold-roll-BodyStructure S B BodyValue (body_step f g) (body_layer.Message common other envelope inner lines last)

  pub multipart_seen : (common : BodyContentCommon S) (bodies : Vec (BodyStructure S B) Global) (last : Option (BodyExtension S)) → body_seen f g (body.Multipart common bodies last) ≡ Multipart (common_seen f common) (bodies_of (map (body_seen f g) bodies.items)) (option_map (extension_seen f) last)
  multipart_seen common bodies last = ap (body_seen f g) (sym (body.rolls-Multipart common bodies last)) ∙ fold-roll-BodyStructure S B BodyValue (body_step f g) (body_layer.Multipart common bodies last)

-- how many bodies a body is made of, it and those of messages inside included
mutual
  pub bodies_in : BodyValue → ℕ
  bodies_in (Basic common other last) = 1
  bodies_in (TextBody common other lines last) = 1
  bodies_in (Message common other envelope inner lines last) = suc (bodies_in inner)
  bodies_in (Multipart common bodies last) = suc (bodies_in_all bodies)

  pub bodies_in_all : Bodies → ℕ
  bodies_in_all no_bodies = 0
  bodies_in_all (one_body b bs) = bodies_in b + bodies_in_all bs

-- a body of a list has no more of them
among : {A : Type 0} (h : A → BodyValue) (xs : List A) (k : ℕ) (d : A) → k < length xs → bodies_in (h (get_or xs k d)) ≤ bodies_in_all (bodies_of (map h xs))
unfolding bodies_in bodies_in_all
among h [] k d less = absurd (omega (arith, less))
among h (x ∷ xs) zero d less = first (bodies_in (h x)) (bodies_in_all (bodies_of (map h xs)))
  where
    first : (a b : ℕ) → a ≤ a + b
    first a b = omega arith
among h (x ∷ xs) (suc k) d less = further (bodies_in (h (get_or xs k d))) (bodies_in (h x)) (bodies_in_all (bodies_of (map h xs))) (among h xs k d (omega (arith, less)))
  where
    further : (a b c : ℕ) → a ≤ c → a ≤ b + c
    further a b c le = omega (arith, le)

-- the same of a tree, and of a list of trees, whatever their texts
pub bodies_of_tree : {S B : Type 0} → BodyStructure S B → ℕ
bodies_of_tree b = bodies_in (body_seen (λ s. as_text []) (λ s. as_text []) b)

pub bodies_of_trees : {S B : Type 0} → List (BodyStructure S B) → ℕ
bodies_of_trees bs = bodies_in_all (bodies_of (map (body_seen (λ s. as_text []) (λ s. as_text [])) bs))

pub few_in_list : {S B : Type 0} (bs : List (BodyStructure S B)) (k : ℕ) (x : BodyStructure S B) → k < length bs → x ≡ get_or bs k x → bodies_of_tree x ≤ bodies_of_trees bs
unfolding bodies_of_tree bodies_of_trees
few_in_list bs k x less at =
    let part : bodies_of_tree x ≡ bodies_of_tree (get_or bs k x) = ap bodies_of_tree at in
    omega (arith, part, among (body_seen (λ s. as_text []) (λ s. as_text [])) bs k x less)

pub fewer_in_multipart : {S B : Type 0} (b : BodyStructure S B) (common : BodyContentCommon S) (bodies : Vec (BodyStructure S B) Global) (last : Option (BodyExtension S)) → b ≡ body.Multipart common bodies last → bodies_of_trees bodies.items < bodies_of_tree b
unfolding bodies_of_tree bodies_of_trees bodies_in
fewer_in_multipart b common bodies last is =
    let whole : bodies_of_tree b ≡ suc (bodies_of_trees bodies.items) = ap bodies_of_tree is ∙ ap bodies_in (multipart_seen (λ s. as_text []) (λ s. as_text []) common bodies last) in
    omega (arith, whole)

pub fewer_in_message : {S B : Type 0} (b : BodyStructure S B) (common : BodyContentCommon S) (other : BodyContentSinglePart S) (envelope : Envelope B) (inner : Box (BodyStructure S B) Global) (lines : ℕ) (last : Option (BodyExtension S)) → b ≡ body.Message common other envelope inner lines last → bodies_of_tree inner.value < bodies_of_tree b
unfolding bodies_of_tree bodies_in
fewer_in_message b common other envelope inner lines last is =
    let whole : bodies_of_tree b ≡ suc (bodies_of_tree inner.value) = ap bodies_of_tree is ∙ ap bodies_in (message_seen (λ s. as_text []) (λ s. as_text []) common other envelope inner lines last) in
    omega (arith, whole)
