-- Extension data and bodies, which nest: what is written for those inside is what their lists are told as.
use Rattle.std.proofs.Common.{◌≡◌, ℕ, List, [], ◌∷◌, ◌++◌, Global, Vec, Box, Option, refl, sym, ap, subst, ◌∙◌, append_assoc, map, codes}
use Rattle.std.specs.Option.{option_map}
use Rattle.std.specs.declared.borrow.CowSlice.{CowSlice}
use Rattle.std.specs.declared.borrow.CowStr.{CowStr}
use Rattle.json.specs.Token.{Token, begin_object, end_object, begin_array, end_array, key}
use Rattle.json.specs.Tree.{json_tokens, items_tokens}
use Rattle.serde_json.specs.Data.{Data, array, item}
use Rattle.serde_json.specs.View.{items_of}
use Rattle.serde_json.specs.Written.{outline, items_outline}
use Rattle.imap_grammar.specs.Text.{text_of}
use Rattle.imap_body_types.specs.Spans.{bytes_of}
use Rattle.imap_body_types.specs.EnvelopeValues.{envelope_seen}
use Rattle.imap_body_types.specs.ExtensionValues.{ExtensionValue, extensions_of, extension_seen}
use Rattle.imap_body_types.specs.BodyValues.{BodyValue, bodies_of, common_seen, single_seen, body_seen}
use Rattle.imap_body_types.specs.declared.shapes.envelopes.Envelope.{Envelope}
use Rattle.imap_body_types.specs.declared.shapes.extensions.BodyExtension.{BodyExtension}
use Rattle.imap_body_types.specs.declared.shapes.extensions.BodyExtension.TheVariants as extension
use Rattle.imap_body_types.specs.declared.shapes.bodies.BodyContentCommon.{BodyContentCommon}
use Rattle.imap_body_types.specs.declared.shapes.bodies.BodyContentSinglePart.{BodyContentSinglePart}
use Rattle.imap_body_types.specs.declared.shapes.bodies.BodyStructure.{BodyStructure}
use Rattle.imap_body_types.specs.declared.shapes.bodies.BodyStructure.TheVariants as body
use Rattle.imap_body_types.proofs.Trees.{extension_list_seen, message_seen, multipart_seen}
use Rattle.imap_json.specs.Forms.{Appends, Tells, items_front, field_tokens, number_json, variant_json}
use Rattle.imap_json.specs.Extensions.{extension_json, extension_items, last_json}
use Rattle.imap_json.specs.Envelopes.{envelope_json}
use Rattle.imap_json.specs.Bodies.{common_json, single_json, body_json, body_items, message_begun, message_ended, multipart_begun, multipart_ended}
use Rattle.imap_json.specs.declared.output.Output.{Output}
use Rattle.imap_json.proofs.Writing.{joined, items_ended}

-- ---- extension data

abbrev Extension : Type 0
Extension = BodyExtension (CowStr Global)

items_listed : (es : List ExtensionValue) → extension_items (extensions_of es) ≡ items_of (map extension_json es)
items_listed [] = refl
items_listed (e ∷ es) = ap (item (extension_json e)) (items_listed es)

list_tokens : (ds : List Data) → (begin_object ∷ key (codes "List") ∷ begin_array ∷ []) ++ (items_front ds ++ end_array ∷ end_object ∷ []) ≡ json_tokens (outline (variant_json (codes "List") (array (items_of ds))))
list_tokens ds =
    ap (λ ts. begin_object ∷ key (codes "List") ∷ begin_array ∷ ts)
    (sym (append_assoc (items_front ds) (end_array ∷ []) (end_object ∷ [])) ∙ ap (λ ts. ts ++ end_object ∷ []) (items_ended ds))

list_seen : (x : Extension) (v : Vec Extension Global) → x ≡ extension.List v → extension_json (extension_seen text_of x) ≡ variant_json (codes "List") (array (items_of (map extension_json (map (extension_seen text_of) v.items))))
list_seen x v is =
    ap (λ y. extension_json (extension_seen text_of y)) is ∙ ap extension_json (extension_list_seen text_of v)
    ∙ ap (λ ds. variant_json (codes "List") (array ds)) (items_listed (map (extension_seen text_of) v.items))

pub list_told : (x : Extension) (v : Vec Extension Global) {a b c d : Output} → x ≡ extension.List v → Appends a b (begin_object ∷ key (codes "List") ∷ begin_array ∷ [])
    → Appends b c (items_front (map extension_json (map (extension_seen text_of) v.items))) → Appends c d (end_array ∷ end_object ∷ []) → Tells a d (extension_json (extension_seen text_of x))
list_told x v {a} {b} {c} {d} is p q r =
    subst (λ ts. Appends a d ts)
    (list_tokens (map extension_json (map (extension_seen text_of) v.items)) ∙ ap (λ j. json_tokens (outline j)) (sym (list_seen x v is)))
    (joined p (joined q r))

-- ---- bodies

abbrev Body : Type 0
Body = BodyStructure (CowStr Global) (CowSlice ℕ Global)

abbrev seen : Body → BodyValue
seen = body_seen text_of bytes_of

message_shape : (a b c t l x : List Token) (k o : Token) → (a ++ (b ++ (c ++ k ∷ []))) ++ (t ++ (l ++ (x ++ o ∷ o ∷ []))) ≡ (a ++ (b ++ (c ++ k ∷ (t ++ (l ++ (x ++ o ∷ [])))))) ++ o ∷ []
message_shape a b c t l x k o = simp append_assoc

multipart_shape : (a t x : List Token) (k s e o : Token) → (a ++ k ∷ s ∷ []) ++ (t ++ e ∷ (x ++ o ∷ o ∷ [])) ≡ (a ++ k ∷ s ∷ ((t ++ e ∷ []) ++ (x ++ o ∷ []))) ++ o ∷ []
multipart_shape a t x k s e o = simp append_assoc

pub message_told : (x : Body) (common : BodyContentCommon (CowStr Global)) (other : BodyContentSinglePart (CowStr Global)) (envelope : Envelope (CowSlice ℕ Global)) (inner : Box Body Global) (lines : ℕ) (last : Option Extension) (y : Body)
    {a b c d : Output} → x ≡ body.Message common other envelope inner lines last → y ≡ inner.value
    → Appends a b (message_begun (common_seen text_of common) (single_seen text_of other) (envelope_seen bytes_of envelope)) → Tells b c (body_json (seen y))
    → Appends c d (message_ended lines (option_map (extension_seen text_of) last)) → Tells a d (body_json (seen x))
message_told x common other envelope inner lines last y {a} {b} {c} {d} is same p q r =
    let front = field_tokens (codes "common") (common_json (common_seen text_of common)) in
    let second = field_tokens (codes "other") (single_json (single_seen text_of other)) in
    let third = field_tokens (codes "envelope") (envelope_json (envelope_seen bytes_of envelope)) in
    let whole = json_tokens (outline (body_json (seen inner.value))) in
    let count = field_tokens (codes "lines") (number_json lines) in
    let end = field_tokens (codes "extension") (last_json (option_map (extension_seen text_of) last)) in
    let within = subst (λ z. Tells b c (body_json (seen z))) same q in
    subst (λ ts. Appends a d ts)
    (ap (λ ts. begin_object ∷ key (codes "Message") ∷ begin_object ∷ ts) (message_shape front second third whole count end (key (codes "body")) end_object)
    ∙ ap (λ v. json_tokens (outline (body_json v))) (sym (ap seen is ∙ message_seen text_of bytes_of common other envelope inner lines last)))
    (joined p (joined within r))

bodies_listed : (bs : List BodyValue) → body_items (bodies_of bs) ≡ items_of (map body_json bs)
bodies_listed [] = refl
bodies_listed (b ∷ bs) = ap (item (body_json b)) (bodies_listed bs)

pub multipart_told : (x : Body) (common : BodyContentCommon (CowStr Global)) (parts : Vec Body Global) (last : Option Extension) {a b c d : Output} → x ≡ body.Multipart common parts last
    → Appends a b (multipart_begun (common_seen text_of common)) → Appends b c (items_front (map body_json (map seen parts.items)))
    → Appends c d (multipart_ended (option_map (extension_seen text_of) last)) → Tells a d (body_json (seen x))
multipart_told x common parts last {a} {b} {c} {d} is p q r =
    let front = field_tokens (codes "common") (common_json (common_seen text_of common)) in
    let ds = map body_json (map seen parts.items) in
    let end = field_tokens (codes "extension") (last_json (option_map (extension_seen text_of) last)) in
    let items : items_front ds ++ end_array ∷ [] ≡ items_tokens (items_outline (body_items (bodies_of (map seen parts.items)))) = items_ended ds ∙ ap (λ js. items_tokens (items_outline js)) (sym (bodies_listed (map seen parts.items))) in
    subst (λ ts. Appends a d ts)
    (ap (λ ts. begin_object ∷ key (codes "Multipart") ∷ begin_object ∷ ts) (multipart_shape front (items_front ds) end (key (codes "bodies")) begin_array end_array end_object)
    ∙ ap (λ ts. begin_object ∷ key (codes "Multipart") ∷ begin_object ∷ ((front ++ key (codes "bodies") ∷ begin_array ∷ (ts ++ (end ++ end_object ∷ []))) ++ end_object ∷ [])) items
    ∙ ap (λ v. json_tokens (outline (body_json v))) (sym (ap seen is ∙ multipart_seen text_of bytes_of common parts last)))
    (joined p (joined q r))
