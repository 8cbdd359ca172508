-- What an extension says, by its kinds, and what it rests on.
use Rattle.std.proofs.Common.{◌≡◌, ℕ, sym, ap, ◌∙◌, map, Vec, Global, Option}
use Rattle.std.specs.Prelude.{⊤}
use Rattle.std.specs.Option.{option_map}
use Rattle.imap_grammar.specs.Text.{Text}
use Rattle.imap_body_types.specs.declared.shapes.extensions.BodyExtension.{BodyExtension}
use Rattle.imap_body_types.specs.declared.shapes.extensions.BodyExtension.TheVariants as extension
use Rattle.imap_body_types.specs.declared.shapes.extensions.BodyExtension.TheOpen as layer
use Rattle.imap_body_types.specs.declared.shapes.extensions.BodyExtension.TheFolds.{fold-roll-BodyExtension}
use Rattle.imap_body_types.specs.ExtensionValues.{ExtensionValue, Num, Str, Listed, extensions_of, extension_step, extension_seen, ext_1part_seen, ext_mpart_seen}
use Rattle.imap_body_types.proofs.Trees.{extension_list_seen}
use Rattle.imap_body_types.specs.Spans.{Lookup, Rests}
use Rattle.imap_bodystructure.specs.Extensions.{body_ext_1part, body_ext_mpart}

pub number_seen : {S : Type 0} (f : S → Text) (n : ℕ) → extension_seen f (extension.Num n) ≡ Num n
number_seen {S} f n = ap (extension_seen f) (sym (extension.rolls-Num n)) ∙ fold-roll-BodyExtension S ExtensionValue (extension_step f) (layer.Num n)

pub string_seen : {S : Type 0} (f : S → Text) (x : Option S) → extension_seen f (extension.Str x) ≡ Str (option_map f x)
string_seen {S} f x = ap (extension_seen f) (sym (extension.rolls-Str x)) ∙ fold-roll-BodyExtension S ExtensionValue (extension_step f) (layer.Str x)

module _ {S : Type 0} (said : Lookup → S → Text) (q : ℕ) where
  pub number_rests : (i : ℕ) → Rests (λ k x. extension_seen (said k) x) q (extension.Num i)
  number_rests i = record { same = λ n k alike. number_seen (said n) i ∙ sym (number_seen (said k) i) }

  pub string_rests : (x : Option S) → Rests (λ k y. option_map (said k) y) q x → Rests (λ k y. extension_seen (said k) y) q (extension.Str x)
  string_rests x h = record { same = λ n k alike. string_seen (said n) x ∙ ap (λ t. Str t) (h.same n k alike) ∙ sym (string_seen (said k) x) }

  pub list_rests : (v : Vec (BodyExtension S) Global) → Rests (λ k x. map (extension_seen (said k)) x.items) q v → Rests (λ k x. extension_seen (said k) x) q (extension.List v)
  list_rests v h = record { same = λ n k alike. extension_list_seen (said n) v ∙ ap (λ es. Listed (extensions_of es)) (h.same n k alike) ∙ sym (extension_list_seen (said k) v) }

pub ruleset numbers = (number_seen, number_rests)

pub ruleset lists = (extension_list_seen)

-- Where one of these is unfolded, a rule is, and how its value is seen.
unfoldable pub ext_1part : ⊤
unfolding body_ext_1part ext_1part_seen
ext_1part = tt

unfoldable pub ext_mpart : ⊤
unfolding body_ext_mpart ext_mpart_seen
ext_mpart = tt
