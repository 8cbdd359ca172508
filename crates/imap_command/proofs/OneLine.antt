-- No byte of what calls tell is refused in an argument, so each stays in the line.
use Rattle.std.proofs.Common.{◌≡◌, ℕ, ◌/◌, ◌%◌, zero, suc, List, [], ◌∷◌, ◌++◌, true, false, cond, Option, None, Some, All, refl, ap, subst, ◌∙◌, arith}
use Rattle.std.specs.Prelude.{decimal, ◌==◌, ◌||◌}
use Rattle.std.specs.List.{flat_map}
use Rattle.std.specs.Option.{option_or}
use Rattle.std.specs.Fmt.{digits, digits_onto, digit_glyph}
use Rattle.std.proofs.lemmas.Bool.Decides.{nat_tests}
use Rattle.std.proofs.lemmas.List.Elements.{All-nil, All-cons, All-head, All-tail}
use Rattle.imap_command.specs.Arguments.{refused_byte, refusal, escaped_byte}
use Rattle.imap_command.specs.Words.{macro_word, attribute_word}
use Rattle.imap_command.specs.Calls.{Call, Stage, stage, comma, opening, closing, added, begun, told, params, messages, attributes, list, login, select, examine, num, range, range_from, attr_macro, attr, changed_since}
use Rattle.imap_command.specs.OneLine.{Unrefused, StaysInLine, OneLine}
use Rattle.imap_command.specs.declared.errors.BuildError.{BuildError}
use Rattle.imap_command.specs.declared.words.AttrMacro.{AttrMacro}
use Rattle.imap_command.specs.declared.words.AttrMacro.TheVariants as group
use Rattle.imap_command.specs.declared.words.Attribute.{Attribute}
use Rattle.imap_command.specs.declared.words.Attribute.TheVariants as attribute

-- joined texts
option_or-assoc : (o p q : Option BuildError) → option_or o (option_or p q) ≡ option_or (option_or o p) q
option_or-assoc None p q = refl
option_or-assoc (Some refused) p q = refl

pub option_or-none : (o : Option BuildError) → option_or o None ≡ o
option_or-none None = refl
option_or-none (Some refused) = refl

pub refusal-append : (a b : List ℕ) → refusal (a ++ b) ≡ option_or (refusal a) (refusal b)
refusal-append [] b = refl
refusal-append (byte ∷ a) b =
    ap (option_or (refused_byte byte)) (refusal-append a b) ∙ option_or-assoc (refused_byte byte) (refusal a) (refusal b)

-- quoted texts
refusal-escaped_byte : (byte : ℕ) → refusal (escaped_byte byte) ≡ refused_byte byte
refusal-escaped_byte byte =
    elim (byte == 34 || byte == 92) as (λ v. refusal (cond v (92 ∷ byte ∷ []) (byte ∷ [])) ≡ refused_byte byte) [
      | true ↦ option_or-none (refused_byte byte)
      | false ↦ option_or-none (refused_byte byte)
    ]

pub refusal-escaped : (text : List ℕ) → refusal (flat_map escaped_byte text) ≡ refusal text
refusal-escaped [] = refl
refusal-escaped (byte ∷ text) = simp (refusal-append, refusal-escaped_byte, refusal-escaped text)

-- numbers
pub refused_byte-digit_glyph : (d : ℕ) → refused_byte (digit_glyph false d) ≡ None
refused_byte-digit_glyph d = grind (arith, nat_tests)

refusal-digits_onto : (k n : ℕ) (text : List ℕ) → refusal text ≡ None → refusal (digits_onto k 10 false n text) ≡ None
refusal-digits_onto zero n text h = h
refusal-digits_onto (suc k) n text h =
    let glyph : ℕ = digit_glyph false (n % 10) in
    let more : refusal (glyph ∷ text) ≡ None = ap (λ o. option_or o (refusal text)) (refused_byte-digit_glyph (n % 10)) ∙ h in
    elim (n / 10 == 0) as (λ v. refusal (cond v (glyph ∷ text) (digits_onto k 10 false (n / 10) (glyph ∷ text))) ≡ None) [
      | true ↦ more
      | false ↦ refusal-digits_onto k (n / 10) (glyph ∷ text) more
    ]

pub refusal-decimal : (n : ℕ) → refusal (decimal n) ≡ None
unfolding digits
refusal-decimal n = refusal-digits_onto 64 n [] refl

-- words
refusal-macro_word : (a : AttrMacro) → refusal (macro_word a) ≡ None
refusal-macro_word group.All = refl
refusal-macro_word a = refl

refusal-attribute_word : (a : Attribute) → refusal (attribute_word a) ≡ None
refusal-attribute_word attribute.Body = refl
refusal-attribute_word a = refl

-- what stands between words
refusal-comma : (s : Stage) → refusal (comma s) ≡ None
refusal-comma messages = refl
refusal-comma s = refl

refusal-opening : (s : Stage) → refusal (opening s) ≡ None
refusal-opening attributes = refl
refusal-opening s = refl

refusal-closing : (s : Stage) → refusal (closing s) ≡ None
refusal-closing params = refl
refusal-closing attributes = refl
refusal-closing s = refl

-- calls
refusal-added : (s : Stage) (call : Call) → Unrefused call → refusal (added s call) ≡ None
refusal-added s (list reference glob) h = simp (refusal-append, option_or-none, refusal-escaped, h.0, h.1)
refusal-added s (login user_name password) h = simp (refusal-append, option_or-none, refusal-escaped, h.0, h.1)
refusal-added s (select mailbox) h = simp (refusal-append, option_or-none, refusal-escaped, h)
refusal-added s (examine mailbox) h = simp (refusal-append, option_or-none, refusal-escaped, h)
refusal-added s (num n) h = simp (refusal-append, refusal-comma, refusal-decimal)
refusal-added s (range first last) h = simp (refusal-append, refusal-comma, refusal-decimal)
refusal-added s (range_from first) h = simp (refusal-append, refusal-comma, refusal-decimal)
refusal-added s (attr_macro a) h = refusal-macro_word a
refusal-added s (attr a) h = simp (refusal-append, refusal-opening, refusal-attribute_word)
refusal-added s (changed_since n) h = simp (refusal-append, refusal-closing, refusal-decimal)
refusal-added s call h = refl

refusal-begun : (calls : List Call) → All Unrefused calls → refusal (begun calls) ≡ None
refusal-begun [] h = refl
refusal-begun (call ∷ before) h =
    simp (refusal-append, refusal-begun before (All-tail Unrefused call before h), refusal-added (stage before) call (All-head Unrefused call before h))

unrefused_text : (calls : List Call) → All Unrefused calls → refusal (told calls).text ≡ None
unrefused_text calls h = simp (refusal-append, refusal-begun calls h, refusal-closing)

-- a byte that is not refused stays in the line, and so does each of a text that is not
pub both_none : (o p : Option BuildError) → option_or o p ≡ None → (o ≡ None) × (p ≡ None)
both_none None p h = (refl, h)
both_none (Some refused) p h = cc

stays : (byte : ℕ) → refused_byte byte ≡ None → StaysInLine byte
stays byte h = (
  λ e. let k : refused_byte 13 ≡ None = subst (λ b. refused_byte b ≡ None) e h in cc,
  λ e. let k : refused_byte 10 ≡ None = subst (λ b. refused_byte b ≡ None) e h in cc,
  λ e. let k : refused_byte 0 ≡ None = subst (λ b. refused_byte b ≡ None) e h in cc,
)

pub all_stay : (text : List ℕ) → refusal text ≡ None → All StaysInLine text
all_stay [] h = All-nil StaysInLine
all_stay (byte ∷ text) h =
    let both = both_none (refused_byte byte) (refusal text) h in
    All-cons StaysInLine byte text (stays byte both.0) (all_stay text both.1)

pub one_line : OneLine
one_line calls h = all_stay _ (unrefused_text calls h)
