-- The reader gives back the call that was written in front, in each typed state.
use Rattle.std.proofs.Common.{◌≡◌, ℕ, ◌<◌, ◌^◌, List, [], ◌∷◌, ◌++◌, true, false, cond, Option, None, Some, refl, ap, ◌∙◌, sym, subst, arith, append_assoc, drop}
use Rattle.std.specs.Prelude.{decimal, codes, ◌==◌}
use Rattle.std.specs.Option.{option_map}
use Rattle.std.specs.Str.Parse.{IsNumeral}
use Rattle.std.specs.Char.{digit_value}
use Rattle.std.proofs.lemmas.Bool.{eqb-true}
use Rattle.std.proofs.lemmas.Fmt.{decimal_is_IsNumeral}
use Rattle.imap_command.specs.Arguments.{quoted}
use Rattle.imap_command.specs.Words.{attribute_word}
use Rattle.imap_command.specs.Calls.{Call, InRange, Stage, Ends, after, added, closing, start, no_params, params, empty, messages, attributes, modifiers, whole, refused, check, close, list, login, select, examine, cond_store, fetch, uid_fetch, num, range, range_from, attr_macro, attr, changed_since}
use Rattle.imap_command.specs.declared.words.AttrMacro.TheVariants as group
use Rattle.imap_command.specs.declared.words.Attribute.{Attribute}
use Rattle.imap_command.proofs.Runs.{beyond, front-append, beyond-append, stripped, is_digit, number, number-decimal, beyond-decimal, quoted_content, behind_quoted, quoted_content-quoted, behind_quoted-quoted}
use Rattle.imap_command.proofs.Reader.{Found, on_word, pair, single, item, in_word, known_attribute, word, since, reads, known-attribute_word, whole_words}

-- arguments
single_read : (call : List ℕ → Call) (a text : List ℕ) → single call (quoted a ++ text) ≡ Some (call a, text)
single_read call a text =
    ap (λ x. Some (call x, behind_quoted (quoted a ++ text))) (quoted_content-quoted a text)
    ∙ ap (λ x. Some (call a, x)) (behind_quoted-quoted a text)

pair_read : (call : List ℕ → List ℕ → Call) (a b text : List ℕ) → pair call ((quoted a ++ (codes " " ++ quoted b)) ++ text) ≡ Some (call a b, text)
pair_read call a b text =
    let rest : List ℕ = codes " " ++ (quoted b ++ text) in
    let second : List ℕ → Found = λ x. Some (call a (quoted_content (drop 1 x)), behind_quoted (drop 1 x)) in
    ap (pair call) (append_assoc (quoted a) (codes " " ++ quoted b) text)
    ∙ ap (λ x. Some (call x (quoted_content (drop 1 (behind_quoted (quoted a ++ rest)))), behind_quoted (drop 1 (behind_quoted (quoted a ++ rest))))) (quoted_content-quoted a rest)
    ∙ ap second (behind_quoted-quoted a rest)
    ∙ single_read (call a) b text

-- where the text does not begin with the word
otherwise_read : (word text : List ℕ) (read : List ℕ → Found) (otherwise : Found) → stripped word text ≡ None → on_word word text read otherwise ≡ otherwise
otherwise_read word text read otherwise h =
    let found : Option (List ℕ) → Found = λ o. elim o [ Some rest ↦ read rest | None ↦ otherwise ] in
    ap found h

unlike : (w b : ℕ) (word rest : List ℕ) → (w == b) ≡ false → stripped (w ∷ word) (b ∷ rest) ≡ None
unlike w b word rest h = rw h refl

-- messages
item_split : (n b : ℕ) (rest : List ℕ) → n < 2 ^ 64 → is_digit b ≡ false → item (decimal n ++ (b ∷ rest)) ≡
    on_word (codes ":*") (b ∷ rest) (λ after. Some (range_from n, after))
    (on_word (codes ":") (b ∷ rest) (λ after. Some (range n (number after), beyond is_digit after))
    (Some (num n, b ∷ rest)))
item_split n b rest fits stop =
    ap (λ x. on_word (codes ":*") (beyond is_digit (decimal n ++ (b ∷ rest))) (λ after. Some (range_from x, after))
    (on_word (codes ":") (beyond is_digit (decimal n ++ (b ∷ rest))) (λ after. Some (range x (number after), beyond is_digit after))
    (Some (num x, beyond is_digit (decimal n ++ (b ∷ rest)))))) (number-decimal n b rest fits stop)
    ∙ ap (λ y. on_word (codes ":*") y (λ after. Some (range_from n, after))
    (on_word (codes ":") y (λ after. Some (range n (number after), beyond is_digit after))
    (Some (num n, y)))) (beyond-decimal n b rest fits stop)

item_num : (n b : ℕ) (rest : List ℕ) → n < 2 ^ 64 → is_digit b ≡ false → (58 == b) ≡ false → item (decimal n ++ (b ∷ rest)) ≡ Some (num n, b ∷ rest)
item_num n b rest fits stop plain =
    item_split n b rest fits stop
    ∙ otherwise_read (codes ":*") (b ∷ rest) _ _ (unlike 58 b (codes "*") rest plain)
    ∙ otherwise_read (codes ":") (b ∷ rest) _ _ (unlike 58 b [] rest plain)

item_range_from : (n : ℕ) (text : List ℕ) → n < 2 ^ 64 → item (decimal n ++ (codes ":*" ++ text)) ≡ Some (range_from n, text)
item_range_from n text fits = item_split n 58 (42 ∷ text) fits refl

no_star : (ds text : List ℕ) → IsNumeral 10 ds → stripped (codes "*") (ds ++ text) ≡ None
no_star [] text h = absurd (omega (arith, h.0))
no_star (d ∷ ds) text h =
    elim (42 == d) as (λ v. (42 == d) ≡ v → cond v (Some (ds ++ text)) None ≡ None) [
      | true ↦ λ star. absurd (let P : ℕ → Type 0 = λ x. digit_value x < 10 in let low : 36 < 10 = subst P (sym (eqb-true 42 d star)) h.1.0 in omega arith)
      | false ↦ λ digit. refl
    ] refl

item_range : (m n b : ℕ) (rest : List ℕ) → m < 2 ^ 64 → n < 2 ^ 64 → is_digit b ≡ false → item (decimal m ++ (codes ":" ++ (decimal n ++ (b ∷ rest)))) ≡ Some (range m n, b ∷ rest)
item_range m n b rest fits fits_too stop =
    let after : List ℕ = decimal n ++ (b ∷ rest) in
    item_split m 58 after fits refl
    ∙ otherwise_read (codes ":*") (58 ∷ after) _ _ (no_star (decimal n) (b ∷ rest) (decimal_is_IsNumeral n fits_too).0)
    ∙ ap (λ x. Some (range m x, beyond is_digit after)) (number-decimal n b rest fits_too stop)
    ∙ ap (λ x. Some (range m n, x)) (beyond-decimal n b rest fits_too stop)

-- attributes and modifiers
word_read : (a : Attribute) (b : ℕ) (rest : List ℕ) → in_word b ≡ false → word (attribute_word a ++ (b ∷ rest)) ≡ Some (attr a, b ∷ rest)
word_read a b rest stop =
    ap (λ x. option_map (λ y. (attr y, beyond in_word (attribute_word a ++ (b ∷ rest)))) (known_attribute x)) (front-append in_word (attribute_word a) b rest (whole_words a) stop)
    ∙ ap (option_map (λ y. (attr y, beyond in_word (attribute_word a ++ (b ∷ rest))))) (known-attribute_word a)
    ∙ ap (λ x. Some (attr a, x)) (beyond-append in_word (attribute_word a) b rest (whole_words a) stop)

since_read : (n : ℕ) (text : List ℕ) → n < 2 ^ 64 → since ((decimal n ++ codes ")") ++ text) ≡ Some (changed_since n, text)
since_read n text fits =
    ap since (append_assoc (decimal n) (codes ")") text)
    ∙ ap (λ x. Some (changed_since x, drop 1 (beyond is_digit (decimal n ++ (41 ∷ text))))) (number-decimal n 41 text fits refl)
    ∙ ap (λ x. Some (changed_since n, drop 1 x)) (beyond-decimal n 41 text fits refl)

-- what may follow in a typed state: the end of a number, and the end of a word
abbrev pub Follows : Stage → List ℕ → Type 0
Follows messages text = (b : ℕ) × (rest : List ℕ) × (text ≡ b ∷ rest) × (is_digit b ≡ false) × ((58 == b) ≡ false)
Follows attributes text = (b : ℕ) × (rest : List ℕ) × (text ≡ b ∷ rest) × (in_word b ≡ false)
Follows stage text = Unit {0}

abbrev pub Allowed : Stage → Type 0
Allowed refused = ⊥
Allowed stage = Unit {0}

wide : (n : ℕ) → n < 2 ^ 32 → n < 2 ^ 64
wide n fits = omega arith

num_read : (n : ℕ) (text : List ℕ) → n < 2 ^ 32 → Follows messages text → item (decimal n ++ text) ≡ Some (num n, text)
num_read n text fits f = rw f.2 (item_num n f.0 f.1 (wide n fits) f.3 f.4)

range_read : (m n : ℕ) (text : List ℕ) → (m < 2 ^ 32) × (n < 2 ^ 32) → Follows messages text → item ((decimal m ++ (codes ":" ++ decimal n)) ++ text) ≡ Some (range m n, text)
range_read m n text fits f =
    ap item (append_assoc (decimal m) (codes ":" ++ decimal n) text)
    ∙ rw f.2 (item_range m n f.0 f.1 (wide m fits.0) (wide n fits.1) f.3)

range_from_read : (n : ℕ) (text : List ℕ) → n < 2 ^ 32 → item ((decimal n ++ codes ":*") ++ text) ≡ Some (range_from n, text)
range_from_read n text fits = ap item (append_assoc (decimal n) (codes ":*") text) ∙ item_range_from n text (wide n fits)

attr_read : (a : Attribute) (text : List ℕ) → Follows attributes text → word (attribute_word a ++ text) ≡ Some (attr a, text)
attr_read a text f = rw f.2 (word_read a f.0 f.1 f.3)

pub reads-added : (s : Stage) (c : Call) (text : List ℕ) → InRange c → Allowed (after s c) → Follows (after s c) text → reads s (added s c ++ text) ≡ Some (c, text)
reads-added start check text r a f = refl
reads-added start close text r a f = refl
reads-added start (list reference glob) text r a f = pair_read list reference glob text
reads-added start (login user_name password) text r a f = pair_read login user_name password text
reads-added start (select mailbox) text r a f = single_read select mailbox text
reads-added start (examine mailbox) text r a f = single_read examine mailbox text
reads-added no_params cond_store text r a f = refl
reads-added start fetch text r a f = refl
reads-added start uid_fetch text r a f = refl
reads-added empty (num n) text r a f = num_read n text r f
reads-added empty (range first last) text r a f = range_read first last text r f
reads-added empty (range_from first) text r a f = range_from_read first text r
reads-added messages (num n) text r a f = num_read n text r f
reads-added messages (range first last) text r a f = range_read first last text r f
reads-added messages (range_from first) text r a f = range_from_read first text r
reads-added messages (attr_macro group.All) text r a f = refl
reads-added messages (attr_macro group.Fast) text r a f = refl
reads-added messages (attr_macro group.Full) text r a f = refl
reads-added messages (attr attribute) text r a f = attr_read attribute text f
reads-added attributes (attr attribute) text r a f = attr_read attribute text f
reads-added attributes (changed_since n) text r a f = since_read n text r
reads-added modifiers (changed_since n) text r a f = since_read n text r
reads-added s c text r a f = absurd a

pub reads-closing : (s : Stage) → Ends s → reads s (closing s) ≡ None
reads-closing no_params h = refl
reads-closing params h = refl
reads-closing attributes h = refl
reads-closing modifiers h = refl
reads-closing whole h = refl
reads-closing s h = absurd h
