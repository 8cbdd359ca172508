-- JSON without signs, points or exponents that has the same text is the same, however deep it nests: the text is read
-- back as its tokens, and these as one value.
use Rattle.std.proofs.Common.{◌≡◌, ℕ, ◌+◌, List, [], ◌++◌, Option, None, Some, refl, sym, ap, ◌∙◌, arith}
use Rattle.std.proofs.lemmas.Fmt.{decimal_injective}
use Rattle.json.specs.Json as json
use Rattle.json.specs.Token.{Token}
use Rattle.json.specs.Lex.{tokens}
use Rattle.json.specs.Tree.{json_tokens, depth, HasNumbers, ItemsHaveNumbers, MembersHaveNumbers}
use Rattle.json.proofs.Printed.Decimals.{IsNumber-decimal}
use Rattle.json.proofs.Printed.Tokens.{tokens-print}
use Rattle.json.proofs.Printed.Trees.{value-json_tokens, ArePrintable-json_tokens}
use Rattle.serde_json.specs.Data.{Data, null, boolean, number, string, array, object, unsigned, negative, float, Items, no_items, item, Members, no_members, member}
use Rattle.serde_json.specs.Written.{outline, items_outline, members_outline, compact_text}
use Rattle.serde_json.proofs.Texts.{print-outline}
use Rattle.imap_grammar.proofs.Seen.{kinds_apart}
use Rattle.imap_proto.specs.Responses.{ResponseValue, lent_response}
use Rattle.imap_json.specs.Responses.{json_of}
use Rattle.imap_json.specs.Laws.{HasU64s, ItemsHaveU64s, MembersHaveU64s}
use Rattle.imap_json.proofs.FaithfulResponses.{responses}

-- ---- its text is read back

mutual
  has_numbers : (d : Data) → HasU64s d → HasNumbers (outline d)
  has_numbers null h = tt
  has_numbers (boolean b) h = tt
  has_numbers (number (unsigned n)) h = IsNumber-decimal n h
  has_numbers (number (negative z)) h = absurd h
  has_numbers (number (float x)) h = absurd h
  has_numbers (string s) h = tt
  has_numbers (array ds) h = items_have_numbers ds h
  has_numbers (object ms) h = members_have_numbers ms h

  items_have_numbers : (ds : Items) → ItemsHaveU64s ds → ItemsHaveNumbers (items_outline ds)
  items_have_numbers no_items h = tt
  items_have_numbers (item d ds) h = (has_numbers d h.0, items_have_numbers ds h.1)

  members_have_numbers : (ms : Members) → MembersHaveU64s ms → MembersHaveNumbers (members_outline ms)
  members_have_numbers no_members h = tt
  members_have_numbers (member k d ms) h = (has_numbers d h.0, members_have_numbers ms h.1)

tokens_of_text : (d : Data) → HasU64s d → tokens (compact_text d) ≡ json_tokens (outline d)
tokens_of_text d h = ap tokens (sym (print-outline d)) ∙ tokens-print (json_tokens (outline d)) (ArePrintable-json_tokens (outline d) (has_numbers d h))

abbrev value_or : json.Json → Option (json.Json × List Token) → json.Json
value_or j None = j
value_or j (Some p) = p.0

tokens_apart : (j k : json.Json) → json_tokens j ≡ json_tokens k → j ≡ k
tokens_apart j k same =
    let d : ℕ = depth j + depth k in
    let first = value-json_tokens j d [] (omega arith) in
    let second = value-json_tokens k d [] (omega arith) in
    ap (value_or j) (sym first ∙ ap (λ ts. json.value d (ts ++ [])) same ∙ second)

-- ---- an outline is that of one value

abbrev form_of : json.Json → ℕ
form_of json.null = 0
form_of (json.boolean b) = 1
form_of (json.number s) = 2
form_of (json.string s) = 3
form_of (json.array js) = 4
form_of (json.object ms) = 5

mutual
  outlines_apart : (d e : Data) → HasU64s d → HasU64s e → outline d ≡ outline e → d ≡ e
  outlines_apart null null p q h = refl
  outlines_apart (boolean a) (boolean b) p q h = ap boolean cc
  outlines_apart (number (unsigned n)) (number (unsigned m)) p q h = ap (λ k. number (unsigned k)) (decimal_injective n m p q cc)
  outlines_apart (number (negative z)) e p q h = absurd p
  outlines_apart (number (float x)) e p q h = absurd p
  outlines_apart d (number (negative z)) p q h = absurd q
  outlines_apart d (number (float x)) p q h = absurd q
  outlines_apart (string s) (string t) p q h = ap string cc
  outlines_apart (array ds) (array es) p q h = ap array (items_apart ds es p q cc)
  outlines_apart (object ms) (object ns) p q h = ap object (members_apart ms ns p q cc)
  outlines_apart d e p q h = absurd (kinds_apart form_of _ _ refl h)

  items_apart : (ds es : Items) → ItemsHaveU64s ds → ItemsHaveU64s es → items_outline ds ≡ items_outline es → ds ≡ es
  items_apart no_items no_items p q h = refl
  items_apart no_items (item e es) p q h = absurd cc
  items_apart (item d ds) no_items p q h = absurd cc
  items_apart (item d ds) (item e es) p q h =
      let x = outlines_apart d e p.0 q.0 cc in
      let y = items_apart ds es p.1 q.1 cc in
      λ i. item (x i) (y i)

  members_apart : (ms ns : Members) → MembersHaveU64s ms → MembersHaveU64s ns → members_outline ms ≡ members_outline ns → ms ≡ ns
  members_apart no_members no_members p q h = refl
  members_apart no_members (member l e ns) p q h = absurd cc
  members_apart (member k d ms) no_members p q h = absurd cc
  members_apart (member k d ms) (member l e ns) p q h =
      let w : k ≡ l = cc in
      let x = outlines_apart d e p.0 q.0 cc in
      let y = members_apart ms ns p.1 q.1 cc in
      λ i. member (w i) (x i) (y i)

compact_texts_apart : (d e : Data) → HasU64s d → HasU64s e → compact_text d ≡ compact_text e → d ≡ e
compact_texts_apart d e p q h =
    outlines_apart d e p q (tokens_apart (outline d) (outline e) (sym (tokens_of_text d p) ∙ ap tokens h ∙ tokens_of_text e q))

pub texts_apart : (a b : ResponseValue) → HasU64s (json_of a) → HasU64s (json_of b) → compact_text (json_of a) ≡ compact_text (json_of b) → lent_response a ≡ lent_response b
texts_apart a b p q h = responses.apart a b (compact_texts_apart (json_of a) (json_of b) p q h)

pub one_text : (a b : ResponseValue) → lent_response a ≡ lent_response b → compact_text (json_of a) ≡ compact_text (json_of b)
one_text a b h = ap compact_text (sym (responses.alike a) ∙ ap json_of h ∙ responses.alike b)
