-- The text of part numbers, as one more stands behind them.
use Rattle.std.proofs.Common.{arith, ◌≡◌, ℕ, List, [], ◌∷◌, ◌++◌, codes, decimal}
use Rattle.std.proofs.lemmas.List.{append-nil, append_assoc}
use Rattle.imap_grammar.specs.Pieces.{written, words, number_text, each, ◌then◌}
use Rattle.imap_sections.specs.SectionTexts.{canonical_part}

abbrev dotted : List ℕ → List ℕ
dotted ns = written (each (λ n. words "." then number_text n) ns)

dotted_more : (ns : List ℕ) (k : ℕ) → dotted (ns ++ k ∷ []) ≡ dotted ns ++ (codes "." ++ decimal k)
dotted_more [] k = grind (arith, append-nil, append_assoc)
dotted_more (n ∷ ns) k = grind (arith, dotted_more ns k, append-nil, append_assoc)

pub one_more : (n : ℕ) (ns : List ℕ) (k : ℕ) → written (canonical_part (n ∷ (ns ++ k ∷ []))) ≡ written (canonical_part (n ∷ ns)) ++ (codes "." ++ decimal k)
one_more n ns k = grind (arith, dotted_more ns k, append-nil, append_assoc)
