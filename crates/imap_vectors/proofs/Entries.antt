-- The entries of small maps.
use Rattle.std.proofs.Common.{◌≡◌, ◌∙◌, ap, codes, List, [], ◌∷◌, length, sym, refl, arith}
use Rattle.std.specs.Ordering.{nat_cmp}
use Rattle.std.specs.Cmp.Lexicographic.{slice_cmp, nat_list_cmp_total}
use Rattle.std.specs.FinMap.{empty, insert, put, entries, len-entries, len-empty, entries-insert}
use Rattle.imap_grammar.specs.Text.{Bytes, Text}
use Rattle.imap_extensions.specs.Ids.{IdValue}

nothing_in : (es : List (Bytes × Text)) → length es ≡ 0 → es ≡ []
nothing_in [] h = refl
nothing_in (e ∷ es) h = absurd (omega (arith, h))

abbrev none : IdValue
none = empty

pub no_entry : entries none ≡ []
no_entry = nothing_in (entries none) (sym (len-entries none) ∙ len-empty (slice_cmp nat_cmp) Text)

-- the second value of a key takes the place of the first
pub last_entry : (v w : Text) → entries (insert (insert none (codes "a") v) (codes "a") w) ≡ (codes "a", w) ∷ []
last_entry v w = entries-insert nat_list_cmp_total (insert none (codes "a") v) (codes "a") w ∙ ap (put (slice_cmp nat_cmp) (codes "a") w) (entries-insert nat_list_cmp_total none (codes "a") v ∙ ap (put (slice_cmp nat_cmp) (codes "a") v) no_entry)
