-- Sets of UIDs read back.
use Rattle.std.proofs.Common.{◌≡◌, ℕ, ◌<◌, ◌^◌, min, max, ◌++◌, decimal, ap₂, sym, subst, refl, inl, inr, arith}
use Rattle.std.proofs.lemmas.Bool.{cases_lt}
use Rattle.std.proofs.lemmas.List.{map-id}
use Rattle.imap_grammar.specs.Meaning.{Denies, outside}
use Rattle.imap_grammar.specs.Rule.{meaning, gives}
use Rattle.imap_grammar.specs.Text.{Bytes}
use Rattle.imap_grammar.specs.Ranges.{Range, fresh}
use Rattle.imap_grammar.specs.Spelling.{spells_ends}
use Rattle.imap_grammar.specs.Tags.{tag}
use Rattle.imap_grammar.specs.Pieces.{written}
use Rattle.imap_grammar.specs.ReadBack.{ReadsBack, Spells, SpellsAndReadsBack, Apart, BeginsWith, as_is}
use Rattle.imap_grammar.proofs.Reading.{raw_on, reads-gives, reads-follow, reads-list1, reads-as, first, denies-gives, denies-after}
use Rattle.imap_grammar.proofs.ReadingLists.{takes-text}
use Rattle.imap_grammar.proofs.Spelling.{◌orˢ◌, spells-gives, spells-wider, spells-list1, spells-tag}
use Rattle.imap_bytes.specs.Numbers.{number}
use Rattle.imap_bytes.specs.Sets.{sequence_range}
use Rattle.imap_bytes.proofs.ReadingTexts.{number_on, reads-number}
use Rattle.imap_bytes.proofs.ReadingSets.{number_bound, range_on, range_bounds, in_set, in_range, range_digits, range_colon, set_range, set_comma}
use Rattle.imap_bytes.proofs.SpellingTexts.{spells-number, spells-sequence_range}
use Rattle.imap_shared.specs.UidSets.{UidRange, Uid, in_order, uid_set_member, uid_set}
use Rattle.imap_shared.specs.UidSetTexts.{canonical_member, canonical_uid_set, spells_member, spells_uid_set}

-- no digit and no `:`
abbrev RangeEnds : Bytes → Type 0
RangeEnds = BeginsWith (outside in_range)

-- nor `,`
abbrev pub SetEnds : Bytes → Type 0
SetEnds = BeginsWith (outside in_set)

ordered_on : (a b : ℕ) → a < 2 ^ 32 → b < 2 ^ 32 → (t : Bytes) → RangeEnds t → (meaning (gives in_order sequence_range)).yields (written (canonical_member (in_order (fresh a b))) ++ t) (in_order (fresh a b)) t
unfolding meaning
ordered_on a b short short' t g =
    let least : min (min a b) (max a b) ≡ min a b = omega arith in
    let most : max (min a b) (max a b) ≡ max a b = omega arith in
    (fresh (min a b) (max a b), range_on (min a b) (max a b) (omega (arith, short, short')) (omega (arith, short, short')) t (range_digits t g), ap₂ (λ x y. UidRange (fresh x y)) least most)

reads_range : ReadsBack (gives in_order sequence_range) as_is canonical_member RangeEnds
unfolding meaning
reads_range = record {
  again = λ m v rest y f t g.
      let (is, short, short') = range_bounds m y.0 rest y.1 in
      subst (λ w. (meaning (gives in_order sequence_range)).yields (written (canonical_member w) ++ t) w t) y.2 (ordered_on y.0.start y.0.end short short' t g);
}

-- a number is no range where no colon follows
no_range : (n : ℕ) → n < 2 ^ 32 → (t : Bytes) → RangeEnds t → Denies (meaning sequence_range) (decimal n ++ t)
unfolding meaning sequence_range number
no_range n short t g = inr (n, t, number_on (2 ^ 32) n (omega arith) short t (range_digits t g), denies-after (tag ":") number t (range_colon t g))

uid_apart : Apart (gives in_order sequence_range) (gives Uid number) canonical_member RangeEnds
unfolding meaning
uid_apart = record {
  denied = λ m v rest d y f t g.
      subst (λ w. Denies (meaning (gives in_order sequence_range)) (written (canonical_member w) ++ t)) y.2
      (denies-gives in_order sequence_range _ (subst (λ l. Denies (meaning sequence_range) l) (sym (raw_on (decimal y.0) t)) (no_range y.0 (number_bound m y.0 rest y.1) t g)));
}

pub reads_member : ReadsBack uid_set_member as_is canonical_member RangeEnds
unfolding uid_set_member
reads_member = first reads_range uid_apart (reads-gives Uid (reads-follow reads-number range_digits) (λ x. refl))

reads_uid_set : ReadsBack uid_set as_is canonical_uid_set SetEnds
unfolding uid_set
reads_uid_set = reads-as (reads-list1 (takes-text ",") reads_member (λ y t. tt) (λ t. refl) set_range set_comma) map-id

-- ---- spelling

range_spells : (r : Range) (c : Bytes) → spells_ends r.start r.end c → spells_member (in_order r) c
range_spells r c h = elim (cases_lt r.start r.end) [
  | inl lt ↦
      let least : min r.start r.end ≡ r.start = omega (arith, lt) in
      let most : max r.start r.end ≡ r.end = omega (arith, lt) in
      (refl, omega arith, inl (subst (λ x. spells_ends x (max r.start r.end) c) (sym least) (subst (λ x. spells_ends r.start x c) (sym most) h)))
  | inr ge ↦
      let least : min r.start r.end ≡ r.end = omega (arith, ge) in
      let most : max r.start r.end ≡ r.start = omega (arith, ge) in
      (refl, omega arith, inr (subst (λ x. spells_ends x (min r.start r.end) c) (sym most) (subst (λ x. spells_ends r.start x c) (sym least) h)))
]

member_spells : Spells uid_set_member spells_member
unfolding uid_set_member
member_spells = spells-gives in_order (spells-wider spells-sequence_range (λ r c h. range_spells r c h.1)) orˢ spells-gives Uid spells-number

uid_set_spells : Spells uid_set spells_uid_set
unfolding uid_set
uid_set_spells = spells-list1 (spells-tag ",") member_spells

pub keeps_uid_set : SpellsAndReadsBack uid_set as_is canonical_uid_set spells_uid_set SetEnds
keeps_uid_set = record { spelled = uid_set_spells; back = reads_uid_set }
