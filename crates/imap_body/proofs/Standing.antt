-- Attributes in a message: what one names, and how those of a list stand one behind another.
use Rattle.std.proofs.Common.{◌≡◌, ℕ, zero, suc, ◌+◌, ◌≤◌, List, [], ◌∷◌, ◌++◌, take, drop, map, Ok, Err, IfOk, refl, sym, ap, subst, ◌∙◌, arith}
use Rattle.std.specs.Prelude.{All}
use Rattle.std.specs.Global.{Vec}
use Rattle.imap_grammar.specs.Rule.{meaning}
use Rattle.imap_grammar.specs.Step.{Step, step}
use Rattle.imap_grammar.specs.Positions.{Reached, GivesAt, between, named_in}
use Rattle.imap_grammar.specs.Text.{Bytes, Text}
use Rattle.imap_grammar.specs.declared.at.span.Span.{Span}
use Rattle.imap_grammar.proofs.Agreement.{agrees}
use Rattle.imap_grammar.proofs.Positions.{stepped, named_in_front}
use Rattle.imap_body_types.specs.declared.spans.SpannedText.{SpannedText}
use Rattle.imap_body_types.specs.Spans.{Lookup, Rests, bytes_in, text_in}
use Rattle.imap_body_types.proofs.Places.{front_alike}
use Rattle.imap_body.specs.declared.spanned_attribute.SpannedAttribute.{SpannedAttribute}
use Rattle.imap_body.specs.AttributeValues.{AttributeKept, AttributeValue, parts_in, parts_said}
use Rattle.imap_body.specs.Attributes.{attribute}
use Rattle.imap_body.specs.SpannedAttributes.{attribute_in, attribute_said, Within, StandsAt, EndsAt, TurnsAt, InTurn, WithinItsSpan, Stands, InFront, KeepsAt}

-- ---- one attribute

abbrev answered : {V : Type 0} → Bytes → V → Step V
answered rest v = Ok (rest, v)

-- what was read from the start of what is behind p
pub attribute_named : {S B : Type 0} (text : Lookup → S → Text) (bytes : Lookup → B → Text) (m from : Bytes) (p size : ℕ) (parts : AttributeKept S B) → from ≡ drop p m → step attribute from ≡ Ok (drop size from, parts_said text bytes (named_in from) parts) → Rests (λ n x. parts_said text bytes n x) size parts
    → step attribute (drop p m) ≡ Ok (drop (p + size) m, parts_said text bytes (named_in (between m p (p + size))) parts)
attribute_named text bytes m from p size parts is reads rests =
    let s = stepped m p size in
    let front : take size from ≡ between m p (p + size) = ap (take size) is ∙ s.1 in
    let left : drop size from ≡ drop (p + size) m = ap (drop size) is ∙ s.0 in
    let named : parts_said text bytes (named_in from) parts ≡ parts_said text bytes (named_in (between m p (p + size))) parts = sym (rests.same (named_in (take size from)) (named_in from) (front_alike from size)) ∙ ap (λ n. parts_said text bytes (named_in n) parts) front in
    ap (step attribute) (sym is) ∙ reads ∙ ap (λ k. answered k (parts_said text bytes (named_in from) parts)) left ∙ ap (answered (drop (p + size) m)) named

-- what one names stands before any place that it ends by
attribute_stands : (s : SpannedAttribute SpannedText Span) (q : ℕ) → s.span.start ≤ s.span.end → s.span.end ≤ q → Stands attribute_in q s
attribute_stands s q ordered le = record { same = λ m. ap (λ n. parts_in (named_in n) s.parts) (named_in_front m s.span q ordered le) }

-- one that was read at k up to q stands there
pub ends_there : {S B : Type 0} (text : Lookup → S → Text) (bytes : Lookup → B → Text) (m : Bytes) (k q : ℕ) (s : SpannedAttribute S B) → step attribute (drop k m) ≡ Ok (drop q m, attribute_said text bytes m s) → Within text bytes s → k ≤ q → s.span.start ≡ k → s.span.end ≡ q → EndsAt text bytes m k q s
ends_there text bytes m k q s steps inside ahead start end =
    let there = (agrees attribute (drop k m)).yielded (attribute_said text bytes m s) (drop q m) steps in
    (record { start = start; ordered = omega (arith, ahead, end); ends = omega (arith, end); inside = inside; is = subst (λ n. (meaning attribute).yields (drop k m) (attribute_said text bytes m s) (drop n m)) (sym end) there }, end)

-- a place further on allows as much
ends_later : {S B : Type 0} (text : Lookup → S → Text) (bytes : Lookup → B → Text) (m : Bytes) (p q r : ℕ) (s : SpannedAttribute S B) → StandsAt text bytes m p q s → q ≤ r → StandsAt text bytes m p r s
ends_later text bytes m p q r s h le = record { start = h.start; ordered = h.ordered; ends = omega (arith, h.ends, le); inside = h.inside; is = h.is }

-- ---- a list of them

-- they stand one behind another with a byte between, the first from p on, and the last ends at q
abbrev pub UpTo : {S B : Type 0} → (Lookup → S → Text) → (Lookup → B → Text) → Bytes → ℕ → ℕ → List (SpannedAttribute S B) → Type 0
UpTo text bytes m p q [] = p ≡ q + 1
UpTo text bytes m p q (s ∷ rest) = StandsAt text bytes m p s.span.end s × UpTo text bytes m (s.span.end + 1) q rest

pub up_to_one : {S B : Type 0} (text : Lookup → S → Text) (bytes : Lookup → B → Text) (m : Bytes) (p q : ℕ) (s : SpannedAttribute S B) → EndsAt text bytes m p q s → UpTo text bytes m p q (s ∷ [])
up_to_one text bytes m p q s h = (subst (λ k. StandsAt text bytes m p k s) (sym h.1) h.0, ap (λ k. k + 1) h.1)

pub up_to_more : {S B : Type 0} (text : Lookup → S → Text) (bytes : Lookup → B → Text) (m : Bytes) (p q r : ℕ) (read : List (SpannedAttribute S B)) (s : SpannedAttribute S B) → UpTo text bytes m p q read → EndsAt text bytes m (q + 1) r s → UpTo text bytes m p r (read ++ s ∷ [])
up_to_more text bytes m p q r [] s h here = up_to_one text bytes m p r s (subst (λ k. EndsAt text bytes m k r s) (sym h) here)
up_to_more text bytes m p q r (x ∷ read) s h here = (h.0, up_to_more text bytes m (x.span.end + 1) q r read s h.1 here)

begins_before : {S B : Type 0} (text : Lookup → S → Text) (bytes : Lookup → B → Text) (m : Bytes) (p q : ℕ) (read : List (SpannedAttribute S B)) → UpTo text bytes m p q read → p ≤ q + 1
begins_before text bytes m p q [] h = omega (arith, h)
begins_before text bytes m p q (s ∷ read) h = omega (arith, h.0.ordered, begins_before text bytes m (s.span.end + 1) q read h.1)

pub in_turn : {S B : Type 0} (text : Lookup → S → Text) (bytes : Lookup → B → Text) (m : Bytes) (p q r : ℕ) (read : List (SpannedAttribute S B)) → UpTo text bytes m p q read → q ≤ r → TurnsAt text bytes m p r read
in_turn text bytes m p q r [] h le = tt
in_turn text bytes m p q r (s ∷ read) h le = (ends_later text bytes m p s.span.end r s h.0 (omega (arith, begins_before text bytes m (s.span.end + 1) q read h.1, le)), in_turn text bytes m (s.span.end + 1) q r read h.1 le)

pub in_turn_later : {S B : Type 0} (text : Lookup → S → Text) (bytes : Lookup → B → Text) (m : Bytes) (p q r : ℕ) (read : List (SpannedAttribute S B)) → TurnsAt text bytes m p q read → q ≤ r → TurnsAt text bytes m p r read
in_turn_later text bytes m p q r [] h le = tt
in_turn_later text bytes m p q r (s ∷ read) h le = (ends_later text bytes m p q r s h.0 le, in_turn_later text bytes m (s.span.end + 1) q r read h.1 le)

-- what those in turn name stands before the place that they end by
pub all_stand : (m : Bytes) (p q : ℕ) (read : List (SpannedAttribute SpannedText Span)) → InTurn m p q read → Stands (λ n xs. map (attribute_in n) xs) q read
all_stand m p q [] h = record { same = λ n. refl }
all_stand m p q (s ∷ read) h =
    let one = attribute_stands s q (omega (arith, h.0.start, h.0.ordered)) h.0.ends in
    let more = all_stand m (s.span.end + 1) q read h.1 in
    record { same = λ n. ap (λ x. x ∷ map (attribute_in (take q n)) read) (one.same n) ∙ ap (λ xs. attribute_in n s ∷ xs) (more.same n) }

-- the positions of each lie in its span
all_within : (m : Bytes) (p q : ℕ) (read : List (SpannedAttribute SpannedText Span)) → InTurn m p q read → All WithinItsSpan read
all_within m p q [] h i d lt = absurd (omega (arith, lt))
all_within m p q (s ∷ read) h zero d lt = h.0.inside
all_within m p q (s ∷ read) h (suc i) d lt = all_within m (s.span.end + 1) q read h.1 i d (omega (arith, lt))

-- ---- what is kept of them

-- where the attributes themselves are kept
abbrev KeptAt : Bytes → ℕ → Reached (Vec (SpannedAttribute SpannedText Span)) → Step (List AttributeValue) → Type 0
KeptAt m p result s = KeepsAt text_in bytes_in (λ read kept. kept ≡ read) m p result s

pub kept_named : (m : Bytes) (p : ℕ) (result : Reached (Vec (SpannedAttribute SpannedText Span))) (s : Step (List AttributeValue)) → KeptAt m p result s → GivesAt (λ x. map (attribute_in m) x.items) m result s
kept_named m p (Ok x) s h = h.2 ∙ ap (λ read. answered (drop x.0 m) (map (attribute_in m) read)) (sym h.1)
kept_named m p (Err e) s h = h

pub kept_in_turn : (m : Bytes) (p : ℕ) (result : Reached (Vec (SpannedAttribute SpannedText Span))) (s : Step (List AttributeValue)) → KeptAt m p result s → IfOk result (λ x. InTurn m p x.0 x.1.items)
kept_in_turn m p (Ok x) s h = subst (InTurn m p x.0) (sym h.1) h.3
kept_in_turn m p (Err e) s h = tt

pub kept_in_front : (m : Bytes) (p : ℕ) (result : Reached (Vec (SpannedAttribute SpannedText Span))) (s : Step (List AttributeValue)) → KeptAt m p result s → InFront (λ n x. map (attribute_in n) x.items) result
kept_in_front m p (Ok x) s h = record { same = λ n. (all_stand m p x.0 x.1.items (kept_in_turn m p (Ok x) s h)).same n }
kept_in_front m p (Err e) s h = tt

pub kept_within : (m : Bytes) (p : ℕ) (result : Reached (Vec (SpannedAttribute SpannedText Span))) (s : Step (List AttributeValue)) → KeptAt m p result s → IfOk result (λ x. All WithinItsSpan x.1.items)
kept_within m p (Ok x) s h = all_within m p x.0 x.1.items (kept_in_turn m p (Ok x) s h)
kept_within m p (Err e) s h = tt
