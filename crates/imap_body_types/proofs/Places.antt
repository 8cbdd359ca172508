-- Spans that lie before a position, in values of all forms.
use Rattle.std.proofs.Common.{◌≡◌, ℕ, zero, suc, ◌≤◌, Bool, true, false, List, [], ◌∷◌, ◌++◌, map, take, Some, None, refl, sym, ap, ◌∙◌, arith}
use Rattle.std.specs.Prelude.{All, ◌&&◌, nat_le, if◌then◌else◌}
use Rattle.std.specs.Option.{option_map}
use Rattle.std.specs.Str.{is_utf8, chars}
use Rattle.std.specs.Global.{Vec}
use Rattle.std.proofs.lemmas.Bool.{and_parts, le-leb, leb-true}
use Rattle.std.proofs.lemmas.List.{map-append}
use Rattle.imap_grammar.specs.Text.{Bytes, as_text, decoded}
use Rattle.imap_grammar.specs.declared.at.span.Span.{Span}
use Rattle.imap_grammar.specs.Positions.{Lies, named_in}
use Rattle.imap_grammar.proofs.Positions.{named_in_front}
use Rattle.imap_body_types.specs.declared.spans.SpannedText.TheVariants.{Part}
use Rattle.imap_body_types.specs.Spans.{Lookup, AlikeTo, Rests, bytes_in, text_in}

-- a message and its front look the same up
pub front_alike : (m : Bytes) (q : ℕ) → AlikeTo q (named_in (take q m)) (named_in m)
front_alike m q s ordered le = named_in_front m s q ordered le

-- a position further on allows as much
pub rests_more : {A V : Type 0} {view : Lookup → A → V} {q : ℕ} {x : A} (r : ℕ) → q ≤ r → Rests view q x → Rests view r x
rests_more r le h = record { same = λ n k alike. h.same n k (λ s ordered within. alike s ordered (omega (arith, le, within))) }

-- ---- a string

pub bytes_rest : (s : Span) (q : ℕ) → s.start ≤ s.end → s.end ≤ q → Rests bytes_in q s
bytes_rest s q ordered le = record { same = λ n k alike. ap as_text (alike s ordered le) }

pub part_rests : (s : Span) (q : ℕ) → s.start ≤ s.end → s.end ≤ q → Rests text_in q (Part s)
part_rests s q ordered le = record { same = λ n k alike. ap decoded (alike s ordered le) }

-- ---- a value that may be missing

pub nothing_rests : {A V : Type 0} (view : Lookup → A → V) (q : ℕ) → Rests (λ n x. option_map (view n) x) q None
nothing_rests view q = record { same = λ n k alike. refl }

pub something_rests : {A V : Type 0} (view : Lookup → A → V) (q : ℕ) (x : A) → Rests view q x → Rests (λ n y. option_map (view n) y) q (Some x)
something_rests view q x h = record { same = λ n k alike. ap (λ y. Some y) (h.same n k alike) }

-- ---- lists

pub listed_rest : {A V : Type 0} (view : Lookup → A → V) (q : ℕ) (x : Vec A) → Rests (λ n v. map (view n) v.items) q x → Rests (λ n y. option_map (λ v. map (view n) v.items) y) q (Some x)
listed_rest view q x h = record { same = λ n k alike. ap (λ y. Some y) (h.same n k alike) }

pub alone : {A V : Type 0} (view : Lookup → A → V) (q : ℕ) (x : A) → Rests view q x → Rests (λ n xs. map (view n) xs) q (x ∷ [])
alone view q x h = record { same = λ n k alike. ap (λ y. y ∷ []) (h.same n k alike) }

pub together : {A V : Type 0} (view : Lookup → A → V) (q r : ℕ) (xs : List A) (x : A) → q ≤ r → Rests (λ n ys. map (view n) ys) q xs → Rests view r x → Rests (λ n ys. map (view n) ys) r (xs ++ x ∷ [])
together view q r xs x le front h =
    let further = rests_more r le front in
    record { same = λ n k alike. map-append (view n) xs (x ∷ []) ∙ ap (λ ys. ys ++ view n x ∷ []) (further.same n k alike) ∙ ap (λ y. map (view k) xs ++ y ∷ []) (h.same n k alike) ∙ sym (map-append (view k) xs (x ∷ [])) }

-- texts whose spans all lie there
pub parts_rest : (p q : ℕ) (spans : List Span) → All (λ s. Lies p s q) spans → Rests (λ n xs. map (text_in n) xs) q (map (λ s. Part s) spans)
parts_rest p q [] h = record { same = λ n k alike. refl }
parts_rest p q (s ∷ spans) h =
    let lies : Lies p s q = h zero s (omega arith) in
    let one = part_rests s q lies.1 lies.2 in
    let more = parts_rest p q spans (λ i d lt. h (suc i) d (omega (arith, lt))) in
    record { same = λ n k alike. ap (λ t. t ∷ map (text_in n) (map (λ s. Part s) spans)) (one.same n k alike) ∙ ap (λ ts. text_in k (Part s) ∷ ts) (more.same n k alike) }

-- ---- what that says of the numbers: a string that rests on what lies before q lies there, whatever it names

-- whether a span is in order, and ends at q or before
abbrev lies_before : ℕ → Span → Bool
lies_before q s = nat_le s.start s.end && nat_le s.end q

-- to those spans no bytes, and to all others a byte that is not UTF-8
abbrev marked : ℕ → Lookup
marked q s = if lies_before q s then [] else 255 ∷ []

abbrev blank : Lookup
blank s = []

marked_alike : (q : ℕ) → AlikeTo q (marked q) blank
marked_alike q s ordered le = rw (le-leb _ _ ordered, le-leb _ _ le) refl

marked_utf8 : (b : Bool) → is_utf8 (if b then [] else 255 ∷ []) ≡ is_utf8 [] → b ≡ true
unfolding is_utf8 chars
marked_utf8 true h = refl
marked_utf8 false h = absurd cc

lies : (q : ℕ) (s : Span) → is_utf8 (marked q s) ≡ is_utf8 [] → (s.start ≤ s.end) × (s.end ≤ q)
lies q s h = let parts = and_parts _ _ (marked_utf8 (lies_before q s) h) in (leb-true _ _ parts.0, leb-true _ _ parts.1)

pub bytes_lie : (q : ℕ) (s : Span) → Rests bytes_in q s → (s.start ≤ s.end) × (s.end ≤ q)
bytes_lie q s h = let same : as_text (marked q s) ≡ as_text [] = h.same (marked q) blank (marked_alike q) in lies q s (ap (λ t. is_utf8 t.bytes) same)

pub part_lies : (q : ℕ) (s : Span) → Rests text_in q (Part s) → (s.start ≤ s.end) × (s.end ≤ q)
part_lies q s h = let same : decoded (marked q s) ≡ decoded [] = h.same (marked q) blank (marked_alike q) in lies q s (ap (λ t. t.borrowed) same)
