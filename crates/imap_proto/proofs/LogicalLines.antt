-- Logical lines: no bytes are denied, and a line ends in CRLF.
use Rattle.std.proofs.Common.{◌≡◌, ℕ, ◌-◌, ◌<◌, ◌≤◌, Bool, true, false, not, [], ◌∷◌, ◌++◌, length, take, drop, Ok, Err, refl, sym, ap, subst, ◌∙◌, append_assoc, inl, inr, arith}
use Rattle.std.specs.Prelude.{◌==◌}
use Rattle.std.specs.List.{list_all}
use Rattle.std.proofs.lemmas.Bool.{false≢true, eqb-true, and_parts}
use Rattle.std.proofs.lemmas.Bool.Decides.{eqb_tells}
use Rattle.std.proofs.lemmas.List.{length-drop, append_cancel_right}
use Rattle.imap_grammar.specs.declared.answer.Err.TheVariants.{Error}
use Rattle.imap_grammar.specs.Answer.{Returned, Exactly}
use Rattle.imap_grammar.specs.Ascii.{line_feed, carriage_return, open_brace}
use Rattle.imap_grammar.specs.Meaning.{Denies, RunsTo, begins, differs, outside, is_word}
use Rattle.imap_grammar.specs.Positions.{between}
use Rattle.imap_grammar.specs.Rule.{meaning, run0}
use Rattle.imap_grammar.specs.Step.{Step, step}
use Rattle.imap_grammar.specs.Text.{Bytes}
use Rattle.imap_grammar.proofs.Agreement.{agrees}
use Rattle.imap_grammar.proofs.Consumption.{consumes}
use Rattle.imap_grammar.proofs.Stability.{is_stable}
use Rattle.imap_bytes.proofs.Takes.{literal_takes}
use Rattle.imap_proto.specs.LogicalLines.{is_cr, is_plain, line_text, line_part, line_content, line_close, logical_line, NoLineIsDenied, LinesEnd, NeverDenied}

-- ---- no line is denied

abbrev no_lf : Bytes → Bool
no_lf m = differs ◌==◌ (line_feed ∷ []) m

only_lf : (m : Bytes) → begins (outside is_cr) m ≡ true → begins (outside is_plain) m ≡ true → differs ◌==◌ (open_brace ∷ []) m ≡ true → no_lf m ≡ false
only_lf [] out stop brace = absurd (false≢true out)
only_lf (b ∷ m) out stop brace =
    elim (eqb_tells b line_feed) [
      | inl e ↦ subst (λ k. no_lf (k ∷ m) ≡ false) (sym e.1) refl
      | inr e ↦
          elim (eqb_tells b carriage_return) [
            | inl f ↦ absurd (false≢true (subst (λ k. begins (outside is_cr) (k ∷ m) ≡ true) f.1 out))
            | inr f ↦
                elim (eqb_tells b open_brace) [
                  | inl g ↦ absurd (false≢true (subst (λ k. differs ◌==◌ (open_brace ∷ []) (k ∷ m) ≡ true) g.1 brace))
                  | inr g ↦ absurd (false≢true (rw (e.0, f.0, g.0) at stop))
                ]
          ]
    ]

-- where no text stands, and no CR, there is an LF
lf_stands : (m : Bytes) → begins (outside is_cr) m ≡ true → Denies (meaning line_text) m → no_lf m ≡ false
unfolding meaning line_text
lf_stands m out d = elim d [
  | inl a ↦ absurd (a.1 refl)
  | inr a ↦ elim (a.1) [ inl b ↦ absurd (b.1 refl) | inr b ↦ only_lf m out a.0 b.1 ]
]

-- CRs and an LF end a line, unless there are no CRs
crs_close : (m crs mid : Bytes) → RunsTo is_cr m crs mid → no_lf mid ≡ false → no_lf m ≡ true → ¬ (Denies (meaning line_close) m)
unfolding meaning line_close
crs_close m [] mid r behind front c = absurd (false≢true (sym behind ∙ ap no_lf (sym r.0) ∙ front))
crs_close m (b ∷ crs) mid r behind front c =
    let first = (and_parts (is_cr b) (list_all is_cr crs) r.1).0 in
    elim c [
      | inl none ↦ absurd (false≢true (sym (ap not first) ∙ ap (begins (outside is_cr)) (sym r.0) ∙ none))
      | inr y ↦ absurd (false≢true (sym behind ∙ ap no_lf ((is_stable (run0 is_cr)).one_yield m (b ∷ crs) y.0 mid y.1 r y.2.0).1 ∙ y.3))
    ]

-- where no part of a line stands, its end does
part_or_close : (m : Bytes) → Denies (meaning line_part) m → ¬ (Denies (meaning line_close) m)
unfolding meaning line_part
part_or_close m d c = elim d [
  | inl a ↦ a.1 refl
  | inr a ↦ elim (a.0) [ inl f ↦ f | inr y ↦ crs_close m y.0 y.1 y.2 (lf_stands y.1 y.2.2 y.3) a.1 c ]
]

pub no_line_is_denied : NoLineIsDenied
unfolding meaning logical_line line_content
no_line_is_denied m d = elim d [
  | inl a ↦ elim (a.3) [ inl h ↦ h.1 refl | inr h ↦ absurd (let q = h.0 in cc) ]
  | inr y ↦ part_or_close y.1 y.2.1.1 y.3
]

pub never_denied : {A : Type 0} (view : A → Bytes) (m : Bytes) (result : Returned A) → Exactly view result (step logical_line m) → NeverDenied result
never_denied view m (Ok x) g = tt
never_denied view m (Err e) g = λ is. no_line_is_denied m ((agrees logical_line m).failed Error (subst (λ k. step logical_line m ≡ Err k) is g))

-- ---- a line ends in CRLF

last_cr : (crs : Bytes) → list_all is_cr crs ≡ true → 0 < length crs → (front : Bytes) × (crs ≡ front ++ (carriage_return ∷ []))
last_cr [] all some = absurd (omega (arith, some))
last_cr (b ∷ []) all some = ([], ap (λ k. k ∷ []) (eqb-true b carriage_return (and_parts (is_cr b) true all).0))
last_cr (b ∷ c ∷ crs) all some =
    let last = last_cr (c ∷ crs) (and_parts (is_cr b) (list_all is_cr (c ∷ crs)) all).1 (omega arith) in
    (b ∷ last.0, ap (λ (k : Bytes). b ∷ k) last.1)

is_lf : (v : Bytes) → is_word ◌==◌ (line_feed ∷ []) v ≡ true → v ≡ line_feed ∷ []
is_lf [] h = absurd (false≢true h)
is_lf (a ∷ []) h = ap (λ k. k ∷ []) (sym (eqb-true line_feed a (and_parts (line_feed == a) true h).0))
is_lf (a ∷ b ∷ v) h = absurd (false≢true (and_parts (line_feed == a) false h).1)

pub lines_end : LinesEnd
unfolding meaning logical_line line_content line_close
lines_end m line rest y =
    let content = y.0.0 in
    let close = y.1.2 in
    let last = last_cr y.0.1.0 close.1.0.1 close.1.1 in
    let behind : close.0 ≡ line_feed ∷ rest = close.2.0 ∙ ap (λ (k : Bytes). k ++ rest) (is_lf y.0.1.1 close.2.1) in
    let closing : y.1.0 ≡ last.0 ++ (carriage_return ∷ line_feed ∷ rest) =
    close.1.0.0 ∙ ap (λ (k : Bytes). k ++ close.0) last.1 ∙ ap (λ (k : Bytes). (last.0 ++ (carriage_return ∷ [])) ++ k) behind ∙ append_assoc last.0 (carriage_return ∷ []) (line_feed ∷ rest) in
    let all : m ≡ ((content ++ last.0) ++ (carriage_return ∷ line_feed ∷ [])) ++ rest =
    y.1.1.2 ∙ ap (λ (k : Bytes). content ++ k) closing ∙ sym (append_assoc content last.0 (carriage_return ∷ line_feed ∷ rest))
    ∙ sym (append_assoc (content ++ last.0) (carriage_return ∷ line_feed ∷ []) rest) in
    (content ++ last.0, append_cancel_right line ((content ++ last.0) ++ (carriage_return ∷ line_feed ∷ [])) rest (sym y.2 ∙ all), y.2)

-- ---- what the reader reads

pub part_takes : consumes line_part ≡ true
unfolding line_part line_text
part_takes = rw literal_takes refl

pub line_takes : consumes logical_line ≡ true
unfolding logical_line line_content line_close
line_takes = refl

abbrev found : Bytes → Bytes → Step Bytes
found rest v = Ok (rest, v)

pub line_read : (m : Bytes) (p mid q : ℕ) (content : Bytes) (close : Bytes × Bytes) → p ≤ q → q ≤ length m → step line_content (drop p m) ≡ Ok (drop mid m, content) → step line_close (drop mid m) ≡ Ok (drop q m, close)
    → step logical_line (drop p m) ≡ Ok (drop q m, between m p q)
unfolding logical_line
line_read m p mid q content close ahead within first second =
    let e : length (drop p m) - length (drop q m) ≡ q - p = omega (arith, length-drop p m, length-drop q m, ahead, within) in
    rw (first, second) (ap (λ k. found (drop q m) (take k (drop p m))) e)
