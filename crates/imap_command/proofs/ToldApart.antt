-- Finished commands are told apart by their bytes: the text of a command, the oldest call first,
-- read back from the left.
use Rattle.std.proofs.Common.{◌≡◌, List, [], ◌∷◌, ◌++◌, ℕ, None, Some, All, refl, ap, ◌∙◌, sym, subst, append_assoc}
use Rattle.std.proofs.lemmas.List.Elements.{All-nil, All-cons, All-head, All-tail}
use Rattle.imap_command.specs.Calls.{Call, InRange, Stage, Ends, after, added, closing, stage, begun, start, messages, attributes, refused, num, range, range_from, attr_macro, attr, changed_since}
use Rattle.imap_command.specs.Apart.{CallsToldApart}
use Rattle.imap_command.proofs.ReadBack.{Follows, Allowed, reads-added, reads-closing}
use Rattle.imap_command.proofs.Reader.{Found, reads}

-- what calls add from a typed state on, the oldest first, with the end
abbrev written : Stage → List Call → List ℕ
written s [] = closing s
written s (call ∷ later) = added s call ++ written (after s call) later

abbrev reached : Stage → List Call → Stage
reached s [] = s
reached s (call ∷ later) = reached (after s call) later

stays_refused : (calls : List Call) → Ends (reached refused calls) → ⊥
stays_refused [] h = h
stays_refused (call ∷ later) h = stays_refused later h

allowed : (s : Stage) (calls : List Call) → Ends (reached s calls) → Allowed s
allowed refused calls h = stays_refused calls h
allowed s calls h = tt

follows : (s : Stage) (calls : List Call) → Ends (reached s calls) → Follows s (written s calls)
follows messages (num n ∷ later) h = (44, _, refl, refl, refl)
follows messages (range first last ∷ later) h = (44, _, refl, refl, refl)
follows messages (range_from first ∷ later) h = (44, _, refl, refl, refl)
follows messages (attr_macro group ∷ later) h = (32, _, refl, refl, refl)
follows messages (attr attribute ∷ later) h = (32, _, refl, refl, refl)
follows messages [] h = absurd h
follows messages (call ∷ later) h = absurd (stays_refused later h)
follows attributes [] h = (41, _, refl, refl)
follows attributes (attr attribute ∷ later) h = (32, _, refl, refl)
follows attributes (changed_since n ∷ later) h = (41, _, refl, refl)
follows attributes (call ∷ later) h = absurd (stays_refused later h)
follows s calls h = tt

first_read : (s : Stage) (call : Call) (later : List Call) → Ends (reached (after s call) later) → InRange call → reads s (written s (call ∷ later)) ≡ Some (call, written (after s call) later)
first_read s call later h fits =
    reads-added s call (written (after s call) later) fits (allowed (after s call) later h) (follows (after s call) later h)

not_both : (found : Found) (call : Call) (text : List ℕ) → found ≡ None → found ≡ Some (call, text) → ⊥
not_both found call text nothing something = cc

same_found : (found : Found) (x y : Call × List ℕ) → found ≡ Some x → found ≡ Some y → x ≡ y
same_found found x y first second = cc

one_found : (found : Found) (c d : Call) (t u : List ℕ) → found ≡ Some (c, t) → found ≡ Some (d, u) → (c ≡ d) × (t ≡ u)
one_found found c d t u first second =
    let same = same_found found (c, t) (d, u) first second in
    (ap (λ (x : Call × List ℕ). x.0) same, ap (λ (x : Call × List ℕ). x.1) same)

apart_from : (s : Stage) (a b : List Call) → Ends (reached s a) → Ends (reached s b) → All InRange a → All InRange b → written s a ≡ written s b → a ≡ b
apart_from s [] [] ends_a ends_b fits_a fits_b e = refl
apart_from s [] (d ∷ b) ends_a ends_b fits_a fits_b e =
    absurd (not_both (reads s (written s [])) d (written (after s d) b) (reads-closing s ends_a) (ap (reads s) e ∙ first_read s d b ends_b (All-head InRange d b fits_b)))
apart_from s (c ∷ a) [] ends_a ends_b fits_a fits_b e =
    absurd (not_both (reads s (written s [])) c (written (after s c) a) (reads-closing s ends_b) (ap (reads s) (sym e) ∙ first_read s c a ends_a (All-head InRange c a fits_a)))
apart_from s (c ∷ a) (d ∷ b) ends_a ends_b fits_a fits_b e =
    let both = one_found (reads s (written s (c ∷ a))) c d (written (after s c) a) (written (after s d) b) (first_read s c a ends_a (All-head InRange c a fits_a)) (ap (reads s) e ∙ first_read s d b ends_b (All-head InRange d b fits_b)) in
    let same : c ≡ d = both.0 in
    let rest : written (after s c) a ≡ written (after s d) b = both.1 in
    let ends : Ends (reached (after s c) b) = subst (λ (x : Call). Ends (reached (after s x) b)) (sym same) ends_b in
    let texts : written (after s c) a ≡ written (after s c) b = subst (λ (x : Call). written (after s c) a ≡ written (after s x) b) (sym same) rest in
    let others : a ≡ b = apart_from (after s c) a b ends_a ends (All-tail InRange c a fits_a) (All-tail InRange d b fits_b) texts in
    cc

-- calls, the newest first, before later ones, the oldest first
abbrev onto : List Call → List Call → List Call
onto [] later = later
onto (call ∷ before) later = onto before (call ∷ later)

onto_back : (a b : List Call) → onto (onto a b) [] ≡ onto b a
onto_back [] b = refl
onto_back (call ∷ a) b = onto_back a (call ∷ b)

written_onto : (calls later : List Call) → begun calls ++ written (stage calls) later ≡ written start (onto calls later)
written_onto [] later = refl
written_onto (call ∷ before) later = append_assoc (begun before) (added (stage before) call) (written (after (stage before) call) later) ∙ written_onto before (call ∷ later)

reached_onto : (calls later : List Call) → reached (stage calls) later ≡ reached start (onto calls later)
reached_onto [] later = refl
reached_onto (call ∷ before) later = reached_onto before (call ∷ later)

in_range_onto : (calls later : List Call) → All InRange calls → All InRange later → All InRange (onto calls later)
in_range_onto [] later h k = k
in_range_onto (call ∷ before) later h k = in_range_onto before (call ∷ later) (All-tail InRange call before h) (All-cons InRange call later (All-head InRange call before h) k)

pub told_apart : CallsToldApart
told_apart a b done_a done_b e =
    let ends_a : Ends (reached start (onto a [])) = subst (λ (s : Stage). Ends s) (reached_onto a []) done_a.ends in
    let ends_b : Ends (reached start (onto b [])) = subst (λ (s : Stage). Ends s) (reached_onto b []) done_b.ends in
    let texts : written start (onto a []) ≡ written start (onto b []) = sym (written_onto a []) ∙ e ∙ written_onto b [] in
    let same : onto a [] ≡ onto b [] = apart_from start (onto a []) (onto b []) ends_a ends_b (in_range_onto a [] done_a.in_range (All-nil InRange)) (in_range_onto b [] done_b.in_range (All-nil InRange)) texts in
    sym (onto_back a []) ∙ ap (λ l. onto l []) same ∙ onto_back b []
