-- A line that is read as a FETCH is one of the whole grammar, and one that is not is none there.
use Rattle.std.proofs.Common.{◌≡◌, ◌⊎◌, ℕ, ◌<◌, Bool, true, false, List, [], ◌∷◌, ◌++◌, take, drop, codes, Some, None, Ok, Err, refl, sym, ap, subst, ◌∙◌, inl, inr, arith}
use Rattle.std.specs.Prelude.{◌==◌, nat_lt}
use Rattle.std.specs.Global.{Vec}
use Rattle.std.specs.Char.{to_ascii_lowercase}
use Rattle.std.proofs.lemmas.Bool.{eqb-true, and_parts, ltb-true}
use Rattle.std.proofs.lemmas.List.{take-append-drop}
use Rattle.imap_grammar.specs.declared.answer.Err.{Err as Fault}
use Rattle.imap_grammar.specs.declared.answer.Err.TheVariants.{Incomplete, Error, Failure}
use Rattle.imap_grammar.specs.declared.answer.Needed.TheVariants.{Unknown}
use Rattle.imap_grammar.specs.Answer.{Answers, Returned, Stops, Refuses}
use Rattle.imap_grammar.specs.Classes.{is_digit}
use Rattle.imap_grammar.specs.Meaning.{differs, is_begun}
use Rattle.imap_grammar.specs.Rule.{Rule, meaning, tag_by, gives, ◌⨾◌, ◌or◌}
use Rattle.imap_grammar.specs.Starts.{may_start}
use Rattle.imap_grammar.specs.Step.{Step, step, ◌>>=◌, and_then}
use Rattle.imap_grammar.specs.Tags.{same_letter, tag, word, crlf}
use Rattle.imap_grammar.specs.Text.{Bytes}
use Rattle.imap_grammar.proofs.Agreement.{agrees, answered}
use Rattle.imap_grammar.proofs.Starts.{denied, waited}
use Rattle.imap_grammar.proofs.Yields.{Yields, either_yields, made_yields}
use Rattle.imap_bytes.specs.Numbers.{number, digits}
use Rattle.imap_grammar.specs.declared.at.span.Span.{Span}
use Rattle.imap_body_types.specs.declared.spans.SpannedText.{SpannedText}
use Rattle.imap_body.specs.declared.spanned_attribute.SpannedAttribute.{SpannedAttribute}
use Rattle.imap_body.specs.SpannedAttributes.{Stands}
use Rattle.imap_data.specs.MailboxData.{exists, recent}
use Rattle.imap_data.specs.Annotations.{metadata_solicited, metadata_unsolicited}
use Rattle.imap_shared.specs.Capabilities.{capability_data, enabled_data}
use Rattle.imap_shared.specs.Statuses.{status}
use Rattle.imap_proto.specs.Responses.{ResponseValue, Capabilities, Fetch, MailboxData, IsFetch, fetch_in, response_value}
use Rattle.imap_proto.specs.declared.response.Response.{Response}
use Rattle.imap_proto.specs.declared.kept.KeptFetch.{KeptFetch}
use Rattle.imap_proto.specs.Kept.{Keeps, attributes_of, without_value}
use Rattle.imap_proto.specs.Lines.{continuation, status_data, vanished_data, expunge, fetched, fetch, state_datum, extension_datum, datum, spaces, ended, ended_datum, numbered_line, data_line, fetch_line, tagged, response}
use Rattle.imap_proto.proofs.FirstBytes.{response_star, datum_of_number}

-- ---- what yields no FETCH

abbrev NoFetch : ResponseValue → Type 0
NoFetch v = ¬ (IsFetch v)

no_continuation : Yields NoFetch continuation
unfolding continuation
no_continuation = made_yields _ (λ x h. h)

no_tagged : Yields NoFetch tagged
unfolding tagged
no_tagged = made_yields _ (λ x h. h)

no_status : Yields NoFetch status_data
unfolding status_data
no_status = made_yields _ (λ x h. h)

no_expunge : Yields NoFetch expunge
unfolding expunge
no_expunge = made_yields _ (λ x h. h)

no_vanished : Yields NoFetch vanished_data
unfolding vanished_data
no_vanished = made_yields _ (λ x h. h)

no_extension : Yields NoFetch extension_datum
unfolding extension_datum
no_extension =
    either_yields no_vanished
    (either_yields (made_yields _ (λ x h. h))
    (either_yields (made_yields _ (λ x h. h))
    (either_yields (made_yields _ (λ x h. h))
    (either_yields (made_yields _ (λ x h. h))
    (either_yields (made_yields _ (λ x h. h)) (made_yields _ (λ x h. h)))))))

-- of the alternatives only FETCH yields one
datum_fetched : (m : Bytes) (v : ResponseValue) (rest : Bytes) → (meaning datum).yields m v rest → IsFetch v → (meaning fetch).yields m v rest
unfolding meaning datum state_datum
datum_fetched m v rest y is = elim y [
  | inl state ↦ elim state [
    | inl a ↦ absurd (no_status.each m v rest a is)
    | inr a ↦ elim (a.1) [
      | inl b ↦ absurd (subst NoFetch b.2 (λ h. h) is)
      | inr b ↦ elim (b.1) [
        | inl c ↦ absurd (no_expunge.each m v rest c is)
        | inr c ↦ elim (c.1) [
          | inl d ↦ d
          | inr d ↦ absurd (later.each m v rest d.1 is)
        ]
      ]
    ]
  ]
  | inr extension ↦ absurd (no_extension.each m v rest extension.1 is)
]
  where
    later : Yields NoFetch (gives Capabilities capability_data or gives Capabilities enabled_data or gives MailboxData metadata_solicited or gives MailboxData metadata_unsolicited)
    later = either_yields (made_yields _ (λ x h. h)) (either_yields (made_yields _ (λ x h. h)) (either_yields (made_yields _ (λ x h. h)) (made_yields _ (λ x h. h))))

line_fetched : (m : Bytes) (v : ResponseValue) (rest : Bytes) → (meaning data_line).yields m v rest → IsFetch v → (meaning fetch_line).yields m v rest
unfolding meaning data_line ended_datum fetch_line
line_fetched m v rest y is =
    let inside = y.1.2 in
    let said : inside.0.0 ≡ v = inside.2 ∙ y.2 in
    let found = datum_fetched y.1.0 inside.0.0 inside.1.0 inside.1.1 (subst IsFetch (sym said) is) in
    (y.0, (y.1.0, y.1.1, (inside.0, (inside.1.0, found, inside.1.2), inside.2)), y.2)

-- where the grammar yields a FETCH, the line of one yields it
pub response_fetched : (m : Bytes) (v : ResponseValue) (rest : Bytes) → (meaning response).yields m v rest → IsFetch v → (meaning fetch_line).yields m v rest
unfolding meaning response
response_fetched m v rest y is = elim y [
  | inl a ↦ absurd (no_continuation.each m v rest a is)
  | inr a ↦ elim (a.1) [
    | inl b ↦ line_fetched m v rest b is
    | inr b ↦ absurd (no_tagged.each m v rest b.1 is)
  ]
]

-- ---- a line of a FETCH that is not denied decides

-- denied, or the other answers the same
abbrev pub Decides : {V : Type 0} → Step V → Step V → Type 0
Decides s t = (s ≡ Err Error) ⊎ (t ≡ s)

-- behind the same front
behind_decides : {A V : Type 0} (s : Step A) (x y : List ℕ → Step V) → ((k : List ℕ) → Decides (x k) (y k)) → Decides (and_then s x >>= λ (v : List ℕ × (A × V)). Ok (v.0, v.1.1)) (and_then s y >>= λ (v : List ℕ × (A × V)). Ok (v.0, v.1.1))
behind_decides (Ok a) x y each = elim (each a.0) [ inl e ↦ inl (rw e refl) | inr e ↦ inr (rw e refl) ]
behind_decides (Err e) x y each = inr refl

-- in front of the same end
ended_decides : {A V : Type 0} (s t : Step V) (close : List ℕ → Step A) → Decides s t → Decides (and_then s close >>= λ (v : List ℕ × (V × A)). Ok (v.0, v.1.0)) (and_then t close >>= λ (v : List ℕ × (V × A)). Ok (v.0, v.1.0))
ended_decides s t close (inl e) = inl (rw e refl)
ended_decides s t close (inr e) = inr (rw e refl)

-- the words behind the number: all wait, or FETCH is denied, or the others are
abbrev pub Apart : List ℕ → Type 0
Apart k =
    (step (word " FETCH ") k ≡ Err Error)
    ⊎ ((step (word " EXISTS") k ≡ Err Error) × (step (word " RECENT") k ≡ Err Error) × (step (word " EXPUNGE") k ≡ Err Error))
    ⊎ ((step (word " FETCH ") k ≡ Err (Incomplete Unknown)) × (step (word " EXISTS") k ≡ Err (Incomplete Unknown)))

pub word_denied : (w k : List ℕ) → differs same_letter w k ≡ true → step (tag_by same_letter w) k ≡ Err Error
unfolding meaning
word_denied w k h = (agrees (tag_by same_letter w) k).fails Error h

pub word_waits : (w k : List ℕ) → is_begun same_letter w k ≡ true → step (tag_by same_letter w) k ≡ Err (Incomplete Unknown)
unfolding meaning
word_waits w k h = (agrees (tag_by same_letter w) k).fails (Incomplete Unknown) h

-- a byte that is an F in any case is no other letter
pub no_letter : (x d : ℕ) → same_letter 70 d ≡ true → (to_ascii_lowercase x == 102) ≡ false → same_letter x d ≡ false
no_letter x d f other = let lower : 102 ≡ to_ascii_lowercase d = eqb-true _ _ f in rw (← lower) other

second_apart : (c d : ℕ) (k : List ℕ) (t : Bool) → same_letter 32 c ≡ true → same_letter 70 d ≡ t → Apart (c ∷ d ∷ k)
second_apart c d k false space f = inl (word_denied (codes " FETCH ") (c ∷ d ∷ k) (rw (space, f) refl))
second_apart c d k true space f =
    let e : same_letter 69 d ≡ false = no_letter 69 d f refl in
    let r : same_letter 82 d ≡ false = no_letter 82 d f refl in
    inr (inl (word_denied (codes " EXISTS") (c ∷ d ∷ k) (rw (space, e) refl), word_denied (codes " RECENT") (c ∷ d ∷ k) (rw (space, r) refl), word_denied (codes " EXPUNGE") (c ∷ d ∷ k) (rw (space, e) refl)))

first_apart : (c : ℕ) (k : List ℕ) (t : Bool) → same_letter 32 c ≡ t → Apart (c ∷ k)
first_apart c k false space = inl (word_denied (codes " FETCH ") (c ∷ k) (rw space refl))
first_apart c [] true space = inr (inr (word_waits (codes " FETCH ") (c ∷ []) (rw space refl), word_waits (codes " EXISTS") (c ∷ []) (rw space refl)))
first_apart c (d ∷ k) true space = second_apart c d k (same_letter 70 d) space refl

pub words_apart : (k : List ℕ) → Apart k
words_apart [] = inr (inr (word_waits (codes " FETCH ") [] refl, word_waits (codes " EXISTS") [] refl))
words_apart (c ∷ k) = first_apart c k (same_letter 32 c) refl

-- FETCH and the data whose number stands in front
abbrev pub numbered : Rule ResponseValue
numbered = gives MailboxData (exists or recent) or expunge or fetch

behind_number : (k : List ℕ) (n : ℕ) (s : Step ℕ) → s ≡ Ok (k, n) → Apart k → (m : List ℕ) → step number m ≡ s → Decides (step fetch m) (step numbered m)
unfolding exists recent expunge fetch fetched
behind_number k n s is (inl f) m e = inl (rw (e, is, f) refl)
behind_number k n s is (inr (inl other)) m e = inr (rw (e, is, other.0, other.1, other.2) refl)
behind_number k n s is (inr (inr both)) m e = inr (rw (e, is, both.0, both.1) refl)

number_stopped : (e : Fault) (m : List ℕ) → step number m ≡ Err e → Decides (step fetch m) (step numbered m)
unfolding exists recent expunge fetch
number_stopped Error m e = inl (rw e refl)
number_stopped (Incomplete n) m e = inr (rw e refl)
number_stopped Failure m e = inr (rw e refl)

fetch_decides : (m : List ℕ) → Decides (step fetch m) (step numbered m)
fetch_decides m = go (step number m) refl
  where
    go : (s : Step ℕ) → step number m ≡ s → Decides (step fetch m) (step numbered m)
    go (Ok x) e = behind_number x.0 x.1 (Ok x) refl (words_apart x.0) m e
    go (Err e) f = number_stopped e m f

no_digit : (b : ℕ) → is_digit b ≡ false → may_start (ended fetch) b ≡ false
unfolding fetch number digits
no_digit b h = h

no_star : (b : ℕ) → (42 == b) ≡ false → may_start fetch_line b ≡ false
unfolding fetch_line
no_star b h = h

-- the same with the end of the line
digit_decides : (b : ℕ) (m : List ℕ) (t : Bool) → is_digit b ≡ t → Decides (step (ended fetch) (b ∷ m)) (step ended_datum (b ∷ m))
unfolding numbered_line
digit_decides b m false out = inl (denied (ended fetch) b m (no_digit b out))
digit_decides b m true digit =
    let small : b < 256 = (let p = and_parts (nat_lt 47 b) (nat_lt b 58) digit in omega (arith, ltb-true b 58 p.1)) in
    let same = datum_of_number (b ∷ m) small digit in
    elim (ended_decides (step fetch (b ∷ m)) (step numbered (b ∷ m)) (step (spaces ⨾ crlf)) (fetch_decides (b ∷ m))) [ inl e ↦ inl e | inr e ↦ inr (same ∙ e) ]

datum_decides : (m : List ℕ) → Decides (step (ended fetch) m) (step ended_datum m)
unfolding ended_datum datum state_datum status_data status fetch number digits
datum_decides [] = inr (waited ended_datum refl ∙ sym (waited (ended fetch) refl))
datum_decides (b ∷ m) = digit_decides b m (is_digit b) refl

data_decides : (m : List ℕ) → Decides (step fetch_line m) (step data_line m)
unfolding fetch_line data_line
data_decides m = behind_decides (step (tag "* ") m) (step (ended fetch)) (step ended_datum) datum_decides

star_decides : (b : ℕ) (m : List ℕ) (t : Bool) → (42 == b) ≡ t → Decides (step fetch_line (b ∷ m)) (step response (b ∷ m))
star_decides b m false out = inl (denied fetch_line b m (no_star b out))
star_decides b m true star =
    let is : 42 ≡ b = eqb-true 42 b star in
    let same = response_star (b ∷ m) (ap (λ x. Some x) (sym is)) in
    elim (data_decides (b ∷ m)) [ inl e ↦ inl e | inr e ↦ inr (same ∙ e) ]

pub response_decides : (m : List ℕ) → Decides (step fetch_line m) (step response m)
unfolding response continuation fetch_line
response_decides [] = inr (waited response refl ∙ sym (waited fetch_line refl))
response_decides (b ∷ m) = star_decides b m (42 == b) refl

-- ---- what is kept

pub refuses : (e : Fault) (m : Bytes) → Stops e (step response m) → Refuses (meaning response) m e
unfolding Answers
refuses e m g =
    let itself : ResponseValue → ResponseValue = λ x. x in
    answered response itself m (Err e) g

-- a fault of the line that is no denial is the whole grammar's
pub line_stops : (e : Fault) (m : Bytes) → ¬ (e ≡ Error) → Stops e (step fetch_line m) → Stops e (step response m)
line_stops Error m other g = absurd (other refl)
line_stops (Incomplete n) m other g = elim (response_decides m) [ inl e ↦ absurd (let both = sym g ∙ e in cc) | inr same ↦ same ∙ g ]
line_stops Failure m other g = tt

pub line_refuses : (e : Fault) (m : Bytes) → ¬ (e ≡ Error) → Stops e (step fetch_line m) → Refuses (meaning response) m e
line_refuses e m other g = refuses e m (line_stops e m other g)

-- where the line is denied, no response is a FETCH
pub line_denied : (m : Bytes) (v : ResponseValue) (rest : Bytes) → step fetch_line m ≡ Err Error → (meaning response).yields m v rest → ¬ (IsFetch v)
line_denied m v rest out y is = let both = sym out ∙ (agrees fetch_line m).yields v rest (response_fetched m v rest y is) in cc

pub none_kept : (m : Bytes) (r : Returned Response) → step fetch_line m ≡ Err Error → Answers response response_value m r → without_value r ≡ Ok tt → Keeps m (Ok None)
unfolding Answers
none_kept m (Ok x) out h is = (response_value x.1, x.0.now, h, line_denied m (response_value x.1) x.0.now out h)
none_kept m (Err e) out h is = absurd cc

pub fault_kept : (m : Bytes) (r : Returned Response) (e : Fault) → Answers response response_value m r → without_value r ≡ Err e → Refuses (meaning response) m e
unfolding Answers
fault_kept m (Ok x) e h is = absurd cc
fault_kept m (Err d) e h is = let same : d ≡ e = cc in subst (Refuses (meaning response) m) same h

pub kept : (m : Bytes) (q : ℕ) (x : ℕ × Vec (SpannedAttribute SpannedText Span)) (k : KeptFetch) → step fetch_line m ≡ Ok (drop q m, fetch_in m x) → Stands fetch_in q x → k.bytes.items ≡ take q m → k.number ≡ x.0 → k.attributes ≡ x.1 → Keeps m (Ok (Some k))
kept m q x k reads rests same_bytes same_number same_attributes =
    let says : fetch_in m x ≡ Fetch k.number (attributes_of k) = sym (rests.same m) ∙ rw (same_bytes, same_number, same_attributes) refl in (
      drop q m,
      sym (take-append-drop q m) ∙ ap (λ front. front ++ drop q m) (sym same_bytes),
      subst (λ v. (meaning response).yields m v (drop q m)) says (elim (response_decides m) [ inl e ↦ absurd (let both = sym reads ∙ e in cc) | inr same ↦ (agrees response m).yielded (fetch_in m x) (drop q m) (same ∙ reads) ]),
    )
