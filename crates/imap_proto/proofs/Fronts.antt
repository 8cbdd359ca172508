-- Fronts of feeds, where a FETCH is kept.
use Rattle.std.proofs.Common.{◌≡◌, ℕ, ◌-◌, ◌<◌, Bool, true, false, [], ◌∷◌, ◌++◌, length, take, drop, codes, Option, None, Some, Result, Ok, Err, refl, sym, ap, subst, ◌∙◌, inl, inr, arith}
use Rattle.std.specs.Prelude.{IfOk, IfSome, MatchResult, nat_lt, slice_get}
use Rattle.std.specs.Global.{Vec}
use Rattle.std.proofs.lemmas.List.{length-append, length-drop, length-take}
use Rattle.std.proofs.lemmas.Bool.{and_parts, ltb-true}
use Rattle.imap_grammar.specs.declared.answer.Err.{Err as Fault}
use Rattle.imap_grammar.specs.declared.answer.Err.TheVariants.{Incomplete, Error, Failure}
use Rattle.imap_grammar.specs.Classes.{is_digit}
use Rattle.imap_grammar.specs.Memory.{BeginsWord, FailsOnlyIf}
use Rattle.imap_grammar.specs.Rule.{meaning, ◌⨾◌}
use Rattle.imap_grammar.specs.Step.{step, ◌>>=◌, and_then, beside}
use Rattle.imap_grammar.specs.Tags.{tag, word, crlf}
use Rattle.imap_grammar.specs.Text.{Bytes}
use Rattle.imap_grammar.proofs.Agreement.{agrees, reads}
use Rattle.imap_grammar.proofs.ReadingWords.{exact}
use Rattle.imap_grammar.specs.declared.at.span.Span.{Span}
use Rattle.imap_body_types.specs.declared.spans.SpannedText.{SpannedText}
use Rattle.imap_body.specs.declared.spanned_attribute.SpannedAttribute.{SpannedAttribute}
use Rattle.imap_body.specs.SpannedAttributes.{Stands}
use Rattle.imap_grammar.proofs.Starts.{denied, waited}
use Rattle.imap_grammar.proofs.Yields.{Yields, made_yields, right_yields, left_yields}
use Rattle.imap_bytes.specs.Numbers.{number, digits}
use Rattle.imap_data.specs.MailboxData.{exists, recent}
use Rattle.imap_proto.specs.declared.kept.Front.{Front}
use Rattle.imap_proto.specs.declared.kept.Front.TheVariants as front
use Rattle.imap_proto.specs.declared.kept.KeptFetch.{KeptFetch}
use Rattle.imap_proto.specs.declared.response.Response.{Response}
use Rattle.imap_proto.specs.declared.stream.FeedError.{FeedError}
use Rattle.imap_proto.specs.Responses.{ResponseValue, Fetch, fetch_in}
use Rattle.imap_proto.specs.Feeds.{IsOwnedFront, IsFront, Settles, IsGivenFreely, FeedMayWant}
use Rattle.imap_proto.specs.Fronts.{FrontSays, IsKeptFront, GaveFront, HasGivenFront, PassesFront, BeginsFetch}
use Rattle.imap_proto.specs.Kept.{attributes_of}
use Rattle.imap_proto.specs.Memory.{MayWantMemory, TakesNone}
use Rattle.imap_proto.specs.Lines.{expunge, fetched, fetch, fetch_of, spaces, ended, ended_datum, numbered_line, data_line, fetch_line, response}
use Rattle.imap_proto.specs.Skipping.{Taken, passed}
use Rattle.imap_proto.specs.Streams.{gave}
use Rattle.imap_proto.proofs.Feeds.{left_behind, waiting}
use Rattle.imap_proto.proofs.Fetching.{kept, numbered, words_apart, line_denied, response_decides}
use Rattle.imap_proto.proofs.FirstBytes.{response_star, datum_of_number}
use Rattle.imap_proto.proofs.Memory.{fetch_line_wants}
use Rattle.imap_proto.proofs.Skipping.{taken}
use Rattle.imap_proto.proofs.Streams.{shorter}

-- ---- behind ` FETCH ` stands a FETCH or no response

numbered_is_fetch : (m k j w : Bytes) (n : ℕ) → step number m ≡ Ok (k, n) → step (word " FETCH ") k ≡ Ok (j, w) → step numbered m ≡ step fetch m
unfolding exists recent expunge fetch fetched
numbered_is_fetch m k j w n is word_is = elim (words_apart k) [
  | inl f ↦ absurd (let both = sym word_is ∙ f in cc)
  | inr a ↦ elim a [ inl other ↦ rw (is, other.0, other.1, other.2) refl | inr wait ↦ absurd (let both = sym word_is ∙ wait.0 in cc) ]
]

no_number : (b : ℕ) (m k : Bytes) (n : ℕ) → is_digit b ≡ false → ¬ (step number (b ∷ m) ≡ Ok (k, n))
unfolding number digits
no_number b m k n out is = let both = sym is ∙ denied number b m out in cc

none_no_number : (k : Bytes) (n : ℕ) → ¬ (step number [] ≡ Ok (k, n))
unfolding number digits
none_no_number k n is = let both = sym is ∙ waited number refl in cc

datum_is_fetch : (m k j w : Bytes) (n : ℕ) → step number m ≡ Ok (k, n) → step (word " FETCH ") k ≡ Ok (j, w) → step ended_datum m ≡ step (ended fetch) m
unfolding numbered_line
datum_is_fetch [] k j w n is word_is = absurd (none_no_number k n is)
datum_is_fetch (b ∷ m) k j w n is word_is = go (is_digit b) refl
  where
    go : (t : Bool) → is_digit b ≡ t → step ended_datum (b ∷ m) ≡ step (ended fetch) (b ∷ m)
    go false out = absurd (no_number b m k n out is)
    go true digit =
        let small : b < 256 = (let p = and_parts (nat_lt 47 b) (nat_lt b 58) digit in omega (arith, ltb-true b 58 p.1)) in
        datum_of_number (b ∷ m) small digit
        ∙ ap (λ s. and_then s (step (spaces ⨾ crlf)) >>= λ (v : Bytes × (ResponseValue × (Bytes × Bytes))). Ok (v.0, v.1.0)) (numbered_is_fetch (b ∷ m) k j w n is word_is)

line_is_fetch : (m rest v : Bytes) → step (tag "* ") m ≡ Ok (rest, v) → step ended_datum rest ≡ step (ended fetch) rest → step data_line m ≡ step fetch_line m
unfolding data_line fetch_line
line_is_fetch m rest v is same = rw is (ap (λ s. (s >>= beside v) >>= λ (y : Bytes × (Bytes × ResponseValue)). Ok (y.0, y.1.1)) same)

-- ---- where no FETCH is given freely

fetch_takes : Yields (λ v. ¬ (TakesNone v)) fetch_line
unfolding fetch_line fetch
fetch_takes = right_yields (left_yields (made_yields fetch_of (λ v h. h)))

pub line_not_free : (m rest : Bytes) (v : ResponseValue) → step fetch_line m ≡ Ok (rest, v) → step response m ≡ step fetch_line m → ¬ (IsGivenFreely m)
line_not_free m rest v is same g = fetch_takes.each m g.0 g.1 ((agrees fetch_line m).yielded g.0 g.1 (sym same ∙ g.2)) g.3

-- a tag, a number and ` FETCH ` stand there, and so nothing is given freely
pub begins_fetch : (m a k v : Bytes) (n : ℕ) → step (tag "* ") m ≡ Ok (a, v) → step number a ≡ Ok (k, n) → BeginsWord " FETCH " k → BeginsFetch m
unfolding meaning
begins_fetch m a k v n tag_is number_is w = (w.0, w.1, ((v, w.0), (a, reads (tag "* ") m a v tag_is, ((n, w.0), (k, reads number a k n number_is, (w.2, w.3)), refl)), refl))

pub begins_not_free : (m : Bytes) → BeginsFetch m → ¬ (IsGivenFreely m)
unfolding meaning
begins_not_free m b g =
    let y = b.2 in
    let mid = y.1.0 in
    let behind = y.1.2 in
    let star = subst (λ k. slice_get k 0 ≡ Some 42) (sym (y.1.1.0 ∙ ap (λ (k : Bytes). k ++ mid) (sym (exact (codes "* ") y.0.0 y.1.1.1)))) refl in
    let tag_is = (agrees (tag "* ") m).yields y.0.0 mid y.1.1 in
    let number_is = (agrees number mid).yields behind.0.0 behind.1.0 behind.1.1 in
    let word_is = (agrees (word " FETCH ") behind.1.0).yields behind.0.1 b.1 behind.1.2 in
    let same = response_star m star ∙ line_is_fetch m mid y.0.0 tag_is (datum_is_fetch mid behind.1.0 b.1 behind.0.1 behind.0.0 number_is word_is) in
    fetch_takes.each m g.0 g.1 ((agrees fetch_line m).yielded g.0 g.1 (sym same ∙ g.2)) g.3

line_read : (m rest : Bytes) (v : ResponseValue) → step fetch_line m ≡ Ok (rest, v) → step response m ≡ step fetch_line m
line_read m rest v is = elim (response_decides m) [ inl e ↦ absurd (let both = sym is ∙ e in cc) | inr same ↦ same ]

-- where the bytes of a FETCH were not copied
pub uncopied_wants : (m rest : Bytes) (v : ResponseValue) → step fetch_line m ≡ Ok (rest, v) → FeedMayWant m
uncopied_wants m rest v is = (inl (fetch_line_wants m rest v is), line_not_free m rest v is (line_read m rest v is))

-- where its attributes were not kept
pub unkept_wants : (m : Bytes) → MayWantMemory m → BeginsFetch m → FeedMayWant m
unkept_wants m wants begins = (inl wants, begins_not_free m begins)

-- ---- what stands in front

pub fetch_front : (m : Bytes) (q n : ℕ) (x : ℕ × Vec (SpannedAttribute SpannedText Span)) (k : KeptFetch) → step fetch_line m ≡ Ok (drop q m, fetch_in m x) → Stands fetch_in q x → k.bytes.items ≡ take q m → k.number ≡ x.0 → k.attributes ≡ x.1 → n ≡ length (drop q m)
    → IsKeptFront m (Ok (n, front.Fetch k))
fetch_front m q n x k reads rests same_bytes same_number same_attributes behind =
    let keeps = kept m q x k reads rests same_bytes same_number same_attributes in
    let size : n ≡ length keeps.0 = omega (arith, behind, length-drop q m, ap length same_bytes, length-take q m, ap length keeps.1, length-append k.bytes.items keeps.0) in
    (Fetch k.number (attributes_of k), keeps.0, (agrees response m).yields (Fetch k.number (attributes_of k)) keeps.0 keeps.2, size, (refl, keeps.1))

pub other_is_front : (m : Bytes) (owned : Result (ℕ × Response) Fault) (result : Result (ℕ × Front) Fault) → step fetch_line m ≡ Err Error → IsOwnedFront m owned → MatchResult owned (λ x. result ≡ Ok (x.0, front.Other x.1)) (λ e. result ≡ Err e) → IsKeptFront m result
other_is_front m (Ok x) result out f same =
    subst (IsKeptFront m) (sym same) (f.0, f.1, f.2, f.3, (f.4, line_denied m f.0 f.1 out ((agrees response m).yielded f.0 f.1 f.2)))
other_is_front m (Err e) result out f same = subst (IsKeptFront m) (sym same) f

pub other_wants : (P : Type 0) (owned : Result (ℕ × Response) Fault) (result : Result (ℕ × Front) Fault) → FailsOnlyIf P owned → MatchResult owned (λ x. result ≡ Ok (x.0, front.Other x.1)) (λ e. result ≡ Err e) → FailsOnlyIf P result
other_wants P (Ok x) result h same = subst (FailsOnlyIf P) (sym same) tt
other_wants P (Err e) result h same = subst (FailsOnlyIf P) (sym same) h

-- ---- what a call of next_kept answers, by what stands in front

pub kept_is_front : (held : Bytes) (front : Result (ℕ × Front) Fault) → IsKeptFront held front → IsFront held front
kept_is_front held (Ok x) f = let lt = shorter held f.1 f.0 ((agrees response held).yielded f.0 f.1 f.2) in omega (arith, f.3, lt)
kept_is_front held (Err e) f = f

pub front_gives : (held left : Bytes) (front : Result (ℕ × Front) Fault) (answer : Result (Option Front) FeedError) → IsKeptFront held front → Settles held front answer left → IfOk answer (λ r. GaveFront held r left)
front_gives held left (Ok x) answer f s =
    let behind = s.1 ∙ ap (λ k. drop (length held - k) held) f.3 ∙ left_behind held held f.1 0 f.0 refl f.2 in
    let said = subst (λ k. (meaning response).yields held f.0 k × FrontSays held x.1 f.0 k) (sym behind) ((agrees response held).yielded f.0 f.1 f.2, f.4) in
    subst (λ a. IfOk a (λ r. GaveFront held r left)) (sym s.0) (f.0, said.0, said.1)
front_gives held left (Err (Incomplete n)) answer f s = subst (λ a. IfOk a (λ r. GaveFront held r left)) (sym s.0) (waiting held n f, s.1)
front_gives held left (Err Error) answer f s = subst (λ a. IfOk a (λ r. GaveFront held r left)) (sym s.0) tt
front_gives held left (Err Failure) answer f s = subst (λ a. IfOk a (λ r. GaveFront held r left)) (sym s.0) tt

pub front_more : (held left : Bytes) (answer : Result (Option Front) FeedError) → IfOk answer (λ r. GaveFront held r left) → IfOk answer (λ r. IfSome r (λ x. HasGivenFront held x left))
front_more held left (Ok (Some x)) g = λ pieces vs f. (g.0, g.2, gave pieces vs held g.0 left f g.1)
front_more held left (Ok None) g = tt
front_more held left (Err e) g = tt

pub front_passes : (held left : Bytes) (answer : Result (Option Front) FeedError) → IfOk answer (λ r. GaveFront held r left) → IfOk answer (λ r. IfSome r (λ x. PassesFront held x left))
front_passes held left (Ok (Some x)) g = λ pieces items p. (g.0, g.2, passed pieces items held (Taken g.0) left p (taken held g.0 left g.1))
front_passes held left (Ok None) g = tt
front_passes held left (Err e) g = tt

pub front_fewer : (held left : Bytes) (answer : Result (Option Front) FeedError) → IfOk answer (λ r. GaveFront held r left) → IfOk answer (λ r. IfSome r (λ x. length left < length held))
front_fewer held left (Ok (Some x)) g = shorter held left g.0 g.1
front_fewer held left (Ok None) g = tt
front_fewer held left (Err e) g = tt
