-- Responses for which no memory is taken, from their parts.
use Rattle.std.proofs.Common.{◌≡◌, ◌≢◌, ℕ, Bool, true, ◌&&◌, List, [], ◌∷◌, ◌++◌, length, Option, None, Some, Result, Ok, Err, refl, sym, ap, subst, ◌∙◌, inl, inr, append_assoc, arith}
use Prim.Native.String.{String}
use Rattle.std.specs.Prelude.{codes}
use Rattle.std.specs.Borrow.{Bor}
use Rattle.std.specs.Char.{to_ascii_lowercase, to_ascii_uppercase}
use Rattle.std.specs.List.{list_all}
use Rattle.std.specs.Str.{is_utf8}
use Rattle.std.specs.Str.Lossy.{utf8_lossy}
use Rattle.std.specs.declared.borrow.CowStr.{CowStr}
use Rattle.std.specs.declared.alloc.Global.{Global}
use Rattle.std.proofs.lemmas.Bool.{false≢true, and_parts, and_from, both_ways, not-true}
use Rattle.std.proofs.lemmas.Str.{IsUtf8-nil, IsUtf8-from_is_utf8, is_utf8-from_IsUtf8}
use Rattle.imap_grammar.specs.declared.answer.Err.{Err as Fault}
use Rattle.imap_grammar.specs.declared.answer.Err.TheVariants.{Incomplete, Error, Failure}
use Rattle.imap_grammar.specs.Answer.{Returned, Gives}
use Rattle.imap_grammar.specs.Classes.{is_text_char}
use Rattle.imap_grammar.specs.Lists.{tried_of}
use Rattle.imap_grammar.specs.Meaning.{is_word, begins, outside}
use Rattle.imap_grammar.specs.Memory.{BeginsWord, StartsWith, Behind, FailsOnlyIf, SucceedsFor}
use Rattle.imap_grammar.specs.Rule.{Rule, meaning, gives, nothing, opt, ◌⨾◌, ◌▹◌, ◌◃◌, ◌or◌}
use Rattle.imap_grammar.specs.Step.{step, ◌>>=◌, or_else, beside}
use Rattle.imap_grammar.specs.Tags.{tag, word, sp, maybe_space, crlf, same_letter}
use Rattle.imap_grammar.specs.Text.{Bytes, Text, text_of, decoded, IsOwned}
use Rattle.imap_grammar.proofs.Agreement.{agrees, reads, fails}
use Rattle.imap_grammar.proofs.Memory.{none_yielded, of_part, given, behind, before, second, wider, starts_with, tried_fails, wants_behind}
use Rattle.imap_grammar.proofs.Joins.{tried_none}
use Rattle.imap_grammar.proofs.ReadingWords.{exact, letter}
use Rattle.imap_grammar.proofs.Steps.{ok_is}
use Rattle.imap_grammar.proofs.Yields.{Yields, given_yields, made_yields, left_yields, either_yields}
use Rattle.imap_bytes.specs.Numbers.{number}
use Rattle.imap_bytes.specs.Texts.{text, YieldsOwned, FailsForOwned}
use Rattle.imap_bytes.proofs.ReadingTexts.{decoded_utf8}
use Rattle.imap_bytes.proofs.ReadingQuoted.{lossy_some}
use Rattle.imap_data.specs.declared.types.codes.ResponseCode.{ResponseCode}
use Rattle.imap_data.specs.Codes.{CodeValue, code_value, HoldsNoList, BeginsListWord, BeginsListCode, response_code}
use Rattle.imap_data.specs.MailboxData.{mailbox_datum, list_or_lsub}
use Rattle.imap_data.specs.DatumValues.{IsNumber}
use Rattle.imap_data.specs.declared.types.mailbox_data.MailboxDatum.{MailboxDatum}
use Rattle.imap_data.proofs.NumberData.{list_or_lsub_other, solicited_other, unsolicited_other}
use Rattle.imap_extensions.specs.Acls.{list_rights}
use Rattle.imap_extensions.specs.Ids.{IdTable, IsNil, id}
use Rattle.imap_shared.specs.declared.types.statuses.Status.{Status}
use Rattle.imap_shared.specs.Statuses.{status}
use Rattle.imap_proto.specs.declared.outcome.Outcome.{Outcome}
use Rattle.imap_data.proofs.ListCodes.{list_code_yielded}
use Rattle.imap_proto.specs.Outcomes.{outcome_of, outcome, plain_outcome, no_outcome, spaced_outcome}
use Rattle.imap_proto.specs.Responses.{OutcomeValue, ResponseValue, Capabilities, Continue, MailboxData, Quota, QuotaRoot, Id, Acl, ListRights, MyRights}
use Rattle.imap_proto.specs.Lines.{continuation, data_of, status_data, fetch_of, vanished_of, vanished_data, spaces, status_line, mailbox_line, list_line, capability_line, enabled_line, annotation_line, vanished_line, quota_line, id_line, acl_line, done_of, request_tag, tagged, fetched, fetch, fetched_line, fetch_line}
use Rattle.imap_proto.specs.Memory.{OutcomeTakesNone, TakesNone, OutcomeMayWant, ContinuationMayWant, StatusMayWant, TaggedMayWant, DatumMayWant, MayWantMemory}
use Rattle.imap_proto.specs.Kept.{without_value}

-- ---- a word of text-chars in front of a line stands in front of the line's text too

abbrev both_cases : ℕ → Bool
both_cases x = is_text_char (to_ascii_lowercase x) && is_text_char (to_ascii_uppercase (to_ascii_lowercase x))

either_case : (x b : ℕ) → both_cases x ≡ true → same_letter x b ≡ true → is_text_char b ≡ true
either_case x b both same =
    let parts = and_parts _ _ both in
    elim (letter x b same) [
      | inl e ↦ subst (λ c. is_text_char c ≡ true) (sym e) parts.0
      | inr e ↦ subst (λ c. is_text_char c ≡ true) (sym e) parts.1
    ]

in_run : (k : List ℕ) (front more v rest : Bytes) → front ++ more ≡ v ++ rest → is_word same_letter k front ≡ true → list_all both_cases k ≡ true → begins (outside is_text_char) rest ≡ true → (later : Bytes) × (v ≡ front ++ later)
in_run k [] more v rest e w all out = (v, refl)
in_run [] (b ∷ front) more v rest e w all out = absurd (false≢true w)
in_run (x ∷ k) (b ∷ front) more [] rest e w all out =
    let is = either_case x b (and_parts (both_cases x) (list_all both_cases k) all).0 (and_parts (same_letter x b) (is_word same_letter k front) w).0 in
    let o = subst (λ l. begins (outside is_text_char) l ≡ true) (sym e) out in
    absurd (both_ways (is_text_char b) (not-true _ o) is)
in_run (x ∷ k) (b ∷ front) more (c ∷ v) rest e w all out =
    let tail : front ++ more ≡ v ++ rest = cc in
    let y = in_run k front more v rest tail (and_parts (same_letter x b) (is_word same_letter k front) w).1 (and_parts (both_cases x) (list_all both_cases k) all).1 out in
    let same = y.1 in
    (y.0, cc)

word_in_text : (k : String) (v rest : Bytes) → list_all both_cases (codes k) ≡ true → begins (outside is_text_char) rest ≡ true → BeginsWord k (v ++ rest) → BeginsWord k v
word_in_text k v rest all out b = let y = in_run (codes k) b.0 b.1 v rest (sym b.2) b.3 all out in (b.0, y.0, y.1, b.3)

words_in_text : (v rest : Bytes) → begins (outside is_text_char) rest ≡ true → BeginsListWord (v ++ rest) → BeginsListWord v
words_in_text v rest out (inl b) = inl (word_in_text "APPENDUID " v rest refl out b)
words_in_text v rest out (inr (inl b)) = inr (inl (word_in_text "BADCHARSET " v rest refl out b))
words_in_text v rest out (inr (inr (inl b))) = inr (inr (inl (word_in_text "CAPABILITY" v rest refl out b)))
words_in_text v rest out (inr (inr (inr (inl b)))) = inr (inr (inr (inl (word_in_text "COPYUID " v rest refl out b))))
words_in_text v rest out (inr (inr (inr (inr b)))) = inr (inr (inr (inr (word_in_text "PERMANENTFLAGS " v rest refl out b))))

code_in_text : (v rest : Bytes) → begins (outside is_text_char) rest ≡ true → BeginsListCode (v ++ rest) → BeginsListCode v
code_in_text [] rest out b = let o = subst (λ l. begins (outside is_text_char) l ≡ true) b.1 out in absurd (false≢true o)
code_in_text (c ∷ v) rest out b =
    let head : c ≡ 91 = cc in
    let tail : v ++ rest ≡ b.0 = cc in
    (v, ap (λ x. x ∷ v) head, words_in_text v rest out (subst BeginsListWord (sym tail) b.2))

no_code_in_none : BeginsListCode [] → ⊥
no_code_in_none b = let e = b.1 in cc

-- ---- the text of an outcome

-- what decodes to no text is none
nothing_decoded : (raw : Bytes) → utf8_lossy raw ≡ [] → raw ≡ []
nothing_decoded [] e = refl
nothing_decoded (c ∷ raw) e =
    let some = lossy_some (c ∷ raw) (omega arith) in
    let none : length (utf8_lossy (c ∷ raw)) ≡ 0 = ap length e in
    absurd (omega (arith, some, none))

abbrev text_with : Bytes → Bool → Text
text_with u b = record { bytes = u; borrowed = b }

bytes_same : (raw u : Bytes) (b : Bool) → decoded raw ≡ text_with u b → utf8_lossy raw ≡ u
bytes_same raw u b e = ap (λ (t : Text). t.bytes) e

mark_same : (raw u : Bytes) (b : Bool) → decoded raw ≡ text_with u b → is_utf8 raw ≡ b
mark_same raw u b e = ap (λ (t : Text). t.borrowed) e

lent_of : (k : Option CodeValue) (raw u : Bytes) (b : Bool) → decoded raw ≡ text_with u b → OutcomeTakesNone (outcome_of (k, text_with u b)) → b ≡ true
lent_of k raw [] b e h = sym (mark_same raw [] b e) ∙ subst (λ l. is_utf8 l ≡ true) (sym (nothing_decoded raw (bytes_same raw [] b e))) (is_utf8-from_IsUtf8 [] IsUtf8-nil)
lent_of None raw (x ∷ u) b e h = h.0
lent_of (Some c) raw (x ∷ u) b e h = h.1

no_list : (c : CodeValue) (u : Bytes) (b : Bool) → OutcomeTakesNone (outcome_of (Some c, text_with u b)) → HoldsNoList c
no_list c [] b h = h
no_list c (x ∷ u) b h = h.0

no_list_code : (raw u rest : Bytes) (b : Bool) → decoded raw ≡ text_with u b → begins (outside is_text_char) rest ≡ true → OutcomeTakesNone (outcome_of (None, text_with u b)) → BeginsListCode (raw ++ rest) → ⊥
no_list_code raw [] rest b e out h c = no_code_in_none (subst BeginsListCode (nothing_decoded raw (bytes_same raw [] b e)) (code_in_text raw rest out c))
no_list_code raw (x ∷ u) rest b e out h c =
    let utf8 = IsUtf8-from_is_utf8 raw (mark_same raw (x ∷ u) b e ∙ h.0) in
    let same : raw ≡ x ∷ u = ap (λ (t : Text). t.bytes) (sym (decoded_utf8 raw utf8) ∙ e) in
    h.1 (subst BeginsListCode same (code_in_text raw rest out c))

lent_yielded : (k : Option CodeValue) (m : Bytes) (t : Text) (rest : Bytes) → (meaning text).yields m t rest → OutcomeTakesNone (outcome_of (k, t)) → t.borrowed ≡ true
unfolding meaning text
lent_yielded k m t rest y h = lent_of k y.0 t.bytes t.borrowed y.2 h

-- where the word of a code that may hold a list stands in front
listed_parts : (m mid rest : Bytes) (k : Option CodeValue) (t : Text) → BeginsListCode m → (meaning (opt response_code)).yields m k mid → (meaning text).yields mid t rest → OutcomeTakesNone (outcome_of (k, t)) → ⊥
unfolding meaning text
listed_parts m mid rest k t b (inl y) z h =
    list_code_yielded m mid y.0 b ((agrees response_code m).yields y.0 mid y.1) (no_list y.0 t.bytes t.borrowed (subst (λ o. OutcomeTakesNone (outcome_of (o, t))) (sym y.2) h))
listed_parts m mid rest k t b (inr y) z h =
    no_list_code z.0 t.bytes rest t.borrowed z.2 z.1.2 (subst (λ o. OutcomeTakesNone (outcome_of (o, t))) (sym y.1.0) h) (subst BeginsListCode (y.1.1 ∙ z.1.0) b)

listed : (m rest : Bytes) (o : OutcomeValue) → BeginsListCode m → step outcome m ≡ Ok (rest, o) → OutcomeTakesNone o → ⊥
unfolding meaning outcome
listed m rest o b is h =
    let y = reads outcome m rest o is in
    listed_parts m y.1.0 rest y.0.0 y.0.1 b y.1.1 y.1.2 (subst OutcomeTakesNone (sym y.2) h)

-- ---- outcomes

-- the code's reader denied
pub code_missing : (m : Bytes) (code : Returned ResponseCode) (o : Option (Bor Bytes × ResponseCode)) → tried_of code ≡ Ok o → o ≡ None → Gives code_value code (step response_code m) → step (opt response_code) m ≡ Ok (m, None)
code_missing m code o was none g =
    let denied : step response_code m ≡ Err Error = subst (λ r. Gives code_value r (step response_code m)) (tried_none code o was none) g in
    rw denied refl

-- it failed, and did not deny
pub code_stopped : {A : Type 0} (m : Bytes) (e : Fault) (code : Returned ResponseCode) (result : Returned A) → code ≡ Err e → e ≢ Error → Gives code_value code (step response_code m) → FailsOnlyIf (BeginsListCode m) code
    → SucceedsFor OutcomeTakesNone outcome m result
unfolding outcome
code_stopped m e (Ok x) result is other g f = absurd cc
code_stopped m e (Err Error) result is other g f = absurd (other cc)
code_stopped m e (Err (Incomplete n)) result is other g f = none_yielded OutcomeTakesNone outcome m (Incomplete n) result (rw g refl)
code_stopped m e (Err Failure) result is other g f = λ v rest y h. absurd (listed m rest v (f refl) y h)

text_taken : (k : Option CodeValue) (m : Bytes) (result : Returned (CowStr Global)) → Gives text_of result (step text m) → FailsForOwned IsOwned text m result → SucceedsFor (λ t. OutcomeTakesNone (outcome_of (k, t))) text m result
text_taken k m (Ok x) g f = λ v rest is h. refl
text_taken k m (Err Error) g f = λ v rest is h. absurd cc
text_taken k m (Err (Incomplete n)) g f = λ v rest is h. absurd cc
text_taken k m (Err Failure) g f = λ v rest is h.
    let o = f refl in
    let same : v ≡ o.0 = ap (λ p. p.1) (ok_is _ _ (sym is ∙ o.2)) in
    let lent = lent_yielded k m v rest (reads text m rest v is) h in
    absurd (false≢true (sym o.3 ∙ ap (λ (t : Text). t.borrowed) (sym same) ∙ lent))

-- the text's reader failed, behind whatever stands in front
text_behind : {A : Type 0} (front : Rule (Option CodeValue)) (m mid : Bytes) (k : Option CodeValue) (e : Fault) (part : Returned (CowStr Global)) (result : Returned A) → step front m ≡ Ok (mid, k) → part ≡ Err e → Gives text_of part (step text mid) → FailsForOwned IsOwned text mid part
    → SucceedsFor OutcomeTakesNone (gives outcome_of (front ⨾ text)) m result
text_behind front m mid k e part result here was g f =
    given OutcomeTakesNone outcome_of (front ⨾ text) m result
    (second (λ v. OutcomeTakesNone (outcome_of v)) front text m mid k result here
    (of_part (λ t. OutcomeTakesNone (outcome_of (k, t))) text mid e part result was (text_taken k mid part g f)))

pub text_stopped : {A : Type 0} (m mid : Bytes) (k : Option CodeValue) (e : Fault) (part : Returned (CowStr Global)) (result : Returned A) → step (opt response_code) m ≡ Ok (mid, k) → part ≡ Err e → Gives text_of part (step text mid) → FailsForOwned IsOwned text mid part
    → SucceedsFor OutcomeTakesNone outcome m result
unfolding outcome
text_stopped m mid k e part result front was g f = text_behind (opt response_code) m mid k e part result front was g f

pub plain_stopped : {A : Type 0} (m : Bytes) (e : Fault) (part : Returned (CowStr Global)) (result : Returned A) → part ≡ Err e → Gives text_of part (step text m) → FailsForOwned IsOwned text m part
    → SucceedsFor OutcomeTakesNone plain_outcome m result
unfolding plain_outcome
plain_stopped m e part result was g f = text_behind (nothing None) m m None e part result refl was g f

-- where no code was read, an outcome is a plain one
pub uncoded : (m : Bytes) → step (opt response_code) m ≡ Ok (m, None) → step outcome m ≡ step plain_outcome m
unfolding outcome plain_outcome
uncoded m none = rw none refl

never_denied : (m : Bytes) → step outcome m ≡ Err Error → ⊥
unfolding meaning outcome text
never_denied m h = elim (fails outcome m Error h) [
  | inl code ↦ elim code [
    | inl f ↦ f.1 refl
    | inr f ↦ f.1
  ]
  | inr f ↦ f.3
]

-- behind a space there is always an outcome
pub spaced_is : (m rest x : Bytes) → step sp m ≡ Ok (rest, x) → step spaced_outcome m ≡ step outcome rest
unfolding spaced_outcome
spaced_is m rest x is = rw is (joined (step outcome rest) (never_denied rest))
  where
    joined : (s : Result (Bytes × OutcomeValue) Fault) → (s ≡ Err Error → ⊥) → or_else ((s >>= beside x) >>= λ y. Ok (y.0, y.1.1)) (Ok (m, no_outcome)) ≡ s
    joined (Ok y) d = refl
    joined (Err Error) d = absurd (d refl)
    joined (Err (Incomplete n)) d = refl
    joined (Err Failure) d = refl

pub behind_space : {A : Type 0} (m rest x : Bytes) (result : Returned A) → step sp m ≡ Ok (rest, x) → SucceedsFor OutcomeTakesNone outcome rest result → SucceedsFor OutcomeTakesNone spaced_outcome m result
behind_space m rest x result is h = λ v end y k. h v end (sym (spaced_is m rest x is) ∙ y) k

-- ---- continuations

-- the reader of the outcome failed
pub continuation_failed : {A : Type 0} (m a b x : Bytes) (y : Option Bytes) (e : Fault) (part : Returned Outcome) (result : Returned A) → step (tag "+") m ≡ Ok (a, x) → step maybe_space a ≡ Ok (b, y) → part ≡ Err e → SucceedsFor OutcomeTakesNone outcome b part → SucceedsFor TakesNone continuation m result
unfolding continuation
continuation_failed m a b x y e part result is then was h =
    given TakesNone Continue (tag "+" ▹ maybe_space ▹ outcome ◃ crlf) m result
    (behind (λ o. TakesNone (Continue o)) (tag "+") (maybe_space ▹ outcome ◃ crlf) m a x result is
    (behind (λ o. TakesNone (Continue o)) maybe_space (outcome ◃ crlf) a b y result then
    (before (λ o. TakesNone (Continue o)) outcome crlf b result (of_part OutcomeTakesNone outcome b e part result was h))))

-- ---- data

-- a reader's answer, of which no more is said than its fault
abbrev pub failed : Fault → Returned (Unit {0})
failed e = Err e

pub mailbox_failed : (m : Bytes) (e : Fault) (part : Returned MailboxDatum) → part ≡ Err e → SucceedsFor IsNumber mailbox_datum m part → SucceedsFor TakesNone mailbox_line m (failed e)
unfolding mailbox_line
mailbox_failed m e part was h =
    before TakesNone (gives MailboxData mailbox_datum) (spaces ⨾ crlf) m (failed e)
    (given TakesNone MailboxData mailbox_datum m (failed e) (of_part IsNumber mailbox_datum m e part (failed e) was h))

-- of two alternatives the second yields none of the kind
first_of : {A : Type 0} (a b : Rule ResponseValue) (m : Bytes) (result : Returned A) → SucceedsFor TakesNone a m result → Yields (λ v. ¬ (TakesNone v)) b → SucceedsFor TakesNone (a or b) m result
unfolding meaning
first_of a b m result h none = λ v rest is k. elim (reads (a or b) m rest v is) [
  | inl y ↦ h v rest ((agrees a m).yields v rest y) k
  | inr y ↦ absurd (none.each m v rest y.1 k)
]

pub list_failed : (m : Bytes) (e : Fault) → SucceedsFor TakesNone list_line m (failed e)
unfolding list_line
list_failed m e =
    before TakesNone (gives MailboxData list_or_lsub or gives ListRights list_rights) (spaces ⨾ crlf) m (failed e)
    (first_of (gives MailboxData list_or_lsub) (gives ListRights list_rights) m (failed e)
    (given TakesNone MailboxData list_or_lsub m (failed e) (λ v rest is k. absurd (list_or_lsub_other.each m v rest (reads list_or_lsub m rest v is) k)))
    (made_yields ListRights (λ v h. h)))

pub id_failed : (m : Bytes) (e : Fault) (part : Returned (Option IdTable)) → part ≡ Err e → SucceedsFor IsNil id m part → SucceedsFor TakesNone id_line m (failed e)
unfolding id_line
id_failed m e part was h =
    before TakesNone (gives Id id) (spaces ⨾ crlf) m (failed e)
    (given TakesNone Id id m (failed e) (of_part IsNil id m e part (failed e) was h))

pub status_failed : (m mid : Bytes) (s : Status) (e : Fault) (part : Returned Outcome) → step status m ≡ Ok (mid, s) → part ≡ Err e → SucceedsFor OutcomeTakesNone spaced_outcome mid part → SucceedsFor TakesNone status_line m (failed e)
unfolding status_line status_data
status_failed m mid s e part front was h =
    before TakesNone (gives data_of (status ⨾ spaced_outcome)) (spaces ⨾ crlf) m (failed e)
    (given TakesNone data_of (status ⨾ spaced_outcome) m (failed e)
    (second (λ v. TakesNone (data_of v)) status spaced_outcome m mid s (failed e) front
    (of_part OutcomeTakesNone spaced_outcome mid e part (failed e) was h)))

-- a FETCH, behind its number
pub fetched_other : (n : ℕ) → Yields (λ v. ¬ (TakesNone v)) (fetched_line n)
unfolding fetched_line
fetched_other n = left_yields (made_yields fetch_of (λ v h. h))

-- ---- data that hold a list

pub capability_other : Yields (λ v. ¬ (TakesNone v)) capability_line
unfolding capability_line
capability_other = left_yields (made_yields Capabilities (λ v h. h))

pub enabled_other : Yields (λ v. ¬ (TakesNone v)) enabled_line
unfolding enabled_line
enabled_other = left_yields (made_yields Capabilities (λ v h. h))

pub annotation_other : Yields (λ v. ¬ (TakesNone v)) annotation_line
unfolding annotation_line
annotation_other =
    left_yields (either_yields (either_yields (given_yields MailboxData solicited_other (λ v h. h)) (given_yields MailboxData unsolicited_other (λ v h. h))) (made_yields MyRights (λ v h. h)))

pub vanished_other : Yields (λ v. ¬ (TakesNone v)) vanished_line
unfolding vanished_line vanished_data
vanished_other = left_yields (made_yields vanished_of (λ v h. h))

pub quota_other : Yields (λ v. ¬ (TakesNone v)) quota_line
unfolding quota_line
quota_other = left_yields (either_yields (made_yields Quota (λ v h. h)) (made_yields QuotaRoot (λ v h. h)))

pub acl_other : Yields (λ v. ¬ (TakesNone v)) acl_line
unfolding acl_line
acl_other = left_yields (made_yields Acl (λ v h. h))

-- a tag is copied
pub tagged_other : Yields (λ v. ¬ (TakesNone v)) tagged
unfolding tagged
tagged_other = made_yields done_of (λ v h. h)

-- ---- behind what memory may be wanted

-- the text of an outcome, behind its code or without one
pub outcome_text_wants : {A : Type 0} (m mid : Bytes) (k : Option CodeValue) (result : Returned A) → step (opt response_code) m ≡ Ok (mid, k) → FailsOnlyIf (YieldsOwned IsOwned text mid) result → FailsOnlyIf (OutcomeMayWant m) result
outcome_text_wants m mid k result is f =
    wider (Behind (opt response_code) (YieldsOwned IsOwned text) m) (OutcomeMayWant m) result (λ p. inr p)
    (wants_behind (YieldsOwned IsOwned text) (opt response_code) m mid k result is f)

-- the code of an outcome
pub outcome_code_wants : {A : Type 0} (m : Bytes) (code : Returned ResponseCode) (tried : Result (Option (Bor Bytes × ResponseCode)) Fault) (e : Fault) (result : Returned A) → result ≡ Err e → tried ≡ tried_of code → tried ≡ Err e → FailsOnlyIf (BeginsListCode m) code
    → FailsOnlyIf (OutcomeMayWant m) result
outcome_code_wants m code tried e result is same was f =
    wider (BeginsListCode m) (OutcomeMayWant m) result (λ p. inl p) (tried_fails (BeginsListCode m) code tried e result is same was f)

-- where no code begins
pub plain_wants : {A : Type 0} (m : Bytes) (result : Returned A) → step response_code m ≡ Err Error → FailsOnlyIf (YieldsOwned IsOwned text m) result → FailsOnlyIf (OutcomeMayWant m) result
plain_wants m result denied f = outcome_text_wants m m None result (rw denied refl) f

-- `+` and a space, or none, stand in front
pub continuation_wants : {A : Type 0} (m a b x : Bytes) (y : Option Bytes) (result : Returned A) → step (tag "+") m ≡ Ok (a, x) → step maybe_space a ≡ Ok (b, y) → FailsOnlyIf (OutcomeMayWant b) result → FailsOnlyIf (ContinuationMayWant m) result
continuation_wants m a b x y result is then f = wants_behind OutcomeMayWant (tag "+" ▹ maybe_space) m b y result (rw (is, then) refl) f

-- a status stands in front
pub status_wants : {A : Type 0} (m a : Bytes) (s : Status) (result : Returned A) → step status m ≡ Ok (a, s) → FailsOnlyIf (Behind sp OutcomeMayWant a) result → FailsOnlyIf (StatusMayWant m) result
unfolding meaning
status_wants m a s result is f =
    wider (Behind sp OutcomeMayWant a) (StatusMayWant m) result (λ p. ((s, p.0), p.1, (a, reads status m a s is, p.2), p.3)) f

-- a tag, a space and a status stand in front
pub tagged_wants : {A : Type 0} (m a b c t x : Bytes) (s : Status) (result : Returned A) → step request_tag m ≡ Ok (a, t) → step sp a ≡ Ok (b, x) → step status b ≡ Ok (c, s) → FailsOnlyIf (Behind sp OutcomeMayWant c) result → FailsOnlyIf (TaggedMayWant m) result
tagged_wants m a b c t x s result is then last f =
    wider (Behind sp OutcomeMayWant c) (TaggedMayWant m) result (λ p. inl (
      (t, (s, p.0)),
      p.1,
      reads (request_tag ⨾ sp ▹ status ⨾ sp) m p.1 (t, (s, p.0)) (rw (is, then, last, (agrees sp c).yields p.0 p.1 p.2) refl),
      p.3,
    )) f

-- the whole of a tagged line
pub tagged_stands : (m a b c d rest t x z : Bytes) (s : Status) (o : OutcomeValue) → step request_tag m ≡ Ok (a, t) → step sp a ≡ Ok (b, x) → step status b ≡ Ok (c, s) → step spaced_outcome c ≡ Ok (d, o) → step crlf d ≡ Ok (rest, z) → TaggedMayWant m
unfolding tagged
tagged_stands m a b c d rest t x z s o is then status_is outcome_is end =
    inr (starts_with tagged m rest (done_of (t, (s, o))) (rw (is, then, status_is, outcome_is, end) refl))

pub wants_continued : {A : Type 0} (m : Bytes) (result : Returned A) → FailsOnlyIf (ContinuationMayWant m) result → FailsOnlyIf (MayWantMemory m) result
wants_continued m result h = wider (ContinuationMayWant m) (MayWantMemory m) result (λ p. inl p) h

-- `* ` in front of such a datum
pub starred_wants : (m rest v : Bytes) → step (tag "* ") m ≡ Ok (rest, v) → DatumMayWant rest → MayWantMemory m
unfolding meaning
starred_wants m rest v is p =
    let y = reads (tag "* ") m rest v is in
    let front : m ≡ codes "* " ++ rest = y.0 ∙ ap (λ l. l ++ rest) (sym (exact (codes "* ") v y.1)) in
    inr (inl (rest, front, p))

pub wants_datum : {A : Type 0} (P : Bytes → Type 0) (m rest v : Bytes) (result : Returned A) → ((r : Bytes) → P r → DatumMayWant r) → step (tag "* ") m ≡ Ok (rest, v) → FailsOnlyIf (P rest) result → FailsOnlyIf (MayWantMemory m) result
wants_datum P m rest v result begins is h = wider (P rest) (MayWantMemory m) result (λ p. starred_wants m rest v is (begins rest p)) h

pub wants_tagged : {A : Type 0} (m : Bytes) (result : Returned A) → FailsOnlyIf (TaggedMayWant m) result → FailsOnlyIf (MayWantMemory m) result
wants_tagged m result h = wider (TaggedMayWant m) (MayWantMemory m) result (λ p. inr (inr p)) h

-- a word behind a number
pub behind_number : (m mid : Bytes) (n : ℕ) → step number m ≡ Ok (mid, n) → BeginsWord " FETCH " mid → StartsWith (number ▹ word " FETCH ") m
unfolding meaning
behind_number m mid n is b = (b.0, b.1, ((n, b.0), (mid, reads number m mid n is, (b.2, b.3)), refl))

pub wants_fetched : {A : Type 0} (m rest v mid : Bytes) (n : ℕ) (result : Returned A) → step (tag "* ") m ≡ Ok (rest, v) → step number rest ≡ Ok (mid, n) → FailsOnlyIf (BeginsWord " FETCH " mid) result → FailsOnlyIf (MayWantMemory m) result
wants_fetched m rest v mid n result is number_is h =
    wider (BeginsWord " FETCH " mid) (MayWantMemory m) result (λ p. starred_wants m rest v is (inr (inl (behind_number rest mid n number_is p)))) h

-- QUOTAROOT begins with QUOTA
pub quota_root_begins : (m : Bytes) → BeginsWord "QUOTAROOT" m → BeginsWord "QUOTA" m
quota_root_begins m b =
    let y = shorter (codes "QUOTA") (codes "ROOT") b.0 b.3 in
    (y.0, y.1 ++ b.1, b.2 ∙ ap (λ l. l ++ b.1) y.2 ∙ append_assoc y.0 y.1 b.1, y.3)
  where
    shorter : (k j front : List ℕ) → is_word same_letter (k ++ j) front ≡ true → (head : Bytes) × (tail : Bytes) × (front ≡ head ++ tail) × (is_word same_letter k head ≡ true)
    shorter [] j front w = ([], front, refl, refl)
    shorter (x ∷ k) j [] w = absurd (false≢true w)
    shorter (x ∷ k) j (b ∷ front) w =
        let p = and_parts (same_letter x b) (is_word same_letter (k ++ j) front) w in
        let y = shorter k j front p.1 in
        (b ∷ y.0, y.1, ap (λ l. b ∷ l) y.2, and_from _ _ p.0 y.3)

-- ---- kept fetches

-- the line of a FETCH
pub fetch_line_wants : (m rest : Bytes) (v : ResponseValue) → step fetch_line m ≡ Ok (rest, v) → MayWantMemory m
unfolding meaning fetch_line fetch fetched
fetch_line_wants m rest v is =
    let y = reads fetch_line m rest v is in
    let front = y.1.1 in
    let inside = y.1.2.1.1 in
    let behind = inside.1.2 in
    inr (inl (
      y.1.0,
      front.0 ∙ ap (λ l. l ++ y.1.0) (sym (exact (codes "* ") y.0.0 front.1)),
      inr (inl (behind.0.0, behind.1.0, ((inside.0.0, behind.0.0), (inside.1.0, inside.1.1, behind.1.1), refl))),
    ))

-- an answer whose value is dropped
pub valueless_wants : {A : Type 0} (m : Bytes) (result : Returned A) (e : Fault) → FailsOnlyIf (MayWantMemory m) result → without_value result ≡ Err e → FailsOnlyIf (MayWantMemory m) (failed e)
valueless_wants m (Ok x) e h is = absurd cc
valueless_wants m (Err d) e h is = let same : d ≡ e = cc in λ q. h (same ∙ q)
