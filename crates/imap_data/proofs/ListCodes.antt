-- Codes that may hold a list: want of memory is answered only behind their words, and where these stand no other code
-- is yielded.
use Rattle.std.proofs.Common.{◌≡◌, ℕ, List, ◌++◌, Ok, Err, refl, sym, ap, subst, ◌∙◌, inl, inr}
use Prim.Native.String.{String}
use Rattle.std.specs.Prelude.{codes}
use Rattle.imap_grammar.specs.declared.answer.Err.{Err as Fault}
use Rattle.imap_grammar.specs.declared.answer.Err.TheVariants.{Error, Failure}
use Rattle.imap_grammar.specs.Answer.{Returned}
use Rattle.imap_grammar.specs.Memory.{BeginsWord, FailsOnlyIf}
use Rattle.imap_grammar.specs.Rule.{Rule, meaning, ◌or◌}
use Rattle.imap_grammar.specs.Step.{step}
use Rattle.imap_grammar.specs.Tags.{tag, word, names}
use Rattle.imap_grammar.proofs.Agreement.{agrees, reads}
use Rattle.imap_grammar.proofs.Memory.{begins_letter, begins_tag, denied_apart, never_both, words_on}
use Rattle.imap_grammar.proofs.ReadingWords.{exact}
use Rattle.imap_grammar.proofs.Yields.{Yields, either_yields, made_yields}
use Rattle.imap_data.specs.Codes.{CodeValue, Alert, Parse, BadCharset, Capabilities, PermanentFlags, HoldsNoList, BeginsListWord, BeginsListCode, append_uid_of, copy_uid_of, append_uid, copy_uid, bad_charset, capabilities, permanent_flags, any_code, code_of_a, code_of_c, code_of_p, response_code}
use Rattle.imap_data.proofs.FirstBytes.{code_is_of_a, code_is_bad_charset, code_is_of_c, code_is_of_p}

-- what failed behind the bracket
pub list_code_failed : {A : Type 0} (m mid front : List ℕ) (e : Fault) (result : Returned A) → result ≡ Err e → step (tag "[") m ≡ Ok (mid, front) → (e ≡ Failure → BeginsListWord mid) → FailsOnlyIf (BeginsListCode m) result
unfolding meaning
list_code_failed m mid front e result is h f =
    let y = reads (tag "[") m mid front h in
    subst (FailsOnlyIf (BeginsListCode m)) (sym is) (λ q. (mid, y.0 ∙ ap (λ l. l ++ mid) (sym (exact (codes "[") front y.1)), f q))

-- ---- what is yielded behind such a word

abbrev HoldsList : CodeValue → Type 0
HoldsList c = ¬ (HoldsNoList c)

append_lists : Yields HoldsList append_uid
unfolding append_uid
append_lists = made_yields append_uid_of (λ v h. h)

code_of_c_lists : Yields HoldsList code_of_c
unfolding code_of_c capabilities copy_uid
code_of_c_lists = either_yields (made_yields Capabilities (λ v h. h)) (made_yields copy_uid_of (λ v h. h))

flags_list : Yields HoldsList permanent_flags
unfolding permanent_flags
flags_list = made_yields PermanentFlags (λ v h. h)

-- behind another word of the same letter
behind_denied : (k : String) (x : CodeValue) (b : Rule CodeValue) (m mid : List ℕ) (c : CodeValue) → Yields HoldsList b → step (word k) m ≡ Err Error → step (names k x or b) m ≡ Ok (mid, c) → HoldsList c
behind_denied k x b m mid c lists denied is = lists.each m c mid (reads b m mid c (rw denied at is))

appended : (m mid : List ℕ) (c : CodeValue) → BeginsWord "APPENDUID " m → step any_code m ≡ Ok (mid, c) → HoldsList c
unfolding code_of_a
appended m mid c b is =
    behind_denied "ALERT" Alert append_uid m mid c append_lists (denied_apart "APPENDUID " "ALERT" m refl b)
    (sym (code_is_of_a m (begins_letter "APPENDUID " 65 _ m refl b)) ∙ is)

flagged : (m mid : List ℕ) (c : CodeValue) → BeginsWord "PERMANENTFLAGS " m → step any_code m ≡ Ok (mid, c) → HoldsList c
unfolding code_of_p
flagged m mid c b is =
    behind_denied "PARSE" Parse permanent_flags m mid c flags_list (denied_apart "PERMANENTFLAGS " "PARSE" m refl b)
    (sym (code_is_of_p m (begins_letter "PERMANENTFLAGS " 80 _ m refl b)) ∙ is)

of_c : (m mid : List ℕ) (c : CodeValue) → step code_of_c m ≡ Ok (mid, c) → HoldsList c
of_c m mid c is = code_of_c_lists.each m c mid (reads code_of_c m mid c is)

-- where a bracket follows the word there is no list
no_bracket : (m mid rest front shut : List ℕ) → BeginsWord "BADCHARSET " m → step (word "BADCHARSET") m ≡ Ok (mid, front) → step (tag "]") mid ≡ Ok (rest, shut) → ⊥
no_bracket m mid rest front shut b is end = never_both "BADCHARSET " "BADCHARSET]" m refl b (words_on "BADCHARSET]" "BADCHARSET" "]" m mid front refl is (begins_tag "]" mid rest shut refl end))

charset_listed : (m mid rest shut : List ℕ) (c : CodeValue) → BeginsWord "BADCHARSET " m → step bad_charset m ≡ Ok (mid, c) → step (tag "]") mid ≡ Ok (rest, shut) → HoldsList c
unfolding bad_charset meaning
charset_listed m mid rest shut c b is end =
    let y = reads bad_charset m mid c is in
    let front = (agrees (word "BADCHARSET") m).yields y.1.0.0 y.1.1.0 y.1.1.1 in
    subst HoldsList y.2 (subst (λ o. HoldsList (BadCharset o)) y.1.2 (elim y.1.1.2 [
      | inl listed ↦ subst (λ o. HoldsList (BadCharset o)) listed.2 (λ h. h)
      | inr none ↦ absurd (no_bracket m mid rest y.1.0.0 shut b (subst (λ k. step (word "BADCHARSET") m ≡ Ok (k, y.1.0.0)) none.1.1 front) end)
    ]))

charset_yielded : (m mid rest shut : List ℕ) (c : CodeValue) → BeginsWord "BADCHARSET " m → step any_code m ≡ Ok (mid, c) → step (tag "]") mid ≡ Ok (rest, shut) → HoldsList c
charset_yielded m mid rest shut c b is end = charset_listed m mid rest shut c b (sym (code_is_bad_charset m (begins_letter "BADCHARSET " 66 _ m refl b)) ∙ is) end

list_yielded : (m mid rest shut : List ℕ) (c : CodeValue) → BeginsListWord m → step any_code m ≡ Ok (mid, c) → step (tag "]") mid ≡ Ok (rest, shut) → HoldsList c
list_yielded m mid rest shut c (inl b) is end = appended m mid c b is
list_yielded m mid rest shut c (inr (inl b)) is end = charset_yielded m mid rest shut c b is end
list_yielded m mid rest shut c (inr (inr (inl b))) is end = of_c m mid c (sym (code_is_of_c m (begins_letter "CAPABILITY" 67 _ m refl b)) ∙ is)
list_yielded m mid rest shut c (inr (inr (inr (inl b)))) is end = of_c m mid c (sym (code_is_of_c m (begins_letter "COPYUID " 67 _ m refl b)) ∙ is)
list_yielded m mid rest shut c (inr (inr (inr (inr b)))) is end = flagged m mid c b is

behind_bracket : (m front mid rest : List ℕ) → (meaning (tag "[")).yields m front mid → m ≡ codes "[" ++ rest → rest ≡ mid
unfolding meaning
behind_bracket m front mid rest y is = let e = exact (codes "[") front y.1 in let same = sym is ∙ y.0 ∙ ap (λ l. l ++ mid) (sym e) in cc

-- where the word of a code that may hold a list stands in front, each code that is yielded holds one
pub list_code_yielded : (m rest : List ℕ) (c : CodeValue) → BeginsListCode m → step response_code m ≡ Ok (rest, c) → ¬ (HoldsNoList c)
unfolding response_code meaning
list_code_yielded m rest c b is =
    let y = reads response_code m rest c is in
    let inner = y.1.2 in
    let same : b.0 ≡ y.1.0 = behind_bracket m y.0.0 y.1.0 b.0 y.1.1 b.1 in
    let code = (agrees any_code b.0).yields inner.0.0 inner.1.0 (subst (λ l. (meaning any_code).yields l inner.0.0 inner.1.0) (sym same) inner.1.1) in
    subst HoldsList (inner.2 ∙ y.2) (list_yielded b.0 inner.1.0 rest inner.0.1 inner.0.0 b.2 code ((agrees (tag "]") inner.1.0).yields inner.0.1 rest inner.1.2))
