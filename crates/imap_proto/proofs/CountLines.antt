-- Lines of one number are read.
use Rattle.std.proofs.Common.{◌≡◌, ℕ, ◌<◌, ◌^◌, true, false, ◌==◌, nat_lt, [], ◌∷◌, ◌++◌, codes, decimal, Ok, sym, ap, subst, ◌∙◌, refl, inl, inr, arith}
use Prim.Native.String.{String}
use Rattle.std.specs.List.{list_all}
use Rattle.std.proofs.lemmas.Bool.{false≢true, and_parts, ltb-true}
use Rattle.imap_grammar.specs.Classes.{is_digit}
use Rattle.imap_grammar.specs.ReadBack.{BeginsWith}
use Rattle.imap_grammar.specs.Rule.{meaning, ◌⨾◌}
use Rattle.imap_grammar.specs.Step.{step}
use Rattle.imap_grammar.specs.Tags.{tag, crlf}
use Rattle.imap_grammar.specs.Text.{Bytes}
use Rattle.imap_grammar.proofs.Agreement.{agrees}
use Rattle.imap_grammar.proofs.Reading.{tag-on}
use Rattle.imap_bytes.specs.Numbers.{number}
use Rattle.imap_bytes.proofs.ReadingTexts.{not_digit, number_on, number_first}
use Rattle.imap_data.specs.DatumValues.{Exists, Recent}
use Rattle.imap_proto.specs.Responses.{ResponseValue, Expunge}
use Rattle.imap_proto.specs.Lines.{is_space, spaces, count_line, ended_datum, numbered_line, response}
use Rattle.imap_proto.specs.CountLines.{CountIsRead, exists_of, recent_of}
use Rattle.imap_proto.proofs.FirstBytes.{response_star, datum_of_number}
use Rattle.imap_proto.proofs.Numbered.{IsNoF, number_and_count}
use Rattle.imap_proto.proofs.Starred.{starred}

datum_at : (b : ℕ) (m : Bytes) → is_digit b ≡ true → step ended_datum (b ∷ m) ≡ step numbered_line (b ∷ m)
datum_at b m digit =
    let small : b < 256 = (let p = and_parts (nat_lt 47 b) (nat_lt b 58) digit in omega (arith, ltb-true b 58 p.1)) in
    datum_of_number (b ∷ m) small digit

line_read : (k : String) (n : ℕ) (v : ResponseValue) (end t : Bytes) → n < 2 ^ 32 → BeginsWith not_digit (codes k ++ end) → IsNoF (codes k ++ end) → (meaning (count_line n)).yields (codes k ++ end) v t
    → (meaning response).yields (codes "* " ++ (decimal n ++ (codes k ++ end))) v t
unfolding number
line_read k n v end t small other no_f y =
    let behind : Bytes = codes k ++ end in
    let tail : Bytes = decimal n ++ behind in
    let m : Bytes = codes "* " ++ tail in
    let front : step (tag "* ") m ≡ Ok (tail, codes "* ") = (agrees (tag "* ") m).yields (codes "* ") tail (tag-on ◌==◌ (codes "* ") (codes "* ") tail refl) in
    let one = number_first n (omega (arith, small)) in
    let numbered : step ended_datum tail ≡ step numbered_line tail = subst (λ ds. step ended_datum (ds ++ behind) ≡ step numbered_line (ds ++ behind)) (sym one.2) (datum_at one.0 (one.1 ++ behind) one.3) in
    let counted : step number tail ≡ Ok (behind, n) = (agrees number tail).yields n behind (number_on (2 ^ 32) n (omega arith) small behind other) in
    let found : step (count_line n) behind ≡ Ok (t, v) = (agrees (count_line n) behind).yields v t y in
    (agrees response m).yielded v t (starred m tail (codes "* ") (response_star m refl) front ∙ numbered ∙ number_and_count tail behind n counted no_f ∙ found)

-- a second byte that is no F
no_f : (c d : ℕ) (k : Bytes) → (d == 102) ≡ false → (d == 70) ≡ false → IsNoF (c ∷ d ∷ k)
no_f c d k small large = (
  λ e. let q : d ≡ 102 = cc in false≢true (sym small ∙ ap (λ x. x == 102) q),
  λ e. let q : d ≡ 70 = cc in false≢true (sym large ∙ ap (λ x. x == 70) q),
)

-- spaces and the end of the line
end_read : (blank t : Bytes) → list_all is_space blank ≡ true → (meaning (spaces ⨾ crlf)).yields (blank ++ 13 ∷ 10 ∷ t) (blank, 13 ∷ 10 ∷ []) t
unfolding meaning spaces
end_read blank t all = (13 ∷ 10 ∷ t, (refl, all, refl), (refl, refl))

pub exists_read : CountIsRead " EXISTS" exists_of
unfolding meaning count_line
exists_read n blank t small all =
    let end : Bytes = blank ++ 13 ∷ 10 ∷ t in
    line_read " EXISTS" n (exists_of n) end t small refl (no_f 32 69 (codes "XISTS" ++ end) refl refl)
    ((exists_of n, (blank, 13 ∷ 10 ∷ [])), (end, inl (Exists n, inl (n, ((n, codes " EXISTS"), (codes " EXISTS" ++ end, (refl, refl), (refl, refl)), refl), refl), refl), end_read blank t all), refl)

pub recent_read : CountIsRead " RECENT" recent_of
unfolding meaning count_line
recent_read n blank t small all =
    let end : Bytes = blank ++ 13 ∷ 10 ∷ t in
    let m : Bytes = codes " RECENT" ++ end in
    line_read " RECENT" n (recent_of n) end t small refl (no_f 32 82 (codes "ECENT" ++ end) refl refl)
    ((recent_of n, (blank, 13 ∷ 10 ∷ [])), (end, inl (Recent n, inr (inr (n, m, (refl, refl), refl), (n, ((n, codes " RECENT"), (m, (refl, refl), (refl, refl)), refl), refl)), refl), end_read blank t all), refl)

pub expunge_read : CountIsRead " EXPUNGE" (λ n. Expunge n)
unfolding meaning count_line
expunge_read n blank t small all =
    let end : Bytes = blank ++ 13 ∷ 10 ∷ t in
    let m : Bytes = codes " EXPUNGE" ++ end in
    line_read " EXPUNGE" n (Expunge n) end t small refl (no_f 32 69 (codes "XPUNGE" ++ end) refl refl)
    ((Expunge n, (blank, 13 ∷ 10 ∷ [])), (end, inr (inr (inr (n, m, (refl, refl), refl), inr (n, m, (refl, refl), refl)), (n, ((n, codes " EXPUNGE"), (m, (refl, refl), (refl, refl)), refl), refl)), end_read blank t all), refl)
