-- Where a run ends, by sixteen bytes that are looked at at once.
use Rattle.std.proofs.Common.{◌≡◌, ℕ, ◌%◌, ◌^◌, ◌≤◌, ◌<◌, ◌+◌, eqb, cond, not, Bool, true, false, Option, None, List, [], ◌∷◌, map, length, take, drop, get_or, position, zero, suc, Some, Fits, w8, refl, sym, ap, ◌⊎◌, inl, inr, ◌∙◌, arith}
use Rattle.std.specs.Prelude.{◌||◌}
use Rattle.std.specs.List.{position_or_len}
use Rattle.std.specs.Option.{option_map}
use Rattle.std.specs.Int.{w64, trailing_zeros}
use Rattle.std.proofs.lemmas.Bool.{agree_below, agree_below_at, lt-ltb, le-ltb, cases_lt, ne_eqb, eqb-false}
use Rattle.std.proofs.lemmas.List.{length-map, length-drop, get_or-take, get_or-drop}
use Rattle.std.proofs.lemmas.List.Sums.{position_or_len_is, fails_before_first, prefix_len-le-length}
use Rattle.std.proofs.lemmas.Simd.{map-map, mask_l-mod, first_set_mask_l, length-chunk}
use lib.Lanes.{mask_l, top}
use Rattle.imap_grammar.specs.Ascii.{quote}
use Rattle.imap_grammar.specs.Classes.{is_quoted_char}
use Rattle.imap_grammar.specs.Meaning.{outside}
use Rattle.imap_grammar.specs.Scanning.{may_stop, FindsQuote}

-- two tests that agree on each byte
same_end : (p q : ℕ → Bool) (n : ℕ) (m : List ℕ) → ((k : ℕ) → p (get_or m k 0) ≡ q (get_or m k 0)) → position_or_len p (take n m) ≡ position_or_len q (take n m)
same_end p q zero m h = refl
same_end p q (suc n) [] h = refl
same_end p q (suc n) (b ∷ m) h = rw (h 0, same_end p q n m (λ k. h (suc k))) refl

-- the lanes that are set are those of bytes that stop a run
pub end_of_lanes : (stop : ℕ → Bool) (m : List ℕ) (lanes : List ℕ) (f : ℕ → ℕ) → 16 ≤ length m → ((k : ℕ) → Fits w8 (get_or m k 0)) → lanes ≡ map f (take 16 m)
    → agree_below (λ b. top 7 (f b)) stop 256 ≡ true
    → cond (eqb (mask_l (map (top 7) lanes) % 2 ^ 64) 0) 16 (trailing_zeros w64 (mask_l (map (top 7) lanes) % 2 ^ 64)) ≡ position_or_len stop (take 16 m)
end_of_lanes stop m lanes f room fits is all =
    let long : length (take 16 m) ≡ 16 = length-chunk 0 16 m room in
    let set : ℕ → Bool = λ b. top 7 (f b) in
    let v = take 16 m in
    let mask : mask_l (map (top 7) lanes) % 2 ^ 64 ≡ mask_l (map set v) = ap (λ l. mask_l (map (top 7) l) % 2 ^ 64) is ∙ ap (λ l. mask_l l % 2 ^ 64) (map-map (top 7) f v) ∙ mask_l-mod (map set v) 64 (omega (arith, length-map v set, long)) in
    ap (λ k. cond (eqb k 0) 16 (trailing_zeros w64 k)) mask
    ∙ first_set_mask_l set v 16 long (omega arith)
    ∙ same_end set stop 16 m (λ k. agree_below_at set stop 256 (get_or m k 0) all (fits k).fits)

-- ---- a quote among sixteen bytes

goes_on : (b : ℕ) → b < 256 → may_stop b ≡ false → outside is_quoted_char b ≡ false
goes_on b fits h = let same : (may_stop b || outside is_quoted_char b) ≡ may_stop b = agree_below_at (λ k. may_stop k || outside is_quoted_char k) may_stop 256 b refl fits in rw h at same

-- where the lowest bit stands that is set, where it is one of the sixteen
pub some_set : (m : List ℕ) (bits : ℕ) → position_or_len may_stop (take 16 m) ≡ cond (eqb bits 0) 16 (trailing_zeros w64 bits) → (bits ≡ 0 → ⊥) → trailing_zeros w64 bits ≡ position_or_len may_stop (take 16 m)
some_set m bits is some = sym (rw (ne_eqb bits 0 some) at is)

pub none_set : (m : List ℕ) (bits : ℕ) → 16 ≤ length m → position_or_len may_stop (take 16 m) ≡ cond (eqb bits 0) 16 (trailing_zeros w64 bits) → (bits ≡ 0) ⊎ (16 ≤ trailing_zeros w64 bits) → position_or_len may_stop (take 16 m) ≡ 16
none_set m bits long is none = by (eqb bits 0) is none (λ e. eqb-false bits 0 e)
  where
    few : position_or_len may_stop (take 16 m) ≤ 16
    few = omega (arith, prefix_len-le-length (λ b. not (may_stop b)) (take 16 m), length-chunk 0 16 m long)

    by : (zero : Bool) → position_or_len may_stop (take 16 m) ≡ cond zero 16 (trailing_zeros w64 bits) → (bits ≡ 0) ⊎ (16 ≤ trailing_zeros w64 bits) → (zero ≡ false → bits ≡ 0 → ⊥) → position_or_len may_stop (take 16 m) ≡ 16
    by true is none at_none = is
    by false is (inl empty) at_none = absurd (at_none refl empty)
    by false is (inr far) at_none = omega (arith, is, far, few)

pub before_quote : (m : List ℕ) (n : ℕ) → 16 ≤ length m → ((k : ℕ) → Fits w8 (get_or m k 0)) → n ≡ position_or_len may_stop (take 16 m) → n < 16 → get_or m n 0 ≡ quote → position (outside is_quoted_char) m ≡ Some n
before_quote m n long fits is few here =
    let out : ℕ → Bool = outside is_quoted_char in
    let at : position_or_len out m ≡ n =
    position_or_len_is out m n 0 (omega (arith, long, few)) (λ k lt.
    let in_front : may_stop (get_or (take 16 m) k 0) ≡ false = fails_before_first may_stop (take 16 m) k 0 (omega (arith, lt, is)) in
    goes_on (get_or m k 0) (fits k).fits (rw (get_or-take 16 m k 0 (omega (arith, lt, few))) at in_front)) (λ within. rw here refl)
    in
    rw (at, lt-ltb n (length m) (omega (arith, few, long))) refl

-- no byte of sixteen that may stop, so none that is no quoted-char
pub none_stops : (m : List ℕ) → 16 ≤ length m → ((k : ℕ) → Fits w8 (get_or m k 0)) → position_or_len may_stop (take 16 m) ≡ 16 → position_or_len (outside is_quoted_char) (take 16 m) ≡ 16
none_stops m long fits is =
    let all : length (take 16 m) ≡ 16 = length-chunk 0 16 m long in
    position_or_len_is (outside is_quoted_char) (take 16 m) 16 0 (omega (arith, all)) (λ k lt.
    let in_front : may_stop (get_or (take 16 m) k 0) ≡ false = fails_before_first may_stop (take 16 m) k 0 (omega (arith, lt, is)) in
    let here : get_or (take 16 m) k 0 ≡ get_or m k 0 = get_or-take 16 m k 0 (omega (arith, lt)) in
    rw here (goes_on (get_or m k 0) (fits k).fits (rw here at in_front))) (λ within. absurd (omega (arith, within, all)))

-- ---- what stands behind bytes that pass

pub passed_over : (test : ℕ → Bool) (n : ℕ) (m : List ℕ) → n ≤ length m → position_or_len test (take n m) ≡ n → position_or_len test m ≡ n + position_or_len test (drop n m)
passed_over test zero m le is = omega arith
passed_over test (suc n) [] le is = absurd (omega (arith, le))
passed_over test (suc n) (b ∷ m) le is = by (test b) is (λ e. passed_over test n m (omega (arith, le)) e)
  where
    by : (here : Bool) → cond (not here) (1 + position_or_len test (take n m)) 0 ≡ suc n → (position_or_len test (take n m) ≡ n → position_or_len test m ≡ n + position_or_len test (drop n m))
        → cond (not here) (1 + position_or_len test m) 0 ≡ suc n + position_or_len test (drop n m)
    by true is more = absurd cc
    by false is more = let rest = more (omega (arith, is)) in omega (arith, rest)

pub passed_on : (test : ℕ → Bool) (n : ℕ) (m : List ℕ) → n ≤ length m → position_or_len test (take n m) ≡ n → position test m ≡ option_map (λ k. n + k) (position test (drop n m))
passed_on test n m le is =
    let q : ℕ = position_or_len test (drop n m) in
    let there : position_or_len test m ≡ n + q = passed_over test n m le is in
    let long : n + length (drop n m) ≡ length m = omega (arith, length-drop n m, le) in
    elim (cases_lt q (length (drop n m))) [
      | inl lt ↦ rw (there, lt-ltb (n + q) (length m) (omega (arith, lt, long)), lt-ltb q (length (drop n m)) lt) refl
      | inr ge ↦ rw (there, le-ltb (n + q) (length m) (omega (arith, ge, long)), le-ltb q (length (drop n m)) ge) refl
    ]

pub further : (n k : ℕ) (found : Option ℕ) → option_map (λ j. n + j) (option_map (λ j. k + j) found) ≡ option_map (λ j. n + k + j) found
further n k None = refl
further n k (Some j) = ap (λ at. Some at) (omega arith)

-- where the first one stands is told by the front that it stands in
pub in_front : (test : ℕ → Bool) (n : ℕ) (m : List ℕ) → n ≤ length m → position_or_len test (take n m) < n → position_or_len test m ≡ position_or_len test (take n m)
in_front test zero m le few = absurd (omega (arith, few))
in_front test (suc n) [] le few = absurd (omega (arith, le))
in_front test (suc n) (b ∷ m) le few = by (test b) few (λ within. in_front test n m (omega (arith, le)) within)
  where
    by : (here : Bool) → cond (not here) (1 + position_or_len test (take n m)) 0 < suc n → (position_or_len test (take n m) < n → position_or_len test m ≡ position_or_len test (take n m))
        → cond (not here) (1 + position_or_len test m) 0 ≡ cond (not here) (1 + position_or_len test (take n m)) 0
    by true few more = refl
    by false few more = ap (λ k. 1 + k) (more (omega (arith, few)))

pub found_behind : (m : List ℕ) (found : Option ℕ) → 16 ≤ length m → position_or_len may_stop (take 16 m) ≡ 16 → FindsQuote (drop 16 m) found → FindsQuote m (option_map (λ k. 16 + k) found)
found_behind m found long none finds n room first quoted =
    let q : ℕ = position_or_len may_stop (drop 16 m) in
    let there : position_or_len may_stop m ≡ 16 + q = passed_over may_stop 16 m long none in
    let at : 16 + q ≡ n = omega (arith, there, first) in
    let here : get_or (drop 16 m) q 0 ≡ quote = get_or-drop 16 m q 0 ∙ rw (sym at) at quoted in
    rw (finds q (omega (arith, room, at, length-drop 16 m)) refl here) (ap (λ k. Some k) at)

pub found_here : (m : List ℕ) (k : ℕ) → 16 ≤ length m → k ≡ position_or_len may_stop (take 16 m) → k < 16 → FindsQuote m (Some k)
found_here m k long is few n room first quoted = ap (λ at. Some at) (is ∙ sym (in_front may_stop 16 m long (omega (arith, is, few))) ∙ first)

pub not_found_here : (m : List ℕ) (k : ℕ) → 16 ≤ length m → k ≡ position_or_len may_stop (take 16 m) → k < 16 → (get_or m k 0 ≡ quote → ⊥) → FindsQuote m None
not_found_here m k long is few other n room first quoted =
    let at : n ≡ k = sym first ∙ in_front may_stop 16 m long (omega (arith, is, few)) ∙ sym is in
    absurd (other (rw at at quoted))
