-- What stands behind the `* ` of a data line.
use Rattle.std.proofs.Common.{◌≡◌, ℕ, List, [], ◌∷◌, ◌++◌, suc, get_or, Fits, w8, Ok, Err, refl, sym, subst, ◌∙◌}
use Rattle.imap_grammar.specs.Answer.{Returned}
use Rattle.imap_grammar.specs.Memory.{SucceedsFor}
use Rattle.imap_grammar.specs.Rule.{Rule, meaning}
use Rattle.imap_grammar.specs.Step.{Step, ◌>>=◌, beside, step}
use Rattle.imap_grammar.specs.Tags.{tag}
use Rattle.imap_grammar.proofs.Agreement.{reads}
use Rattle.imap_proto.specs.Responses.{ResponseValue}
use Rattle.imap_proto.specs.Lines.{ended_datum, data_line, response}

pub starred : (m mid x : List ℕ) → step response m ≡ step data_line m → step (tag "* ") m ≡ Ok (mid, x) → step response m ≡ step ended_datum mid
unfolding data_line
starred m mid x star front = star ∙ rw front (joined (step ended_datum mid))
  where
    joined : (s : Step ResponseValue) → ((s >>= beside x) >>= λ (v : List ℕ × (List ℕ × ResponseValue)). Ok (v.0, v.1.1)) ≡ s
    joined (Ok y) = refl
    joined (Err e) = refl

-- where one rule answers for another, it takes memory for no more
pub moved : {A V : Type 0} (kind : V → Type 0) (r s : Rule V) (m j : List ℕ) (result : Returned A) → step r m ≡ step s j → SucceedsFor kind s j result → SucceedsFor kind r m result
moved kind r s m j result same h = λ v rest y k. h v rest (sym same ∙ y) k

first_behind : (front mid : List ℕ) → ((n : ℕ) → Fits w8 (get_or (front ++ mid) n 0)) → Fits w8 (get_or mid 0 0)
first_behind [] mid h = h 0
first_behind (b ∷ front) mid h = first_behind front mid (λ n. h (suc n))

-- where all are bytes, so is the first
pub first_byte : (m mid x : List ℕ) → step (tag "* ") m ≡ Ok (mid, x) → ((n : ℕ) → Fits w8 (get_or m n 0)) → Fits w8 (get_or mid 0 0)
unfolding meaning
first_byte m mid x is h = let y = reads (tag "* ") m mid x is in first_behind x mid (λ n. subst (λ k. Fits w8 (get_or k n 0)) y.0 (h n))
