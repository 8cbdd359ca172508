-- Whether addresses are listed, by the first byte.
use Rattle.std.proofs.Common.{◌≡◌, ℕ, true, false, List, [], ◌∷◌, Some, None, Ok, Err, refl, sym}
use Rattle.std.specs.Prelude.{◌==◌}
use Rattle.std.proofs.lemmas.Bool.{eqb-true, eqb-false, ne_eqb}
use Rattle.imap_grammar.specs.declared.answer.Err.TheVariants.{Incomplete, Error, Failure}
use Rattle.imap_grammar.specs.Ascii.{open_parenthesis}
use Rattle.imap_grammar.specs.Meaning.{begins}
use Rattle.imap_grammar.specs.Rule.{Rule, gives, ◌▹◌, ◌◃◌}
use Rattle.imap_grammar.specs.Step.{Step, ◌>>=◌, step, and_then, or_else}
use Rattle.imap_grammar.specs.Tags.{tag}
use Rattle.imap_grammar.proofs.Starts.{denied, waited}
use Rattle.imap_bytes.specs.Strings.{nil}
use Rattle.imap_envelopes.specs.Envelopes.{Addresses, addresses, some_addresses}

abbrev none : Addresses
none = None

nil_alone : (s : Step (List ℕ)) → or_else (and_then s (λ k. Ok (k, none)) >>= λ x. Ok (x.0, x.1.1)) (Err Error) ≡ (s >>= λ x. Ok (x.0, none))
nil_alone (Ok x) = refl
nil_alone (Err Error) = refl
nil_alone (Err Failure) = refl
nil_alone (Err (Incomplete n)) = refl

abbrev in_brackets : Rule Addresses
in_brackets = gives Some (tag "(" ▹ some_addresses ◃ tag ")")

pub unlisted : (m : List ℕ) → begins (λ b. b == open_parenthesis) m ≡ false → step addresses m ≡ (step nil m >>= λ x. Ok (x.0, none))
unfolding addresses nil
unlisted [] h = rw (waited nil refl) refl
unlisted (b ∷ m) h = let no_list : step in_brackets (b ∷ m) ≡ Err Error = denied in_brackets b m (ne_eqb open_parenthesis b (λ e. eqb-false b open_parenthesis h (sym e))) in rw no_list (nil_alone (step nil (b ∷ m)))

pub listed : (m : List ℕ) → begins (λ b. b == open_parenthesis) m ≡ true → step addresses m ≡ step in_brackets m
unfolding addresses nil
listed [] h = absurd cc
listed (b ∷ m) h = let no_nil : step nil (b ∷ m) ≡ Err Error = denied nil b m (let e = eqb-true b open_parenthesis h in rw e refl) in rw no_nil refl
