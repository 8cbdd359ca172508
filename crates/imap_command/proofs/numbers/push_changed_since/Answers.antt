use Rattle.std.proofs.Common.{◌≡◌, ℕ, List, [], ◌∷◌, ◌++◌, ap, ◌∙◌, append_assoc}
use Rattle.std.specs.Prelude.{codes, decimal}
use Rattle.imap_command.proofs.numbers.push_changed_since.Goals as goal

regroup : (a b c d : List ℕ) → ((a ++ b) ++ c) ++ d ≡ a ++ (b ++ (c ++ d))
regroup a b c d = simp append_assoc

pub returns : goal.returns
returns c = c.in_ok-push.ensures.items ∙ ap (λ l. l ++ (41 ∷ [])) (c.in_ok-push_number.ensures ∙ ap (λ l. l ++ decimal c.args.mod_seq) c.in_ok-extend_from_slice.ensures.items) ∙ regroup c.args.out.now.items (codes " (CHANGEDSINCE ") (decimal c.args.mod_seq) (41 ∷ [])
