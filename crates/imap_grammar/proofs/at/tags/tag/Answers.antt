use Rattle.std.proofs.Common.{rules, arith, ◌≡◌, ◌==◌, ◌≤◌, ◌+◌, ℕ, Bool, List, true, Ok, length, drop, take}
use Rattle.std.specs.List.{zip, list_all}
use Rattle.imap_grammar.specs.Step.{tag_step}
use Rattle.imap_grammar.specs.Positions.{named_in}
use Rattle.imap_grammar.proofs.Positions.{stepped, zip_cut}
use Rattle.imap_grammar.proofs.at.tags.tag.Goals as goal

-- the word stands there, byte for byte, in front of what is left
tagged : (word m i front : List ℕ) (p : ℕ) (b : Bool) → i ≡ drop p m → length word ≤ length i → front ≡ take (length word) i → b ≡ list_all (λ q. q.0 == q.1) (zip word front) → b ≡ true → tag_step ◌==◌ word (drop p m) ≡ Ok (drop (p + length word) m, named_in m record { start = p; end = p + length word })
unfolding tag_step
tagged word m i front p b rest long cut is all = grind (arith, stepped, zip_cut)

pub returns-clause-steps : goal.returns-clause-steps
returns-clause-steps c = search (rules, tagged) depth 3
