-- Lists of values that are seen as they are.
use Rattle.std.proofs.Common.{ℕ, List, map, Ok, Err, ap, ◌∙◌}
use Rattle.std.proofs.lemmas.List.{map-id}
use Rattle.std.specs.Global.{Vec}
use Rattle.imap_grammar.specs.declared.answer.Err.TheVariants.{Incomplete, Error, Failure}
use Rattle.imap_grammar.specs.Step.{Step}
use Rattle.imap_grammar.specs.Answer.{Returned, Gives}

given : {V : Type 0} → List ℕ → List V → Step (List V)
given rest v = Ok (rest, v)

pub plain : {V : Type 0} (result : Returned (Vec V)) (s : Step (List V)) → Gives (λ x. map (λ n. n) x.items) result s → Gives (λ x. x.items) result s
unfolding given
plain (Ok x) s h = h ∙ ap (given x.0.now) (map-id x.1.items)
plain (Err Error) s h = h
plain (Err (Incomplete n)) s h = h
plain (Err Failure) s h = h
