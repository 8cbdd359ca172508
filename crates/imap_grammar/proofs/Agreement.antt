-- The step of a rule is what the rule means, for every rule; so a reader that gives the step answers the rule.
use Rattle.std.proofs.Common.{◌≡◌, ℕ, suc, List, [], ◌∷◌, ◌++◌, length, drop, Ok, Err, sym, ap, ◌∙◌, append_assoc, inl, inr, arith}
use Rattle.imap_grammar.specs.declared.answer.Err.{Err as Fault}
use Rattle.imap_grammar.specs.declared.answer.Err.TheVariants.{Incomplete, Error, Failure}
use Rattle.imap_grammar.specs.declared.answer.Needed.TheVariants.{Unknown, Size}
use Rattle.imap_grammar.specs.Meaning.{Meaning, Cuts}
use Rattle.imap_grammar.specs.Rule.{Rule, meaning, tag_by, run0, run1, seq, alt, gives, tested, raw, nothing, never, many, counted}
use Rattle.imap_grammar.specs.Step.{Step, step}
use Rattle.imap_grammar.specs.Exact.{Is}
use Rattle.imap_grammar.specs.Answer.{Returned, Says, Answers, Stops, Gives, Exactly}
use Rattle.imap_grammar.specs.Positions.{Reached, SaysAt, AnswersAt, ExactlyAt, GivesAt}
use Rattle.imap_grammar.proofs.Bytewise.{tag-is, run0-is, run1-is}
use Rattle.imap_grammar.proofs.Joining.{Shrinks, seq-is, alt-is, gives-is, tested-is, raw-is, nothing-is, never-is, counted-is}
use Rattle.imap_grammar.proofs.Repetition.{many-is}

pub shrinks : {V : Type 0} (r : Rule V) → Shrinks (meaning r)
unfolding meaning
shrinks (tag_by same word) m v rest h = (v, h.0)
shrinks (run0 class) m v rest h = (v, h.0)
shrinks (run1 class) m v rest h = (v, h.0.0)
shrinks (seq a b) m v rest h =
    let p = shrinks a m v.0 h.0 h.1 in
    let q = shrinks b h.0 v.1 rest h.2 in
    (p.0 ++ q.0, p.1 ∙ ap (λ (k : List ℕ). p.0 ++ k) q.1 ∙ sym (append_assoc p.0 q.0 rest))
shrinks (alt a b) m v rest h = elim h [ inl y ↦ shrinks a m v rest y | inr y ↦ shrinks b m v rest y.1 ]
shrinks (gives f a) m v rest h = shrinks a m h.0 rest h.1
shrinks (tested f a) m v rest h = shrinks a m h.0 rest h.1
shrinks (raw a) m v rest h = (v, h.2)
shrinks (nothing x) m v rest h = ([], h.1)
shrinks never m v rest h = absurd h
shrinks (many a) m v rest h = cuts (meaning a) v m h.0 (shrinks a)
  where
    cuts : {A : Type 0} (b : Meaning A) (vs : List A) (k : List ℕ) → Cuts b k vs rest → Shrinks b → (front : List ℕ) × (k ≡ front ++ rest)
    cuts b [] k c sh = ([], c)
    cuts b (x ∷ vs) k c sh =
        let p = sh k x c.0 c.1 in
        let q = cuts b vs c.0 c.2 sh in
        (p.0 ++ q.0, p.1 ∙ ap (λ (j : List ℕ). p.0 ++ j) q.1 ∙ sym (append_assoc p.0 q.0 rest))
shrinks (counted a) m v rest h = let p = shrinks a m (length v) h.0 h.1 in (p.0 ++ v, p.1 ∙ ap (λ (k : List ℕ). p.0 ++ k) h.2 ∙ sym (append_assoc p.0 v rest))

pub agrees : {V : Type 0} (r : Rule V) (m : List ℕ) → Is (meaning r) m (step r m)
unfolding meaning
agrees (tag_by same word) m = tag-is same word m
agrees (run0 class) m = run0-is class m
agrees (run1 class) m = run1-is class m
agrees (seq a b) m = seq-is (meaning a) (meaning b) m (step a m) (step b) (agrees a m) (agrees b)
agrees (alt a b) m = alt-is (meaning a) (meaning b) m (step a m) (step b m) (agrees a m) (agrees b m)
agrees (gives f a) m = gives-is (meaning a) f m (step a m) (agrees a m)
agrees (tested f a) m = tested-is (meaning a) f m (step a m) (agrees a m)
agrees (raw a) m = raw-is (meaning a) m (step a m) (agrees a m) (shrinks a)
agrees (nothing x) m = nothing-is x m
agrees never m = never-is m
agrees (many a) m = many-is (meaning a) (step a) (agrees a) (shrinks a) (suc (length m)) m (omega arith)
agrees (counted a) m = counted-is (meaning a) m (step a m) (agrees a m)

-- ---- readers

says : {A V : Type 0} (r : Rule V) (view : A → V) (m : List ℕ) (result : Returned A) → Gives view result (step r m) → Says (meaning r) view m result
says r view m (Ok x) g = (agrees r m).yielded (view x.1) x.0.now g
says r view m (Err Error) g = (agrees r m).failed Error g
says r view m (Err (Incomplete Unknown)) g =
    (λ v rest y. let f = sym g ∙ (agrees r m).yields v rest y in cc, λ d. let f = sym g ∙ (agrees r m).fails Error d in cc, λ n l. let f = sym g ∙ (agrees r m).fails (Incomplete (Size n)) l in cc)
says r view m (Err (Incomplete (Size n))) g = (agrees r m).failed (Incomplete (Size n)) g
says r view m (Err Failure) g = tt

-- what a reader gives by the step of its rule is the rule's answer
pub answered : {A V : Type 0} (r : Rule V) (view : A → V) (m : List ℕ) (result : Returned A) → Gives view result (step r m) → Answers r view m result
unfolding Answers
answered r view m result g = says r view m result g

pub stops : {V : Type 0} (e : Fault) (s : Step V) → s ≡ Err e → Stops e s
stops Error s h = h
stops (Incomplete n) s h = h
stops Failure s h = tt

-- where each fault of a part is the whole's, the whole stops as a part does that may want memory
pub stops_with : {A B : Type 0} (e : Fault) (part : Step A) (whole : Step B) → Stops e part → ((d : Fault) → part ≡ Err d → whole ≡ Err d) → Stops e whole
stops_with Error part whole h f = f Error h
stops_with (Incomplete n) part whole h f = f (Incomplete n) h
stops_with Failure part whole h f = tt

-- a reader that takes no memory gives the step
pub exactly_gives : {A V : Type 0} (view : A → V) (result : Returned A) (s : Step V) → Exactly view result s → Gives view result s
exactly_gives view (Ok x) s h = h
exactly_gives view (Err e) s h = stops e s h

pub exact_answer : {A V : Type 0} (r : Rule V) (view : A → V) (m : List ℕ) (result : Returned A) → Exactly view result (step r m) → Answers r view m result
exact_answer r view m result h = answered r view m result (exactly_gives view result (step r m) h)

-- ---- readers of positions

says_at : {A V : Type 0} (r : Rule V) (view : A → V) (m : List ℕ) (p : ℕ) (result : Reached A) → GivesAt view m result (step r (drop p m)) → SaysAt (meaning r) view m p result
says_at r view m p (Ok x) g = (agrees r (drop p m)).yielded (view x.1) (drop x.0 m) g
says_at r view m p (Err Error) g = (agrees r (drop p m)).failed Error g
says_at r view m p (Err (Incomplete Unknown)) g =
    (λ v rest y. let f = sym g ∙ (agrees r (drop p m)).yields v rest y in cc, λ d. let f = sym g ∙ (agrees r (drop p m)).fails Error d in cc, λ n l. let f = sym g ∙ (agrees r (drop p m)).fails (Incomplete (Size n)) l in cc)
says_at r view m p (Err (Incomplete (Size n))) g = (agrees r (drop p m)).failed (Incomplete (Size n)) g
says_at r view m p (Err Failure) g = tt

-- what a reader gives at a position by the step of its rule is the rule's answer there
pub answered_at : {A V : Type 0} (r : Rule V) (view : A → V) (m : List ℕ) (p : ℕ) (result : Reached A) → GivesAt view m result (step r (drop p m)) → AnswersAt r view m p result
unfolding AnswersAt
answered_at r view m p result g = says_at r view m p result g

pub exactly_gives_at : {A V : Type 0} (view : A → V) (m : List ℕ) (result : Reached A) (s : Step V) → ExactlyAt view m result s → GivesAt view m result s
exactly_gives_at view m (Ok x) s h = h
exactly_gives_at view m (Err e) s h = stops e s h

pub exact_answer_at : {A V : Type 0} (r : Rule V) (view : A → V) (m : List ℕ) (p : ℕ) (result : Reached A) → ExactlyAt view m result (step r (drop p m)) → AnswersAt r view m p result
exact_answer_at r view m p result h = answered_at r view m p result (exactly_gives_at view m result (step r (drop p m)) h)

-- what the step says of the meaning
pub reads : {V : Type 0} (r : Rule V) (m rest : List ℕ) (v : V) → step r m ≡ Ok (rest, v) → (meaning r).yields m v rest
reads r m rest v e = (agrees r m).yielded v rest e

pub fails : {V : Type 0} (r : Rule V) (m : List ℕ) (e : Fault) → step r m ≡ Err e → (meaning r).fails m e
fails r m e h = (agrees r m).failed e h
