-- Pairs that are put into a map as they are read.
use Rattle.std.proofs.Common.{◌≡◌, ℕ, List, [], ◌∷◌, ◌++◌, Option, Some, None, Ok, Err, true, refl, sym, ap, subst, ◌∙◌}
use Rattle.std.specs.FinMap.{empty}
use Rattle.imap_grammar.specs.declared.answer.Err.{Err as Fault}
use Rattle.imap_grammar.specs.declared.answer.Err.TheVariants.{Incomplete, Error, Failure}
use Rattle.imap_grammar.specs.Text.{Text}
use Rattle.imap_grammar.specs.Answer.{Stops}
use Rattle.imap_grammar.specs.Rule.{Rule, gives, many, opt, ◌▹◌, ◌◃◌, ◌⨾◌}
use Rattle.imap_grammar.specs.Step.{Step, step, ◌>>=◌, beside, and_then}
use Rattle.imap_grammar.specs.Tags.{tag, blanks0}
use Rattle.imap_grammar.proofs.Consumption.{consumes}
use Rattle.imap_grammar.proofs.Loops.{onto, more, end, after_fault}
use Rattle.imap_extensions.specs.Ids.{IdValue, put_pair, put_pairs, map_of_pairs, some_params, id_pair, next_pair, id_pairs, id_list, id_map}

abbrev Pair : Type 0
Pair = Text × Option Text

abbrev put_all : IdValue → Step (List Pair) → Step IdValue
put_all m s = s >>= λ x. Ok (x.0, put_pairs m x.1)

-- The map holds what m held, and the pairs that were read of i up to k.
pub record Put (m : IdValue) (i k : List ℕ) (held : IdValue) : Type 0 where
  pub pairs : List Pair
  pub read : step (many next_pair) i ≡ onto pairs (step (many next_pair) k)
  pub put : held ≡ put_pairs m pairs

pub next_pair_takes : consumes next_pair ≡ true
unfolding next_pair
next_pair_takes = refl

put_more : (m : IdValue) (ps : List Pair) (p : Pair) → put_pair (put_pairs m ps) p ≡ put_pairs m (ps ++ p ∷ [])
put_more m [] p = refl
put_more m (q ∷ ps) p = put_more (put_pair m q) ps p

pub one_put : (m : IdValue) (i k rest : List ℕ) (held new : IdValue) (p : Pair) → Put m i k held → step (opt next_pair) k ≡ Ok (rest, Some p) → new ≡ put_pair held p → Put m i rest new
one_put m i k rest held new p so_far here put = record {
  pairs = so_far.pairs ++ p ∷ [];
  read = more next_pair i k rest so_far.pairs p so_far.read here next_pair_takes;
  put = put ∙ ap (λ x. put_pair x p) so_far.put ∙ put_more m so_far.pairs p;
}

abbrev holds : List ℕ → IdValue → Step IdValue
holds k m = Ok (k, m)

pub all_put : (m : IdValue) (i k rest : List ℕ) (held : IdValue) → Put m i k held → step (opt next_pair) k ≡ Ok (rest, None) → step (gives (put_pairs m) (many next_pair)) i ≡ Ok (k, held)
all_put m i k rest held so_far here = ap (put_all m) (end next_pair i k rest so_far.pairs so_far.read here) ∙ ap (holds k) (sym so_far.put)

pub fault_put : (m : IdValue) (i k : List ℕ) (held : IdValue) (e : Fault) → Put m i k held → Stops e (step (opt next_pair) k) → Stops e (step (gives (put_pairs m) (many next_pair)) i)
fault_put m i k held Failure so_far here = tt
fault_put m i k held Error so_far here = ap (put_all m) (after_fault next_pair i k Error (so_far.pairs, so_far.read) here)
fault_put m i k held (Incomplete n) so_far here = ap (put_all m) (after_fault next_pair i k (Incomplete n) (so_far.pairs, so_far.read) here)

abbrev joined : {A : Type 0} → List ℕ × (A × List A) → Step (List A)
joined v = Ok (v.0, v.1.0 ∷ v.1.1)

abbrev front_of : {A B : Type 0} → List ℕ × (A × B) → Step A
front_of v = Ok (v.0, v.1.0)

abbrev back_of : {A B : Type 0} → List ℕ × (A × B) → Step B
back_of v = Ok (v.0, v.1.1)

abbrev made : {A B : Type 0} → (A → B) → List ℕ × A → Step B
made f v = Ok (v.0, f v.1)

-- The map holds the first pair of i, and those that were read behind it up to k.
pub record PutBehind (i k : List ℕ) (held : IdValue) : Type 0 where
  pub first : Pair
  pub rest : List ℕ
  pub read_first : step id_pair i ≡ Ok (rest, first)
  pub behind : Put (put_pair empty first) rest k held

-- The first pair, and those behind it.
pub first_and_more : (i rest : List ℕ) (p : Pair) (m : IdValue) → step id_pair i ≡ Ok (rest, p) → m ≡ put_pair empty p → step (gives map_of_pairs id_pairs) i ≡ step (gives (put_pairs m) (many next_pair)) rest
unfolding id_pairs next_pair
first_and_more i rest p m here is = rw (here, is) (go (step (many next_pair) rest))
  where
    go : (s : Step (List Pair)) → (((s >>= beside p) >>= joined) >>= made map_of_pairs) ≡ (s >>= made (put_pairs (put_pair empty p)))
    go (Ok y) = refl
    go (Err e) = refl

pub no_first : (i : List ℕ) (e : Fault) → Stops e (step id_pair i) → Stops e (step (gives map_of_pairs id_pairs) i)
unfolding id_pairs
no_first i Failure here = tt
no_first i Error here = rw here refl
no_first i (Incomplete n) here = rw here refl

-- one pair more, the end of the pairs, and a fault behind them
pub next_put : (i k rest : List ℕ) (held new : IdValue) (p : Pair) → PutBehind i k held → new ≡ held → step (opt next_pair) k ≡ Ok (rest, Some p) → PutBehind i rest (put_pair new p)
next_put i k rest held new p so_far put here = record {
  first = so_far.first;
  rest = so_far.rest;
  read_first = so_far.read_first;
  behind = one_put _ so_far.rest k rest held (put_pair new p) p so_far.behind here (ap (λ x. put_pair x p) put);
}

pub last_put : (i k rest : List ℕ) (held new : IdValue) → PutBehind i k held → new ≡ held → step (opt next_pair) k ≡ Ok (rest, None) → step (gives map_of_pairs id_pairs) i ≡ Ok (k, new)
last_put i k rest held new so_far put here =
    first_and_more i so_far.rest so_far.first _ so_far.read_first refl ∙ all_put _ so_far.rest k rest held so_far.behind here ∙ ap (holds k) (sym put)

pub fault_behind : (i k : List ℕ) (held : IdValue) (e : Fault) → PutBehind i k held → Stops e (step (opt next_pair) k) → Stops e (step (gives map_of_pairs id_pairs) i)
fault_behind i k held e so_far here =
    subst (Stops e) (sym (first_and_more i so_far.rest so_far.first _ so_far.read_first refl)) (fault_put _ so_far.rest k held e so_far.behind here)

-- What is made of a value may be made of it inside of what surrounds it.
gives_inside : {A B C D E : Type 0} (a : Rule A) (b : Rule B) (c : Rule C) (f : B → D) (g : D → E) (m : List ℕ) → step (gives (λ x. g (f x)) (a ▹ b ◃ c)) m ≡ step (gives g (a ▹ gives f b ◃ c)) m
gives_inside {A} {B} {C} {D} {E} a b c f g m = front (step a m)
  where
    last : (x : A) (y : B) (t : Step C) → (((((t >>= beside y) >>= front_of) >>= beside x) >>= back_of) >>= made (λ z. g (f z))) ≡ (((((t >>= beside (f y)) >>= front_of) >>= beside x) >>= back_of) >>= made g)
    last x y (Ok z) = refl
    last x y (Err e) = refl

    behind : (x : A) (s : Step B) → ((((and_then s (step c) >>= front_of) >>= beside x) >>= back_of) >>= made (λ z. g (f z))) ≡ ((((and_then (s >>= made f) (step c) >>= front_of) >>= beside x) >>= back_of) >>= made g)
    behind x (Ok y) = last x y.1 (step c y.0)
    behind x (Err e) = refl

    front : (s : Step A) → ((and_then s (step (b ◃ c)) >>= back_of) >>= made (λ z. g (f z))) ≡ ((and_then s (step (gives f b ◃ c)) >>= back_of) >>= made g)
    front (Ok x) = behind x.1 (step b x.0)
    front (Err e) = refl

abbrev some : IdValue → Option IdValue
some x = Some x

pub some_params_is : (m : List ℕ) → step some_params m ≡ step (gives some id_map) m
unfolding id_list id_map
some_params_is m = gives_inside (tag "(") id_pairs (blanks0 ⨾ tag ")") map_of_pairs some m
