-- Commands that are made, and what is made of their arguments.
use Rattle.std.proofs.Common.{◌≡◌, ◌≢◌, ℕ, zero, suc, ◌<◌, Bool, true, false, List, [], ◌∷◌, ◌++◌, length, get_or, map, Option, None, Some, Result, Ok, Err, refl, sym, ap, subst, ◌∙◌, inl, inr, arith}
use Rattle.std.proofs.lemmas.Bool.Decides.{eqb_tells}
use Rattle.std.specs.Option.{option_or}
use Rattle.std.specs.Prelude.{IfOk, option_map}
use Rattle.std.specs.declared.alloc.AllocError.{AllocError}
use Rattle.std.specs.declared.alloc.Global.{Global}
use Rattle.std.specs.declared.vec.Vec.{Vec}
use Rattle.imap_grammar.specs.Text.{Bytes}
use Rattle.imap_command.specs.Arguments.{Judges}
use Rattle.imap_command.specs.Calls.{Call, attr, stage, begun, empty, attributes, messages, Adds, Finishes, told}
use Rattle.imap_command.specs.declared.command.Command.{Command}
use Rattle.imap_command.specs.declared.errors.BuildError.{BuildError}
use Rattle.imap_command.specs.declared.words.Attribute.{Attribute}
use Rattle.imap_c.specs.declared.refusals.Refusal.{Refusal}
use Rattle.imap_c.specs.declared.refusals.Refusal.TheVariants.{Build}
use Rattle.imap_c.specs.Commands.{Makes, attribute_number, begun_by, messages_called, fetch_called, asking, Asks}

-- a command that the builder did not refuse
pub judged_ok : {A : Type 0} (t : Option Refusal) (r : Option BuildError) (text : Bytes) (made : Vec ℕ Global) (v : A) → t ≡ None → Judges r (Ok v) → made.items ≡ text → Makes (option_or t (option_map Build r)) text (Ok made)
judged_ok t None text made v clear j is = rw clear is
judged_ok t (Some x) text made v clear j is = absurd cc

-- ---- attributes that are asked for

asking_more : (asked : List Attribute) (last : Attribute) (calls : List Call) → asking (asked ++ last ∷ []) calls ≡ attr last ∷ asking asked calls
asking_more [] last calls = refl
asking_more (first ∷ others) last calls = asking_more others last (attr first ∷ calls)

pub asks_nothing : (text : Bytes) → Asks [] text text
asks_nothing text calls at is = (at, is)

pub asks_more : (asked : List Attribute) (last : Attribute) (old now new : Bytes) → Asks asked old now → Adds attributes (attr last) attributes now new → Asks (asked ++ last ∷ []) old new
asks_more asked last old now new so_far adds calls at is =
    let before = so_far calls at is in
    let s : stage (attr last ∷ asking asked calls) ≡ attributes = rw before.0 refl in
    let t : new ≡ begun (attr last ∷ asking asked calls) = adds.text (asking asked calls) before.0 before.1 in
    let P : List Call → Type 0 = λ k. (stage k ≡ attributes) × (new ≡ begun k) in
    subst P (sym (asking_more asked last calls)) (s, t)

pub numbers_more : (asked : List Attribute) (last : Attribute) (numbers : List ℕ) (n : ℕ) → map attribute_number asked ≡ numbers → attribute_number last ≡ n → map attribute_number (asked ++ last ∷ []) ≡ numbers ++ n ∷ []
numbers_more [] last numbers n e q = rw (sym e, q) refl
numbers_more (first ∷ others) last numbers n e q =
    subst (λ (k : List ℕ). map attribute_number (first ∷ (others ++ last ∷ [])) ≡ k ++ n ∷ []) e (ap (λ (k : List ℕ). attribute_number first ∷ k) (numbers_more others last (map attribute_number others) n refl q))

pub first_more : (head : Attribute) (asked : List Attribute) (numbers others : List ℕ) (n : ℕ) → numbers ≡ n ∷ others → attribute_number head ≡ n → map attribute_number asked ≡ others → map attribute_number (head ∷ asked) ≡ numbers
first_more head asked numbers others n e q m = ap (λ (k : ℕ). k ∷ map attribute_number asked) q ∙ ap (λ (k : List ℕ). n ∷ k) m ∙ sym e

-- a number that is none of an attribute
unnamed : (asked : List Attribute) (i n : ℕ) → i < length (map attribute_number asked) → get_or (map attribute_number asked) i 0 ≡ n → ((a : Attribute) → attribute_number a ≢ n) → ⊥
unnamed [] i n lt is none = absurd (omega arith)
unnamed (a ∷ asked) zero n lt is none = none a is
unnamed (a ∷ asked) (suc i) n lt is none = unnamed asked i n (omega arith) is none

pub none_named : (numbers : List ℕ) (i n : ℕ) → i < length numbers → get_or numbers i 0 ≡ n → ((a : Attribute) → attribute_number a ≢ n) → (asked : List Attribute) → map attribute_number asked ≢ numbers
none_named numbers i n lt is none asked = λ e. unnamed asked i n (subst (λ (k : List ℕ). i < length k) (sym e) lt) (ap (λ (k : List ℕ). get_or k i 0) e ∙ is) none

pub first_unnamed : (numbers others : List ℕ) (n : ℕ) → numbers ≡ n ∷ others → ((a : Attribute) → attribute_number a ≢ n) → (asked : List Attribute) → map attribute_number asked ≢ numbers
first_unnamed numbers others n e none [] = λ m. cc
first_unnamed numbers others n e none (a ∷ asked) = λ m. let same : attribute_number a ≡ n = cc in none a same

pub rest_unnamed : (numbers others : List ℕ) (n : ℕ) → numbers ≡ n ∷ others → ((asked : List Attribute) → map attribute_number asked ≢ others) → (asked : List Attribute) → map attribute_number asked ≢ numbers
rest_unnamed numbers others n e none [] = λ m. cc
rest_unnamed numbers others n e none (a ∷ asked) = λ m. let same : map attribute_number asked ≡ others = cc in none asked same

-- ---- the calls of a FETCH

begun_so : (by_uid : Bool) → stage (begun_by by_uid ∷ []) ≡ empty
begun_so true = refl
begun_so false = refl

-- of messages that are named by this call
pub messages_begun : (by_uid : Bool) (call : Call) (old : Bytes) (r : Result Bytes AllocError) → old ≡ begun (begun_by by_uid ∷ []) → IfOk r (Adds empty call messages old) → IfOk r (λ text. text ≡ begun (call ∷ begun_by by_uid ∷ []))
messages_begun by_uid call old (Ok text) is adds = adds.text (begun_by by_uid ∷ []) (begun_so by_uid) is
messages_begun by_uid call old (Err e) is adds = tt

messages_told : (by_uid : Bool) (first last : ℕ) → stage (messages_called by_uid first last) ≡ messages
messages_told true first last = elim (eqb_tells last 0) [ inl h ↦ rw h.0 refl | inr h ↦ rw h.0 refl ]
messages_told false first last = elim (eqb_tells last 0) [ inl h ↦ rw h.0 refl | inr h ↦ rw h.0 refl ]

-- a FETCH that is finished
pub fetched : (by_uid : Bool) (first last : ℕ) (head : Attribute) (asked : List Attribute) (named now old : Bytes) (command : Command) → named ≡ begun (messages_called by_uid first last) → Adds messages (attr head) attributes named now → Asks asked now old
    → Finishes attributes old command → command.args.items ≡ (told (fetch_called by_uid first last (head ∷ asked))).text
fetched by_uid first last head asked named now old command is adds asks finishes =
    let calls = messages_called by_uid first last in
    let s : stage (attr head ∷ calls) ≡ attributes = rw (messages_told by_uid first last) refl in
    let both = asks (attr head ∷ calls) s (adds.text calls (messages_told by_uid first last) is) in
    (finishes (asking asked (attr head ∷ calls)) both.0 both.1).text
