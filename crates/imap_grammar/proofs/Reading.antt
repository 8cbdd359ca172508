-- Each form reads back what it once yielded.
use Rattle.std.proofs.Common.{◌≡◌, ℕ, ◌<◌, ◌==◌, Bool, true, false, List, [], ◌∷◌, ◌++◌, length, IsTrue, Option, None, Some, sym, ◌∙◌, ap, subst, refl, inl, inr, append_assoc, append-nil, map, cond}
use Rattle.std.proofs.lemmas.Bool.{false≢true, and_from, or_cases, eq-eqb, eqb-true}
use Rattle.std.specs.List.{list_all}
use Rattle.imap_grammar.specs.Meaning.{Denies, is_word, differs, begins, outside, Cuts}
use Rattle.imap_grammar.specs.Rule.{Rule, tag_by, run1, alt, gives, test, raw as taken_by, nothing, never, opt, many, counted, ◌⨾◌, ◌▹◌, ◌◃◌, some1, list1, list0, meaning}
use Rattle.imap_grammar.specs.Text.{Bytes}
use Rattle.imap_grammar.specs.Pieces.{Pieces, written, Fits, ◌then◌, raw, each, separated, literal_of}
use Rattle.imap_grammar.specs.Pieces.Piece.{Raw, Lit}
use Rattle.imap_grammar.proofs.Yields.{Yields}
use Rattle.imap_grammar.specs.ReadBack.{ReadsBack, Takes, Apart, Any, BeginsWith, Closes, EndsItem, closes, ends_item, as_is}

-- ---- pieces

pub written-append : (p q : Pieces) → written (p ++ q) ≡ written p ++ written q
written-append [] q = refl
written-append (Raw b ∷ p) q = ap (λ l. b ++ l) (written-append p q) ∙ sym (append_assoc b (written p) (written q))
written-append (Lit b ∷ p) q = ap (λ l. literal_of b ++ l) (written-append p q) ∙ sym (append_assoc (literal_of b) (written p) (written q))

pub fits-parts : (p q : Pieces) → Fits (p ++ q) → Fits p × Fits q
fits-parts [] q f = (tt, f)
fits-parts (Raw b ∷ p) q f = fits-parts p q f
fits-parts (Lit b ∷ p) q f =
    let parts = fits-parts p q f.1 in
    ((f.0, parts.0), parts.1)

pub written_on : (p q : Pieces) (t : Bytes) → written (p ++ q) ++ t ≡ written p ++ (written q ++ t)
written_on p q t = ap (λ l. l ++ t) (written-append p q) ∙ append_assoc (written p) (written q) t

pub raw_on : (b t : Bytes) → written (raw b) ++ t ≡ b ++ t
raw_on b t = ap (λ l. l ++ t) (append-nil b)

-- ---- denials

pub denies-gives : {A B : Type 0} (f : A → B) (a : Rule A) (m : Bytes) → Denies (meaning a) m → Denies (meaning (gives f a)) m
unfolding meaning
denies-gives f a m d = d

pub denies-seq : {A B : Type 0} (a : Rule A) (b : Rule B) (m : Bytes) → Denies (meaning a) m → Denies (meaning (a ⨾ b)) m
unfolding meaning
denies-seq a b m d = inl d

pub denies-after : {A B : Type 0} (a : Rule A) (b : Rule B) (m : Bytes) → Denies (meaning a) m → Denies (meaning (a ▹ b)) m
unfolding meaning
denies-after a b m d = inl d

-- behind what the first part yields
pub denies-behind : {A B : Type 0} (a : Rule A) (b : Rule B) (m : Bytes) (x : A) (mid : Bytes) → (meaning a).yields m x mid → Denies (meaning b) mid → Denies (meaning (a ▹ b)) m
unfolding meaning
denies-behind a b m x mid y d = inr (x, mid, y, d)

pub denies-before : {A B : Type 0} (a : Rule A) (b : Rule B) (m : Bytes) → Denies (meaning a) m → Denies (meaning (a ◃ b)) m
unfolding meaning
denies-before a b m d = inl d

pub denies-alt : {A : Type 0} (a b : Rule A) (m : Bytes) → Denies (meaning a) m → Denies (meaning b) m → Denies (meaning (alt a b)) m
unfolding meaning
denies-alt a b m d e = inr (d, e)

pub denies-test : {A : Type 0} (p : A → Bool) (a : Rule A) (m : Bytes) → Denies (meaning a) m → Denies (meaning (test p a)) m
unfolding meaning
denies-test p a m d = inl d

pub denies-tag : (same : ℕ → ℕ → Bool) (k m : Bytes) → IsTrue (differs same k m) → Denies (meaning (tag_by same k)) m
unfolding meaning
denies-tag same k m d = d

pub denies-counted : (header : Rule ℕ) (m : Bytes) → Denies (meaning header) m → Denies (meaning (counted header)) m
unfolding meaning
denies-counted header m d = inl d

pub denies-run1 : (p : ℕ → Bool) (m : Bytes) → IsTrue (begins (outside p) m) → Denies (meaning (run1 p)) m
unfolding meaning
denies-run1 p m d = d

-- ---- what a rule takes

pub takes-tag : (same : ℕ → ℕ → Bool) (k text : Bytes) → IsTrue (is_word same k text) → Takes (tag_by same k) (raw text) Any
unfolding meaning
takes-tag same k text agree = record { taken = λ fits t f. (text, (raw_on text t, agree)) }

module _ {A B : Type 0} {a : Rule A} {b : Rule B} {p q : Pieces} {F G : Bytes → Type 0} where
  pub takes-seq : Takes a p F → Takes b q G → ((t : Bytes) → G t → F (written q ++ t)) → Takes (a ⨾ b) (p then q) G
  unfolding meaning
  takes-seq h k follow = record {
    taken = λ fits t g.
        let parts = fits-parts p q fits in
        let second = k.taken parts.1 t g in
        let first = h.taken parts.0 (written q ++ t) (follow t g) in
        ((first.0, second.0), (written q ++ t, subst (λ l. (meaning a).yields l first.0 (written q ++ t)) (sym (written_on p q t)) first.1, second.1));
  }

-- ---- joined rules

module _ {A B : Type 0} {a : Rule A} {b : Rule B} {la : A → A} {lb : B → B} {ca : A → Pieces} {cb : B → Pieces} {F G : Bytes → Type 0} where
  pub reads-seq : ReadsBack a la ca F → ReadsBack b lb cb G → ((y : B) (t : Bytes) → G t → F (written (cb y) ++ t)) → ReadsBack (a ⨾ b) (λ v. (la v.0, lb v.1)) (λ v. ca v.0 then cb v.1) G
  unfolding meaning
  reads-seq h k follow = record {
    again = λ m v rest y fits t g.
        let parts = fits-parts (ca v.0) (cb v.1) fits in
        let mid = written (cb v.1) ++ t in (
          mid,
          subst (λ l. (meaning a).yields l (la v.0) mid) (sym (written_on (ca v.0) (cb v.1) t)) (h.again m v.0 y.0 y.1 parts.0 mid (follow v.1 t g)),
          k.again y.0 v.1 rest y.2 parts.1 t g,
        );
  }

module _ {A B : Type 0} {a : Rule A} {b : Rule B} {p : Pieces} {lb : B → B} {cb : B → Pieces} {F G : Bytes → Type 0} where
  pub reads-after : Takes a p F → ReadsBack b lb cb G → ((y : B) (t : Bytes) → G t → F (written (cb y) ++ t)) → ReadsBack (a ▹ b) lb (λ v. p then cb v) G
  unfolding meaning
  reads-after h k follow = record {
    again = λ m v rest y fits t g.
        let parts = fits-parts p (cb v) fits in
        let mid = written (cb v) ++ t in
        let first = h.taken parts.0 mid (follow v t g) in
        let same : written (cb y.0.1) ++ t ≡ mid = ap (λ x. written (cb x) ++ t) y.2 in (
          (first.0, lb v),
          (
            mid,
            subst (λ l. (meaning a).yields l first.0 mid) (sym (written_on p (cb v) t)) first.1,
            k.again y.1.0 v rest (subst (λ x. (meaning b).yields y.1.0 x rest) y.2 y.1.2) parts.1 t g,
          ),
          refl,
        );
  }

module _ {A B : Type 0} {a : Rule A} {b : Rule B} {la : A → A} {ca : A → Pieces} {q : Pieces} {F G : Bytes → Type 0} where
  pub reads-before : ReadsBack a la ca F → Takes b q G → ((t : Bytes) → G t → F (written q ++ t)) → ReadsBack (a ◃ b) la (λ v. ca v then q) G
  unfolding meaning
  reads-before h k follow = record {
    again = λ m v rest y fits t g.
        let parts = fits-parts (ca v) q fits in
        let mid = written q ++ t in
        let second = k.taken parts.1 t g in (
          (la v, second.0),
          (
            mid,
            subst (λ l. (meaning a).yields l (la v) mid) (sym (written_on (ca v) q t))
                (h.again m v y.1.0 (subst (λ x. (meaning a).yields m x y.1.0) y.2 y.1.1) parts.0 mid (follow t g)),
            second.1,
          ),
          refl,
        );
  }

module _ {A B : Type 0} {a : Rule A} {la : A → A} {lb : B → B} {c : B → Pieces} {F : Bytes → Type 0} where
  -- f of what is read again is what is read again of f
  pub reads-gives : (f : A → B) → ReadsBack a la (λ x. c (f x)) F → ((x : A) → f (la x) ≡ lb (f x)) → ReadsBack (gives f a) lb c F
  unfolding meaning
  reads-gives f h law = record {
    again = λ m v rest y fits t g. (
      la y.0,
      subst (λ w. (meaning a).yields (written (c w) ++ t) (la y.0) t) y.2 (h.again m y.0 rest y.1 (subst (λ w. Fits (c w)) (sym y.2) fits) t g),
      law y.0 ∙ ap lb y.2,
    );
  }

module _ {A : Type 0} {a b : Rule A} {l : A → A} {c : A → Pieces} {F : Bytes → Type 0} where
  pub reads-alt : ReadsBack a l c F → ReadsBack b l c F → Apart a b c F → ReadsBack (alt a b) l c F
  unfolding meaning
  reads-alt h k apart = record {
    again = λ m v rest y fits t g.
        elim y [
          | inl ya ↦ inl (h.again m v rest ya fits t g)
          | inr yb ↦ inr (apart.denied m v rest yb.0 yb.1 fits t g, k.again m v rest yb.1 fits t g)
        ];
  }

-- what a test lets through
pub test-has : {A : Type 0} (p : A → Bool) (a : Rule A) (m : Bytes) (v : A) (rest : Bytes) → (meaning (test p a)).yields m v rest → (meaning a).yields m v rest × IsTrue (p v)
unfolding meaning
test-has {A} p a m v rest y = passed (p y.0) refl y.2
  where
    passed : (b : Bool) → p y.0 ≡ b → cond b (Some y.0) None ≡ Some v → (meaning a).yields m v rest × IsTrue (p v)
    passed true e h =
        let same : y.0 ≡ v = cc in
        (subst (λ x. (meaning a).yields m x rest) same y.1, subst (λ x. p x ≡ true) same e)
    passed false e h = absurd cc

pub test-on : {A : Type 0} (p : A → Bool) (a : Rule A) (m : Bytes) (v : A) (rest : Bytes) → (meaning a).yields m v rest → IsTrue (p v) → (meaning (test p a)).yields m v rest
unfolding meaning
test-on {A} p a m v rest y h = (v, y, ap (λ b. some b) h)
  where
    some : Bool → Option A
    some b = cond b (Some v) None

module _ {A : Type 0} {a : Rule A} {l : A → A} {c : A → Pieces} {F : Bytes → Type 0} where
  -- a test that borrowing does not change
  pub reads-test : (p : A → Bool) → ReadsBack a l c F → ((v : A) → p v ≡ true → p (l v) ≡ true) → ReadsBack (test p a) l c F
  reads-test p h keeps = record {
    again = λ m v rest y fits t g.
        let has = test-has p a m v rest y in
        test-on p a _ (l v) t (h.again m v rest has.0 fits t g) (keeps v has.1);
  }

  pub reads-follow : {G : Bytes → Type 0} → ReadsBack a l c F → ((t : Bytes) → G t → F t) → ReadsBack a l c G
  reads-follow h k = record { again = λ m v rest y fits t g. h.again m v rest y fits t (k t g) }

  pub reads-as : {d : A → A} → ReadsBack a l c F → ((v : A) → l v ≡ d v) → ReadsBack a d c F
  reads-as h e = record { again = λ m v rest y fits t g. subst (λ w. (meaning a).yields (written (c v) ++ t) w t) (e v) (h.again m v rest y fits t g) }

pub reads-never : {A : Type 0} {l : A → A} {c : A → Pieces} {F : Bytes → Type 0} → ReadsBack (never {A = A}) l c F
unfolding meaning
reads-never = record { again = λ m v rest y fits t g. absurd y }

-- ---- lists

-- an element begins with what may follow the one before it
module _ {A : Type 0} {a : Rule A} {l : A → A} {c : A → Pieces} {F G : Bytes → Type 0} where
  again-each : ReadsBack a l c F → ((y : A) (t : Bytes) → F (written (c y) ++ t)) → ((t : Bytes) → G t → F t)
      → (vs : List A) (m rest : Bytes) → Cuts (meaning a) m vs rest → Fits (each c vs) → (t : Bytes) → G t → Cuts (meaning a) (written (each c vs) ++ t) (map l vs) t
  again-each h next end [] m rest y fits t g = refl
  again-each h next end (v ∷ vs) m rest y fits t g =
      let parts = fits-parts (c v) (each c vs) fits in
      let mid = written (each c vs) ++ t in (
        mid,
        subst (λ m. (meaning a).yields m (l v) mid) (sym (written_on (c v) (each c vs) t)) (h.again m v y.0 y.1 parts.0 mid (follow vs t g)),
        again-each h next end vs y.0 rest y.2 parts.1 t g,
      )
    where
      follow : (vs : List A) (t : Bytes) → G t → F (written (each c vs) ++ t)
      follow [] t g = end t g
      follow (w ∷ ws) t g = subst F (sym (written_on (c w) (each c ws) t)) (next w (written (each c ws) ++ t))

  pub reads-many : ReadsBack a l c F → ((y : A) (t : Bytes) → F (written (c y) ++ t)) → ((t : Bytes) → G t → F t) → ((t : Bytes) → G t → Denies (meaning a) t)
      → ReadsBack (many a) (map l) (each c) G
  unfolding meaning
  reads-many h next end stop = record { again = λ m v rest y fits t g. (again-each h next end v m rest y.0 fits t g, stop t g) }

module _ {A S : Type 0} {a : Rule A} {s : Rule S} {l : A → A} {c : A → Pieces} {p : Pieces} {F G H : Bytes → Type 0} where
  -- an element may follow what separates; what separates may follow an element, and t may too, on which s or an element
  -- behind it is denied
  pub reads-list1_until : Takes s p H → ReadsBack a l c F → ((y : A) (t : Bytes) → H (written (c y) ++ t)) → ((t : Bytes) → F (written p ++ t)) → ((t : Bytes) → G t → F t) → ((t : Bytes) → G t → Denies (meaning (s ▹ a)) t)
      → ReadsBack (list1 s a) (map l) (separated p c) G
  reads-list1_until takes h begin sep end stop =
      reads-gives _ (reads-seq h
      (reads-many (reads-after takes h (λ y t f. begin y t)) (λ y t. subst F (sym (written_on p (c y) t)) (sep (written (c y) ++ t))) end stop)
      follow) (λ x. refl)
    where
      follow : (ys : List A) (t : Bytes) → G t → F (written (each (λ y. p then c y) ys) ++ t)
      follow [] t g = end t g
      follow (y ∷ ys) t g =
          subst F (sym (written_on (p then c y) (each (λ y. p then c y) ys) t ∙ written_on p (c y) (written (each (λ y. p then c y) ys) ++ t)))
          (sep (written (c y) ++ (written (each (λ y. p then c y) ys) ++ t)))

  pub reads-list1 : Takes s p H → ReadsBack a l c F → ((y : A) (t : Bytes) → H (written (c y) ++ t)) → ((t : Bytes) → F (written p ++ t)) → ((t : Bytes) → G t → F t) → ((t : Bytes) → G t → Denies (meaning s) t)
      → ReadsBack (list1 s a) (map l) (separated p c) G
  reads-list1 takes h begin sep end stop = reads-list1_until takes h begin sep end (λ t g. denies-after s a t (stop t g))

  -- maybe none, where a denies what may follow
  pub reads-list0 : Takes s p H → ReadsBack a l c F → ((y : A) (t : Bytes) → H (written (c y) ++ t)) → ((t : Bytes) → F (written p ++ t)) → ((t : Bytes) → G t → F t) → ((t : Bytes) → G t → Denies (meaning s) t)
      → ((t : Bytes) → G t → Denies (meaning a) t) → ReadsBack (list0 s a) (map l) (separated p c) G
  unfolding meaning
  reads-list0 takes h begin sep end stop none =
      let some = reads-list1 takes h begin sep end stop in
      record {
        again = λ m v rest y f t g.
            elim y [
              | inl ya ↦ inl (some.again m v rest ya f t g)
              | inr yb ↦ inr (subst (λ vs. Denies (meaning (list1 s a)) (written (separated p c vs) ++ t)) yb.1.0 (inl (none t g)), (ap (map l) yb.1.0, subst (λ vs. written (separated p c vs) ++ t ≡ t) yb.1.0 refl))
            ];
      }

-- ---- choices

module _ {A S : Type 0} {s : Rule S} {l : A → A} {c : A → Pieces} {p : Pieces} {F : Bytes → Type 0} where
  -- a word that stands for a value
  pub reads-names : (x : A) → Takes s p Any → c x ≡ p → l x ≡ x → ReadsBack (s ▹ nothing x) l c F
  unfolding meaning
  reads-names x takes e kept = record {
    again = λ m v rest y f t g.
        let same : x ≡ v = y.1.2.0 ∙ y.2 in
        let pieces : p ≡ c v = sym e ∙ ap c same in
        let first = takes.taken (subst Fits (sym pieces) f) t tt in
        ((first.0, l v), (t, subst (λ q. (meaning s).yields (written q ++ t) first.0 t) pieces first.1, (sym kept ∙ ap l same, refl)), refl);
  }

-- the same of a tag, as the canonical text has it
pub reads-word : {A : Type 0} {l : A → A} {c : A → Pieces} {F : Bytes → Type 0} (same : ℕ → ℕ → Bool) (k : Bytes) (x : A) (text : Bytes) → c x ≡ raw text → IsTrue (is_word same k text) → l x ≡ x
    → ReadsBack (tag_by same k ▹ nothing x) l c F
reads-word same k x text e agree kept = reads-names x (takes-tag same k text agree) e kept

module _ {B S : Type 0} {a : Rule S} {c : B → Pieces} {F : Bytes → Type 0} where
  pub apart-names : {K : Type 0} (s : Rule K) (x : B) → ((t : Bytes) → F t → Denies (meaning a) (written (c x) ++ t)) → Apart a (s ▹ nothing x) c F
  unfolding meaning
  apart-names s x h = record { denied = λ m v rest d y f t g. subst (λ w. Denies (meaning a) (written (c w) ++ t)) (y.1.2.0 ∙ y.2) (h t g) }

  pub apart-gives : {A : Type 0} (b : Rule A) (f : A → B) → ((x : A) (t : Bytes) → F t → Denies (meaning a) (written (c (f x)) ++ t)) → Apart a (gives f b) c F
  unfolding meaning
  apart-gives b f h = record { denied = λ m v rest d y fits t g. subst (λ w. Denies (meaning a) (written (c w) ++ t)) y.2 (h y.0 t g) }

  pub apart-alt : (b b' : Rule B) → Apart a b c F → Apart a b' c F → Apart a (alt b b') c F
  unfolding meaning
  apart-alt b b' h k = record {
    denied = λ m v rest d y f t g. elim y [ inl yb ↦ h.denied m v rest d yb f t g | inr yc ↦ k.denied m v rest d yc.1 f t g ];
  }

-- ---- options

pub takes-absent : {A : Type 0} (a : Rule A) {F : Bytes → Type 0} → ((t : Bytes) → F t → Denies (meaning a) t) → Takes (opt a) [] F
unfolding meaning
takes-absent a h = record { taken = λ f t g. (None, inr (h t g, (refl, refl))) }

module _ {A B : Type 0} {a : Rule A} (b : Rule B) {l : A → A} {c : A → Pieces} {F G : Bytes → Type 0} where
  -- what may stand behind, and does not
  pub reads-before_absent : ReadsBack a l c F → ((t : Bytes) → G t → F t) → ((t : Bytes) → G t → Denies (meaning b) t) → ReadsBack (a ◃ opt b) l c G
  unfolding meaning
  reads-before_absent h end absent = record {
    again = λ m v rest y f t g.
        ((l v, None), (t, h.again m v y.1.0 (subst (λ x. (meaning a).yields m x y.1.0) y.2 y.1.1) f t (end t g), inr (absent t g, (refl, refl))), refl);
  }

module _ {A : Type 0} {a : Rule A} {l : A → A} {c d : A → Pieces} {F : Bytes → Type 0} where
  pub reads-same : ReadsBack a l c F → ((v : A) → c v ≡ d v) → ReadsBack a l d F
  reads-same h e = record {
    again = λ m v rest y f t g. subst (λ q. (meaning a).yields (written q ++ t) (l v) t) (e v) (h.again m v rest y (subst Fits (sym (e v)) f) t g);
  }

module _ {A : Type 0} {a : Rule A} {l : A → A} {c : A → Pieces} {F G : Bytes → Type 0} where
  pub reads-some1 : ReadsBack a l c F → ((y : A) (t : Bytes) → F (written (c y) ++ t)) → ((t : Bytes) → G t → F t) → ((t : Bytes) → G t → Denies (meaning a) t)
      → ReadsBack (some1 a) (map l) (each c) G
  reads-some1 h next end stop = reads-gives _ (reads-seq h (reads-many h next end stop) follow) (λ x. refl)
    where
      follow : (ys : List A) (t : Bytes) → G t → F (written (each c ys) ++ t)
      follow [] t g = end t g
      follow (y ∷ ys) t g = subst F (sym (written_on (c y) (each c ys) t)) (next y (written (each c ys) ++ t))

-- ---- proofs in the shape of the rules, where anything may follow

module _ {A B : Type 0} {a : Rule A} {b : Rule B} {la : A → A} {lb : B → B} {ca : A → Pieces} {cb : B → Pieces} {G : Bytes → Type 0} where
  infixr 25 ◌⨾ʳ◌
  pub ◌⨾ʳ◌ : ReadsBack a la ca Any → ReadsBack b lb cb G → ReadsBack (a ⨾ b) (λ v. (la v.0, lb v.1)) (λ v. ca v.0 then cb v.1) G
  h ⨾ʳ k = reads-seq h k (λ y t g. tt)

module _ {A B : Type 0} {a : Rule A} {b : Rule B} {p : Pieces} {lb : B → B} {cb : B → Pieces} {G : Bytes → Type 0} where
  infixr 25 ◌▹ʳ◌
  pub ◌▹ʳ◌ : Takes a p Any → ReadsBack b lb cb G → ReadsBack (a ▹ b) lb (λ v. p then cb v) G
  h ▹ʳ k = reads-after h k (λ y t g. tt)

module _ {A B : Type 0} {a : Rule A} {b : Rule B} {la : A → A} {ca : A → Pieces} {q : Pieces} {G : Bytes → Type 0} where
  infixr 25 ◌◃ʳ◌
  pub ◌◃ʳ◌ : ReadsBack a la ca Any → Takes b q G → ReadsBack (a ◃ b) la (λ v. ca v then q) G
  h ◃ʳ k = reads-before h k (λ t g. tt)

-- ---- runs

pub reads-run1 : (p : ℕ → Bool) → ReadsBack (run1 p) as_is raw (BeginsWith (outside p))
unfolding meaning
reads-run1 p = record { again = λ m v rest y f t g. ((raw_on v t, y.0.1, g), y.1) }

pub denies-raw : {A : Type 0} (a : Rule A) (m : Bytes) → Denies (meaning a) m → Denies (meaning (taken_by a)) m
unfolding meaning
denies-raw a m d = d

pub ruleset denials = (denies-gives, denies-seq, denies-alt, denies-test, denies-tag, denies-counted, denies-run1, denies-raw)

pub ruleset apart_forms = (apart-alt, apart-names, apart-gives, denials)

-- one alternative after another
module _ {A : Type 0} {a b : Rule A} {l : A → A} {c : A → Pieces} {F : Bytes → Type 0} where
  pub first : ReadsBack a l c F → Apart a b c F → ReadsBack b l c F → ReadsBack (alt a b) l c F
  first h apart k = reads-alt h k apart

-- ---- what was yielded

pub run1-has : (p : ℕ → Bool) (m v rest : Bytes) → (meaning (run1 p)).yields m v rest → (m ≡ v ++ rest) × IsTrue (list_all p v) × IsTrue (begins (outside p) rest) × (0 < length v)
unfolding meaning
run1-has p m v rest y = (y.0.0, y.0.1, y.0.2, y.1)

pub reads-opt : {A : Type 0} {a : Rule A} {la : A → A} {l : Option A → Option A} {c : Option A → Pieces} {F : Bytes → Type 0} → c None ≡ [] → ReadsBack a la (λ x. c (Some x)) F
    → ((t : Bytes) → F t → Denies (meaning a) t) → ((x : A) → Some (la x) ≡ l (Some x)) → None ≡ l None → ReadsBack (opt a) l c F
unfolding meaning
reads-opt {a = a} {la = la} {l = l} {c = c} none h absent some empty = record {
  again = λ m v rest y f t g.
      elim y [
        | inl ya ↦ inl (la ya.0, subst (λ w. (meaning a).yields (written (c w) ++ t) (la ya.0) t) ya.2 (h.again m ya.0 rest ya.1 (subst (λ w. Fits (c w)) (sym ya.2) f) t g), some ya.0 ∙ ap l ya.2)
        | inr yb ↦
            let void : [] ≡ c v = sym none ∙ ap c yb.1.0 in
            let same : t ≡ written (c v) ++ t = ap (λ q. written q ++ t) void in
            inr (subst (λ m. Denies (meaning a) m) same (absent t g), (empty ∙ ap l yb.1.0, sym same))
      ];
}

pub after-has : {A B : Type 0} (s : Rule A) (a : Rule B) (m : Bytes) (v : B) (rest : Bytes) → (meaning (s ▹ a)).yields m v rest → (mid : Bytes) × (meaning a).yields mid v rest
unfolding meaning
after-has s a m v rest y = (y.1.0, subst (λ x. (meaning a).yields y.1.0 x rest) y.2 y.1.2)

pub after-on : {A B : Type 0} (s : Rule A) (a : Rule B) (m : Bytes) (x : A) (mid : Bytes) (v : B) (rest : Bytes) → (meaning s).yields m x mid → (meaning a).yields mid v rest → (meaning (s ▹ a)).yields m v rest
unfolding meaning
after-on s a m x mid v rest y z = ((x, v), (mid, y, z), refl)

pub takes-bytes : (k : Bytes) → Takes (tag_by ◌==◌ k) (raw k) Any
takes-bytes k = takes-tag ◌==◌ k k (is_word_itself k)
  where
    is_word_itself : (k : Bytes) → is_word ◌==◌ k k ≡ true
    is_word_itself [] = refl
    is_word_itself (b ∷ bs) = and_from _ _ (eq-eqb b b refl) (is_word_itself bs)

-- ---- what a form yields, taken apart and put together

pub gives-has : {A B : Type 0} (f : A → B) (a : Rule A) (m : Bytes) (v : B) (rest : Bytes) → (meaning (gives f a)).yields m v rest → (x : A) × (meaning a).yields m x rest × (f x ≡ v)
unfolding meaning
gives-has f a m v rest y = y

pub gives-on : {A B : Type 0} (f : A → B) (a : Rule A) (m : Bytes) (x : A) (rest : Bytes) → (meaning a).yields m x rest → (meaning (gives f a)).yields m (f x) rest
unfolding meaning
gives-on f a m x rest y = (x, y, refl)

pub tag-on : (same : ℕ → ℕ → Bool) (k text rest : Bytes) → IsTrue (is_word same k text) → (meaning (tag_by same k)).yields (text ++ rest) text rest
unfolding meaning
tag-on same k text rest h = (refl, h)

pub before-has : {A B : Type 0} (a : Rule A) (b : Rule B) (m : Bytes) (v : A) (rest : Bytes) → (meaning (a ◃ b)).yields m v rest → (mid : Bytes) × (meaning a).yields m v mid
unfolding meaning
before-has a b m v rest y = (y.1.0, subst (λ x. (meaning a).yields m x y.1.0) y.2 y.1.1)

pub before-on : {A B : Type 0} (a : Rule A) (b : Rule B) (m : Bytes) (v : A) (mid : Bytes) (x : B) (rest : Bytes) → (meaning a).yields m v mid → (meaning b).yields mid x rest → (meaning (a ◃ b)).yields m v rest
unfolding meaning
before-on a b m v mid x rest y z = ((v, x), (mid, y, z), refl)

-- what the second of two alternatives yields, the first reads back
module _ {A : Type 0} {a : Rule A} {l : A → A} {c : A → Pieces} {F : Bytes → Type 0} where
  pub reads-instead : (b : Rule A) → ReadsBack a l c F → ((m : Bytes) (v : A) (rest : Bytes) → (meaning b).yields m v rest → Fits (c v) → (t : Bytes) → F t → (meaning a).yields (written (c v) ++ t) (l v) t)
      → ReadsBack (alt a b) l c F
  unfolding meaning
  reads-instead b h k = record { again = λ m v rest y f t g. elim y [ inl ya ↦ inl (h.again m v rest ya f t g) | inr yb ↦ inl (k m v rest yb.1 f t g) ] }

pub takes-some : {A : Type 0} {a : Rule A} {p : Pieces} {F : Bytes → Type 0} → Takes a p F → Takes (opt a) p F
unfolding meaning
takes-some h = record { taken = λ f t g. let x = h.taken f t g in (Some x.0, inl (x.0, x.1, refl)) }

-- ---- what may follow

-- bytes that begin with k
abbrev pub Begins : ℕ → Bytes → Type 0
Begins k t = (u : Bytes) × (t ≡ k ∷ u)

pub begun : {k : ℕ} (F : Bytes → Type 0) → ((u : Bytes) → F (k ∷ u)) → (t : Bytes) → Begins k t → F t
begun F h t b = subst F (sym b.1) (h b.0)

pub starts : (p q : ℕ → Bool) → ((b : ℕ) → p b ≡ true → q b ≡ true) → (t : Bytes) → BeginsWith p t → BeginsWith q t
starts p q h [] s = absurd (false≢true s)
starts p q h (b ∷ t) s = h b s

closing : (q : ℕ → Bool) → q 41 ≡ true → q 13 ≡ true → (b : ℕ) → closes b ≡ true → q b ≡ true
closing q h41 h13 b e = elim (or_cases (b == 41) (b == 13) e) [ inl x ↦ ap q (eqb-true b 41 x) ∙ h41 | inr x ↦ ap q (eqb-true b 13 x) ∙ h13 ]

pub closes-in : (q : ℕ → Bool) → q 41 ≡ true → q 13 ≡ true → (t : Bytes) → Closes t → BeginsWith q t
closes-in q h41 h13 = starts closes q (closing q h41 h13)

pub ends_item-in : (q : ℕ → Bool) → q 41 ≡ true → q 13 ≡ true → q 32 ≡ true → (t : Bytes) → EndsItem t → BeginsWith q t
ends_item-in q h41 h13 h32 = starts ends_item q
    (λ b e. elim (or_cases (closes b) (b == 32) e) [ inl two ↦ closing q h41 h13 b two | inr x ↦ ap q (eqb-true b 32 x) ∙ h32 ])

-- ---- values of which something is known

module _ {A : Type 0} {a : Rule A} {l : A → A} {c : A → Pieces} {F : Bytes → Type 0} where
  -- another text that is the same for each value that the rule yields
  pub reads-where : {P : A → Type 0} {d : A → Pieces} → Yields P a → ReadsBack a l c F → ((v : A) → P v → c v ≡ d v) → ReadsBack a l d F
  reads-where p h e = record {
    again = λ m v rest y f t g.
        let same = e v (p.each m v rest y) in
        subst (λ q. (meaning a).yields (written q ++ t) (l v) t) same (h.again m v rest y (subst Fits (sym same) f) t g);
  }

module _ {V W : Type 0} {a : Rule V} {b : Rule W} {c : W → Pieces} {F : Bytes → Type 0} where
  -- what the first denies, by what is known of the second's values
  pub apart-where : {P : W → Type 0} → Yields P b → ((v : W) (t : Bytes) → P v → F t → Denies (meaning a) (written (c v) ++ t)) → Apart a b c F
  apart-where known h = record { denied = λ m v rest d y f t g. h v t (known.each m v rest y) g }

-- a word that stands for a value is denied where the word is
pub names-denied : {A S : Type 0} (s : Rule S) (x : A) (m : Bytes) → Denies (meaning (s ▹ nothing x)) m → Denies (meaning s) m
unfolding meaning
names-denied s x m (inl d) = d
names-denied s x m (inr y) = absurd y.3

pub tag-denied : (same : ℕ → ℕ → Bool) (k m : Bytes) → Denies (meaning (tag_by same k)) m → IsTrue (differs same k m)
unfolding meaning
tag-denied same k m d = d

pub first_yields : {A B : Type 0} {P : A → Type 0} {a : Rule A} {b : Rule B} → Yields P a → Yields (λ v. P v.0) (a ⨾ b)
unfolding meaning
first_yields p = record { each = λ m v rest y. p.each m v.0 y.0 y.1 }

module _ {A B : Type 0} {a : Rule A} {b : Rule B} {p : Pieces} {lb : B → B} {cb : B → Pieces} {F G : Bytes → Type 0} where
  -- what may follow the first part, by what is known of the second's values
  pub reads-after_where : {P : B → Type 0} → Takes a p F → Yields P b → ReadsBack b lb cb G → ((y : B) (t : Bytes) → P y → G t → F (written (cb y) ++ t)) → ReadsBack (a ▹ b) lb (λ v. p then cb v) G
  unfolding meaning
  reads-after_where h known k follow = record {
    again = λ m v rest y fits t g.
        let parts = fits-parts p (cb v) fits in
        let mid = written (cb v) ++ t in
        let inner = subst (λ x. (meaning b).yields y.1.0 x rest) y.2 y.1.2 in
        let front = h.taken parts.0 mid (follow v t (known.each y.1.0 v rest inner) g) in (
          (front.0, lb v),
          (mid, subst (λ l. (meaning a).yields l front.0 mid) (sym (written_on p (cb v) t)) front.1, k.again y.1.0 v rest inner parts.1 t g),
          refl,
        );
  }

module _ {A B : Type 0} {a : Rule A} {b : Rule B} {la : A → A} {lb : B → B} {ca : A → Pieces} {cb : B → Pieces} {F G : Bytes → Type 0} where
  pub reads-seq_where : {P : B → Type 0} → Yields P b → ReadsBack a la ca F → ReadsBack b lb cb G → ((y : B) (t : Bytes) → P y → G t → F (written (cb y) ++ t)) → ReadsBack (a ⨾ b) (λ v. (la v.0, lb v.1)) (λ v. ca v.0 then cb v.1) G
  unfolding meaning
  reads-seq_where known h k follow = record {
    again = λ m v rest y fits t g.
        let parts = fits-parts (ca v.0) (cb v.1) fits in
        let mid = written (cb v.1) ++ t in (
          mid,
          subst (λ l. (meaning a).yields l (la v.0) mid) (sym (written_on (ca v.0) (cb v.1) t)) (h.again m v.0 y.0 y.1 parts.0 mid (follow v.1 t (known.each y.0 v.1 rest y.2) g)),
          k.again y.0 v.1 rest y.2 parts.1 t g,
        );
  }

-- of two alternatives the first reads back what either yields; then others
module _ {A : Type 0} {a b r : Rule A} {l : A → A} {c : A → Pieces} {F : Bytes → Type 0} where
  pub first_instead : ReadsBack a l c F → ((m : Bytes) (v : A) (rest : Bytes) → (meaning b).yields m v rest → Fits (c v) → (t : Bytes) → F t → (meaning a).yields (written (c v) ++ t) (l v) t)
      → Apart a r c F → Apart b r c F → ReadsBack r l c F → ReadsBack (alt a (alt b r)) l c F
  unfolding meaning
  first_instead h k apart apart' others = record {
    again = λ m v rest y f t g.
        elim y [
          | inl ya ↦ inl (h.again m v rest ya f t g)
          | inr yb ↦ elim yb.1 [
            | inl here ↦ inl (k m v rest here f t g)
            | inr later ↦ inr (apart.denied m v rest yb.0 later.1 f t g, inr (apart'.denied m v rest later.0 later.1 f t g, others.again m v rest later.1 f t g))
          ]
        ];
  }
