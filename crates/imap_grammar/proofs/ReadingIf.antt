-- The forms read back the values of which a condition holds.
use Rattle.std.proofs.Common.{◌≡◌, ◌++◌, sym, ◌∙◌, ap, subst, refl, inl, inr}
use Rattle.imap_grammar.specs.Rule.{Rule, alt, gives, ◌⨾◌, ◌▹◌, ◌◃◌, meaning}
use Rattle.imap_grammar.specs.Text.{Bytes}
use Rattle.imap_grammar.specs.Pieces.{Pieces, written, Fits, ◌then◌}
use Rattle.imap_grammar.specs.ReadBack.{ReadsBack, ReadsBackIf, Takes, Apart, Any}
use Rattle.imap_grammar.proofs.Reading.{written_on, fits-parts}

-- where every value reads back
pub if-all : {V : Type 0} {P : V → Type 0} {r : Rule V} {l : V → V} {c : V → Pieces} {F : Bytes → Type 0} → ReadsBack r l c F → ReadsBackIf P r l c F
if-all h = record { again = λ m v rest y o fits t g. h.again m v rest y fits t g }

module _ {V : Type 0} {P : V → Type 0} {r : Rule V} {l : V → V} {c : V → Pieces} {F G : Bytes → Type 0} where
  pub follow-if : ReadsBackIf P r l c F → ((t : Bytes) → G t → F t) → ReadsBackIf P r l c G
  follow-if h k = record { again = λ m v rest y o fits t g. h.again m v rest y o fits t (k t g) }

-- the condition is one of the second value
module _ {A B : Type 0} {P : B → Type 0} {a : Rule A} {b : Rule B} {la : A → A} {lb : B → B} {ca : A → Pieces} {cb : B → Pieces} {F G : Bytes → Type 0} where
  pub seq-if : ReadsBack a la ca F → ReadsBackIf P b lb cb G → ((y : B) (t : Bytes) → G t → F (written (cb y) ++ t)) → ReadsBackIf (λ v. P v.1) (a ⨾ b) (λ v. (la v.0, lb v.1)) (λ v. ca v.0 then cb v.1) G
  unfolding meaning
  seq-if h k follow = record {
    again = λ m v rest y o fits t g.
        let parts = fits-parts (ca v.0) (cb v.1) fits in
        let mid = written (cb v.1) ++ t in (
          mid,
          subst (λ l. (meaning a).yields l (la v.0) mid) (sym (written_on (ca v.0) (cb v.1) t)) (h.again m v.0 y.0 y.1 parts.0 mid (follow v.1 t g)),
          k.again y.0 v.1 rest y.2 o parts.1 t g,
        );
  }

module _ {A B : Type 0} {P : B → Type 0} {a : Rule A} {b : Rule B} {p : Pieces} {lb : B → B} {cb : B → Pieces} {G : Bytes → Type 0} where
  pub after-if : Takes a p Any → ReadsBackIf P b lb cb G → ReadsBackIf P (a ▹ b) lb (λ v. p then cb v) G
  unfolding meaning
  after-if h k = record {
    again = λ m v rest y o fits t g.
        let parts = fits-parts p (cb v) fits in
        let mid = written (cb v) ++ t in
        let front = h.taken parts.0 mid tt in (
          (front.0, lb v),
          (
            mid,
            subst (λ l. (meaning a).yields l front.0 mid) (sym (written_on p (cb v) t)) front.1,
            k.again y.1.0 v rest (subst (λ x. (meaning b).yields y.1.0 x rest) y.2 y.1.2) o parts.1 t g,
          ),
          refl,
        );
  }

module _ {A B : Type 0} {P : A → Type 0} {a : Rule A} {b : Rule B} {la : A → A} {ca : A → Pieces} {q : Pieces} {F G : Bytes → Type 0} where
  pub before-if : ReadsBackIf P a la ca F → Takes b q G → ((t : Bytes) → G t → F (written q ++ t)) → ReadsBackIf P (a ◃ b) la (λ v. ca v then q) G
  unfolding meaning
  before-if h k follow = record {
    again = λ m v rest y o fits t g.
        let parts = fits-parts (ca v) q fits in
        let mid = written q ++ t in
        let second = k.taken parts.1 t g in (
          (la v, second.0),
          (
            mid,
            subst (λ l. (meaning a).yields l (la v) mid) (sym (written_on (ca v) q t))
                (h.again m v y.1.0 (subst (λ x. (meaning a).yields m x y.1.0) y.2 y.1.1) o parts.0 mid (follow t g)),
            second.1,
          ),
          refl,
        );
  }

module _ {A B : Type 0} {P : B → Type 0} {a : Rule A} {la : A → A} {lb : B → B} {c : B → Pieces} {F : Bytes → Type 0} where
  pub gives-if : (f : A → B) → ReadsBackIf (λ x. P (f x)) a la (λ x. c (f x)) F → ((x : A) → f (la x) ≡ lb (f x)) → ReadsBackIf P (gives f a) lb c F
  unfolding meaning
  gives-if f h law = record {
    again = λ m v rest y o fits t g. (
      la y.0,
      subst (λ w. (meaning a).yields (written (c w) ++ t) (la y.0) t) y.2
          (h.again m y.0 rest y.1 (subst P (sym y.2) o) (subst (λ w. Fits (c w)) (sym y.2) fits) t g),
      law y.0 ∙ ap lb y.2,
    );
  }

module _ {A : Type 0} {P : A → Type 0} {a b : Rule A} {l : A → A} {c : A → Pieces} {F : Bytes → Type 0} where
  pub alt-if : ReadsBackIf P a l c F → ReadsBackIf P b l c F → Apart a b c F → ReadsBackIf P (alt a b) l c F
  unfolding meaning
  alt-if h k apart = record {
    again = λ m v rest y o fits t g.
        elim y [
          | inl ya ↦ inl (h.again m v rest ya o fits t g)
          | inr yb ↦ inr (apart.denied m v rest yb.0 yb.1 fits t g, k.again m v rest yb.1 o fits t g)
        ];
  }
