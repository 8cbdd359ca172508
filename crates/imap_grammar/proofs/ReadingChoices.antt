-- Choices where one alternative reads back the values that another yielded; and fields that may be missing.
use Rattle.std.proofs.Common.{◌≡◌, [], ◌++◌, Option, None, Some, sym, ◌∙◌, ap, subst, refl, inl, inr}
use Rattle.imap_grammar.specs.Meaning.{Denies}
use Rattle.imap_grammar.specs.Rule.{Rule, alt, meaning}
use Rattle.imap_grammar.specs.Text.{Bytes}
use Rattle.imap_grammar.specs.Lists.{flat, opt_opt_of}
use Rattle.imap_grammar.specs.Pieces.{Pieces, written, Fits}
use Rattle.imap_grammar.specs.ReadBack.{ReadsBack, Apart}
use Rattle.imap_grammar.proofs.Yields.{Yields}

pub on-first : {A : Type 0} (a b : Rule A) (m : Bytes) (v : A) (rest : Bytes) → (meaning a).yields m v rest → (meaning (alt a b)).yields m v rest
unfolding meaning
on-first a b m v rest y = inl y

pub on-second : {A : Type 0} (a b : Rule A) (m : Bytes) (v : A) (rest : Bytes) → Denies (meaning a) m → (meaning b).yields m v rest → (meaning (alt a b)).yields m v rest
unfolding meaning
on-second a b m v rest d y = inr (d, y)

-- Of two alternatives one or the other reads back what the first yields.
module _ {A : Type 0} {a b : Rule A} {l : A → A} {c : A → Pieces} {F : Bytes → Type 0} where
  pub reads-either : ((m : Bytes) (v : A) (rest : Bytes) → (meaning a).yields m v rest → Fits (c v) → (t : Bytes) → F t → (meaning (alt a b)).yields (written (c v) ++ t) (l v) t)
      → ReadsBack b l c F → Apart a b c F → ReadsBack (alt a b) l c F
  unfolding meaning
  reads-either h k apart = record {
    again = λ m v rest y f t g.
        elim y [
          | inl ya ↦ h m v rest ya f t g
          | inr yb ↦ inr (apart.denied m v rest yb.0 yb.1 f t g, k.again m v rest yb.1 f t g)
        ];
  }

  -- the first yields one value alone, which the second reads back, as it yields it on some bytes too
  pub reads-later_one : (x : A) (m : Bytes) → Yields (λ v. v ≡ x) a → (meaning b).yields m x [] → ((t : Bytes) → F t → Denies (meaning a) (written (c x) ++ t)) → ReadsBack b l c F → Apart a b c F → ReadsBack (alt a b) l c F
  unfolding meaning
  reads-later_one x m known y denied k apart =
      reads-either (λ n v rest ya f t g.
      let same = known.each n v rest ya in
      let fits = subst (λ w. Fits (c w)) same f in
      subst (λ w. (meaning (alt a b)).yields (written (c w) ++ t) (l w) t) (sym same) (inr (denied t g, k.again m x [] y fits t g)))
      k apart

-- ---- fields that may be missing

module _ {A : Type 0} {a : Rule (Option A)} {l : Option A → Option A} {c : Option A → Pieces} {F : Bytes → Type 0} where
  -- a field that is missing is written as one without a value
  pub reads-opt_opt : ReadsBack a l c F → ((t : Bytes) → F t → (meaning a).yields (written (c None) ++ t) None t) → l None ≡ None → ReadsBack (opt_opt_of a) l c F
  unfolding meaning
  reads-opt_opt h none empty = record {
    again = λ m v rest y f t g.
        elim y.1 [
          | inl ya ↦
              let same = ap flat ya.2 ∙ y.2 in
              (Some (l v), inl (l v, h.again m v rest (subst (λ x. (meaning a).yields m x rest) same ya.1) f t g, refl), refl)
          | inr yb ↦ subst (λ w. (meaning (opt_opt_of a)).yields (written (c w) ++ t) (l w) t) (ap flat yb.1.0 ∙ y.2) (Some None, inl (None, none t g, refl), sym empty)
        ];
  }
