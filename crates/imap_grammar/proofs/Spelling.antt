-- What each form takes spells its value.
use Rattle.std.proofs.Common.{◌≡◌, ℕ, ◌⊎◌, Bool, true, ◌==◌, List, [], ◌∷◌, ◌++◌, length, None, Some, sym, ◌∙◌, ap, subst, refl, inl, inr, append_assoc, codes}
use Prim.Native.String.{String}
use Rattle.std.specs.Str.{is_utf8}
use Rattle.std.proofs.lemmas.List.{append_cancel_right}
use Rattle.imap_grammar.specs.Meaning.{Cuts}
use Rattle.imap_grammar.specs.Rule.{Rule, tag_by, run0, run1, gives, test, raw, nothing, never, opt, many, counted, ◌⨾◌, ◌▹◌, ◌◃◌, ◌or◌, some1, list1, list0, meaning}
use Rattle.imap_grammar.specs.Text.{Bytes}
use Rattle.imap_grammar.specs.Classes.{is_blank}
use Rattle.imap_grammar.specs.Tags.{tag, word, maybe_space, blanks0, blanks1, crlf}
use Rattle.imap_grammar.specs.Lists.{list_of, nonempty_list_of}
use Rattle.imap_grammar.specs.ReadBack.{Texts, Spells}
use Rattle.imap_grammar.specs.Spelling.{this, exactly, in_any_case, ◌and◌, all_of, some_of, utf8_of, as_it_is, maybe, blanks, some_blanks, each_of, some_each_of, some_with_between, with_between, spells_list, spells_some_list}
use Rattle.imap_grammar.proofs.Yields.{Yields}
use Rattle.imap_grammar.proofs.Reading.{test-has}
use Rattle.imap_grammar.proofs.ReadingWords.{exact}

module _ {A B : Type 0} {a : Rule A} {b : Rule B} {S : A → Texts} {T : B → Texts} where
  infixr 25 ◌⨾ˢ◌
  pub ◌⨾ˢ◌ : Spells a S → Spells b T → Spells (a ⨾ b) (λ v. S v.0 and T v.1)
  unfolding meaning
  h ⨾ˢ k = record {
    consumed = λ m v rest y.
        let x = h.consumed m v.0 y.0 y.1 in
        let z = k.consumed y.0 v.1 rest y.2 in
        (x.0 ++ z.0, x.1 ∙ ap (λ l. x.0 ++ l) z.1 ∙ sym (append_assoc x.0 z.0 rest), (x.0, z.0, refl, x.2, z.2));
  }

module _ {A B : Type 0} {a : Rule A} {b : Rule B} {P : Texts} {T : B → Texts} where
  infixr 25 ◌▹ˢ◌
  pub ◌▹ˢ◌ : Spells a (λ _. P) → Spells b T → Spells (a ▹ b) (λ v. P and T v)
  unfolding meaning
  h ▹ˢ k = record {
    consumed = λ m v rest y.
        let pair = (h ⨾ˢ k).consumed m y.0 rest y.1 in
        (pair.0, pair.1, subst (λ w. (P and T w) pair.0) y.2 pair.2);
  }

module _ {A B : Type 0} {a : Rule A} {b : Rule B} {S : A → Texts} {P : Texts} where
  infixr 25 ◌◃ˢ◌
  pub ◌◃ˢ◌ : Spells a S → Spells b (λ _. P) → Spells (a ◃ b) (λ v. S v and P)
  unfolding meaning
  h ◃ˢ k = record {
    consumed = λ m v rest y.
        let pair = (h ⨾ˢ k).consumed m y.0 rest y.1 in
        (pair.0, pair.1, subst (λ w. (S w and P) pair.0) y.2 pair.2);
  }

module _ {A B : Type 0} {a : Rule A} {T : B → Texts} where
  pub spells-gives : (f : A → B) → Spells a (λ x. T (f x)) → Spells (gives f a) T
  unfolding meaning
  spells-gives f h = record {
    consumed = λ m v rest y.
        let x = h.consumed m y.0 rest y.1 in
        (x.0, x.1, subst (λ w. T w x.0) y.2 x.2);
  }

module _ {A : Type 0} {a : Rule A} {S : A → Texts} where
  pub spells-wider : {T : A → Texts} → Spells a S → ((v : A) (c : Bytes) → S v c → T v c) → Spells a T
  spells-wider h k = record { consumed = λ m v rest y. let x = h.consumed m v rest y in (x.0, x.1, k v x.0 x.2) }

  pub spells-test : (p : A → Bool) → Spells a S → Spells (test p a) S
  spells-test p h = record { consumed = λ m v rest y. h.consumed m v rest (test-has p a m v rest y).0 }

  -- with what is known of the value
  pub spells-where : {P : A → Type 0} {T : A → Texts} → Yields P a → Spells a S → ((v : A) (c : Bytes) → P v → S v c → T v c) → Spells a T
  spells-where p h k = record { consumed = λ m v rest y. let x = h.consumed m v rest y in (x.0, x.1, k v x.0 (p.each m v rest y) x.2) }

  pub spells-tested : (p : A → Bool) → Spells a S → Spells (test p a) (λ v c. (p v ≡ true) × S v c)
  spells-tested p h = record { consumed = λ m v rest y. let has = test-has p a m v rest y in let x = h.consumed m v rest has.0 in (x.0, x.1, (has.1, x.2)) }

module _ {A : Type 0} {a b : Rule A} {T : A → Texts} where
  infixr 20 ◌orˢ◌
  pub ◌orˢ◌ : Spells a T → Spells b T → Spells (a or b) T
  unfolding meaning
  h orˢ k = record { consumed = λ m v rest y. elim y [ inl ya ↦ h.consumed m v rest ya | inr yb ↦ k.consumed m v rest yb.1 ] }

module _ {A : Type 0} {a b : Rule A} {S T : A → Texts} where
  infixr 20 ◌⊎ˢ◌
  pub ◌⊎ˢ◌ : Spells a S → Spells b T → Spells (a or b) (λ v c. S v c ⊎ T v c)
  h ⊎ˢ k = spells-wider h (λ v c x. inl x) orˢ spells-wider k (λ v c x. inr x)

module _ {A S : Type 0} {s : Rule S} {T : A → Texts} where
  pub spells-names : (x : A) → Spells s (λ _. T x) → Spells (s ▹ nothing x) T
  unfolding meaning
  spells-names x h = record {
    consumed = λ m v rest y.
        let z = h.consumed m y.0.0 y.1.0 y.1.1 in
        (z.0, z.1 ∙ ap (λ l. z.0 ++ l) y.1.2.1, subst (λ w. T w z.0) (y.1.2.0 ∙ y.2) z.2);
  }

pub spells-nothing : {A : Type 0} (x : A) {T : A → Texts} → T x [] → Spells (nothing x) T
unfolding meaning
spells-nothing x {T} h = record { consumed = λ m v rest y. ([], y.1, subst (λ w. T w []) y.0 h) }

pub spells-never : {A : Type 0} {T : A → Texts} → Spells (never {A = A}) T
unfolding meaning
spells-never = record { consumed = λ m v rest y. absurd y }

pub spells-word : (k : String) → Spells (word k) (λ _. in_any_case k)
unfolding meaning
spells-word k = record { consumed = λ m v rest y. (v, y.0, y.1) }

pub spells-bytes : (k : Bytes) → Spells (tag_by ◌==◌ k) (λ _. this k)
unfolding meaning
spells-bytes k = record { consumed = λ m v rest y. (v, y.0, sym (exact k v y.1)) }

pub spells-tag : (k : String) → Spells (tag k) (λ _. exactly k)
spells-tag k = spells-bytes (codes k)

pub spells-crlf : Spells crlf (λ _. this (13 ∷ 10 ∷ []))
spells-crlf = spells-bytes (13 ∷ 10 ∷ [])

pub spells-run0 : (p : ℕ → Bool) → Spells (run0 p) (as_it_is (all_of p))
unfolding meaning
spells-run0 p = record { consumed = λ m v rest y. (v, y.0, (refl, y.1)) }

pub spells-run1 : (p : ℕ → Bool) → Spells (run1 p) (as_it_is (some_of p))
unfolding meaning
spells-run1 p = record { consumed = λ m v rest y. (v, y.0.0, (refl, (y.0.1, y.1))) }

pub spells-blanks0 : Spells blanks0 (λ _. blanks)
spells-blanks0 = spells-wider (spells-run0 is_blank) (λ v c h. subst blanks (sym h.0) h.1)

pub spells-blanks1 : Spells blanks1 (λ _. some_blanks)
spells-blanks1 = spells-wider (spells-run1 is_blank) (λ v c h. subst some_blanks (sym h.0) h.1)

-- the bytes that a rule takes, as they are
pub spells-taken : {A : Type 0} {a : Rule A} → Spells (raw a) this
unfolding meaning
spells-taken = record { consumed = λ m v rest y. (v, y.2, refl) }

pub spells-utf8 : (p : ℕ → Bool) → Spells (test is_utf8 (run1 p)) (as_it_is (utf8_of p))
spells-utf8 p = spells-wider (spells-tested is_utf8 (spells-run1 p)) (λ v c h. (h.1.0, (h.1.1, h.0)))

pub spells-raw : {A : Type 0} {a : Rule A} {S : A → Texts} {P : Texts} → Spells a S → ((x : A) (c : Bytes) → S x c → P c) → Spells (raw a) (as_it_is P)
unfolding meaning
spells-raw {P = P} h k = record {
  consumed = λ m v rest y.
      let x = h.consumed m y.0 rest y.1 in
      let same = append_cancel_right x.0 v rest (sym x.1 ∙ y.2) in
      (x.0, x.1, (same, subst P same (k y.0 x.0 x.2)));
}

pub spells-counted : {header : Rule ℕ} {H : ℕ → Texts} → Spells header H → Spells (counted header) (λ v. H (length v) and this v)
unfolding meaning
spells-counted h = record {
  consumed = λ m v rest y.
      let x = h.consumed m (length v) y.0 y.1 in
      (x.0 ++ v, x.1 ∙ ap (λ l. x.0 ++ l) y.2 ∙ sym (append_assoc x.0 v rest), (x.0, v, refl, x.2, refl));
}

module _ {A : Type 0} {a : Rule A} {S : A → Texts} where
  cuts : Spells a S → (vs : List A) (m rest : Bytes) → Cuts (meaning a) m vs rest → (c : Bytes) × (m ≡ c ++ rest) × each_of S vs c
  cuts h [] m rest y = ([], y, refl)
  cuts h (v ∷ vs) m rest y =
      let x = h.consumed m v y.0 y.1 in
      let z = cuts h vs y.0 rest y.2 in
      (x.0 ++ z.0, x.1 ∙ ap (λ l. x.0 ++ l) z.1 ∙ sym (append_assoc x.0 z.0 rest), (x.0, z.0, refl, x.2, z.2))

  pub spells-many : Spells a S → Spells (many a) (each_of S)
  unfolding meaning
  spells-many h = record { consumed = λ m v rest y. cuts h v m rest y.0 }

pub some-between : {A : Type 0} (P : Texts) (S : A → Texts) (vs : List A) (c : Bytes) → some_with_between P S vs c → with_between P S vs c
some-between P S [] c h = absurd h
some-between P S (v ∷ vs) c h = h

module _ {A : Type 0} {a : Rule A} {S : A → Texts} where
  pub spells-some1 : Spells a S → Spells (some1 a) (some_each_of S)
  spells-some1 h = spells-gives _ (h ⨾ˢ spells-many h)

  pub spells-list1 : {P : Texts} {K : Type 0} {s : Rule K} → Spells s (λ _. P) → Spells a S → Spells (list1 s a) (some_with_between P S)
  spells-list1 k h = spells-gives _ (h ⨾ˢ spells-many (k ▹ˢ h))

  pub spells-list0 : {P : Texts} {K : Type 0} {s : Rule K} → Spells s (λ _. P) → Spells a S → Spells (list0 s a) (with_between P S)
  spells-list0 k h = spells-wider (spells-list1 k h) (some-between _ _) orˢ spells-nothing [] refl

-- maybe a rule whose value is not looked at
pub spells-maybe : {A : Type 0} {a : Rule A} {P : Texts} → Spells a (λ _. P) → Spells (opt a) (λ _. maybe P)
spells-maybe h = spells-gives Some (spells-wider h (λ v c x. inr x)) orˢ spells-nothing None (inl refl)

pub spells-maybe_space : Spells maybe_space (λ _. maybe (exactly " "))
spells-maybe_space = spells-maybe (spells-tag " ")

module _ {A : Type 0} {a : Rule A} {S : A → Texts} where
  pub spells-list_of : Spells a S → Spells (list_of a) (spells_list S)
  spells-list_of h = spells-tag "(" ▹ˢ spells-list0 (spells-tag " ") h ◃ˢ (spells-maybe_space ⨾ˢ spells-tag ")")

  pub spells-nonempty_list_of : Spells a S → Spells (nonempty_list_of a) (spells_some_list S)
  spells-nonempty_list_of h = spells-tag "(" ▹ˢ spells-list1 (spells-tag " ") h ◃ˢ (spells-blanks0 ⨾ˢ spells-tag ")")
