-- What `==` tells of body structures, by what it tells of the bodies inside.
use Rattle.std.proofs.Common.{◌≡◌, refl, sym, ap, ◌∙◌, subst, Bool, true, false, ◌&&◌, map, nat_eq, List, [], ◌∷◌}
use Rattle.std.specs.Option.{option_map, option_eq}
use Rattle.std.specs.List.{AllByRecursion}
use Rattle.std.specs.Cmp.Lexicographic.{pointwise}
use Rattle.std.specs.declared.cmp.PartialEq as partial
use Rattle.std.specs.contracts.cmp.PartialEq.TheBound as bound
use Rattle.std.proofs.lemmas.Bool.{and_parts, and_from}
use denote.RattleType.{RattleType}
use denote.Enum.Compared.{by}
use mir.Syntax.{Dict}
use Rattle.imap_grammar.specs.Text.{Text, lent_text}
use Rattle.imap_grammar.specs.Equality.{Tells}
use Rattle.imap_grammar.proofs.Seen.{numbers_tell}
use Rattle.imap_body_types.specs.EnvelopeValues.{envelope_seen}
use Rattle.imap_body_types.specs.ExtensionValues.{extension_seen}
use Rattle.imap_body_types.specs.BodyValues.{BodyValue, Basic, TextBody, Message, Multipart, Bodies, no_bodies, one_body, bodies_of, common_seen, single_seen, body_step, body_seen}
use Rattle.imap_body_types.specs.Lent.{lent_envelope, lent_common, lent_single, lent_last, lent_body, lent_bodies}
use Rattle.imap_body_types.specs.declared.shapes.bodies.BodyStructure.{BodyStructure, BodyStructure-F, roll-BodyStructure, out-BodyStructure, roll-out-BodyStructure, out-roll-BodyStructure, map-BodyStructure, fold-roll-BodyStructure}
use Rattle.imap_body_types.specs.declared.shapes.bodies.BodyStructure.TheOpen as layer
use Rattle.imap_body_types.specs.declared.shapes.bodies.BodyStructure.TheBlock as block
use Rattle.imap_body_types.specs.contracts.shapes.bodies.BodyStructure as body_type
use Rattle.imap_body_types.specs.contracts.shapes.bodies.BodyStructurePartialEq.TheImpl as body_eq
use Rattle.imap_body_types.specs.contracts.shapes.bodies.BodyStructurePartialEq.TheImpl.Laws as body_laws
use Rattle.imap_body_types.specs.contracts.shapes.bodies.BodyContentCommonPartialEq.TheImpl as common_eq
use Rattle.imap_body_types.specs.contracts.shapes.bodies.BodyContentSinglePartPartialEq.TheImpl as single_eq
use Rattle.imap_body_types.specs.contracts.shapes.envelopes.EnvelopePartialEq.TheImpl as envelope_eq
use Rattle.imap_body_types.specs.contracts.shapes.extensions.BodyExtensionPartialEq.TheImpl as extension_eq
use Rattle.imap_body_types.proofs.Equality.{envelope_tells, common_tells, single_tells}
use Rattle.imap_body_types.proofs.EqualTrees.{At, everywhere, items_at, rolled, last_tells}

listed : Bodies → List BodyValue
listed no_bodies = []
listed (one_body b bs) = b ∷ listed bs

listed_is : (bs : List BodyValue) → listed (bodies_of bs) ≡ bs
unfolding listed
listed_is [] = refl
listed_is (b ∷ bs) = ap (λ l. b ∷ l) (listed_is bs)

module _
    (S B : RattleType) (q : partial.Ghosts S.Denot) (d : Dict) (r : partial.Ghosts B.Denot) (e : Dict) (s_lawful : bound.Lawful S q d) (b_lawful : bound.Lawful B r e)
    (f : S.Denot → Text) (g : B.Denot → Text) (t : Tells q.eq (λ s. lent_text (f s))) (u : Tells r.eq (λ b. lent_text (g b))) where
  abbrev Body : Type 0
  Body = BodyStructure S.Denot B.Denot

  abbrev Layer : Type 0
  Layer = BodyStructure-F S.Denot B.Denot Body

  abbrev eq : Body → Body → Bool
  eq = (body_eq.eq-value S B q d r e).it

  abbrev seen : Body → BodyValue
  seen = body_seen f g

  abbrev view : Body → BodyValue
  view b = lent_body (seen b)

  abbrev roll : Layer → Body
  roll = roll-BodyStructure S.Denot B.Denot

  abbrev out : Body → Layer
  out = out-BodyStructure S.Denot B.Denot

  abbrev whole : (b : Body) → roll (out b) ≡ b
  whole = roll-out-BodyStructure S.Denot B.Denot

  abbrev layer_eq : Layer → Layer → Bool
  layer_eq x y =
      by false false (body_type.enum S B).parts (
        λ a b. (common_eq.eq-value S q d).it a.0 b.0 && ((single_eq.eq-value S q d).it a.1.0 b.1.0 && option_eq (extension_eq.eq-value S q d).it a.1.1.0 b.1.1.0),
        (
          λ a b. (common_eq.eq-value S q d).it a.0 b.0 && ((single_eq.eq-value S q d).it a.1.0 b.1.0 && (nat_eq a.1.1.0 b.1.1.0 && option_eq (extension_eq.eq-value S q d).it a.1.1.1.0 b.1.1.1.0)),
          (
            λ a b. (common_eq.eq-value S q d).it a.0 b.0 && ((single_eq.eq-value S q d).it a.1.0 b.1.0 && ((envelope_eq.eq-value B r e).it a.1.1.0 b.1.1.0 && (eq a.1.1.1.0.value b.1.1.1.0.value && (nat_eq a.1.1.1.1.0 b.1.1.1.1.0 && option_eq (extension_eq.eq-value S q d).it a.1.1.1.1.1.0 b.1.1.1.1.1.0)))),
            (λ a b. (common_eq.eq-value S q d).it a.0 b.0 && (pointwise eq a.1.0.items b.1.0.items && option_eq (extension_eq.eq-value S q d).it a.1.1.0 b.1.1.0), tt),
          ),
        ),
      ) (block.split-BodyStructure S.Denot B.Denot (λ i. Body) x) (block.split-BodyStructure S.Denot B.Denot (λ i. Body) y)

  layer_view : Layer → BodyValue
  layer_view (layer.Basic common other last) = Basic (lent_common (common_seen f common)) (lent_single (single_seen f other)) (lent_last (option_map (extension_seen f) last))
  layer_view (layer.Text common other lines last) = TextBody (lent_common (common_seen f common)) (lent_single (single_seen f other)) lines (lent_last (option_map (extension_seen f) last))
  layer_view (layer.Message common other envelope inner lines last) = Message (lent_common (common_seen f common)) (lent_single (single_seen f other)) (lent_envelope (envelope_seen g envelope)) (view inner.value) lines (lent_last (option_map (extension_seen f) last))
  layer_view (layer.Multipart common bodies last) = Multipart (lent_common (common_seen f common)) (bodies_of (map view bodies.items)) (lent_last (option_map (extension_seen f) last))

  opened : (x y : Layer) → eq (roll x) (roll y) ≡ layer_eq x y
  opened x y = body_laws.is S B q d r e s_lawful b_lawful (roll x) (roll y) ∙ (λ i. layer_eq (out-roll-BodyStructure S.Denot B.Denot x i) (out-roll-BodyStructure S.Denot B.Denot y i))

  all_lent : (bs : List Body) → lent_bodies (bodies_of (map seen bs)) ≡ bodies_of (map view bs)
  all_lent [] = refl
  all_lent (b ∷ bs) = ap (one_body (view b)) (all_lent bs)

  said : (x : Layer) → seen (roll x) ≡ body_step f g (map-BodyStructure S.Denot B.Denot Body BodyValue seen x)
  said = fold-roll-BodyStructure S.Denot B.Denot BodyValue (body_step f g)

  shown : (x : Layer) → view (roll x) ≡ layer_view x
  unfolding layer_view
  shown (layer.Basic common other last) = ap lent_body (said (layer.Basic common other last))
  shown (layer.Text common other lines last) = ap lent_body (said (layer.Text common other lines last))
  shown (layer.Message common other envelope inner lines last) = ap lent_body (said (layer.Message common other envelope inner lines last))
  shown (layer.Multipart common bodies last) = ap lent_body (said (layer.Multipart common bodies last)) ∙ ap (λ l. Multipart (lent_common (common_seen f common)) l (lent_last (option_map (extension_seen f) last))) (all_lent bodies.items)

  abbrev Inside : Layer → Type 0
  Inside (layer.Basic common other last) = Unit {0}
  Inside (layer.Text common other lines last) = Unit {0}
  Inside (layer.Message common other envelope inner lines last) = At eq view inner.value
  Inside (layer.Multipart common bodies last) = AllByRecursion (At eq view) bodies.items

  commons : Tells (common_eq.eq-value S q d).it (λ x. lent_common (common_seen f x))
  commons = common_tells S q d f t

  singles : Tells (single_eq.eq-value S q d).it (λ x. lent_single (single_seen f x))
  singles = single_tells S q d f t

  envelopes : Tells (envelope_eq.eq-value B r e).it (λ x. lent_envelope (envelope_seen g x))
  envelopes = envelope_tells B r e g u

  lasts : Tells (option_eq (extension_eq.eq-value S q d).it) (λ x. lent_last (option_map (extension_seen f) x))
  lasts = last_tells S q d s_lawful f t

  layer_same : (x y : Layer) → Inside x → layer_eq x y ≡ true → layer_view x ≡ layer_view y
  unfolding layer_view
  layer_same (layer.Basic c o l) (layer.Basic c' o' l') a h =
      let common = and_parts _ _ h in
      let other = and_parts _ _ common.1 in
      (λ i. Basic (commons.same c c' common.0 i) (singles.same o o' other.0 i) (lasts.same l l' other.1 i))
  layer_same (layer.Text c o n l) (layer.Text c' o' n' l') a h =
      let common = and_parts _ _ h in
      let other = and_parts _ _ common.1 in
      let lines = and_parts _ _ other.1 in
      (λ i. TextBody (commons.same c c' common.0 i) (singles.same o o' other.0 i) (numbers_tell.same n n' lines.0 i) (lasts.same l l' lines.1 i))
  layer_same (layer.Message c o v b n l) (layer.Message c' o' v' b' n' l') a h =
      let common = and_parts _ _ h in
      let other = and_parts _ _ common.1 in
      let envelope = and_parts _ _ other.1 in
      let inner = and_parts _ _ envelope.1 in
      let lines = and_parts _ _ inner.1 in
      (λ i. Message (commons.same c c' common.0 i) (singles.same o o' other.0 i) (envelopes.same v v' envelope.0 i) (a.same b'.value inner.0 i) (numbers_tell.same n n' lines.0 i) (lasts.same l l' lines.1 i))
  layer_same (layer.Multipart c v l) (layer.Multipart c' v' l') a h =
      let common = and_parts _ _ h in
      let bodies = and_parts _ _ common.1 in
      (λ i. Multipart (commons.same c c' common.0 i) (bodies_of ((items_at eq view v.items a).same v'.items bodies.0 i)) (lasts.same l l' bodies.1 i))
  layer_same x y a h = cc

  layer_equal : (x y : Layer) → Inside x → layer_view x ≡ layer_view y → layer_eq x y ≡ true
  unfolding layer_view
  layer_equal (layer.Basic c o l) (layer.Basic c' o' l') a h =
      and_from _ _ (commons.equal c c' cc) (and_from _ _ (singles.equal o o' cc) (lasts.equal l l' cc))
  layer_equal (layer.Text c o n l) (layer.Text c' o' n' l') a h =
      and_from _ _ (commons.equal c c' cc) (and_from _ _ (singles.equal o o' cc) (and_from _ _ (numbers_tell.equal n n' cc) (lasts.equal l l' cc)))
  layer_equal (layer.Message c o v b n l) (layer.Message c' o' v' b' n' l') a h =
      and_from _ _ (commons.equal c c' cc) (and_from _ _ (singles.equal o o' cc) (and_from _ _ (envelopes.equal v v' cc)
      (and_from _ _ (a.equal b'.value cc) (and_from _ _ (numbers_tell.equal n n' cc) (lasts.equal l l' cc)))))
  layer_equal (layer.Multipart c v l) (layer.Multipart c' v' l') a h =
      let bodies : bodies_of (map view v.items) ≡ bodies_of (map view v'.items) = cc in
      let each = sym (listed_is (map view v.items)) ∙ ap listed bodies ∙ listed_is (map view v'.items) in
      and_from _ _ (commons.equal c c' cc) (and_from _ _ ((items_at eq view v.items a).equal v'.items each) (lasts.equal l l' cc))
  layer_equal x y a h = cc

  at_roll : (x : Layer) → Inside x → At eq view (roll x)
  at_roll x a = rolled roll out whole eq view layer_eq layer_view opened shown x (record { same = λ y h. layer_same x y a h; equal = λ y h. layer_equal x y a h })

  mutual
    told : (v : BodyValue) (x : Layer) → seen (roll x) ≡ v → At eq view (roll x)
    told v (layer.Basic c o l) h = at_roll (layer.Basic c o l) tt
    told v (layer.Text c o n l) h = at_roll (layer.Text c o n l) tt
    told (Message common single envelope body lines last) (layer.Message c o w b n l) h =
        let is = sym (said (layer.Message c o w b n l)) ∙ h in
        let inner : seen b.value ≡ body = cc in
        at_roll (layer.Message c o w b n l) (subst (At eq view) (whole b.value) (told body (out b.value) (ap seen (whole b.value) ∙ inner)))
    told (Multipart common bodies last) (layer.Multipart c w l) h =
        let is : Multipart (common_seen f c) (bodies_of (map seen w.items)) (option_map (extension_seen f) l) ≡ Multipart common bodies last = sym (said (layer.Multipart c w l)) ∙ h in
        at_roll (layer.Multipart c w l) (told_all bodies w.items cc)
    told v x h = let is = sym (said x) ∙ h in absurd cc

    told_all : (vs : Bodies) (bs : List Body) → bodies_of (map seen bs) ≡ vs → AllByRecursion (At eq view) bs
    told_all vs [] h = tt
    told_all (one_body v vs) (b ∷ bs) h = (subst (At eq view) (whole b) (told v (out b) (ap seen (whole b) ∙ cc)), told_all vs bs cc)
    told_all no_bodies (b ∷ bs) h = absurd cc

  pub body_tells : Tells eq view
  body_tells = everywhere (λ b. subst (At eq view) (whole b) (told (seen (roll (out b))) (out b) refl))
