-- Capabilities: the revision among them, and what `==` and hashing tell.
use Rattle.std.proofs.Common.{◌≡◌, List, [], ◌∷◌, refl, ap, map, true}
use Rattle.std.specs.Prelude.{◌||◌}
use Rattle.std.specs.List.{list_any}
use Rattle.imap_grammar.specs.Equality.{Tells}
use Rattle.imap_grammar.proofs.Seen.{texts_tell}
use Rattle.imap_shared.specs.Capabilities.{capability_value, capability_content, Auth, Atom}
use Rattle.imap_shared.specs.Capabilities.{is_revision}
use Rattle.imap_shared.specs.declared.types.capabilities.Capability.{Capability}
use Rattle.imap_shared.specs.declared.types.capabilities.Capability.TheVariants as capability
use Rattle.imap_shared.specs.contracts.types.capabilities.CapabilityPartialEq.TheImpl as capability_eq

pub any_of_values : (items : List Capability) → list_any is_revision (map capability_value items) ≡ list_any (λ c. is_revision (capability_value c)) items
any_of_values [] = refl
any_of_values (c ∷ items) = ap (λ b. is_revision (capability_value c) || b) (any_of_values items)

capability_same : (x y : Capability) → (capability_eq.eq-value).it x y ≡ true → capability_content x ≡ capability_content y
capability_same capability.Imap4rev1 capability.Imap4rev1 h = refl
capability_same (capability.Auth x) (capability.Auth y) h = ap Auth (texts_tell.same x y h)
capability_same (capability.Atom x) (capability.Atom y) h = ap Atom (texts_tell.same x y h)
capability_same x y h = cc

capability_equal : (x y : Capability) → capability_content x ≡ capability_content y → (capability_eq.eq-value).it x y ≡ true
capability_equal capability.Imap4rev1 capability.Imap4rev1 h = refl
capability_equal (capability.Auth x) (capability.Auth y) h = texts_tell.equal x y cc
capability_equal (capability.Atom x) (capability.Atom y) h = texts_tell.equal x y cc
capability_equal x y h = cc

pub capability_tells : Tells (capability_eq.eq-value).it capability_content
capability_tells = record { same = capability_same; equal = capability_equal }
