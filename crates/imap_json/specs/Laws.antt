-- What the JSON of values tells.
use Rattle.std.specs.Prelude.{◌≡◌, ◌^◌, ◌<◌, ⊤}
use Rattle.serde_json.specs.Data.{Data, null, boolean, number, string, array, object, Num, unsigned, Items, no_items, item, Members, no_members, member}

-- It tells all that a value says and nothing else, where two values say the same if `lent` makes them equal.
pub record IsFaithful {A : Type 0} (json : A → Data) (lent : A → A) : Type 0 where
  pub apart : (a b : A) → json a ≡ json b → lent a ≡ lent b
  pub alike : (a : A) → json (lent a) ≡ json a

-- each number is one of 64 bits, without a sign
abbrev pub IsU64 : Num → Type 0
IsU64 (unsigned n) = n < 2 ^ 64
IsU64 other = ⊥

abbrev mutual
  pub HasU64s : Data → Type 0
  HasU64s null = ⊤
  HasU64s (boolean b) = ⊤
  HasU64s (number n) = IsU64 n
  HasU64s (string s) = ⊤
  HasU64s (array ds) = ItemsHaveU64s ds
  HasU64s (object ms) = MembersHaveU64s ms

  pub ItemsHaveU64s : Items → Type 0
  ItemsHaveU64s no_items = ⊤
  ItemsHaveU64s (item d ds) = HasU64s d × ItemsHaveU64s ds

  pub MembersHaveU64s : Members → Type 0
  MembersHaveU64s no_members = ⊤
  MembersHaveU64s (member k d ms) = HasU64s d × MembersHaveU64s ms
