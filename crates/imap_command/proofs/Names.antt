-- A name behind its first bytes.
use Rattle.std.proofs.Common.{◌≡◌, ℕ, List, [], ◌∷◌, Bool, true, false, refl}
use Rattle.std.specs.Prelude.{◌==◌, ◌&&◌}
use Rattle.std.specs.List.{list_all}
use Rattle.imap_command.specs.OtherWords.{is_name, is_name_byte, is_name_word, before_first, between_spaces}

-- the first text goes on with a word, and the others are words
abbrev pub goes_on : List (List ℕ) → Bool
goes_on [] = true
goes_on (first ∷ others) = list_all is_name_byte first && list_all is_name_word others

and-assoc : (a b c : Bool) → ((a && b) && c) ≡ (a && (b && c))
and-assoc true b c = refl
and-assoc false b c = refl

and-true : (a : Bool) → (a && true) ≡ a
and-true true = refl
and-true false = refl

begins : (b : ℕ) (texts : List (List ℕ)) → list_all is_name_word (before_first b texts) ≡ (is_name_byte b && goes_on texts)
begins b [] = and-true (is_name_byte b && true)
begins b (first ∷ others) = and-assoc (is_name_byte b) (list_all is_name_byte first) (list_all is_name_word others)

goes : (b : ℕ) (texts : List (List ℕ)) → goes_on (before_first b texts) ≡ (is_name_byte b && goes_on texts)
goes b [] = and-true (is_name_byte b && true)
goes b (first ∷ others) = and-assoc (is_name_byte b) (list_all is_name_byte first) (list_all is_name_word others)

-- a name, and a word that is begun, by their first byte where that is no space
pub name-byte : (b : ℕ) (rest : List ℕ) → (b == 32) ≡ false → is_name (b ∷ rest) ≡ (is_name_byte b && goes_on (between_spaces rest))
name-byte b rest h = rw h (begins b (between_spaces rest))

pub begun-byte : (b : ℕ) (rest : List ℕ) → (b == 32) ≡ false → goes_on (between_spaces (b ∷ rest)) ≡ (is_name_byte b && goes_on (between_spaces rest))
begun-byte b rest h = rw h (goes b (between_spaces rest))
