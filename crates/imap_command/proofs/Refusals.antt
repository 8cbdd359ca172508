-- What is refused of an argument: the first byte that does not stay in the line.
use Rattle.std.proofs.Common.{◌≡◌, ℕ, ◌+◌, ◌<◌, List, [], ◌∷◌, length, map, drop, get_or, Bor, Option, None, Some, Err, All, refl, arith}
use Rattle.std.proofs.lemmas.Bool.Decides.{nat_tests}
use Rattle.std.proofs.lemmas.List.{drop_more}
use Rattle.std.proofs.lemmas.List.Elements.{All-head, All-tail}
use Rattle.std.specs.Option.{option_or}
use Rattle.imap_command.specs.Arguments.{refused_byte, refusal, judgement}
use Rattle.imap_command.specs.OneLine.{StaysInLine, RefusedAs}
use Rattle.imap_command.specs.OtherWords.{first_refusal}
use Rattle.imap_command.specs.declared.errors.BuildError.{BuildError}

unrefused_byte : (byte : ℕ) → StaysInLine byte → refused_byte byte ≡ None
unrefused_byte byte h = grind (arith, nat_tests, h.0, h.1, h.2)

pub accepted : (argument : List ℕ) → All StaysInLine argument → refusal argument ≡ None
accepted [] h = refl
accepted (byte ∷ rest) h =
    rw (unrefused_byte byte (All-head StaysInLine byte rest h)) (accepted rest (All-tail StaysInLine byte rest h))

pub refused_as : (byte : ℕ) (error : BuildError) → refused_byte byte ≡ Some error → RefusedAs byte error
refused_as byte error refused [] behind h = rw refused refl
refused_as byte error refused (b ∷ before) behind h =
    rw (unrefused_byte b (All-head StaysInLine b before h)) (refused_as byte error refused before behind (All-tail StaysInLine b before h))

-- Of some texts none before this one is refused, and this one is.
refused_with : (e : BuildError) (o p : Option BuildError) → Err e ≡ judgement o → Err e ≡ judgement (option_or o p)
refused_with e None p h = cc
refused_with e (Some refused) p h = h

pub first_refused : (texts : List (Bor (List ℕ))) (i : ℕ) (d : Bor (List ℕ)) (e : BuildError) → i < length texts → Err e ≡ judgement (refusal (get_or texts i d).now) → Err e ≡ judgement (first_refusal refusal (map (λ text. text.now) (drop i texts)))
first_refused texts i d e within h =
    rw (drop_more texts i d within) (refused_with e (refusal (get_or texts i d).now) (first_refusal refusal (map (λ text. text.now) (drop (i + 1) texts))) h)
