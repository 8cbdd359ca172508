use Rattle.std.proofs.Common.{◌≡◌, Bool, true, false, List, ℕ, refl}
use Rattle.std.specs.Str.{is_utf8, IsUtf8}
use Rattle.std.proofs.lemmas.Str.{IsUtf8-from_is_utf8, is_utf8-from_IsUtf8}
use Rattle.imap_c.proofs.commands.text_of.Goals as goal

not_utf8 : (bytes : List ℕ) → ¬ (IsUtf8 bytes) → (b : Bool) → is_utf8 bytes ≡ b → is_utf8 bytes ≡ false
not_utf8 bytes n true q = absurd (n (IsUtf8-from_is_utf8 bytes q))
not_utf8 bytes n false q = q

pub returns-in-Ok : goal.returns-in-Ok
returns-in-Ok c = (c.in-Ok.ensures.cases.0, rw (is_utf8-from_IsUtf8 c.args.argument.now c.in-Ok.ensures.cases.1) refl)

pub returns-in-Err : goal.returns-in-Err
returns-in-Err c = rw (not_utf8 c.args.argument.now c.in-Err.ensures.cases.0 (is_utf8 c.args.argument.now) refl) refl
