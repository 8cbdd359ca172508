-- What holds texts says the same with each of them owned; and the owned form doesn't depend on which texts are borrowed.
-- Both hold where what it says changes as its texts do, and of two marks the later one stays.
use Rattle.std.proofs.Common.{◌≡◌, true, false, sym, ap, ◌∙◌}
use Rattle.imap_grammar.specs.Text.{Text, lent_text, owned_text}
use Rattle.imap_grammar.proofs.Marks.{LaterStays}
use Rattle.imap_body_types.specs.Owned.{OwnedSaysSame, OwnedAlike}

pub says_same : {X V : Type 0} (changed : (Text → Text) → V → V) (owned seen : X → V) → ((x : X) → owned x ≡ changed owned_text (seen x)) → LaterStays true false changed → OwnedSaysSame (changed lent_text) owned seen
says_same changed owned seen is keeps x = ap (changed lent_text) (is x) ∙ keeps (seen x)

pub alike : {X V : Type 0} (changed : (Text → Text) → V → V) (owned seen : X → V) → ((x : X) → owned x ≡ changed owned_text (seen x)) → LaterStays false true changed → OwnedAlike (changed lent_text) owned seen
alike changed owned seen is keeps x y same = is x ∙ sym (keeps (seen x)) ∙ ap (changed owned_text) same ∙ keeps (seen y) ∙ sym (is y)
