use Rattle.std.proofs.Common.{refl, inl, inr}
use Rattle.std.proofs.lemmas.List.{drop-drop}
use Rattle.imap_grammar.specs.Classes.{is_quoted_char}
use Rattle.imap_grammar.specs.Meaning.{outside}
use Rattle.imap_grammar.proofs.Lanes.{before_quote, found_here, found_behind, none_set, none_stops, not_found_here, passed_on, some_set}
use Rattle.imap_grammar.proofs.scanning.next_quote.Goals.{then-bits-ne0+else-n-lt16, else-bits-ne0}
use Rattle.imap_grammar.proofs.scanning.next_quote.Goals as goal

-- ---- a byte of the first sixteen stops

pub returns-then-i-n-eq34-clause-at : goal.returns-then-i-n-eq34-clause-at
returns-then-i-n-eq34-clause-at c =
    before_quote c.args.i.now _ c.if-i-lt16.false c.type_inv.i (some_set c.args.i.now _ c.sixteen_stops-bits.ensures c.if-bits-ne0.true) c.if-n-lt16.true c.if-i-n-eq34.true

pub returns-then-i-n-eq34-clause-found : goal.returns-then-i-n-eq34-clause-found
returns-then-i-n-eq34-clause-found c =
    found_here c.args.i.now _ c.if-i-lt16.false (some_set c.args.i.now _ c.sixteen_stops-bits.ensures c.if-bits-ne0.true) c.if-n-lt16.true

pub returns-else-i-n-eq34-clause-found : goal.returns-else-i-n-eq34-clause-found
returns-else-i-n-eq34-clause-found c =
    not_found_here c.args.i.now _ c.if-i-lt16.false (some_set c.args.i.now _ c.sixteen_stops-bits.ensures c.if-bits-ne0.true) c.if-n-lt16.true c.if-i-n-eq34.false

-- ---- none of them does

pub returns-in_err-n-clause-found : goal.returns-in_err-n-clause-found
returns-in_err-n-clause-found c =
    let none = none_set c.args.i.now _ c.if-i-lt16.false c.sixteen_stops-bits.ensures (elim c.if-bits-ne0.branch [ then-bits-ne0+else-n-lt16 w ↦ inr w.if-n-lt16.false | else-bits-ne0 w ↦ inl w.if-bits-ne0.false ]) in
    let told = found_behind c.args.i.now _ c.if-i-lt16.false none (rw c.split_at.ensures.back at c.far_quote.ensures.found) in
    rw (c.from_residual.ensures) (rw (c.in_err-n.was) at told)

pub returns-clause-at : goal.returns-clause-at
returns-clause-at c =
    let none = none_set c.args.i.now _ c.if-i-lt16.false c.sixteen_stops-bits.ensures (elim c.if-bits-ne0.branch [ then-bits-ne0+else-n-lt16 w ↦ inr w.if-n-lt16.false | else-bits-ne0 w ↦ inl w.if-bits-ne0.false ]) in
    let passed = none_stops c.args.i.now c.if-i-lt16.false c.type_inv.i none in
    rw (passed_on (outside is_quoted_char) 16 c.args.i.now c.if-i-lt16.false passed, ← c.split_at.ensures.back, c.in_ok-n.ensures.at) refl

pub returns-clause-closed : goal.returns-clause-closed
returns-clause-closed c = rw (← drop-drop c.in_ok-n.n 16 c.args.i.now, ← c.split_at.ensures.back) c.in_ok-n.ensures.closed

pub returns-clause-found : goal.returns-clause-found
returns-clause-found c =
    let none = none_set c.args.i.now _ c.if-i-lt16.false c.sixteen_stops-bits.ensures (elim c.if-bits-ne0.branch [ then-bits-ne0+else-n-lt16 w ↦ inr w.if-n-lt16.false | else-bits-ne0 w ↦ inl w.if-bits-ne0.false ]) in
    let told = found_behind c.args.i.now _ c.if-i-lt16.false none (rw c.split_at.ensures.back at c.far_quote.ensures.found) in
    rw (c.in_ok-n.was) at told
