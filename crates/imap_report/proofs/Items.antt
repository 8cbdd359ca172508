-- What has a line, whether denied lines are skipped or not.
use Rattle.std.proofs.Common.{◌≡◌, ◌≢◌, ℕ, ◌-◌, ◌<◌, true, List, [], ◌∷◌, ◌++◌, length, refl, sym, ap, subst, ◌∙◌, inl, inr}
use Rattle.imap_grammar.specs.Meaning.{Denies}
use Rattle.imap_grammar.specs.Rule.{meaning}
use Rattle.imap_grammar.specs.Text.{Bytes}
use Rattle.imap_grammar.proofs.Consumption.{consumes, takes}
use Rattle.imap_grammar.proofs.Stability.{is_stable}
use Rattle.imap_proto.specs.declared.stream.End.{End as Why}
use Rattle.imap_proto.specs.declared.stream.End.TheVariants as why
use Rattle.imap_proto.specs.Lines.{response}
use Rattle.imap_proto.specs.LogicalLines.{logical_line}
use Rattle.imap_proto.specs.Responses.{ResponseValue}
use Rattle.imap_proto.specs.Skipping.{Item, Taken, Skipped, item, Dropped}
use Rattle.imap_proto.specs.Streams.{EndsAs, Waiting as Waits}
use Rattle.imap_proto.proofs.Cuts.{NoneAt}
use Rattle.imap_proto.proofs.Skipping.{item_takes, taken, waiting_stops}
use Rattle.imap_proto.proofs.Streams.{stable, response_takes, some_end, nothing_waits}
use Rattle.imap_report.specs.declared.outcome.Finish.{Finish}
use Rattle.imap_report.specs.declared.outcome.Finish.TheVariants.{End, Waiting, Denied}
use Rattle.imap_report.specs.declared.wording.OnDenied.{OnDenied}
use Rattle.imap_report.specs.declared.wording.OnDenied.TheVariants.{Stop, Skip}
use Rattle.imap_report.specs.Report.{items, NoItem, FinishesAs}

pub items_take : (d : OnDenied) → consumes (items d) ≡ true
items_take Stop = response_takes
items_take Skip = item_takes

pub shorter : (d : OnDenied) (m rest : Bytes) (x : Item) → (meaning (items d)).yields m x rest → length rest < length m
shorter d m rest x y = takes (items d) m x rest (items_take d) y

-- ---- what is one

pub response_item : (d : OnDenied) (m : Bytes) (v : ResponseValue) (rest : Bytes) → (meaning response).yields m v rest → (meaning (items d)).yields m (Taken v) rest
unfolding meaning
response_item Stop m v rest y = (v, y, refl)
response_item Skip m v rest y = taken m v rest y

-- a denied line that was dropped
pub line_item : (d : OnDenied) (m line left : Bytes) → d ≡ Skip → Denies (meaning response) m → (meaning logical_line).yields m line left → (meaning (items d)).yields m (Skipped line) left
unfolding meaning item
line_item d m line left skips denied y = subst (λ k. (meaning (items k)).yields m (Skipped line) left) (sym skips) (inr (denied, (line, y, refl)))

-- ---- what is none

pub waiting_none : (d : OnDenied) (m : Bytes) → Waits m → NoItem d m
unfolding meaning
waiting_none Stop m w x rest y = w.0 y.0 rest y.1
waiting_none Skip m w x rest y = waiting_stops m w x rest y

pub nothing_none : (d : OnDenied) → NoItem d []
nothing_none d = waiting_none d [] nothing_waits

pub denied_none : (d : OnDenied) (m : Bytes) → d ≡ Stop → Denies (meaning response) m → NoItem d m
unfolding meaning
denied_none d m stops denied = subst (λ k. NoItem k m) (sym stops) (λ x rest y. stable.yields_not_denies m y.0 rest y.1 denied)

-- a denied line that isn't whole
pub open_none : (d : OnDenied) (m : Bytes) → Denies (meaning response) m → NoneAt logical_line m → NoItem d m
unfolding meaning item
open_none Stop m denied none x rest y = stable.yields_not_denies m y.0 rest y.1 denied
open_none Skip m denied none x rest y = elim y [
  | inl a ↦ stable.yields_not_denies m a.0 rest a.1 denied
  | inr a ↦ none a.1.0 rest a.1.1
]

-- ---- how it ends

no_response : (d : OnDenied) (m : Bytes) → NoItem d m → NoneAt response m
no_response d m none v rest y = none (Taken v) rest (response_item d m v rest y)

finish_of : (m : Bytes) (end : Why) → EndsAs m end → (f : Finish) × FinishesAs m f
finish_of m why.Denied e = (Denied, e)
finish_of [] why.Waits e = (End, refl)
finish_of (b ∷ m) why.Waits e = (Waiting, (λ q. cc, e))

pub some_finish : (d : OnDenied) (m : Bytes) → NoItem d m → (f : Finish) × FinishesAs m f
some_finish d m none = let end = some_end m (no_response d m none) in finish_of m end.0 end.1

pub one_finish : (m : Bytes) (f g : Finish) → FinishesAs m f → FinishesAs m g → f ≡ g
one_finish m End End p q = refl
one_finish m End Waiting p q = absurd (q.0 p)
one_finish m End Denied p q = absurd (nothing_waits.1 (subst (λ k. Denies (meaning response) k) p q))
one_finish m Waiting End p q = absurd (p.0 q)
one_finish m Waiting Waiting p q = refl
one_finish m Waiting Denied p q = absurd (p.1.1 q)
one_finish m Denied End p q = absurd (nothing_waits.1 (subst (λ k. Denies (meaning response) k) q p))
one_finish m Denied Waiting p q = absurd (q.1.1 p)
one_finish m Denied Denied p q = refl

-- so many bytes are left
pub finish_by : (m : Bytes) (n : ℕ) → Waits m → length m ≡ n → ¬ (n ≡ 0) → FinishesAs m Waiting
finish_by m n w l some = (λ q. some (sym l ∙ ap length q), w)

pub finish_empty : (m : Bytes) → length m ≡ 0 → FinishesAs m End
finish_empty [] l = refl
finish_empty (b ∷ m) l = absurd cc
