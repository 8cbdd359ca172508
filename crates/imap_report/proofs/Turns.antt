-- Reports, a line at a time.
use Rattle.std.proofs.Common.{◌≡◌, ◌≢◌, ℕ, ◌-◌, List, [], ◌∷◌, ◌++◌, length, Option, None, Some, Result, Ok, Err, refl, sym, ap, subst, ◌∙◌, append_assoc, arith}
use Rattle.std.specs.Prelude.{OnErr}
use Rattle.std.specs.Io.KnownBytes.{Appends}
use Rattle.std.proofs.lemmas.List.{length-append, append-nil}
use Rattle.imap_grammar.specs.Ascii.{line_feed}
use Rattle.imap_grammar.specs.Meaning.{Denies, Cuts}
use Rattle.imap_grammar.specs.Rule.{meaning}
use Rattle.imap_grammar.specs.Text.{Bytes}
use Rattle.imap_grammar.proofs.Stability.{is_stable}
use Rattle.imap_proto.specs.declared.response.Response.{Response}
use Rattle.imap_proto.specs.declared.stream.End.{End as Why}
use Rattle.imap_proto.specs.Feeds.{Gave}
use Rattle.imap_proto.specs.Lines.{response}
use Rattle.imap_proto.specs.LogicalLines.{logical_line}
use Rattle.imap_proto.specs.Owned.{owned_response}
use Rattle.imap_proto.specs.Responses.{ResponseValue, response_value}
use Rattle.imap_proto.specs.Skipping.{Item, Taken, Skipped, Dropped}
use Rattle.imap_proto.specs.Streams.{EndsAs}
use Rattle.imap_proto.proofs.Cuts.{NoneAt, all}
use Rattle.imap_proto.proofs.LogicalLines.{lines_end}
use Rattle.imap_report.specs.declared.outcome.Finish.{Finish}
use Rattle.imap_report.specs.declared.wording.OnDenied.TheVariants.{Skip}
use Rattle.imap_report.specs.Devices.{AppendsFront}
use Rattle.imap_report.specs.Report.{Words, items, NoItem, line, FinishesAs, IsReport, next, last, Told, Writes, Begins, IsLeft, SomeReport, OneReport}
use Rattle.imap_report.proofs.Bytes.{appends_both, appends_nothing}
use Rattle.imap_report.proofs.Items.{items_take, shorter, response_item, line_item, some_finish, one_finish}

-- ---- a report has some text

behind_some : (a b : Bytes) → a ≢ [] → a ++ b ≢ []
behind_some [] b some = absurd (some refl)
behind_some (x ∷ a) b some = λ e. cc

line_some : (text : Bytes) → line text ≢ []
line_some [] = λ e. cc
line_some (b ∷ text) = λ e. cc

report_some : (w : Words) (m text : Bytes) (f : Finish) → IsReport w m text f → text ≢ []
report_some w m text f (next k x rest more h y p) = behind_some (line (w.of_item x (length k - length rest))) more (line_some (w.of_item x (length k - length rest)))
report_some w m text f (last k h none e) = line_some (w.of_end h (length k))

-- ---- there is always a report, and one only

abbrev Reported : Words → Bytes → Type 0
Reported w m = (text : Bytes) × (f : Finish) × IsReport w m text f

report_of_items : (w : Words) (xs : List Item) (m left : Bytes) → Cuts (meaning (items w.on_denied)) m xs left → NoItem w.on_denied left → Reported w m
report_of_items w [] m left c none =
    let f = some_finish w.on_denied left none in
    subst (Reported w) (sym c) (_, f.0, last left f.0 none f.1)
report_of_items w (x ∷ xs) m left c none = let rest = report_of_items w xs c.0 left c.2 none in (_, rest.1, next m x c.0 rest.0 rest.1 c.1 rest.2)

pub some_report : SomeReport
some_report w m = let a = all (items w.on_denied) (items_take w.on_denied) m in report_of_items w a.0 m a.1 a.2 a.3

pub one_report : OneReport
one_report w m a b f g (next k x rest text h y p) (next l z other more i q r) =
    let same = (is_stable (items w.on_denied)).one_yield k x z rest other y q in
    let then = one_report w rest text more h i p (subst (λ n. IsReport w n more i) (sym same.1) r) in
    (rw (same.0, same.1, then.0) refl, then.1)
one_report w m a b f g (next k x rest text h y p) (last l i none e) = absurd (none x rest y)
one_report w m a b f g (last k h none e) (next l z other more i q r) = absurd (none z other q)
one_report w m a b f g (last k h none e) (last l i never d) = let same = one_finish k h i e d in (ap (λ n. line (w.of_end n (length k))) same, same)

-- ---- what was told so far

pub told_nothing : (w : Words) (m : Bytes) (old : Option Bytes) → Told w m m old old
told_nothing w m old = record { text = []; completes = λ more report f h. h; written = appends_nothing old; within = omega arith }

-- more bytes came
pub told_piece : (w : Words) (m rest piece : Bytes) (old now : Option Bytes) → Told w m rest old now → Told w (m ++ piece) (rest ++ piece) old now
told_piece w m rest piece old now so_far =
    record {
      text = so_far.text;
      completes = λ more report f h. subst (λ x. IsReport w x (so_far.text ++ report) f) (sym (append_assoc m piece more)) (so_far.completes (piece ++ more) report f (subst (λ x. IsReport w x report f) (append_assoc rest piece more) h));
      written = so_far.written;
      within = omega (arith, so_far.within, length-append m piece, length-append rest piece);
    }

-- more lines were written
pub told_on : (w : Words) (m rest after : Bytes) (old now new : Option Bytes) → Told w m rest old now → Told w rest after now new → Told w m after old new
told_on w m rest after old now new so_far then =
    record {
      text = so_far.text ++ then.text;
      completes = λ more report f h. subst (λ x. IsReport w (m ++ more) x f) (sym (append_assoc so_far.text then.text report)) (so_far.completes more (then.text ++ report) f (then.completes more report f h));
      written = appends_both old now new so_far.text then.text so_far.written then.written;
      within = omega (arith, so_far.within, then.within);
    }

line_same : (rest after more : Bytes) → length (rest ++ more) - length (after ++ more) ≡ length rest - length after
line_same rest after more = omega (arith, length-append rest more, length-append after more)

-- one line
pub told_line : (w : Words) (m after text said : Bytes) (x : Item) (old new : Option Bytes) → (meaning (items w.on_denied)).yields m x after → text ≡ said → said ≡ line (w.of_item x (length m - length after)) → Appends old new text → Told w m after old new
told_line w m after text said x old new y same t p =
    record {
      text = text;
      completes = λ more report f h. subst (λ k. IsReport w (m ++ more) (k ++ report) f) (ap (λ n. line (w.of_item x n)) (line_same m after more) ∙ sym (same ∙ t)) (next (m ++ more) x (after ++ more) report f ((is_stable (items w.on_denied)).yields_more m x after more y) h);
      written = p;
      within = let lt = shorter w.on_denied m after x y in omega arith;
    }

pub told_all : (w : Words) (m rest text : Bytes) (f : Finish) (old now new : Option Bytes) → Told w m rest old now → IsReport w rest text f → Appends now new text → Writes w old new m f
told_all w m rest text f old now new so_far h p = (
  so_far.text ++ text,
  subst (λ x. IsReport w x (so_far.text ++ text) f) (append-nil m) (so_far.completes [] text f (subst (λ x. IsReport w x text f) (sym (append-nil rest)) h)),
  appends_both old now new so_far.text text so_far.written p,
)

-- ---- what was begun

-- a beginning of the report of the rest was written behind what was told
pub told_begun : (w : Words) (m rest : Bytes) (old now new : Option Bytes) → Told w m rest old now → Begins w now new rest → Begins w old new m
told_begun w m rest old now new so_far begun = (
  so_far.text ++ begun.0,
  begun.1,
  subst (λ x. IsReport w x (so_far.text ++ begun.0) begun.1) (append-nil m) (so_far.completes [] begun.0 begun.1 (subst (λ x. IsReport w x begun.0 begun.1) (sym (append-nil rest)) begun.2)),
  (
    so_far.text ++ begun.3.0,
    begun.3.1,
    ap (λ (k : Bytes). so_far.text ++ k) begun.3.2 ∙ sym (append_assoc so_far.text begun.3.0 begun.3.1),
    begun.3.3,
    appends_both old now new so_far.text begun.3.0 so_far.written begun.3.4,
  ),
)

pub nothing_begun : (w : Words) (m : Bytes) (old : Option Bytes) → Begins w old old m
nothing_begun w m old = let all = some_report w m in (all.0, all.1, all.2, ([], all.0, refl, report_some w m all.0 all.1 all.2, appends_nothing old))

pub told_front : (w : Words) (m rest : Bytes) (old now : Option Bytes) → Told w m rest old now → Begins w old now m
told_front w m rest old now so_far = told_begun w m rest old now now so_far (nothing_begun w rest now)

-- a beginning of a line
pub line_begun : (w : Words) (m after text said : Bytes) (x : Item) (old new : Option Bytes) → (meaning (items w.on_denied)).yields m x after → text ≡ said → said ≡ line (w.of_item x (length m - length after)) → AppendsFront old new text → Begins w old new m
line_begun w m after text said x old new y same t p =
    let more = some_report w after in (
      text ++ more.0,
      more.1,
      subst (λ k. IsReport w m (k ++ more.0) more.1) (sym (same ∙ t)) (next m x after more.0 more.1 y more.2),
      (p.0, p.1 ++ more.0, ap (λ (k : Bytes). k ++ more.0) p.2 ∙ append_assoc p.0 p.1 more.0, behind_some p.1 more.0 p.3, p.4),
    )

-- ---- the last line

pub last_report : (w : Words) (m text said : Bytes) (end : Why) (n : ℕ) (f : Finish) → IsLeft w end n m → FinishesAs m f → said ≡ w.of_end f n → text ≡ line said → IsReport w m text f
last_report w m text said end n f left e says t = subst (λ x. IsReport w m x f) (sym (t ∙ ap line says ∙ ap (λ k. line (w.of_end f k)) (sym left.size))) (last m f left.none e)

-- of whatever is left so
pub none_begun : (w : Words) (end : Why) (n : ℕ) (old : Option Bytes) (m : Bytes) → IsLeft w end n m → Begins w old old m
none_begun w end n old m left = nothing_begun w m old

-- ---- one turn of a feed

-- the line of a response that it gave
pub line_of_given : (w : Words) (held left text said : Bytes) (n : ℕ) (r : Response) (g : Gave held (Some r) left) → ((v : ResponseValue) → response_value r ≡ owned_response v → said ≡ w.of_item (Taken v) n) → n ≡ length held - length left
    → text ≡ line said → text ≡ line (w.of_item (Taken g.0) (length held - length left))
line_of_given w held left text said n r g says l t = t ∙ ap line (says g.0 g.2) ∙ ap (λ k. line (w.of_item (Taken g.0) k)) l

-- a denied line that it dropped
line_left : (held bytes rest left : Bytes) (n : Option ℕ) → (meaning logical_line).yields held bytes rest → Dropped held n left → (meaning logical_line).yields held bytes left
line_left held bytes rest left (Some n) y d =
    let same = (is_stable logical_line).one_yield held bytes d.0 rest left y d.2 in
    subst (λ k. (meaning logical_line).yields held bytes k) same.1 y
line_left held bytes rest left None y d = absurd (d.0 bytes rest y)

pub line_of_dropped : (w : Words) (held bytes rest left text said : Bytes) (n : Option ℕ) → w.on_denied ≡ Skip → Denies (meaning response) held → (meaning logical_line).yields held bytes rest → Dropped held n left → said ≡ w.of_item (Skipped bytes) (length bytes)
    → text ≡ line said → (x : Item) × (meaning (items w.on_denied)).yields held x left × (text ≡ line (w.of_item x (length held - length left)))
line_of_dropped w held bytes rest left text said n skips denied y d says t =
    let y2 = line_left held bytes rest left n y d in
    let whole = ap length (lines_end held bytes left y2).2 ∙ length-append bytes left in
    let size : length bytes ≡ length held - length left = omega (arith, whole) in
    (Skipped bytes, line_item w.on_denied held bytes left skips denied y2, t ∙ ap line (says ∙ ap (w.of_item (Skipped bytes)) size))

pub on_err : {T E : Type 0} {P : Type 0} (r : Result T E) → P → OnErr r P
on_err (Ok x) p = tt
on_err (Err e) p = p
