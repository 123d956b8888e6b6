use Rattle.std.proofs.Common.{◌≡◌, ◌<◌, ◌≤◌, ◌↔◌, ◌+◌, ℕ, length, take, min, List, nat_le, Some, Result, Ok, Err, IsErr}
use Rattle.std.proofs.Common.{IfOk, if◌then◌else◌, sym, ap, ◌∙◌, arith}
use Rattle.std.proofs.lemmas.Bool.Decides.{nat_tests}
use Rattle.std.proofs.lemmas.List.{take_all, length-take}
use Rattle.nr_model.specs.declared.rows.Row.{Row}
use Rattle.nr_model.specs.declared.rows.TooMany.{TooMany}
use Rattle.nr_model.specs.Rows.{in_order}
use Rattle.nr_model.specs.declared.rows.TheConstants.{MAX_ROWS}
use Rattle.nr_text.specs.declared.rows.TheConstants.{KEPT_ROWS}
use Rattle.nr_text.specs.Grammar.{row}
use Rattle.nr_text.specs.Words.{words_left}
use Rattle.nr_text.proofs.KeptLemmas.{keeps_more, keeps_past, keeps_all}
use Rattle.nr_text.proofs.rows.set.Goals as goal

-- a set of a front that is one longer than a set can be is a set of them all, or they are too many
set_of_front : (most : ℕ) (done kept : List Row) (result : Result (List Row) TooMany) → kept ≡ take (most + 1) done
    → (IsErr result ↔ (most < length kept)) → IfOk result (λ set. set ≡ in_order kept)
    → result ≡ (if nat_le (length done) most then Ok (in_order done) else Err (record {}))
set_of_front most done kept result front many ok =
    let size : length kept ≡ min (most + 1) (length done) = ap length front ∙ length-take (most + 1) done in
    let all : length done ≤ most + 1 → kept ≡ done = λ few. front ∙ take_all (most + 1) done few in
    grind (arith, nat_tests)

pub loop-word-preserved-then-len-lt-KEPT_ROWS : goal.loop-word-preserved-then-len-lt-KEPT_ROWS
loop-word-preserved-then-len-lt-KEPT_ROWS c =
    keeps_more row KEPT_ROWS _ c.in-Some.word.now (words_left c.next.new.self) c.loop-word.kept c.loop-word.len
    c.in_ok-row.row
    (rw c.in-Some.ensures.steps at c.loop-word.invariant) (sym c.in_ok-row.ensures) c.if-len-lt-KEPT_ROWS.true

pub loop-word-preserved : goal.loop-word-preserved
loop-word-preserved c =
    keeps_past row KEPT_ROWS _ c.in-Some.word.now (words_left c.next.new.self) c.loop-word.kept c.loop-word.len
    c.in_ok-row.row
    (rw c.in-Some.ensures.steps at c.loop-word.invariant) (sym c.in_ok-row.ensures) c.if-len-lt-KEPT_ROWS.false

pub returns : goal.returns
returns c =
    let keeps = rw c.in-None.ensures.steps.0 at c.loop-word.invariant in
    rw (keeps_all row KEPT_ROWS _ c.loop-word.kept c.loop-word.len keeps)
    (ap Some
    (set_of_front MAX_ROWS keeps.done (take c.loop-word.len c.loop-word.kept) c.of.result keeps.front
    c.of.ensures.too_many c.of.ensures.ok))
