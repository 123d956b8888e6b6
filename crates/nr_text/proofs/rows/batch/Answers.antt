use Rattle.std.proofs.Common.{◌≡◌, ◌<◌, ◌≤◌, ◌↔◌, ◌+◌, ◌&&◌, ℕ, length, take, min, List, nat_le, nat_lt, Some, None}
use Rattle.std.proofs.Common.{Result, Err, IfOk, if◌then◌else◌, sym, ap, ◌∙◌, arith}
use Rattle.std.specs.Result.{result_ok}
use Rattle.std.proofs.lemmas.Bool.Decides.{nat_tests}
use Rattle.std.proofs.lemmas.List.{take_all, length-take}
use Rattle.nr_model.specs.declared.batches.Delta.{Delta}
use Rattle.nr_model.specs.declared.batches.BatchFault.{BatchFault}
use Rattle.nr_model.specs.declared.batches.BatchFault.TheVariants as faults
use Rattle.nr_model.specs.declared.batches.TheConstants.{MAX_DELTAS}
use Rattle.nr_text.specs.declared.rows.TheConstants.{KEPT_DELTAS}
use Rattle.nr_text.specs.Grammar.{delta}
use Rattle.nr_text.specs.Words.{words_left}
use Rattle.nr_text.proofs.KeptLemmas.{keeps_more, keeps_past, keeps_all}
use Rattle.nr_text.proofs.rows.batch.Goals as goal

-- a batch of a front that is one longer than a batch can be is a batch of them all, or they are too many
batch_of_front : (most : ℕ) (done kept : List Delta) (result : Result (List Delta) BatchFault)
    → kept ≡ take (most + 1) done
    → ((result ≡ Err faults.Empty) ↔ (length kept ≡ 0)) → ((result ≡ Err faults.TooLong) ↔ (most < length kept))
    → IfOk result (λ batch. batch ≡ kept)
    → result_ok result ≡ (if nat_lt 0 (length done) && nat_le (length done) most then Some done else None)
batch_of_front most done kept result front empty long ok =
    let size : length kept ≡ min (most + 1) (length done) = ap length front ∙ length-take (most + 1) done in
    let all : length done ≤ most + 1 → kept ≡ done = λ few. front ∙ take_all (most + 1) done few in
    grind (arith, nat_tests)

pub loop-word-preserved-then-len-lt-KEPT_DELTAS : goal.loop-word-preserved-then-len-lt-KEPT_DELTAS
loop-word-preserved-then-len-lt-KEPT_DELTAS c =
    keeps_more delta KEPT_DELTAS _ c.in-Some.word.now (words_left c.next.new.self) c.loop-word.kept c.loop-word.len
    c.in_ok-delta.delta
    (rw c.in-Some.ensures.steps at c.loop-word.invariant) (sym c.in_ok-delta.ensures) c.if-len-lt-KEPT_DELTAS.true

pub loop-word-preserved : goal.loop-word-preserved
loop-word-preserved c =
    keeps_past delta KEPT_DELTAS _ c.in-Some.word.now (words_left c.next.new.self) c.loop-word.kept c.loop-word.len
    c.in_ok-delta.delta
    (rw c.in-Some.ensures.steps at c.loop-word.invariant) (sym c.in_ok-delta.ensures) c.if-len-lt-KEPT_DELTAS.false

pub returns : goal.returns
returns c =
    let keeps = rw c.in-None.ensures.steps.0 at c.loop-word.invariant in
    rw (keeps_all delta KEPT_DELTAS _ c.loop-word.kept c.loop-word.len keeps)
    (c.ok.ensures.value
    ∙ batch_of_front MAX_DELTAS keeps.done (take c.loop-word.len c.loop-word.kept) c.of.result keeps.front
    c.of.ensures.empty c.of.ensures.too_long c.of.ensures.ok)
