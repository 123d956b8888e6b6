use Rattle.std.proofs.Common.{◌≡◌, ◌∙◌, ℕ, [], ◌∷◌, ap, arith, subst, sym}
use Rattle.nr_core.proofs.Sums.{total-append}
use Rattle.nr_core.specs.Roles.{retirements}
use Rattle.nr_core.specs.SlotLists.{SlotLists}
use Rattle.nr_core.specs.Sums.{only}
use Rattle.nr_core.specs.declared.places.Retired.{Retired}
use Rattle.nr_board.proofs.Flagging.{flags_retire}
use Rattle.nr_board.specs.Callers.{Caller, Table, token}
use Rattle.nr_board.specs.Flags.{IsFlagged}
use Rattle.nr_board.specs.WriterAnswers.{EvictsKey}
use Rattle.nr_board.specs.declared.answers.Evict.{Evict}
use Rattle.nr_board.specs.declared.answers.Evict.TheVariants as evict
use Rattle.nr_map.proofs.reader_map.ReaderMap.evict.Goals as goal

-- an eviction leaves what the writer heard, and retires slots alone
evicts_heard : (key : ℕ) (old new : Caller) (answer : Evict) → EvictsKey key old new answer
    → (new.table ≡ old.table) × (new.heard ≡ old.heard)
    × ((slot : ℕ) → retirements slot new.retired ≡ 0 → retirements slot old.retired ≡ 0)
evicts_heard key old new evict.Evicted evicts = let one = evicts.3 in (
  evicts.0.table,
  evicts.5,
  λ slot none.
      let both
      = total-append (λ (entry : Retired). only slot entry.slot) old.retired
      (record { slot = one.slot; arrivals = one.arrivals } ∷ []) in
      omega (arith, ap (retirements slot) one.retires),
)
evicts_heard key old new evict.Nothing evicts = (
  evicts.0.table,
  evicts.1.2,
  λ slot none. ap (λ (s : SlotLists). retirements slot s.retired) (sym evicts.1.0) ∙ none,
)

pub invariant_of-writer : goal.invariant_of-writer
invariant_of-writer c =
    let before = c.writer.inside in
    let new = token c.evict_key.new.seat in
    let rests = c.evict_key.ensures.rests in
    let told = evicts_heard c.args.key (token before.seat) new c.evict_key.result c.evict_key.ensures.evicts in (
      rests,
      subst (λ (t : Table). IsFlagged t c.evict_key.new.lists.retired new.heard before.flags) (sym told.0)
          (flags_retire _ before.lists.retired c.evict_key.new.lists.retired _ new.heard before.flags
          c.writer.invariant.1 told.1
          (λ slot. rw (rests.writes.role, c.writer.invariant.0.writes.role) at (told.2 slot))),
    )
