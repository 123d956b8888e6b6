-- Calls of the writer that put no set: its slots have the sets that they had.
use Rattle.std.proofs.Common.{Bool, List, [], ap, arith, cond, false, refl, ℕ, ⊎_elim, ◌∙◌, ◌∷◌, ◌≡◌, append-nil, Err}
use Rattle.nr_core.proofs.Sums.{total-append}
use Rattle.nr_core.specs.Marks.{LoggedLoad, Marks, Past, with_scan}
use Rattle.nr_core.specs.Pasts.{Living}
use Rattle.nr_core.specs.Puts.{put_count, puts_set}
use Rattle.nr_core.specs.SlotLists.{SlotLists}
use Rattle.nr_core.specs.Story.{entry}
use Rattle.nr_core.specs.declared.calls.NoSlot.{NoSlot}
use Rattle.nr_model.specs.Histories.{is_done}
use Rattle.nr_model.specs.declared.batches.Delta.{Delta}
use Rattle.nr_model.specs.declared.calls.Call.{Call}
use Rattle.nr_model.specs.declared.calls.Reply.{Reply}
use Rattle.nr_model.specs.declared.rows.Row.{Row}
use Rattle.nr_board.specs.Callers.{Caller, Gains}
use Rattle.nr_board.specs.Meetings.{Learns}
use Rattle.nr_board.specs.SlotLists.{lists_of}
use Rattle.nr_board.specs.WriterAnswers.{CancelsKey, EvictsKey, FillsKey, HasNoSlot, ReplacesKey, SlotsStay, UpdatesKey}
use Rattle.nr_board.specs.declared.answers.Cancel.{Cancel}
use Rattle.nr_board.specs.declared.answers.Cancel.TheVariants as cancel
use Rattle.nr_board.specs.declared.answers.Evict.{Evict}
use Rattle.nr_board.specs.declared.answers.Evict.TheVariants as evict
use Rattle.nr_board.specs.declared.answers.FillFault.{FillFault}
use Rattle.nr_board.specs.declared.answers.FillFault.TheVariants as fill
use Rattle.nr_board.specs.declared.answers.ReplaceFault.{ReplaceFault}
use Rattle.nr_board.specs.declared.answers.ReplaceFault.TheVariants as replace
use Rattle.nr_board.specs.declared.answers.UpdateFault.{UpdateFault}
use Rattle.nr_board.specs.declared.answers.UpdateFault.TheVariants as update
use Rattle.nr_map.specs.Reclaims.{Ledger}
use Rattle.nr_map.proofs.Ledgers.{ledger_stays_lem, lived, one_retired}

pub record KeepsSets (old new : Caller) : Type 0 where
  pub number : new.number ≡ old.number
  pub table : new.table ≡ old.table
  pub fresh : new.fresh ≡ old.fresh
  pub puts : new.marks.puts ≡ old.marks.puts
  pub sets : new.marks.sets ≡ old.marks.sets
  pub reaped : new.marks.reaped ≡ old.marks.reaped
  pub living : (slot : ℕ) → Living new.retired new.marks slot → Living old.retired old.marks slot
  pub many : put_count new.mine ≡ put_count old.mine

pub kept_ledger : (old new : Caller) (gone : List ℕ) → KeepsSets old new → Ledger old gone → Ledger new gone
kept_ledger old new gone kept =
    ledger_stays_lem old new gone kept.table kept.fresh kept.puts kept.reaped kept.living kept.many

module _ {old new : Caller} where
  -- the slots stay, and of the marks all but the polls and the loads
  slots_keep : {lists : SlotLists} (polls : List Past) (loads : List LoggedLoad) → new.number ≡ old.number
      → new.table ≡ old.table → lists_of new ≡ lists → (lists.fresh ≡ old.fresh) × (lists.retired ≡ old.retired)
      → new.marks ≡ with_scan old.marks polls loads → put_count new.mine ≡ put_count old.mine → KeepsSets old new
  slots_keep polls loads number table is (fresh, same) marks many =
      let retired = ap (λ (l : SlotLists). l.retired) is ∙ same in record {
        number = number;
        table = table;
        fresh = ap (λ (l : SlotLists). l.fresh) is ∙ fresh;
        puts = ap (λ (m : Marks). m.puts) marks;
        sets = ap (λ (m : Marks). m.sets) marks;
        reaped = ap (λ (m : Marks). m.reaped) marks;
        living = λ slot lives. rw (retired, marks) at lives;
        many = many;
      }

  quiet_puts : (steps : ℕ) (call : Call) (answer : Reply) → is_done answer ≡ false
      → Gains steps call old new answer → put_count new.mine ≡ put_count old.mine
  quiet_puts steps call answer quiet gains =
      let none : puts_set (entry old.number call answer) ≡ 0 = ap (λ (b : Bool). cond {A = ℕ} b 1 0) quiet in
      omega (arith, ap put_count gains.mine, total-append puts_set old.mine (entry old.number call answer ∷ []), none)

  pub quiet_keeps : (steps : ℕ) (call : Call) (answer : Reply) → is_done answer ≡ false
      → Gains steps call old new answer → SlotsStay old new → KeepsSets old new
  quiet_keeps steps call answer quiet gains stays =
      slots_keep [] old.marks.loads gains.number gains.table stays.0 (refl, refl) stays.1
      (quiet_puts steps call answer quiet gains)

  pub lacks_keeps : (steps : ℕ) (call : Call) (counts : NoSlot) → HasNoSlot steps call old new counts
      → KeepsSets old new
  lacks_keeps steps call counts without =
      slots_keep new.marks.polls _ without.grows.number without.grows.table without.slots (refl, refl)
      without.marks (ap put_count (without.grows.mine ∙ append-nil old.mine))

  pub learns_keeps : (steps : ℕ) → Learns steps old new → KeepsSets old new
  learns_keeps steps learns =
      slots_keep old.marks.polls old.marks.loads learns.number learns.table refl
      (learns.fresh, learns.retired) learns.marks (ap put_count learns.mine)

  -- only its steps, polls and loads and what it heard are others
  pub rests_keeps : (steps : ℕ) (polls : List Past) (loads : List LoggedLoad) (heard : List ℕ)
      → new ≡ record old { steps = steps; marks = with_scan old.marks polls loads; heard = heard } → KeepsSets old new
  rests_keeps steps polls loads heard is =
      slots_keep polls loads (ap (λ (c : Caller). c.number) is) (ap (λ (c : Caller). c.table) is) (ap lists_of is)
      (refl, refl) (ap (λ (c : Caller). c.marks) is) (ap (λ (c : Caller). put_count c.mine) is)

  pub fill_keeps : (key number : ℕ) (rows : List Row) (fault : FillFault) → FillsKey key number rows old new (Err fault)
      → KeepsSets old new
  fill_keeps key number rows (fill.NoSlot counts) says = lacks_keeps _ _ counts says
  fill_keeps key number rows fault says = quiet_keeps _ _ _ refl says.0 says.1

  pub replace_keeps : (key : ℕ) (rows : List Row) (fault : ReplaceFault) → ReplacesKey key rows old new (Err fault)
      → KeepsSets old new
  replace_keeps key rows replace.Dropped says = quiet_keeps _ _ _ refl says.0 says.1
  replace_keeps key rows (replace.NoSlot counts) says = lacks_keeps _ _ counts says

  pub update_keeps : (bound key : ℕ) (batch : List Delta) (fault : UpdateFault)
      → UpdatesKey bound key batch old new (Err fault) → KeepsSets old new
  update_keeps bound key batch update.Dropped says = quiet_keeps _ _ _ refl says.0 says.1
  update_keeps bound key batch (update.NoSlot counts) says = lacks_keeps _ _ counts says.3
  update_keeps bound key batch fault says = quiet_keeps _ _ _ refl says.2 says.4

  pub cancel_keeps : (key : ℕ) (answer : Cancel) → CancelsKey key old new answer → KeepsSets old new
  cancel_keeps key cancel.Cancelled says =
      slots_keep [] old.marks.loads says.0.number says.0.table says.1 (refl, refl) says.2
      (quiet_puts _ _ _ refl says.0)
  cancel_keeps key answer says = quiet_keeps _ _ _ refl says.0 says.1

  pub evict_keeps : (key : ℕ) (answer : Evict) → EvictsKey key old new answer → KeepsSets old new
  evict_keeps key evict.Nothing says = quiet_keeps _ _ _ refl says.0 says.1
  evict_keeps key evict.Evicted says = let marks = says.4 in record {
    number = says.0.number;
    table = says.0.table;
    fresh = says.1;
    puts = ap (λ (m : Marks). m.puts) marks;
    sets = ap (λ (m : Marks). m.sets) marks;
    reaped = ap (λ (m : Marks). m.reaped) marks;
    living = λ slot lives. ⊎_elim (λ before. before) (λ named. absurd (omega (arith, named)))
        (lived old new old.retired key 0 slot (ap (λ (m : Marks). m.names) marks)
        (one_retired key old old.retired new.retired says.3) lives);
    many = quiet_puts _ _ _ refl says.0;
  }
