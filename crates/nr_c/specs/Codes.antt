-- The number that stands for each answer.
use Rattle.std.specs.Prelude.{ℕ, ◌≡◌, ◌==◌, if◌then◌else◌, Result, Ok, Err}
use Rattle.nr_c.specs.Numbers.{answer_already, answer_asked, answer_cancelled, answer_done, answer_dropped}
use Rattle.nr_c.specs.Numbers.{answer_empty, answer_evicted, answer_filled, answer_full, answer_given, answer_held}
use Rattle.nr_c.specs.Numbers.{answer_hole, answer_in_the_way, answer_no_row, answer_all_filled, answer_no_slot}
use Rattle.nr_c.specs.Numbers.{answer_not_asked, answer_nothing, answer_rows, answer_send, answer_stale}
use Rattle.nr_c.specs.Numbers.{answer_too_many, answer_waiting, answer_worn}
use Rattle.nr_core.specs.declared.calls.NoSlot.{NoSlot}
use Rattle.nr_map.specs.declared.answers.Asked.{Asked}
use Rattle.nr_map.specs.declared.answers.Asked.TheVariants as asked
use Rattle.nr_board.specs.declared.answers.Cancel.{Cancel}
use Rattle.nr_board.specs.declared.answers.Cancel.TheVariants as cancel
use Rattle.nr_board.specs.declared.answers.Evict.{Evict}
use Rattle.nr_board.specs.declared.answers.Evict.TheVariants as evict
use Rattle.nr_board.specs.declared.answers.FillFault.{FillFault}
use Rattle.nr_board.specs.declared.answers.FillFault.TheVariants as fill
use Rattle.nr_board.specs.declared.answers.Reaped.{Reaped}
use Rattle.nr_board.specs.declared.answers.Reaped.TheVariants as reaped
use Rattle.nr_board.specs.declared.answers.Reclaimed.{Reclaimed}
use Rattle.nr_board.specs.declared.answers.Reclaimed.TheVariants as reclaimed
use Rattle.nr_board.specs.declared.answers.ReplaceFault.{ReplaceFault}
use Rattle.nr_board.specs.declared.answers.ReplaceFault.TheVariants as replace
use Rattle.nr_board.specs.declared.answers.UpdateFault.{UpdateFault}
use Rattle.nr_board.specs.declared.answers.UpdateFault.TheVariants as update
use Rattle.nr_board.specs.declared.answers.Found.{Found}
use Rattle.nr_board.specs.declared.answers.Found.TheVariants as found
use Rattle.nr_board.specs.declared.answers.KeyKind.{KeyKind}
use Rattle.nr_board.specs.declared.answers.KeyKind.TheVariants as kind
use Rattle.nr_trigger.specs.declared.faults.PostFault.{PostFault}
use Rattle.nr_trigger.specs.declared.faults.PostFault.TheVariants as post
use Rattle.nr_trigger.specs.declared.faults.TakeFault.{TakeFault}
use Rattle.nr_trigger.specs.declared.faults.TakeFault.TheVariants as take

-- a call tells its answer by a number, and this holds of the answer
abbrev pub ByCode : {Answer : Type 0} → (Answer → ℕ) → (Answer → Type 0) → ℕ → Type 0
ByCode {Answer = Answer} code_of holds code = (answer : Answer) × (code ≡ code_of answer) × holds answer

abbrev pub found_code : Found → ℕ
found_code found.Rows = answer_rows
found_code found.Hole = answer_hole

abbrev pub ask_code : Asked → ℕ
ask_code (asked.Send ticket) = answer_send
ask_code asked.Waiting = answer_waiting
ask_code asked.Filled = answer_filled

-- readers hold some of the slots, or each is a filled key's
abbrev pub no_slot_code : NoSlot → ℕ
no_slot_code counts = if counts.held == 0 then answer_all_filled else answer_no_slot

abbrev pub fill_code : Result (Unit {0}) FillFault → ℕ
fill_code (Ok done) = answer_done
fill_code (Err fill.NotAsked) = answer_not_asked
fill_code (Err fill.Already) = answer_already
fill_code (Err fill.Stale) = answer_stale
fill_code (Err (fill.NoSlot counts)) = no_slot_code counts

abbrev pub update_code : Result (Unit {0}) UpdateFault → ℕ
update_code (Ok done) = answer_done
update_code (Err update.Dropped) = answer_dropped
update_code (Err update.NoRow) = answer_no_row
update_code (Err update.TooMany) = answer_too_many
update_code (Err (update.NoSlot counts)) = no_slot_code counts

abbrev pub replace_code : Result (Unit {0}) ReplaceFault → ℕ
replace_code (Ok done) = answer_done
replace_code (Err replace.Dropped) = answer_dropped
replace_code (Err (replace.NoSlot counts)) = no_slot_code counts

-- a call that put its set gave out the one that its slot had, or nothing
abbrev pub reclaimed_code : Reclaimed → ℕ
reclaimed_code reclaimed.Set = answer_given
reclaimed_code reclaimed.Nothing = answer_done

abbrev pub reclaiming_code : {Fault : Type 0} → (Result (Unit {0}) Fault → ℕ) → Result Reclaimed Fault → ℕ
reclaiming_code code_of (Ok given) = reclaimed_code given
reclaiming_code code_of (Err fault) = code_of (Err fault)

abbrev pub fill_reclaiming_code : Result Reclaimed FillFault → ℕ
fill_reclaiming_code = reclaiming_code fill_code

abbrev pub update_reclaiming_code : Result Reclaimed UpdateFault → ℕ
update_reclaiming_code = reclaiming_code update_code

abbrev pub replace_reclaiming_code : Result Reclaimed ReplaceFault → ℕ
replace_reclaiming_code = reclaiming_code replace_code

abbrev pub reaped_code : Reaped → ℕ
reaped_code reaped.Set = answer_given
reaped_code reaped.Held = answer_held
reaped_code reaped.Nothing = answer_nothing

abbrev pub evict_code : Evict → ℕ
evict_code evict.Evicted = answer_evicted
evict_code evict.Nothing = answer_nothing

abbrev pub cancel_code : Cancel → ℕ
cancel_code cancel.Cancelled = answer_cancelled
cancel_code cancel.Nothing = answer_nothing
cancel_code cancel.Worn = answer_worn

abbrev pub kind_code : KeyKind → ℕ
kind_code kind.Hole = answer_hole
kind_code kind.Asked = answer_asked
kind_code kind.Rows = answer_rows

abbrev pub post_code : Result (Unit {0}) PostFault → ℕ
post_code (Ok done) = answer_done
post_code (Err post.Full) = answer_full
post_code (Err post.InTheWay) = answer_in_the_way

abbrev pub take_code : TakeFault → ℕ
take_code take.Empty = answer_empty
take_code take.InTheWay = answer_in_the_way
