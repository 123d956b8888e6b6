-- The number that stands for each answer to a call by id.
use Rattle.std.specs.Prelude.{ℕ, Result, Ok, Err}
use Rattle.nr_board.specs.declared.answers.ReplaceFault.{ReplaceFault}
use Rattle.nr_board.specs.declared.answers.UpdateFault.{UpdateFault}
use Rattle.nr_ids.specs.declared.admissions.Refused.{Refused}
use Rattle.nr_ids.specs.declared.admissions.Refused.TheVariants as refused
use Rattle.nr_ids.specs.declared.requests.Requested.{Requested}
use Rattle.nr_ids.specs.declared.requests.Requested.TheVariants as requested
use Rattle.nr_idmap.specs.declared.finds.FoundId.{FoundId}
use Rattle.nr_idmap.specs.declared.finds.FoundId.TheVariants as found
use Rattle.nr_idmap.specs.declared.looks.Looked.{Looked}
use Rattle.nr_idmap.specs.declared.looks.Looked.TheVariants as looked
use Rattle.nr_idmap.specs.declared.upqueries.Unfilled.{Unfilled}
use Rattle.nr_idmap.specs.declared.upqueries.Unfilled.TheVariants as unfilled
use Rattle.nr_idmap.specs.declared.upqueries.Withdrawn.{Withdrawn}
use Rattle.nr_idmap.specs.declared.upqueries.Withdrawn.TheVariants as withdrawn
use Rattle.nr_idmap.specs.declared.writes.IdFault.{IdFault}
use Rattle.nr_idmap.specs.declared.writes.IdFault.TheVariants as fault
use Rattle.nr_c.specs.Codes.{no_slot_code, replace_code, update_code}
use Rattle.nr_c.specs.Numbers.{answer_asked, answer_cancelled, answer_done, answer_full, answer_hole, answer_named}
use Rattle.nr_c.specs.Numbers.{answer_not_asked, answer_nothing, answer_other, answer_rows, answer_send, answer_stale}
use Rattle.nr_c.specs.Numbers.{answer_waiting, answer_worn}

abbrev pub found_id_code : FoundId → ℕ
found_id_code found.Rows = answer_rows
found_id_code found.Pending = answer_asked
found_id_code found.Moved = answer_other
found_id_code found.Absent = answer_hole

abbrev pub request_code : Requested → ℕ
request_code (requested.Granted claim) = answer_send
request_code (requested.Named way) = answer_named
request_code requested.Busy = answer_waiting
request_code requested.Outrun = answer_waiting
request_code requested.Worn = answer_worn

abbrev pub looked_code : Looked → ℕ
looked_code looked.Rows = answer_rows
looked_code looked.Pending = answer_asked
looked_code looked.Absent = answer_hole

abbrev pub refused_code : Refused → ℕ
refused_code refused.NoClaim = answer_not_asked
refused_code (refused.Named way) = answer_named
refused_code refused.Full = answer_full

abbrev pub filled_code : Result (Unit {0}) Unfilled → ℕ
filled_code (Ok done) = answer_done
filled_code (Err unfilled.Closed) = answer_stale
filled_code (Err (unfilled.NoSlot upquery counts)) = no_slot_code counts

abbrev pub withdrawn_code : Withdrawn → ℕ
withdrawn_code withdrawn.Done = answer_cancelled
withdrawn_code withdrawn.Closed = answer_stale
withdrawn_code (withdrawn.Worn upquery) = answer_worn

-- an id without a way has nothing; else the code is that of the way's key
abbrev pub id_code : {Fault : Type 0} → (Result (Unit {0}) Fault → ℕ) → Result (Unit {0}) (IdFault Fault) → ℕ
id_code code_of (Ok done) = answer_done
id_code code_of (Err fault.Absent) = answer_nothing
id_code code_of (Err (fault.Refused why)) = code_of (Err why)

abbrev pub id_update_code : Result (Unit {0}) (IdFault UpdateFault) → ℕ
id_update_code = id_code update_code

abbrev pub id_replace_code : Result (Unit {0}) (IdFault ReplaceFault) → ℕ
id_replace_code = id_code replace_code
