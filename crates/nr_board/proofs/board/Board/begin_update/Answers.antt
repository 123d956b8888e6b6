use Rattle.std.proofs.Common.{ap, sym, ◌∙◌, ◌≡◌, Err, List}
use Rattle.nr_model.specs.Batches.{applied}
use Rattle.nr_model.specs.declared.batches.ApplyFault.TheVariants as fault
use Rattle.nr_model.specs.declared.calls.Reply.TheVariants as reply
use Rattle.nr_core.specs.Slots.{bound_of}
use Rattle.nr_board.proofs.Looks.{has_looked, slot_so, update_dropped, update_reads}
use Rattle.nr_board.proofs.WriterCalls.{about_to_read, has_read, has_refused, look_ends}
use Rattle.nr_board.proofs.board.Board.begin_update.Goals as goal
use Rattle.nr_model.specs.declared.rows.Row.{Row}
use Rattle.nr_core.specs.declared.calls.WriterCall.{WriterCall}
use Rattle.nr_board.specs.Callers.{Table}
use Rattle.nr_board.specs.NamedRows.{ReadsAll}
use Rattle.nr_board.specs.WriterSeats.{MapSeat}

-- a room that is a set: the rows that it shows are its value
reads_set : {table : Table} {call : WriterCall} {before after : MapSeat} {rows : List Row}
    → ((set : List Row) × (rows ≡ set) × ReadsAll table call set before after) → ReadsAll table call rows before after
reads_set (set, same, reads) = rw same reads

pub returns-then-not-found : goal.returns-then-not-found
returns-then-not-found g c =
    let looks = has_looked c.requires.rests c.requires.own c.requires.call c.look.ensures in
    let parts = c.parts-found.ensures.parts in
    let told = look_ends looks reply.Dropped (update_dropped looks parts c.if-not-found.true) in
    (told.0, told.1, told.1.1.2)

pub read_set-requires : goal.read_set-requires
read_set-requires g c =
    let looks = has_looked c.requires.rests c.requires.own c.requires.call c.look.ensures in
    let parts = c.parts-found.ensures.parts in
    let reads
    = about_to_read looks (update_reads looks parts c.if-not-found.false) c.requires.call
    (slot_so c.look.result parts) in
    record { writer = reads.0; slot = reads.1; key = rw c.requires.call c.requires.key }

pub returns-in-Err-NoRow : goal.returns-in-Err-NoRow
returns-in-Err-NoRow g c =
    let looks = has_looked c.requires.rests c.requires.own c.requires.call c.look.ensures in
    let reads = update_reads looks c.parts-found.ensures.parts c.if-not-found.false in
    let read = has_read looks reads c.requires.call (reads_set c.read_set.ensures) in
    let is : applied (bound_of c.args.self.now.shape) c.read_set.new.rows c.args.deltas.now ≡ Err fault.NoRow
    = rw (sym c.rows.ensures.value) (c.in-Err-NoRow.ensures.fault ∙ ap Err c.in-Err-NoRow.field-0-is) in
    let told = has_refused read fault.NoRow is in
    (told.0, (c.read_set.new.rows, is, told.1.0, told.1.1, told.1.2), told.1.2.2)

pub returns-in-Err-TooMany : goal.returns-in-Err-TooMany
returns-in-Err-TooMany g c =
    let looks = has_looked c.requires.rests c.requires.own c.requires.call c.look.ensures in
    let reads = update_reads looks c.parts-found.ensures.parts c.if-not-found.false in
    let read = has_read looks reads c.requires.call (reads_set c.read_set.ensures) in
    let is : applied (bound_of c.args.self.now.shape) c.read_set.new.rows c.args.deltas.now ≡ Err fault.TooMany
    = rw (sym c.rows.ensures.value) (c.in-Err-TooMany.ensures.fault ∙ ap Err c.in-Err-TooMany.field-0-is) in
    let told = has_refused read fault.TooMany is in
    (told.0, (c.read_set.new.rows, is, told.1.0, told.1.1, told.1.2), told.1.2.2)

pub returns-in-Ok : goal.returns-in-Ok
returns-in-Ok g c =
    let looks = has_looked c.requires.rests c.requires.own c.requires.call c.look.ensures in
    let reads = update_reads looks c.parts-found.ensures.parts c.if-not-found.false in
    let read = has_read looks reads c.requires.call (reads_set c.read_set.ensures) in
    (_, c.read_set.new.rows, read, rw (sym c.rows.ensures.value) c.in-Ok.ensures.ok)
