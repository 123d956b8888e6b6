use Rattle.std.proofs.Common.{refl, subst, sym}
use Rattle.nr_model.specs.Rows.{IsRowSet}
use Rattle.nr_model.specs.declared.calls.Reply.TheVariants as reply
use Rattle.nr_board.proofs.Looks.{find_hole, find_reads, has_looked, slot_so}
use Rattle.nr_board.proofs.WriterCalls.{about_to_read, has_found, has_read, look_ends}
use Rattle.nr_board.specs.Callers.{Table}
use Rattle.nr_board.proofs.board.Board.look_up.Goals as goal

pub returns-then-not-found : goal.returns-then-not-found
returns-then-not-found g c =
    let looks = has_looked c.requires.rests c.requires.own c.requires.call c.look.ensures in
    let told = look_ends looks reply.Hole (find_hole looks c.parts-found.ensures.parts c.if-not-found.true) in
    record { rests = told.0; looks = (told.1.0, told.1.1, refl) }

pub read_set-requires : goal.read_set-requires
read_set-requires g c =
    let looks = has_looked c.requires.rests c.requires.own c.requires.call c.look.ensures in
    let parts = c.parts-found.ensures.parts in
    let reads
    = about_to_read looks (find_reads looks parts c.if-not-found.false) c.requires.call
    (slot_so c.look.result parts) in
    record { writer = reads.0; slot = reads.1; key = rw c.requires.call c.requires.key }

pub returns : goal.returns
returns g c =
    let looks = has_looked c.requires.rests c.requires.own c.requires.call c.look.ensures in
    let (rows, shows, reads) = c.read_set.ensures in
    let told
    = has_found
    (has_read looks (find_reads looks c.parts-found.ensures.parts c.if-not-found.false) c.requires.call reads) in
    let row_set = subst (λ (t : Table). IsRowSet t.shape.rows rows) (sym c.requires.own) reads.row_set in
    record { rests = told.0; looks = (rows, told.1.0, told.1.1, shows, row_set) }
