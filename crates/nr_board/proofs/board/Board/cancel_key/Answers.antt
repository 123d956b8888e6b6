use Rattle.std.proofs.Common.{ap, arith, refl, ℕ, ◌+◌, ◌∙◌, ◌≡◌}
use Rattle.std.specs.Prelude.{slice_set}
use Rattle.nr_model.specs.declared.calls.Reply.TheVariants as reply
use Rattle.nr_core.specs.Writer.{ended, looked}
use Rattle.nr_core.specs.declared.calls.WriterCall.TheVariants as writer
use Rattle.nr_core.specs.declared.places.Place.TheVariants.{Idle, Withdrawing}
use Rattle.nr_board.proofs.Looks.{cancel_filled, cancel_unasked, cancel_withdraws, cancel_worn, has_looked}
use Rattle.nr_board.proofs.WriterCalls.{about_to_go, has_cancelled, look_ends}
use Rattle.nr_board.specs.SlotLists.{desk_with}
use Rattle.nr_board.proofs.board.Board.cancel_key.Goals.{then-found-via-then-found}
use Rattle.nr_board.proofs.board.Board.cancel_key.Goals.{then-found-via-else-found+then-not-found}
use Rattle.nr_board.proofs.board.Board.cancel_key.Goals as goal

pub returns-then-found : goal.returns-then-found
returns-then-found g c =
    let looks = has_looked c.requires.rests c.requires.own c.requires.call c.look.ensures in
    let parts = c.parts-found.ensures.parts in
    let desk = desk_with c.args.lists.now Idle in
    let outcome : looked c.args.self.now.shape desk (writer.Cancel c.args.key) c.look.result
    ≡ (desk, ended reply.Nothing)
    = elim c.then-found.branch [
      | then-found-via-then-found w ↦ cancel_filled looks parts w.if-found.true
      | then-found-via-else-found+then-not-found w ↦
          cancel_unasked looks parts w.if-found.false w.if-not-found.true
    ] in
    let told = look_ends looks reply.Nothing outcome in
    record { rests = told.0; cancels = told.1 }

pub returns-then-from-ge-LAST_NUMBER : goal.returns-then-from-ge-LAST_NUMBER
returns-then-from-ge-LAST_NUMBER g c =
    let looks = has_looked c.requires.rests c.requires.own c.requires.call c.look.ensures in
    let told
    = look_ends looks reply.Worn
    (cancel_worn looks c.parts-found.ensures.parts c.if-found.false c.if-not-found.false
    (omega (arith, c.from.ensures, c.if-from-ge-LAST_NUMBER.true))) in
    record { rests = told.0; cancels = told.1 }

pub overflow_add-next : goal.overflow_add-next
overflow_add-next g c =
    let looks = has_looked c.requires.rests c.requires.own c.requires.call c.look.ensures in
    let withdraws
    = cancel_withdraws looks c.parts-found.ensures.parts c.if-found.false c.if-not-found.false
    (omega (arith, c.from.ensures, c.if-from-ge-LAST_NUMBER.false)) in
    omega (arith, (about_to_go looks withdraws).writes.room.place.1, c.number-next.ensures)

pub withdraw-requires : goal.withdraw-requires
withdraw-requires g c =
    let looks = has_looked c.requires.rests c.requires.own c.requires.call c.look.ensures in
    let withdraws
    = cancel_withdraws looks c.parts-found.ensures.parts c.if-found.false c.if-not-found.false
    (omega (arith, c.from.ensures, c.if-from-ge-LAST_NUMBER.false)) in
    record {
      desk = desk_with c.args.lists.now (Withdrawing c.args.key);
      writes = (about_to_go looks withdraws).writes;
      place = refl;
      number_is = ap (λ (n : ℕ). n + 1) c.number-next.ensures;
    }

pub returns : goal.returns
returns g c =
    let looks = has_looked c.requires.rests c.requires.own c.requires.call c.look.ensures in
    let withdraws
    = cancel_withdraws looks c.parts-found.ensures.parts c.if-found.false c.if-not-found.false
    (omega (arith, c.from.ensures, c.if-from-ge-LAST_NUMBER.false)) in
    let told
    = has_cancelled looks withdraws c.withdraw.ensures.1
    (c.renumber.ensures
    ∙ ap (λ (n : ℕ). record c.args.lists.now { numbers = slice_set c.args.lists.now.numbers c.args.key (n + 1) })
    c.number-next.ensures) in
    record { rests = told.0; cancels = told.1 }
