-- What the writer's steps tell of its seat.
use Rattle.std.proofs.Common.{List, [], ap, subst, sym, ℕ, ◌∙◌, ◌≡◌}
use Rattle.nr_model.specs.declared.calls.Call.{Call}
use Rattle.nr_core.specs.Core.{AreNumbers}
use Rattle.nr_core.specs.Story.{call_of, map_after}
use Rattle.nr_core.specs.Writer.{looked, went}
use Rattle.nr_core.specs.declared.calls.Step.{Step}
use Rattle.nr_core.specs.declared.calls.WriterCall.{WriterCall}
use Rattle.nr_core.specs.declared.places.Place.{Place}
use Rattle.nr_core.specs.declared.roles.Desk.{Desk}
use Rattle.nr_core.specs.declared.roles.Role.{Role}
use Rattle.nr_core.specs.declared.roles.Role.TheVariants.{Writer}
use Rattle.nr_core.specs.declared.shape.Shape.{Shape}
use Rattle.nr_board.proofs.Tokens.{seat_grows}
use Rattle.nr_board.specs.Callers.{Table, map_seen, token}
use Rattle.nr_board.specs.Plays.{Leads, Looked, Put, Room, Went, call_at, next_put}
use Rattle.nr_board.specs.WriterSeats.{GoesOn, GoesTo, LeadsTo, MapSeat, PutsTo}

-- the desk with its place as it is
pub desk_at : (role : Role) (desk : Desk) (place : Place) → role ≡ Writer desk → desk.place ≡ place
    → role ≡ Writer (record desk { place = place })
desk_at role desk place is place_is = is ∙ (λ j. Writer (record desk { place = place_is j }))

module _ (table : Table) (before after : MapSeat) (same : after.table_id ≡ before.table_id)
    (own : (token before).table ≡ table) where
  shape_is : before.me.0.shape ≡ table.shape
  shape_is = ap (λ (t : Table). t.shape) own

  pub numbers_seat : (numbers : List ℕ) → (token after).table ≡ (token before).table
      → AreNumbers before.me.0.shape (map_after before.me.0.shape after.me.0.seen) numbers
      → AreNumbers table.shape (map_seen (token after)) numbers
  numbers_seat numbers stays listed =
      subst (λ (p : Shape × Shape). AreNumbers p.0 (map_after p.1 after.me.0.seen) numbers)
      (λ j. (shape_is j, (sym stays j).shape)) listed

  pub leads_seat : (call : Call) (outcome : Desk × Step) → Leads call outcome before.me.0 after.me.0
      → LeadsTo table call outcome before after
  leads_seat call outcome leads = let grows = seat_grows before after _ same leads.advances in record {
    writes = record {
      own = grows.table ∙ own;
      role = leads.role;
      room = subst (λ (s : Shape). Room s outcome.0) shape_is leads.room;
      numbers = numbers_seat outcome.0.numbers grows.table leads.numbers;
    };
    grows = grows;
    short = λ counts without. leads.short counts without after.table_id;
  }

  pub looked_seat : (desk : Desk) (call : WriterCall) (found : ℕ) → Looked desk call found before.me.0 after.me.0
      → LeadsTo table (call_of call) (looked table.shape desk call found) before after
  looked_seat desk call found told =
      subst (λ (s : Shape). LeadsTo table (call_of call) (looked s desk call found) before after) shape_is
      (leads_seat (call_of call) (looked before.me.0.shape desk call found) told.leads)

  pub gone_seat : (desk : Desk) (found : ℕ) → Went desk found before.me.0 after.me.0
      → GoesTo table desk found before after
  gone_seat desk found told = record {
    leads =
        subst (λ (s : Shape). LeadsTo table (call_at desk.place) (went s desk desk.place found) before after) shape_is
        (leads_seat (call_at desk.place) (went before.me.0.shape desk desk.place found) told.leads);
    log = told.log;
    seen = rw shape_is at told.seen;
    finds = rw shape_is at told.finds;
    notes = told.notes;
    marks = rw (sym shape_is) told.marks;
    heard = told.heard;
  }

  pub put_seat : (desk : Desk) → Put desk before.me.0 after.me.0 → PutsTo table desk before after
  put_seat desk told = let grows = seat_grows before after [] same told.advances in record {
    writes = record {
      own = grows.table ∙ own;
      role = told.role;
      room = subst (λ (s : Shape). Room s (next_put desk)) shape_is told.room;
      numbers = numbers_seat desk.numbers grows.table told.numbers;
    };
    grows = grows;
    marks = told.marks;
    heard = told.heard;
  }

-- a later step of a call, whatever the desk
pub goes_on : {table : Table} {found : ℕ} {before after : MapSeat} → after.table_id ≡ before.table_id
    → (token before).table ≡ table
    → ((desk : Desk) → before.me.0.role ≡ Writer desk → Went desk found before.me.0 after.me.0)
    → GoesOn table found before after
goes_on {table = table} {found = found} {before = before} {after = after} same own
    told = λ desk is. gone_seat table before after same own desk found (told desk is)
