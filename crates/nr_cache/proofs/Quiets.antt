-- What the map's calls by id and the store's steps do to the writer: which put no set, and which sets come out.
use Rattle.std.proofs.Common.{◌≡◌, ◌≤◌, ℕ, false, List, [], ◌∷◌, ◌++◌, Ok, refl, sym, subst, arith, append_assoc}
use Rattle.std.proofs.Common.{append-nil, inl, inr, true, Bool, Option, Some, None, ap}
use Rattle.nr_model.specs.Histories.{is_done}
use Rattle.nr_model.specs.Maps.{filled_count}
use Rattle.nr_model.specs.declared.calls.Call.{Call}
use Rattle.nr_model.specs.declared.calls.Reply.{Reply}
use Rattle.nr_model.specs.declared.rows.Row.{Row}
use Rattle.nr_model.specs.declared.calls.Call.TheVariants.{Find}
use Rattle.nr_model.specs.declared.calls.Reply.TheVariants as reply
use Rattle.nr_board.specs.Callers.{Caller, Gains, map_seen}
use Rattle.nr_board.specs.declared.answers.Evict.{Evict}
use Rattle.nr_board.specs.declared.answers.Evict.TheVariants as evict
use Rattle.nr_board.specs.declared.answers.Reaped.{Reaped}
use Rattle.nr_board.specs.declared.answers.Reaped.TheVariants as reaped
use Rattle.nr_board.specs.declared.answers.Reclaimed.{Reclaimed}
use Rattle.nr_board.specs.declared.answers.Reclaimed.TheVariants as reclaimed
use Rattle.nr_board.specs.Meetings.{Learns, with_step}
use Rattle.nr_board.specs.Reaping.{ReapsIn}
use Rattle.nr_board.specs.Reclaiming.{FillsReclaiming, PutsAndGives, ReplacesReclaiming}
use Rattle.nr_map.specs.GivenBack as back
use Rattle.nr_map.specs.GivenBack.{Deals, Run, given_by}
use Rattle.nr_map.specs.Remains.{Given, given_at}
use Rattle.nr_idmap.specs.IdWrites.{AdmitsId, EvictsId}
use Rattle.nr_idmap.specs.Keepers.{IsTied, Keeper, Owed, IdCaller, Sent}
use Rattle.nr_idmap.specs.IdChoices.{StaysButClerk}
use Rattle.nr_cache.specs.Moves.{GoesOn, Moves, ShowsGiven, ShowsReaped}
use Rattle.nr_cache.specs.Moves as move
use Rattle.nr_cache.specs.Values.{values_in, set_of}
use Rattle.nr_cache.specs.declared.finds.FoundValue.{FoundValue}
use Rattle.nr_cache.specs.declared.given.GivenValue.{GivenValue}
use Rattle.nr_cache.specs.Firsts.{TakesFirstOrNone}
use Rattle.nr_cache.specs.Places as places
use Rattle.nr_cache.specs.Places.{AdmitsAtOnce, AdmitsOrNot, HasNoPlace, KeepsWithin, LetsOneGo, LightensFor}
use Rattle.nr_cache.specs.Places.{LooksAtValue, Loses, MakesRoom, TakesEach, TakesFrom, TakesValue}
use Rattle.nr_cache.specs.Stamps as stamps
use Rattle.nr_cache.specs.Stamps.{LooksAround}
use Rattle.nr_cache.specs.Weights.{Stock}
use Rattle.nr_cache.proofs.Filled.{undone_counts}
use Rattle.nr_cache.proofs.WriterCalls.{IsWriter, learnt_keeps, writes, writes_still}

-- CALLS IN A ROW
module _ {Room : Type 0} (shows : Room → List Row → Type 0) where
  one_move : {old new : Caller} {put : List (List Row)} {out : List Given} → Deals shows old put out new
      → Moves shows old put out new
  one_move {old} {new} {put} {out} deal = move.OneMove old old new [] put [] out (move.NoMove old) deal

  pub moves_then : {old mid new : Caller} {put : List (List Row)} {out : List Given} → Moves shows old [] [] mid
      → Moves shows mid put out new → Moves shows old put out new
  moves_then first (move.NoMove writer) = first
  moves_then {old} first (move.OneMove mid late new put more out last before deal) =
      move.OneMove old late new put more out last (moves_then first before) deal

-- QUIET CALLS
-- they put no set, and none comes out; so there are no more than there were
pub record IsQuiet (old new : Caller) : Type 1 where
  pub fewer : IsWriter old → IsWriter new × (filled_count (map_seen new) ≤ filled_count (map_seen old))
  pub moves : {Room : Type 0} (shows : Room → List Row → Type 0) → Moves shows old [] [] new

pub quiet_fewer : {old : Keeper} (new : Keeper) → IsTied old → IsQuiet old.writer new.writer
    → values_in new ≤ values_in old
quiet_fewer new tied quiet = (quiet.fewer (writes tied)).1

pub quiet_then : {old mid new : Caller} → IsQuiet old mid → IsQuiet mid new → IsQuiet old new
quiet_then first more = record {
  fewer = λ writer.
      let before = first.fewer writer in
      let after = more.fewer before.0 in
      (after.0, omega (arith, before.1, after.1));
  moves = λ shows. moves_then shows (first.moves shows) (more.moves shows);
}

pub quiet_same : {old new : Caller} → new ≡ old → IsQuiet old new
quiet_same {old} same =
    subst (λ (c : Caller). IsQuiet old c) (sym same)
    (record { fewer = λ writer. (writer, omega arith); moves = λ shows. move.NoMove old })

-- a call that isn't done, an eviction among them
pub quiet_undone : {steps : ℕ} {call : Call} {answer : Reply} {old new : Caller} → is_done answer ≡ false
    → Gains steps call old new answer → ((Room : Type 0) (shows : Room → List Row → Type 0) → Deals shows old [] [] new)
    → IsQuiet old new
quiet_undone undone gains deals = record {
  fewer = λ writer. (writes_still writer gains, undone_counts writer undone gains);
  moves = λ shows. one_move shows (deals _ shows);
}

pub quiet_learnt : {steps : ℕ} {old new : Caller} → Learns steps old new → IsQuiet old new
quiet_learnt {steps} {old} {new} learns = record {
  fewer = λ writer. let kept = learnt_keeps writer learns in (kept.writer, omega (arith, kept.count));
  moves = λ shows. one_move shows (back.LearnsMore steps old new learns);
}

quiet_step : (old : Caller) → IsQuiet old (with_step old)
quiet_step old = record {
  fewer = λ writer. (record { number = writer.number; own = writer.own }, omega arith);
  moves = λ shows. one_move shows (back.Rests 1 old (with_step old) refl);
}

-- EACH CALL BY ID
pub evict_quiet : (id : ℕ) (old new : Keeper) (answer : Evict) → EvictsId id old new answer
    → IsQuiet old.writer new.writer
evict_quiet id old new evict.Evicted (way, evicts) =
    quiet_undone refl evicts.evicts.0
    (λ Room shows. back.Evicts way old.writer new.writer evict.Evicted evicts.evicts)
evict_quiet id old new evict.Nothing (inl none) = quiet_same none.1
evict_quiet id old new evict.Nothing (inr (way, finds, evicts)) =
    quiet_undone refl evicts.0 (λ Room shows. back.Evicts way old.writer new.writer evict.Nothing evicts)

pub admit_quiet : {id : ℕ} {old new : Keeper} {owed : Owed} → AdmitsId id old new owed → IsQuiet old.writer new.writer
admit_quiet {old = old} admits = quiet_then (quiet_step old.writer) (quiet_learnt admits.asks.hears.learns)

-- WHAT COMES OUT
module _ {Room : Type 0} (shows : Room → List Row → Type 0) where
  -- what a call put, and shows of what came out
  pub record Gives (old : Caller) (set : List Row) (new : Caller) (after : Room) (given : Reclaimed) : Type 0 where
    pub out : List Given
    pub moves : Moves shows old (set ∷ []) out new
    pub shown : ShowsGiven shows out after given

  shown_by : {others : ℕ} {call : Call} {rows : List Row} {old new : Caller} {before after : Room} (given : Reclaimed)
      → (does : PutsAndGives shows others call rows old before new after given)
      → ShowsGiven shows (given_by old does.published.slot given) after given
  shown_by {old = old} reclaimed.Set does = (given_at old does.published.slot, refl, does.gives.3)
  shown_by reclaimed.Nothing does = refl

  pub fill_gives : {key number : ℕ} {rows : List Row} {old new : Caller} {before after : Room} {given : Reclaimed}
      → FillsReclaiming shows key number rows old before new after (Ok given) → Gives old rows new after given
  fill_gives {key} {number} {rows} {old} {new} {before} {after} {given} does = record {
    out = given_by old does.published.slot given;
    moves = one_move shows (back.Fills key number rows old new before after given does);
    shown = shown_by given does;
  }

  pub replace_gives : {key : ℕ} {rows : List Row} {old new : Caller} {before after : Room} {given : Reclaimed}
      → ReplacesReclaiming shows key rows old before new after (Ok given) → Gives old rows new after given
  replace_gives {key} {rows} {old} {new} {before} {after} {given} does = record {
    out = given_by old does.published.slot given;
    moves = one_move shows (back.Replaces key rows old new before after given does);
    shown = shown_by given does;
  }

  pub reap_moves : (old new : Caller) (before after : Room) (answer : Reaped)
      → ReapsIn shows old before new after answer
      → (out : List Given) × Moves shows old [] out new × ShowsReaped shows out before after answer
  reap_moves old new before after reaped.Set does = (
    given_at old does.entry.slot ∷ [],
    one_move shows (back.Reaps old new before after does),
    (given_at old does.entry.slot, refl, does.shown),
  )
  reap_moves old new before after reaped.Held does =
      ([], one_move shows (back.ReapHeld old new before after does), (refl, does.9))
  reap_moves old new before after reaped.Nothing does =
      ([], one_move shows (back.ReapNothing old new before after does), (refl, does.2))

  go_on : {old new : Caller} {more : List (List Row)} {out : List Given} (put : List (List Row)) (given : List Given)
      → Run shows old put given → Moves shows old more out new → Run shows new (put ++ more) (given ++ out)
  go_on put given run (move.NoMove writer) = rw (append-nil put, append-nil given) run
  go_on put given run (move.OneMove old mid new more last out late before deal) =
      rw (← append_assoc put more last, ← append_assoc given out late)
      (back.Goes mid new (put ++ more) last (given ++ out) late (go_on put given run before) deal)

  pub goes_on_lem : GoesOn shows
  goes_on_lem old new put more given out run m = go_on put given run m

-- LOOKS
pub stays_quiet : {old new : Keeper} → StaysButClerk old new → IsQuiet old.writer new.writer
stays_quiet stays = quiet_same stays.writer

pub look_quiet : (id : ℕ) (old new : Keeper) (found : Option FoundValue) → LooksAtValue id old new found
    → IsQuiet old.writer new.writer
look_quiet id old new (Some found) (way, looks, stays, has) =
    let set = set_of id found.stamp found.value in
    quiet_undone refl looks.1
    (λ Room shows. back.Quiet _ (Find way) (reply.Rows set) old.writer new.writer refl looks.1 looks.2)
look_quiet id old new None looks = stays_quiet looks.0.1

pub around_quiet : {old new : Keeper} → LooksAround old new → IsQuiet old.writer new.writer
around_quiet (stamps.Stays old new stays) = stays_quiet stays
around_quiet (stamps.Finds steps way answer old mid new before undone gains slots asker owes) =
    quiet_then (around_quiet before)
    (quiet_undone undone gains
    (λ Room shows. back.Quiet steps (Find way) answer mid.writer new.writer undone gains slots))
around_quiet (stamps.ThenStays old mid new before stays) = quiet_then (around_quiet before) (stays_quiet stays)

-- WHAT GOES
pub takes_quiet : (id : ℕ) (old new : Keeper) (had : Bool) → TakesValue id old new had → IsQuiet old.writer new.writer
takes_quiet id old new true takes = evict_quiet id old new evict.Evicted takes.1
takes_quiet id old new false takes = evict_quiet id old new evict.Nothing takes.1

pub loses_quiet : (id : ℕ) (old new : Keeper) (had : Bool) → Loses id old new had → IsQuiet old.writer new.writer
loses_quiet id old new true loses =
    quiet_then (stays_quiet loses.looks.1) (takes_quiet id loses.mid new true loses.takes)
loses_quiet id old new false loses = stays_quiet loses.0.1

room_quiet : {id : ℕ} {old new : Keeper} → MakesRoom id old new → IsQuiet old.writer new.writer
room_quiet {new = new} room =
    quiet_then (stays_quiet room.stays) (loses_quiet room.victim room.mid new true room.takes)

goes_quiet : {bound taken : ℕ} {old new : Stock} → LetsOneGo bound taken old new
    → IsQuiet old.keeper.writer new.keeper.writer
goes_quiet {new = new} goes =
    quiet_then (around_quiet goes.looks) (takes_quiet goes.victim goes.mid new.keeper true goes.takes)

pub lightens_quiet : {bound taken weight : ℕ} {old new : Stock} → LightensFor bound taken weight old new
    → IsQuiet old.keeper.writer new.keeper.writer
lightens_quiet (places.NoneGoes stock) = quiet_same refl
lightens_quiet (places.OneMoreGoes old mid new before heavy goes) = quiet_then (lightens_quiet before) (goes_quiet goes)

pub keeps_quiet : {capacity bound taken weight : ℕ} {old new : Stock} → KeepsWithin capacity bound taken weight old new
    → IsQuiet old.keeper.writer new.keeper.writer
keeps_quiet keeps =
    quiet_then (quiet_learnt keeps.counts.learns)
    (quiet_then
    (elim keeps.goes [
      | inl few ↦ quiet_same (ap (λ (s : Stock). s.keeper.writer) few.1)
      | inr many ↦ goes_quiet many.1
    ])
    (lightens_quiet keeps.lightens))

pub first_quiet : (bound : ℕ) (old new : Stock) (given : Option GivenValue) → TakesFirstOrNone bound old new given
    → IsQuiet old.keeper.writer new.keeper.writer
first_quiet bound old new (Some given) takes =
    quiet_then
    (quiet_then (around_quiet takes.looks)
    (look_quiet given.id takes.mid takes.seen (Some (record { stamp = given.stamp; value = given.value })) takes.tells))
    (takes_quiet given.id takes.seen new.keeper true takes.takes)
first_quiet bound old new None none = around_quiet none.looks

-- the value of each way's id
from_quiet : (named : Option ℕ) (old new : Keeper) → TakesFrom named old new → IsQuiet old.writer new.writer
from_quiet None old new same = quiet_same (ap (λ (k : Keeper). k.writer) same)
from_quiet (Some id) old new takes = takes_quiet id old new true takes

pub each_quiet : {ways : ℕ} {old new : Keeper} → TakesEach ways old new → IsQuiet old.writer new.writer
each_quiet (places.NoneTaken keeper) = quiet_same refl
each_quiet (places.OneMoreTaken ways old mid new before takes) =
    quiet_then (each_quiet before)
    (quiet_then (stays_quiet takes.stays) (from_quiet takes.named takes.mid new takes.takes))

-- A PLACE
at_once_quiet : (id : ℕ) (old new : Keeper) (answer : Option Sent) → AdmitsAtOnce id old new answer
    → IsQuiet old.writer new.writer
at_once_quiet id old new (Some sent) admits = admit_quiet admits.0
at_once_quiet id old new None refuses = quiet_same refuses.writer

pub admits_quiet : (id : ℕ) (old new : Keeper) (answer : Option Sent) → AdmitsOrNot id old new answer
    → IsQuiet old.writer new.writer
admits_quiet id old new answer (inl admits) = at_once_quiet id old new answer admits
admits_quiet id old new answer (inr first) =
    quiet_then (quiet_then (quiet_same first.refuses.writer) (room_quiet first.room))
    (at_once_quiet id first.roomy new answer first.admits)

pub no_place_quiet : {id : ℕ} {old new : Stock} {asker asker' : IdCaller} → HasNoPlace id old asker new asker'
    → IsQuiet old.keeper.writer new.keeper.writer
no_place_quiet {id} {old} {new} none =
    quiet_then (stays_quiet none.absent.1)
    (elim none.lacks.why [
      | inl not ↦ quiet_same (ap (λ (k : Keeper). k.writer) not.1)
      | inr refuses ↦ admits_quiet id none.mid new.keeper None refuses.1
    ])
