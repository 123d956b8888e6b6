-- Each call is one entry, by the words of its contract; a write without a slot is none.
use Rattle.std.proofs.Common.{ℕ, List, [], ◌∷◌, ◌++◌, append_assoc, arith, subst, sym, Ok, Err, inl, inr}
use Rattle.nr_model.specs.declared.calls.Call.{Call}
use Rattle.nr_model.specs.declared.calls.Call.TheVariants as model
use Rattle.nr_model.specs.declared.calls.Reply.{Reply}
use Rattle.nr_model.specs.declared.rows.Row.{Row}
use Rattle.nr_model.specs.Histories.{Entry, IsLegal}
use Rattle.nr_model.proofs.LawLemmas.{legal_goes_on_lem}
use Rattle.nr_core.specs.Story.{entry}
use Rattle.nr_core.specs.declared.calls.NoSlot.{NoSlot}
use Rattle.nr_board.specs.declared.answers.Cancel.TheVariants as cancel
use Rattle.nr_board.specs.declared.answers.Evict.TheVariants as evict
use Rattle.nr_board.specs.declared.answers.FillFault.TheVariants as fill
use Rattle.nr_board.specs.declared.answers.Found.{Found}
use Rattle.nr_board.specs.declared.answers.Found.TheVariants as found
use Rattle.nr_board.specs.declared.answers.ReplaceFault.TheVariants as replace
use Rattle.nr_board.specs.declared.answers.UpdateFault.TheVariants as update
use Rattle.nr_board.specs.Callers.{Caller, Gains, Grows, map_at_opening}
use Rattle.nr_board.specs.WriterAnswers.{HasNoSlot}
use Rattle.nr_map.specs.Hands.{FindsKept, Handed}
use Rattle.nr_map.specs.SlotBounds.{HasRoomForAll}
use Rattle.nr_map.specs.Theorem.{AnswersWhatWasHeard, FindsNoSlot, Goes, IsEntry, NoWriteLacksASlot, Theorem}
use Rattle.nr_map.specs.Written.{answered}
use Rattle.nr_map.specs.declared.answers.Asked.TheVariants as asked
use Rattle.nr_map.proofs.GivenBack.{each_set_comes_out_once_lem}
use Rattle.nr_map.proofs.NoSlots.{few_filled}

module _ {old new : Caller} where
  goes_on : {steps : ℕ} {entries : List Entry} → Grows steps entries old new → Goes entries old new
  goes_on grows = record {
    table = grows.table;
    number = grows.number;
    others = grows.between;
    seen = grows.seen;
    mine = grows.mine;
    history = (grows.legal, grows.callers);
    each_once = grows.own;
  }

  -- the last entry of a legal history has the map's reply
  is_entry : {steps : ℕ} {call : Call} {answer : Reply} → Gains steps call old new answer → IsEntry call answer old new
  unfolding goes_on
  is_entry {call} {answer} gains =
      let last = entry old.number call answer in
      let legal = subst (IsLegal (map_at_opening old.table)) gains.seen gains.legal in record {
        goes = goes_on gains;
        answer = ((legal_goes_on_lem (map_at_opening old.table) (old.seen ++ gains.between) last).1.1 legal).1;
      }

  without_slot : {steps : ℕ} {call : Call} {counts : NoSlot} → HasNoSlot steps call old new counts
      → FindsNoSlot call old new
  without_slot without = let lacks = without.lacks in let all = lacks.all in let few = lacks.few in record {
    goes = goes_on without.grows;
    would_be_done = lacks.would_be_done;
    all = omega (arith, lacks.live, lacks.held);
    few = omega (arith, lacks.held, lacks.many);
  }

kept_so : {Room : Type 0} (shows : Room → List Row → Type 0) (key : ℕ) (before room : Room) (answer : Found)
    (old new : Handed) → FindsKept shows key old before new room answer
    → IsEntry (model.Find key) (answered answer new.rows) old.reader new.reader
kept_so shows key before room found.Rows old new (inl held) = rw held.0.rows (is_entry held.0.gains)
kept_so shows key before room found.Hole old new (inl held) = absurd (let is = held.2 in cc)
kept_so shows key before room found.Rows old new (inr anew) = is_entry anew.1.0.2.gains
kept_so shows key before room found.Hole old new (inr anew) = is_entry anew.1.0.2.gains

-- no more keys are filled than there are, and no more sets are held than there are readers
room_for_all : NoWriteLacksASlot
room_for_all call old new room without =
    let enough = subst HasRoomForAll (sym without.goes.table) room in
    omega (arith, few_filled new.table.shape new.seen, enough, without.all, without.few)

answers_heard : AnswersWhatWasHeard
answers_heard steps note old heard asking new call answer hears begins is = (
  asking.seen ++ is.goes.others,
  record {
    rest = hears.seen.rest ++ (begins.rest ++ is.goes.others);
    is = rw (begins.is, hears.seen.is) (simp append_assoc);
  },
  record { rest = entry asking.number call answer ∷ []; is = is.goes.seen },
  is.answer,
)

pub theorem : {Room : Type 0} (shows : Room → List Row → Type 0) → Theorem shows
theorem shows = record {
  calls = record {
    find = λ key before rows. elim [
      | found.Rows ↦ λ old new finds. is_entry finds.gains
      | found.Hole ↦ λ old new finds. is_entry finds.0.gains
    ];
    find_into = λ key before room. elim [
      | found.Rows ↦ λ old new finds. (finds.0, is_entry finds.1.gains, λ _. finds.2)
      | found.Hole ↦ λ old new finds. ([], is_entry finds.0.gains, λ is. absurd (cc))
    ];
    pin = λ key. elim [ Ok pin ↦ λ old pins. is_entry pins.0.gains | Err reader ↦ λ old pins. is_entry pins.0.gains ];
    again = λ key rows old new finds. is_entry finds;
    find_kept = kept_so shows;
    ask = λ key. elim [ asked.Send ticket ↦ λ old new asks. is_entry asks.0 | _ ↦ λ old new asks. is_entry asks ];
    look = λ key before rows. elim [
      | found.Rows ↦ λ old new looks. is_entry looks.0
      | found.Hole ↦ λ old new looks. is_entry looks.0
    ];
    fill = λ key number rows. elim [
      | Ok done ↦ λ old new fills. is_entry fills.gains
      | Err (fill.NoSlot counts) ↦ λ old new fills. without_slot fills
      | Err fault ↦ λ old new fills. is_entry fills.0
    ];
    update = λ bound key batch. elim [
      | Ok done ↦ λ old new updates. is_entry updates.3.gains
      | Err update.Dropped ↦ λ old new updates. is_entry updates.0
      | Err (update.NoSlot counts) ↦ λ old new updates. without_slot updates.3
      | Err fault ↦ λ old new updates. is_entry updates.2
    ];
    replace = λ key rows. elim [
      | Ok done ↦ λ old new replaces. is_entry replaces.gains
      | Err replace.Dropped ↦ λ old new replaces. is_entry replaces.0
      | Err (replace.NoSlot counts) ↦ λ old new replaces. without_slot replaces
    ];
    evict = λ key. elim [
      | evict.Evicted ↦ λ old new evicts. is_entry evicts.0
      | evict.Nothing ↦ λ old new evicts. is_entry evicts.0
    ];
    cancel = λ key. elim [
      | cancel.Cancelled ↦ λ old new cancels. is_entry cancels.0
      | _ ↦ λ old new cancels. is_entry cancels.0
    ];
    fill_reclaiming = λ key number rows before had. elim [
      | Ok given ↦ λ old new fills. is_entry fills.published.gains
      | Err (fill.NoSlot counts) ↦ λ old new fills. without_slot fills.0
      | Err fault ↦ λ old new fills. is_entry fills.0.0
    ];
    update_reclaiming = λ bound key batch before had. elim [
      | Ok given ↦ λ old new updates. is_entry updates.published.gains
      | Err update.Dropped ↦ λ old new updates. is_entry updates.0.0
      | Err (update.NoSlot counts) ↦ λ old new updates. without_slot updates.0.3
      | Err fault ↦ λ old new updates. is_entry updates.0.2
    ];
    replace_reclaiming = λ key rows before had. elim [
      | Ok given ↦ λ old new replaces. is_entry replaces.published.gains
      | Err replace.Dropped ↦ λ old new replaces. is_entry replaces.0.0
      | Err (replace.NoSlot counts) ↦ λ old new replaces. without_slot replaces.0
    ];
  };
  slots = room_for_all;
  notes = answers_heard;
  sets = each_set_comes_out_once_lem shows;
}
