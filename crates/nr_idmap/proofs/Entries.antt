-- What a call of the map's writer leaves: others' entries came before its own, which changes its key alone.
use Rattle.std.proofs.Common.{◌≡◌, ◌≢◌, ℕ, ◌<◌, Bool, cond, List, [], ◌∷◌, ◌++◌, refl, sym, ap, ◌∙◌, arith, append-nil}
use Rattle.std.proofs.Common.{eq-eqb}
use Rattle.std.proofs.lemmas.List.{length-set, length-replicate}
use Rattle.nr_model.specs.declared.calls.Call.{Call}
use Rattle.nr_model.specs.declared.calls.Reply.{Reply}
use Rattle.nr_model.specs.declared.states.KeyState.TheVariants.{Hole}
use Rattle.nr_model.specs.Histories.{Entry, IsLegal, after, entries_of}
use Rattle.nr_model.specs.Maps.{PartialMap, call_key, key_count, next, reply_to, state_after, state_of}
use Rattle.nr_model.proofs.HistoryLemmas.{state_of-next_other, state_of-next_same}
use Rattle.nr_core.specs.Story.{entry}
use Rattle.nr_board.proofs.Entries.{callers_before, callers_of_more}
use Rattle.nr_board.proofs.KeySets.{none_between}
use Rattle.nr_board.specs.Callers.{Caller, Gains, Grows, IsSound, map_at_opening, map_seen}
use Rattle.nr_board.specs.Entries.{AreCallers}
use Rattle.nr_idmap.specs.Tidy.{IsTidy, KeepsTags}
use Rattle.nr_idmap.proofs.Stills.{IsStill, others_still, others_tidy}

pub after_both : (log later : List Entry) (map : PartialMap) → after map (log ++ later) ≡ after (after map log) later
after_both [] later map = refl
after_both (e ∷ log) later map = after_both log later (next map e.call)

pub bound_after : (log : List Entry) (map : PartialMap) → (after map log).bound ≡ map.bound
bound_after [] map = refl
bound_after (e ∷ log) map = bound_after log (next map e.call)

pub count_after : (log : List Entry) (map : PartialMap) → key_count (after map log) ≡ key_count map
count_after [] map = refl
count_after (e ∷ log) map = count_after log (next map e.call)
    ∙ length-set map.states (call_key e.call) (state_after map.bound e.call (state_of map (call_key e.call)))

tidy_both : (log later : List Entry) (map : PartialMap) → IsTidy map log → IsTidy (after map log) later
    → IsTidy map (log ++ later)
tidy_both [] later map a b = b
tidy_both (e ∷ log) later map a b = (a.0, a.1, tidy_both log later (next map e.call) a.2 b)

pub legal_end : (log : List Entry) (map : PartialMap) (e : Entry) → IsLegal map (log ++ e ∷ [])
    → e.reply ≡ reply_to (after map log) e.call
legal_end [] map e legal = legal.0
legal_end (x ∷ log) map e legal = legal_end log (next map x.call) e legal.1

-- the writer as it was between two calls
pub record Rested (writer : Caller) : Type 0 where
  pub number : writer.number ≡ 0
  pub sound : IsSound writer
  pub tidy : IsTidy (map_at_opening writer.table) writer.seen

-- the writer after some steps without an entry of its own, or before its own entry
pub record Waited (old : Caller) (log : List Entry) : Type 0 where
  pub size : key_count (after (map_at_opening old.table) log) ≡ old.table.shape.keys
  pub bound : (after (map_at_opening old.table) log).bound ≡ old.table.shape.rows
  pub still : (way : ℕ) → IsStill (state_of (map_seen old) way) (state_of (after (map_at_opening old.table) log) way)
  pub tidy : IsTidy (map_at_opening old.table) log

module _ {steps : ℕ} {old new : Caller} (entries : List Entry) (rested : Rested old)
    (grows : Grows steps entries old new) (ours : entries_of entries 0 ≡ entries) where
  waited : Waited old (old.seen ++ grows.between)
  waited =
      let shape = old.table.shape in let open_map = map_at_opening old.table in
      let callers : AreCallers shape ((old.seen ++ grows.between) ++ entries) = rw grows.seen at grows.callers in
      let between : AreCallers shape grows.between = callers_of_more shape old.seen grows.between
      (callers_before shape (old.seen ++ grows.between) entries callers) in
      let none : entries_of grows.between 0 ≡ [] = ap (entries_of grows.between) (sym rested.number)
      ∙ none_between steps old entries new rested.sound.own (ap (entries_of entries) rested.number ∙ ours) grows in
      let size : key_count (map_seen old) ≡ shape.keys = count_after old.seen open_map ∙ length-replicate shape.keys
      (Hole shape.first_number) in
      let parts : after open_map (old.seen ++ grows.between) ≡ after (map_seen old) grows.between
      = after_both old.seen grows.between open_map in record {
        size = ap key_count parts ∙ count_after grows.between (map_seen old) ∙ size;
        bound = bound_after (old.seen ++ grows.between) open_map;
        still = λ way. rw parts (others_still shape grows.between (map_seen old) way between none size);
        tidy =
            tidy_both old.seen grows.between open_map rested.tidy
            (others_tidy shape grows.between (map_seen old) between none size);
      }

  rested_if : IsTidy (map_at_opening old.table) new.seen → Rested new
  rested_if tidy = record {
    number = grows.number ∙ rested.number;
    sound = record { legal = rw grows.table grows.legal; own = grows.own; callers = rw grows.table grows.callers };
    tidy = rw grows.table tidy;
  }

-- without an entry
pub record Stayed (old new : Caller) : Type 0 where
  pub rested : Rested new
  pub table : new.table ≡ old.table
  pub still : (way : ℕ) → IsStill (state_of (map_seen old) way) (state_of (map_seen new) way)

pub stayed : {steps : ℕ} {old new : Caller} → Rested old → Grows steps [] old new → Stayed old new
stayed {old = old} rested grows =
    let waits = waited [] rested grows refl in record {
      rested = rested_if [] rested grows refl (rw (grows.seen, append-nil (old.seen ++ grows.between)) waits.tidy);
      table = grows.table;
      still = λ way. rw (grows.table, grows.seen, append-nil (old.seen ++ grows.between)) (waits.still way);
    }

-- with one: the map before it, as others left it, and the map after it
pub record Went (old new : Caller) (call : Call) (answer : Reply) : Type 0 where
  pub mid : PartialMap
  pub bound : mid.bound ≡ old.table.shape.rows
  pub table : new.table ≡ old.table
  pub still : (way : ℕ) → IsStill (state_of (map_seen old) way) (state_of mid way)
  pub replied : answer ≡ reply_to mid call
  pub at_key : state_of (map_seen new) (call_key call) ≡ state_after mid.bound call (state_of mid (call_key call))
  pub others : (way : ℕ) → way ≢ call_key call → state_of (map_seen new) way ≡ state_of mid way
  pub rested : KeepsTags mid call answer → Rested new

pub went : {steps : ℕ} {old new : Caller} (call : Call) {answer : Reply} → Rested old → Gains steps call old new answer
    → call_key call < old.table.shape.keys → Went old new call answer
went {old = old} {new} call {answer} rested gains near =
    let e : Entry = entry old.number call answer in let log : List Entry = old.seen ++ gains.between in
    let open_map = map_at_opening old.table in
    let ours : entries_of (e ∷ []) 0 ≡ e ∷ []
    = ap (λ (b : Bool). cond b (e ∷ []) []) (eq-eqb old.number 0 rested.number) in
    let waits = waited (e ∷ []) rested gains ours in
    let mid : PartialMap = after open_map log in
    let now : map_seen new ≡ next mid call = rw (gains.table, gains.seen) (after_both log (e ∷ []) open_map) in
    let inside : call_key call < key_count mid = omega (arith, near, waits.size) in record {
      mid = mid;
      bound = waits.bound;
      table = gains.table;
      still = waits.still;
      replied = legal_end log open_map e (rw gains.seen at gains.legal);
      at_key = ap (λ (m : PartialMap). state_of m (call_key call)) now ∙ state_of-next_same mid call inside;
      others = λ way other. ap (λ (m : PartialMap). state_of m way) now
          ∙ state_of-next_other mid way call (λ e. other (sym e));
      rested = λ keeps. rested_if (e ∷ []) rested gains ours
          (rw gains.seen (tidy_both log (e ∷ []) open_map waits.tidy (inside, keeps, tt)));
    }
