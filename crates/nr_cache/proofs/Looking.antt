-- Each set that the writer brings is a value's, so each that is there is one; what looks tell of it and of its stamp.
use Rattle.std.proofs.Common.{◌≡◌, ◌<◌, ◌==◌, ℕ, Bool, true, false, cond, List, [], ◌∷◌, length, inl, inr, ⊎_elim, sym}
use Rattle.std.proofs.Common.{subst, arith, eq-eqb, Option, Some, None, refl, ap, ◌∙◌, drop}
use Rattle.std.specs.List.{All}
use Rattle.std.proofs.lemmas.Bool.{cases_eq}
use Rattle.std.proofs.lemmas.Bool.Decides.{nat_tests}
use Rattle.std.proofs.lemmas.List.{length-set, length-replicate, get_or-replicate}
use Rattle.std.proofs.lemmas.List.Elements.{All-head, All-push, All-tail}
use Rattle.nr_model.specs.declared.rows.Row.{Row}
use Rattle.nr_model.specs.declared.calls.Call.{Call}
use Rattle.nr_model.specs.declared.calls.Call.TheVariants.{Find}
use Rattle.nr_model.specs.declared.calls.Reply.{Reply}
use Rattle.nr_model.specs.declared.states.KeyState.{KeyState}
use Rattle.nr_model.specs.declared.states.KeyState.TheVariants.{Hole, Rows}
use Rattle.nr_model.specs.Histories.{Entry, after, entries_of}
use Rattle.nr_model.specs.Maps.{PartialMap, call_key, next, state_after, state_of, find_reply}
use Rattle.nr_model.proofs.HistoryLemmas.{state_of-next_other, state_of-next_same}
use Rattle.nr_model.specs.declared.calls.Reply.TheVariants as reply
use Rattle.nr_core.specs.Story.{entry}
use Rattle.nr_core.specs.declared.shape.Shape.{Shape}
use Rattle.nr_board.specs.Callers.{Caller, Gains, map_at_opening, map_seen}
use Rattle.nr_board.specs.Entries.{AreCallers, IsCallers, is_reading}
use Rattle.nr_board.specs.declared.answers.Evict as board
use Rattle.nr_board.specs.declared.answers.Evict.TheVariants as evict
use Rattle.nr_ids.specs.Answers.{FindsWay}
use Rattle.nr_idmap.specs.IdWrites.{EvictsId}
use Rattle.nr_idmap.specs.Keepers.{IsTied, Keeper, state_at, OwesSame, name_at}
use Rattle.nr_idmap.specs.IdChoices.{StaysButClerk}
use Rattle.nr_idmap.specs.IdLooks.{LooksInWay}
use Rattle.nr_idmap.specs.Tags.{IdSet, id_set_of, tag_of, IsResident}
use Rattle.nr_idmap.specs.IdLaws.{UnnamedIsAbsent}
use Rattle.nr_cache.specs.Values.{BringsValue, BringsValues, IsValueSet, row_of}
use Rattle.nr_cache.specs.Stamps as stamps
use Rattle.nr_cache.specs.Stamps.{LooksAround, first_stamp, stamp_at, stamp_of}
use Rattle.nr_cache.specs.Weights.{value_at, Load}
use Rattle.nr_cache.specs.Finds.{tells_value}
use Rattle.nr_cache.specs.Flights.{Underway, is_changing}
use Rattle.nr_cache.specs.Places.{LooksAtValue}
use Rattle.nr_cache.specs.StoreSeen.{StoreSeen}
use Rattle.nr_cache.specs.Stores.{PutsOwn}
use Rattle.nr_cache.specs.Swaps.{FindsOld, SwapsOwn}
use Rattle.nr_cache.proofs.Ways.{below_or_past, hole_past, found_has}
use Rattle.nr_cache.proofs.Gone.{found_there, found_none, is_gone}
use Rattle.nr_cache.proofs.WriterCalls.{IsWriter, Keeps, at_key, called, find_keeps, keeps_same, keeps_then, writes}

-- EACH CALL
abbrev pub Brings : Entry → Type 0
Brings = λ (e : Entry). BringsValue e.call

pub brings_one : {steps : ℕ} {call : Call} {answer : Reply} {old new : Caller} → Gains steps call old new answer
    → BringsValue call → All Brings old.mine → All Brings new.mine
brings_one {call = call} {answer = answer} {old = old} gains brings before =
    rw gains.mine (All-push Brings old.mine (entry old.number call answer) before brings)

pub evict_brings : (id : ℕ) (old new : Keeper) (answer : board.Evict) → EvictsId id old new answer → BringsValues old
    → BringsValues new
evict_brings id old new evict.Evicted (way, evicts) brings = brings_one evicts.evicts.0 tt brings
evict_brings id old new evict.Nothing (inl absent) brings = rw absent.1 brings
evict_brings id old new evict.Nothing (inr (way, finds, evicts)) brings = brings_one evicts.0 tt brings

-- ONE KEY'S STATE
abbrev HasValueSet : KeyState → Type 0
HasValueSet (Rows n rows) = IsValueSet rows
HasValueSet state = Unit {0}

call_has : (bound : ℕ) (call : Call) (state : KeyState) → BringsValue call → HasValueSet state
    → HasValueSet (state_after bound call state)
call_has bound call state brings h = grind (arith, nat_tests)

step_has : (map : PartialMap) (call : Call) (key : ℕ) → key < length map.states → BringsValue call
    → HasValueSet (state_of map key) → HasValueSet (state_of (next map call) key)
step_has map call key within brings h = elim (cases_eq key (call_key call)) [
  | inl same ↦
      subst (λ k. HasValueSet (state_of (next map call) k)) (sym same)
      (subst HasValueSet (sym (state_of-next_same map call (omega (arith, same, within))))
      (call_has map.bound call (state_of map (call_key call)) brings
      (subst (λ k. HasValueSet (state_of map k)) same h)))
  | inr other ↦ subst HasValueSet (sym (state_of-next_other map key call (λ same. other (sym same)))) h
]

-- A HISTORY
reading_brings : (call : Call) → is_reading call ≡ true → BringsValue call
reading_brings call reads = grind arith

-- the first entry is the writer's, or reads
first_brings : (shape : Shape) (e : Entry) (log : List Entry) → IsCallers shape e
    → All Brings (entries_of (e ∷ log) 0) → BringsValue e.call
first_brings shape e log is all = ⊎_elim
    (λ writes. All-head Brings e (entries_of log 0) (rw (eq-eqb e.caller 0 writes.0) at all))
    (λ reads. reading_brings e.call reads.1)
    is.1

others_bring : (b : Bool) (e : Entry) (log : List Entry) → All Brings (cond b (e ∷ log) log) → All Brings log
others_bring true e log all = All-tail Brings e log all
others_bring false e log all = all

history_has : (shape : Shape) (log : List Entry) (map : PartialMap) (key : ℕ) → key < length map.states
    → AreCallers shape log → All Brings (entries_of log 0) → HasValueSet (state_of map key)
    → HasValueSet (state_of (after map log) key)
history_has shape [] map key within callers brings h = h
history_has shape (e ∷ log) map key within callers brings h =
    let long
    = length-set map.states (call_key e.call) (state_after map.bound e.call (state_of map (call_key e.call))) in
    history_has shape log (next map e.call) key (omega (arith, within, long)) callers.1
    (others_bring (e.caller == 0) e (entries_of log 0) brings)
    (step_has map e.call key within (first_brings shape e log callers.0 brings) h)

-- each set that is there is a value's
pub is_value : (keeper : Keeper) (way number : ℕ) (set : List Row) → IsTied keeper → BringsValues keeper
    → state_at keeper way ≡ Rows number set → IsValueSet set
is_value keeper way number set tied brings filled =
    let writer = keeper.writer in
    let shape = writer.table.shape in
    let map : PartialMap = map_at_opening writer.table in
    let long = length-replicate shape.keys (Hole shape.first_number) in
    subst HasValueSet filled
    (elim (below_or_past way shape.keys) [
      | inl near ↦
          history_has shape writer.seen map way (omega (arith, near, long)) tied.sound.callers
          (subst (λ (l : List Entry). All Brings l)
          (sym (subst (λ (n : ℕ). entries_of writer.seen n ≡ writer.mine) tied.writes.1 tied.sound.own)) brings)
          (subst HasValueSet
          (sym (get_or-replicate shape.keys way (Hole shape.first_number) (Hole 0) near)) tt)
      | inr past ↦ subst HasValueSet (sym (hole_past keeper way past)) tt
    ])

-- ONE STAMP
abbrev stamp_told : Option IdSet → ℕ
stamp_told None = 0
stamp_told (Some set) = first_stamp set.rows

-- a way's stamp is its value's
stamp_is : (state : KeyState) → stamp_of state ≡ stamp_told (id_set_of state)
stamp_is (Rows n (tag ∷ rows)) = refl
stamp_is state = refl

pub stamps_same : (old new : Keeper) → ((key : ℕ) → value_at new key ≡ value_at old key) → (key : ℕ)
    → stamp_at new key ≡ stamp_at old key
stamps_same old new values key =
    stamp_is (state_at new key) ∙ ap stamp_told (values key) ∙ sym (stamp_is (state_at old key))

-- LOOKS
-- they leave what the store holds
pub record Leaves (old new : Keeper) : Type 0 where
  pub keeps : Keeps old.writer new.writer
  pub owes : OwesSame old new
  pub asker : new.asker ≡ old.asker
  pub brings : All Brings old.writer.mine → All Brings new.writer.mine

rested : {old new : Keeper} → IsWriter old.writer → StaysButClerk old new → Leaves old new
rested writer stays = record {
  keeps = keeps_same writer stays.writer;
  owes = stays.owes;
  asker = stays.asker;
  brings = λ brings. rw stays.writer brings;
}

then_leaves : {old mid new : Keeper} → Leaves old mid → Leaves mid new → Leaves old new
then_leaves first more = record {
  keeps = keeps_then first.keeps more.keeps;
  owes = λ way. more.owes way ∙ first.owes way;
  asker = more.asker ∙ first.asker;
  brings = λ brings. more.brings (first.brings brings);
}

around_leaves : {old new : Keeper} → IsWriter old.writer → LooksAround old new → Leaves old new
around_leaves writer (stamps.Stays old new stays) = rested writer stays
around_leaves writer (stamps.Finds steps way answer old mid new before undone gains slots asker owes) =
    let first = around_leaves writer before in
    let last : Leaves mid new =
    record {
      keeps = find_keeps first.keeps.writer gains;
      owes = owes;
      asker = asker;
      brings = λ brings. brings_one gains tt brings;
    } in
    then_leaves first last
around_leaves writer (stamps.ThenStays old mid new before stays) =
    let first = around_leaves writer before in then_leaves first (rested first.keeps.writer stays)

pub looks_leave : {old new : Keeper} → IsTied old → LooksAround old new → Leaves old new
looks_leave tied looks = around_leaves (writes tied) looks

pub no_look : (keeper : Keeper) → LooksAround keeper keeper
no_look keeper = stamps.Stays keeper keeper (record { writer = refl; asker = refl; owes = λ way. refl })

pub then_around : {old mid new : Keeper} → LooksAround old mid → LooksAround mid new → LooksAround old new
then_around {old} first (stamps.Stays mid new stays) = stamps.ThenStays old mid new first stays
then_around {old} first (stamps.Finds steps way answer mid late new before undone gains slots asker owes) =
    stamps.Finds steps way answer old late new (then_around first before) undone gains slots asker owes
then_around {old} first (stamps.ThenStays mid late new before stays) =
    stamps.ThenStays old late new (then_around first before) stays

-- ONE LOOK
hole_stamp : (state : KeyState) → reply.Hole ≡ find_reply state → stamp_of state ≡ 0
hole_stamp (Rows n rows) answered = absurd (cc (answered))
hole_stamp state answered = refl

module _ {id found : ℕ} (way : ℕ) {old : Keeper} (new : Keeper) (tied : IsTied old) (real : 0 < id)
    (named : name_at old way ≡ id)
  where
    pub seen_stamp : {rows : List Row} → LooksInWay id found (tag_of id ∷ rows) old new
        → stamp_at new way ≡ first_stamp rows
    seen_stamp {rows} looks =
        subst (λ (w : ℕ). stamp_at new w ≡ first_stamp rows) (found_there way tied looks.0 real named)
        (ap stamp_of (found_has (called (writes tied) looks.1)).1)

    pub missed_stamp : FindsWay id old.clerk new.clerk (Some found)
        → Gains 1 (Find found) old.writer new.writer reply.Hole → stamp_at new way ≡ 0
    missed_stamp finds gains =
        let calls = called (writes tied) gains in
        subst (λ (w : ℕ). stamp_at new w ≡ 0) (found_there way tied finds real named)
        (ap stamp_of (at_key calls) ∙ hole_stamp _ calls.answered)

-- AT AN ID'S WAY
-- the rows behind the tag are a value's
pub looked_at : (id way : ℕ) (rows : List Row) (old new : Keeper) → IsTied old → IsTied new → new.asker ≡ old.asker
    → BringsValues new → LooksInWay id way (tag_of id ∷ rows) old new → LooksAtValue id old new (tells_value rows)
looked_at id way rows old new tied later stays brings looks =
    let has = found_has (called (writes tied) looks.1) in
    let is = is_value new way has.0 (tag_of id ∷ rows) later brings has.1 in
    let same : rows ≡ row_of is.1 is.2 ∷ [] = ap (drop 1) is.3 in
    subst (λ (r : List Row). LooksAtValue id old new (tells_value r)) (sym same) (
      way,
      subst (λ (r : List Row). LooksInWay id way (tag_of id ∷ r) old new) same looks,
      stays,
      subst (λ (r : List Row). IsResident (map_seen new.writer) id r) same (way, has),
    )

-- A SWAP
-- an id that has a value has a place, so a put that is refused finds the id being changed
pub swaps_own : {Room : Type 0} (shows : Room → List Row → Type 0) {id was weight : ℕ} {old mid : StoreSeen}
    {before : Room} {new : StoreSeen} {room : Room} → UnnamedIsAbsent → IsTied mid.keeper → FindsOld id was old mid
    → PutsOwn shows id weight mid before new room → SwapsOwn shows id was weight old before new room
swaps_own shows {id} {was} {weight} {old} {mid} law tied finds puts = record {
  mid = mid;
  finds = finds;
  why = elim puts.why [
    | inl changed ↦ elim changed.0 [
      | inl changing ↦ inl (ap (λ (u : Underway). is_changing id u) (sym finds.looks.1) ∙ changing)
      | inr heavy ↦ inr (subst (λ (l : Load). l.most < weight) finds.looks.3.2 heavy)
    ]
    | inr place ↦ absurd (is_gone law tied (found_none tied place.2.absent.0) _ finds.looks.0.3)
  ];
  puts = puts;
}
