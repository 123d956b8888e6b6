-- What a writer's step leaves of its lists: where they go along with its step, all marks do. So they do at the steps
-- that leave the words, its looks and its reads: a call that ends with no slot there has none retired either.
use Rattle.std.proofs.Common.{[], inl, Bool, List, ap, append-nil, arith, false, get_or, length, map, refl, subst, sym}
use Rattle.std.proofs.Common.{ℕ, ◌++◌, ◌<◌, ◌∙◌, ◌∷◌, ◌≡◌, set, suc, ◌≤◌, ◌*◌}
use lib.ListN.{get_elem?}
use mathlib.Core.Option.{some, some-ne-none}
use Rattle.nr_model.specs.Histories.{Entry, is_done}
use Rattle.nr_model.specs.Maps.{state_of, reply_at}
use Rattle.nr_model.specs.declared.calls.Call.{Call}
use Rattle.nr_core.proofs.Without.{look_none, read_none, OfOutcomes, ShownBy, looked_has, read_has}
use Rattle.nr_core.specs.Roles.{retirements, taken, held}
use Rattle.nr_core.specs.declared.operation.Operation.TheVariants.{Load}
use Rattle.nr_core.specs.Slots.{content, bound_of, name_number}
use Rattle.nr_core.specs.States.{key_of}
use Rattle.nr_core.specs.Steps.{Looks, Telling}
use Rattle.nr_core.specs.Story.{call_of, ending, entry, map_after, ending_at}
use Rattle.nr_core.specs.Writer.{looked, read_on, went}
use Rattle.nr_core.specs.declared.calls.NoSlot.{NoSlot}
use Rattle.nr_core.specs.declared.calls.Step.{Step}
use Rattle.nr_core.specs.declared.calls.Step.TheVariants.{Ended}
use Rattle.nr_core.specs.declared.calls.WriterCall.{WriterCall}
use Rattle.nr_core.specs.declared.places.Place.TheVariants.{Idle, Reading}
use Rattle.nr_core.specs.declared.places.Retired.{Retired}
use Rattle.nr_core.specs.declared.roles.Desk.{Desk}
use Rattle.nr_core.specs.declared.roles.Role.{Role}
use Rattle.nr_core.specs.declared.roles.Role.TheVariants.{Writer}
use Rattle.nr_core.specs.declared.shape.Shape.{Shape}
use Rattle.nr_core.specs.Marks.{Marks, Past, LoggedLoad, set_in, with_polls, with_scan}
use Rattle.nr_core.specs.PollNotes.{AllHeld, NoRoom}
use Rattle.nr_core.specs.Marked.{CanMark, HoldNoOthers, Since, Sweeping, Sweeps, Untouched, AllSince, Desked}
use Rattle.nr_core.specs.Marked.{KnowsMarks, MarkTelling, Marked, NotesPresent, Remarked, lives}
use Rattle.nr_core.specs.MarkSteps.{LooksMarks, ReadsOnMarks}
use Rattle.nr_core.proofs.ListPlaces.{at_maps, inside, no_places}
use Rattle.nr_core.proofs.PutNumbers.{quiet_count, quiet_number, QuietEnd, nothing_ends}
use Rattle.nr_core.proofs.Frames.{stands_at, spells_more}
use Rattle.nr_model.specs.declared.states.KeyState.{KeyState}
use mathlib.Core.Logic.{dite}
use native.Mathlib.Decide.{dec_le}
use Rattle.nr_core.proofs.Counting.{retired_inside, retired_once, slots_are}
use Rattle.nr_core.proofs.Histories.{replies_so}
use Rattle.nr_core.proofs.Settle.{key_same}
use Rattle.nr_core.proofs.Sums.{below-same}
use Rattle.nr_core.specs.Core.{Core}
use Rattle.nr_core.specs.Operations.{target_of, operated}
use Rattle.nr_core.specs.declared.operation.Operation.{Operation}
use Rattle.nr_core.specs.Sums.{only}
use Rattle.nr_core.specs.declared.places.Place.{Place}
use Rattle.nr_core.specs.Puts.{put_count, put_number}
use Rattle.nr_core.proofs.MarksSince.{evolves_writer, marked_writer, desk_loads}
use Rattle.nr_core.proofs.ReaderMarks.{contents_loaded}
use lib.Seq.{set-get_or}
use Rattle.nr_core.specs.declared.calls.WReply.TheVariants as writer
use Rattle.nr_model.specs.declared.calls.Reply.TheVariants as reply

-- What a writer's step leaves of its lists: where they go along with its step, all marks do.

-- a slot that is untouched after a step was so before it, and its content words stay
abbrev pub Leaves : Shape → List ℕ → List ℕ → Place → Place → Type 0
Leaves shape words words' place place' = (slot : ℕ) → slot < shape.slots → Untouched slot place' → Untouched slot place
    × ((index : ℕ) → index ≤ 2 * bound_of shape
    → get_or words' (content shape slot index) 0 ≡ get_or words (content shape slot index) 0)

-- what the core tells of the writer's step from a place
abbrev pub Went : Shape → Desk → Place → Telling
Went shape desk place word after entries =
    (after ≡ Writer (went shape desk place word).0) × (entries ≡ ending_at place (went shape desk place word).1)

-- there is no slot where every slot was taken once and none is retired
pub no_room_left : {shape : Shape} {words : List ℕ} {roles : List Role} {log : List Entry} (id : ℕ) {desk : Desk}
    {call : WriterCall}
    → Core shape words roles log → get_elem? roles id ≡ some (Writer desk) → ((slot : ℕ) → taken slot desk.place ≡ 0)
    → shape.slots ≤ desk.fresh
    → reply_at (bound_of shape) (call_of call) (state_of (map_after shape log) (key_of call)) ≡ reply.Done
    → (polls : List Past) → AllHeld desk.retired polls → length polls ≤ shape.readers
    → NoRoom shape call desk.retired polls log
no_room_left {shape} {words} {roles} {log} id {desk} {call} core there free full done polls held few = record {
  done = cc (replies_so shape log (call_of call), key_same call);
  slots = slots_are shape words roles log core id desk there full free;
  apart = λ slot. dite (dec_le (retirements slot desk.retired) 1) (λ l. l)
      (λ l.
      let near = retired_inside shape words roles log core id desk there slot (omega arith) in
      absurd (omega (arith, retired_once shape words roles log core id desk there slot near)));
  held = held;
  few = few;
}

module _ {A : Type 0} {role : A → Role} {marks : A → Marks} where
  pub desk_of : {shape : Shape} {words : List ℕ} {callers : List A} {log : List Entry} (id : ℕ) {me : A} {desk : Desk}
      → Marked role marks shape words callers log → get_elem? callers id ≡ some me → role me ≡ Writer desk
      → Desked role marks shape words callers log desk (marks me)
  desk_of {shape = shape} {words = words} {callers = callers} {log = log} id {me = me} m at was =
      subst (λ r. KnowsMarks role marks shape words callers log r (marks me)) was (m.each id me at)

  -- a writer's step, after which its desk and marks are these
  pub writer_step : {shape : Shape} {id : ℕ} {me : A} {operation : Operation} {tells : MarkTelling} {words : List ℕ}
      {callers : List A}
      {log : List Entry} → Core shape words (map role callers) log → Marked role marks shape words callers log
      → get_elem? callers id ≡ some me → {desk desk' : Desk} → role me ≡ Writer desk
      → {after : Role} {entries : List Entry} → after ≡ Writer desk' → (now : Marks) (news : List Past)
      → AllSince role marks callers news → NotesPresent role marks callers (marks me).polls now.polls
      → Desked role marks shape (operated words operation) callers (log ++ entries) desk' now
      → tells (get_or words (target_of operation) 0) after (log ++ entries) now news
      → Remarked role marks shape words callers log id operation me after entries tells
  writer_step {shape} {id} {me} {operation} {tells} {words} {callers} {log} core m at {desk} {desk'} was {after}
      {entries} is now news since noted own told =
      record {
        now = now;
        news = news;
        since = since;
        evolves = λ who _ _. evolves_writer role marks me who desk was;
        marked = λ who is_role is_marks. marked_writer role marks shape words (operated words operation) callers log
            (log ++ entries) id me who desk desk' core at was (is_role ∙ is) m
            (subst (Desked role marks shape (operated words operation) callers (log ++ entries) desk') (sym is_marks)
            own);
        noted = noted;
        told = told;
      }

  -- names that follow the words, where nothing was put and no slot came to life
  pub desk_keep : {shape : Shape} {words words' : List ℕ} {callers : List A} {log log' : List Entry} {desk desk' : Desk}
      {mine : Marks} {names : List ℕ} {polls : List Past} → Desked role marks shape words callers log desk mine
      → length names ≡ shape.keys → ((i : ℕ) → i < shape.keys → get_or names i 0 ≡ name_number (get_or words' i 0))
      → ((i s : ℕ) → i < shape.keys → name_number (get_or words' i 0) ≡ suc s
      → name_number (get_or words i 0) ≡ suc s)
      → ((i : ℕ) → put_number log' i ≡ put_number log i) → put_count log' ≡ put_count log
      → ((s : ℕ) → s < shape.slots → 0 < lives shape words' desk' s → 0 < lives shape words desk s)
      → AllSince role marks callers polls → Sweeping role marks callers desk' polls desk'.place
      → Leaves shape words words' desk.place desk'.place
      → Desked role marks shape words' callers log' desk' (record mine { names = names; polls = polls })
  desk_keep {shape} {words} {words'} {callers} {log} {log'} {desk} {desk'} {mine} t long named_so older numbers many
      live noted sweep leaves =
      record {
        wide = (long, t.wide.1);
        names = named_so;
        puts = λ i s l e. let kept = t.puts i s l (older i s l e) in (kept.0 ∙ sym (numbers i), kept.1);
        held = t.held;
        fresh = λ s l on. let f = t.fresh s l (live s l on) in omega arith;
        apart = λ s a l b on one e. t.apart s a l b (live s l on) (live a b one) e;
        sets = λ s l untouched.
            let left = leaves s l untouched in
            spells_more shape words words' s (set_in mine s) left.1 (t.sets s l left.0);
        many = t.many;
        noted = noted;
        sweep = sweep;
      }

  -- the words of the keys stay, and the retired slots are fewer or the same
  pub desk_stay : {shape : Shape} {words words' : List ℕ} {callers : List A} {log : List Entry} (entries : List Entry)
      {desk desk' : Desk} {mine : Marks}
      {polls : List Past} → Desked role marks shape words callers log desk mine
      → ((i : ℕ) → i < shape.keys → get_or words' i 0 ≡ get_or words i 0)
      → QuietEnd log entries → ((s : ℕ) → retirements s desk'.retired ≤ retirements s desk.retired)
      → AllSince role marks callers polls → Sweeping role marks callers desk' polls desk'.place
      → Leaves shape words words' desk.place desk'.place
      → Desked role marks shape words' callers (log ++ entries) desk' (with_polls mine polls)
  desk_stay {shape = shape} {words = words} {words' = words'} entries t same quiet fewer noted sweep leaves =
      desk_keep t t.wide.0
      (λ i l. t.names i l ∙ sym (ap name_number (same i l))) (λ i s l e. ap name_number (sym (same i l)) ∙ e)
      quiet.0 quiet.1
      (λ s l on.
      let b
      = below-same (λ j. only (suc s) (name_number (get_or words' j 0)))
      (λ j. only (suc s) (name_number (get_or words j 0)))
      shape.keys (λ j near. ap (λ (y : ℕ). only (suc s) (name_number y)) (same j near)) in
      omega (arith, fewer s))
      noted sweep leaves

  -- a load by the writer leaves the lists of its desk, whatever it notes and logs
  module _ {shape : Shape} {words : List ℕ} {callers : List A} {log : List Entry} (entries : List Entry) {me : A}
      (place : ℕ) {desk desk' : Desk} where
    pub load_stays : Desked role marks shape words callers log desk (marks me) → QuietEnd log entries
        → ((s : ℕ) → retirements s desk'.retired ≤ retirements s desk.retired)
        → ((s : ℕ) → Untouched s desk'.place → Untouched s desk.place)
        → (polls : List Past) (loads : List LoggedLoad) → AllSince role marks callers polls
        → Sweeping role marks callers desk' polls desk'.place
        → Desked role marks shape (set words place (get_or words place 0)) callers (log ++ entries) desk'
        (with_scan (marks me) polls loads)
    load_stays own quiet fewer untouched polls loads since sweep =
        let words' = set words place (get_or words place 0) in
        desk_loads role marks shape words' callers (log ++ entries) desk' (with_polls (marks me) polls) loads
        (desk_stay entries own (λ j _. ap (λ l. get_or l j 0) (set-get_or words place 0)) quiet fewer since sweep
        (λ s _ rest. (untouched s rest, contents_loaded shape words place s)))

    pub load_step : {id : ℕ} {tells : MarkTelling} → Core shape words (map role callers) log
        → Marked role marks shape words callers log → get_elem? callers id ≡ some me → role me ≡ Writer desk
        → {after : Role} → after ≡ Writer desk' → QuietEnd log entries
        → ((s : ℕ) → retirements s desk'.retired ≤ retirements s desk.retired)
        → ((s : ℕ) → Untouched s desk'.place → Untouched s desk.place)
        → (polls : List Past) (loads : List LoggedLoad) → AllSince role marks callers polls
        → NotesPresent role marks callers (marks me).polls polls
        → Sweeping role marks callers desk' polls desk'.place
        → tells (get_or words place 0) after (log ++ entries) (with_scan (marks me) polls loads) []
        → Remarked role marks shape words callers log id (Load place) me after entries tells
    load_step {id = id} core m at was is quiet fewer untouched polls loads since present sweep told =
        writer_step core m at was is
        (with_scan (marks me) polls loads) [] (no_places (Since role marks callers)) present
        (load_stays (desk_of id m at was) quiet fewer untouched polls loads since sweep) told

-- The writer's steps that leave the words: its looks and its reads. A call that ends with no slot there has none
-- retired either.

-- whether a step puts a set
abbrev step_puts : Step → Bool
step_puts (Ended (writer.Reply answer)) = is_done answer
step_puts other = false

quiet_end : (log : List Entry) (call : Call) (step : Step) → step_puts step ≡ false → QuietEnd log (ending call step)
quiet_end log call (Ended (writer.Reply answer)) q =
    ((λ k. quiet_number log (entry 0 call answer) k q), quiet_count log (entry 0 call answer) q)
quiet_end log call other q = nothing_ends log

no_slot_ends : (log : List Entry) (call : Call) (step : Step) (counts : NoSlot) → step ≡ Ended (writer.NoSlot counts)
    → log ++ ending call step ≡ log
no_slot_ends log call step counts e = ap (λ s. log ++ ending call s) e ∙ append-nil log

module _ {A : Type 0} (role : A → Role) (marks : A → Marks) where
  pub none_hold : (callers : List A) (desk : Desk) → HoldNoOthers role marks callers desk []
  none_hold callers desk at note here = absurd (some-ne-none note (sym here))

  pub no_notes : (callers : List A) (desk : Desk) → Sweeps role marks callers desk [] 0
  no_notes callers desk = search (arith, none_hold callers desk)

  -- an outcome that leaves the retired slots and puts nothing, where no poll was made yet
  abbrev Calm : List A → Desk → Desk × Step → Type 0
  Calm callers desk o =
      (o.0.retired ≡ desk.retired) × Sweeping role marks callers o.0 [] o.0.place × (step_puts o.1 ≡ false)

  calm : (shape : Shape) (callers : List A) (desk : Desk) (shown : KeyState → Type 0)
      → OfOutcomes shape desk shown (λ _. Calm callers desk)
  calm shape callers desk shown = search (none_hold, no_notes)

none_held : (retired : List Retired) → length retired ≡ 0 → AllHeld retired []
none_held retired none = search (arith, none, inside)

module _ {A : Type 0} (role : A → Role) (marks : A → Marks) (shape : Shape) (id : ℕ) (me : A) (known : List Past) where
  pub looks_marked : (desk : Desk) (call : WriterCall) → desk.place ≡ Idle → key_of call < shape.keys
      → role me ≡ Writer desk
      → CanMark role marks shape id me known (Load (key_of call)) (Looks shape desk call)
      (LooksMarks shape (marks me) desk call)
  looks_marked desk call idle near was words callers log core m once at since after entries ans =
      let k : ℕ = key_of call in let word : ℕ = get_or words k 0 in let o = looked shape desk call word in
      let calmly
      = looked_has shape desk (λ _. Calm role marks callers desk) word
      (calm role marks shape callers desk (ShownBy shape word)) call in
      let there : get_elem? (map role callers) id ≡ some (Writer desk) = at_maps role callers id me at ∙ ap some was in
      let quiet : QuietEnd log entries = subst (QuietEnd log) (sym ans.1) (quiet_end log (call_of call) o.1 calmly.2) in
      load_step entries k core m at was ans.0 quiet (λ s. let e = ap (retirements s) calmly.0 in omega arith)
      (λ s _. subst (Untouched s) (sym idle) tt) [] (marks me).loads (no_places (Since role marks callers))
      (λ place note here. absurd (some-ne-none note (sym here))) calmly.1 (
        refl,
        refl,
        λ t. let n = look_none shape desk t.0 call word t.1 in
            subst (NoRoom shape call desk.retired [])
            (sym (ap (λ l. log ++ l) ans.1 ∙ no_slot_ends log (call_of call) o.1 t.0 t.1))
            (no_room_left id core there (λ slot. ap (taken slot) idle) n.1
            (n.3 (state_of (map_after shape log) k) words (core.shows k near))
            [] (none_held desk.retired n.2) (omega arith)),
      )

  pub reads_on_marked : (desk : Desk) (call : WriterCall) (slot : ℕ) (got : List ℕ) → desk.place ≡ Reading call slot got
      → role me ≡ Writer desk
      → CanMark role marks shape id me known (Load (content shape slot (length got)))
      (Went shape desk (Reading call slot got)) (ReadsOnMarks shape (marks me) desk call slot got)
  reads_on_marked desk call slot got is_at was words callers log core m once at since after entries ans =
      let i : ℕ = content shape slot (length got) in
      let word : ℕ = get_or words i 0 in
      let got' : List ℕ = got ++ word ∷ [] in
      let o = read_on shape desk call slot got' in
      let own = desk_of id m at was in
      let calmly
      = read_has shape desk (λ _. Calm role marks callers desk) (calm role marks shape callers desk) call slot got' in
      let none : (marks me).polls ≡ [] = subst (Sweeping role marks callers desk (marks me).polls) is_at own.sweep in
      let roles = map role callers in
      let there : get_elem? roles id ≡ some (Writer desk) = at_maps role callers id me at ∙ ap some was in
      let p = stands_at core id there is_at in
      let quiet : QuietEnd log entries = subst (QuietEnd log) (sym ans.1) (quiet_end log (call_of call) o.1 calmly.2) in
      load_step entries i core m at was ans.0 quiet
      (λ s. let e = ap (retirements s) calmly.0 in omega arith) (λ s _. subst (Untouched s) (sym is_at) tt)
      (marks me).polls (marks me).loads own.noted (λ place note here. inl here)
      (subst (λ l. Sweeping role marks callers o.0 l o.0.place) (sym none) calmly.1) (
        refl,
        refl,
        λ t. let n = read_none core desk t.0 call slot got p t.1 in
            subst (NoRoom shape call desk.retired [])
            (sym (ap (λ l. log ++ l) ans.1 ∙ no_slot_ends log (call_of call) o.1 t.0 t.1))
            (no_room_left id core there (λ s. ap (taken s) is_at) n.1 n.3
            [] (none_held desk.retired n.2) (omega arith)),
      )
