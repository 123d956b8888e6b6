-- A reader's steps: it requests a key, arrives at its slot, finds it again, looks it up and holds the slot that it
-- names, reads a word of the slot that it holds, and departs.
use Rattle.std.proofs.Common.{List, [], ap, arith, false, get_or, inl, inr, refl, suc, sym, ℕ, ◌%◌, ◌+◌, ◌^◌, ◌∙◌, ◌∷◌}
use Rattle.std.proofs.Common.{◌≡◌, cond, ◌≢◌, eq-eqb, ne_eqb, subst, ◌++◌, Bool, nat_eq, true, set, ◌<◌}
use Rattle.nr_model.specs.Maps.{find_reply, state_of, ask_reply, asked, number_of}
use Rattle.nr_model.specs.declared.calls.Reply.{Reply}
use Rattle.nr_model.specs.declared.states.KeyState.{KeyState}
use Rattle.nr_words.specs.KeyWords.{slot_of, is_filled, has_ask}
use Rattle.nr_words.specs.declared.key_words.TheConstants.{ARRIVE}
use Rattle.nr_core.proofs.KeyWords.{bumped, name-bumped, name-asked, names_none, names_one}
use Rattle.nr_core.proofs.OnKey.{on_key, load_step, recounts}
use Rattle.nr_core.proofs.Sums.{only-other, only-same, total-set, term_le}
use Rattle.nr_core.specs.Core.{ShowsState, Grips, Core}
use Rattle.nr_core.specs.declared.operation.Operation.TheVariants.{Add}
use Rattle.nr_core.specs.Roles.{holds, grips, held}
use Rattle.nr_core.specs.Slots.{name_number, content, SlotSpells, names_slot}
use Rattle.nr_core.specs.Steps.{Arrives, Stepped, ask_word}
use Rattle.nr_core.specs.Story.{entry, map_after}
use Rattle.nr_core.specs.Sums.{only}
use Rattle.nr_core.specs.declared.roles.Grip.TheVariants.{Nothing, On}
use Rattle.nr_core.specs.declared.roles.Role.TheVariants.{Reader}
use Rattle.nr_core.specs.declared.shape.Shape.{Shape}
use Rattle.nr_core.proofs.Stepping.{reader_tells, reader_quiet, stays_quiet}
use Rattle.nr_core.proofs.Choices.{either}
use Rattle.nr_core.proofs.Frames.{entry_more}
use Rattle.nr_core.specs.declared.roles.Grip.{Grip}
use Rattle.nr_core.specs.StepLaws.{ArriveLaw, AskLaw, ReadLaw, DepartLaw, FindAgainLaw, HoldNamedLaw, LookUpLaw}
use Rattle.std.specs.Prelude.{bit_or}
use mathlib.Core.Logic.{dite}
use native.Mathlib.Decide.{ℕ_discrete}
use Rattle.nr_words.proofs.KeyWordLemmas.{with_ask_is}
use Rattle.nr_core.proofs.Histories.{legal-more, replies_so, state_other, state_same}
use Rattle.std.proofs.lemmas.Bool.{eqb-true}
use Rattle.nr_model.specs.Histories.{Entry}
use Rattle.nr_model.specs.declared.rows.Row.{Row}
use Rattle.nr_core.proofs.Learn.{nothing}
use Rattle.nr_core.proofs.ReadThrough.{spelt_set}
use Rattle.nr_core.specs.declared.roles.Role.{Role}
use lib.ListN.{get_elem?}
use mathlib.Core.Option.{some}
use Rattle.nr_core.proofs.Counting.{names_it}
use Rattle.nr_model.specs.declared.states.KeyState.TheVariants as key
use Rattle.nr_model.specs.declared.calls.Call.TheVariants as model
use Rattle.nr_model.specs.declared.calls.Reply.TheVariants as reply

-- A reader requests a key: the key is asked, unless it is filled.

asked_stays : (z : KeyState) → ((number : ℕ) → z ≡ key.Hole number → ⊥) → asked z ≡ z
asked_stays (key.Hole number) n = absurd (n number refl)
asked_stays other n = refl

asked_number : (z : KeyState) → number_of (asked z) ≡ number_of z
asked_number (key.Hole number) = refl
asked_number other = refl

-- an asked word shows the asked state
shows-asked : (shape : Shape) (words : List ℕ) (w x : ℕ) (state : KeyState) → name_number x ≡ name_number w → x % 2 ≡ 1
    → slot_of x ≡ slot_of w → ShowsState shape words w state → ShowsState shape words x (asked state)
shows-asked shape words w x (key.Rows number rows) n p m t = (t.0, n ∙ t.1, t.2, t.3)
shows-asked shape words w x other n p m t = (n ∙ t.0, p, m ∙ t.2)

-- the reply of a key's state is that of its word
asked_word : (shape : Shape) (words : List ℕ) (w : ℕ) (state : KeyState) → ShowsState shape words w state
    → ask_reply state ≡ ask_word w
asked_word shape words w (key.Hole number) t =
    sym (cc (names_none w t.0, ne_eqb (w % 2) 1 (λ z. omega arith), t.2))
asked_word shape words w (key.Asked number) t =
    sym (ap (λ b. cond b reply.Filled (cond (has_ask w) reply.Waiting (reply.Send (slot_of w))))
    (names_none w t.0) ∙ ap (λ b. cond b reply.Waiting (reply.Send (slot_of w))) (eq-eqb (w % 2) 1 t.1))
asked_word shape words w (key.Rows number rows) t = search (arith, names_one)

pub asks : AskLaw
asks shape id reader k near words roles log core there =
    let w : ℕ = get_or words k 0 in
    let x : ℕ = bit_or w 1 in
    let map = map_after shape log in
    let state = state_of map k in
    let one = with_ask_is w in
    let name = name-asked w x one in let e = entry reader (model.Ask k) (ask_reply state) in
    let same : state_of (map_after shape (log ++ e ∷ [])) k ≡ asked state = state_same shape log e near in
    let shown = core.shows k near in
    let other = state_other shape log e in reader_tells Nothing (model.Ask k) (ask_reply state)
    (on_key core (log ++ e ∷ []) id reader Nothing Nothing k x near there name
    (legal-more shape log e core.legal (sym (replies_so shape log (model.Ask k)))) other (λ j. dite (ℕ_discrete j k)
    (λ z. rw z (ap number_of same ∙ asked_number state)) (λ ne. ap number_of (other j ne)))
    (λ j n. dite (ℕ_discrete j k)
    (λ z. rw z (same ∙ asked_stays state (λ number y. n number (ap (state_of map) z ∙ y)))) (λ ne. other j ne))
    (subst (ShowsState shape words x) (sym same)
    (shows-asked shape words w x state name (omega arith) (omega arith) shown)) tt (λ s _. refl) (λ s e'.
    let more = total-set (holds s) roles id (Reader reader Nothing) (Reader reader Nothing) there in
    omega (arith, core.counts k s near e')))
    (refl, ap (λ (y : Reply). entry reader (model.Ask k) y ∷ []) (asked_word shape words w state shown))

-- A reader reads a word of the slot that it holds.

pub reads : ReadLaw
reads shape id reader slot rows sized index low words roles log core there =
    let sized' : Bool = cond (nat_eq index 0) true sized in
    let mine = core.knows id (Reader reader (On slot rows sized)) there in
    reader_quiet (On slot rows sized')
    (load_step core id (Reader reader (On slot rows sized')) (content shape slot index) there refl refl (λ _. refl)
    (λ _. refl) mine) (mine.1.1 index low, refl, refl)

-- A reader departs from the slot that it holds.

pub departs : DepartLaw
departs shape id reader slot rows sized words roles log core there =
    let role = Reader reader (On slot rows sized) in
    let after = Reader reader Nothing in
    let part = term_le (holds slot) roles id role there in
    let one = only-same slot in
    let less = total-set (holds slot) roles id role after there in
    reader_quiet Nothing (recounts core id reader slot _ (On slot rows sized) Nothing (core.knows id role there).0 there
    (λ t ne. sym (only-other t slot (λ e. ne (sym e)))) (omega arith) (λ _. omega arith) tt) (refl, refl)

-- A reader that holds a slot finds a key again: where the key names that slot, the key has the set that the reader
-- holds.

-- a slot spells one set
one_set : {shape : Shape} {words : List ℕ} {roles : List Role} {log : List Entry} → Core shape words roles log
    → (slot : ℕ) (one other : List Row)
    → slot < shape.slots → SlotSpells shape words slot one → SlotSpells shape words slot other → one ≡ other
one_set {shape = shape} {words = words} core slot one other near first second =
    cc (spelt_set shape words slot one core.wide near first, spelt_set shape words slot other core.wide near second)

-- a key that names a slot is found with the set which the slot spells
pub named_set : (shape : Shape) (words : List ℕ) (w : ℕ) (state : KeyState) (slot : ℕ) → name_number w ≡ suc slot
    → ShowsState shape words w state
    → (rows : List Row) × (slot < shape.slots) × SlotSpells shape words slot rows × (find_reply state ≡ reply.Rows rows)
named_set shape words w (key.Rows number rows) slot names shown =
    let same : shown.0 ≡ slot = omega arith in rw (sym same) (rows, shown.2, shown.3, refl)
named_set shape words w other slot names shown = absurd (omega (arith, shown.0))

-- a key that names no slot is found as a hole
pub found_hole : (shape : Shape) (words : List ℕ) (w : ℕ) (state : KeyState) → name_number w ≡ 0
    → ShowsState shape words w state → find_reply state ≡ reply.Hole
found_hole shape words w (key.Rows number rows) none shown = absurd (let named = shown.1 in omega arith)
found_hole shape words w other none shown = refl

-- a load of a key's word, as a find that its state answers so
pub finds : {shape : Shape} {words : List ℕ} {roles : List Role} {log : List Entry} → Core shape words roles log
    → (id reader k : ℕ) {role : Role} → get_elem? roles id ≡ some role
    → (answer : Reply) → find_reply (state_of (map_after shape log) k) ≡ answer
    → Core shape (set words k (get_or words k 0)) (set roles id role) (log ++ entry reader (model.Find k) answer ∷ [])
finds core id reader k there answer is =
    entry_more (nothing id k core there) (entry reader (model.Find k) answer) (sym is) refl

pub finds_again : FindAgainLaw
finds_again shape id reader slot rows sized k near words roles log core there =
    let w : ℕ = get_or words k 0 in
    let e = entry reader (model.Find k) (reply.Rows rows) in
    let state = state_of (map_after shape log) k in
    let mine = core.knows id (Reader reader (On slot rows sized)) there in
    let inside : (other : ℕ) → name_number w ≡ suc other → other < shape.slots
    = λ other names. (named_set shape words w state other names (core.shows k near)).1 in
    either (names_slot slot w)
    (λ yes. let s = named_set shape words w state slot (eqb-true (name_number w) (suc slot) yes) (core.shows k near) in
    reader_tells (On slot rows sized) (model.Find k) (reply.Rows rows)
    (finds core id reader k there (reply.Rows rows) (s.3 ∙ ap reply.Rows (one_set core slot s.0 rows s.1 s.2 mine.1)))
    (refl, ap (λ (b : Bool). cond {A = List Entry} b (e ∷ []) []) (sym yes), inside))
    (λ no. stays_quiet (nothing id k core there)
    (refl, ap (λ (b : Bool). cond {A = List Entry} b (e ∷ []) []) (sym no), inside))

-- A reader arrives: it finds the key's set and holds its slot, or finds a hole.

-- a word that names the same and asks the same shows the same
shows_word : (shape : Shape) (words : List ℕ) (w x : ℕ) (state : KeyState) → name_number x ≡ name_number w
    → x % 2 ≡ w % 2 → slot_of x ≡ slot_of w → ShowsState shape words w state → ShowsState shape words x state
shows_word shape words w x (key.Rows number rows) n p m t = (t.0, n ∙ t.1, t.2, t.3)
shows_word shape words w x other n p m t = (n ∙ t.0, p ∙ t.1, m ∙ t.2)

pub arrives : ArriveLaw
arrives shape id reader k near words roles log core there =
    let w : ℕ = get_or words k 0 in
    let x : ℕ = (w + ARRIVE) % 2 ^ 64 in
    let state = state_of (map_after shape log) k in
    let shows = core.shows k near in
    let b = bumped w in
    let name = name-bumped w in
    let finish : (grip : Grip) (answer : Reply) → find_reply state ≡ answer
    → Grips shape words (map_after shape log) (held roles) grip
    → ((s : ℕ) → name_number w ≢ suc s → grips s grip ≡ 0) → ((s : ℕ) → name_number w ≡ suc s → grips s grip ≡ 1)
    → Arrives shape reader k w (Reader reader grip) (entry reader (model.Find k) answer ∷ [])
    → Stepped shape words roles log id (Reader reader Nothing) (Add k ARRIVE) (Arrives shape reader k)
    = λ grip answer is own quiet counted told. reader_tells grip (model.Find k) answer
    (entry_more (on_key core log id reader Nothing grip k x near there name core.legal (λ _ _. refl) (λ _. refl)
    (λ _ _. refl) (shows_word shape words w x state name (omega arith) (omega arith) shows) own quiet
    (λ s e. let more = total-set (holds s) roles id (Reader reader Nothing) (Reader reader grip) there in
    omega (arith, core.counts k s near e, b.2, counted s e)))
    (entry reader (model.Find k) answer) (sym is) refl) told in
    either (is_filled w)
    (λ full.
    let slot = slot_of w in
    let names : name_number w ≡ suc slot = ap (λ v. cond v (slot_of w + 1) 0) full ∙ omega arith in
    let s = named_set shape words w state slot names shows in
    finish (On slot s.0 false) (reply.Rows s.0) s.3 (s.1, s.2)
    (λ t ne. only-other t slot (λ z. ne (names ∙ ap suc z)))
    (λ t e. let same : slot ≡ t = omega arith in ap (only t) same ∙ only-same t)
    (inl (slot, s.0, names, s.1, s.2.0, refl, refl)))
    (λ empty.
    let none : name_number w ≡ 0 = ap (λ v. cond v (slot_of w + 1) 0) empty in
    finish Nothing reply.Hole (found_hole shape words w state none shows) tt (λ _ _. refl)
    (λ s e. absurd (omega arith)) (inr (none, refl, refl)))

-- A reader that holds nothing looks a key up. Where the key names a slot, the reader may hold it as if it had arrived
-- there: a departure is taken back.

pub looks_up : LookUpLaw
looks_up shape id reader k near words roles log core there =
    let w : ℕ = get_or words k 0 in
    let e = entry reader (model.Find k) reply.Hole in
    either (is_filled w)
    (λ full. stays_quiet (nothing id k core there)
    (refl, ap (λ (b : Bool). cond {A = List Entry} b [] (e ∷ [])) (sym full)))
    (λ empty. let none : name_number w ≡ 0 = ap (λ (b : Bool). cond b (slot_of w + 1) 0) empty in
    reader_tells Nothing (model.Find k) reply.Hole (finds core id reader k there reply.Hole
    (found_hole shape words w (state_of (map_after shape log) k) none (core.shows k near)))
    (refl, ap (λ (b : Bool). cond {A = List Entry} b [] (e ∷ [])) (sym empty)))

pub holds_named : HoldNamedLaw
holds_named shape id reader k slot near words roles log core names there =
    let s
    = named_set shape words (get_or words k 0) (state_of (map_after shape log) k) slot names (core.shows k near) in
    let rows = s.0 in
    let is_named = names_it shape words roles log core k slot near names in
    let place = core.places slot s.1 in
    let one = only-same slot in
    let more = total-set (holds slot) roles id (Reader reader Nothing) (Reader reader (On slot rows false)) there in
    reader_tells (On slot rows false) (model.Find k) (reply.Rows rows)
    (entry_more (recounts core id reader slot _ Nothing (On slot rows false) s.1 there
    (λ t ne. only-other t slot (λ e. ne (sym e))) (omega arith) (λ kept. absurd (omega arith)) (s.1, s.2))
    (entry reader (model.Find k) (reply.Rows rows)) (sym s.3) refl) (rows, s.1, s.2.0, refl, refl)
