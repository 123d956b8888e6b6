-- What a line leaves: the hands that its round gathered lie in the map's list again, and the map shows what
-- the line was answered.
use Rattle.std.proofs.Common.{◌≡◌, ◌<◌, ℕ, List, length, get_or, set, sym, ap, ◌∙◌, subst, arith, Vec, Ok, Result}
use Rattle.std.proofs.lemmas.List.{length-map, with_items_is}
use Rattle.std.specs.Vec.{with_item, with_items}
use Rattle.nr_model.specs.declared.calls.Call.{Call}
use Rattle.nr_model.specs.Maps.{key_count, state_of}
use Rattle.nr_core.proofs.Histories.{length-now}
use Rattle.nr_board.specs.Callers.{Caller, Table}
use Rattle.nr_map.specs.Hands.{Handed}
use Rattle.nr_script.specs.Alone.{IsAlone, Laws, log_of, shown_by}
use Rattle.nr_script.specs.Answers.{Answer}
use Rattle.nr_script.specs.MapState.{MapOutcome, MapState, answer_again, answer_call, answer_of_reader, answer_pinning}
use Rattle.nr_script.specs.MapState.{answer_show, answer_unpin}
use Rattle.nr_script.specs.Rounds.{Gathered}
use Rattle.nr_script.specs.Hands.{FindsAgain, MakesCall, MakesPin, NotesFor, ShowsPin, Unpins, pin_of}
use Rattle.nr_script.specs.declared.alone.answer.PinRefusal.{PinRefusal}
use Rattle.nr_script.specs.WriterMakes.{WriterMakes}
use Rattle.nr_script.proofs.Lines.{says}
use Rattle.nr_script.proofs.ReaderLines.{says_again, says_call, says_pin, says_show, says_unpin}
use Rattle.nr_script.proofs.Rounds.{same_length}

-- a key that the map shows is one of the table's
pub key_inside : (table : Table) (w0 : Caller) (hands : List Handed) (now : MapState) (key : ℕ)
    → shown_by table w0 hands ≡ now → key < key_count now.map → key < table.shape.keys
key_inside table w0 hands now key shows low =
    let few = subst (λ (s : MapState). key < key_count s.map) (sym shows) low in
    omega (arith, length-now table.shape (log_of w0 hands))

-- the tokens are alone, and the line was answered so
abbrev Ends : Table → Caller → List Handed → MapOutcome → Answer → Type 0
Ends table w hands outcome answer = IsAlone table w hands × (outcome ≡ (Ok answer, shown_by table w hands))

-- a line of the writer's
pub call_of_writer_ends : {Z : Type 0} → Laws → {table : Table} {w0 : Caller} (hands : Vec Handed Z)
    → IsAlone table w0 hands.items → {now : MapState} → shown_by table w0 hands.items ≡ now → (call : Call)
    → {w w' : Caller} {slice hands' : List Handed} → slice ≡ hands.items → length slice ≡ hands.len
    → Gathered 0 w slice w' hands' → {answer : Answer} → WriterMakes call w0 w answer
    → Ends table w' (with_items hands hands').items (answer_call now call) answer
call_of_writer_ends
    laws {table} {w0} hands alone shows call {w} {w'} {hands' = hands'} items len gathered {answer} made =
    let g : Gathered 0 w hands.items w' hands' = rw items at gathered in
    let size = same_length hands' hands.items g.round.same ∙ ap (λ (l : List Handed). length l) (sym items) ∙ len in
    rw (with_items_is hands hands' size, ← shows)
    (says laws table w0 hands.items call w w' hands' alone g answer made)

module _ {Z : Type 0} (laws : Laws) {table : Table} {w0 : Caller} (hands : Vec Handed Z)
    (alone : IsAlone table w0 hands.items) (at : ℕ) {now : MapState} (shows : shown_by table w0 hands.items ≡ now)
    (low : at < length now.pins) {old : Handed} (x : Handed) (item : old ≡ get_or hands.items at old) (w' : Caller)
    (hands' : List Handed) {slice : List Handed} (items : slice ≡ set hands.items at x)
    (len : length slice ≡ (with_item hands at x).len) {result : Result Answer PinRefusal} {answer : Answer}
    (was : result ≡ Ok answer) where
  -- the reader's place is that of a hand
  inside : at < length hands.items
  inside =
      let few = subst (λ (s : MapState). at < length s.pins) (sym shows) low in
      omega (arith, length-map hands.items pin_of)

  -- so it is where the hands lie in the list again
  abbrev Ended : MapOutcome → Type 0
  Ended outcome = Ends table w' (with_items (with_item hands at x) hands').items outcome answer

  ends : (line : MapState → MapOutcome) → Gathered at w0 (set hands.items at x) w' hands'
      → Ends table w' hands' (line (shown_by table w0 hands.items)) answer
      → Ended (line now)
  ends line g said =
      let size = same_length hands' (set hands.items at x) g.round.same
      ∙ ap (λ (l : List Handed). length l) (sym items) ∙ len in
      rw (with_items_is (with_item hands at x) hands' size)
      (subst (λ (s : MapState). Ends table w' hands' (line s) answer) shows said)

  -- the round of a line for which the writer made a note before it
  after_note : (w : Caller) → NotesFor w0 w result → Gathered at w slice w' hands'
      → Gathered at w0 (set hands.items at x) w' hands'
  after_note w notes g =
      let h = subst (λ (c : Caller). Gathered at c slice w' hands') (subst (NotesFor w0 w) was notes) g in
      let noted : Gathered at w0 slice w' hands'
      = record { mid = h.mid; stays = assumption; sound = h.sound; all = h.all; heard = h.heard; round = h.round } in
      rw items at noted

  pub call_ends : (w : Caller) (call : Call) → NotesFor w0 w result → Gathered at w slice w' hands'
      → MakesCall w0.seen call old x result → Ended (answer_of_reader now at call)
  call_ends w call notes gathered made =
      let g = after_note w notes gathered in
      ends (λ s. answer_of_reader s at call) g
      (says_call laws table w0 hands.items alone at old x inside item w' hands' g w0.seen call answer (rw was at made))

  pub pin_ends : (w : Caller) (key : ℕ) → key < key_count now.map → NotesFor w0 w result
      → Gathered at w slice w' hands' → MakesPin w0.seen key old x result
      → Ended (answer_pinning now at key (state_of now.map key))
  pin_ends w key near notes gathered made =
      let g = after_note w notes gathered in
      ends (λ s. answer_pinning s at key (state_of s.map key)) g
      (says_pin laws table w0 hands.items alone at old x inside item w' hands' g w0.seen key answer
      (key_inside table w0 hands.items now key shows near) (rw was at made))

  module _ (gathered : Gathered at w0 slice w' hands') where
    pub again_ends : (key : ℕ) → key < key_count now.map → FindsAgain key old x result
        → Ended (answer_again now at key)
    again_ends key near made =
        let g = rw items at gathered in
        ends (λ s. answer_again s at key) g
        (says_again laws table w0 hands.items alone at old x inside item w' hands' g key answer
        (key_inside table w0 hands.items now key shows near) (rw was at made))

    pub show_ends : ShowsPin old x result → Ended (answer_show now at)
    show_ends made =
        let g = rw items at gathered in
        ends (λ s. answer_show s at) g
        (says_show laws table w0 hands.items alone at old x inside item w' hands' g answer (rw was at made))

    pub unpin_ends : Unpins old x result → Ended (answer_unpin now at)
    unpin_ends made =
        let g = rw items at gathered in
        ends (λ s. answer_unpin s at) g
        (says_unpin laws table w0 hands.items alone at old x inside item w' hands' g answer (rw was at made))
