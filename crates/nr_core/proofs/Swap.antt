-- The writer's stores: of one word of its set into the slot that it took (puts), and of another word for a key's word,
-- by which the slot that it named is retired: by a fill or an update, which publishes its slot, by an eviction and by a
-- cancel.
use Rattle.std.proofs.Common.{[], List, ap, append-nil, arith, cond, get_or, get_or-set_other, set, subst, suc, sym, ℕ}
use Rattle.std.proofs.Common.{⊎_elim, ◌%◌, ◌++◌, ◌+◌, ◌<◌, ◌^◌, ◌∙◌, ◌∷◌, ◌≡◌, ◌⊎◌, length, ◌*◌, false, refl, ◌≢◌}
use Rattle.std.proofs.Common.{get_or-set_same, ◌≤◌}
use lib.ListN.{get_elem?}
use mathlib.Core.Option.{some}
use Rattle.nr_model.specs.Histories.{Entry}
use Rattle.nr_model.specs.Maps.{call_key, reply_at, state_after, state_of, number_of, last_number}
use Rattle.nr_model.specs.declared.calls.Call.{Call}
use Rattle.nr_model.specs.declared.calls.Reply.{Reply}
use Rattle.nr_words.specs.KeyWords.{arrivals_of, is_filled, slot_of, naming, hole_word}
use Rattle.nr_core.proofs.Choices.{by_cases}
use Rattle.nr_core.proofs.Frames.{Left, free_more, retired_more, stands_at, left_so, unused-free}
use Rattle.nr_core.proofs.Histories.{legal-more, replies_so, state_other, state_same}
use Rattle.nr_core.proofs.OnKey.{in_range, key_step, no_writer, off_keys}
use Rattle.nr_core.proofs.Sums.{at_snoc, only-suc, only-zero, total-append, total-set, only-same, term_le}
use Rattle.nr_core.specs.Core.{AreNumbers, AtDesk, Core, ShowsState}
use Rattle.nr_core.specs.Roles.{held, holds, taken, keeps}
use Rattle.nr_core.specs.Slots.{bound_of, content, departures, name_number, named}
use Rattle.nr_core.specs.Story.{entry, map_after, shown, call_of}
use Rattle.nr_core.specs.Sums.{only, total}
use Rattle.nr_core.specs.Writer.{swapped, unnamed, moved_to}
use Rattle.nr_core.specs.declared.places.Retired.{Retired}
use Rattle.nr_core.specs.declared.roles.Desk.{Desk}
use Rattle.nr_core.specs.declared.roles.Role.{Role}
use Rattle.nr_core.specs.declared.roles.Role.TheVariants.{Writer}
use Rattle.nr_core.specs.declared.shape.Shape.{Shape}
use Rattle.nr_model.specs.declared.rows.Row.{Row}
use Rattle.nr_words.proofs.SetWordLemmas.{length-row_words}
use Rattle.nr_core.proofs.KeyWords.{naming_is, hole_is, names_none}
use Rattle.nr_core.proofs.Numbers.{numbers_kept, number_within, numbers_next}
use Rattle.nr_core.proofs.Settle.{key_same, Makes, keeps_moved}
use Rattle.nr_core.specs.States.{key_of, number_at}
use Rattle.nr_core.specs.declared.calls.WriterCall.{WriterCall}
use Rattle.nr_core.specs.declared.places.Place.TheVariants.{Putting, Leaving, Withdrawing}
use Rattle.std.proofs.lemmas.Bool.{lt-ltb}
use Rattle.nr_model.specs.declared.states.KeyState.{KeyState}
use mathlib.Core.Logic.{dite}
use native.Mathlib.Decide.{ℕ_discrete}
use Rattle.nr_words.specs.SetWords.{encode}
use Rattle.nr_core.proofs.WordPlaces.{content_apart, content_inside, same_content}
use Rattle.nr_model.specs.declared.calls.Reply.TheVariants as reply
use Rattle.nr_model.specs.declared.calls.Call.TheVariants as model
use Rattle.nr_model.specs.declared.states.KeyState.TheVariants as key

pub unnamed_sum : (s w : ℕ) → total (λ (x : Retired). only s x.slot) (unnamed w) ≡ only (suc s) (name_number w)
unnamed_sum s w =
    by_cases
    (λ v. total (λ (x : Retired). only s x.slot)
    (cond v (record { slot = slot_of w; arrivals = arrivals_of w } ∷ []) [])
    ≡ only (suc s) (cond v (slot_of w + 1) 0))
    (is_filled w)
    (λ _. omega (arith, only-suc s (slot_of w), ap (only (suc s)) (plus_one (slot_of w))))
    (λ _. omega (arith, only-zero s))
  where
    plus_one : (n : ℕ) → n + 1 ≡ suc n
    plus_one n = omega arith

unnamed_at : (l : List Retired) (w i : ℕ) (x : Retired) → get_elem? (l ++ unnamed w) i ≡ some x
    → (get_elem? l i ≡ some x) ⊎ ((name_number w ≡ suc x.slot) × (arrivals_of w ≡ x.arrivals))
unnamed_at l w i x = search (arith, by_cases, at_snoc, append-nil)

module _ {shape : Shape} {words : List ℕ} {roles : List Role} {log : List Entry} (core : Core shape words roles log)
    (id : ℕ) {desk : Desk} (there : get_elem? roles id ≡ some (Writer desk)) where
  -- one word of its set
  pub puts : (call : WriterCall) (rows : List Row) (slot departed index : ℕ)
      → desk.place ≡ Putting call rows slot departed index → index ≤ 2 * length rows
      → Core shape (set words (content shape slot index) (get_or (encode rows) index 0))
      (set roles id (Writer (moved_to desk (Putting call rows slot departed (index + 1))))) (log ++ [])
  puts call rows slot departed index is_at low_enough =
      let desk' = moved_to desk (Putting call rows slot departed (index + 1)) in let map = map_after shape log in
      let mine = core.knows id (Writer desk) there in
      let putting = stands_at core id there is_at in
      let near : slot < shape.slots = putting.inside in let nobody_there : held roles slot ≡ 0 = putting.nobody in
      let flat-size = length-row_words rows in
      let more : index < length (encode rows) = omega arith in
      let w : ℕ = content shape slot index in
      let x : ℕ = get_or (encode rows) index 0 in
      let words' = set words w x in
      let roles' = set roles id (Writer desk') in
      let once = core.places slot near in
      let part = term_le (keeps slot) roles id (Writer desk) there in
      let one = only-same slot in
      let all_of_it = ap (taken slot) is_at in
      let cont : (s j : ℕ) → s ≢ slot → j ≤ 2 * (bound_of shape)
      → get_or words' (content shape s j) 0 ≡ get_or words (content shape s j)
      0 = λ s j ne low. get_or-set_other words w (content shape s j) x 0
      (λ z. ne (same_content shape s j slot index (omega arith) (omega arith) z)) in
      let dep : (s : ℕ) → get_or words' (departures shape s) 0 ≡ get_or words (departures shape s) 0
      = λ s. get_or-set_other words w (departures shape s) x 0
      (λ z. content_apart shape slot index s (omega arith) (sym z)) in
      let here = get_or-set_same words w x 0 (omega (arith, content_inside shape slot index near (omega arith))) in
      let still : (s : ℕ) → held roles' s ≡ held roles s
      = λ s. let same = total-set (holds s) roles id (Writer desk) (Writer desk') there in omega arith in
      let left : (s : ℕ) → s ≢ slot → Left shape words words' map map (held roles) (held roles') s
      = λ s ne.
      left_so shape words words' map map (held roles) (held roles') s (λ j low. cont s j ne low) (dep s) (still s) in
      let own : AtDesk shape words' map (held roles') desk' = record {
        place = record {
          wants = assumption putting.wants;
          inside = near;
          nobody = still slot ∙ nobody_there;
          counted = dep slot ∙ putting.counted;
          within = omega arith;
          put = λ j l. dite (ℕ_discrete j index)
              (λ z. subst (λ (y : ℕ). get_or words' (content shape slot y) 0 ≡ get_or (encode rows) y 0) (sym z) here)
              (λ ne. get_or-set_other words w (content shape slot j) x 0 (λ z. ne (omega arith))
              ∙ putting.put j (omega arith));
        };
        room = mine.room;
        free =
            free_more shape words words' map map (held roles) (held roles') desk.fresh
            (λ s near' from. left s (λ z. let u = unused-free slot desk.fresh (omega arith) in omega arith))
            mine.free;
        retired = retired_more shape words words' map map (held roles) (held roles') desk.retired
            (λ s near' listed. left s
            (λ z.
            let l' : 0 < total (λ (x : Retired). only slot x.slot) desk.retired = rw (sym z) listed in
            omega arith)) mine.retired;
        numbers = mine.numbers;
      } in
      rw (append-nil log) (off_keys core id (Writer desk') w x (omega arith) there refl refl
      (λ s _. keeps_moved desk (Putting call rows slot departed index)
      (Putting call rows slot departed (index + 1)) is_at (λ _. refl) s) (λ s j l low is-named. cont s j
      (λ z. let n : 0 < named shape words slot = subst (λ (y : ℕ). 0 < named shape words y) z is-named in omega arith)
      low) (λ s _ _. omega (arith, dep s, still s))
      (no_writer core words' map (held roles') id there (λ s j taken-by l low. cont s j
      (λ z. let n : 0 < held roles slot = subst (λ (y : ℕ). 0 < held roles y) z taken-by in omega arith) low))
      own)

  -- another word is swapped in for a key's word
  swap_step : (k x : ℕ) (c : Call) (y : Reply) {numbers : List ℕ} → k < shape.keys → call_key c ≡ k
      → reply_at (bound_of shape) c (state_of (map_after shape log) k) ≡ y
      → ShowsState shape words x (state_after (bound_of shape) c (state_of (map_after shape log) k))
      → ((s : ℕ) → taken s desk.place ≡ only (suc s) (name_number x))
      → ((s : ℕ) → name_number x ≡ suc s
      → arrivals_of x % 2 ^ 40 ≡ (get_or words (departures shape s) 0 + held roles s) % 2 ^ 40)
      → AreNumbers shape (map_after shape (log ++ entry 0 c y ∷ [])) numbers
      → Core shape (set words k x)
      (set roles id (Writer (record (swapped desk (get_or words k 0)) { numbers = numbers })))
      (log ++ entry 0 c y ∷ [])
  swap_step k x c y {numbers} near at_k replies shown took counted listed =
      let w : ℕ = get_or words k 0 in
      let desk' : Desk = record (swapped desk w) { numbers = numbers } in
      let map = map_after shape log in
      let e = entry 0 c y in
      let map' = map_after shape (log ++ e ∷ []) in
      let words' = set words k x in
      let roles' = set roles id (Writer desk') in
      let t = core.knows id (Writer desk) there in
      let same : state_of map' k ≡ state_after (bound_of shape) c (state_of map k)
      = rw (sym at_k) (state_same shape log e (rw at_k near)) in
      let still : (s : ℕ) → held roles' s ≡ held roles s
      = λ s. let y = total-set (holds s) roles id (Writer desk) (Writer desk') there in omega arith in
      let other : (i : ℕ) → i ≢ k → get_or words' i 0 ≡ get_or words i 0 = λ i ne. get_or-set_other words k i x 0 ne in
      let conts : (s i : ℕ) → get_or words' (content shape s i) 0 ≡ get_or words (content shape s i) 0
      = λ s i. other (content shape s i) (λ z. omega arith) in
      let left : (s : ℕ) → Left shape words words' map map' (held roles) (held roles') s
      = λ s. left_so shape words words' map map' (held roles) (held roles') s (λ i _. conts s i)
      (other (departures shape s) (λ z. omega arith)) (still s) in
      let own : AtDesk shape words' map' (held roles') desk' = record {
        place = tt;
        room = t.room;
        free = free_more shape words words' map map' (held roles) (held roles') desk.fresh (λ s _ _. left s) t.free;
        retired = λ i z at_i. ⊎_elim
            (λ (old : get_elem? desk.retired i ≡ some z). retired_more shape words words' map map' (held roles)
            (held roles') desk.retired (λ s _ _. left s) t.retired i z old)
            (λ (new : (name_number w ≡ suc z.slot) × (arrivals_of w ≡ z.arrivals)). (
              in_range shape words w (state_of map k) z.slot (core.shows k near) new.0,
              ap (λ (n : ℕ). n % 2 ^ 40) (sym new.1) ∙ core.counts k z.slot near new.0 ∙ sym (left z.slot).sum,
            ))
            (unnamed_at desk.retired w i z at_i);
        numbers = listed;
      } in
      key_step core (log ++ e ∷ []) id (Writer desk') k x near there refl refl (legal-more shape log e core.legal
      (sym (replies_so shape log c ∙ ap (λ (j : ℕ). reply_at (bound_of shape) c (state_of map j)) at_k ∙ replies)))
      (λ j ne. state_other shape log e j (λ z. ne (z ∙ at_k)))
      (rw same shown)
      (λ s l.
      omega (arith, total-append (λ (z : Retired). only s z.slot) desk.retired (unnamed w), unnamed_sum s w, took s))
      (λ s e. omega (arith, counted s e, still s)) (λ _ s _ _ _. still s)
      (no_writer core words' map' (held roles') id there (λ s i _ _ _. conts s i)) own

  -- a fill or an update swaps the word that names its slot in for its key's word
  pub publishes : (call : WriterCall) (rows : List Row) (slot departed index : ℕ)
      → desk.place ≡ Putting call rows slot departed index → 2 * length rows < index
      → Core shape (set words (key_of call) (naming slot departed))
      (set roles id (Writer (swapped desk (get_or words (key_of call) 0))))
      (log ++ entry 0 (call_of call) reply.Done ∷ [])
  publishes call rows slot departed index is_at past =
      let known = core.knows id (Writer desk) there in
      let map = map_after shape log in
      let putting = stands_at core id there is_at in
      let wants = putting.wants in
      let inside = putting.inside in let n = naming_is slot departed (omega arith) in
      let flat-size = length-row_words rows in
      swap_step (key_of call) (naming slot departed) (call_of call) reply.Done
      wants.near (key_same call) wants.done (subst (ShowsState shape words (naming slot departed)) (sym wants.leaves)
      (slot, n.0, inside, (wants.row_set, λ j low. putting.put j (omega arith))))
      (λ u. ap (taken u) is_at ∙ sym (ap (only (suc u)) n.0 ∙ only-suc u slot))
      (λ u z. let same : slot ≡ u = omega (arith, n.0) in rw (sym same)
      (omega (arith, n.1, putting.counted, putting.nobody)))
      (numbers_kept shape log (entry 0 (call_of call) reply.Done) desk.numbers
      (subst (λ (k : ℕ). k < shape.keys) (sym (key_same call)) wants.near)
      (rw (key_same call) (ap number_of wants.leaves))
      known.numbers)

  -- an eviction swaps the word of a hole, with the key's ticket number, in
  pub unpublishes : (at : ℕ) → Makes core id there (Leaving at)
  unpublishes at is_at =
      let known = core.knows id (Writer desk) there in
      let r = (stands_at core id there is_at).1 in
      let within = number_within shape log desk.numbers core.fits core.legal known.numbers at r.near in
      let hole = hole_is (number_at desk at) (omega arith) in
      swap_step at (hole_word (number_at desk at) false) (model.Evict at)
      reply.Evicted r.near refl (ap (reply_at (bound_of shape) (model.Evict at)) r.full)
      (subst (ShowsState shape words (hole_word (number_at desk at) false))
      (sym (ap (state_after (bound_of shape) (model.Evict at)) r.full))
      (hole.0, hole.1, hole.2 ∙ known.numbers.agree at r.near ∙ ap number_of r.full))
      (λ s. ap (taken s) is_at ∙ sym (ap (only (suc s)) hole.0 ∙ only-zero s)) (λ s e. absurd (omega (arith, hole.0)))
      (numbers_kept shape log (entry 0 (model.Evict at) reply.Evicted) desk.numbers r.near
      (cc (r.full))
      known.numbers)

  -- a cancel swaps the word of a hole, with the next number, in for its asked key's word, which names no slot
  pub withdraws : (at : ℕ) → Makes core id there (Withdrawing at)
  withdraws at is_at =
      let known = core.knows id (Writer desk) there in
      let w = get_or words at 0 in
      let p = stands_at core id there is_at in
      let listed : number_at desk at ≡ p.number = known.numbers.agree at p.near ∙ ap number_of p.asked in
      let x : ℕ = hole_word (number_at desk at + 1) false in
      let early = p.early in let hole = hole_is (number_at desk at + 1) (omega arith) in
      let test = lt-ltb p.number last_number early in
      let replies = ap (reply_at (bound_of shape) (model.Cancel at)) p.asked
      ∙ ap (λ b. cond {A = Reply} b reply.Cancelled reply.Worn) test in
      let leaves = ap (state_after (bound_of shape) (model.Cancel at)) p.asked
      ∙ ap (λ b. cond {A = KeyState} b (key.Hole (p.number + 1)) (key.Asked p.number)) test in
      let shown : ShowsState shape words w (key.Asked p.number)
      = subst (ShowsState shape words w) p.asked (core.shows at p.near) in
      let none : desk.retired ++ unnamed w ≡ desk.retired = cc (names_none w shown.0, append-nil desk.retired) in
      rw (sym none)
      (swap_step at x (model.Cancel at) reply.Cancelled p.near refl replies
      (subst (ShowsState shape words x) (sym leaves) (hole.0, hole.1, hole.2 ∙ ap (λ (m : ℕ). m + 1) listed))
      (λ s. ap (taken s) is_at ∙ sym (ap (only (suc s)) hole.0 ∙ only-zero s)) (λ s e. absurd (omega (arith, hole.0)))
      (numbers_next shape log (entry 0 (model.Cancel at) reply.Cancelled) desk.numbers p.near
      (ap number_of leaves ∙ ap (λ (m : ℕ). m + 1) (sym listed)) known.numbers))
