-- The writer puts a word, publishes, unpublishes and withdraws: a published slot has the next put number.
use Rattle.std.proofs.Common.{[], Bool, zero, List, ap, arith, cond, eq-eqb, false, get_or, get_or-set_other}
use Rattle.std.proofs.Common.{get_or-set_same, inl, inr, length-set, map, ne_eqb, refl, set, subst, suc, sym, true, ℕ}
use Rattle.std.proofs.Common.{⊎_elim, ◌++◌, ◌+◌, ◌<◌, ◌∙◌, ◌∷◌, ◌≡◌, ◌≢◌, ◌⊎◌, ◌≤◌, ◌*◌, length}
use Rattle.std.specs.Prelude.{Some}
use lib.ListN.{get_elem?}
use mathlib.Core.Logic.{dite}
use mathlib.Core.Option.{some, some-ne-none}
use native.Mathlib.Decide.{ℕ_discrete}
use Rattle.nr_model.specs.Histories.{Entry}
use Rattle.nr_model.specs.Maps.{call_key}
use Rattle.nr_model.specs.declared.rows.Row.{Row}
use Rattle.nr_words.specs.KeyWords.{hole_word, naming}
use Rattle.nr_words.specs.SetWords.{encode}
use Rattle.nr_core.proofs.Counting.{retired_once}
use Rattle.nr_core.proofs.KeyWords.{is_named, name_low, naming_is}
use Rattle.nr_core.proofs.Settle.{key_same}
use Rattle.nr_core.proofs.Sums.{below-change, below-same, only-other, only-same, only-suc, only-zero, term_le}
use Rattle.nr_core.proofs.Sums.{total-append}
use Rattle.nr_core.specs.Core.{ShowsState}
use Rattle.nr_core.specs.Roles.{grips, held, holds, taken}
use Rattle.nr_core.specs.declared.operation.Operation.TheVariants.{Store, Swap}
use Rattle.nr_core.specs.Slots.{content, name_number, SlotSpells}
use Rattle.nr_core.specs.States.{key_of, number_at}
use Rattle.nr_core.specs.Story.{call_of, entry}
use Rattle.nr_core.specs.Sums.{only}
use Rattle.nr_core.specs.Writer.{moved_to, swapped, unnamed, withdrawn}
use Rattle.nr_core.specs.declared.calls.WriterCall.{WriterCall}
use Rattle.nr_core.specs.declared.places.Place.TheVariants.{Leaving, Putting, Withdrawing}
use Rattle.nr_core.specs.declared.places.Retired.{Retired}
use Rattle.nr_core.specs.declared.roles.Desk.{Desk}
use Rattle.nr_core.specs.declared.roles.Grip.{Grip}
use Rattle.nr_core.specs.declared.roles.Grip.TheVariants.{Nothing, On}
use Rattle.nr_core.specs.declared.roles.Role.{Role}
use Rattle.nr_core.specs.declared.roles.Role.TheVariants.{Reader, Writer}
use Rattle.nr_core.specs.declared.shape.Shape.{Shape}
use Rattle.nr_core.specs.Puts.{put_count, put_number, puts_at}
use Rattle.nr_core.specs.Marks.{Marks, Past, gripped, with_name, without_name, set_in}
use Rattle.nr_core.specs.Marked.{CanMark, Desked, HoldNoOthers, Since, Sweeping, lives, Untouched}
use Rattle.nr_core.specs.MarkSteps.{KeepsMarks, PublishesMarks, UnpublishesMarks}
use Rattle.nr_core.proofs.ListPlaces.{at_maps, no_places, some_is}
use Rattle.nr_core.proofs.PutNumbers.{count_more, put_more, quiet_count, quiet_number, QuietEnd, nothing_ends}
use Rattle.nr_core.proofs.ReaderMarks.{names_behind, names_kept, contents_behind}
use Rattle.nr_core.proofs.LookMarks.{none_hold, desk_keep, desk_of, desk_stay, writer_step, Went}
use Rattle.nr_core.proofs.MarksSince.{SameContents}
use Rattle.nr_core.proofs.Frames.{spells_more, stands_at}
use Rattle.nr_core.proofs.Swap.{unnamed_sum}
use Rattle.nr_core.proofs.WordPlaces.{same_content}
use Rattle.nr_words.proofs.SetWordLemmas.{length-row_words}
use Rattle.nr_model.specs.declared.calls.Call.TheVariants as model
use Rattle.nr_model.specs.declared.states.KeyState.TheVariants as key
use Rattle.nr_model.specs.declared.calls.Reply.TheVariants as reply

-- who holds a slot is counted there
pub grips_it : (grip : Grip) (slot : ℕ) → gripped grip ≡ Some slot → grips slot grip ≡ 1
grips_it Nothing slot e = absurd (cc)
grips_it (On s rows sized) slot e = ap (only slot) (some_is s slot e) ∙ only-same slot

-- the word of a hole names no slot
hole_names_none : (number : ℕ) → name_number (hole_word number false) ≡ 0
hole_names_none number = name_low (hole_word number false) (λ z. omega arith)

-- how often a slot lives after another word was swapped in for a key's word
lives_swapped : (shape : Shape) (words : List ℕ) (desk : Desk) (k x : ℕ) → k < shape.keys → k < length words → (s : ℕ)
    → lives shape (set words k x) (swapped desk (get_or words k 0)) s
    ≡ lives shape words desk s + only (suc s) (name_number x)
lives_swapped shape words desk k x near inside s =
    let word : ℕ = get_or words k 0 in
    let change = below-change (λ j. only (suc s) (name_number (get_or (set words k x) j 0)))
    (λ j. only (suc s) (name_number (get_or words j 0))) shape.keys k near
    (λ j ne. ap (λ (y : ℕ). only (suc s) (name_number y)) (get_or-set_other words k j x 0 ne)) in
    let more = total-append (λ (y : Retired). only s y.slot) desk.retired (unnamed word) in
    omega (arith, ap (λ (y : ℕ). only (suc s) (name_number y)) (get_or-set_same words k x 0 inside), unnamed_sum s word)

abbrev index : List ℕ → ℕ → ℕ
index l i = get_or l i 0

abbrev flag : List Bool → ℕ → Bool
flag l i = get_or l i false

-- a slot into which a set was put has one that was not reaped
cleared : (l : List Bool) (i : ℕ) → flag (set l i false) i ≡ false
cleared [] i = refl
cleared (b ∷ l) zero = refl
cleared (b ∷ l) (suc i) = cleared l i

module _ {A : Type 0} (role : A → Role) (marks : A → Marks) where
  -- the key n names the slot t, which has the next put number
  desk_put : (shape : Shape) (words words' : List ℕ) (callers : List A) (log log' : List Entry) (desk desk' : Desk)
      (mine : Marks) (n t : ℕ)
      → Desked role marks shape words callers log desk mine → n < shape.keys → t < shape.slots
      → name_number (get_or words' n 0) ≡ suc t
      → ((i : ℕ) → i ≢ n → name_number (get_or words' i 0) ≡ name_number (get_or words i 0))
      → lives shape words desk t ≡ 0
      → ((place reader : ℕ) (who : A) (grip : Grip) → get_elem? callers place ≡ some who → role who ≡ Reader reader grip
      → gripped grip ≡ Some t → ⊥)
      → put_number log' n ≡ put_count log → ((i : ℕ) → i ≢ n → put_number log' i ≡ put_number log i)
      → put_count log' ≡ suc (put_count log)
      → ((s : ℕ) → s < shape.slots → 0 < lives shape words' desk' s → (s ≡ t) ⊎ (0 < lives shape words desk s))
      → Sweeping role marks callers desk' [] desk'.place
      → (rows : List Row) → SlotSpells shape words' t rows → ((s : ℕ) → s ≢ t → Untouched s desk.place)
      → SameContents shape words words'
      → Desked role marks shape words' callers log' desk' (with_name mine n t (put_count log) rows)
  desk_put shape words words' callers log log' desk desk' mine n t own near in_range here others dead nobody number
      numbers many live sweep rows spelled before contents =
      let wide = own.wide.0 in let wide' = own.wide.1 in
      let puts' = set mine.puts t (put_count log) in
      let put_here : get_or puts' t 0 ≡ put_count log = get_or-set_same mine.puts t (put_count log) 0 (omega arith) in
      let put_other : (s : ℕ) → s ≢ t → get_or puts' s 0 ≡ get_or mine.puts s 0
      = λ s ne. get_or-set_other mine.puts t s (put_count log) 0 ne in
      let old : (s : ℕ) → s < shape.slots → s ≢ t → 0 < lives shape words' desk' s → 0 < lives shape words desk s
      = λ s l ne on. ⊎_elim (λ e. absurd (ne e)) (λ o. o) (live s l on) in
      record {
        wide = (length-set mine.names n (suc t) ∙ wide, length-set mine.puts t (put_count log) ∙ wide');
        names = λ i l. dite (ℕ_discrete i n)
            (λ e. cc (get_or-set_same mine.names n (suc t) 0 (omega arith)))
            (λ ne. get_or-set_other mine.names n i (suc t) 0 ne ∙ own.names i l ∙ sym (others i ne));
        puts = λ i s l e. dite (ℕ_discrete i n)
            (λ z.
            let same : s ≡ t
            = omega (arith, ap (λ (y : ℕ). name_number (get_or words' y 0)) (sym z) ∙ e) in (
              ap (index puts') same ∙ put_here ∙ sym number ∙ ap (put_number log') (sym z),
              cc (cleared mine.reaped t),
            ))
            (λ ne. let e' : name_number (get_or words i 0) ≡ suc s = sym (others i ne) ∙ e in
            let apart : s ≢ t
            = λ z. absurd (omega (arith, is_named shape words i t l (e' ∙ ap suc z))) in
            let kept = own.puts i s l e' in (
              put_other s apart ∙ kept.0 ∙ sym (numbers i ne),
              get_or-set_other mine.reaped t s false false apart ∙ kept.1,
            ));
        held = λ place reader s who grip there is on. dite (ℕ_discrete s t)
            (λ z. absurd (nobody place reader who grip there is (on ∙ ap (λ (y : ℕ). Some y) z)))
            (λ ne. let kept = own.held place reader s who grip there is on in
            (put_other s ne ∙ kept.0, get_or-set_other mine.reaped t s false false ne ∙ kept.1));
        fresh = λ s l on. dite (ℕ_discrete s t)
            (λ z. let p : get_or puts' s 0 ≡ put_count log = ap (index puts') z ∙ put_here in omega arith)
            (λ ne. let f = own.fresh s l (old s l ne on) in let p = put_other s ne in omega arith);
        apart = λ s a l b on one e. dite (ℕ_discrete s t)
            (λ z.
            let p : get_or puts' s 0 ≡ put_count log = ap (index puts') z ∙ put_here in
            dite (ℕ_discrete a t) (λ y. z ∙ sym y)
            (λ ne. absurd
            (let f = own.fresh a b (old a b ne one) in let g = put_other a ne in omega arith)))
            (λ ne.
            let g = put_other s ne in
            dite (ℕ_discrete a t)
            (λ y. absurd
            (omega (arith, ap (index puts') y ∙ put_here, own.fresh s l (old s l ne on))))
            (λ na. own.apart s a l b (old s l ne on) (old a b na one) (sym g ∙ e ∙ put_other a na)));
        sets = λ s l _. dite (ℕ_discrete s t)
            (λ z. subst (SlotSpells shape words' s) (ap (λ (i : ℕ). get_or (set mine.sets t rows) i []) (sym z))
            (rw z
            (subst (SlotSpells shape words' t) (sym (get_or-set_same mine.sets t rows [] (omega (arith, own.many))))
            spelled)))
            (λ ne. subst (SlotSpells shape words' s) (sym (get_or-set_other mine.sets t s rows [] ne))
            (spells_more shape words words' s (set_in mine s) (contents s) (own.sets s l (before s ne))));
        many = length-set mine.sets t rows ∙ own.many;
        noted = no_places (Since role marks callers);
        sweep = sweep;
      }

  module _ (shape : Shape) (id : ℕ) (me : A) (known : List Past) (desk : Desk) where
    pub puts_marked : (call : WriterCall) (rows : List Row) (slot departed at : ℕ)
        → desk.place ≡ Putting call rows slot departed at → at ≤ 2 * length rows → role me ≡ Writer desk
        → CanMark role marks shape id me known (Store (content shape slot at) (get_or (encode rows) at 0))
        (λ word after entries. (after ≡ Writer (moved_to desk (Putting call rows slot departed (at + 1))))
        × (entries ≡ []))
        (KeepsMarks (marks me))
    puts_marked call rows slot departed at is_at more was words callers log core m once there since after entries ans =
        let i : ℕ = content shape slot at in
        let x : ℕ = get_or (encode rows) at 0 in
        let desk' = moved_to desk (Putting call rows slot departed (at + 1)) in
        let own = desk_of id m there was in
        let roles = map role callers in
        let there' : get_elem? roles id ≡ some (Writer desk) = at_maps role callers id me there ∙ ap some was in
        let p = stands_at core id there' is_at in
        writer_step core m there was ans.0 (marks me)
        [] (no_places (Since role marks callers)) (λ place note here. inl here) (desk_stay entries own
        (names_behind words shape.keys i x (omega arith)) (subst (QuietEnd log) (sym ans.1) (nothing_ends log))
        (λ s. omega arith) own.noted tt
        (λ s _ untouched. (
          subst (Untouched s) (sym is_at) (λ e. absurd (let none = untouched e in omega arith)),
          λ index low. get_or-set_other words i (content shape s index) x 0
              (λ e. absurd
              (omega (arith, untouched (sym (same_content shape s index slot at (omega arith) (omega arith) e))))),
        )))
        (refl, refl)

    pub publishes_marked : (call : WriterCall) (rows : List Row) (slot departed at : ℕ)
        → desk.place ≡ Putting call rows slot departed at → 2 * length rows < at → role me ≡ Writer desk
        → CanMark role marks shape id me known (Swap (key_of call) (naming slot departed))
        (λ word after entries. (after ≡ Writer (swapped desk word))
        × (entries ≡ entry 0 (call_of call) reply.Done ∷ [])) (PublishesMarks (marks me) (key_of call) slot rows)
    publishes_marked call rows slot departed at is_at whole was words callers log core m once there since after entries
        ans =
        let k : ℕ = key_of call in
        let word : ℕ = get_or words k 0 in
        let x : ℕ = naming slot departed in
        let words' = set words k x in
        let desk' = swapped desk word in
        let e = entry 0 (call_of call) reply.Done in
        let own = desk_of id m there was in let roles = map role callers in
        let at' : get_elem? roles id ≡ some (Writer desk) = at_maps role callers id me there ∙ ap some was in
        let p = stands_at core id at' is_at in
        let near : k < shape.keys = p.wants.near in
        let in_range : slot < shape.slots = p.inside in
        let nobody : held roles slot ≡ 0 = p.nobody in
        let name = (naming_is slot departed (omega arith)).0 in
        let one = only-same slot in
        let took : taken slot desk.place ≡ only slot slot = ap (taken slot) is_at in
        let once_there = retired_once shape words roles log core id desk at' slot in_range in
        let here : get_or words' k 0 ≡ x = get_or-set_same words k x 0 (omega arith) in
        let other : (i : ℕ) → i ≢ k → get_or words' i 0 ≡ get_or words i 0
        = λ i ne. get_or-set_other words k i x 0 ne in
        let contents = contents_behind shape words k x near in
        let size = length-row_words rows in
        let spells = spells_more shape words words' slot rows (contents slot)
        (p.wants.row_set, λ index low. p.put index (omega arith)) in
        let yes : puts_at k e ≡ true = eq-eqb (call_key (call_of call)) k (key_same call) in
        let no : (i : ℕ) → i ≢ k → puts_at i e ≡ false
        = λ i ne. ne_eqb (call_key (call_of call)) i (λ z. ne (sym z ∙ key_same call)) in
        let n : ℕ = put_count log in
        let many : put_count (log ++ e ∷ []) ≡ suc n = let z = count_more log e in omega arith in
        writer_step core m there was ans.0 (with_name (marks me) k slot n rows)
        [] (no_places (Since role marks callers)) (λ place note here. absurd (some-ne-none note (sym here)))
        (rw ans.1
        (desk_put shape words words' callers log (log ++ e ∷ []) desk desk' (marks me) k slot own near in_range
        (ap name_number here ∙ name) (λ i ne. ap name_number (other i ne)) (omega arith)
        (λ place reader who grip is_there is on.
        let l
        = term_le (holds slot) roles place (Reader reader grip)
        (at_maps role callers place who is_there ∙ ap some is) in
        absurd (omega (arith, grips_it grip slot on)))
        (put_more log e k ∙ ap (λ b. cond b n (put_number log k)) yes)
        (λ i ne. put_more log e i ∙ ap (λ b. cond b n (put_number log i)) (no i ne))
        many
        (λ s l on.
        let living = lives_swapped shape words desk k x near (omega arith) s in
        let named : only (suc s) (name_number x) ≡ only s slot = ap (only (suc s)) name ∙ only-suc s slot in
        dite (ℕ_discrete s slot) (λ z. inl z)
        (λ ne. let none = only-other s slot (λ z. ne (sym z)) in inr (omega arith)))
        (none_hold role marks callers desk') rows spells
        (λ s ne. subst (Untouched s) (sym is_at) (λ e. absurd (ne (sym e)))) contents)) (
          n,
          ap (λ l. put_count (log ++ l)) ans.1 ∙ many,
          get_or-set_same (marks me).puts slot n 0 (omega arith),
          refl,
          refl,
        )

    pub unpublishes_marked : (k : ℕ) → desk.place ≡ Leaving k → role me ≡ Writer desk
        → CanMark role marks shape id me known (Swap k (hole_word (number_at desk k) false))
        (Went shape desk (Leaving k)) (UnpublishesMarks (marks me) k)
    unpublishes_marked k is_at was words callers log core m once there since after entries ans =
        let word : ℕ = get_or words k 0 in
        let x : ℕ = hole_word (number_at desk k) false in
        let words' = set words k x in
        let desk' = swapped desk word in
        let e = entry 0 (model.Evict k) reply.Evicted in
        let own = desk_of id m there was in let roles = map role callers in
        let at' : get_elem? roles id ≡ some (Writer desk) = at_maps role callers id me there ∙ ap some was in
        let p = stands_at core id at' is_at in
        let reads = p.1 in let near : k < shape.keys = reads.near in let wide = core.wide in let wide' = own.wide.0 in
        let quiet : (marks me).polls ≡ [] = subst (Sweeping role marks callers desk (marks me).polls) is_at own.sweep in
        let here = ap name_number (get_or-set_same words k x 0 (omega arith)) ∙ hole_names_none (number_at desk k) in
        let other : (i : ℕ) → i ≢ k → get_or words' i 0 ≡ get_or words i 0
        = λ i ne. get_or-set_other words k i x 0 ne in
        writer_step core m there was
        ans.0 (without_name (marks me) k) [] (no_places (Since role marks callers)) (λ place note here. inl here)
        (rw ans.1 (desk_keep own (length-set (marks me).names k 0 ∙ wide') (λ i l. dite (ℕ_discrete i k)
        (λ z. cc (get_or-set_same (marks me).names k 0 0 (omega arith)))
        (λ ne. get_or-set_other (marks me).names k i 0 0 ne ∙ own.names i l ∙ sym (ap name_number (other i ne))))
        (λ i s l z. dite (ℕ_discrete i k)
        (λ y. absurd
        (omega (arith, ap (λ (y : ℕ). name_number (get_or words' y 0)) y ∙ here)))
        (λ ne. ap name_number (sym (other i ne)) ∙ z))
        (λ i. quiet_number log e i refl) (quiet_count log e refl)
        (λ s l on.
        let none = ap (only (suc s)) (hole_names_none (number_at desk k)) ∙ only-zero s in
        omega (arith, lives_swapped shape words desk k x near (omega arith) s))
        own.noted (subst (HoldNoOthers role marks callers desk') (sym quiet) (none_hold role marks callers desk'))
        (λ s _ _. (subst (Untouched s) (sym is_at) tt, contents_behind shape words k x near s))))
        (refl, refl)

    -- an asked key named no slot, and names none after
    pub withdraws_marked : (k : ℕ) → desk.place ≡ Withdrawing k → role me ≡ Writer desk
        → CanMark role marks shape id me known (Swap k (hole_word (number_at desk k + 1) false))
        (Went shape desk (Withdrawing k)) (KeepsMarks (marks me))
    withdraws_marked k is_at was words callers log core m once there since after entries ans =
        let x : ℕ = hole_word (number_at desk k + 1) false in
        let words' = set words k x in
        let desk' = withdrawn desk k in
        let e = entry 0 (model.Cancel k) reply.Cancelled in
        let own = desk_of id m there was in let roles = map role callers in
        let at' : get_elem? roles id ≡ some (Writer desk) = at_maps role callers id me there ∙ ap some was in
        let p = stands_at core id at' is_at in
        let near : k < shape.keys = p.near in let wide = core.wide in
        let quiet : (marks me).polls ≡ [] = subst (Sweeping role marks callers desk (marks me).polls) is_at own.sweep in
        let shown : ShowsState shape words (get_or words k 0) (key.Asked p.number)
        = subst (ShowsState shape words (get_or words k 0)) p.asked (core.shows k near) in
        let same = names_kept words k x (omega arith) (hole_names_none (number_at desk k + 1) ∙ sym shown.0) in
        writer_step core m there was ans.0 (marks me)
        [] (no_places (Since role marks callers)) (λ place note here. inl here) (rw ans.1 (desk_keep own own.wide.0
        (λ i l. own.names i l ∙ sym (same i)) (λ i s l z. sym (same i) ∙ z) (λ i. quiet_number log e i refl)
        (quiet_count log e refl)
        (λ s l on.
        let b
        = below-same (λ j. only (suc s) (name_number (get_or words' j 0)))
        (λ j. only (suc s) (name_number (get_or words j 0))) shape.keys
        (λ j _. ap (only (suc s)) (same j)) in
        omega arith)
        own.noted (subst (HoldNoOthers role marks callers desk') (sym quiet) (none_hold role marks callers desk'))
        (λ s _ _. (subst (Untouched s) (sym is_at) tt, contents_behind shape words k x near s))))
        (refl, refl)
