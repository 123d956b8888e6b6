-- What a step leaves of the notes of readers and of the writer's lists: of what was known since then (since), of a desk
-- whose callers change (desk_frame), and of all marks after a writer's or a reader's step.
use Rattle.std.proofs.Common.{List, [], ap, arith, get_or, map, refl, set, subst, suc, sym, ℕ, ⊎_elim, ◌++◌, ◌<◌, ◌∙◌}
use Rattle.std.proofs.Common.{◌∷◌, ◌≡◌, ◌≢◌, ◌≤◌, ◌*◌}
use Rattle.std.specs.Prelude.{Some}
use lib.ListN.{get_elem?}
use mathlib.Core.Logic.{dite}
use mathlib.Core.Option.{some, some-injective}
use native.Mathlib.Decide.{ℕ_discrete}
use Rattle.nr_model.specs.Histories.{Entry}
use Rattle.nr_core.proofs.Counting.{retired_inside, retired_once}
use Rattle.nr_core.proofs.Sums.{at_set, below-same, here_after, terms_le}
use Rattle.nr_core.specs.Core.{Core}
use Rattle.nr_core.specs.Roles.{is_writer, retirements}
use Rattle.nr_core.proofs.Frames.{spells_more}
use Rattle.nr_core.specs.Slots.{bound_of, content, name_number, named}
use Rattle.nr_core.specs.Sums.{only}
use Rattle.nr_core.specs.declared.places.Place.{Place}
use Rattle.nr_core.specs.declared.places.Place.TheVariants.{Idle, Searching}
use Rattle.nr_core.specs.declared.roles.Desk.{Desk}
use Rattle.nr_core.specs.declared.roles.Grip.{Grip}
use Rattle.nr_core.specs.declared.roles.Role.{Role}
use Rattle.nr_core.specs.declared.roles.Role.TheVariants.{Reader, Writer}
use Rattle.nr_core.specs.declared.shape.Shape.{Shape}
use Rattle.nr_core.specs.Puts.{put_count, put_number}
use Rattle.nr_core.specs.Marks.{Marks, Past, LoggedLoad, gripped, set_in, with_loads}
use Rattle.nr_core.specs.Marked.{Keeps, Desked, Evolves, HoldNoOthers, KnowsMarks, Marked, Since, Sweeping, lives}
use Rattle.nr_core.proofs.ListPlaces.{at_left, at_maps, set_other}

-- the content words of the slots stay
abbrev pub SameContents : Shape → List ℕ → List ℕ → Type 0
SameContents shape words words' =
    (slot index : ℕ) → index ≤ 2 * bound_of shape
    → get_or words' (content shape slot index) 0 ≡ get_or words (content shape slot index) 0

module _ {A : Type 0} (role : A → Role) (marks : A → Marks) where
  pub since_set : (callers : List A) (id : ℕ) (before after : A) (old : Past) → get_elem? callers id ≡ some before
      → Evolves role marks before after → Since role marks callers old → Since role marks (set callers id after) old
  since_set callers id before after old at step s = dite (ℕ_discrete s.place id)
      (λ e.
      let same : before ≡ s.who = some-injective before s.who (sym at ∙ ap (get_elem? callers) (sym e) ∙ s.there) in
      let t = step old.reader s.grip (ap role same ∙ s.is) in
      let least = s.least in
      let acts : (marks before).acts ≡ (marks s.who).acts = ap (λ (y : A). (marks y).acts) same in
      record {
        place = id;
        who = after;
        there = here_after callers id before after at;
        grip = t.0;
        is = t.1;
        least = ⊎_elim (λ (q : (gripped t.0 ≡ gripped s.grip) × ((marks after).acts ≡ (marks before).acts)
            × ((marks after).put ≡ (marks before).put)). let a = q.1 in omega arith)
            (λ (q : (marks before).acts < (marks after).acts). omega arith)
            t.2;
        same = λ eq. ⊎_elim
            (λ (q : (gripped t.0 ≡ gripped s.grip) × ((marks after).acts ≡ (marks before).acts)
            × ((marks after).put ≡ (marks before).put)).
            let b = s.same (sym acts ∙ sym q.1 ∙ eq) in (q.0 ∙ b.0, q.2 ∙ ap (λ (y : A). (marks y).put) same ∙ b.1))
            (λ (q : (marks before).acts < (marks after).acts). absurd (omega arith)) t.2;
      })
      (λ ne. search (set_other callers id s.place after s.who ne s.there, s))

  pub since_snoc : (callers : List A) (more : A) (old : Past) → Since role marks callers old
      → Since role marks (callers ++ more ∷ []) old
  since_snoc callers more old s = search (at_left callers (more ∷ []) s.place s.who s.there, s)

  -- a retired slot has no other place
  pub rests : (shape : Shape) (words : List ℕ) (callers : List A) (log : List Entry) (id : ℕ) (me : A) (desk : Desk)
      (s : ℕ)
      → Core shape words (map role callers) log → get_elem? callers id ≡ some me → role me ≡ Writer desk
      → 0 < retirements s desk.retired
      → (s < shape.slots) × (named shape words s ≡ 0) × (retirements s desk.retired ≡ 1)
  rests shape words callers log id me desk s core at is l =
      let at' : get_elem? (map role callers) id ≡ some (Writer desk) = at_maps role callers id me at ∙ ap some is in
      let near = retired_inside shape words (map role callers) log core id desk at' s l in
      let once = retired_once shape words (map role callers) log core id desk at' s near in
      (near, omega arith, omega arith)

  -- one of the callers is that reader and holds the slot
  abbrev pub HasHolder : List A → ℕ → ℕ → Type 0
  HasHolder callers reader slot =
      (place : ℕ) × (who : A) × (grip : Grip) × (get_elem? callers place ≡ some who) × (role who ≡ Reader reader grip)
      × (gripped grip ≡ Some slot)

  -- who holds has the slot's put number, and held a retired slot before
  abbrev pub HoldersStay : List A → List A → Desk → Marks → Type 0
  HoldersStay callers callers' desk mine =
      (place reader slot : ℕ) (who : A) (grip : Grip) → get_elem? callers' place ≡ some who
      → role who ≡ Reader reader grip → gripped grip ≡ Some slot
      → Keeps mine slot (marks who).put × (0 < retirements slot desk.retired → HasHolder callers reader slot)

  -- so where one caller changes, and those that do not hold as before
  pub holders_stay : {shape : Shape} {words : List ℕ} {callers : List A} {log : List Entry} {desk : Desk} {mine : Marks}
      → Desked role marks shape words callers log desk mine → (id : ℕ) (next : A)
      → ((reader slot : ℕ) (grip : Grip) → role next ≡ Reader reader grip → gripped grip ≡ Some slot
      → Keeps mine slot (marks next).put × (0 < retirements slot desk.retired → HasHolder callers reader slot))
      → HoldersStay callers (set callers id next) desk mine
  holders_stay {callers = callers} t id next own place reader slot who grip there reads on = ⊎_elim
      (λ (z : (place ≡ id) × (next ≡ who)). rw (sym z.1) (own reader slot grip (ap role z.1 ∙ reads) on))
      (λ (z : (place ≢ id) × (get_elem? callers place ≡ some who)).
      (t.held place reader slot who grip z.1 reads on, λ _. (place, who, grip, z.1, reads, on)))
      (at_set callers id place next who there)

  hold_no_others : (callers callers' : List A) (desk : Desk) (mine : Marks) → HoldersStay callers callers' desk mine
      → (polls : List Past) → HoldNoOthers role marks callers desk polls → HoldNoOthers role marks callers' desk polls
  hold_no_others callers callers' desk mine stay polls other at note here place slot who grip there is holds rests =
      let h = (stay place note.reader slot who grip there is holds).1 rests in
      other at note here h.0 slot h.1 h.2 h.3 h.4 h.5 rests

  sweeping_frame : (callers callers' : List A) (desk : Desk) (mine : Marks) → HoldersStay callers callers' desk mine
      → (polls : List Past) (p : Place) → Sweeping role marks callers desk polls p
      → Sweeping role marks callers' desk polls p
  sweeping_frame callers callers' desk mine stay polls Idle t = hold_no_others callers callers' desk mine stay polls t
  sweeping_frame callers callers' desk mine stay polls (Searching a b p) t = (
    hold_no_others callers callers' desk mine stay polls t.0,
    λ each. let sweeps = t.1 each in
        assumption (hold_no_others callers callers' desk mine stay polls sweeps.other, sweeps),
  )
  sweeping_frame callers callers' desk mine stay polls other t = t

  pub desk_frame : (shape : Shape) (words words' : List ℕ) (callers callers' : List A) (log log' : List Entry)
      (desk : Desk) (mine : Marks)
      → ((key : ℕ) → key < shape.keys → name_number (get_or words' key 0) ≡ name_number (get_or words key 0))
      → ((key : ℕ) → put_number log' key ≡ put_number log key) → put_count log' ≡ put_count log
      → ((old : Past) → Since role marks callers old → Since role marks callers' old)
      → HoldersStay callers callers' desk mine → SameContents shape words words'
      → Desked role marks shape words callers log desk mine → Desked role marks shape words' callers' log' desk mine
  desk_frame shape words words' callers callers' log log' desk mine names puts many since stay contents t = record {
    wide = t.wide;
    names = λ key l. t.names key l ∙ sym (names key l);
    puts = λ key slot l e. let kept = t.puts key slot l (sym (names key l) ∙ e) in (kept.0 ∙ sym (puts key), kept.1);
    held = λ place reader slot who grip there is holds. (stay place reader slot who grip there is holds).0;
    fresh = λ slot l on. let f = t.fresh slot l (let e = lives_same slot in omega arith) in omega arith;
    apart = λ slot other l b on one e. t.apart slot other l b (let g = lives_same slot in omega arith)
        (let g = lives_same other in omega arith) e;
    sets = λ slot l untouched. spells_more shape words words' slot (set_in mine slot) (contents slot)
        (t.sets slot l untouched);
    many = t.many;
    noted = λ at old e. since old (t.noted at old e);
    sweep = sweeping_frame callers callers' desk mine stay mine.polls desk.place t.sweep;
  }
    where
      lives_same : (slot : ℕ) → lives shape words' desk slot ≡ lives shape words desk slot
      lives_same slot =
          let b
          = below-same (λ key. only (suc slot) (name_number (get_or words' key 0)))
          (λ key. only (suc slot) (name_number (get_or words key 0))) shape.keys
          (λ key l. ap (only (suc slot)) (names key l)) in
          omega arith

  -- a desk knows nothing of the loads of readers' words
  pub desk_loads : (shape : Shape) (words : List ℕ) (callers : List A) (log : List Entry) (desk : Desk) (mine : Marks)
      (loads : List LoggedLoad)
      → Desked role marks shape words callers log desk mine
      → Desked role marks shape words callers log desk (with_loads mine loads)
  desk_loads shape words callers log desk mine loads t = assumption t

  pub knows_loads : (shape : Shape) (words : List ℕ) (callers : List A) (log : List Entry) (r : Role) (mine : Marks)
      (loads : List LoggedLoad)
      → KnowsMarks role marks shape words callers log r mine
      → KnowsMarks role marks shape words callers log r (with_loads mine loads)
  knows_loads shape words callers log (Writer desk) mine loads t = desk_loads shape words callers log desk mine loads t
  knows_loads shape words callers log other mine loads t = t

  pub knows_frame : (shape : Shape) (words words' : List ℕ) (callers callers' : List A) (log log' : List Entry)
      (r : Role) (mine : Marks)
      → ((desk : Desk) → r ≡ Writer desk → Desked role marks shape words callers log desk mine
      → Desked role marks shape words' callers' log' desk mine)
      → KnowsMarks role marks shape words callers log r mine → KnowsMarks role marks shape words' callers' log' r mine
  knows_frame shape words words' callers callers' log log' (Writer desk) mine writes t = writes desk refl t
  knows_frame shape words words' callers callers' log log' other mine writes t = t

  not_both : (r : Role) (desk : Desk) (c : ℕ) (x : Grip) → r ≡ Writer desk → r ≡ Reader c x → ⊥
  not_both r desk c x writes reads = cc

  pub evolves_writer : (me next : A) (desk : Desk) → role me ≡ Writer desk → Evolves role marks me next
  evolves_writer me next desk was c x e = absurd (not_both (role me) desk c x was e)

  -- a caller's step, after which it knows what it should, and so does each other caller; the writer goes on as one
  pub set_marked : (shape : Shape) (words words' : List ℕ) (callers : List A) (log log' : List Entry) (id : ℕ)
      (me next : A)
      → Marked role marks shape words callers log → get_elem? callers id ≡ some me
      → ((desk : Desk) → role me ≡ Writer desk → (desk' : Desk) × (role next ≡ Writer desk'))
      → KnowsMarks role marks shape words' (set callers id next) log' (role next) (marks next)
      → ((j : ℕ) (u : A) (desk : Desk) → j ≢ id → get_elem? callers j ≡ some u → role u ≡ Writer desk
      → Desked role marks shape words callers log desk (marks u)
      → Desked role marks shape words' (set callers id next) log' desk (marks u))
      → Marked role marks shape words' (set callers id next) log'
  set_marked shape words words' callers log log' id me next m at goes_on own others = record {
    each = λ j u there. ⊎_elim
        (λ (z : (j ≡ id) × (next ≡ u)). rw (sym z.1) own)
        (λ (z : (j ≢ id) × (get_elem? callers j ≡ some u)). knows_frame shape words words' callers (set callers id next)
        log log' (role u) (marks u) (λ desk is. others j u desk z.0 z.1 is) (m.each j u z.1))
        (at_set callers id j next u there);
    writer = let w = m.writer in dite (ℕ_discrete w.place id)
        (λ e.
        let now
        = goes_on w.desk (ap role (some-injective me w.who (sym at ∙ ap (get_elem? callers) (sym e) ∙ w.there)) ∙ w.is)
        in
        record { place = id; who = next; desk = now.0; there = here_after callers id me next at; is = now.1 })
        (λ ne. search (set_other callers id w.place next w.who ne w.there, w));
  }

  -- a writer's step: what its new desk knows of the others as they are
  pub marked_writer : (shape : Shape) (words words' : List ℕ) (callers : List A) (log log' : List Entry) (id : ℕ)
      (me next : A) (desk desk' : Desk)
      → Core shape words (map role callers) log → get_elem? callers id ≡ some me → role me ≡ Writer desk
      → role next ≡ Writer desk'
      → Marked role marks shape words callers log → Desked role marks shape words' callers log' desk' (marks next)
      → Marked role marks shape words' (set callers id next) log'
  marked_writer shape words words' callers log log' id me next desk desk' core at was is m own =
      set_marked shape words words' callers log log' id me next m at (λ _ _. (desk', is))
      (rw is (desk_frame shape words' words' callers (set callers id next) log' log' desk' (marks next) (λ _ _. refl)
      (λ _. refl) refl (λ old. since_set callers id me next old at (evolves_writer me next desk was))
      (holders_stay own id next (λ reader slot grip reads _. absurd (not_both (role next) desk' reader grip is reads)))
      (λ _ _ _. refl) own))
      (λ j u desk'' ne there writes _. absurd (omega (
        arith,
        terms_le is_writer (map role callers) id j (Writer desk) (Writer desk'') ne
            (at_maps role callers id me at ∙ ap some was) (at_maps role callers j u there ∙ ap some writes),
        core.one,
      )))

  -- a reader's step
  pub marked_reader : (shape : Shape) (words words' : List ℕ) (callers : List A) (log log' : List Entry) (id : ℕ)
      (me next : A) (c : ℕ) (x y : Grip)
      → get_elem? callers id ≡ some me → role me ≡ Reader c x → role next ≡ Reader c y → Evolves role marks me next
      → ((key : ℕ) → key < shape.keys → name_number (get_or words' key 0) ≡ name_number (get_or words key 0))
      → ((key : ℕ) → put_number log' key ≡ put_number log key) → put_count log' ≡ put_count log
      → ((j slot : ℕ) (u : A) (desk : Desk) → get_elem? callers j ≡ some u → role u ≡ Writer desk
      → Desked role marks shape words callers log desk (marks u) → gripped y ≡ Some slot
      → Keeps (marks u) slot (marks next).put × (0 < retirements slot desk.retired → gripped x ≡ Some slot))
      → SameContents shape words words' → Marked role marks shape words callers log
      → Marked role marks shape words' (set callers id next) log'
  marked_reader shape words words' callers log log' id me next c x y at was is step names puts many holds contents m =
      set_marked shape words words' callers log log' id me next m at
      (λ desk writes. absurd (not_both (role me) desk c x writes was))
      (rw is (subst (λ r. KnowsMarks role marks shape words callers log r (marks me)) was (m.each id me at)))
      (λ j u desk ne there writes t. desk_frame shape words words' callers (set callers id next) log log' desk (marks u)
      names puts many (λ old. since_set callers id me next old at step)
      (holders_stay t id next (λ reader slot grip reads on.
      let both : Reader c y ≡ Reader reader grip = sym is ∙ reads in
      let number : c ≡ reader = cc in
      let held : gripped y ≡ Some slot = cc in
      let h = holds j slot u desk there writes t held in
      (h.0, λ l. (id, me, x, at, was ∙ ap (λ (b : ℕ). Reader b x) number, h.1 l)))) contents t)
