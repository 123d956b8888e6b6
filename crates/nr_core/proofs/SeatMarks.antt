-- The marks of the first caller, of one more caller, and of one whose view changes beside its role.
use Rattle.std.proofs.Common.{List, [], ap, arith, get_or, refl, set, subst, suc, sym, zero, ℕ, ⊎_elim, ◌++◌, ◌<◌, ◌∙◌}
use Rattle.std.proofs.Common.{◌∷◌, ◌≡◌, ◌⊎◌}
use Rattle.std.proofs.lemmas.List.{length-replicate}
use Rattle.std.specs.Prelude.{None, Some, replicate}
use lib.ListN.{get_elem?}
use mathlib.Core.Option.{some, some-injective, some-ne-none}
use Rattle.nr_model.specs.Histories.{Entry}
use Rattle.nr_core.proofs.Sums.{at_snoc}
use Rattle.nr_core.specs.Roles.{is_reader}
use Rattle.nr_core.specs.Slots.{name_number, content, SlotSpells}
use Rattle.nr_core.specs.States.{opening_desk}
use Rattle.nr_core.specs.declared.roles.Desk.{Desk}
use Rattle.nr_core.specs.declared.roles.Grip.{Grip}
use Rattle.nr_core.specs.declared.roles.Role.{Role}
use Rattle.nr_core.specs.declared.roles.Role.TheVariants.{Note, Reader, Writer}
use Rattle.nr_core.specs.declared.shape.Shape.{Shape}
use Rattle.nr_core.specs.Marks.{Marks, gripped, opening_marks, with_loads}
use Rattle.nr_core.specs.Marked.{Desked, Evolves, KnowsMarks, Marked, Since}
use Rattle.nr_core.proofs.Opening.{none_named}
use Rattle.nr_core.proofs.ListPlaces.{at_left, no_places}
use Rattle.nr_core.proofs.MarksSince.{desk_frame, knows_frame, knows_loads, set_marked, since_set, since_snoc}
use Rattle.nr_core.proofs.MarksSince.{holders_stay}
use Rattle.nr_model.specs.declared.rows.Row.{Row}

blanks : {A : Type 0} (none : A) (n i : ℕ) → get_or (replicate n none) i none ≡ none
blanks none zero i = refl
blanks none (suc n) zero = refl
blanks none (suc n) (suc i) = blanks none n i

-- a slot whose first word is 0 spells the empty set
blank_spells : (shape : Shape) (words : List ℕ) (slot : ℕ) → get_or words (content shape slot 0) 0 ≡ 0
    → SlotSpells shape words slot []
blank_spells shape words slot blank = ((refl, omega arith), λ index low. by_index index low)
  where
    by_index : (index : ℕ) → index < 1 → get_or words (content shape slot index) 0 ≡ get_or (0 ∷ []) index 0
    by_index zero low = blank
    by_index (suc index) low = absurd (omega arith)

module _ {A : Type 0} (role : A → Role) (marks : A → Marks) where
  not_reader : (me : A) (r : Role) (reader : ℕ) (grip : Grip) → is_reader r ≡ 0 → role me ≡ r
      → role me ≡ Reader reader grip → ⊥
  not_reader me r reader grip none is reads =
      absurd (let z : is_reader r ≡ 1 = ap is_reader (sym is) ∙ ap is_reader reads in omega arith)

  -- the writer is alone, and no key names a slot
  pub opens_marked : (shape : Shape) (words : List ℕ) (me : A) → role me ≡ Writer (opening_desk shape)
      → marks me ≡ opening_marks shape → ((key : ℕ) → key < shape.keys → name_number (get_or words key 0) ≡ 0)
      → ((slot : ℕ) → slot < shape.slots → get_or words (content shape slot 0) 0 ≡ 0)
      → Marked role marks shape words (me ∷ []) []
  opens_marked shape words me is are none blank =
      record { each = each; writer = record { place = 0; who = me; desk = opening_desk shape; there = refl; is = is } }
    where
      alone : (place : ℕ) (who : A) → get_elem? (me ∷ []) place ≡ some who → me ≡ who
      alone zero who e = some-injective me who e
      alone (suc place) who e = absurd (some-ne-none who (sym e))

      desked : Desked role marks shape words (me ∷ []) [] (opening_desk shape) (opening_marks shape)
      desked = record {
        wide = (length-replicate shape.keys 0, length-replicate shape.slots 0);
        names = λ key l. blanks 0 shape.keys key ∙ sym (none key l);
        puts = λ key slot l e. absurd (let z = none key l in omega arith);
        held = λ place reader slot who grip there reads _. absurd
            (not_reader who (Writer (opening_desk shape)) reader grip refl (ap role (sym (alone place who there)) ∙ is)
            reads);
        fresh = λ slot l on. absurd (let z = none_named shape words slot none in omega arith);
        apart = λ slot other l m on _ _. absurd (let z = none_named shape words slot none in omega arith);
        sets = λ slot l _. subst (SlotSpells shape words slot) (sym (blanks {A = List Row} [] shape.slots slot))
            (blank_spells shape words slot (blank slot l));
        many = length-replicate shape.slots [];
        noted = no_places (Since role marks (me ∷ []));
        sweep = λ at note here. absurd (some-ne-none note (sym here));
      }

      each : (place : ℕ) (who : A) → get_elem? (me ∷ []) place ≡ some who
          → KnowsMarks role marks shape words (me ∷ []) [] (role who) (marks who)
      each place who there =
          rw (sym (alone place who there)) (rw is
          (subst (Desked role marks shape words (me ∷ []) [] (opening_desk shape)) (sym are) desked))

  -- one more caller, who holds nothing
  pub seats_marked : (shape : Shape) (words : List ℕ) (callers : List A) (log : List Entry) (next : A)
      → ((reader : ℕ) (grip : Grip) → role next ≡ Reader reader grip → gripped grip ≡ None)
      → Marked role marks shape words callers log
      → KnowsMarks role marks shape words (callers ++ next ∷ []) log (role next) (marks next)
      → Marked role marks shape words (callers ++ next ∷ []) log
  seats_marked shape words callers log next idle m own = record {
    each = λ j u there. ⊎_elim
        (λ (z : get_elem? callers j ≡ some u). knows_frame role marks shape words words callers (callers ++ next ∷ [])
        log log (role u) (marks u) (λ desk is t. more desk (marks u) t) (m.each j u z))
        (λ (z : next ≡ u). rw (sym z) own)
        (at_snoc callers next u j there);
    writer =
        let w = m.writer in search (at_left callers (next ∷ []) w.place w.who w.there, w);
  }
    where
      more : (desk : Desk) (mine : Marks) → Desked role marks shape words callers log desk mine
          → Desked role marks shape words (callers ++ next ∷ []) log desk mine
      more desk mine t =
          desk_frame role marks shape words words callers (callers ++ next ∷ []) log log desk mine (λ _ _. refl)
          (λ _. refl) refl (since_snoc role marks callers next)
          (λ place reader slot who grip there reads on. ⊎_elim
          (λ (z : get_elem? callers place ≡ some who).
          (t.held place reader slot who grip z reads on, λ _. (place, who, grip, z, reads, on)))
          (λ (z : next ≡ who). absurd
          (let none : None ≡ Some slot = sym (idle reader grip (ap role z ∙ reads)) ∙ on in cc))
          (at_snoc callers next who place there))
          (λ _ _ _. refl) t

  module _ (shape : Shape) (words : List ℕ) (callers : List A) (log : List Entry) (id : ℕ) (me next : A)
      (at : get_elem? callers id ≡ some me) (same : role next ≡ role me)
      (alike : (marks next ≡ with_loads (marks me) (marks next).loads) ⊎ (role me ≡ Note)) where
    reader_marks : (reader : ℕ) (grip : Grip) → role me ≡ Reader reader grip
        → marks next ≡ with_loads (marks me) (marks next).loads
    reader_marks reader grip reads = ⊎_elim (λ e. e) (λ e. absurd (not_reader me Note reader grip refl e reads)) alike

    pub evolves_alike : Evolves role marks me next
    evolves_alike reader grip reads = search (arith, reader_marks)

    -- a view that changes and keeps its role, and its marks but the loads if it is a caller's
    pub alike_marked : Marked role marks shape words callers log
        → Marked role marks shape words (set callers id next) log
    alike_marked m =
        set_marked role marks shape words words callers log log id me next m at (λ desk is. (desk, same ∙ is)) own
        (λ j u desk ne there is. desk_alike desk (marks u))
      where
        desk_alike : (desk : Desk) (mine : Marks) → Desked role marks shape words callers log desk mine
            → Desked role marks shape words (set callers id next) log desk mine
        desk_alike desk mine t =
            desk_frame role marks shape words words callers (set callers id next) log log desk mine (λ _ _. refl)
            (λ _. refl) refl (λ old. since_set role marks callers id me next old at evolves_alike)
            (holders_stay role marks t id next (λ reader slot grip reads on.
            let before : role me ≡ Reader reader grip = sym same ∙ reads in
            let kept = t.held id reader slot me grip at before on in (
              (kept.0 ∙ ap (λ (b : Marks). b.put) (sym (reader_marks reader grip before)), kept.1),
              λ _. (id, me, grip, at, before, on),
            )))
            (λ _ _ _. refl) t

        own : KnowsMarks role marks shape words (set callers id next) log (role next) (marks next)
        own = rw same (⊎_elim
            (λ (e : marks next ≡ with_loads (marks me) (marks next).loads). subst
            (KnowsMarks role marks shape words (set callers id next) log (role me)) (sym e)
            (knows_loads role marks shape words (set callers id next) log (role me) (marks me) (marks next).loads
            (knows_frame role marks shape words words callers (set callers id next) log log (role me) (marks me)
            (λ desk is. desk_alike desk (marks me)) (m.each id me at))))
            (λ (e : role me ≡ Note). rw e tt)
            alike)
