-- A poll that finds its slot held: a reader holds it, and is noted as it is.
use Rattle.std.proofs.Common.{[], List, ap, arith, length, map, false, refl, subst, sym, ℕ, ⊎_elim, ◌%◌, ◌++◌, ◌+◌, ◌<◌}
use Rattle.std.proofs.Common.{◌^◌, ◌∙◌, ◌∷◌, ◌≡◌, ◌≢◌, ◌≤◌}
use Rattle.std.proofs.lemmas.Bool.{eqb-false}
use Rattle.std.specs.Prelude.{Some}
use lib.ListN.{get_elem?}
use mathlib.Core.Logic.{dite}
use mathlib.Core.Option.{some, some-injective}
use native.Mathlib.Decide.{ℕ_discrete}
use Rattle.nr_model.specs.Histories.{Entry}
use Rattle.nr_words.specs.KeyWords.{same_count}
use Rattle.nr_core.proofs.ListPlaces.{at_last, at_maps, at_unmap}
use Rattle.nr_core.proofs.Sums.{only-is, only-same, some_term, terms_le}
use Rattle.nr_core.specs.Marked.{AllSince, HoldNoOthers, KnowsMarks, Marked, NotesPresent, Once, Since, is_caller}
use Rattle.nr_core.specs.MarkSteps.{ProbeTells}
use Rattle.nr_core.specs.Marks.{Marks, Past, gripped, past, with_poll, with_polls}
use Rattle.nr_core.specs.Roles.{held, holds, retirements}
use Rattle.nr_core.specs.Sums.{only}
use Rattle.nr_core.specs.declared.roles.Desk.{Desk}
use Rattle.nr_core.specs.declared.roles.Grip.{Grip}
use Rattle.nr_core.specs.declared.roles.Grip.TheVariants.{On}
use Rattle.nr_core.specs.declared.roles.Role.{Role}
use Rattle.nr_core.specs.declared.roles.Role.TheVariants.{Reader}
use Rattle.nr_core.specs.declared.shape.Shape.{Shape}

reader_of : (s : ℕ) (r : Role) → 0 < holds s r → (c : ℕ) × (x : Grip) × (r ≡ Reader c x) × (gripped x ≡ Some s)
reader_of s (Reader c (On t rows sized)) l = (c, On t rows sized, refl, ap (λ (y : ℕ). Some y) (only-is s t l))
reader_of s other l = absurd (omega arith)

pub same_grip : {c c' : ℕ} {x x' : Grip} → Reader c x ≡ Reader c' x' → x ≡ x'
same_grip e = cc

module _ {A : Type 0} (role : A → Role) (marks : A → Marks) (callers : List A) where
  pub same_caller : Once role marks callers → (i j c : ℕ) (me w : A) (x y : Grip)
      → get_elem? callers i ≡ some me → get_elem? callers j ≡ some w → role me ≡ Reader c x → role w ≡ Reader c y
      → me ≡ w
  same_caller once i j c me w x y at there is also = dite (ℕ_discrete j i)
      (λ e. some-injective me w (sym at ∙ ap (get_elem? callers) (sym e) ∙ there))
      (λ ne.
      let two
      = terms_le (is_caller c) (map role callers) i j (Reader c x) (Reader c y) ne
      (at_maps role callers i me at ∙ ap some is) (at_maps role callers j w there ∙ ap some also) in
      let one : only c c ≡ 1 = only-same c in let most = once c in absurd (omega arith))

  -- what is known of a reader since then, of the reader as it is
  pub since_itself : Once role marks callers → (place : ℕ) {reader : ℕ} {who : A} {grip : Grip}
      → get_elem? callers place ≡ some who → role who ≡ Reader reader grip → (old : Past)
      → Since role marks callers old → old.reader ≡ reader
      → (old.count ≤ (marks who).acts)
      × ((marks who).acts ≡ old.count → (gripped grip ≡ old.slot) × ((marks who).put ≡ old.put))
  since_itself once place {reader} {who} {grip} there is old w same =
      search (arith, same_caller, w.place, w.who, w.grip, w.there, w.is, w.least, w.same, same_grip)

  -- one of the callers is that reader
  pub record ReaderThere : Type 0 where
    pub place : ℕ
    pub who : A
    pub reader : ℕ
    pub grip : Grip
    pub there : get_elem? callers place ≡ some who
    pub is : role who ≡ Reader reader grip

module _ {A : Type 0} {role : A → Role} {marks : A → Marks} {callers : List A} where
  abbrev pub noted : ReaderThere role marks callers → Past
  noted one = past one.reader one.grip (marks one.who)

  pub since_now : (one : ReaderThere role marks callers) → Since role marks callers (noted one)
  since_now one = let least : (marks one.who).acts ≤ (marks one.who).acts = omega arith in search (one, least)

  -- a slot that a poll finds held is held by one of them
  pub holder_of : (slot found arrivals : ℕ)
      → arrivals % 2 ^ 40 ≡ (found + held (map role callers) slot) % 2 ^ 40 → same_count found arrivals ≡ false
      → (one : ReaderThere role marks callers) × (gripped one.grip ≡ Some slot)
  holder_of slot found arrivals counted miss =
      let roles = map role callers in
      let differs : found % 2 ^ 40 ≢ arrivals % 2 ^ 40 = eqb-false (found % 2 ^ 40) (arrivals % 2 ^ 40) miss in
      let someone : 0 < held roles slot
      = dite (ℕ_discrete (held roles slot) 0) (λ none. absurd (differs (omega arith))) (λ some_there. omega arith) in
      let f = some_term (holds slot) roles someone in
      let g = at_unmap role callers f.0 f.1 f.2 in
      let o = reader_of slot f.1 f.3 in
      (record { place = f.0; who = g.0; reader = o.0; grip = o.1; there = g.1; is = g.2 ∙ o.2 }, o.3)

  module _ (one : ReaderThere role marks callers) where
    pub in_range : {shape : Shape} {words : List ℕ} {log : List Entry} → Marked role marks shape words callers log
        → (0 < one.reader) × (one.reader ≤ shape.readers)
    in_range {shape = shape} {words = words} {log = log} m =
        subst (λ r. KnowsMarks role marks shape words callers log r (marks one.who)) one.is
        (m.each one.place one.who one.there)

    -- it is noted behind other notes
    module _ (notes : List Past) where
      pub since_more : AllSince role marks callers notes → AllSince role marks callers (notes ++ noted one ∷ [])
      since_more since at old there = search (arith, since_now, at_last)

      pub present_more : (earlier : List Past) → NotesPresent role marks callers earlier notes
          → NotesPresent role marks callers earlier (notes ++ noted one ∷ [])
      present_more earlier present at old there = search (arith, at_last)

      -- as it is it holds no retired slot but its own
      pub alone_more : Once role marks callers → (desk : Desk) → HoldNoOthers role marks callers desk notes
          → HoldNoOthers role marks callers desk (notes ++ noted one ∷ [])
      alone_more once desk others at old there place slot who grip here is on retired = ⊎_elim
          (λ (before : get_elem? notes at ≡ some old). others at old before place slot who grip here is on retired)
          (λ (last : (at ≡ length notes) × (noted one ≡ old)).
          let is' : role who ≡ Reader one.reader grip = is ∙ ap (λ (b : Past). Reader b.reader grip) (sym last.1) in
          let same
          = same_caller role marks callers once one.place place one.reader one.who who one.grip grip one.there here
          one.is is' in
          ap (λ (b : Past). b.slot) (sym last.1) ∙ ap gripped (same_grip (sym one.is ∙ ap role same ∙ is')) ∙ on)
          (at_last notes (noted one) old at there)

  -- what a poll of a held slot tells that notes it
  pub tells_missed : {shape : Shape} {words : List ℕ} {log : List Entry} (mine : Marks) (desk : Desk)
      → Marked role marks shape words callers log → (one : ReaderThere role marks callers) (slot : ℕ) → gripped
      one.grip ≡ Some slot → HoldNoOthers role marks callers desk mine.polls → 0 < retirements slot desk.retired
      → ProbeTells false shape slot mine (with_polls (with_poll mine slot false) (mine.polls ++ noted one ∷ []))
  tells_missed mine desk m one slot on others retired =
      let range = in_range one m in (
        noted one,
        refl,
        on,
        range.0,
        range.1,
        λ at old there same_reader.
            others at old there one.place slot one.who one.grip one.there
            (one.is ∙ ap (λ (b : ℕ). Reader b one.grip) (sym same_reader)) on retired
            ∙ sym on,
      )
