-- A poll by a reap: where it finds its slot held it notes a reader that holds it, and else the slot's set is reaped,
-- which no key names and nobody holds.
use Rattle.std.proofs.Common.{[], inl, List, ap, arith, false, get_or, get_or-set_other, map, refl, set, subst, suc}
use Rattle.std.proofs.Common.{sym, true, ℕ, ◌++◌, ◌<◌, ◌∙◌, ◌∷◌, ◌≡◌, ◌≢◌}
use Rattle.std.specs.Prelude.{Some}
use lib.ListN.{get_elem?}
use lib.Seq.{set-get_or}
use mathlib.Core.Option.{some}
use Rattle.nr_model.specs.Histories.{Entry}
use Rattle.nr_words.specs.KeyWords.{same_count}
use Rattle.nr_core.proofs.KeyWords.{is_named}
use Rattle.nr_core.proofs.Sums.{only-same, term_le}
use Rattle.nr_core.specs.Roles.{holds}
use Rattle.nr_core.specs.Steps.{LoadsWord}
use Rattle.nr_core.specs.declared.operation.Operation.TheVariants.{Load}
use Rattle.nr_core.specs.Slots.{departures, name_number}
use Rattle.nr_core.specs.Sums.{only}
use Rattle.nr_core.specs.declared.places.Place.TheVariants.{Idle}
use Rattle.nr_core.specs.declared.places.Retired.{Retired}
use Rattle.nr_core.specs.declared.roles.Desk.{Desk}
use Rattle.nr_core.specs.declared.roles.Grip.{Grip}
use Rattle.nr_core.specs.declared.roles.Role.{Role}
use Rattle.nr_core.specs.declared.roles.Role.TheVariants.{Reader, Writer}
use Rattle.nr_core.specs.declared.shape.Shape.{Shape}
use Rattle.nr_core.specs.Marks.{Marks, Past, LoggedLoad, gripped, with_poll, with_polls, with_reaped, with_scan}
use Rattle.nr_core.specs.Marked.{AllSince, CanMark, Desked, HoldNoOthers, Keeps, NotesPresent, Remarked, Since}
use Rattle.nr_core.specs.Marked.{Sweeping}
use Rattle.nr_core.specs.MarkSteps.{ProbesMarks}
use Rattle.nr_core.proofs.ListPlaces.{at_maps, no_places}
use Rattle.nr_core.proofs.MarksSince.{rests}
use Rattle.nr_core.proofs.LookMarks.{desk_of, load_stays, writer_step}
use Rattle.nr_core.proofs.Holders.{alone_more, holder_of, noted, present_more, since_more, tells_missed}
use Rattle.nr_core.proofs.SwapMarks.{grips_it}
use Rattle.nr_core.proofs.Settle.{nobody_holds}
use Rattle.nr_core.proofs.PutNumbers.{none_end}
use Rattle.nr_core.proofs.Choices.{either}

module _ {A : Type 0} (role : A → Role) (marks : A → Marks) where
  -- a slot's set is reaped that no key names and no reader holds
  desk_reaped : (shape : Shape) (words : List ℕ) (callers : List A) (log : List Entry) (desk : Desk) (mine : Marks)
      (slot : ℕ)
      → Desked role marks shape words callers log desk mine
      → ((key : ℕ) → key < shape.keys → name_number (get_or words key 0) ≡ suc slot → ⊥)
      → ((place reader : ℕ) (who : A) (grip : Grip) → get_elem? callers place ≡ some who → role who ≡ Reader reader grip
      → gripped grip ≡ Some slot → ⊥)
      → Desked role marks shape words callers log desk (with_reaped mine slot)
  desk_reaped shape words callers log desk mine slot own unnamed nobody = assumption (
    λ (key s : ℕ) (l : key < shape.keys) (e : name_number (get_or words key 0) ≡ suc s).
        still s (λ z. unnamed key l (e ∙ ap suc z)) (own.puts key s l e),
    λ (place reader s : ℕ) (who : A) (grip : Grip) (there : get_elem? callers place ≡ some who)
        (is : role who ≡ Reader reader grip) (on : gripped grip ≡ Some s).
        still s (λ z. nobody place reader who grip there is (on ∙ ap (λ (y : ℕ). Some y) z))
        (own.held place reader s who grip there is on),
    own,
  )
    where
      still : (s : ℕ) {number : ℕ} → s ≢ slot → Keeps mine s number → Keeps (with_reaped mine slot) s number
      still s apart kept = (kept.0, get_or-set_other mine.reaped slot s true false apart ∙ kept.1)

  module _ (shape : Shape) (id : ℕ) (me : A) (known : List Past) (desk : Desk) where
    pub probes_marked : (poll : ℕ) (entry : Retired) → get_elem? desk.retired poll ≡ some entry → desk.place ≡ Idle
        → role me ≡ Writer desk
        → CanMark role marks shape id me known (Load (departures shape entry.slot)) (LoadsWord (role me))
        (ProbesMarks shape (marks me) entry)
    probes_marked poll entry here idle was words callers log core m once at sinces after entries ans =
        let slot : ℕ = entry.slot in
        let i : ℕ = departures shape slot in
        let word : ℕ = get_or words i 0 in
        let words' = set words i word in
        let roles = map role callers in
        let own = desk_of id m at was in
        let there : get_elem? roles id ≡ some (Writer desk) = at_maps role callers id me at ∙ ap some was in
        let count = ((core.knows id (Writer desk) there).retired poll entry here).1 in
        let listed = term_le (λ (y : Retired). only slot y.slot) desk.retired poll entry here in
        let one = only-same slot in
        let alone = rests role marks shape words callers log id me desk slot core at was (omega arith) in
        let tells = ProbesMarks shape (marks me) entry in
        let Goal : Type 0 = Remarked role marks shape words callers log id (Load i) me after entries tells in
        let others : HoldNoOthers role marks callers desk (marks me).polls
        = subst (Sweeping role marks callers desk (marks me).polls) idle own.sweep in
        let stays : (polls : List Past) (loads : List LoggedLoad) → AllSince role marks callers polls
        → HoldNoOthers role marks callers desk polls
        → Desked role marks shape words' callers (log ++ entries) desk (with_scan (marks me) polls loads)
        = λ polls loads since others. load_stays entries i own
        (none_end log entries ans.1) (λ s. omega arith) (λ s rest. rest) polls loads since
        (subst (Sweeping role marks callers desk polls) (sym idle) others) in
        let finish : (now : Marks) → NotesPresent role marks callers (marks me).polls now.polls
        → Desked role marks shape words' callers (log ++ entries) desk now
        → tells word after (log ++ entries) now [] → Goal = λ now noted desked told. writer_step core m at
        was (ans.0 ∙ was) now [] (no_places (Since role marks callers)) noted desked told in
        either (same_count word entry.arrivals)
        (λ hit.
        let nobody = nobody_holds core slot word entry.arrivals count hit in
        finish (with_reaped (with_poll (marks me) slot true) slot) (λ n e there'. inl there')
        (desk_reaped shape words' callers (log ++ entries) desk (with_poll (marks me) slot true) slot
        (stays (marks me).polls (with_poll (marks me) slot true).loads own.noted others)
        (λ key l e. let e' = sym (ap (λ l. name_number (get_or l key 0)) (set-get_or words i 0)) ∙ e in
        omega (arith, is_named shape words key slot l e'))
        (λ place reader who grip is_there is on.
        let l
        = term_le (holds slot) roles place (Reader reader grip)
        (at_maps role callers place who is_there ∙ ap some is) in
        omega (arith, grips_it grip slot on))) (
          refl,
          rw hit refl,
        ))
        (λ miss.
        let held = holder_of slot word entry.arrivals count miss in
        let reader = held.0 in
        let polls = (marks me).polls ++ noted reader ∷ [] in
        finish (with_polls (with_poll (marks me) slot false) polls)
        (present_more reader (marks me).polls (marks me).polls (λ n e there'. inl there'))
        (stays polls (with_poll (marks me) slot false).loads (since_more reader (marks me).polls own.noted)
        (alone_more reader (marks me).polls once desk others)) (
          refl,
          rw miss (tells_missed (marks me) desk m reader slot held.1 others
              (omega arith)),
        ))
