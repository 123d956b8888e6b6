-- A load that only learns.
use Rattle.std.proofs.Common.{List, [], ap, append-nil, arith, eq-eqb, get_or, map, refl}
use Rattle.std.proofs.Common.{subst, sym, true, ℕ, ◌++◌, ◌<◌, ◌∙◌, ◌≡◌}
use Rattle.atomic_table.specs.Table.{Allows, Me}
use Rattle.nr_model.specs.Histories.{Entry, IsLegal}
use Rattle.nr_model.specs.Maps.{state_of}
use Rattle.nr_model.specs.declared.states.KeyState.{KeyState}
use Rattle.nr_model.specs.declared.states.KeyState.TheVariants as key
use Rattle.nr_core.proofs.KeyWords.{names_none, names_one}
use Rattle.nr_core.proofs.Learn.{learns}
use Rattle.nr_core.specs.Core.{ShowsState, AreNumbers}
use Rattle.nr_core.specs.declared.operation.Operation.TheVariants.{Load}
use Rattle.nr_core.specs.Roles.{holds, is_by, is_reader, is_writer}
use Rattle.nr_core.specs.Steps.{LoadsWord}
use Rattle.nr_core.specs.Story.{map_after, opening_map}
use Rattle.nr_core.specs.declared.roles.Role.{Role}
use Rattle.nr_core.specs.declared.roles.Role.TheVariants.{Note, Reader, Writer}
use Rattle.nr_core.specs.declared.shape.Shape.{Shape}
use Rattle.nr_core.proofs.LearnMarks.{learns_reader, learns_writer}
use Rattle.nr_core.specs.Exact.{Lists}
use Rattle.nr_core.specs.MarkSteps.{ReaderLearns, WriterLearns}
use Rattle.nr_core.specs.Marked.{CanMark, MarkTelling}
use Rattle.nr_core.specs.Marks.{Marks, Past, gripped}
use Rattle.nr_board.proofs.Lift.{Makes, allowed, key_inside, key_no_count, lends_on, makes, sees_plain}
use Rattle.nr_board.proofs.Moves.{ActsGo, learned, learned_own, still_chosen}
use Rattle.nr_board.specs.Entries.{AreCallers, acts_told, to_depart}
use Rattle.nr_board.specs.Kinds.{kind_of, kind_shown}
use Rattle.nr_board.specs.Learning.{Learned, LearnsOf}
use Rattle.nr_board.specs.Notes.{IsCaller}
use Rattle.nr_board.specs.Rule.{Kept, marks_of, role_of}
use Rattle.nr_board.specs.Views.{View, desk_of, grip_of, caller_number}
use Rattle.nr_core.proofs.Sums.{here_after}
use Rattle.atomic_table.proofs.Lists.{at_map}
use mathlib.Core.Option.{some}
use Rattle.nr_core.specs.declared.roles.Desk.{Desk}

-- a caller's own entries are told by its number
pub caller_is : (role : Role) → IsCaller role → is_by (caller_number role) role ≡ true
caller_is (Writer desk) call = refl
caller_is (Reader reader grip) call = eq-eqb reader reader refl
caller_is Note call = absurd (omega arith)

-- a key's word shows the kind of its state
pub shows_kind : (shape : Shape) (words : List ℕ) (word : ℕ) (state : KeyState) → ShowsState shape words word state
    → kind_shown word ≡ kind_of state
shows_kind shape words word (key.Hole number) shows = let empty = names_none word shows.0 in grind arith
shows_kind shape words word (key.Asked number) shows = let empty = names_none word shows.0 in grind arith
shows_kind shape words word (key.Rows number rows) shows =
    let full = (names_one word shows.0 shows.1).0 in grind arith

-- a history to which nothing is added
still : (log entries : List Entry) → entries ≡ [] → log ≡ log ++ entries
still log entries none = sym (append-nil log) ∙ ap (λ (l : List Entry). log ++ l) (sym none)

module _ (shape : Shape) (id : ℕ) (me : Me (Unit {0}) View) (at : ℕ) (near : at < shape.keys)
    (call : IsCaller me.0.role) where
  abbrev view : View
  view = me.0

  abbrev CanLearn : MarkTelling → Type 0
  CanLearn notes = CanMark role_of marks_of shape id view view.told_pasts (Load at) (LoadsWord view.role) notes

  learns_by : (notes : MarkTelling) → CanLearn notes
      → ((word : ℕ) (after : Role) (log : List Entry) (now : Marks) (news : List Past) (next : View)
      → view.shape ≡ shape → next.seen ≡ log
      → ((desk : Desk) → view.role ≡ Writer desk → AreNumbers shape (map_after shape log) desk.numbers)
      → notes word after log now news
      → (now ≡ view.marks) × LearnsOf view.role view next news)
      → Makes shape id view (Load at) me.1 (λ found next. Learned at found view next)
  learns_by notes marks tell = let tells = LoadsWord view.role in
      makes shape id view (Load at) tells notes me.1 (λ found next. Learned at found view next) view.told_pasts
      (learns shape id view.role at) marks (λ state kept there. kept.told_pasts id view there)
      (sees_plain shape id view (Load at) tells notes (λ found next. Learned at found view next)
      (key_inside shape at near) (key_no_count shape at near)
      (λ state kept there step. lends_on view step.after (λ slot. ap (holds slot) step.told.0)))
      (λ state kept there step marked.
      let found : ℕ = get_or kept.counted at 0 in
      let fits = kept.fits id view there in
      let sized = fits.sized call in
      let callers : AreCallers shape step.entries = subst (AreCallers shape) (sym step.told.1) tt in
      let next
      = record (learned view step.after (kept.log ++ step.entries) step.entries marked.now
      marked.news) { heard = view.heard } in
      let same = still kept.log step.entries step.told.1 in
      let there_after
      = here_after (map role_of state.views) id view.role step.after
      (at_map role_of state.views id view there) in
      let numbers : (desk : Desk) → view.role ≡ Writer desk
      → AreNumbers shape (map_after shape (kept.log ++ step.entries)) desk.numbers
      = λ desk is. (step.core.knows id (Writer desk) (there_after ∙ ap some (step.told.0 ∙ is))).numbers in
      let grown
      = tell found step.after (kept.log ++ step.entries) marked.now marked.news next sized refl numbers
      marked.told in
      let own
      = learned_own shape kept.log view fits step.after step.same step.writer step.reader step.entries step.own in
      let acts : ActsGo view step.after step.entries marked.now
      = λ reads. let same_marks = ap (λ (m : Marks). m.acts) grown.0 in
      let hold = ap (λ r. to_depart (gripped (grip_of r))) step.told.0 in
      let none : acts_told step.entries ≡ 0 = ap acts_told step.told.1 in
      omega arith in
      still_chosen kept there step marked (ap caller_number step.told.0) sized
      callers acts (λ _. ap (λ (m : Marks). m.names) grown.0) (λ after. Learned at found view after) (record {
        role = step.told.0;
        learns = λ table. record {
          table = refl;
          number = ap caller_number step.told.0;
          seen = record { rest = fits.begins.rest; is = sym same ∙ fits.begins.is };
          mine = ap (λ (l : List Entry). view.mine ++ l) step.told.1 ∙ append-nil view.mine;
          legal = subst (λ (g : Shape). IsLegal (opening_map g) (kept.log ++ step.entries)) (sym sized) step.core.legal;
          own =
              own (caller_number step.after)
              (step.same (caller_number step.after)
              ∙ ap (λ (n : ℕ). is_by n view.role) (ap caller_number step.told.0) ∙ caller_is view.role call);
          callers = subst (λ (p : Shape × List Entry). AreCallers p.0 p.1) (λ j. (sym sized j, same j)) kept.callers;
          steps_made = refl;
          fresh = ap (λ r. (desk_of r).fresh) step.told.0;
          retired = ap (λ r. (desk_of r).retired) step.told.0;
          numbers = ap (λ r. (desk_of r).numbers) step.told.0;
          holds = ap (λ r. gripped (grip_of r)) step.told.0;
          says = refl;
          marks = grown.0;
          heard = refl;
          loaded_ahead = refl;
          news = marked.news;
          pasts = refl;
        };
        told = record { rest = fits.told.rest; is = sym same ∙ fits.told.is };
        state =
            shows_kind shape kept.counted found (state_of (map_after shape kept.log) at) (kept.core.shows at near)
            ∙ (λ j. kind_of (state_of (map_after (sym sized j) (same j)) at));
        news = marked.news;
        pasts = refl;
        told_pasts = refl;
        says = refl;
        of_readers = grown.1;
      }))

  learns_as : (role : Role) → view.role ≡ role
      → Makes shape id view (Load at) me.1 (λ found next. Learned at found view next)
  learns_as (Writer desk) is =
      learns_by (WriterLearns shape view.marks desk view.told_pasts)
      (learns_writer role_of marks_of shape id view view.told_pasts at desk is)
      (λ word after log now news next sized seen numbers told. (
        told.0,
        subst (λ r. LearnsOf r view next news) (sym is) (
          told.1,
          subst (λ (p : Shape × List Entry). Lists desk view.marks p.0 p.1) (λ j. (sym sized j, sym seen j)) told.2,
          rw (sized, seen) (numbers desk is),
        ),
      ))
  learns_as (Reader reader grip) is =
      learns_by (ReaderLearns reader grip view.marks view.told_pasts)
      (learns_reader role_of marks_of shape id view view.told_pasts at reader grip is)
      (λ word after log now news next sized seen numbers told.
      (told.0, subst (λ r. LearnsOf r view next news) (sym is) (told.1, told.2)))
  learns_as Note is =
      absurd
      (let no_writer : is_writer view.role ≡ 0 = ap is_writer is in
      let no_reader : is_reader view.role ≡ 0 = ap is_reader is in
      omega arith)

  pub can_learn : Makes shape id view (Load at) me.1 (λ found next. Learned at found view next)
  can_learn = learns_as view.role refl

  pub learns_so : (slots : ℕ)
      → Allows (Kept shape) slots id me at (λ word. word) (λ found after. Learned at found view after.0)
  learns_so slots = allowed shape slots id view (Load at) me.1 (λ found next. Learned at found view next) can_learn
