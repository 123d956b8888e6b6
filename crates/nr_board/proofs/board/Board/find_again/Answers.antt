use Rattle.std.proofs.Common.{ap, suc, subst, sym, Bool, true, eq-eqb, ◌∙◌, ◌≡◌}
use Rattle.std.proofs.lemmas.Bool.{eqb-true}
use Rattle.std.specs.Prelude.{◌↔◌}
use Rattle.nr_core.specs.Slots.{name_number, names_slot}
use Rattle.nr_core.specs.MarkSteps.{found_again}
use Rattle.nr_core.specs.Marks.{with_look}
use Rattle.nr_board.proofs.ReaderSeats.{names_held}
use Rattle.nr_board.specs.Holds.{slot_in}
use Rattle.nr_board.specs.Meetings.{HasPut}
use Rattle.nr_board.specs.Callers.{token}
use Rattle.nr_board.proofs.board.Board.find_again.Goals as goal

pub returns : goal.returns
returns c =
    let before = c.args.seat.now in
    let after = c.look_again-word.new.seat in
    let word = c.look_again-word.result in
    let told = c.look_again-word.ensures in
    let name = name_number word in
    let named : names_slot c.args.slot word ≡ c.names.result = names_held c.args.slot word ∙ sym c.names.ensures in
    let held : slot_in (token before).holds ≡ c.args.slot = ap slot_in told.holds in record {
      reader = told.reader;
      role = told.role;
      same = λ yes. told.same (named ∙ yes);
      other = λ no. told.other (named ∙ no);
      exact = subst (λ (b : Bool). (b ≡ true) ↔ HasPut c.args.key before.me.0.marks.put (token after)) named told.exact;
      marks = record {
        named = name;
        exact = (
          (λ yes. eqb-true name (suc c.args.slot) (named ∙ yes) ∙ ap suc (sym held)),
          (λ is. sym named ∙ eq-eqb name (suc c.args.slot) (is ∙ ap suc held)),
        );
        marks = told.marks ∙ ap (λ (b : Bool). found_again b (with_look before.me.0.marks c.args.key name)) named;
      };
      says = told.says;
    }
