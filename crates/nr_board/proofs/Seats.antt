-- The writer makes the next reader.
use Rattle.std.proofs.Common.{◌≡◌, ℕ, suc, ◌+◌, ◌<◌, ◌≤◌, ◌≢◌, List, [], ◌∷◌, ◌++◌, map, set, cond, ne_eqb, Bool, true}
use Rattle.std.proofs.Common.{false, inl, refl, sym, ap, ◌∙◌, arith}
use Rattle.std.proofs.lemmas.Bool.{eqb-true}
use mathlib.Core.List.{map-append}
use mathlib.Core.Logic.{dite}
use mathlib.Core.Option.{some}
use native.Mathlib.Decide.{ℕ_discrete}
use lib.ListN.{get_elem?}
use lib.Seq.{map-set}
use Rattle.atomic_table.specs.Table.{Splits}
use Rattle.atomic_table.proofs.Lists.{at_map}
use Rattle.nr_model.specs.Histories.{entries_of}
use Rattle.nr_core.proofs.Seat.{seats}
use Rattle.nr_core.proofs.Choices.{by_cases}
use Rattle.nr_core.proofs.Sums.{set_again, term_le, terms_le, total-append}
use Rattle.nr_core.specs.Roles.{is_by, is_reader, is_writer}
use Rattle.nr_core.specs.Sums.{total}
use Rattle.nr_core.specs.declared.roles.Role.{Role}
use Rattle.nr_core.specs.declared.shape.Shape.{Shape}
use Rattle.nr_core.proofs.Knowing.{knowing_set, knowing_snoc}
use Rattle.nr_core.proofs.ListPlaces.{no_places}
use Rattle.nr_core.proofs.SeatMarks.{alike_marked, evolves_alike, seats_marked}
use Rattle.nr_core.specs.Marked.{Since}
use Rattle.nr_board.specs.Rule.{Kept, counts, marks_of, pasts_of, role_of, told_pasts_of}
use Rattle.nr_core.specs.Marks.{gripped}
use Rattle.nr_board.specs.Views.{View, grip_of, next_reader, with_reader}
use Rattle.nr_board.specs.Announcing.{HasNoReader, lent}
use Rattle.nr_board.proofs.Heard.{hears_as, hears_more, hears_on}
use Rattle.nr_board.proofs.OneView.{at_any, at_more}
use Rattle.nr_board.proofs.Counting.{announces_more, announces_on, counted_same, lent_more, lent_same}

at_most_one : (y : Bool) → cond y 1 0 ≤ 1
at_most_one y = elim y as (λ z. cond z 1 0 ≤ 1) [ true ↦ omega arith | false ↦ omega arith ]

pub seats_so : (shape : Shape) (id : ℕ) (view : View) → is_writer view.role ≡ 1 → view.made < shape.readers
    → Splits (Kept shape) id view (with_reader view) (next_reader view)
seats_so shape id view writes few state kept at =
    let views = state.views in
    let left = with_reader view in
    let next = next_reader view in
    let roles = map role_of views in
    let views' = set views id left ++ next ∷ [] in
    let kept_roles = map-set role_of views id left ∙ set_again roles id view.role (at_map role_of views id view at) in
    let more : map role_of views' ≡ roles ++ next.role ∷ []
    = map-append role_of (set views id left) (next ∷ []) ∙ ap (λ (l : List Role). l ++ next.role ∷ []) kept_roles in
    let made : view.made ≡ kept.made = kept.maker id view at writes in let fits = kept.fits id view at in
    let tally : (caller : ℕ)
    → total (counts caller) (map role_of views') ≡ total (counts caller) roles + counts caller next.role
    = λ caller. omega
    (arith, ap (total (counts caller)) more, total-append (counts caller) roles (next.role ∷ [])) in
    let is_next : (caller : ℕ) → is_by caller next.role ≡ true → caller ≡ view.made + 1
    = λ caller e. sym (eqb-true (view.made + 1) caller e) in
    let not_next : (caller : ℕ) → caller ≢ view.made + 1 → counts caller next.role ≡ 0
    = λ caller ne. ap (λ y. cond y 1 0) (ne_eqb (view.made + 1) caller (λ e. ne (sym e))) in
    let silent : (caller : ℕ) → is_by caller next.role ≡ true → entries_of kept.log caller ≡ []
    = λ caller e. kept.silent caller (omega (arith, is_next caller e)) in
    let roles_kept : (j : ℕ) (u : View) → get_elem? (set views id left) j ≡ some u → get_elem? roles j ≡ some u.role
    = λ j u there. ap (λ (l : List Role). get_elem? l j) (sym kept_roles)
    ∙ at_map role_of (set views id left) j u there in
    let nobody : (own : ℕ) → suc own ≡ view.made + 1 → HasNoReader own (set views id left)
    = λ own number j u there. by_cases (λ (b : Bool). b ≡ false) (is_by (suc own) u.role)
    (λ his. absurd
    (let one : counts (suc own) u.role ≡ 1 = ap (λ y. cond y 1 0) his in
    omega (
      arith,
      term_le (counts (suc own)) roles j u.role (roles_kept j u there),
      kept.fresh (suc own) (omega arith),
    )))
    (λ _. refl) in
    let evolves = evolves_alike role_of marks_of shape kept.counted views kept.log id view left at refl (inl refl) in
    record {
      log = kept.log;
      counted = kept.counted;
      counts_words = counted_same shape (lent views) (lent views') state.words kept.counted
          (λ slot. lent_more (set views id left) next refl slot ∙ lent_same views id view left at (λ _. refl) slot)
          kept.counts_words;
      announced =
          announces_more shape kept.announcers state.words (set views id left) next refl
          (λ own his. nobody own (is_next (suc own) his))
          (announces_on shape kept.announcers state.words state.words views id view left at (λ _. refl) refl (λ _. refl)
          (λ _ _. refl) refl kept.announced);
      announcers = kept.announcers;
      told_of =
          at_more (set views id left) next (λ _ _. kept.told_of id view at (omega arith))
          (at_any views id left (kept.told_of id view at) (λ j u _. kept.told_of j u));
      hears =
          hears_more (set views id left) next refl refl
          (hears_on views id view left at (λ _. refl) refl (λ _. refl) (λ _. hears_as view left refl refl)
          kept.hears);
      core = rw more (seats shape kept.counted roles kept.log (view.made + 1) kept.core (omega (arith, kept.readers)));
      fits =
          at_more (set views id left) next
          (λ _. record {
            begins = record { rest = kept.log; is = refl };
            told = record { rest = kept.log; is = refl };
            own = silent;
            knows_own = λ caller e. refl;
            acts = λ reads. refl;
            sized = λ _. fits.sized (omega arith);
          })
          (at_any views id left (assumption fits) (λ j u _. kept.fits j u));
      callers = kept.callers;
      once = λ caller. dite (ℕ_discrete caller (view.made + 1))
          (λ e.
          let z = kept.fresh caller (omega arith) in
          let one : counts caller next.role ≤ 1 = at_most_one (is_by caller next.role) in
          omega (arith, tally caller))
          (λ ne. omega (arith, tally caller, not_next caller ne, kept.once caller));
      made = kept.made + 1;
      readers = omega (arith, kept.readers, ap (total is_reader) more, total-append is_reader roles (next.role ∷ []));
      fresh = λ caller later. omega
          (arith, tally caller, not_next caller (λ e. omega arith), kept.fresh caller (omega arith));
      silent = λ caller later. kept.silent caller (omega arith);
      marked =
          seats_marked role_of marks_of shape kept.counted (set views id left) kept.log next
          (λ reader grip reads. ap (λ r. gripped (grip_of r)) (sym reads))
          (alike_marked role_of marks_of shape kept.counted views kept.log id view left at refl (inl refl) kept.marked)
          (omega arith, omega arith);
      pasts =
          knowing_snoc role_of marks_of pasts_of (set views id left) next
          (no_places (Since role_of marks_of (set views id left)))
          (knowing_set role_of marks_of pasts_of views id view left at evolves (kept.pasts id view at) kept.pasts);
      told_pasts =
          knowing_snoc role_of marks_of told_pasts_of (set views id left) next
          (no_places (Since role_of marks_of (set views id left)))
          (knowing_set role_of marks_of told_pasts_of views id view left at evolves (kept.told_pasts id view at)
          kept.told_pasts);
      maker =
          at_more (set views id left) next (λ _ w. absurd (omega arith))
          (at_any views id left (λ _. omega arith)
          (λ j u ne there w. absurd
          (omega (
            arith,
            terms_le is_writer roles id j view.role u.role ne (at_map role_of views id view at)
                (at_map role_of views j u there),
            kept.core.one,
          ))));
    }
