-- The table at opening keeps the rule.
use Rattle.std.proofs.Common.{Bool, List, [], ap, arith, cond, false, get_or, length, ne_eqb, refl, replicate, subst}
use Rattle.std.proofs.Common.{suc, sym, true, zero, ℕ, ◌^◌, ◌*◌, ◌+◌, ◌++◌, ◌-◌, ◌<◌, ◌∙◌, ◌∷◌, ◌≡◌, ◌≤◌}
use mathlib.Core.Option.{some, some-injective, some-ne-none}
use lib.ListN.{get_elem?, get_or-append, length-append, length-replicate}
use lib.Seq.{get_or-append_right}
use Rattle.atomic_table.specs.Table.{opening}
use Rattle.nr_model.specs.declared.states.KeyState.TheVariants as states
use Rattle.std.proofs.lemmas.List.{get_or-replicate}
use Rattle.nr_core.proofs.Opening.{blank_at_opening, core_opens}
use Rattle.nr_core.specs.Core.{ShowsState}
use Rattle.nr_core.specs.Roles.{is_by}
use Rattle.nr_core.specs.Sizes.{IsShape}
use Rattle.nr_core.specs.Slots.{departures, layout, name_number, words_at_opening}
use Rattle.nr_words.specs.Places.{total_of}
use Rattle.nr_core.proofs.WordPlaces.{departures_inside}
use Rattle.nr_core.specs.declared.shape.Shape.{Shape}
use Rattle.nr_core.proofs.ListPlaces.{no_places}
use Rattle.nr_core.proofs.SeatMarks.{opens_marked}
use Rattle.nr_core.specs.Marked.{Since}
use Rattle.nr_board.specs.Announcing.{Hears, own_words, says_at}
use Rattle.nr_board.specs.declared.board.Plan.{Plan}
use Rattle.nr_board.specs.Rule.{Fits, Kept, marks_of, role_of}
use Rattle.nr_board.specs.Views.{View, opener}
use Rattle.nr_core.specs.States.{opening_desk}
use Rattle.nr_core.specs.declared.roles.Role.TheVariants.{Writer}

only_one : {A : Type 0} (a : A) (j : ℕ) (b : A) → get_elem? (a ∷ []) j ≡ some b → a ≡ b
only_one a zero b e = some-injective a b e
only_one a (suc j) b e = absurd (some-ne-none b (sym e))

zeros : (n at : ℕ) → let none : List ℕ = replicate n 0 in get_or none at 0 ≡ 0
zeros zero at = refl
zeros (suc n) zero = refl
zeros (suc n) (suc at) = zeros n at

-- no key names a slot
none_named : (shape : Shape) → IsShape shape → (key : ℕ) → key < shape.keys
    → name_number (get_or (words_at_opening shape) key 0) ≡ 0
none_named shape fits key near = let core = core_opens shape fits 0 (omega arith) in
    (subst (ShowsState shape (words_at_opening shape) (get_or (words_at_opening shape) key 0))
    (get_or-replicate shape.keys key (states.Hole shape.first_number) (states.Hole 0) near) (core.shows key near)).0

-- the departures begin at the first count
first_counts : (shape : Shape) → IsShape shape → (slot : ℕ) → slot < shape.slots
    → get_or (words_at_opening shape) (departures shape slot) 0 ≡ shape.first_count
first_counts shape fits slot near =
    (((core_opens shape fits 0 (omega arith)).knows 0 (Writer (opening_desk shape)) refl).free slot (omega arith)
    near).1

-- behind the layout lie zeros, for the readers that have a word
abbrev pub words_of : Plan → List ℕ
words_of plan = words_at_opening plan.shape ++ replicate (own_words plan.announcers) 0

pub words_stand : (plan : Plan) → IsShape plan.shape
    → length (words_of plan) ≡ total_of (layout plan.shape) + own_words plan.announcers
words_stand plan fits = let room = own_words plan.announcers in
    length-append (words_at_opening plan.shape) (replicate room 0)
    ∙ omega (arith, (core_opens plan.shape fits 0 (omega arith)).wide, length-replicate {A = ℕ} room 0)

pub opens_so : (plan : Plan) → IsShape plan.shape → plan.shape.first_count < 2 ^ 64
    → Kept plan.shape (opening (words_of plan) [] (opener plan))
opens_so plan fits small = let shape = plan.shape in let view = opener plan in
    let wide = (core_opens shape fits 0 (omega arith)).wide in
    let behind = replicate {A = ℕ} (own_words plan.announcers) 0 in
    let long = words_stand plan fits in
    let within : (at : ℕ) → at < total_of (layout shape)
    → get_or (words_of plan) at 0 ≡ get_or (words_at_opening shape) at 0
    = λ at low. get_or-append (words_at_opening shape) behind 0 at (omega (arith, wide, low)) in
    let departs : (slot : ℕ) → slot < shape.slots → get_or (words_of plan) (departures shape slot) 0 ≡ shape.first_count
    = λ slot near. within (departures shape slot) (departures_inside shape slot near)
    ∙ first_counts shape fits slot near in
    let unsaid : (own : ℕ) → get_or (words_of plan) (says_at shape own) 0 ≡ 0
    = λ own. get_or-append_right (words_at_opening shape) behind (says_at shape own) 0 (omega (arith, wide))
    ∙ zeros (own_words plan.announcers) (says_at shape own - length (words_at_opening shape)) in
    let at_most : (y : Bool) → cond y 1 0 + 0 ≤ 1
    = λ y. elim y as (λ z. cond z 1 0 + 0 ≤ 1) [ true ↦ omega arith | false ↦ omega arith ] in
    record {
      log = [];
      counted = words_at_opening shape;
      counts_words = record {
        room = omega (arith, long);
        same = λ at low _. sym (within at low);
        less = λ slot near. let first = first_counts shape fits slot near in let now = departs slot near in omega arith;
        small = λ slot near. let now = departs slot near in omega arith;
      };
      announcers = plan.announcers;
      told_of = λ id u at _. ap (λ (v : View). v.announcers) (sym (only_one view id u at));
      announced = record {
        space = omega (arith, long);
        says = λ id own u at his low. unsaid own ∙ ap (λ (v : View). v.says) (only_one view id u at);
        wordless = λ id u at _. ap (λ (v : View). v.says) (sym (only_one view id u at));
        holds_it = λ id slot u at loud grips. absurd
            (let none : u.says ≡ 0 = ap (λ (v : View). v.says) (sym (only_one view id u at)) in omega arith);
        unsaid = λ own _ _. unsaid own;
      };
      hears = λ id u at _. subst (Hears (view ∷ [])) (only_one view id u at)
          (record {
            quiet = λ k slot own v _ _ low. absurd (let none = zeros shape.slots slot in omega arith);
            unheard = λ key slot _. zeros shape.slots slot;
          });
      core = core_opens shape fits 0 (omega arith);
      fits = λ j u at. subst (Fits shape []) (only_one view j u at)
          (record {
            begins = record { rest = []; is = refl };
            told = record { rest = []; is = refl };
            own = λ _ _. refl;
            knows_own = λ _ _. refl;
            acts = λ reads. absurd (omega arith);
            sized = λ _. refl;
          });
      callers = tt;
      once = λ caller. at_most (is_by caller view.role);
      made = 0;
      readers = refl;
      fresh = λ caller later.
          let none = ap (λ (y : Bool). cond {A = ℕ} y 1 0) (ne_eqb 0 caller (λ e. omega arith)) in
          omega arith;
      silent = λ _ _. refl;
      marked =
          opens_marked role_of marks_of shape (words_at_opening shape) view refl refl (none_named shape fits)
          (blank_at_opening shape);
      pasts = λ place who there. rw (sym (only_one view place who there))
          (no_places (Since role_of marks_of (view ∷ [])));
      told_pasts = λ place who there. rw (sym (only_one view place who there))
          (no_places (Since role_of marks_of (view ∷ [])));
      maker = λ j u at w. ap (λ (y : View). y.made) (sym (only_one view j u at));
    }
