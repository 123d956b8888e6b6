-- What the writer has heard of slots stays so while tokens step, and tells that nobody holds a slot by a word.
use Rattle.std.proofs.Common.{◌≡◌, ◌≢◌, ℕ, suc, zero, ◌<◌, ◌≤◌, ◌⊎◌, ⊎_elim, inl, List, [], ◌∷◌, ◌++◌, true, cond}
use Rattle.std.proofs.Common.{eq-eqb, get_or, set, ne_eqb, refl, sym, ap, ◌∙◌, arith}
use Rattle.std.proofs.lemmas.Bool.{eqb-true, ltb-false, ltb-true}
use Rattle.std.specs.Prelude.{nat_lt}
use mathlib.Core.Option.{some}
use lib.ListN.{get_elem?}
use Rattle.nr_core.proofs.Choices.{either, on_test}
use Rattle.nr_core.specs.Roles.{holds, is_by, is_writer}
use Rattle.nr_core.specs.Sums.{total}
use Rattle.nr_core.specs.declared.places.Place.{Place}
use Rattle.nr_core.specs.declared.places.Place.TheVariants.{Putting}
use Rattle.nr_core.specs.declared.roles.Role.{Role}
use Rattle.nr_core.specs.declared.roles.Role.TheVariants.{Note, Reader, Writer}
use Rattle.nr_core.specs.declared.shape.Shape.{Shape}
use Rattle.nr_board.specs.Announcing.{Announces, Hears, heard_after, heard_at, lends, lent}
use Rattle.nr_board.specs.Views.{View}
use Rattle.nr_board.proofs.OneView.{at_any, at_more}
use mathlib.Core.Logic.{dite}
use native.Mathlib.Decide.{ℕ_discrete}
use Rattle.std.proofs.Common.{get_or-set_other}

-- all that each writer among the tokens has heard is so
abbrev pub AllHear : List View → Type 0
AllHear views = (id : ℕ) (view : View) → get_elem? views id ≡ some view → is_writer view.role ≡ 1 → Hears views view

-- the token has heard no more than before, and nothing of what a key names newly
pub record HearsOn (view next : View) : Type 0 where
  pub fewer : (slot : ℕ) → get_or next.heard slot 0 ≤ get_or view.heard slot 0
  pub named : (key slot : ℕ) → get_or next.marks.names key 0 ≡ suc slot
      → (get_or view.marks.names key 0 ≡ suc slot) ⊎ (get_or next.heard slot 0 ≡ 0)

-- a writer is no reader
pub no_reader : (role : Role) (own : ℕ) → is_writer role ≡ 1 → is_by (suc own) role ≡ true → ⊥
no_reader (Writer desk) own writes his = absurd (let z = eqb-true 0 (suc own) his in omega arith)
no_reader other own writes his = absurd (omega arith)

-- as a reader it lends nothing, where the writer heard it not to say the slot
abbrev pub IsQuiet : View → ℕ → ℕ → View → Type 0
IsQuiet writer slot own view =
    is_by (suc own) view.role ≡ true → own < get_or writer.heard slot 0 → lends slot view ≡ 0

-- one token's view changes: it lends nothing that another heard it not to say, and if it is the writer what it has
-- heard is so
pub hears_after : (views : List View) (id : ℕ) (view next : View) → get_elem? views id ≡ some view
    → ((other slot own : ℕ) (writer : View) → other ≢ id → get_elem? views other ≡ some writer
    → is_writer writer.role ≡ 1 → is_by (suc own) next.role ≡ true → own < get_or writer.heard slot 0
    → lends slot next ≡ 0)
    → (is_writer next.role ≡ 1 → Hears (set views id next) next) → AllHear views → AllHear (set views id next)
hears_after views id view next at lend mine before =
    at_any {P = λ _ u. is_writer u.role ≡ 1 → Hears (set views id next) u} views id next mine (λ j u ne there writes.
    let heard = before j u there writes in record {
      quiet = λ k slot own. at_any {P = λ _ v. IsQuiet u slot own v} views id next (lend j slot own u ne there writes)
          (λ i v _. heard.quiet i slot own v) k;
      unheard = heard.unheard;
    })

-- the writer goes on, and hears on
hears_itself : (views : List View) (id : ℕ) (view next : View) → is_writer next.role ≡ 1 → HearsOn view next
    → Hears views view → Hears (set views id next) next
hears_itself views id view next writes on heard = record {
  quiet = λ k slot own. at_any {P = λ _ v. IsQuiet next slot own v} views id next
      (λ his _. absurd (no_reader next.role own writes his))
      (λ i v _ here his low. heard.quiet i slot own v here his (let few = on.fewer slot in omega arith)) k;
  unheard = λ key slot names. ⊎_elim
      (λ (was : get_or view.marks.names key 0 ≡ suc slot).
      let none_heard = heard.unheard key slot was in let few = on.fewer slot in omega arith)
      (λ (none_now : get_or next.heard slot 0 ≡ 0). none_now) (on.named key slot names);
}

-- where it lends as before, the others have heard it as before
pub hears_on : (views : List View) (id : ℕ) (view next : View) → get_elem? views id ≡ some view
    → ((caller : ℕ) → is_by caller next.role ≡ is_by caller view.role) → is_writer next.role ≡ is_writer view.role
    → ((slot : ℕ) → lends slot next ≡ lends slot view) → (is_writer view.role ≡ 1 → HearsOn view next) → AllHear views
    → AllHear (set views id next)
hears_on views id view next at same writer lend on before = hears_after views id view next at
    (λ other slot own w _ there writes his low. lend slot
    ∙ (before other w there writes).quiet id slot own view at (sym (same (suc own)) ∙ his) low)
    (λ writes. hears_itself views id view next writes (on (sym writer ∙ writes))
    (before id view at (sym writer ∙ writes)))
    before

-- one token more, which is no writer and says nothing
pub hears_more : (views : List View) (next : View) → next.says ≡ 0 → is_writer next.role ≡ 0 → AllHear views
    → AllHear (views ++ next ∷ [])
hears_more views next silent reads before = at_more {P = λ _ u. is_writer u.role ≡ 1 → Hears (views ++ next ∷ []) u}
    views next (λ _ writes. absurd (omega arith)) (λ j u there writes. let heard = before j u there writes in record {
      quiet = λ k slot own. at_more {P = λ _ v. IsQuiet u slot own v} views next
          (λ _ _ _. ap (λ (n : ℕ). cond (nat_lt 0 n) (holds slot next.role) 0) silent)
          (λ i v. heard.quiet i slot own v) k;
      unheard = heard.unheard;
    })

-- a token that has heard what it had, and whose marks name what they did
pub hears_as : (view next : View) → next.heard ≡ view.heard → next.marks.names ≡ view.marks.names → HearsOn view next
hears_as view next same names =
    record {
      fewer = λ slot. let e = ap (λ (l : List ℕ). get_or l slot 0) same in omega arith;
      named = λ key slot is. inl (ap (λ (l : List ℕ). get_or l key 0) (sym names) ∙ is);
    }

-- what is set to 0 is 0, and no other place has more
pub zero_at : (l : List ℕ) (place : ℕ) → get_or (set l place 0) place 0 ≡ 0
zero_at [] place = refl
zero_at (n ∷ l) zero = refl
zero_at (n ∷ l) (suc place) = zero_at l place

no_more : (l : List ℕ) (place at : ℕ) → get_or (set l place 0) at 0 ≤ get_or l at 0
no_more l place at = dite (ℕ_discrete at place) (λ e. rw e (omega (arith, zero_at l place)))
    (λ ne. omega (arith, get_or-set_other l place at 0 0 ne))

-- a step forgets what was heard of a slot, and hears nothing more
place_forgets : (place : Place) (heard : List ℕ) (slot : ℕ) → get_or (heard_at place heard) slot 0 ≤ get_or heard slot 0
place_forgets (Putting call rows mine departed index) heard slot = no_more heard mine slot
place_forgets other heard slot = omega arith

pub forgets : (role : Role) (heard : List ℕ) (slot : ℕ) → get_or (heard_after role heard) slot 0 ≤ get_or heard slot 0
forgets (Writer desk) heard slot = place_forgets desk.place heard slot
forgets other heard slot = omega arith

-- a sum without terms
no_terms : (f : View → ℕ) (views : List View) → ((id : ℕ) (view : View) → get_elem? views id ≡ some view → f view ≡ 0)
    → total f views ≡ 0
no_terms f [] zeros = refl
no_terms f (view ∷ views) zeros =
    omega (arith, zeros 0 view refl, no_terms f views (λ id other at. zeros (suc id) other at))

-- who is no reader with a word lends nothing
pub lends_none : (view : View) (slot : ℕ) → holds slot view.role ≡ 0 → lends slot view ≡ 0
lends_none view slot nothing =
    on_test (λ (n : ℕ). n ≡ 0) (nat_lt 0 view.says) (λ _. nothing) (λ _. refl)

-- where all readers that have a word were heard, nobody holds the slot by a word
pub lent_heard : (shape : Shape) (announcers : ℕ) (words : List ℕ) (views : List View) (writer : View) (slot : ℕ)
    → Announces shape announcers words views → Hears views writer → announcers ≤ get_or writer.heard slot 0
    → ((id : ℕ) (view : View) → get_elem? views id ≡ some view → is_by 0 view.role ≡ true → is_writer view.role ≡ 1)
    → lent views slot ≡ 0
lent_heard shape announcers words views writer slot announced hears all numbered =
    no_terms (lends slot) views (λ id view at. by_role id view at view.role refl)
  where
    by_role : (id : ℕ) (view : View) → get_elem? views id ≡ some view → (role : Role) → view.role ≡ role
        → lends slot view ≡ 0
    by_role id view at (Writer desk) is = lends_none view slot (ap (holds slot) is)
    by_role id view at Note is = lends_none view slot (ap (holds slot) is)
    by_role id view at (Reader zero grip) is =
        absurd (let one = numbered id view at (ap (is_by 0) is) in let none = ap is_writer is in omega arith)
    by_role id view at (Reader (suc own) grip) is = either (nat_lt own announcers)
        (λ low. hears.quiet id slot own view at (ap (is_by (suc own)) is ∙ eq-eqb (suc own) (suc own) refl)
        (let has = ltb-true own announcers low in omega arith))
        (λ high. ap (λ (n : ℕ). cond (nat_lt 0 n) (holds slot view.role) 0) (announced.wordless id view at
        (λ other low. ap (is_by (suc other)) is
        ∙ ne_eqb (suc own) (suc other) (λ e. let late = ltb-false own announcers high in omega arith))))
