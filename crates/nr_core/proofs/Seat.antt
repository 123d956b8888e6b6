-- One more caller, who holds no slot: it knows nothing, and nothing changes for the others.
use Rattle.std.proofs.Common.{List, [], arith, refl, subst, ℕ, ⊎_elim, ◌++◌, ◌+◌, ◌∷◌, ◌≡◌, ◌≤◌}
use lib.ListN.{get_elem?}
use mathlib.Core.Option.{some}
use Rattle.nr_model.specs.Histories.{Entry}
use Rattle.nr_core.proofs.Sums.{at_snoc, total-append}
use Rattle.nr_core.specs.Core.{Core, Knows}
use Rattle.nr_core.specs.Roles.{held, holds, is_reader, is_writer, keeps}
use Rattle.nr_core.specs.Story.{map_after}
use Rattle.nr_core.specs.Sums.{total}
use Rattle.nr_core.specs.declared.roles.Grip.TheVariants.{Nothing}
use Rattle.nr_core.specs.declared.roles.Role.{Role}
use Rattle.nr_core.specs.declared.roles.Role.TheVariants.{Note, Reader}
use Rattle.nr_core.specs.declared.shape.Shape.{Shape}
use Rattle.nr_core.proofs.Frames.{roles_more}
use Rattle.nr_core.specs.StepLaws.{SeatLaw, NoteLaw}

seated : (shape : Shape) (words : List ℕ) (roles : List Role) (log : List Entry) (role : Role)
    → Core shape words roles log → is_writer role ≡ 0
    → is_reader role + total is_reader roles ≤ shape.readers → ((s : ℕ) → holds s role ≡ 0)
    → ((s : ℕ) → keeps s role ≡ 0)
    → Knows shape words (map_after shape log) (held roles) role
    → Core shape words (roles ++ role ∷ []) log
seated shape words roles log role core no_writer few no_hold no_keep own =
    let more = roles ++ role ∷ [] in
    roles_more core more (λ s. omega (arith, total-append (holds s) roles (role ∷ []), no_hold s))
    (λ s _. omega (arith, total-append (keeps s) roles (role ∷ []), no_keep s))
    (omega (arith, core.one, total-append is_writer roles (role ∷ [])))
    (omega (arith, few, total-append is_reader roles (role ∷ [])))
    (λ j u there. ⊎_elim (λ (t : get_elem? roles j ≡ some u). core.knows j u t)
    (λ (t : role ≡ u). subst (Knows shape words (map_after shape log) (held roles)) t own)
    (at_snoc roles role u j there))

-- a reader joins, where there is room for one more
pub seats : SeatLaw
seats shape words roles log reader core few =
    seated shape words roles log (Reader reader Nothing) core refl (omega arith) (λ _. refl) (λ _. refl) tt

-- a note is made
pub notes : NoteLaw
notes shape words roles log core =
    seated shape words roles log Note core refl (omega arith) (λ _. refl) (λ _. refl) tt
