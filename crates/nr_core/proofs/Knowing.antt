-- What callers know of readers stays so: after a step, which may learn more, and when one more caller comes. What a
-- note tells of readers is so.
use Rattle.std.proofs.Common.{List, [], ap, inl, inr, refl, set, suc, sym, zero, ℕ, ⊎_elim, ◌++◌, ◌∙◌, ◌∷◌, ◌≡◌, ◌≢◌}
use Rattle.std.proofs.Common.{◌⊎◌, subst}
use lib.ListN.{get_elem?}
use mathlib.Core.Option.{some, some-injective, some-ne-none}
use Rattle.nr_core.proofs.Sums.{at_set, at_snoc}
use Rattle.nr_model.specs.Histories.{Entry}
use Rattle.nr_core.specs.declared.operation.Operation.{Operation}
use Rattle.nr_core.specs.declared.shape.Shape.{Shape}
use Rattle.nr_core.specs.declared.roles.Role.{Role}
use Rattle.nr_core.specs.declared.roles.Role.TheVariants.{Note, Reader, Writer}
use Rattle.nr_core.specs.Marks.{Marks, Past, past, told_by}
use Rattle.nr_core.specs.Marked.{AllSince, Evolves, Knowing, MarkTelling, Remarked, Since}
use Rattle.nr_core.proofs.Holders.{since_now}
use Rattle.nr_core.proofs.ListPlaces.{no_places}
use Rattle.nr_core.proofs.MarksSince.{since_set, since_snoc}

at_append : (l m : List Past) (n : ℕ) (p : Past) → get_elem? (l ++ m) n ≡ some p
    → ((i : ℕ) × (get_elem? l i ≡ some p)) ⊎ ((i : ℕ) × (get_elem? m i ≡ some p))
at_append [] m n p e = inr (n, e)
at_append (x ∷ xs) m zero p e = inl (zero, e)
at_append (x ∷ xs) m (suc n) p e =
    ⊎_elim (λ (t : (i : ℕ) × (get_elem? xs i ≡ some p)). inl (suc t.0, t.1)) (λ t. inr t) (at_append xs m n p e)

module _ {A : Type 0} (role : A → Role) (marks : A → Marks) where
  pub since_both : (callers : List A) (news known : List Past) → AllSince role marks callers news
      → AllSince role marks callers known → AllSince role marks callers (news ++ known)
  since_both callers news known new old n p e =
      elim (at_append news known n p e) [ inl q ↦ new q.0 p q.1 | inr q ↦ old q.0 p q.1 ]

  module _ (pasts : A → List Past) where
    -- after a step of the caller at `id`, or where its view changes beside its role
    pub knowing_set : (callers : List A) (id : ℕ) (before after : A) → get_elem? callers id ≡ some before
        → Evolves role marks before after → AllSince role marks callers (pasts after)
        → Knowing role marks pasts callers → Knowing role marks pasts (set callers id after)
    knowing_set callers id before after at step since knows place who there n p e =
        since_set role marks callers id before after p at step
        (⊎_elim
        (λ (z : (place ≡ id) × (after ≡ who)). since n p (ap (λ (y : A). get_elem? (pasts y) n) z.1 ∙ e))
        (λ (z : (place ≢ id) × (get_elem? callers place ≡ some who)). knows place who z.1 n p e)
        (at_set callers id place after who there))

    pub knowing_snoc : (callers : List A) (more : A) → AllSince role marks callers (pasts more)
        → Knowing role marks pasts callers → Knowing role marks pasts (callers ++ more ∷ [])
    knowing_snoc callers more since knows place who there n p e = since_snoc role marks callers more p
        (⊎_elim (λ (z : get_elem? callers place ≡ some who). knows place who z n p e)
        (λ (z : more ≡ who). since n p (ap (λ (y : A). get_elem? (pasts y) n) z ∙ e))
        (at_snoc callers more who place there))

    -- what a note tells of readers
    pub told_since : (callers : List A) (id : ℕ) (before : A) → get_elem? callers id ≡ some before
        → AllSince role marks callers (pasts before)
        → AllSince role marks callers (told_by (role before) (marks before) (pasts before))
    told_since callers id before at known = told (role before) refl
      where
        told : (r : Role) → role before ≡ r → AllSince role marks callers (told_by r (marks before) (pasts before))
        told (Writer desk) is = known
        told (Reader reader grip) is = own
          where
            own : AllSince role marks callers (past reader grip (marks before) ∷ [])
            own zero p e =
                subst (Since role marks callers) (some-injective (past reader grip (marks before)) p e)
                (since_now
                (record { place = id; who = before; reader = reader; grip = grip; there = at; is = is }))
            own (suc n) p e = absurd (some-ne-none p (sym e))
        told Note is = no_places (Since role marks callers)

  -- after a step the caller knows what it knew and what it learnt, and the others what they knew
  pub knowing_step : (pasts told : A → List Past) (shape : Shape) (words : List ℕ) (callers : List A) (log : List Entry)
      (id : ℕ) (me : A) (operation : Operation) (after : Role) (entries : List Entry) (tells : MarkTelling)
      → get_elem? callers id ≡ some me → Knowing role marks pasts callers → Knowing role marks told callers
      → (step : Remarked role marks shape words callers log id operation me after entries tells)
      → (next : A) → role next ≡ after → marks next ≡ step.now → pasts next ≡ step.news ++ pasts me
      → told next ≡ told me
      → Knowing role marks pasts (set callers id next) × Knowing role marks told (set callers id next)
  knowing_step pasts told shape words callers log id me operation after entries tells at knows hears step next is_role
      is_marks learns keeps =
      let evolves = step.evolves next is_role is_marks in (
        knowing_set pasts callers id me next at evolves
            (subst (AllSince role marks callers) (sym learns)
            (since_both callers step.news (pasts me) step.since (knows id me at)))
            knows,
        knowing_set told callers id me next at evolves
            (subst (AllSince role marks callers) (sym keeps) (hears id me at))
            hears,
      )
