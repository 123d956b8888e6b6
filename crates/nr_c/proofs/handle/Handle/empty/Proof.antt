-- `empty` puts null beside its allocator, and owns nothing with it.
use Rattle.nr_c.proofs.Walks.{Bx, Clauses, Ended, Fn, Item, List, Logic, P, Ptr, RawPtr, Stays, Tables, Ura, Val, Valss}
use Rattle.nr_c.proofs.Walks.{WpFn, [], !, agg, alloc_all, and_then, by, done, drop, emp, ends_at, ent, enter, feq_i}
use Rattle.nr_c.proofs.Walks.{fjoin, fpack, free_all, fsep, fsplit, ftrue, get, handle_tells, has_ty, id⊢, inst_fn}
use Rattle.nr_c.proofs.Walks.{join, lit, lit<, look_at, move, no_more, nothing, null_ptr, owning, pass_all, ptr_val}
use Rattle.nr_c.proofs.Walks.{qed, raw, refl, returns, says, sets, shape, split, subst, suffices, sym, type_at, use1}
use Rattle.nr_c.proofs.Walks.{vcons, vnil, vnull, vstruct, walk_of, within, yes, α, ‵, ◌$◌, ◌++◌, ◌∵◌, ◌∷◌, ◌≡◌, ◌⊛◌}
use Rattle.std_alloc.proofs.ResultValues.{and_tt}
use Rattle.std_heap.specs.contracts.Global as Heap
use Rattle.nr_c.proofs.HandleMet.{asks_and_gives, at_token, stays, taken, takes}
use Rattle.nr_c.proofs.HandleBox.{Token, boxed, at, Row}
use Rattle.nr_c.specs.contracts.handle.Handle.empty.Key.{name as #self}
use Rattle.nr_c.proofs.handle.Handle.empty.Statement as stated
use Rattle.nr_c.proofs.handle.Handle.empty.Code as code

module _ (K : Token) where
  abbrev E : Bx
  E = boxed K

  abbrev function : Fn
  function = inst_fn (at K) code.function

  abbrev ended : Ended
  ended = takes Heap.the_row (Row K) yes

  abbrev stayed : Stays ended.signature.params ended.kept
  stayed = stays Heap.the_row (Row K) yes

  abbrev spec : {M : Type 1} {𝓤 : Ura M} → Clauses 𝓤 ended
  spec {𝓤 = 𝓤} = asks_and_gives Heap.the_row (Row K) yes (λ _. emp 𝓤) (λ _ handle. handle.live ≡ [])

  module _ {M : Type 1} {𝓤 : Ura M} (𝓛 : Logic 𝓤) (𝓣 : Tables 𝓤 𝓛.H) where
    open 𝓛 use {H}

    walk : (z : (walk_of 𝓛 ended stayed spec).Ghost)
        → ent 𝓤 ((walk_of 𝓛 ended stayed spec).pre z)
        (WpFn 𝓤 H 𝓣.C 𝓣.Λ function (z.0.4.0 ++ []) ((walk_of 𝓛 ended stayed spec).post z))
    walk z =
        let Post = (walk_of 𝓛 ended stayed spec).post z in
        let a = z.0.3.0 in
        let To = type_at ended.signature.result tt in
        let made : To.Denot = record { ptr = null_ptr; alloc = a; live = [] } in
        qed 𝓛 ((‵ ftrue ⊛ ‵ (fsep (Heap.the_row.own_val a z.0.4.0) ftrue)) ∷ raw (emp 𝓤) ∷ []) ∵ split ! $ drop ! $
        fsplit
        ! $
        handle_tells E.al ! a z.0.4.0 (λ hv ws fa.
        let w : Val = vstruct (vcons vnull (vcons hv vnil)) in
        move ! (1 ∷ 2 ∷ []) $ drop ! $ drop ! $
        feq_i ! Ptr null_ptr null_ptr refl $ nothing ! $ move ! (2 ∷ 0 ∷ []) $ fjoin ! $ feq_i
        ! (List Val) (vnull ∷ []) (ptr_val null_ptr ∷ []) refl $ fjoin ! $
        feq_i ! (List Val) (w ∷ []) (w ∷ []) refl $ fjoin ! $
        fpack
        ! (Valss (RawPtr ∷ P E ∷ [])) (within (shape (owning E)) (null_ptr, (a, tt)) (w ∷ []))
        (vnull ∷ [], (hv ∷ [], tt))
        $ fjoin ! $
        use1 𝓛 (‵ (To.own_val made (w ∷ []))) (id⊢ 𝓤 _) $
        let Γ : List (Item 𝓤) = ‵ (To.own_val made (w ∷ [])) ∷ [] in
        by ! (subst (λ (us : List Val). ent 𝓤 (types.Kit.⋆ 𝓛 Γ) (WpFn 𝓤 H 𝓣.C 𝓣.Λ function (us ++ []) Post)) (sym ws)
        (qed 𝓛 Γ ∵ enter ! 𝓣.C 𝓣.Λ function (hv ∷ []) _ $ alloc_all ! (λ ls. pass_all ! refl (fa, tt) $
        sets
        ! (agg ! (and_then ! (lit ! tt) (and_then ! (get ! refl) (no_more !)))) refl
        (and_tt (has_ty (α E.al) hv) fa.0, (record { fits = lit< tt }, (fa.1, tt)))
        $ returns ! (look_at ! 0 refl) $ free_all ! refl $
        suffices ! _ (ends_at 𝓛 ended stayed spec z w made (tt, tt) (tt, tt)) $ says ! refl $
        nothing ! $ nothing ! $ fjoin ! $ join ! $ nothing ! $ join ! $ done !))))

pub empty_spec : {M : Type 1} → stated.statement M
empty_spec 𝓤 𝓛 𝓜 𝓡 wired Y L y =
    let K : Token = record { row = Y; laws = L } in
    at_token 𝓛 𝓜 𝓡 Y (#self (at K)) (function K) (ended K) (spec K) (code.unfolded 𝓤 𝓛.H 𝓜 𝓡 wired (Y, tt))
    (taken Heap.the_row (Row K) yes 𝓛 (λ κs x f. refl) (spec K) (function K) (walk K 𝓛))
    ((y.0.0, y.0.1, tt, y.0.3, y.0.4), y.1)
