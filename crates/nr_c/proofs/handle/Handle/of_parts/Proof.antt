-- `of_parts` moves two fields, and what they own goes with them.
use Rattle.nr_c.proofs.Walks.{B, Bx, Clauses, D, Ended, Fn, Item, List, Logic, Stays, Tables, Ura, Val, WpFn, [], ! }
use Rattle.nr_c.proofs.Walks.{agg, alloc_all, and_then, box_in, box_out, box_typed, by, done, drop, emp, ends_at, ent}
use Rattle.nr_c.proofs.Walks.{enter, fjoin, fld, free_all, fsep, fsplit, ftrue, get, get_in, id⊢, inst_fn, join}
use Rattle.nr_c.proofs.Walks.{look_at, move, no, no_more, nothing, of_opd, pass_all, qed, raw, refl, returns, says}
use Rattle.nr_c.proofs.Walks.{sets, split, stop, sub, subst, suffices, sym, type_at, use1, walk_of, whole, word, ‵}
use Rattle.nr_c.proofs.Walks.{◌$◌, ◌++◌, ◌∵◌, ◌∷◌, ◌≡◌, ◌⊛◌}
use Rattle.nr_c.proofs.HandleMet.{asks_and_gives, at_token, stays, taken, takes}
use Rattle.nr_c.proofs.HandleBox.{Token, boxed, at, Row, Apart}
use Rattle.nr_c.specs.contracts.handle.Handle.of_parts.Key.{name as #self}
use Rattle.nr_c.proofs.handle.Handle.of_parts.Statement as stated
use Rattle.nr_c.proofs.handle.Handle.of_parts.Code as code

module _ (K : Token) where
  abbrev E : Bx
  E = boxed K

  abbrev function : Fn
  function = inst_fn (at K) code.function

  abbrev ended : Ended
  ended = takes (Apart K) (Row K) no

  abbrev stayed : Stays ended.signature.params ended.kept
  stayed = stays (Apart K) (Row K) no

  abbrev spec : {M : Type 1} {𝓤 : Ura M} → Clauses 𝓤 ended
  spec {𝓤 = 𝓤} = asks_and_gives (Apart K) (Row K) no (λ _. emp 𝓤) (λ parts handle. handle.live ≡ parts.value ∷ [])

  module _ {M : Type 1} {𝓤 : Ura M} (𝓛 : Logic 𝓤) (𝓣 : Tables 𝓤 𝓛.H) where
    open 𝓛 use {H}

    walk : (z : (walk_of 𝓛 ended stayed spec).Ghost)
        → ent 𝓤 ((walk_of 𝓛 ended stayed spec).pre z)
        (WpFn 𝓤 H 𝓣.C 𝓣.Λ function (z.0.4.0 ++ []) ((walk_of 𝓛 ended stayed spec).post z))
    walk z =
        let Post = (walk_of 𝓛 ended stayed spec).post z in
        let v : D E = record { ptr = z.0.3.0.ptr; alloc = z.0.3.0.alloc; value = z.0.3.0.value } in
        let To = type_at ended.signature.result tt in
        let made : To.Denot = record { ptr = v.ptr; alloc = v.alloc; live = v.value ∷ [] } in
        qed 𝓛 ((‵ ftrue ⊛ ‵ (fsep ((B E).own_val v z.0.4.0) ftrue)) ∷ raw (emp 𝓤) ∷ []) ∵ split ! $ drop ! $ fsplit ! $
        box_out E
        ! v z.0.4.0
        (λ b o hv e ws fa. box_in E ! v b o v.value e refl
        $ use1 𝓛 (‵ (To.own_val made (word E hv b o ∷ []))) (id⊢ 𝓤 _) $ move ! (1 ∷ 2 ∷ []) $ drop ! $ drop !
        $
        let w = word E hv b o in
        let Γ : List (Item 𝓤) = ‵ (To.own_val made (w ∷ [])) ∷ [] in
        by ! (subst (λ (us : List Val). ent 𝓤 (types.Kit.⋆ 𝓛 Γ) (WpFn 𝓤 H 𝓣.C 𝓣.Λ function (us ++ []) Post)) (sym ws)
        (qed 𝓛 Γ ∵ enter ! 𝓣.C 𝓣.Λ function (w ∷ []) _ $ alloc_all
        ! (λ ls. pass_all ! refl (box_typed E hv b o fa, tt) $
        sets ! (of_opd ! (get_in ! (fld ! refl (stop !)) (sub ! 0 refl (whole !)))) refl (tt, tt) $ sets
        ! (of_opd ! (get_in ! (fld ! refl (stop !)) (sub ! 1 refl (whole !)))) refl fa $
        sets ! (agg ! (and_then ! (get ! refl) (and_then ! (get ! refl) (no_more !)))) refl (box_typed E hv b o fa)
        $ returns ! (look_at ! 0 refl) $ free_all ! refl $
        suffices ! _ (ends_at 𝓛 ended stayed spec z w made (tt, tt) (tt, tt)) $ says ! refl $
        nothing ! $ nothing ! $ fjoin ! $ join ! $ nothing ! $ join ! $ done !))))

pub of_parts_spec : {M : Type 1} → stated.statement M
of_parts_spec 𝓤 𝓛 𝓜 𝓡 wired Y L y =
    let K : Token = record { row = Y; laws = L } in
    at_token 𝓛 𝓜 𝓡 Y (#self (at K)) (function K) (ended K) (spec K) (code.unfolded 𝓤 𝓛.H 𝓜 𝓡 wired (Y, tt))
    (taken (Apart K) (Row K) no 𝓛 (λ κs x f. refl) (spec K) (function K) (walk K 𝓛))
    ((y.0.0, y.0.1, tt, y.0.3, y.0.4), y.1)
