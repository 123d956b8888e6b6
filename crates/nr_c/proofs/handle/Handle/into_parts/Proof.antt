-- `into_parts` moves two fields, and what they own goes with them.
use Rattle.nr_c.proofs.Walks.{B, Bx, Clauses, D, Ended, Fn, Item, List, Logic, Stays, Tables, Ura, Val, WpFn, X, [], ! }
use Rattle.nr_c.proofs.Walks.{agg, alloc_all, and_then, box_in, box_out, box_typed, by, done, drop, ends_at, ent}
use Rattle.nr_c.proofs.Walks.{enter, fact, fjoin, fld, free_all, fsep, fsplit, ftrue, get, get_in, heard, id⊢, inst_fn}
use Rattle.nr_c.proofs.Walks.{join, look_at, move, no, no_more, nothing, of_opd, pass_all, qed, raw, refl, returns}
use Rattle.nr_c.proofs.Walks.{rewrite, says, sets, split, stop, sub, subst, suffices, sym, type_at, use1, walk_of}
use Rattle.nr_c.proofs.Walks.{whole, word, ‵, ◌$◌, ◌++◌, ◌∵◌, ◌∷◌, ◌≡◌, ◌⊛◌}
use Rattle.nr_c.proofs.HandleMet.{asks_and_gives, at_token, stays, taken, takes}
use Rattle.nr_c.proofs.HandleBox.{Token, boxed, at, Row, Apart}
use Rattle.nr_c.specs.contracts.handle.Handle.into_parts.Key.{name as #self}
use Rattle.nr_c.proofs.handle.Handle.into_parts.Statement as stated
use Rattle.nr_c.proofs.handle.Handle.into_parts.Code as code

module _ (K : Token) where
  abbrev E : Bx
  E = boxed K

  abbrev function : Fn
  function = inst_fn (at K) code.function

  abbrev ended : Ended
  ended = takes (Row K) (Apart K) no

  abbrev stayed : Stays ended.signature.params ended.kept
  stayed = stays (Row K) (Apart K) no

  abbrev spec : {M : Type 1} {𝓤 : Ura M} → Clauses 𝓤 ended
  spec {𝓤 = 𝓤} =
      asks_and_gives (Row K) (Apart K) no (λ handle. fact 𝓤 ((t : X E) × (handle.live ≡ t ∷ [])))
      (λ handle parts. handle.live ≡ parts.value ∷ [])

  module _ {M : Type 1} {𝓤 : Ura M} (𝓛 : Logic 𝓤) (𝓣 : Tables 𝓤 𝓛.H) where
    open 𝓛 use {H}

    walk : (z : (walk_of 𝓛 ended stayed spec).Ghost)
        → ent 𝓤 ((walk_of 𝓛 ended stayed spec).pre z)
        (WpFn 𝓤 H 𝓣.C 𝓣.Λ function (z.0.4.0 ++ []) ((walk_of 𝓛 ended stayed spec).post z))
    walk z =
        let Post = (walk_of 𝓛 ended stayed spec).post z in
        let h : (Row K).Denot = z.0.3.0 in
        qed 𝓛 ((‵ ftrue ⊛ ‵ (fsep ((Row K).own_val h z.0.4.0) ftrue)) ∷ raw (fact 𝓤 ((t : X E) × (h.live ≡ t ∷ []))) ∷
        [])
        ∵ move ! (1 ∷ []) $ heard ! ((t : X E) × (h.live ≡ t ∷ [])) (λ asked.
        let v : D E = record { ptr = h.ptr; alloc = h.alloc; value = asked.0 } in
        let To = type_at ended.signature.result tt in
        let made : To.Denot = record { ptr = v.ptr; alloc = v.alloc; value = v.value } in
        split ! $ drop ! $ fsplit ! $
        rewrite
        ! 0 (λ (l : List (X E)). ‵ ((Row K).own_val (record { ptr = h.ptr; alloc = h.alloc; live = l }) z.0.4.0))
        asked.1
        refl
        $
        use1 𝓛 (‵ ((B E).own_val v z.0.4.0)) (id⊢ 𝓤 _) $
        box_out E
        ! v z.0.4.0
        (λ b o hv e ws fa. box_in E ! v b o v.value e refl
        $ use1 𝓛 (‵ (To.own_val made (word E hv b o ∷ []))) (id⊢ 𝓤 _) $ move ! (1 ∷ []) $ drop ! $
        let w = word E hv b o in
        let Γ : List (Item 𝓤) = ‵ (To.own_val made (w ∷ [])) ∷ [] in
        by ! (subst (λ (us : List Val). ent 𝓤 (types.Kit.⋆ 𝓛 Γ) (WpFn 𝓤 H 𝓣.C 𝓣.Λ function (us ++ []) Post)) (sym ws)
        (qed 𝓛 Γ ∵ enter ! 𝓣.C 𝓣.Λ function (w ∷ []) _ $ alloc_all
        ! (λ ls. pass_all ! refl (box_typed E hv b o fa, tt) $
        sets ! (of_opd ! (get_in ! (fld ! refl (stop !)) (sub ! 0 refl (whole !)))) refl (tt, tt) $ sets
        ! (of_opd ! (get_in ! (fld ! refl (stop !)) (sub ! 1 refl (whole !)))) refl fa $
        sets ! (agg ! (and_then ! (get ! refl) (and_then ! (get ! refl) (no_more !)))) refl (box_typed E hv b o fa)
        $ returns ! (look_at ! 0 refl) $ free_all ! refl $
        suffices ! _ (ends_at 𝓛 ended stayed spec z w made (tt, tt) (tt, tt)) $ says ! asked.1 $
        nothing ! $ nothing ! $ fjoin ! $ join ! $ nothing ! $ join ! $ done !)))))

pub into_parts_spec : {M : Type 1} → stated.statement M
into_parts_spec 𝓤 𝓛 𝓜 𝓡 wired Y L y =
    let K : Token = record { row = Y; laws = L } in
    at_token 𝓛 𝓜 𝓡 Y (#self (at K)) (function K) (ended K) (spec K) (code.unfolded 𝓤 𝓛.H 𝓜 𝓡 wired (Y, tt))
    (taken (Row K) (Apart K) no 𝓛 (λ κs x f. refl) (spec K) (function K) (walk K 𝓛))
    ((y.0.0, y.0.1, tt, y.0.3, y.0.4), y.1)
