-- `is_live` reads the pointer and compares it with null; the handle stays.
use Rattle.nr_c.proofs.Walks.{B, Bx, Clauses, D, Ended, Fn, GName, Goes-ref, Lft, List, Logic, Meets, MutRef, P, Ptr}
use Rattle.nr_c.proofs.Walks.{RawPtr, RefMutOf, SProp, Share, Stays, Tables, Testable, Ura, Val, Valss, WpFn}
use Rattle.nr_c.proofs.Walks.{WpFn-mono, X, [], !, alloc_all, ap, bin, block_ptr, bool, box_in, box_out, by, cell_at}
use Rattle.nr_c.proofs.Walks.{closes, closing, done, emp, ends_at, ent, enter, fact, fact_i, fact_use, feq_i, feq_l}
use Rattle.nr_c.proofs.Walks.{fjoin, fld, flft, fpack, fpick, free_all, fsplit, fsplit3, ftrue, full_share, get, given}
use Rattle.nr_c.proofs.Walks.{group, guard_i, handle_tells, id⊢, inst_fn, join, keep, learn, lit, lit<, load, look_at}
use Rattle.nr_c.proofs.Walks.{look_in, move, mut_Tells, mut_vals, named, never_e, nothing, null_ptr, of_list, of_opd}
use Rattle.nr_c.proofs.Walks.{opens, owned, owning, pass_all, plain, ptr_val, qed, raw, refl, returns, rewrite, sem}
use Rattle.nr_c.proofs.Walks.{sep, sets, shape, split, stay_ref, stop, sub, subst, suffices, sym, tests_null, through}
use Rattle.nr_c.proofs.Walks.{token, un, use0, use1, vbool, vcons, vnil, vnull, vptr, vstruct, walk_Meets, walk_of}
use Rattle.nr_c.proofs.Walks.{walked, whole, within, word, yes, τ, ‵, ℕ, ◌$◌, ◌++◌, ◌∵◌, ◌∷◌, ◌≡◌, ◌⊛◌}
use mathlib.Core.Bool.{true, false}
use mir.Raw.{raw as bare}
use denote.Plain.{bool_Makes}
use Rattle.std.proofs.GlobalToken.{dealloc_token-Testable}
use Rattle.nr_c.proofs.HandleMet.{at_token}
use Rattle.nr_c.proofs.HandleBox.{Token, boxed, at, Row}
use Rattle.std.specs.Bool.{OnFalse, OnTrue}
use Rattle.nr_c.specs.contracts.handle.Handle.is_live.Key.{name as #self}
use Rattle.nr_c.proofs.handle.Handle.is_live.Statement as stated
use Rattle.nr_c.proofs.handle.Handle.is_live.Code as code

module _ (K : Token) where
  abbrev E : Bx
  E = boxed K

  abbrev function : Fn
  function = inst_fn (at K) code.function

  abbrev ended : Ended
  ended =
      record {
        signature = record {
          lifetimes = 1;
          outlives = [];
          params = RefMutOf (0 ∷ []) tt (plain (λ _. Row K)) (λ _. tt)
              ∷ [];
          result = plain (λ _. bool);
        };
        kept = (yes, tt);
      }

  abbrev stayed : Stays ended.signature.params ended.kept
  stayed = (stay_ref (0 ∷ []) tt (plain (λ _. Row K)), tt)

  abbrev spec : {M : Type 1} {𝓤 : Ura M} (𝓛 : Logic 𝓤) → Clauses 𝓤 ended
  spec {𝓤 = 𝓤} 𝓛 κs a =
      record {
        ghost = Unit {0};
        requires = λ _. emp 𝓤;
        ensures = λ _ r w. sep 𝓤 (fact 𝓤 (w.0.now ≡ a.0.now))
            (sep 𝓤 (fact 𝓤 (OnTrue r ((t : X E) × (w.0.now.live ≡ t ∷ []))))
            (fact 𝓤 (OnFalse r (w.0.now.live ≡ []))));
      }

  abbrev with_live : (Row K).Denot → List (X E) → (Row K).Denot
  with_live h l = record { ptr = h.ptr; alloc = h.alloc; live = l }

  abbrev box_of : (Row K).Denot → X E → D E
  box_of h t = record { ptr = h.ptr; alloc = h.alloc; value = t }

  module _ {M : Type 1} {𝓤 : Ura M} (𝓛 : Logic 𝓤) (𝓣 : Tables 𝓤 𝓛.H)
      (κ : Lft) (q : Share) (rb ro : ℕ) (γ : GName) (h : (Row K).Denot) where
    open 𝓛 use {H}

    abbrev bound : (walk_of 𝓛 ended stayed (spec 𝓛)).Ghost
    bound = (
      ((κ, tt), (q, tt), tt, (record { ref_ptr = (rb, ro); ghost_name = γ; now = h }, tt), (vptr rb ro ∷ [], tt)),
      tt,
    )

    abbrev Post : Val → SProp 𝓤
    Post = (walk_of 𝓛 ended stayed (spec 𝓛)).post bound

    abbrev Self : Type 1
    Self =
        ent 𝓤
        (types.Kit.⋆ 𝓛
        (‵ ((MutRef (named 0) κ (Row K)).own_val (record { ref_ptr = (rb, ro); ghost_name = γ; now = h })
        (vptr rb ro ∷ []))
        ∷ ‵ (flft κ q) ∷ []))
        (WpFn 𝓤 H 𝓣.C 𝓣.Λ function (vptr rb ro ∷ []) Post)

    led : (t : X E) → h.live ≡ t ∷ [] → Self
    led t is =
        qed 𝓛
        (‵ ((MutRef (named 0) κ (Row K)).own_val (record { ref_ptr = (rb, ro); ghost_name = γ; now = h })
        (vptr rb ro ∷ []))
        ∷ ‵ (flft κ q) ∷ [])
        ∵
        enter ! 𝓣.C 𝓣.Λ function (vptr rb ro ∷ []) Post $ alloc_all ! (λ l. pass_all ! refl ((tt, tt), tt) $
        fsplit3 ! $ move ! (1 ∷ 2 ∷ 3 ∷ []) $ opens ! tt (Row K) {h = h} rb ro (λ vs. move ! (1 ∷ []) $
        rewrite ! 0 (λ (l : List (X E)). ‵ ((Row K).own_val (with_live h l) vs)) is refl $
        use1 𝓛 (‵ ((B E).own_val (box_of h t) vs)) (id⊢ 𝓤 _) $
        box_out E ! (box_of h t) vs (λ b o hv at_b ws fa. move ! (1 ∷ []) $
        let right = token E.al h.alloc (bare (τ E)) (block_ptr b o) in
        use1 𝓛 (given (Testable (block_ptr b o)) (‵ right))
        (fact_use 𝓤 (Testable (block_ptr b o)) (dealloc_token-Testable 𝓛 h.alloc (bare (τ E)) (block_ptr b o))
        (λ p. guard_i 𝓤 (Testable (block_ptr b o)) (sem 𝓛 right) p))
        $ learn ! (λ test.
        rewrite ! 3 (λ (us : List Val). ‵ (cell_at full_share (Row K).mir us rb ro)) ws refl $
        sets
        ! (of_opd ! (load ! (through ! refl (fld ! refl (stop !))) (look_in ! 3 (sub ! 0 refl (whole !))))) refl
        (tt, tt)
        $
        sets ! (bin ! (get ! refl) (lit ! tt) (tests_null (block_ptr b o) test)) refl (tt, tt) $
        sets ! (un ! (get ! refl) tt) refl (tt, tt) $
        move ! (1 ∷ 0 ∷ 2 ∷ []) $ box_in E ! (box_of h t) b o t at_b refl $
        use1 𝓛 (‵ ((Row K).own_val (with_live h (t ∷ [])) (word E hv b o ∷ []))) (id⊢ 𝓤 _) $
        rewrite ! 0 (λ (l : List (X E)). ‵ ((Row K).own_val (with_live h l) (word E hv b o ∷ []))) (sym is) refl $
        move ! (1 ∷ []) $ closes ! tt (Row K) h (word E hv b o ∷ []) rb ro $
        returns ! (look_at ! 0 refl) $ free_all ! refl $ move ! (3 ∷ []) $
        suffices ! _ (ends_at 𝓛 ended stayed (spec 𝓛) bound (vbool true) true (h, tt) (tt, tt)) $
        group ! 3 $ nothing ! $ move ! (1 ∷ 0 ∷ []) $ join ! $ nothing ! $ move ! (2 ∷ 0 ∷ []) $ join ! $ owned
        ! bool _ (bool_Makes 𝓛) true _ refl $
        use0 𝓛 (raw (fact 𝓤 (Unit {0}))) (fact_i 𝓤 (Unit {0}) (emp 𝓤) tt)
        $ use0 𝓛 (raw (fact 𝓤 ((u : X E) × (h.live ≡ u ∷ []))))
        (fact_i 𝓤 ((u : X E) × (h.live ≡ u ∷ [])) (emp 𝓤) (t, is))
        $
        use0 𝓛 (raw (fact 𝓤 (h ≡ h))) (fact_i 𝓤 (h ≡ h) (emp 𝓤) refl) $ move ! (4 ∷ 5 ∷ 3 ∷ []) $ group ! 3 $ done !))))

    none : h.live ≡ [] → Self
    none is =
        qed 𝓛
        (‵ ((MutRef (named 0) κ (Row K)).own_val (record { ref_ptr = (rb, ro); ghost_name = γ; now = h })
        (vptr rb ro ∷ []))
        ∷ ‵ (flft κ q) ∷ [])
        ∵
        enter ! 𝓣.C 𝓣.Λ function (vptr rb ro ∷ []) Post $ alloc_all ! (λ l. pass_all ! refl ((tt, tt), tt) $
        fsplit3 ! $ move ! (1 ∷ 2 ∷ 3 ∷ []) $ opens ! tt (Row K) {h = h} rb ro (λ vs. move ! (1 ∷ []) $
        rewrite ! 0 (λ (l : List (X E)). ‵ ((Row K).own_val (with_live h l) vs)) is refl $
        fsplit ! $ move ! (1 ∷ []) $ feq_l
        ! (λ null. fpick
        ! (λ vss. fsplit ! $ feq_l
        ! (λ ev. fsplit ! $ feq_l ! (λ ep. fsplit ! $ handle_tells E.al ! h.alloc vss.1.0 (λ hv ea fa.
        let w : Val = vstruct (vcons vnull (vcons hv vnil)) in
        let ws : vs ≡ w ∷ [] = subst (λ (p : Ptr). vs ≡ vstruct (of_list (ptr_val p ∷ hv ∷ [])) ∷ []) null
        (subst (λ (us : List Val). vs ≡ vstruct (of_list (ptr_val h.ptr ∷ (us ++ []))) ∷ []) ea
        (subst (λ (ps : List Val). vs ≡ vstruct (of_list (ps ++ (vss.1.0 ++ []))) ∷ []) ep ev)) in
        rewrite ! 2 (λ (us : List Val). ‵ (cell_at full_share (Row K).mir us rb ro)) ws refl $
        sets
        ! (of_opd ! (load ! (through ! refl (fld ! refl (stop !))) (look_in ! 2 (sub ! 0 refl (whole !))))) refl
        (tt, record { fits = lit< tt })
        $
        sets ! (bin ! (get ! refl) (lit ! tt) tt) refl (tt, tt) $
        sets ! (un ! (get ! refl) tt) refl (tt, tt) $
        feq_i ! Ptr h.ptr null_ptr null $ move ! (1 ∷ 2 ∷ []) $ fjoin ! $
        feq_i ! (List Val) (vnull ∷ []) (ptr_val h.ptr ∷ []) (ap (λ (p : Ptr). ptr_val p ∷ []) (sym null)) $ fjoin !
        $ feq_i ! (List Val) (w ∷ []) (w ∷ []) refl $ fjoin ! $
        fpack
        ! (Valss (RawPtr ∷ P E ∷ [])) (within (shape (owning E)) (h.ptr, (h.alloc, tt)) (w ∷ []))
        (vnull ∷ [], (hv ∷ [], tt))
        $ fjoin ! $
        use1 𝓛 (‵ ((Row K).own_val (with_live h []) (w ∷ []))) (id⊢ 𝓤 _) $
        rewrite ! 0 (λ (l : List (X E)). ‵ ((Row K).own_val (with_live h l) (w ∷ []))) (sym is) refl $
        move ! (1 ∷ []) $ closes ! tt (Row K) h (w ∷ []) rb ro $
        returns ! (look_at ! 0 refl) $ free_all ! refl $ move ! (3 ∷ []) $
        suffices ! _ (ends_at 𝓛 ended stayed (spec 𝓛) bound (vbool false) false (h, tt) (tt, tt)) $
        group ! 3 $ nothing ! $ move ! (1 ∷ 0 ∷ []) $ join ! $ nothing ! $ move ! (2 ∷ 0 ∷ []) $ join ! $ owned
        ! bool _ (bool_Makes 𝓛) false _ refl $
        use0 𝓛 (raw (fact 𝓤 (h.live ≡ []))) (fact_i 𝓤 (h.live ≡ []) (emp 𝓤) is)
        $ use0 𝓛 (raw (fact 𝓤 (Unit {0}))) (fact_i 𝓤 (Unit {0}) (emp 𝓤) tt) $
        use0 𝓛 (raw (fact 𝓤 (h ≡ h))) (fact_i 𝓤 (h ≡ h) (emp 𝓤) refl) $ move ! (4 ∷ 5 ∷ 3 ∷ []) $ group ! 3 $ done
        !)))))))

    many : (t u : X E) (ts : List (X E)) → h.live ≡ t ∷ u ∷ ts → Self
    many t u ts is =
        qed 𝓛
        (‵ ((MutRef (named 0) κ (Row K)).own_val (record { ref_ptr = (rb, ro); ghost_name = γ; now = h })
        (vptr rb ro ∷ []))
        ∷ ‵ (flft κ q) ∷ [])
        ∵
        enter ! 𝓣.C 𝓣.Λ function (vptr rb ro ∷ []) Post $ alloc_all ! (λ l. pass_all ! refl ((tt, tt), tt) $
        fsplit3 ! $ move ! (1 ∷ 2 ∷ 3 ∷ []) $ opens ! tt (Row K) {h = h} rb ro (λ vs. move ! (1 ∷ []) $
        rewrite ! 0 (λ (l : List (X E)). ‵ ((Row K).own_val (with_live h l) vs)) is refl $
        fsplit ! $ keep ! (1 ∷ []) $ by ! (never_e 𝓤 _)))

    each : (l : List (X E)) → h.live ≡ l → Self
    each [] is = none is
    each (t ∷ []) is = led t is
    each (t ∷ u ∷ ts) is = many t u ts is

  meets : {M : Type 1} {𝓤 : Ura M} (𝓛 : Logic 𝓤) (𝓣 : Tables 𝓤 𝓛.H)
      → Meets 𝓛 ended.signature (WpFn 𝓤 𝓛.H 𝓣.C 𝓣.Λ function) (closing 𝓛 ended (spec 𝓛))
  meets {𝓤 = 𝓤} 𝓛 𝓣 =
      walk_Meets 𝓛 ended stayed (Goes-ref 𝓛 1 0 tt (plain (λ _. (Row K))), tt) (spec 𝓛)
      (WpFn 𝓤 𝓛.H 𝓣.C 𝓣.Λ function) (WpFn-mono 𝓤 𝓛.H 𝓛.laws 𝓣 function)
      (walked 𝓛 ended stayed (spec 𝓛) (WpFn 𝓤 𝓛.H 𝓣.C 𝓣.Λ function) (λ κs. (mut_vals, tt))
      (λ κs. (mut_Tells (named 0) κs.0 (Row K), tt))
      (λ κs qs bounds a g are.
      qed 𝓛
      (((‵ (flft κs.0 qs.0) ⊛ ‵ ftrue) ⊛ ‵ ((MutRef (named 0) κs.0 (Row K)).own_val a.0 (mut_vals a.0)) ⊛ ‵ ftrue)
      ∷ raw (emp 𝓤) ∷ [])
      ∵
      split ! $ split ! $ move ! (2 ∷ []) $ split ! $ keep ! (0 ∷ 2 ∷ []) $
      by ! (each 𝓛 𝓣 κs.0 qs.0 a.0.ref_ptr.0 a.0.ref_ptr.1 a.0.ghost_name a.0.now a.0.now.live refl)))

pub is_live_spec : {M : Type 1} → stated.statement M
is_live_spec 𝓤 𝓛 𝓜 𝓡 wired Y L y =
    let K : Token = record { row = Y; laws = L } in
    at_token 𝓛 𝓜 𝓡 Y (#self (at K)) (function K) (ended K) (spec K 𝓛) (code.unfolded 𝓤 𝓛.H 𝓜 𝓡 wired (Y, tt))
    (meets K 𝓛)
    ((y.0.0, y.0.1, tt, y.0.3, y.0.4), y.1)
