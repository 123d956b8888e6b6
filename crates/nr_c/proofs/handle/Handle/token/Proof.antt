-- `token` lends what the handle leads to, and the handle follows it.
use Rattle.nr_c.proofs.Walks.{B, Bx, Calls, Clauses, D, Ended, Env, Fml, Fn, GName, Goes-spent_ref, Lft, List, Logic}
use Rattle.nr_c.proofs.Walks.{Loops, Meets, MutRef, Part, R, RefMutOf, SProp, Share, Stays, Tables, Ura, Val, WpFn}
use Rattle.nr_c.proofs.Walks.{WpFn-mono, X, [], !, addr, after, alloc_all, at_ret, await, block_ptr, blocks, box_in}
use Rattle.nr_c.proofs.Walks.{box_out, by, cell_at, closing, done, drop, ends_at, ent, enter, env, exec, fact, first}
use Rattle.nr_c.proofs.Walks.{fjoin, fld, flft, follows, fpack, frame, free_all, fsep, fsplit, fsplit3, ftrue}
use Rattle.nr_c.proofs.Walks.{full_share, get, group, handle, heard, id⊢, inst_fn, join, keep, later, lends_Part, load}
use Rattle.nr_c.proofs.Walks.{look_at, look_in, mem, move, mut_Tells, mut_ref_to, mut_vals, named, no, nothing, of_opd}
use Rattle.nr_c.proofs.Walks.{on_entry, opens, owns, part_at, part_of, pass_all, pick, plain, qed, raw, refl, returns}
use Rattle.nr_c.proofs.Walks.{rewrite, says, sem, sep, sets, sets_last, some, split, stay_dropped, stop, sub, suffices}
use Rattle.nr_c.proofs.Walks.{through, use1, vptr, walk_Meets, walk_of, walked, whole, word, τ, ‵, ℕ, ◌$◌, ◌∵◌, ◌∷◌}
use Rattle.nr_c.proofs.Walks.{◌≡◌, ◌⊛◌}
use mir.Raw.{raw as bare}
use Rattle.std.proofs.alloc.Calls.{token as right}
use Rattle.nr_c.specs.HandleFollows.{with_token}
use Rattle.nr_c.proofs.HandleMet.{at_token}
use Rattle.nr_c.proofs.HandleBox.{Token, boxed, at, Row}
use Rattle.nr_c.specs.contracts.handle.Handle.token.Key.{name as #self}
use Rattle.nr_c.proofs.handle.Handle.token.Statement as stated
use Rattle.nr_c.proofs.handle.Handle.token.Code as code

module _ (K : Token) where
  abbrev E : Bx
  E = boxed K

  abbrev function : Fn
  function = inst_fn (at K) code.function

  abbrev S : Type 0
  S = (Row K).Denot

  abbrev ended : Ended
  ended =
      record {
        signature = record {
          lifetimes = 1;
          outlives = [];
          params = RefMutOf (0 ∷ []) tt (plain (λ _. Row K)) (λ _. tt) ∷ [];
          result = RefMutOf (0 ∷ []) tt (plain (λ _. R E)) (λ _. tt);
        };
        kept = (no, tt);
      }

  abbrev stayed : Stays ended.signature.params ended.kept
  stayed = (stay_dropped (mut_ref_to (0 ∷ []) tt (plain (λ _. Row K))) no, tt)

  abbrev Asked : S → Type 0
  Asked h = (t : X E) × (h.live ≡ t ∷ [])

  abbrev spec : {M : Type 1} {𝓤 : Ura M} (𝓛 : Logic 𝓤) → Clauses 𝓤 ended
  spec {𝓤 = 𝓤} 𝓛 κs a =
      record {
        ghost = Unit {0};
        requires = λ _. fact 𝓤 (Asked a.0.now);
        ensures = λ _ r _. sep 𝓤 (sem 𝓛 (follows (Row K) (R E) a.0.ghost_name r.ghost_name (with_token a.0.now)))
            (fact 𝓤 (a.0.now.live ≡ r.now ∷ []));
      }

  abbrev box_of : S → X E → D E
  box_of h t = record { ptr = h.ptr; alloc = h.alloc; value = t }

  module _ {M : Type 1} {𝓤 : Ura M} (𝓛 : Logic 𝓤) (κ : Lft) (q : Share) (rb ro : ℕ) (γ : GName) (h : S)
      (t : X E) (is : h.live ≡ t ∷ []) where
    open 𝓛 use {H, A}

    abbrev bound : (walk_of 𝓛 ended stayed (spec 𝓛)).Ghost
    bound = (
      ((κ, tt), (q, tt), tt, (record { ref_ptr = (rb, ro); ghost_name = γ; now = h }, tt), (vptr rb ro ∷ [], tt)),
      tt,
    )

    abbrev Post : Val → SProp 𝓤
    Post = (walk_of 𝓛 ended stayed (spec 𝓛)).post bound

    module _ (b o : ℕ) (hv : Val) where
      -- all of the handle but its token
      abbrev Rest : Fml
      Rest =
          fsep (fsep (right E.al h.alloc (bare (τ E)) (block_ptr b o)) (handle E h.alloc hv))
          (cell_at full_share (Row K).mir (word E hv b o ∷ []) rb ro)

      back : h.ptr ≡ block_ptr b o → (w : X E)
          → ent 𝓤 (sep 𝓤 (sem 𝓛 ((mem (R E)).own_at w b o)) (sem 𝓛 Rest))
          (sem 𝓛 ((mem (Row K)).own_at (with_token h w) rb ro))
      unfolding part_of
      back at_b w =
          qed 𝓛 (‵ (part_at (R E) full_share w b o) ∷ ‵ Rest ∷ []) ∵ move ! (1 ∷ []) $ fsplit ! $ fsplit ! $ move
          ! (3 ∷ []) $
          box_in E ! (box_of h w) b o w at_b refl $ move ! (1 ∷ 0 ∷ []) $ fjoin ! $
          fpack
          ! (List Val) (λ us. fsep (cell_at full_share (Row K).mir us rb ro) ((Row K).own_val (with_token h w) us))
          (word E hv b o ∷ [])
          $ done !

      exits : (γ' : GName)
          → ent 𝓤
          (sep 𝓤
          (sem 𝓛
          ((MutRef (named 0) κ (R E)).own_val (record { ref_ptr = (b, o); ghost_name = γ'; now = t })
          (vptr b o ∷ [])))
          (sep 𝓤 (A.lft κ q) (sem 𝓛 (follows (Row K) (R E) γ γ' (with_token h)))))
          (Post (vptr b o))
      exits γ' =
          qed 𝓛
          (‵ ((MutRef (named 0) κ (R E)).own_val (record { ref_ptr = (b, o); ghost_name = γ'; now = t })
          (vptr b o ∷ []))
          ∷ ‵ (flft κ q) ∷ ‵ (follows (Row K) (R E) γ γ' (with_token h)) ∷ [])
          ∵
          suffices
          ! _
          (ends_at 𝓛 ended stayed (spec 𝓛) bound (vptr b o)
          (record { ref_ptr = (b, o); ghost_name = γ'; now = t }) (tt, tt) (tt, tt))
          $
          nothing ! $ nothing ! $ fjoin ! $ join ! $ nothing ! $ move ! (2 ∷ 0 ∷ []) $ join ! $ join ! $ frame ! $ says
          ! is $ done !

    module _ (C : Calls 𝓤 H) (Λ : Loops 𝓤 H) where
      walk : ent 𝓤
          (on_entry 𝓛 ended.signature (κ, tt) (q, tt) (record { ref_ptr = (rb, ro); ghost_name = γ; now = h }, tt)
          (vptr rb ro ∷ [], tt))
          (WpFn 𝓤 H C Λ function (vptr rb ro ∷ []) Post)
      walk =
          qed 𝓛
          ((‵ (flft κ q) ⊛ ‵ ftrue) ∷
          ‵ (owns (MutRef (named 0) κ (Row K) ∷ []) (record { ref_ptr = (rb, ro); ghost_name = γ; now = h }, tt)
          (vptr rb ro ∷ [], tt))
          ∷ [])
          ∵
          enter ! C Λ function (vptr rb ro ∷ []) _ $
          alloc_all ! (λ l. pass_all ! refl ((tt, tt), tt) $
          let En : Env 𝓤 H = env function.locals l in
          move ! (1 ∷ []) $ fsplit ! $ fsplit3 ! $ drop ! $ move ! (3 ∷ []) $ split ! $ move ! (2 ∷ 3 ∷ 0 ∷ []) $
          opens ! tt (Row K) {h = h} rb ro (λ vs. move ! (1 ∷ []) $
          rewrite
          ! 0 (λ (l : List (X E)). ‵ ((Row K).own_val (record { ptr = h.ptr; alloc = h.alloc; live = l }) vs)) is refl
          $
          use1 𝓛 (‵ ((B E).own_val (box_of h t) vs)) (id⊢ 𝓤 _) $
          box_out E ! (box_of h t) vs (λ b o hv at_b ws fa. move ! (1 ∷ 2 ∷ []) $ fjoin ! $ move ! (1 ∷ []) $
          rewrite ! 2 (λ (us : List Val). ‵ (cell_at full_share (Row K).mir us rb ro)) ws refl $
          sets
          ! (of_opd ! (load ! (through ! refl (fld ! refl (stop !))) (look_in ! 2 (sub ! 0 refl (whole !))))) refl
          (tt, tt)
          $
          first ! $ blocks ! $ sets_last ! (addr ! (through ! refl (stop !))) refl (tt, tt) $
          exec ! C Λ En (after 2 function.body) (at_ret En Post) $
          sets ! (of_opd ! (get ! refl)) refl (tt, tt) $
          move ! (1 ∷ 2 ∷ []) $ fjoin ! $ move ! (2 ∷ 3 ∷ 4 ∷ 1 ∷ 0 ∷ []) $ group ! 5 $
          use1 𝓛
          (later
          (some
          (λ (γ' : GName). raw
          (Part 𝓛 (Row K) (R E) (with_token h) (named 0) κ q rb ro b o γ (sem 𝓛 (Rest b o hv))
          (back b o hv at_b) t γ'))))
          (lends_Part 𝓛 (Row K) (R E) (with_token h) (named 0) κ q rb ro b o γ (sem 𝓛 (Rest b o hv)) (back b o hv at_b)
          ((Row K).coded.code h) ((Row K).coded.code h) t)
          $ await ! tt $ pick ! (λ γ'.
          returns ! (look_at ! 0 refl) $ free_all ! refl $
          keep ! (0 ∷ []) $ by ! (exits b o hv γ')))))

  meets : {M : Type 1} {𝓤 : Ura M} (𝓛 : Logic 𝓤) (𝓣 : Tables 𝓤 𝓛.H)
      → Meets 𝓛 ended.signature (WpFn 𝓤 𝓛.H 𝓣.C 𝓣.Λ function) (closing 𝓛 ended (spec 𝓛))
  meets {𝓤 = 𝓤} 𝓛 𝓣 =
      walk_Meets 𝓛 ended stayed (Goes-spent_ref 𝓛 1 (0 ∷ []) tt (plain (λ _. Row K)), tt) (spec 𝓛)
      (WpFn 𝓤 𝓛.H 𝓣.C 𝓣.Λ function) (WpFn-mono 𝓤 𝓛.H 𝓛.laws 𝓣 function)
      (walked 𝓛 ended stayed (spec 𝓛) (WpFn 𝓤 𝓛.H 𝓣.C 𝓣.Λ function) (λ κs. (mut_vals, tt))
      (λ κs. (mut_Tells (named 0) κs.0 (Row K), tt))
      (λ κs qs bounds a g are.
      qed 𝓛 (raw (on_entry 𝓛 ended.signature κs qs a (mut_vals a.0, tt)) ∷ raw (fact 𝓤 (Asked a.0.now)) ∷ []) ∵ move
      ! (1 ∷ []) $ heard ! (Asked a.0.now) (λ asked.
      by
      ! (walk 𝓛 κs.0 qs.0 a.0.ref_ptr.0 a.0.ref_ptr.1 a.0.ghost_name a.0.now asked.0 asked.1 𝓣.C 𝓣.Λ))))

pub token_spec : {M : Type 1} → stated.statement M
token_spec 𝓤 𝓛 𝓜 𝓡 wired Y L y =
    let K : Token = record { row = Y; laws = L } in
    at_token 𝓛 𝓜 𝓡 Y (#self (at K)) (function K) (ended K) (spec K 𝓛) (code.unfolded 𝓤 𝓛.H 𝓜 𝓡 wired (Y, tt))
    (meets K 𝓛)
    ((y.0.0, y.0.1, tt, y.0.3, y.0.4), y.1)
