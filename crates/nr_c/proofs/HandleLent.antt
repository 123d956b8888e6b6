-- The code of `handle` in each type of handle: it lends the word as a `Handle`, and the handle follows it. Assumes
-- `Logic`.
--     function       the code, at what stands behind its references
--     there, back    what a handle owns in memory the `Handle` owns that it is lent as, and back
use Rattle.nr_c.proofs.Walks.{Callee, Calls, Clauses, Closed, Ended, Env, Fml, Fn, GName, Goes-spent_ref, Lft, Logic}
use Rattle.nr_c.proofs.Walks.{Loops, Meets, Model, MutRef, Part, RattleType, Running, SProp, Share, Stays, Tables}
use Rattle.nr_c.proofs.Walks.{Triple, Ty, Ura, Val, WpFn, WpFn-mono, [], !, addr, addr_of, after, alloc_all, ap}
use Rattle.nr_c.proofs.Walks.{assign, at_ret, await, block, blocks, by, closing, copy, deref, done, drop, emp, ends_at}
use Rattle.nr_c.proofs.Walks.{ent, enter, entered, env, erased, exec, fact, first, fjoin, flft, follows, frame}
use Rattle.nr_c.proofs.Walks.{free_all, fsplit, fsplit3, fst∗, ftrue, get, group, id⊢, join, keep, later, lends_Part}
use Rattle.nr_c.proofs.Walks.{local, look_at, mem, move, mut, mut_Tells, mut_ref_to, mut_vals, named, no, nothing}
use Rattle.nr_c.proofs.Walks.{of_opd, on_entry, owns, pass_all, pick, place, plain, qed, raw, refl, return, returns}
use Rattle.nr_c.proofs.Walks.{rv_opd, says, sem, sep, seq, sets, sets_last, some, split, stay_dropped, stop, subst}
use Rattle.nr_c.proofs.Walks.{suffices, tables, tables_of, through, triple_of, ty_ptr, ty_ref, use1, value_local, via}
use Rattle.nr_c.proofs.Walks.{vptr, walk_Meets, walk_of, walked, ‵, ℕ, ◌$◌, ◌∙◌, ◌∵◌, ◌∷◌, ◌≡◌, ◌⊛◌}
use types.Mut.{open_ref}
use Rattle.nr_c.specs.HandleFollows.{Named}
use Rattle.nr_c.specs.contracts.handle.Handle.{the_row}
use Rattle.nr_c.specs.declared.handle.Handle.{Handle}

abbrev pub function : Ty → Ty → Ty → Ty → Fn
function t u w v =
    record {
      lifetimes = 1;
      outlives = [];
      ty_params = [];
      givens = 0;
      params = 1;
      locals = local (ty_ref (named 0) mut t) value_local ∷ local (ty_ref (named 0) mut u) value_local
          ∷ local ty_ptr value_local ∷ local (ty_ref erased mut t) value_local ∷ local ty_ptr value_local ∷ [];
      body = seq (assign (place 2 []) (addr_of (place 1 (deref v ∷ []))))
          (seq
          (block
          (seq (assign (place 4 []) (rv_opd (copy (place 2 []))))
          (assign (place 3 []) (addr_of (place 4 (deref w ∷ []))))))
          (seq (assign (place 0 []) (rv_opd (copy (place 3 [])))) return));
    }

module _ (N : Named) (is : (s : N.row.Denot) → s ≡ N.of (N.to s))
    (owns_same : (h : Handle N.side.Denot) (b o : ℕ) → (mem N.row).own_at (N.of h) b o
    ≡ (mem (the_row N.side)).own_at h b o)
    (t u w v : Ty) where
  abbrev S : RattleType
  S = N.row

  abbrev T : RattleType
  T = the_row N.side

  there : {M : Type 1} {𝓤 : Ura M} (𝓛 : Logic 𝓤) (s : S.Denot) (b o : ℕ)
      → ent 𝓤 (sem 𝓛 ((mem S).own_at s b o)) (sem 𝓛 ((mem T).own_at (N.to s) b o))
  there {𝓤 = 𝓤} 𝓛 s b o =
      subst (λ (F : Fml). ent 𝓤 (sem 𝓛 ((mem S).own_at s b o)) (sem 𝓛 F))
      (ap (λ (h : S.Denot). (mem S).own_at h b o) (is s) ∙ owns_same (N.to s) b o) (id⊢ 𝓤 _)

  back : {M : Type 1} {𝓤 : Ura M} (𝓛 : Logic 𝓤) (b o : ℕ) (h : T.Denot)
      → ent 𝓤 (sep 𝓤 (sem 𝓛 ((mem T).own_at h b o)) (sem 𝓛 ftrue)) (sem 𝓛 ((mem S).own_at (N.of h) b o))
  back {𝓤 = 𝓤} 𝓛 b o h =
      subst (λ (F : Fml). ent 𝓤 (sep 𝓤 (sem 𝓛 F) (sem 𝓛 ftrue)) (sem 𝓛 ((mem S).own_at (N.of h) b o)))
      (owns_same h b o) (fst∗ 𝓤 (sem 𝓛 ((mem S).own_at (N.of h) b o)) (sem 𝓛 ftrue))

  abbrev code : Fn
  code = function t u w v

  abbrev ended : Ended
  ended =
      record {
        signature = record {
          lifetimes = 1;
          outlives = [];
          params = mut_ref_to (0 ∷ []) tt (plain (λ _. S)) ∷ [];
          result = mut_ref_to (0 ∷ []) tt (plain (λ _. T));
        };
        kept = (no, tt);
      }

  abbrev stayed : Stays ended.signature.params ended.kept
  stayed = (stay_dropped (mut_ref_to (0 ∷ []) tt (plain (λ _. S))) no, tt)

  abbrev spec : {M : Type 1} {𝓤 : Ura M} (𝓛 : Logic 𝓤) → Clauses 𝓤 ended
  spec {𝓤 = 𝓤} 𝓛 κs a =
      record {
        ghost = Unit {0};
        requires = λ _. emp 𝓤;
        ensures = λ _ r _. sep 𝓤 (sem 𝓛 (follows S T a.0.ghost_name r.ghost_name N.of)) (fact 𝓤 (a.0.now ≡ N.of r.now));
      }

  module _ {M : Type 1} {𝓤 : Ura M} (𝓛 : Logic 𝓤) (κ : Lft) (q : Share) (rb ro : ℕ) (γ : GName) (s : S.Denot) where
    open 𝓛 use {H, A}

    abbrev bound : (walk_of 𝓛 ended stayed (spec 𝓛)).Ghost
    bound = (
      ((κ, tt), (q, tt), tt, (record { ref_ptr = (rb, ro); ghost_name = γ; now = s }, tt), (vptr rb ro ∷ [], tt)),
      tt,
    )

    abbrev Post : Val → SProp 𝓤
    Post = (walk_of 𝓛 ended stayed (spec 𝓛)).post bound

    exits : (γ' : GName)
        → ent 𝓤
        (sep 𝓤
        (sem 𝓛
        ((MutRef (named 0) κ T).own_val (record { ref_ptr = (rb, ro); ghost_name = γ'; now = N.to s })
        (vptr rb ro ∷ [])))
        (sep 𝓤 (A.lft κ q) (sem 𝓛 (follows S T γ γ' N.of))))
        (Post (vptr rb ro))
    exits γ' =
        qed 𝓛
        (‵ ((MutRef (named 0) κ T).own_val (record { ref_ptr = (rb, ro); ghost_name = γ'; now = N.to s })
        (vptr rb ro ∷ []))
        ∷ ‵ (flft κ q) ∷ ‵ (follows S T γ γ' N.of) ∷ [])
        ∵
        suffices
        ! _
        (ends_at 𝓛 ended stayed (spec 𝓛) bound (vptr rb ro)
        (record { ref_ptr = (rb, ro); ghost_name = γ'; now = N.to s }) (tt, tt) (tt, tt))
        $
        nothing ! $ nothing ! $ fjoin ! $ join ! $ nothing ! $ move ! (2 ∷ 0 ∷ []) $ join ! $ join ! $ frame ! $ says
        ! (is s) $ done !

    module _ (C : Calls 𝓤 H) (Λ : Loops 𝓤 H) where
      walk : ent 𝓤
          (on_entry 𝓛 ended.signature (κ, tt) (q, tt) (record { ref_ptr = (rb, ro); ghost_name = γ; now = s }, tt)
          (vptr rb ro ∷ [], tt))
          (WpFn 𝓤 H C Λ code (vptr rb ro ∷ []) Post)
      walk =
          qed 𝓛
          ((‵ (flft κ q) ⊛ ‵ ftrue) ∷
          ‵ (owns (MutRef (named 0) κ S ∷ []) (record { ref_ptr = (rb, ro); ghost_name = γ; now = s }, tt)
          (vptr rb ro ∷ [], tt))
          ∷ [])
          ∵
          enter ! C Λ code (vptr rb ro ∷ []) _ $
          alloc_all ! (λ l. pass_all ! refl ((tt, tt), tt) $
          let En : Env 𝓤 H = env code.locals l in
          move ! (1 ∷ []) $ fsplit ! $ fsplit3 ! $ drop ! $ move ! (3 ∷ []) $ split ! $ move ! (2 ∷ 3 ∷ 0 ∷ []) $
          open_ref ! tt (mem S) {x = s} {b = rb} {o = ro} $
          use1 𝓛 (‵ ((mem T).own_at (N.to s) rb ro)) (there 𝓛 s rb ro) $
          sets ! (addr ! (through ! refl (stop !))) refl (tt, tt) $
          first ! $ blocks ! $
          sets ! (of_opd ! (get ! refl)) refl (tt, tt) $
          sets_last ! (addr ! (through ! refl (stop !))) refl (tt, tt) $
          exec ! C Λ En (after 2 code.body) (at_ret En Post) $
          sets ! (of_opd ! (get ! refl)) refl (tt, tt) $
          nothing ! $ move ! (2 ∷ 3 ∷ 4 ∷ 1 ∷ 0 ∷ []) $ group ! 5 $
          use1 𝓛
          (later
          (some
          (λ (γ' : GName). raw
          (Part 𝓛 S T N.of (named 0) κ q rb ro rb ro γ (sem 𝓛 ftrue) (back 𝓛 rb ro) (N.to s) γ'))))
          (lends_Part 𝓛 S T N.of (named 0) κ q rb ro rb ro γ (sem 𝓛 ftrue) (back 𝓛 rb ro) (S.coded.code s)
          (S.coded.code s) (N.to s))
          $ await ! tt $ pick ! (λ γ'.
          returns ! (look_at ! 0 refl) $ free_all ! refl $
          keep ! (0 ∷ []) $ by ! (exits γ')))

  meets : {M : Type 1} {𝓤 : Ura M} (𝓛 : Logic 𝓤) (𝓣 : Tables 𝓤 𝓛.H)
      → Meets 𝓛 ended.signature (WpFn 𝓤 𝓛.H 𝓣.C 𝓣.Λ code) (closing 𝓛 ended (spec 𝓛))
  meets {𝓤 = 𝓤} 𝓛 𝓣 =
      walk_Meets 𝓛 ended stayed (Goes-spent_ref 𝓛 1 (0 ∷ []) tt (plain (λ _. S)), tt) (spec 𝓛)
      (WpFn 𝓤 𝓛.H 𝓣.C 𝓣.Λ code) (WpFn-mono 𝓤 𝓛.H 𝓛.laws 𝓣 code)
      (walked 𝓛 ended stayed (spec 𝓛) (WpFn 𝓤 𝓛.H 𝓣.C 𝓣.Λ code) (λ κs. (mut_vals, tt))
      (λ κs. (mut_Tells (named 0) κs.0 S, tt))
      (λ κs qs bounds a g are. via 𝓤 _ (fst∗ 𝓤 _ (emp 𝓤))
      (walk 𝓛 κs.0 qs.0 a.0.ref_ptr.0 a.0.ref_ptr.1 a.0.ghost_name a.0.now 𝓣.C 𝓣.Λ)))

  -- and so does a call of it by its name
  pub called : {M : Type 1} {𝓤 : Ura M} (𝓛 : Logic 𝓤) (𝓜 : Model 𝓤 𝓛.H) (𝓡 : Running 𝓤 𝓛.H 𝓜) (self : Callee)
      → Closed 𝓤 𝓛.H (tables 𝓤 𝓛.H 𝓜 𝓡 𝓡.env).C (tables 𝓤 𝓛.H 𝓜 𝓡 𝓡.env).Λ self code
      → Triple 𝓤 (𝓡.run (𝓡.env self)) (triple_of 𝓛 ended.signature (closing 𝓛 ended (spec 𝓛)))
  unfolding tables_of
  called {𝓤 = 𝓤} 𝓛 𝓜 𝓡 self unfolds =
      let 𝓣 : Tables 𝓤 𝓛.H = tables_of 𝓤 𝓛.H 𝓜 (tables 𝓤 𝓛.H 𝓜 𝓡 𝓡.env) in
      entered 𝓤 𝓛.H (triple_of 𝓛 ended.signature (closing 𝓛 ended (spec 𝓛))) 𝓣.C 𝓣.Λ self code unfolds (meets 𝓛 𝓣)
