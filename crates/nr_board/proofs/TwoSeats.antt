-- A load of a word of its own, at which one seat takes in another's view. Assumes `Logic`.
use Rattle.std.proofs.Common.{◌≡◌, ℕ, List, [], ◌∷◌, length, set, sym, ◌∙◌, arith}
use mathlib.Core.Option.{some}
use lib.ListN.{get_elem?}
use seplogic.Ra.Ura.{Ura}
use base.Share.{three_quarters}
use base.Stored.{Coded}
use base.Logic.{SProp, ent, sep, ex, all, all_e, upd_i}
use base.Fml.{Lft, Share, Fml, ftrue, fsep, fex, flft}
use types.Logic.{Logic, sem}
use types.Kit.{‵, raw, ◌⊛◌, given, ◌$◌, ◌∵◌, !, qed, by, move, drop, split, fsplit, fsplit3, fjoin, fjoin3, fpick}
use types.Kit.{fpack, learn, show, frame, each, assume, suffices, settle, done, use1, use2}
use denote.RattleType.{RattleType}
use denote.RawPtr.{Ptr, block_ptr}
use denote.Steps.{nothing}
use Rattle.core.specs.Sync.RawAtomic.{asks, always}
use Rattle.core.proofs.raw_atomic.Asked.{borrowed, Lies, Again}
use Rattle.atomic_table.specs.Table.{State, Me}
use Rattle.atomic_table.specs.Seated.{word, fact, seen, roster, TableId, age, standing, inner, common, mine}
use Rattle.atomic_table.proofs.Roster.{Moved, moves, apart}
use Rattle.atomic_table.proofs.Lists.{set_else}
use Rattle.nr_board.specs.TwoSeats.{CanTakeIn}

module _ {M : Type 1} {𝓤 : Ura M} (𝓛 : Logic 𝓤) (R : RattleType) {V : Type 0} (cv : Coded V)
    (holds : State R.Denot V → Type 0) (w p : Ptr) (z : TableId)
    (q : Share) (b n : ℕ) (id : ℕ) (me : Me R.Denot V) (other : ℕ) (it : Me R.Denot V) (spent : V)
    (then : V → Type 0) where
  open 𝓛 use {A}

  abbrev ⟦◌⟧ : Fml → SProp 𝓤
  ⟦ P ⟧ = sem 𝓛 P

  abbrev κ : Lft
  κ = age z

  abbrev sat : ℕ → Me R.Denot V → Fml
  sat = mine R cv.code z

  abbrev half : ℕ → V → Fml
  half k v = seen cv.code z.views_name k three_quarters v

  abbrev I : Fml
  I = inner R cv.code holds w p z

  abbrev Fits : State R.Denot V → Type 0
  Fits s = holds s × (length s.words ≡ z.words) × (length s.homes ≡ z.slots)

  -- the seat has the new view, and the other is spent
  abbrev pub taken : V → Fml
  taken u = fsep (fact (then u)) (fsep (sat id (u, me.1)) (sat other (spent, it.1)))

  abbrev pub after : ℕ → Fml
  after m = fsep (word b 0 m) (fex V taken)

  abbrev had : Fml
  had = fsep (word b 0 n) (fsep (sat id me) (sat other it))

  pub takes_in : CanTakeIn holds id me.0 other it.0 spent then
      → ent 𝓤 (sep 𝓤 ⟦ common R cv.code holds w p z ⟧ (sep 𝓤 (A.lft κ q) ⟦ had ⟧))
      (asks 𝓛 (block_ptr b 0) (λ m. m) always (λ m. fsep (flft κ q) (after m)))
  takes_in law =
      let G : SProp 𝓤 = ex 𝓤 (Lies 𝓛 κ q I b 0 (λ m. m) always after) in
      let Z : SProp 𝓤 = sep 𝓤 ⟦ I ⟧ ⟦ after n ⟧ in
      let γ : ℕ = z.views_name in
      qed 𝓛 (‵ (common R cv.code holds w p z) ∷ ‵ (flft κ q) ∷ ‵ had ∷ []) ∵ fsplit ! $ drop ! $
      by
      ! (borrowed 𝓛 κ q I b 0 (λ m. m) always after ⟦ had
      ⟧ (qed 𝓛 (‵ I ∷ ‵ had ∷ []) ∵ suffices ! _ (upd_i 𝓤 G) $ fpick
      ! (λ s. fsplit3 ! $ move ! (2 ∷ []) $ fpick ! (λ so. drop ! $
      move ! (2 ∷ []) $ fsplit ! $ show ! (Lies 𝓛 κ q I b 0 (λ m. m) always after) n $ frame ! $ each
      ! (λ (_ : Unit {0}). Again 𝓛 κ q I b 0 (λ m. m) always after n) (λ _. assume ! (‵ (word b 0 n)) $
      -- [the word; the seats; the words; the slots and the views]
      move ! (3 ∷ []) $ fsplit ! $ move ! (3 ∷ []) $ fsplit ! $ fsplit ! $ move ! (2 ∷ []) $ fsplit ! $ move
      ! (2 ∷ 0 ∷ []) $
      use2 𝓛 (given (¬ (other ≡ id)) (‵ (half id me.0) ⊛ ‵ (half other it.0))) (apart 𝓛 cv γ id other me.0 it.0) $ learn
      ! (λ two. split ! $ move ! (5 ∷ 1 ∷ []) $
      let vs : List V = set s.views other spent in
      use2 𝓛 (given (get_elem? s.views other ≡ some it.0) (raw (all 𝓤 (Moved 𝓛 cv γ 0 s.views other other))))
      (moves 𝓛 cv γ s.views 0 other other it.0 (omega arith))
      $ learn ! (λ there.
      use1 𝓛 (raw (Moved 𝓛 cv γ 0 s.views other other spent)) (all_e 𝓤 (Moved 𝓛 cv γ 0 s.views other other) spent)
      $ settle 𝓛 Z (‵ (roster cv.code γ 0 vs) ⊛ ‵ (half other spent)) $ split ! $ move ! (0 ∷ 2 ∷ []) $
      use2 𝓛 (given (get_elem? vs id ≡ some me.0) (raw (all 𝓤 (Moved 𝓛 cv γ 0 vs id id))))
      (moves 𝓛 cv γ vs 0 id id me.0 (omega arith))
      $ learn ! (λ here.
      let r = law s so.0 (sym (set_else s.views other id spent (λ e. two (sym e))) ∙ here) there two in
      let u : V = r.0 in
      let t : State R.Denot V = record { words = s.words; homes = s.homes; views = set vs id u } in
      use1 𝓛 (raw (Moved 𝓛 cv γ 0 vs id id u)) (all_e 𝓤 (Moved 𝓛 cv γ 0 vs id id) u)
      $ settle 𝓛 Z (‵ (roster cv.code γ 0 t.views) ⊛ ‵ (half id u)) $ split ! $ suffices ! _ (upd_i 𝓤 Z) $
      -- [the views; the seat; the other; what each carries; the slots; the word; the words]
      move ! (5 ∷ 0 ∷ []) $ fjoin ! $ nothing ! $ fpack ! (Fits t) (λ _. ftrue) (r.1, so.1, so.2) $ move
      ! (7 ∷ 1 ∷ 0 ∷ []) $ fjoin3 ! $ fpack ! (State R.Denot V) (standing R cv.code holds w p z) t $ frame ! $
      move ! (0 ∷ 3 ∷ []) $ fjoin ! $ move ! (1 ∷ 2 ∷ []) $ fjoin ! $ move ! (1 ∷ 0 ∷ []) $ fjoin ! $ nothing ! $ fpack
      ! (then u) (λ _. ftrue) r.2 $ fjoin ! $ fpack ! V taken u $ move ! (1 ∷ 0 ∷ []) $ fjoin ! $ done !))))))))
