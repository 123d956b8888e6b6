-- What a function of a handle meets, once its code was walked.
--     takes, stays    a function that takes a value and gives another
--     asks_and_gives  what it asks of the one, and says of both
--     taken           it meets that where its walk does
--     at_token        and it meets its statement, which carries the lifetime of the token's type
use Rattle.nr_c.proofs.Walks.{Callee, Clauses, Closed, Ended, Fn, Goes-dropped, Kept, Logic, Meets, Model, RattleType}
use Rattle.nr_c.proofs.Walks.{Running, SProp, Silent, Stays, Tables, Triple, Ura, WpFn, WpFn-mono, [], closing, ent}
use Rattle.nr_c.proofs.Walks.{entered, fact, plain, run_framed, stay_dropped, tables, tables_of, triple_of, walk_Meets}
use Rattle.nr_c.proofs.Walks.{walk_of, ◌++◌, ◌∷◌}
use denote.Triple.Carry.{grown, spared}

module _ (From To : RattleType) (kept : Kept) where
  abbrev pub takes : Ended
  takes =
      record {
        signature = record {
          lifetimes = 0;
          outlives = [];
          params = plain (λ _. From) ∷ [];
          result = plain (λ _. To);
        };
        kept = (kept, tt);
      }

  abbrev pub stays : Stays takes.signature.params takes.kept
  stays = (stay_dropped (plain (λ _. From)) kept, tt)

  module _ {M : Type 1} {𝓤 : Ura M} where
    abbrev pub asks_and_gives : (From.Denot → SProp 𝓤) → (From.Denot → To.Denot → Type 0) → Clauses 𝓤 takes
    asks_and_gives asks gives κs a =
        record { ghost = Unit {0}; requires = λ _. asks a.0; ensures = λ _ r _. fact 𝓤 (gives a.0 r) }

    pub taken : (𝓛 : Logic 𝓤) → Silent 𝓛 0 (plain (λ _. From)) kept → (c : Clauses 𝓤 takes) (f : Fn)
        → ((𝓣 : Tables 𝓤 𝓛.H) (z : (walk_of 𝓛 takes stays c).Ghost)
        → ent 𝓤 ((walk_of 𝓛 takes stays c).pre z)
        (WpFn 𝓤 𝓛.H 𝓣.C 𝓣.Λ f (z.0.4.0 ++ []) ((walk_of 𝓛 takes stays c).post z)))
        → (𝓣 : Tables 𝓤 𝓛.H) → Meets 𝓛 takes.signature (WpFn 𝓤 𝓛.H 𝓣.C 𝓣.Λ f) (closing 𝓛 takes c)
    taken 𝓛 silent c f walk 𝓣 =
        walk_Meets 𝓛 takes stays (Goes-dropped 𝓛 0 (plain (λ _. From)) kept silent, tt) c (WpFn 𝓤 𝓛.H 𝓣.C 𝓣.Λ f)
        (WpFn-mono 𝓤 𝓛.H 𝓛.laws 𝓣 f) (walk 𝓣)

module _ {M : Type 1} {𝓤 : Ura M} (𝓛 : Logic 𝓤) (𝓜 : Model 𝓤 𝓛.H) (𝓡 : Running 𝓤 𝓛.H 𝓜) where
  pub at_token : (Y : RattleType) (self : Callee) (f : Fn) (T : Ended) (c : Clauses 𝓤 T)
      → Closed 𝓤 𝓛.H (tables 𝓤 𝓛.H 𝓜 𝓡 𝓡.env).C (tables 𝓤 𝓛.H 𝓜 𝓡 𝓡.env).Λ self f
      → ((𝓣 : Tables 𝓤 𝓛.H) → Meets 𝓛 T.signature (WpFn 𝓤 𝓛.H 𝓣.C 𝓣.Λ f) (closing 𝓛 T c))
      → Triple 𝓤 (𝓡.run (𝓡.env self)) (grown 𝓛 T.signature 1 (Y.lives, tt) (closing 𝓛 T c))
  unfolding tables_of
  at_token Y self f T c closed meets =
      let 𝓣 : Tables 𝓤 𝓛.H = tables_of 𝓤 𝓛.H 𝓜 (tables 𝓤 𝓛.H 𝓜 𝓡 𝓡.env) in
      spared 𝓛 T.signature (𝓡.run (𝓡.env self)) (run_framed 𝓤 𝓛.H 𝓜 𝓡 (𝓡.env self)) 1 (Y.lives, tt) (closing 𝓛 T c)
      (entered 𝓤 𝓛.H (triple_of 𝓛 T.signature (closing 𝓛 T c)) 𝓣.C 𝓣.Λ self f closed (meets 𝓣))
