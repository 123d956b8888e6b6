-- A step of a caller, from the core state after it and what it tells.
use Rattle.std.proofs.Common.{List, [], cond, get_or, nat_eq, refl, set, ℕ, ◌++◌, ◌∷◌, ◌≡◌, append-nil, subst}
use Rattle.nr_model.specs.Histories.{Entry, entries_of}
use Rattle.nr_model.specs.declared.calls.Call.{Call}
use Rattle.nr_model.specs.declared.calls.Reply.{Reply}
use Rattle.nr_core.specs.Core.{Core}
use Rattle.nr_core.specs.Operations.{target_of, operated}
use Rattle.nr_core.specs.Roles.{is_by, is_reader, is_writer}
use Rattle.nr_core.specs.Steps.{Stepped, Telling}
use Rattle.nr_core.specs.Story.{entry}
use Rattle.nr_core.specs.declared.operation.Operation.{Operation}
use Rattle.nr_core.specs.declared.roles.Desk.{Desk}
use Rattle.nr_core.specs.declared.roles.Grip.{Grip}
use Rattle.nr_core.specs.declared.roles.Role.{Role}
use Rattle.nr_core.specs.declared.roles.Role.TheVariants.{Reader, Writer}
use Rattle.nr_core.specs.declared.shape.Shape.{Shape}
use Rattle.nr_core.proofs.OnKey.{none_of}

abbrev Tells : List ℕ → Operation → Telling → Role → List Entry → Type 0
Tells words operation tells role entries = tells (get_or words (target_of operation) 0) role entries

abbrev CoreWith : Shape → List ℕ → List Role → ℕ → Operation → Role → List Entry → Type 0
CoreWith shape words roles id operation role = Core shape (operated words operation) (set roles id role)

module _ {shape : Shape} {words : List ℕ} {roles : List Role} {log : List Entry} {id : ℕ} {operation : Operation}
    {tells : Telling} where
  -- the caller's role is this one, of the same kind, and it tells nothing
  quiet : {before : Role} (after : Role) → ((caller : ℕ) → is_by caller after ≡ is_by caller before)
      → is_writer after ≡ is_writer before → is_reader after ≡ is_reader before
      → CoreWith shape words roles id operation after log → Tells words operation tells after []
      → Stepped shape words roles log id before operation tells
  quiet after same writer reader core told =
      let here : CoreWith shape words roles id operation after (log ++ []) = rw (append-nil log) core in
      search (here, told, none_of)

  -- the caller's role stays, and it tells nothing
  pub stays_quiet : {role : Role} → CoreWith shape words roles id operation role log
      → Tells words operation tells role [] → Stepped shape words roles log id role operation tells
  stays_quiet {role} core told = quiet role (λ _. refl) refl refl core told

  module _ {reader : ℕ} {before : Grip} (after : Grip) where
    pub reader_quiet : CoreWith shape words roles id operation (Reader reader after) log
        → Tells words operation tells (Reader reader after) []
        → Stepped shape words roles log id (Reader reader before) operation tells
    reader_quiet core told = quiet (Reader reader after) (λ _. refl) refl refl core told

    pub reader_tells : (call : Call) (answer : Reply)
        → CoreWith shape words roles id operation (Reader reader after) (log ++ entry reader call answer ∷ [])
        → Tells words operation tells (Reader reader after) (entry reader call answer ∷ [])
        → Stepped shape words roles log id (Reader reader before) operation tells
    reader_tells call answer core told = search (core, told)

  pub writer_makes : {desk : Desk} (after : Desk) (entries : List Entry)
      → CoreWith shape words roles id operation (Writer after) (log ++ entries)
      → ((caller : ℕ) → entries_of entries caller ≡ cond (nat_eq 0 caller) entries [])
      → Tells words operation tells (Writer after) entries
      → Stepped shape words roles log id (Writer desk) operation tells
  writer_makes after entries core own told = search (core, own, told)

-- the core state after a step, by the role and the entries that it tells
pub core_after : {shape : Shape} {words : List ℕ} {roles : List Role} {log : List Entry} {id : ℕ} {role : Role}
    {operation : Operation} {tells : Telling} (step : Stepped shape words roles log id role operation tells)
    {after : Role} {entries : List Entry} → step.after ≡ after → step.entries ≡ entries
    → CoreWith shape words roles id operation after (log ++ entries)
core_after {shape} {words} {roles} {log} {id} {role} {operation} step same_role same_entries =
    subst (λ (p : Role × List Entry). CoreWith shape words roles id operation p.0 (log ++ p.1))
    (λ j. (same_role j, same_entries j)) step.core
