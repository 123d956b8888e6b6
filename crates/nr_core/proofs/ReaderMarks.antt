-- A reader's steps, and its marks go along: it arrives, requests, reads and departs; it looks a key up, and holds the
-- slot that the key names.
use Rattle.std.proofs.Common.{Bool, List, [], ap, arith, cond, false, get_or, get_or-set_other, get_or-set_same, inl}
use Rattle.std.proofs.Common.{inr, refl, set, suc, sym, true, ℕ, ⊎_elim, ◌%◌, ◌++◌, ◌+◌, ◌<◌, ◌^◌, ◌∙◌, ◌∷◌, ◌≡◌, ◌≤◌}
use Rattle.std.proofs.Common.{◌⊎◌, ◌-◌}
use Rattle.std.specs.Prelude.{Some, bit_or, length}
use lib.ListN.{get_elem?}
use lib.Seq.{set-get_or}
use mathlib.Core.Option.{some}
use Rattle.nr_model.specs.Histories.{Entry, is_done}
use Rattle.nr_model.specs.declared.calls.Reply.{Reply}
use Rattle.nr_model.specs.declared.rows.Row.{Row}
use Rattle.nr_words.proofs.KeyWordLemmas.{with_ask_is}
use Rattle.nr_words.specs.KeyWords.{has_ask, is_filled, slot_of}
use Rattle.nr_words.specs.declared.key_words.TheConstants.{ARRIVE}
use Rattle.nr_core.proofs.KeyWords.{is_named, name-asked, name-bumped}
use Rattle.nr_core.proofs.WordPlaces.{content_apart}
use Rattle.nr_core.specs.Roles.{retirements}
use Rattle.nr_core.specs.Operations.{target_of, operated}
use Rattle.nr_core.specs.declared.operation.Operation.{Operation}
use Rattle.nr_core.specs.declared.operation.Operation.TheVariants.{Add, Load, Or}
use Rattle.nr_core.specs.Slots.{content, departures, name_number}
use Rattle.nr_core.specs.Steps.{Arrives, Asks, Departs, ReadsHeld, ask_word, HoldsNamed, LooksUp}
use Rattle.nr_core.specs.Story.{entry}
use Rattle.nr_core.specs.declared.roles.Desk.{Desk}
use Rattle.nr_core.specs.declared.roles.Grip.{Grip}
use Rattle.nr_core.specs.declared.roles.Grip.TheVariants.{Nothing, On}
use Rattle.nr_core.specs.declared.roles.Role.{Role}
use Rattle.nr_core.specs.declared.roles.Role.TheVariants.{Reader, Writer}
use Rattle.nr_core.specs.declared.shape.Shape.{Shape}
use Rattle.nr_core.specs.Puts.{put_number}
use Rattle.nr_core.specs.Marks.{Marks, Past, acted, gripped, with_look}
use Rattle.nr_core.specs.Marked.{Keeps, CanMark, Desked, Evolves, MarkTelling, Marked, Remarked, Since, CanMarkWhere}
use Rattle.nr_core.specs.MarkSteps.{ArrivesMarks, DepartsMarks, KeepsMarks, HoldsNamedMarks, LooksUpMarks}
use Rattle.nr_core.proofs.ListPlaces.{no_places, some_is}
use Rattle.nr_core.proofs.MarksSince.{SameContents, marked_reader, rests}
use Rattle.nr_core.proofs.Holders.{same_grip}
use Rattle.nr_core.proofs.PutNumbers.{QuietEnd, none_end, one_ends}
use Rattle.nr_core.proofs.Choices.{either}
use Rattle.nr_model.specs.declared.calls.Call.TheVariants as model
use Rattle.nr_model.specs.declared.calls.Reply.TheVariants as reply

-- A reader's steps: it arrives, requests, reads and departs, and its marks go along.

-- words of the keys that name the same after a step: on a key's word, behind the keys, by a load
pub names_kept : (words : List ℕ) (i x : ℕ) → i < length words → name_number x ≡ name_number (get_or words i 0)
    → (key : ℕ) → name_number (get_or (set words i x) key 0) ≡ name_number (get_or words key 0)
names_kept words i x l same key = search (arith, get_or-set_same, get_or-set_other)

pub names_behind : (words : List ℕ) (keys i x : ℕ) → keys ≤ i → (key : ℕ) → key < keys
    → get_or (set words i x) key 0 ≡ get_or words key 0
names_behind words keys i x behind key l = get_or-set_other words i key x 0 (λ e. omega arith)

-- content words stay after a step on a key's word, on a count of departures, and by a load
pub contents_behind : (shape : Shape) (words : List ℕ) (key x : ℕ) → key < shape.keys
    → SameContents shape words (set words key x)
contents_behind shape words key x near slot index low =
    get_or-set_other words key (content shape slot index) x 0 (λ e. omega arith)

pub contents_counted : (shape : Shape) (words : List ℕ) (other x : ℕ)
    → SameContents shape words (set words (departures shape other) x)
contents_counted shape words other x slot index low =
    get_or-set_other words (departures shape other) (content shape slot index) x 0
    (λ e. content_apart shape slot index other (omega arith) e)

pub contents_loaded : (shape : Shape) (words : List ℕ) (i : ℕ)
    → SameContents shape words (set words i (get_or words i 0))
contents_loaded shape words i slot index low = ap (λ l. get_or l (content shape slot index) 0) (set-get_or words i 0)

asks_nothing_done : (number : ℕ) (a b : Bool)
    → is_done (cond a reply.Filled (cond b reply.Waiting (reply.Send number))) ≡ false
asks_nothing_done number true b = refl
asks_nothing_done number false true = refl
asks_nothing_done number false false = refl

module _ {A : Type 0} {role : A → Role} {marks : A → Marks} {shape : Shape} {id : ℕ} {me : A} where
  -- a reader's step that leaves what the keys name and puts nothing
  pub reader_step : {operation : Operation} {tells : MarkTelling} {words : List ℕ}
      {callers : List A} {log : List Entry}
      → Marked role marks shape words callers log → get_elem? callers id ≡ some me → {reader : ℕ} {x y : Grip}
      → role me ≡ Reader reader x → {after : Role} {entries : List Entry} → after ≡ Reader reader y
      → ((key : ℕ) → key < shape.keys
      → name_number (get_or (operated words operation) key 0) ≡ name_number (get_or words key 0))
      → QuietEnd log entries → (now : Marks) → now.polls ≡ (marks me).polls
      → ((gripped y ≡ gripped x) × (now.acts ≡ (marks me).acts) × (now.put ≡ (marks me).put))
      ⊎ ((marks me).acts < now.acts)
      → ((j slot : ℕ) (u : A) (desk : Desk) → get_elem? callers j ≡ some u → role u ≡ Writer desk
      → Desked role marks shape words callers log desk (marks u) → gripped y ≡ Some slot
      → Keeps (marks u) slot now.put × (0 < retirements slot desk.retired → gripped x ≡ Some slot))
      → SameContents shape words (operated words operation)
      → tells (get_or words (target_of operation) 0) after (log ++ entries) now []
      → Remarked role marks shape words callers log id operation me after entries tells
  reader_step {operation} {tells} {words} {callers} {log} m at {reader} {x} {y} was {after} {entries} is names quiet now
      same_polls moves holds contents told =
      let evolves : (who : A) → role who ≡ after → marks who ≡ now → Evolves role marks me who
      = λ who is_role is_marks c z e.
      let n : reader ≡ c = cc in
      let g = ap gripped (same_grip (sym was ∙ e)) in (
        y,
        is_role ∙ is ∙ ap (λ (b : ℕ). Reader b y) n,
        ⊎_elim
            (λ (q : (gripped y ≡ gripped x) × (now.acts ≡ (marks me).acts) × (now.put ≡ (marks me).put)). inl
            (q.0 ∙ g, ap (λ (k : Marks). k.acts) is_marks ∙ q.1, ap (λ (k : Marks). k.put) is_marks ∙ q.2))
            (λ (q : (marks me).acts < now.acts). inr
            (let e' : (marks who).acts ≡ now.acts = ap (λ (k : Marks). k.acts) is_marks in omega arith))
            moves,
      ) in record {
        now = now;
        news = [];
        since = no_places (Since role marks callers);
        evolves = evolves;
        marked = λ who is_role is_marks. marked_reader role marks shape words (operated words operation) callers log
            (log ++ entries) id me who reader x y at was (is_role ∙ is) (evolves who is_role is_marks) names quiet.0
            quiet.1
            (λ j slot u desk there writes t e.
            let h = holds j slot u desk there writes t e in
            ((h.0.0 ∙ ap (λ (k : Marks). k.put) (sym is_marks), h.0.1), h.1))
            contents m;
        noted = λ place note there. inl (ap (λ (l : List Past). get_elem? l place) (sym same_polls) ∙ there);
        told = told;
      }

module _ {A : Type 0} (role : A → Role) (marks : A → Marks) (shape : Shape) (id : ℕ) (me : A) (known : List Past) where
  pub asks_marked : (reader key : ℕ) → key < shape.keys → role me ≡ Reader reader Nothing
      → CanMark role marks shape id me known (Or key 1) (Asks reader key) (KeepsMarks (marks me))
  asks_marked reader key near was words callers log core m once at since after entries ans =
      let word : ℕ = get_or words key 0 in
      reader_step m at was ans.0
      (λ k _. names_kept words key (bit_or word 1) (omega arith) (name-asked word (bit_or word 1) (with_ask_is word)) k)
      (one_ends log entries (entry reader (model.Ask key) (ask_word word)) ans.1
      (asks_nothing_done (slot_of word) (is_filled word) (has_ask word)))
      (marks me) refl (inl (refl, refl, refl)) (λ j slot u desk there writes t e. absurd (cc))
      (contents_behind shape words key _ near) (refl, refl)

  pub reads_marked : (reader slot index : ℕ) (rows : List Row) (sized : Bool)
      → role me ≡ Reader reader (On slot rows sized)
      → CanMark role marks shape id me known (Load (content shape slot index)) (ReadsHeld reader slot rows sized index)
      (KeepsMarks (marks me))
  reads_marked reader slot index rows sized was words callers log core m once at since after entries ans =
      let place : ℕ = content shape slot index in
      reader_step m at was ans.1 (λ k _. ap (λ l. name_number (get_or l k 0)) (set-get_or words place 0))
      (none_end log entries ans.2) (marks me) refl (inl (refl, refl, refl))
      (λ j s u desk there writes t e. (t.held id reader s me (On slot rows sized) at was e, λ _. e))
      (contents_loaded shape words place) (refl, refl)

  pub departs_marked : (reader slot : ℕ) (rows : List Row) (sized : Bool) → role me ≡ Reader reader (On slot rows sized)
      → CanMark role marks shape id me known (Add (departures shape slot) 1) (Departs reader) (DepartsMarks (marks me))
  departs_marked reader slot rows sized was words callers log core m once at since after entries ans =
      let i : ℕ = departures shape slot in let x : ℕ = (get_or words i 0 + 1) % 2 ^ 64 in
      reader_step m at was ans.0 (λ k l. ap name_number (names_behind words shape.keys i x (omega arith) k l))
      (none_end log entries ans.1)
      (acted (marks me) (marks me).put) refl (inr (omega arith)) (λ j s u desk there writes t e. absurd (cc))
      (contents_counted shape words slot x) (refl, refl)

  pub arrives_marked : (reader key : ℕ) → key < shape.keys → role me ≡ Reader reader Nothing
      → CanMark role marks shape id me known (Add key ARRIVE) (Arrives shape reader key) (ArrivesMarks (marks me) key)
  arrives_marked reader key near was words callers log core m once at since after entries ans =
      let word : ℕ = get_or words key 0 in
      let x : ℕ = (word + ARRIVE) % 2 ^ 64 in
      let now = acted (marks me) (put_number (log ++ entries) key) in
      let Goal = Remarked role marks shape words callers log id (Add key ARRIVE) me after entries
      (ArrivesMarks (marks me) key) in
      let finish : (y : Grip) (r : Reply) → is_done r ≡ false → after ≡ Reader reader y
      → entries ≡ entry reader (model.Find key) r ∷ []
      → ((slot : ℕ) → gripped y ≡ Some slot → name_number word ≡ suc slot) → Goal
      = λ y r quiet is is_entries holds.
      let e = entry reader (model.Find key) r in
      let ends = one_ends log entries e is_entries quiet in
      reader_step m at
      was is (λ k _. names_kept words key x (omega arith) (name-bumped word) k) ends now refl (inr (omega arith))
      (λ j slot u desk there writes t on. let names = holds slot on in let kept = t.puts key slot near names in (
        (kept.0 ∙ sym (ends.0 key), kept.1),
        λ l. absurd
            (let r = rests role marks shape words callers log j u desk slot core there writes l in
            omega (arith, is_named shape words key slot near names)),
      ))
      (contents_behind shape words key x near) (refl, refl) in
      elim ans [
        | inl t ↦
            finish (On t.0 t.1 false) (reply.Rows t.1) refl t.5 t.6 (λ slot on. t.2 ∙ ap suc (some_is t.0 slot on))
        | inr t ↦ finish Nothing reply.Hole refl t.1 t.2 (λ slot on. absurd (cc))
      ]

-- A look-up, and a hold of the slot that a key names: the reader's marks go along.

module _ {A : Type 0} (role : A → Role) (marks : A → Marks) (shape : Shape) (id : ℕ) (me : A) (known : List Past) where
  pub looks_up_marked : (reader key : ℕ) → role me ≡ Reader reader Nothing
      → CanMark role marks shape id me known (Load key) (LooksUp reader key) (LooksUpMarks (marks me) key)
  looks_up_marked reader key was words callers log core m once at since after entries ans =
      let word : ℕ = get_or words key 0 in
      let looked : Marks = with_look (marks me) key (name_number word) in
      let e = entry reader (model.Find key) reply.Hole in
      let finish : (now : Marks) → QuietEnd log entries → now.polls ≡ (marks me).polls
      → ((now.acts ≡ (marks me).acts) × (now.put ≡ (marks me).put)) ⊎ ((marks me).acts < now.acts)
      → now ≡ cond (is_filled word) looked (acted looked (put_number (log ++ entries) key))
      → Remarked role marks shape words callers log id (Load key) me after entries (LooksUpMarks (marks me) key)
      = λ now ends polls moves told. reader_step m at was ans.0
      (λ k _. ap (λ l. name_number (get_or l k 0)) (set-get_or words key 0)) ends now polls
      (⊎_elim (λ (s : (now.acts ≡ (marks me).acts) × (now.put ≡ (marks me).put)). inl (refl, s.0, s.1)) inr moves)
      (λ j s u desk there writes t on. absurd (cc)) (contents_loaded shape words key) (told, refl) in
      either (is_filled word)
      (λ full. finish looked
      (none_end log entries (ans.1 ∙ ap (λ (b : Bool). cond {A = List Entry} b [] (e ∷ [])) full)) refl
      (inl (refl, refl))
      (sym (ap (λ (b : Bool). cond {A = Marks} b looked (acted looked (put_number (log ++ entries) key))) full)))
      (λ empty. finish (acted looked (put_number (log ++ entries) key))
      (one_ends log entries e (ans.1 ∙ ap (λ (b : Bool). cond {A = List Entry} b [] (e ∷ [])) empty) refl) refl
      (inr (omega arith))
      (sym (ap (λ (b : Bool). cond {A = Marks} b looked (acted looked (put_number (log ++ entries) key))) empty)))

  pub holds_named_marked : (reader key slot : ℕ) → key < shape.keys → role me ≡ Reader reader Nothing
      → CanMarkWhere role marks shape id me known (Add (departures shape slot) (2 ^ 64 - 1))
      (λ words. name_number (get_or words key 0) ≡ suc slot) (HoldsNamed shape reader slot key)
      (HoldsNamedMarks (marks me) key slot)
  holds_named_marked reader key slot near was words callers log core m names once at since after entries ans =
      let i : ℕ = departures shape slot in
      let word : ℕ = get_or words i 0 in
      let x : ℕ = (word + (2 ^ 64 - 1)) % 2 ^ 64 in
      let rows = ans.0 in
      let e = entry reader (model.Find key) (reply.Rows rows) in
      let now = acted (with_look (marks me) key (suc slot)) (put_number (log ++ entries) key) in
      let ends = one_ends log entries e ans.4 refl in
      reader_step m at was ans.3
      (λ k l. ap name_number (names_behind words shape.keys i x (omega arith) k l)) ends now refl (inr (omega arith))
      (λ j s u desk there writes t on.
      let same = some_is slot s on in
      let named : name_number (get_or words key 0) ≡ suc s = names ∙ ap suc same in
      let kept = t.puts key s near named in (
        (kept.0 ∙ sym (ends.0 key), kept.1),
        λ l. absurd
            (let r = rests role marks shape words callers log j u desk s core there writes l in
            omega (arith, is_named shape words key s near named)),
      ))
      (contents_counted shape words slot x) (refl, refl)
