-- That a ledger's upqueries are of its map: of one without any, and with a new one.
use Rattle.std.proofs.Common.{◌≡◌, ℕ, MatchOption, None, Some, subst}
use Rattle.std.specs.Bool.{⊤}
use Rattle.std.proofs.lemmas.List.Elements.{All-replicate, All-set}
use Rattle.nr_idmap.specs.Keepers.{IdTable, Sent}
use Rattle.nr_c.specs.Ledgers.{AreOf, Counted, Entries, keeps_new, next_count, no_entries}

none-is-not-some : (counted : Counted) → None ≡ Some counted → ⊥
none-is-not-some counted is = subst (λ one. MatchOption one ⊤ (λ _. ⊥)) is tt

pub none_is_of_any : (table : IdTable) (map ways : ℕ) → AreOf table (no_entries map ways)
none_is_of_any table map ways =
    All-replicate (λ one. (counted : Counted) → one ≡ Some counted → counted.upquery.table ≡ table) ways None
    (λ counted is. absurd (none-is-not-some counted is))

pub kept_is_of : (table : IdTable) (upquery : Sent) (kept : Entries) → upquery.table ≡ table → AreOf table kept
    → AreOf table (keeps_new upquery kept)
kept_is_of table upquery kept own are =
    All-set (λ one. (counted : Counted) → one ≡ Some counted → counted.upquery.table ≡ table) kept.places
    upquery.owed.way (Some (record { count = next_count kept; upquery = upquery }))
    (λ counted is. subst (λ one. MatchOption one ⊤ (λ (c : Counted). c.upquery.table ≡ table)) is own) are
