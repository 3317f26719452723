-- What a taker has taken, step by step.
use Rattle.std.proofs.Common.{sym, subst}
use Rattle.udfs_lattice.specs.Tables.{Table, empty_table, join_tables}
use Rattle.udfs_lattice.specs.TableLaws.{join_tables-assoc, join_tables-empty_right}
use Rattle.udfs_reading.specs.Gains.{Gains}

-- nothing was read
pub gains_none : {old new : Table → Type 0} {P : Table → Table → Type 0} → ((t : Table) → P t t) → ((t : Table) → old t → new t) → Gains old new P
gains_none {old} {new} {P} same took =
    record {
      read = empty_table;
      each = λ t. subst (P t) (sym (join_tables-empty_right t)) (same t);
      took = λ t h. subst new (sym (join_tables-empty_right t)) (took t h);
    }

-- one table was read
pub gains_one : {old new : Table → Type 0} {P : Table → Table → Type 0} (read : Table) → ((t : Table) → P t (join_tables t read)) → ((t : Table) → old t → new (join_tables t read)) → Gains old new P
gains_one read each took = record { read = read; each = each; took = took }

-- what was read, by other words
pub gains_as : {old new : Table → Type 0} {P Q : Table → Table → Type 0} → ((s t : Table) → P s t → Q s t) → Gains old new P → Gains old new Q
gains_as {old} {new} {P} {Q} told h = record { read = h.read; each = λ t. told t (join_tables t h.read) (h.each t); took = h.took }

-- one step after another
pub gains_then : {old mid new : Table → Type 0} {P Q S : Table → Table → Type 0} → ((s t u : Table) → P s t → Q t u → S s u) → Gains old mid P → Gains mid new Q → Gains old new S
gains_then {old} {mid} {new} {P} {Q} {S} compose h k =
    record {
      read = join_tables h.read k.read;
      each = λ t. subst (S t) (join_tables-assoc t h.read k.read) (compose t (join_tables t h.read) (join_tables (join_tables t h.read) k.read) (h.each t) (k.each (join_tables t h.read)));
      took = λ t p. subst new (join_tables-assoc t h.read k.read) (k.took (join_tables t h.read) (h.took t p));
    }

-- what was read, of an empty table before
pub gained : {old new : Table → Type 0} {P : Table → Table → Type 0} (h : Gains old new P) → P empty_table (join_tables empty_table h.read)
gained h = h.each empty_table
