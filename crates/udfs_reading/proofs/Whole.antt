-- A whole file that was read through a window which was empty before and after.
use Rattle.std.proofs.Common.{◌≡◌, ℕ, List, [], Option, Some, None, sym, ap, subst, ◌∙◌}
use Rattle.std.specs.Io.KnownBytes.{Consumes, IsAtEnd}
use Rattle.udfs_lattice.specs.Tables.{Table, empty_table, join_tables}
use Rattle.udfs_lattice.specs.TableLaws.{join_tables-empty}
use Rattle.udfs_reading.specs.Device.{left}
use Rattle.udfs_reading.specs.Kind.{Kind}
use Rattle.udfs_reading.specs.Outcome.{Takes, Reads}
use Rattle.udfs_reading.specs.Several.{Joins}

pub consumed_alone : (a b : Option (List ℕ)) (got : List ℕ) → Consumes (left [] a) (left [] b) got → Consumes a b got
consumed_alone None b got h = tt
consumed_alone (Some xs) None got h = absurd h
consumed_alone (Some xs) (Some ys) got h = h

ended_alone : (b : Option (List ℕ)) → IsAtEnd (left [] b) → IsAtEnd b
ended_alone None h = tt
ended_alone (Some ys) h = h

pub joins_whole : (K : Kind) (v w : List ℕ) (a b : Option (List ℕ)) (s t : Table) → v ≡ [] → w ≡ [] → Takes K [] (left v a) (left w b) s t → Joins K a b s t
joins_whole K v w a b s t p q h =
    let given : Consumes (left [] a) (left [] b) h.got = subst (λ (l : List ℕ). Consumes (left [] a) (left l b) h.got) q (subst (λ (l : List ℕ). Consumes (left l a) (left w b) h.got) p h.given) in
    record {
      table = h.table;
      reads = record {
        got = h.got;
        count = h.count;
        given = consumed_alone a b h.got given;
        end = ended_alone b (subst (λ (l : List ℕ). IsAtEnd (left l b)) q h.end);
        file = h.file;
      };
      joined = h.joined;
    }

pub reads_whole : (K : Kind) (v w : List ℕ) (a b : Option (List ℕ)) (s t : Table) → v ≡ [] → w ≡ [] → s ≡ empty_table → Takes K [] (left v a) (left w b) s t → Reads K a b t
reads_whole K v w a b s t p q r h =
    let all = joins_whole K v w a b s t p q h in
    let is : all.table ≡ t = sym (join_tables-empty all.table) ∙ ap (λ (u : Table). join_tables u all.table) (sym r) ∙ sym all.joined in
    subst (Reads K a b) is all.reads
