-- The entries of a table from a sorted list of what it holds.
use Rattle.std.specs.Prelude.{◌≡◌, ℕ, List}
use Rattle.std.specs.Ordering.{nat_cmp}
use Rattle.std.specs.Cmp.{nat_cmp_total}
use Rattle.std.specs.FinMap as fin
use lib.Dec.{T}
use Rattle.std.proofs.Common.{sym, ap, ◌∙◌}
use Rattle.udfs_lattice.specs.Tables.{Table, Held}

pub entries_from_find : (t : Table) (es : List (ℕ × Held)) → T (fin.is_sorted nat_cmp es) → ((q : ℕ) → fin.get t q ≡ fin.find nat_cmp q es) → fin.entries t ≡ es
entries_from_find t es h same =
    ap fin.entries (fin.same_map nat_cmp_total fin.nat_cmp-IsAntisymmetric t (fin.from_sorted es) (λ q. same q ∙ sym (fin.get-from_sorted nat_cmp es q h)))
    ∙ fin.entries-from_sorted nat_cmp es h
