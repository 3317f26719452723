-- A table with one more entry is one.
use Rattle.std.proofs.Common.{◌≡◌, ℕ, ◌<◌, ◌==◌, Bool, true, false, cond, List, length, slice_index_or, sym, ap, subst, ◌∙◌, refl}
use Rattle.std.proofs.lemmas.Bool.{eqb-true}
use Rattle.std.proofs.lemmas.Grind.{get_or_default_zero}
use Rattle.udfs_lattice.specs.declared.facts.Fact.TheVariants.{Unknown}
use Rattle.udfs_lattice.specs.States.{State, IsBlock, join_of}
use Rattle.udfs_lattice.specs.Tables.{Table, state_of, IsStateAt, IsStateAt-join_of, IsTable, empty_table, join_tables, one_entry}
use Rattle.udfs_lattice.specs.TableLaws.{state_of-empty, state_of-join_tables, state_of-one_entry}

pub none_is_table : IsTable empty_table
none_is_table n = subst (IsStateAt n) (sym (state_of-empty n)) tt

fits_at : (block n : ℕ) (s : State) (b : Bool) → (n == block) ≡ b → IsStateAt block s → IsStateAt n (cond b s Unknown)
fits_at block n s true is fits = subst (λ (k : ℕ). IsStateAt k s) (sym (eqb-true n block is)) fits
fits_at block n s false is fits = tt

pub one_more_is_table : (t : Table) (block : ℕ) (s : State) → IsTable t → IsStateAt block s → IsTable (join_tables t (one_entry block s))
one_more_is_table t block s is fits n =
    subst (IsStateAt n) (sym (state_of-join_tables t (one_entry block s) n ∙ ap (join_of (state_of t n)) (state_of-one_entry block s n)))
    (IsStateAt-join_of n (state_of t n) (cond (n == block) s Unknown) (is n) (fits_at block n s (n == block) refl fits))

-- an array of 2048 bytes is a block
pub block_of : (bytes : List ℕ) → length bytes ≡ 2048 → ((i : ℕ) → slice_index_or bytes i 0 < 256) → IsBlock bytes
block_of bytes whole small = record { whole = whole; bytes = λ k d lt. subst (λ x. x < 256) (sym (get_or_default_zero bytes k d lt)) (small k) }
