use Rattle.std.proofs.Common.{rules, subst, sym}
use Rattle.std.specs.List.Sorted.{IsPermutation}
use Rattle.std.proofs.lemmas.List.Sorted.{IsNonDecreasingBy-from_sort_by_key}
use Rattle.udfs_tag.specs.Fields.{number_of}
use Rattle.udfs_space.specs.Views.{view_by}
use Rattle.udfs_lost.specs.Folders.{AreLostRoots, IsRootsRefused, lost_folders}
use Rattle.udfs_lost.specs.Starts.{AreRising}
use Rattle.udfs_lost.proofs.EntryLemmas.{refused_on}
use Rattle.udfs_lost.proofs.SearchLemmas.{permuted_refused, permuted_roots, rising}
use Rattle.udfs_lost.proofs.folders.lost_roots_by.Goals as goal

pub roots-requires : goal.roots-requires
roots-requires g c = subst AreRising (sym c.deref.ensures.value)
    (rising _ (IsNonDecreasingBy-from_sort_by_key number_of _ c.sort_unstable_by_key.ensures.sorted (λ a r q k. search rules)))

pub returns-in_err-roots-clause-refused : goal.returns-in_err-roots-clause-refused
returns-in_err-roots-clause-refused g c =
    let v = view_by g.B.BlockStore.states c.args.view in
    let found = lost_folders v c.args.deleted c.args.entries.now in
    let sorted = c.sort_unstable_by_key.new.self.items in
    refused_on g.B.BlockStore.tells (IsRootsRefused v c.deref.result.now) (IsRootsRefused v found) c.from_residual-in_err-roots.result c.in_err-roots.field-0.0 c.from_residual-in_err-roots.ensures.1
    (λ told error x. permuted_refused v found sorted error (subst (λ z. IsPermutation z sorted) (c.in_ok-folders.ensures.value told) c.sort_unstable_by_key.ensures.permutation)
    (subst (λ z. IsRootsRefused v z error) c.deref.ensures.value x)) c.in_err-roots.ensures.refused

pub returns-clause-roots : goal.returns-clause-roots
returns-clause-roots g c told =
    let v = view_by g.B.BlockStore.states c.args.view in
    let found = lost_folders v c.args.deleted c.args.entries.now in
    let sorted = c.sort_unstable_by_key.new.self.items in
    permuted_roots v found sorted c.in_ok-roots.roots.items (subst (λ z. IsPermutation z sorted) (c.in_ok-folders.ensures.value told) c.sort_unstable_by_key.ensures.permutation)
    (subst (λ z. AreLostRoots v z c.in_ok-roots.roots.items) c.deref.ensures.value (c.in_ok-roots.ensures.roots told))
