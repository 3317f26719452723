use Rattle.std.proofs.Common.{◌≡◌, ◌∙◌, Bor, ap, inl, inr, map, rules, subst}
use Rattle.udfs_space.specs.Views.{view_by}
use Rattle.udfs_walk.specs.declared.answers.Unnamed.{Unnamed}
use Rattle.udfs_lost.specs.Folders.{lost_folders}
use Rattle.udfs_lost.specs.FoundNames.{unplaced}
use Rattle.udfs_lost.specs.LostFiles.{lost_files}
use Rattle.udfs_overview.specs.LostTrees.{IsUnfound}
use Rattle.udfs_extraction.specs.LostTrees.{AddsFiles, IsFileRefused, IsUnfoundIn}
use Rattle.udfs_extraction.specs.Seats.{IsFoundIn}
use Rattle.udfs_extraction.proofs.FoundLemmas.{told_by}
use Rattle.udfs_extraction.proofs.lost_found.lost_in.Goals as goal

pub returns-in-Err-clause-refused : goal.returns-in-Err-clause-refused
returns-in-Err-clause-refused g c known =
    let v = view_by g.B.BlockStore.states c.args.view in
    told_by (IsUnfound v (lost_folders v c.args.deleted c.args.entries.now)) (IsUnfoundIn v c.args.deleted c.args.entries.now) (λ error why. inl why) c.in-Err.error (c.in-Err.ensures.refused known)

pub returns-in-Err-OutOfMemory-clause-refused : goal.returns-in-Err-OutOfMemory-clause-refused
returns-in-Err-OutOfMemory-clause-refused g c known = inl tt

pub returns-in-Err-OutOfMemory-lost_files_by-clause-refused : goal.returns-in-Err-OutOfMemory-lost_files_by-clause-refused
returns-in-Err-OutOfMemory-lost_files_by-clause-refused g c known = inl tt

pub returns-in-Err-add_files-clause-refused : goal.returns-in-Err-add_files-clause-refused
returns-in-Err-add_files-clause-refused g c known =
    let v = view_by g.B.BlockStore.states c.args.view in
    let same : c.deref-3.result.now ≡ c.in-Ok-lost_files_by.files.items = search rules in
    let trees : c.deref-2.result.now ≡ c.in-Ok.trees.items = search rules in
    let are = ap (map (λ (file : Bor Unnamed). file.now)) same ∙ c.in-Ok-lost_files_by.ensures.value known ∙ ap (λ ts. lost_files v c.args.deleted ts c.args.entries.now) trees in
    told_by (IsFileRefused v (map (λ (file : Bor Unnamed). file.now) c.deref-3.result.now)) (IsUnfoundIn v c.args.deleted c.args.entries.now) (λ error why. inr (
      c.in-Ok.trees.items,
      c.in-Ok.ensures.trees known,
      subst (λ files. IsFileRefused v files error) are why,
    )) c.in-Err-add_files.error (c.in-Err-add_files.ensures.refused known)

pub returns-in-Ok-add_files-clause-trees : goal.returns-in-Ok-add_files-clause-trees
returns-in-Ok-add_files-clause-trees g c known =
    let v = view_by g.B.BlockStore.states c.args.view in
    let same : c.deref-3.result.now ≡ c.in-Ok-lost_files_by.files.items = search rules in
    let trees : c.deref-2.result.now ≡ c.in-Ok.trees.items = search rules in
    let are = ap (map (λ (file : Bor Unnamed). file.now)) same ∙ c.in-Ok-lost_files_by.ensures.value known ∙ ap (λ ts. lost_files v c.args.deleted ts c.args.entries.now) trees in
    record {
      folders = c.in-Ok.trees.items;
      are_folders = c.in-Ok.ensures.trees known;
      are_files = subst (λ files. AddsFiles v files c.in-Ok.trees.items c.add_files.new.trees.items) are (c.in-Ok-add_files.ensures.added known);
    }

pub returns-in-Ok-add_files-clause-names : goal.returns-in-Ok-add_files-clause-names
returns-in-Ok-add_files-clause-names g c known =
    let v = view_by g.B.BlockStore.states c.args.view in
    let trees : c.deref.result.now ≡ c.in-Ok.trees.items = search rules in
    record {
      folders = c.in-Ok.trees.items;
      are_folders = c.in-Ok.ensures.trees known;
      each = λ p is. subst (λ ts. IsFoundIn v (unplaced v c.args.deleted ts c.args.entries.now) c.args.nodes.now ts p) trees (c.in-Ok-find_names.ensures.found known p is);
    }
