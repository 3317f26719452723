-- The nodes of the sample volumes, by what stands at the ends of their routes.
use Rattle.std.proofs.Common.{◌≡◌, refl, ◌∙◌, ap, List, [], false, cond, ◌||◌}
use Rattle.udfs_tag.specs.declared.layouts.LongAd.{LongAd}
use Rattle.udfs_volume.specs.Sample.{Maps, one_type1, one_sparable, type1_and_sparable}
use Rattle.udfs_file.specs.Bodies.{cells}
use Rattle.udfs_file.specs.Entries.{entry_of}
use Rattle.udfs_file.specs.Fronts.{fault_in}
use Rattle.udfs_file.specs.Sample.{AreSampleFiles, IsSampleFile, a_cells, b_cells, root_cells, sample_view}
use Rattle.udfs_file.specs.declared.cells.Cell.{Cell}
use Rattle.udfs_file.specs.declared.faults.Kind.{Kind}
use Rattle.udfs_file.proofs.PublicLaws.{sample_files_are_read}
use Rattle.udfs_walk.specs.Nodes.{node, node_at}
use Rattle.udfs_walk.specs.Routes.{Walked, entries_below, is_deep, is_loop, kind_entries, target_entries}
use Rattle.udfs_walk.specs.Sample.{HaveSampleNodes, at_a, at_b, top}
use Rattle.udfs_walk.specs.Standings.{body_standing, cells_standing, depth_or, standing_or_fault}
use Rattle.udfs_walk.specs.Targets.{entry, entry_unless, target, target_at}
use Rattle.udfs_walk.specs.declared.standings.Standing.TheVariants.{Whole, Loop}

-- the address of a file leads to its entry
target_is : (maps : Maps) (a : LongAd) (kind : Kind) (cs : List Cell) (f : IsSampleFile maps a kind cs) → target (sample_view maps) a ≡ entry (entry_of f.bytes)
unfolding target
target_is maps a kind cs f = (λ i. target_at (f.is_good i) a.block (f.there i)) ∙ ap (λ o. entry_unless o (entry_of f.bytes)) f.is_sound

-- what is told of it is what its body says
standing_is : (maps : Maps) (w : Walked) (kind : Kind) (cs : List Cell) (f : IsSampleFile maps w.address kind cs) → is_loop w ≡ false → (node (sample_view maps) w).standing ≡ body_standing (sample_view maps).profile kind (is_deep w) (cells cs)
unfolding node
standing_is maps w kind cs f loop = ap (λ t. (node_at (sample_view maps) w t).standing) (target_is maps w.address kind cs f)
    ∙ (λ i. cond (loop i) Loop (body_standing (sample_view maps).profile (f.kind_is i) (is_deep w) (f.has_body i)))

-- and routes go on at what it lists
entries_are : (maps : Maps) (w : Walked) (kind : Kind) (cs : List Cell) (f : IsSampleFile maps w.address kind cs) → is_loop w ≡ false → is_deep w ≡ false → entries_below (sample_view maps) w ≡ kind_entries (sample_view maps).profile kind (cells cs)
unfolding entries_below
entries_are maps w kind cs f loop deep = (λ i. cond (loop i || deep i) [] (target_entries (sample_view maps) w.address (target_is maps w.address kind cs f i)))
    ∙ (λ i. kind_entries (sample_view maps).profile (f.kind_is i) (f.has_body i))

-- no cell is missing
all_of_root : (maps : Maps) → cells_standing (root_cells maps) ≡ Whole
unfolding cells_standing
all_of_root one_type1 = refl
all_of_root one_sparable = refl
all_of_root type1_and_sparable = refl

all_of_a : cells_standing a_cells ≡ Whole
unfolding cells_standing
all_of_a = refl

all_of_b : cells_standing b_cells ≡ Whole
unfolding cells_standing
all_of_b = refl

pub sample_nodes : HaveSampleNodes
sample_nodes maps = record {
  whole_root = standing_is maps top _ (root_cells maps) files.root refl
      ∙ (λ i. standing_or_fault (fault_in (files.no_rest i)) (depth_or false (files.entries i) (all_of_root maps i)));
  below_root = entries_are maps top _ (root_cells maps) files.root refl refl ∙ files.entries;
  whole_a = standing_is maps at_a _ a_cells files.a refl ∙ all_of_a;
  below_a = entries_are maps at_a _ a_cells files.a refl refl;
  whole_b = standing_is maps (at_b maps) _ b_cells files.b (not_a_loop maps) ∙ all_of_b;
  below_b = entries_are maps (at_b maps) _ b_cells files.b (not_a_loop maps) refl;
}
  where
    files : AreSampleFiles maps
    files = sample_files_are_read maps

    not_a_loop : (maps : Maps) → is_loop (at_b maps) ≡ false
    not_a_loop one_type1 = refl
    not_a_loop one_sparable = refl
    not_a_loop type1_and_sparable = refl
