-- Surveys, and the reports that they stand for.
use Rattle.std.proofs.Common.{◌≡◌, refl, sym, ◌∙◌, ap, subst, ℕ, List, [], ◌∷◌, map}
use Rattle.std.specs.Prelude.{◌&&◌}
use Rattle.std.specs.List.{list_all}
use Rattle.udfs_volume.specs.declared.profiles.Profile.{Profile}
use Rattle.udfs_lattice.specs.Volumes.{Blocks}
use Rattle.udfs_volume.specs.Answers.{Answer, found, holes, faulty}
use Rattle.udfs_volume.specs.Answers.{and_then}
use Rattle.udfs_volume.specs.Layout.{layout_by}
use Rattle.udfs_volume.specs.declared.faults.VolumeFault.{VolumeFault}
use Rattle.udfs_space.specs.Places.{View, view}
use Rattle.udfs_walk.specs.Bare.{full_node, lists_at, with_lists}
use Rattle.udfs_walk.specs.NodeFields.{NodeFields}
use Rattle.udfs_walk.specs.TornFields.{TornFields}
use Rattle.udfs_walk.specs.declared.standings.Standing.{Standing}
use Rattle.udfs_walk.specs.declared.standings.Standing.TheVariants.{Whole, Torn, Loop, Fault}
use Rattle.udfs_walk.specs.declared.answers.Unnamed.{Unnamed}
use Rattle.udfs_salvage.specs.Found.{Found, placed, volume_by}
use Rattle.udfs_salvage.specs.Listings.{full_entry_in, full_in, unnamed_in}
use Rattle.udfs_salvage.specs.Reports.{MayWantMemoryBy, Report, ReportsBy, all_whole}
use Rattle.udfs_walk.specs.Unsettled.{is_whole}
use Rattle.udfs_salvage.specs.Surveys.{IsNoFault, full_entries, full_nodes}

-- of a volume without a fault memory may be wanted
pub wants_memory : (P : Profile) (M : Blocks) (N : ℕ) (a : Answer Found) → a ≡ volume_by P M N → IsNoFault a → MayWantMemoryBy P M N
unfolding volume_by
wants_memory P M N a is free = (λ h. never _ h, λ h. never _ h)
  where
    never : (e : VolumeFault) → layout_by P M N ≡ faulty e → ⊥
    never e h = subst IsNoFault (is ∙ ap (λ l. and_then l (placed M)) h) free

-- ---- the blocks and holes do not say whether a node is whole
same_whole : (lists : TornFields) (s : Standing) → is_whole (with_lists lists s) ≡ is_whole s
same_whole lists Whole = refl
same_whole lists (Torn torn) = refl
same_whole lists Loop = refl
same_whole lists (Fault f) = refl

all_same : (v : View) (ns : List NodeFields) → list_all (λ n. is_whole n.standing) (map (full_node v) ns) ≡ list_all (λ n. is_whole n.standing) ns
all_same v [] = refl
all_same v (n ∷ ns) = λ i. same_whole (lists_at v n.icb) n.standing i && all_same v ns i

full_whole : (v : View) (ns : List NodeFields) → all_whole (map (full_node v) ns) ≡ all_whole ns
full_whole v [] = refl
full_whole v (n ∷ ns) = all_same v (n ∷ ns)

-- nor do those of a listing
no_nodes : (M : Blocks) (a : Answer Found) (ns : List NodeFields) → map (full_in M a) ns ≡ [] → ns ≡ map (full_in M a) ns
no_nodes M a [] e = refl
no_nodes M a (n ∷ ns) e = absurd (let z : ⊥ = cc in z)

no_entries : (M : Blocks) (a : Answer Found) (us : List Unnamed) → map (full_entry_in M a) us ≡ [] → us ≡ []
no_entries M a [] e = refl
no_entries M a (u ∷ us) e = absurd (let z : ⊥ = cc in z)

-- the nodes of a survey are those of the listing
pub nodes_same : (M : Blocks) (a : Answer Found) (report : Report) (ns : List NodeFields) → ReportsBy M a report → report.nodes ≡ map (full_in M a) ns → full_nodes M a ns ≡ map (full_in M a) ns
nodes_same M (found f) report ns by is = refl
nodes_same M (holes listed) report ns by is = no_nodes M (holes listed) ns (sym is ∙ by.no_nodes)
nodes_same M (faulty fault) report ns by is = no_nodes M (faulty fault) ns (sym is ∙ by.no_nodes)

-- and so are the entries that no name leads to
pub entries_same : (M : Blocks) (a : Answer Found) (us : List Unnamed) (ns : List NodeFields) → map (full_entry_in M a) us ≡ unnamed_in M a ns → full_entries M a us ≡ unnamed_in M a ns
entries_same M (found f) us ns is = is
entries_same M (holes listed) us ns is = no_entries M (holes listed) us is
entries_same M (faulty fault) us ns is = no_entries M (faulty fault) us is

pub survey_whole : (M : Blocks) (a : Answer Found) (ns : List NodeFields) → all_whole (full_nodes M a ns) ≡ all_whole ns
survey_whole M (found f) ns = full_whole (view M f.space) ns
survey_whole M (holes listed) ns = refl
survey_whole M (faulty fault) ns = refl
