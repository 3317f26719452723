-- What is counted of what is lost: nodes and files that are lent, and entries whose lists were let go.
use Rattle.std.proofs.Common.{◌≡◌, ◌∙◌, refl, sym, ap, subst, inl, inr, ℕ, ◌+◌, ◌<◌, ◌&&◌, Bool, true, false, List, [], ◌∷◌, ◌++◌, cond, length, map, nat_lt, take, get_or, append_assoc, Option, Some, option_map}
use Rattle.std.specs.Borrow.{Bor}
use Rattle.std.specs.Prelude.{count_by, sum_by}
use Rattle.std.proofs.lemmas.List.{length-map}
use Rattle.udfs_lattice.specs.Volumes.{Blocks}
use Rattle.udfs_volume.specs.Answers.{found, holes, faulty}
use Rattle.udfs_volume.specs.declared.faults.VolumeFault.{VolumeFault}
use Rattle.udfs_space.specs.Places.{View, view}
use Rattle.udfs_walk.specs.Bare.{full_entry, lists_at}
use Rattle.udfs_walk.specs.GivingUp.{IfTold}
use Rattle.udfs_walk.specs.NodeFields.{NodeFields}
use Rattle.udfs_walk.specs.Targets.{Icb, icb_at}
use Rattle.udfs_walk.specs.UnnamedEntries.{address_of}
use Rattle.udfs_walk.specs.declared.answers.NodesError.{NodesError}
use Rattle.udfs_walk.specs.declared.answers.NodesError.TheVariants.{TooManyPaths, OutOfMemory}
use Rattle.udfs_walk.specs.declared.answers.NodesGaveUp.{NodesGaveUp}
use Rattle.udfs_walk.specs.declared.answers.NodesGaveUp.TheVariants as gave_up
use Rattle.udfs_walk.specs.declared.answers.Unnamed.{Unnamed}
use Rattle.udfs_lost.specs.Folders.{AreLostRoots, IsRootsRefused, lost_folders}
use Rattle.udfs_lost.specs.LostFiles.{lost_files}
use Rattle.udfs_lost.specs.LostTrees.{IsTreesRefused}
use Rattle.udfs_lost.specs.declared.trees.LostTree.{LostTree}
use Rattle.udfs_lost.proofs.Members.{take_next}
use Rattle.udfs_lost.proofs.PublicLaws.{bare_entries_will_do}
use Rattle.udfs_salvage.specs.Found.{Found, volume_now}
use Rattle.udfs_salvage.specs.Surveys.{full_entries, survey_by}
use Rattle.udfs_salvage.specs.UnnamedExtraction.{is_file}
use Rattle.udfs_salvage.specs.declared.surveys.Survey as code_survey
use Rattle.udfs_overview.specs.DiscTallies.{has_data}
use Rattle.udfs_overview.specs.LostTallies.{IsTallied, IsTallyBy, is_deleted, is_lost_directory, lost_tally, tree_nodes, unfollowed}
use Rattle.udfs_overview.specs.LostTrees.{IsUnfound}
use Rattle.udfs_overview.specs.Searched.{Searched, looked_in, rootless_now, searched, searched_by, without_root}
use Rattle.udfs_overview.specs.declared.lost_found.Lost.{Lost}
use Rattle.udfs_overview.specs.Tallies.{bytes_of, count_of, is_node_of, or_zero}
use Rattle.udfs_overview.specs.declared.lost_tallies.LostTally.{LostTally}
use Rattle.udfs_overview.specs.declared.tallies.NodeSort.TheVariants as sort
use Rattle.udfs_overview.proofs.Counting.{sum_mapped}
use Rattle.udfs_overview.proofs.DiscCounting.{count_same, same_whole}
use Rattle.udfs_overview.proofs.LostPieces.{full_lost, full_unfound, opened_place}

-- ---- one more is lent
pub nodes_more : (xs : List NodeFields) (i : ℕ) (x : NodeFields) (start old new : List NodeFields) → i < length xs → x ≡ get_or xs i x → old ≡ start ++ take i xs → new ≡ old ++ x ∷ [] → new ≡ start ++ take (i + 1) xs
nodes_more xs i x start old new h at o n = n ∙ ap (λ z. z ++ x ∷ []) o ∙ append_assoc start (take i xs) (x ∷ []) ∙ ap (λ z. start ++ z) (sym (take_next xs i x h at))

-- ---- figures of what is lent
lent_count : {A : Type 0} (p : A → Bool) (xs : List (Bor A)) → count_by (λ (x : Bor A). p x.now) xs ≡ count_by p (map (λ (x : Bor A). x.now) xs)
lent_count {A} p xs = sym (sum_mapped (λ x. cond (p x) 1 0) (λ (x : Bor A). x.now) 0 xs)

lent_sum : {A : Type 0} (w : A → ℕ) (xs : List (Bor A)) → sum_by (λ (x : Bor A). w x.now) xs ≡ sum_by w (map (λ (x : Bor A). x.now) xs)
lent_sum {A} w xs = sym (sum_mapped w (λ (x : Bor A). x.now) 0 xs)

-- the figures as they are counted
abbrev pub figures_of : List (Bor NodeFields) → List (Bor Unnamed) → ℕ → LostTally
figures_of ns fs deleted = record {
  too_many = false;
  folders = count_by (λ (n : Bor NodeFields). is_lost_directory n.now) ns;
  whole_files = count_by (λ (n : Bor NodeFields). is_node_of sort.WholeFile n.now) ns;
  whole_bytes = sum_by (λ (n : Bor NodeFields). cond (is_node_of sort.WholeFile n.now) (or_zero n.now.size) 0) ns;
  torn_files = count_by (λ (n : Bor NodeFields). is_node_of sort.TornFile n.now) ns;
  files = length fs;
  with_data = count_by (λ (f : Bor Unnamed). has_data f.now) fs;
  deleted = deleted;
}

pub tally_of : (v : View) (es : List Unnamed) (trees : List LostTree) (ns : List (Bor NodeFields)) (fs : List (Bor Unnamed)) (deleted : ℕ) (t : LostTally)
    → map (λ (n : Bor NodeFields). n.now) ns ≡ tree_nodes trees → map (λ (f : Bor Unnamed). f.now) fs ≡ lost_files v false trees es → deleted ≡ count_by (is_deleted v) es → t ≡ figures_of ns fs deleted
    → t ≡ lost_tally v es trees
unfolding lost_tally
tally_of v es trees ns fs deleted t nodes files gone is = is ∙ (λ i. record {
  too_many = false;
  folders = (lent_count is_lost_directory ns ∙ ap (count_by is_lost_directory) nodes) i;
  whole_files = (lent_count (is_node_of sort.WholeFile) ns ∙ ap (count_of sort.WholeFile) nodes) i;
  whole_bytes = (lent_sum (λ (n : NodeFields). cond (is_node_of sort.WholeFile n) (or_zero n.size) 0) ns ∙ ap (bytes_of sort.WholeFile) nodes) i;
  torn_files = (lent_count (is_node_of sort.TornFile) ns ∙ ap (count_of sort.TornFile) nodes) i;
  files = (sym (length-map fs (λ (f : Bor Unnamed). f.now)) ∙ ap length files) i;
  with_data = (lent_count has_data fs ∙ ap (count_by has_data) files) i;
  deleted = gone i;
})

-- ---- where there are too many
abbrev pub many : ℕ → LostTally
many deleted = record { too_many = true; folders = 0; whole_files = 0; whole_bytes = 0; torn_files = 0; files = 0; with_data = 0; deleted = deleted }

abbrev pub IsUntallied : NodesGaveUp → ℕ → LostTally → Type 0
IsUntallied why deleted tally = (why ≡ gave_up.TooManyPaths) × (tally ≡ many deleted)

pub too_many_is : (v : View) (es : List Unnamed) (t : LostTally) (deleted : ℕ) → t ≡ many deleted → deleted ≡ count_by (is_deleted v) es → t ≡ unfollowed v es
unfolding unfollowed
too_many_is v es t deleted is gone = is ∙ ap many gone

pub untold : (v : View) (es : List Unnamed) (why : NodesGaveUp) → why ≡ gave_up.TooManyPaths → IfTold (IsUnfound v (lost_folders v false es)) why → IsUnfound v (lost_folders v false es) TooManyPaths
untold v es why is x = subst (IfTold (IsUnfound v (lost_folders v false es))) is x

-- ---- why they are not found
pub roots_unfound : (v : View) (folders : List Icb) (error : NodesError) → IsRootsRefused v folders error → IsUnfound v folders error
roots_unfound v folders TooManyPaths x = inl x
roots_unfound v folders OutOfMemory x = tt

pub trees_unfound : (v : View) (folders roots : List Icb) (error : NodesError) → AreLostRoots v folders roots → IsTreesRefused v roots error → IsUnfound v folders error
trees_unfound v folders roots TooManyPaths are x = inr (record { roots = roots; are_roots = are; more = x })
trees_unfound v folders roots OutOfMemory are x = tt

-- ---- entries without their lists count as those with them
deleted_full : (v : View) (es : List Unnamed) → count_by (is_deleted v) (map (full_entry v) es) ≡ count_by (is_deleted v) es
deleted_full v es = count_same (is_deleted v) (full_entry v) (λ u. refl) 0 es

data_full : (v : View) (us : List Unnamed) → count_by has_data (map (full_entry v) us) ≡ count_by has_data us
data_full v us = count_same has_data (full_entry v) (λ u. ap (λ t. t && is_file u.kind && nat_lt 0 u.size) (same_whole (lists_at v (address_of (icb_at u.reference u.block))) u.standing)) 0 us

tally_full : (v : View) (es : List Unnamed) (trees : List LostTree) → lost_tally v es trees ≡ lost_tally v (map (full_entry v) es) trees
unfolding lost_tally
tally_full v es trees = let files = (bare_entries_will_do v false trees es).files in (λ i. record {
  too_many = false;
  folders = count_by is_lost_directory (tree_nodes trees);
  whole_files = count_of sort.WholeFile (tree_nodes trees);
  whole_bytes = bytes_of sort.WholeFile (tree_nodes trees);
  torn_files = count_of sort.TornFile (tree_nodes trees);
  files = (sym (ap length files ∙ length-map (lost_files v false trees es) (full_entry v))) i;
  with_data = (sym (ap (count_by has_data) files ∙ data_full v (lost_files v false trees es))) i;
  deleted = sym (deleted_full v es) i;
})

unfollowed_full : (v : View) (es : List Unnamed) → unfollowed v es ≡ unfollowed v (map (full_entry v) es)
unfolding unfollowed
unfollowed_full v es = ap many (sym (deleted_full v es))

pub full_tallied : (v w : View) (es entries : List Unnamed) (trees : List LostTree) (t : LostTally) → v ≡ w → es ≡ entries → IsTallied v es trees t → IsTallied w (map (full_entry w) entries) trees t
full_tallied v w es entries trees t seen are a = subst (λ z. IsTallied z (map (full_entry z) entries) trees t) seen (subst (λ l. IsTallied v (map (full_entry v) l) trees t) are (go a))
  where
    go : IsTallied v es trees t → IsTallied v (map (full_entry v) es) trees t
    go (inl h) = inl (record { are_lost = full_lost v v false es es trees refl refl h.are_lost; is = h.is ∙ tally_full v es trees })
    go (inr h) = inr (record { unfound = full_unfound v v false es es TooManyPaths refl refl h.unfound; none = h.none; is = h.is ∙ unfollowed_full v es })

-- ---- of a survey's volume
module _ {B : Type 0} (states : B → Blocks) (s : code_survey.Survey B) where
  abbrev place_in : Option Searched → Option Searched
  place_in closed = searched_by closed (states s.table.now) (volume_now s.volume) (full_entries (states s.table.now) (volume_now s.volume) s.unnamed.items)

  pub opened_tally : (f : Found) (v : View) (es : List Unnamed) (trees : List LostTree) (t : LostTally) → volume_now s.volume ≡ found f → v ≡ view (states s.table.now) f.space → es ≡ s.unnamed.items → IsTallied v es trees t
      → IsTallyBy (searched s.profile (states s.table.now) s.last (survey_by states s)) trees t
  opened_tally f v es trees t opened seen are a =
      subst (λ o. IsTallyBy o trees t) (sym (opened_place (states s.table.now) (volume_now s.volume) f s.unnamed.items (without_root s.profile (states s.table.now) s.last) opened))
      (full_tallied v (view (states s.table.now) f.space) es s.unnamed.items trees t seen are a)

  -- it is looked for in it
  pub opened_there : (f : Found) (lost : Lost) → volume_now s.volume ≡ found f → looked_in (states s.table.now) (survey_by states s) lost ≡ searched s.profile (states s.table.now) s.last (survey_by states s)
  opened_there f lost opened =
      opened_place (states s.table.now) (volume_now s.volume) f s.unnamed.items (option_map (rootless_now (states s.table.now)) lost.rootless) opened
      ∙ sym (opened_place (states s.table.now) (volume_now s.volume) f s.unnamed.items (without_root s.profile (states s.table.now) s.last) opened)

  -- a volume that does not open is looked through in what is known of it without its file set
  abbrev pub IsShut : Type 0
  IsShut = (closed : Option Searched) → place_in closed ≡ closed

  pub holes_shut : (listed : List ℕ) → volume_now s.volume ≡ holes listed → IsShut
  holes_shut listed is closed = λ i. searched_by closed (states s.table.now) (is i) (full_entries (states s.table.now) (is i) s.unnamed.items)

  pub faulty_shut : (fault : VolumeFault) → volume_now s.volume ≡ faulty fault → IsShut
  faulty_shut fault is closed = λ i. searched_by closed (states s.table.now) (is i) (full_entries (states s.table.now) (is i) s.unnamed.items)

  pub shut_tally : (trees : List LostTree) (t : LostTally) → IsShut → IsTallyBy (without_root s.profile (states s.table.now) s.last) trees t
      → IsTallyBy (searched s.profile (states s.table.now) s.last (survey_by states s)) trees t
  shut_tally trees t shut a = subst (λ o. IsTallyBy o trees t) (sym (shut (without_root s.profile (states s.table.now) s.last))) a

  pub shut_there : (lost : Lost) → IsShut → option_map (rootless_now (states s.table.now)) lost.rootless ≡ without_root s.profile (states s.table.now) s.last
      → looked_in (states s.table.now) (survey_by states s) lost ≡ searched s.profile (states s.table.now) s.last (survey_by states s)
  shut_there lost shut at = shut (option_map (rootless_now (states s.table.now)) lost.rootless) ∙ at ∙ sym (shut (without_root s.profile (states s.table.now) s.last))
