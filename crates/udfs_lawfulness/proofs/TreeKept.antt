-- A tree is lawful in each complete view, where what is known of it is lawful and decides it.
use Rattle.std.proofs.Common.{◌≡◌, ◌≢◌, refl, sym, ◌∙◌, ap, subst, ℕ, Bool, true, false, List, [], ◌∷◌, cond, ◌||◌, Option, Some, None, slice_get}
use Rattle.std.specs.Prelude.{AllPairs, IsSome}
use Rattle.udfs_lattice.specs.Volumes.{ascending}
use Rattle.udfs_lattice.specs.declared.facts.Fact.TheVariants.{Known}
use Rattle.udfs_tag.specs.declared.layouts.LongAd.{LongAd}
use Rattle.udfs_volume.specs.declared.profiles.Profile.{Profile}
use Rattle.udfs_space.specs.Places.{View, IsPartOf}
use Rattle.udfs_file.specs.Bodies.{Body, cells, faulty_body, body}
use Rattle.udfs_file.specs.Complete.{IsComplete, IsReadBody, as_cells}
use Rattle.udfs_file.specs.Entries.{EntryFields}
use Rattle.udfs_file.specs.Fronts.{directory_by, entries_by, fault_in}
use Rattle.udfs_file.specs.Standard.{Located}
use Rattle.udfs_file.specs.TailBodies.{has_cells}
use Rattle.udfs_file.specs.declared.cells.Cell.{Cell}
use Rattle.udfs_file.specs.declared.directories.DirEntry.{DirEntry}
use Rattle.udfs_file.specs.declared.faults.Kind.{Kind}
use Rattle.udfs_file.specs.declared.faults.Kind.TheVariants.{Directory, File, Link, Other, Unread}
use Rattle.udfs_file.specs.declared.faults.NodeFault.{NodeFault}
use Rattle.udfs_file.proofs.PublicLaws.{body_is_read}
use Rattle.udfs_walk.specs.Nodes.{node, node_at}
use Rattle.udfs_walk.specs.Routes.{Route, Walked, at_root, below, entries_below, HasMoreRoutes, is_deep, is_loop, kind_entries, target_entries, walk_from, walked}
use Rattle.udfs_walk.specs.Standings.{body_standing, cells_standing, depth_or, kind_standing, missing_blocks, runs_from, standing_or_fault, torn_or_whole}
use Rattle.udfs_walk.specs.Targets.{unread, entry, target}
use Rattle.udfs_walk.specs.declared.standings.Standing.TheVariants.{Whole, Loop}
use Rattle.udfs_walk.specs.Lawful.{AreDistinct, IsLawfulTree}
use Rattle.udfs_walk.specs.Trees.{PartitionBlocks}
use Rattle.udfs_walk.proofs.PartRoutes.{TargetPart, target_same, target_unread, target_part}
use Rattle.udfs_walk.proofs.Runs.{none_missing}
use Rattle.udfs_walk.proofs.WholeRoutes.{WholeAt, step_on, whole_at}
use Rattle.udfs_lawfulness.specs.Asking.{is_data}
use Rattle.udfs_lawfulness.specs.Filled.{bytes_or_zeros, filled_view, is_mapped, target_has_cells}
use Rattle.udfs_lawfulness.proofs.Kept.{mapped_kept, whole_kept}

-- what is known of a node decides it: it is whole, or is no directory, and all allocation descriptors that it needs are known
pub data DecidedAt (v : View) (w : Walked) : Type 0 where
  is_whole : (node v w).standing ≡ Whole → DecidedAt v w
  is_file : (e : EntryFields) → target v w.address ≡ entry e → is_loop w ≡ false → is_data e.kind ≡ true → is_mapped v w.address ≡ true → DecidedAt v w

-- a node that is whole in a complete view, and lists what is known of it
record SameAt (v all : View) (w : Walked) : Type 0 where
  whole : (node all w).standing ≡ Whole
  entries : entries_below all w ≡ entries_below v w

-- ---- a view is a part of that with zeros
part_filled : (v : View) → IsPartOf v (filled_view v)
part_filled v = record {
  partitions = refl;
  places = λ r b. refl;
  profile = refl;
  complete = λ r b n p. (bytes_or_zeros (v.blocks n), refl);
  agrees = λ r b n bytes p q. ap (λ s. Known (bytes_or_zeros s)) q;
}

-- an entry that is known is the same with more known
target_kept : (v all : View) → IsPartOf v all → (a : LongAd) (e : EntryFields) → target v a ≡ entry e → target all a ≡ entry e
target_kept v all p a e t = go (target_part v all p a)
  where
    go : TargetPart v all a → target all a ≡ entry e
    go (target_same s) = sym s ∙ t
    go (target_unread n q u s) = absurd (let z : unread n ≡ entry e = sym s ∙ t in let no : ⊥ = cc in no)

-- ---- standings
cells_of_whole : (P : Profile) (k : Kind) (deep : Bool) (cs : List Cell) → kind_standing P k deep cs ≡ Whole → cells_standing cs ≡ Whole
cells_of_whole P File deep cs e = e
cells_of_whole P Link deep cs e = e
cells_of_whole P (Other t) deep cs e = e
cells_of_whole P Unread deep cs e = e
cells_of_whole P Directory deep cs e = no_fault (fault_in (directory_by P cs).rest) e
  where
    not_deep : (b : Bool) (es : List DirEntry) → depth_or b es (cells_standing cs) ≡ Whole → cells_standing cs ≡ Whole
    not_deep true [] q = q
    not_deep true (x ∷ es) q = absurd (let z : ⊥ = cc in z)
    not_deep false es q = q

    no_fault : (o : Option NodeFault) → standing_or_fault o (depth_or deep (entries_by P cs) (cells_standing cs)) ≡ Whole → cells_standing cs ≡ Whole
    no_fault None q = not_deep deep (entries_by P cs) q
    no_fault (Some f) q = absurd (let z : ⊥ = cc in z)

all_there : (cs : List Cell) → missing_blocks cs ≡ [] → cells_standing cs ≡ Whole
unfolding cells_standing
all_there cs e = ap (λ ns. torn_or_whole (ascending ns) (runs_from 0 cs)) e

none_of : (xs : List Located) → missing_blocks (as_cells xs) ≡ []
none_of [] = refl
none_of (x ∷ xs) = none_of xs

data_standing : (P : Profile) (k : Kind) (deep : Bool) (cs : List Cell) → is_data k ≡ true → kind_standing P k deep cs ≡ cells_standing cs
data_standing P File deep cs e = refl
data_standing P Link deep cs e = refl
data_standing P (Other t) deep cs e = refl
data_standing P Unread deep cs e = absurd (let z : ⊥ = cc in z)
data_standing P Directory deep cs e = absurd (let z : ⊥ = cc in z)

data_entries : (P : Profile) (k : Kind) (b : Body) → is_data k ≡ true → kind_entries P k b ≡ []
data_entries P File b e = refl
data_entries P Link b e = refl
data_entries P (Other t) b e = refl
data_entries P Unread b e = absurd (let z : ⊥ = cc in z)
data_entries P Directory b e = absurd (let z : ⊥ = cc in z)

-- ---- one node
node_is : (v : View) (w : Walked) (e : EntryFields) (cs : List Cell) → target v w.address ≡ entry e → is_loop w ≡ false → body v w.address.reference w.address.block e ≡ cells cs
    → kind_standing v.profile e.kind (is_deep w) cs ≡ Whole → (node v w).standing ≡ Whole
unfolding node
node_is v w e cs t l b s = ap (λ x. (node_at v w x).standing) t
    ∙ ap (λ x. cond x Loop (body_standing v.profile e.kind (is_deep w) (body v w.address.reference w.address.block e))) l
    ∙ ap (body_standing v.profile e.kind (is_deep w)) b ∙ s

entries_are : (v : View) (w : Walked) (e : EntryFields) → target v w.address ≡ entry e
    → entries_below v w ≡ cond (is_loop w || is_deep w) [] (kind_entries v.profile e.kind (body v w.address.reference w.address.block e))
unfolding entries_below
entries_are v w e t = ap (λ x. cond (is_loop w || is_deep w) [] (target_entries v w.address x)) t

no_entries : (v : View) (w : Walked) (e : EntryFields) → target v w.address ≡ entry e → is_data e.kind ≡ true → entries_below v w ≡ []
no_entries v w e t d = entries_are v w e t ∙ go (is_loop w || is_deep w) (kind_entries v.profile e.kind (body v w.address.reference w.address.block e)) (data_entries v.profile e.kind (body v w.address.reference w.address.block e) d)
  where
    go : (b : Bool) (es : List DirEntry) → es ≡ [] → cond b [] es ≡ []
    go true es q = refl
    go false es q = q

body_of : (b : Body) → has_cells b ≡ true → (cs : List Cell) × (b ≡ cells cs)
body_of (cells cs) h = (cs, refl)
body_of (faulty_body f) h = absurd (let z : ⊥ = cc in z)

same_at : (v all : View) (blocks : PartitionBlocks) → IsPartOf v all → IsComplete all blocks → (w : Walked) → DecidedAt v w → SameAt v all w
same_at v all blocks p c w (is_whole e) = record {
  whole = node_is all w x.fields x.cs t x.no_loop b (ap (λ z. kind_standing z x.fields.kind (is_deep w) x.cs) (sym p.profile) ∙ x.standing);
  entries = entries_are all w x.fields t ∙ ap (λ z. cond (is_loop w || is_deep w) [] (kind_entries z x.fields.kind (body all w.address.reference w.address.block x.fields))) (sym p.profile)
      ∙ ap (λ z. cond (is_loop w || is_deep w) [] (kind_entries v.profile x.fields.kind z)) (b ∙ sym x.has_body) ∙ sym (entries_are v w x.fields x.is_entry);
}
  where
    x : WholeAt v w
    x = whole_at v w e

    t : target all w.address ≡ entry x.fields
    t = target_kept v all p w.address x.fields x.is_entry

    b : body all w.address.reference w.address.block x.fields ≡ cells x.cs
    b = whole_kept v all p w.address.reference w.address.block x.fields x.cs (none_missing x.cs (cells_of_whole v.profile x.fields.kind (is_deep w) x.cs x.standing)) x.has_body
same_at v all blocks p c w (is_file e t l d m) = record {
  whole = node_is all w e there.0 ta l there.1 (data_standing all.profile e.kind (is_deep w) there.0 d ∙ all_there there.0 (ap missing_blocks read.is ∙ none_of read.whole));
  entries = no_entries all w e ta d ∙ sym (no_entries v w e t d);
}
  where
    ta : target all w.address ≡ entry e
    ta = target_kept v all p w.address e t

    some : (cs : List Cell) × (body (filled_view v) w.address.reference w.address.block e ≡ cells cs)
    some = body_of (body (filled_view v) w.address.reference w.address.block e)
        (sym (ap (target_has_cells (filled_view v) w.address) (target_kept v (filled_view v) (part_filled v) w.address e t)) ∙ m)

    there : (cs : List Cell) × (body all w.address.reference w.address.block e ≡ cells cs)
    there = mapped_kept v all p w.address.reference w.address.block e some.0 some.1

    read : IsReadBody blocks w.address.reference w.address.block e there.0
    read = body_is_read all blocks c w.address.reference w.address.block e there.0 there.1

-- ---- all routes
no_way : (v : View) (w : Walked) (j : ℕ) (js : Route) → slice_get (entries_below v w) j ≡ None → walk_from v w (j ∷ js) ≡ None
no_way v w j js q = ap (λ o. elim o as (λ _. Option Walked) [ None ↦ None | Some d ↦ walk_from v (below w d) js ]) q

same_walk : (v all : View) → ((w : Walked) → DecidedAt v w → SameAt v all w) → (route : Route) (w : Walked)
    → ((r : Route) (end : Walked) → walk_from v w r ≡ Some end → DecidedAt v end) → walk_from all w route ≡ walk_from v w route
same_walk v all same [] w h = refl
same_walk v all same (j ∷ js) w h = go (slice_get (entries_below v w) j) refl (λ d. same_walk v all same js (below w d))
  where
    all_is : (o : Option DirEntry) → slice_get (entries_below v w) j ≡ o → slice_get (entries_below all w) j ≡ o
    all_is o q = ap (λ z. slice_get z j) (same w (h [] w refl)).entries ∙ q

    go : (o : Option DirEntry) → slice_get (entries_below v w) j ≡ o
        → ((d : DirEntry) → ((r : Route) (end : Walked) → walk_from v (below w d) r ≡ Some end → DecidedAt v end) → walk_from all (below w d) js ≡ walk_from v (below w d) js)
        → walk_from all w (j ∷ js) ≡ walk_from v w (j ∷ js)
    go None q ih = no_way all w j js (all_is None q) ∙ sym (no_way v w j js q)
    go (Some d) q ih = step_on all w j js d (all_is (Some d) q) ∙ ih d (λ r end e. h (j ∷ r) end (step_on v w j r d q ∙ e)) ∙ sym (step_on v w j js d q)

-- the tree of a complete view is lawful where what is known of it decides it
pub lawful_kept : (v all : View) (blocks : PartitionBlocks) → IsPartOf v all → IsComplete all blocks → (root : LongAd)
    → ((route : Route) (w : Walked) → walked v root route ≡ Some w → DecidedAt v w) → AreDistinct v root → ¬ HasMoreRoutes v root 65536 → IsLawfulTree all root
unfolding walked
lawful_kept v all blocks p c root decided distinct few = record {
  nodes = λ route w e. (at w (decided route w (back route w e))).whole;
  distinct = λ route w e. subst (AllPairs (λ (d : DirEntry) (f : DirEntry). d.name ≢ f.name)) (sym (at w (decided route w (back route w e))).entries) (distinct route w (back route w e));
  limit = λ more. few (record { routes = more.routes; in_order = more.in_order; lead = λ route i. subst IsSome (same route) (more.lead route i); more = more.more });
}
  where
    at : (w : Walked) → DecidedAt v w → SameAt v all w
    at = same_at v all blocks p c

    same : (route : Route) → walk_from all (at_root root) route ≡ walk_from v (at_root root) route
    same route = same_walk v all at route (at_root root) decided

    back : (route : Route) (w : Walked) → walk_from all (at_root root) route ≡ Some w → walk_from v (at_root root) route ≡ Some w
    back route w e = sym (same route) ∙ e
