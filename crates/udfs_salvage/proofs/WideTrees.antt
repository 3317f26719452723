-- A tree that is lawful by the strict rules is lawful by the wide ones too, and has the same files.
use Rattle.std.proofs.Common.{◌≡◌, ◌≢◌, refl, sym, ◌∙◌, ap, subst, ℕ, Bool, true, false, List, [], ◌∷◌, ◌++◌, cond, ◌||◌, Option, Some, None, slice_get}
use Rattle.std.specs.Prelude.{AllPairs, Contains, IsSome}
use Rattle.udfs_tag.specs.declared.layouts.LongAd.{LongAd}
use Rattle.udfs_volume.specs.declared.profiles.Profile.{Profile}
use Rattle.udfs_volume.specs.declared.profiles.Profile.TheVariants.{Strict, Wide}
use Rattle.udfs_volume.specs.Sequence.{Bytes}
use Rattle.udfs_space.specs.Places.{View}
use Rattle.udfs_file.specs.Bodies.{Body, cells, faulty_body, body}
use Rattle.udfs_file.specs.Complete.{AreShort, HasPartitions, IsComplete, IsReadBody, as_cell, as_cells}
use Rattle.udfs_file.specs.Entries.{EntryFields, entry_of}
use Rattle.udfs_file.specs.Fronts.{DirectoryText, directory_by, entries_by, fault_in, listed_entries}
use Rattle.udfs_file.specs.Identifiers.{Identifier, Nothing}
use Rattle.udfs_file.specs.Laws.{by_profile}
use Rattle.udfs_file.specs.Standard.{Located, IsBodyOf, IsDirectoryBody}
use Rattle.udfs_file.specs.declared.cells.Cell.{Cell}
use Rattle.udfs_file.specs.declared.faults.Kind.{Kind}
use Rattle.udfs_file.specs.declared.faults.Kind.TheVariants.{Directory, File, Link, Other, Unread}
use Rattle.udfs_file.specs.declared.faults.NodeFault.{NodeFault}
use Rattle.udfs_file.specs.declared.directories.DirEntry.{DirEntry}
use Rattle.udfs_file.proofs.PublicLaws.{body_is_read, directory_is_read, standard_bodies_are_read, standard_directories_are_read, the_tail_keeps_bodies, wide_takes_tags}
use Rattle.udfs_walk.specs.Nodes.{node, node_at}
use Rattle.udfs_walk.specs.Routes.{Route, Walked, at_root, below, is_loop, is_deep, kind_entries, target_entries, entries_below, walk_from, walked}
use Rattle.udfs_walk.specs.Standings.{body_standing, cells_standing, depth_or, kind_standing, standing_or_fault}
use Rattle.udfs_walk.specs.Targets.{Target, bad, unread, entry, target}
use Rattle.udfs_walk.specs.declared.standings.Standing.{Standing}
use Rattle.udfs_walk.specs.declared.standings.Standing.TheVariants.{Whole, Loop}
use Rattle.udfs_walk.specs.Lawful.{IsLawfulTree}
use Rattle.udfs_walk.specs.Sound.{IsSoundTree}
use Rattle.udfs_walk.specs.Trees.{PartitionBlocks, TreeFile, IsFileAt, IsDirectoryAt, Leads, InTree}

-- ---- directories
no_fault : (o : Option NodeFault) (inner : Standing) → standing_or_fault o inner ≡ Whole → o ≡ None
no_fault None inner h = refl
no_fault (Some f) inner h = absurd (let z : ⊥ = cc in z)

-- what is whole by the strict rules is so by the wide ones, and lists the same
record IsKindKept (k : Kind) (deep : Bool) (cs : List Cell) : Type 0 where
  pub whole : kind_standing Wide k deep cs ≡ Whole
  pub entries : kind_entries Wide k (cells cs) ≡ kind_entries Strict k (cells cs)

kind_kept : (k : Kind) (deep : Bool) (cs : List Cell) → kind_standing Strict k deep cs ≡ Whole → IsKindKept k deep cs
kind_kept Directory deep cs h = record {
  whole = ap (λ (d : DirectoryText). standing_or_fault (fault_in d.rest) (depth_or deep (listed_entries d.identifiers) (cells_standing cs))) same ∙ h;
  entries = ap (λ (d : DirectoryText). listed_entries d.identifiers) same;
}
  where
    same : directory_by Wide cs ≡ directory_by Strict cs
    same = (wide_takes_tags cs).same (no_fault (fault_in (directory_by Strict cs).rest) (depth_or deep (entries_by Strict cs) (cells_standing cs)) h)
kind_kept File deep cs h = record { whole = h; entries = refl }
kind_kept Link deep cs h = record { whole = h; entries = refl }
kind_kept (Other t) deep cs h = record { whole = h; entries = refl }
kind_kept Unread deep cs h = record { whole = h; entries = refl }

-- a list of descriptors by the strict rules is one by the wide ones
directory_kept : (xs : List Located) (ids : List Identifier) → IsDirectoryBody Strict xs ids → IsDirectoryBody Wide xs ids
directory_kept xs [] h = h
directory_kept xs (id ∷ ids) (piece, rest, w, i, d) = (
  piece,
  rest,
  w,
  record { bytes = i.bytes; bytes_are = i.bytes_are; block = i.block; place = tt; long_enough = i.long_enough; size = i.size; valid = i.valid; is = i.is },
  directory_kept rest ids d,
)

-- and the only one, so that any is one by the strict rules
directory_back : (xs : List Located) (ids others : List Identifier) → IsDirectoryBody Strict xs others → AreShort others → IsDirectoryBody Wide xs ids → IsDirectoryBody Strict xs ids
directory_back xs ids others s short w = subst (IsDirectoryBody Strict xs) (only others (directory_kept xs others s) ∙ sym (only ids w)) s
  where
    read : ((directory_by Wide (as_cells xs)).identifiers ≡ others) × ((directory_by Wide (as_cells xs)).rest ≡ Nothing)
    read = standard_directories_are_read Wide xs others (directory_kept xs others s) short

    only : (other : List Identifier) → IsDirectoryBody Wide xs other → other ≡ (directory_by Wide (as_cells xs)).identifiers
    only = (directory_is_read Wide xs read.1).only

-- ---- the nodes
-- a node that is whole by the strict rules is so by the wide ones, and routes go on from it to the same
record IsNodeKept (v : View) (w : Walked) : Type 0 where
  pub whole : (node (by_profile Wide v) w).standing ≡ Whole
  pub entries : entries_below (by_profile Wide v) w ≡ entries_below (by_profile Strict v) w

node_kept : (v : View) (w : Walked) → (node (by_profile Strict v) w).standing ≡ Whole → IsNodeKept v w
unfolding node entries_below target
node_kept v w whole = let k : Kept (target (by_profile Strict v) w.address) = of (target (by_profile Strict v) w.address) whole in
    record { whole = k.0; entries = ap (λ es. cond (is_loop w || is_deep w) [] es) k.1 }
  where
    Kept : Target → Type 0
    Kept t = ((node_at (by_profile Wide v) w t).standing ≡ Whole) × (target_entries (by_profile Wide v) w.address t ≡ target_entries (by_profile Strict v) w.address t)

    read : Profile → EntryFields → Body
    read profile e = body (by_profile profile v) w.address.reference w.address.block e

    Same : EntryFields → Bool → Type 0
    Same e loop = (cond loop Loop (body_standing Wide e.kind (is_deep w) (read Wide e)) ≡ Whole) × (kind_entries Wide e.kind (read Wide e) ≡ kind_entries Strict e.kind (read Strict e))

    same : (e : EntryFields) (loop : Bool) (b : Body) → read Strict e ≡ b → cond loop Loop (body_standing Strict e.kind (is_deep w) b) ≡ Whole → Same e loop
    same e true b q h = absurd (let z : ⊥ = cc in z)
    same e false (faulty_body f) q h = absurd (let z : ⊥ = cc in z)
    same e false (cells cs) q h = let t : read Wide e ≡ cells cs = the_tail_keeps_bodies v w.address.reference w.address.block e cs q in
        let k : IsKindKept e.kind (is_deep w) cs = kind_kept e.kind (is_deep w) cs h in
        (ap (body_standing Wide e.kind (is_deep w)) t ∙ k.whole, ap (kind_entries Wide e.kind) t ∙ k.entries ∙ ap (kind_entries Strict e.kind) (sym q))

    of : (t : Target) → (node_at (by_profile Strict v) w t).standing ≡ Whole → Kept t
    of (bad f) h = absurd (let z : ⊥ = cc in z)
    of (unread n) h = absurd (let z : ⊥ = cc in z)
    of (entry e) h = same e (is_loop w) (read Strict e) refl h

-- ---- the routes
walk_kept : (v : View) (w : Walked) (js : Route) → ((route : Route) (x : Walked) → walk_from (by_profile Strict v) w route ≡ Some x → (node (by_profile Strict v) x).standing ≡ Whole)
    → walk_from (by_profile Wide v) w js ≡ walk_from (by_profile Strict v) w js
walk_kept v w [] all = refl
walk_kept v w (j ∷ js) all = ap (λ (es : List DirEntry). onwards Wide (slice_get es j) js) (node_kept v w (all [] w refl)).entries
    ∙ go (λ d q. walk_kept v (below w d) js (λ route x h. all (j ∷ route) x (ap (λ o. onwards Strict o route) q ∙ h))) (slice_get (entries_below (by_profile Strict v) w) j) refl
  where
    onwards : Profile → Option DirEntry → Route → Option Walked
    onwards profile o route = elim o as (λ _. Option Walked) [ None ↦ None | Some e ↦ walk_from (by_profile profile v) (below w e) route ]

    go : ((d : DirEntry) → slice_get (entries_below (by_profile Strict v) w) j ≡ Some d → walk_from (by_profile Wide v) (below w d) js ≡ walk_from (by_profile Strict v) (below w d) js)
        → (o : Option DirEntry) → slice_get (entries_below (by_profile Strict v) w) j ≡ o → onwards Wide o js ≡ onwards Strict o js
    go later None q = refl
    go later (Some d) q = later d q

pub lawful_tree_kept : (v : View) (root : LongAd) → IsLawfulTree (by_profile Strict v) root → IsLawfulTree (by_profile Wide v) root
unfolding walked
lawful_tree_kept v root l = record {
  nodes = λ route w e. (node_kept v w (l.nodes route w (sym (same route) ∙ e))).whole;
  distinct = λ route w e. let h : walked (by_profile Strict v) root route ≡ Some w = sym (same route) ∙ e in
      subst (AllPairs (λ d e. d.name ≢ e.name)) (sym (node_kept v w (l.nodes route w h)).entries) (l.distinct route w h);
  limit = λ m. l.limit (record { routes = m.routes; in_order = m.in_order; lead = λ route i. subst (λ o. IsSome o) (same route) (m.lead route i); more = m.more });
}
  where
    same : (route : Route) → walk_from (by_profile Wide v) (at_root root) route ≡ walk_from (by_profile Strict v) (at_root root) route
    same route = walk_kept v (at_root root) route l.nodes

-- ---- the files
-- these blocks, read by these rules
abbrev pub read_with : Profile → (ℕ → ℕ → Option Bytes) → PartitionBlocks
read_with profile at = record { at = at; profile = profile }

cell_same : (x y : Located) → as_cell x ≡ as_cell y → x ≡ y
cell_same x y e = λ i. (value i, holder i)
  where
    value : x.0 ≡ y.0
    value = cc

    holder : x.1 ≡ y.1
    holder = cc

cells_same : (xs ys : List Located) → as_cells xs ≡ as_cells ys → xs ≡ ys
cells_same [] [] e = refl
cells_same [] (y ∷ ys) e = absurd (let z : ⊥ = cc in z)
cells_same (x ∷ xs) [] e = absurd (let z : ⊥ = cc in z)
cells_same (x ∷ xs) (y ∷ ys) e = λ i. cell_same x y first i ∷ cells_same xs ys rest i
  where
    first : as_cell x ≡ as_cell y
    first = cc

    rest : as_cells xs ≡ as_cells ys
    rest = cc

complete_kept : (v : View) (at : ℕ → ℕ → Option Bytes) → IsComplete (by_profile Strict v) (read_with Strict at) → IsComplete (by_profile Wide v) (read_with Wide at)
complete_kept v at c = record { nowhere = c.nowhere; there = c.there; profile = refl }

body_kept : (v : View) (at : ℕ → ℕ → Option Bytes) → IsComplete (by_profile Strict v) (read_with Strict at) → HasPartitions v → (r b : ℕ) (e : EntryFields) (xs : List Located)
    → IsBodyOf (read_with Strict at) r b e xs → IsBodyOf (read_with Wide at) r b e xs
body_kept v at c has r b e xs h = subst (IsBodyOf (read_with Wide at) r b e) (sym (cells_same xs k.whole k.is)) k.reads
  where
    k : IsReadBody (read_with Wide at) r b e (as_cells xs)
    k = body_is_read (by_profile Wide v) (read_with Wide at) (complete_kept v at c) r b e (as_cells xs)
        (the_tail_keeps_bodies v r b e (as_cells xs) (standard_bodies_are_read (by_profile Strict v) (read_with Strict at) c has r b e xs h))

file_kept : (v : View) (at : ℕ → ℕ → Option Bytes) → IsComplete (by_profile Strict v) (read_with Strict at) → HasPartitions v → (a : LongAd) (file : TreeFile)
    → IsFileAt (read_with Strict at) a file → IsFileAt (read_with Wide at) a file
file_kept v at c has a file h = record {
  recorded = h.recorded;
  not_empty = h.not_empty;
  bytes = h.bytes;
  block = h.block;
  sound = h.sound;
  fields = h.fields;
  body = body_kept v at c has a.reference a.block file.fields file.body h.body;
}

leads_kept : (v : View) (at : ℕ → ℕ → Option Bytes) → IsComplete (by_profile Strict v) (read_with Strict at) → HasPartitions v → (path : List (List ℕ)) (a b : LongAd)
    → Leads (read_with Strict at) a path b → Leads (read_with Wide at) a path b
leads_kept v at c has [] a b h = h
leads_kept v at c has (name ∷ names) a b (ids, d, there, among, named, more) =
    (ids, d, record { file = there.file; is_file = file_kept v at c has a there.file there.is_file; kind = there.kind; body = directory_kept there.file.body ids there.body }, among, named, leads_kept v at c has names d.icb b more)

pub in_tree_kept : (v : View) (at : ℕ → ℕ → Option Bytes) → IsComplete (by_profile Strict v) (read_with Strict at) → HasPartitions v → (root : LongAd) (path : List (List ℕ)) (file : TreeFile)
    → InTree (read_with Strict at) root path file → InTree (read_with Wide at) root path file
in_tree_kept v at c has root path file h = record {
  address = h.address;
  leads = leads_kept v at c has path root h.address h.leads;
  is_file = file_kept v at c has h.address file h.is_file;
}

-- ---- and back: where the tree is sound by the strict rules, no file is read by the wide ones that is not read by them
some_same : {A : Type 0} (x y : A) → Some x ≡ Some y → x ≡ y
some_same x y e = cc

-- one file stands at an address
one_file_there : (v : View) (at : ℕ → ℕ → Option Bytes) → IsComplete (by_profile Wide v) (read_with Wide at) → HasPartitions v → (a : LongAd) (file other : TreeFile)
    → IsFileAt (read_with Wide at) a file → IsFileAt (read_with Wide at) a other → file ≡ other
one_file_there v at c has a file other h k = λ i. record { fields = fields i; body = body_same i }
  where
    fields : file.fields ≡ other.fields
    fields = h.fields ∙ ap entry_of (some_same h.bytes k.bytes (sym h.block ∙ k.block)) ∙ sym k.fields

    read : IsReadBody (read_with Wide at) a.reference a.block other.fields (as_cells other.body)
    read = body_is_read (by_profile Wide v) (read_with Wide at) c a.reference a.block other.fields (as_cells other.body)
        (standard_bodies_are_read (by_profile Wide v) (read_with Wide at) c has a.reference a.block other.fields other.body k.body)

    body_same : file.body ≡ other.body
    body_same = read.only file.body (subst (λ e. IsBodyOf (read_with Wide at) a.reference a.block e file.body) fields h.body) ∙ sym (read.only other.body k.body)

leads_further : (blocks : PartitionBlocks) (path : List (List ℕ)) (a b : LongAd) (ids : List Identifier) (d : DirEntry) → Leads blocks a path b → IsDirectoryAt blocks b ids → Contains (listed_entries ids) d
    → Leads blocks a (path ++ d.name ∷ []) d.icb
leads_further blocks [] a b ids d h there among = (ids, d, subst (λ z. IsDirectoryAt blocks z ids) (sym h) there, among, refl, refl)
leads_further blocks (name ∷ names) a b ids d (first, e, at_first, in_first, named, more) there among =
    (first, e, at_first, in_first, named, leads_further blocks names e.icb b ids d more there among)

-- a file that is read by the wide rules where a path leads by the strict ones
file_back : (v : View) (at : ℕ → ℕ → Option Bytes) → IsComplete (by_profile Strict v) (read_with Strict at) → HasPartitions v → (root : LongAd) → IsSoundTree (read_with Strict at) root
    → (path : List (List ℕ)) (a : LongAd) (file : TreeFile) → Leads (read_with Strict at) root path a → IsFileAt (read_with Wide at) a file → IsFileAt (read_with Strict at) a file
file_back v at c has root sound path a file leads h = let k : (other : TreeFile) × IsFileAt (read_with Strict at) a other = sound.files path a leads in
    subst (IsFileAt (read_with Strict at) a) (one_file_there v at (complete_kept v at c) has a k.0 file (file_kept v at c has a k.0 k.1) h) k.1

leads_back : (v : View) (at : ℕ → ℕ → Option Bytes) → IsComplete (by_profile Strict v) (read_with Strict at) → HasPartitions v → (root : LongAd) → IsSoundTree (read_with Strict at) root
    → (names path : List (List ℕ)) (a b : LongAd) → Leads (read_with Strict at) root path a → Leads (read_with Wide at) a names b → Leads (read_with Strict at) a names b
leads_back v at c has root sound [] path a b leads h = h
leads_back v at c has root sound (name ∷ names) path a b leads (ids, d, there, among, named, more) =
    (ids, d, here, among, named, leads_back v at c has root sound names (path ++ d.name ∷ []) d.icb b (leads_further (read_with Strict at) path root a ids d leads here among) more)
  where
    stands : IsFileAt (read_with Strict at) a there.file
    stands = file_back v at c has root sound path a there.file leads there.is_file

    list : (others : List Identifier) × IsDirectoryBody Strict there.file.body others × AreShort others
    list = sound.directories path a there.file leads stands there.kind

    here : IsDirectoryAt (read_with Strict at) a ids
    here = record { file = there.file; is_file = stands; kind = there.kind; body = directory_back there.file.body ids list.0 list.1 list.2 there.body }

pub in_tree_back : (v : View) (at : ℕ → ℕ → Option Bytes) → IsComplete (by_profile Strict v) (read_with Strict at) → HasPartitions v → (root : LongAd) → IsSoundTree (read_with Strict at) root
    → (path : List (List ℕ)) (file : TreeFile) → InTree (read_with Wide at) root path file → InTree (read_with Strict at) root path file
in_tree_back v at c has root sound path file h = record {
  address = h.address;
  leads = leads;
  is_file = file_back v at c has root sound path h.address file leads h.is_file;
}
  where
    leads : Leads (read_with Strict at) root path h.address
    leads = leads_back v at c has root sound path [] root h.address refl h.leads
