-- A sound tree is lawful: over a complete view whatever a route leads to is whole.
use Rattle.std.proofs.Common.{◌≡◌, ◌≢◌, refl, sym, ◌∙◌, ap, subst, inl, inr, ◌⊎◌, ℕ, ◌+◌, ◌<◌, ◌≤◌, Bool, true, false, not, List, [], ◌∷◌, ◌++◌, length, cond, ◌&&◌, ◌||◌, arith, map, Option, Some, None, slice_get, nat_le, is_none}
use Rattle.std.specs.Prelude.{suc, AllPairs, Contains, IsSome, option_map, ◌==◌}
use Rattle.std.specs.List.{list_any}
use Rattle.std.proofs.lemmas.Bool.{eqb-true, leb-true}
use Rattle.std.proofs.lemmas.List.{length-append, length-map}
use Rattle.udfs_lattice.specs.Volumes.{ascending}
use Rattle.udfs_lattice.proofs.Inclusion.{Includes, included, contained}
use Rattle.udfs_lattice.specs.declared.facts.Fact.TheVariants.{Known}
use Rattle.udfs_tag.specs.declared.layouts.LongAd.{LongAd}
use Rattle.udfs_tag.specs.Faults.{first_fault}
use Rattle.udfs_volume.specs.Sequence.{Bytes}
use Rattle.udfs_space.specs.Places.{View}
use Rattle.udfs_file.specs.Addresses.{address_fault}
use Rattle.udfs_file.specs.Bodies.{cells, body}
use Rattle.udfs_file.specs.Complete.{AreShort, HasPartitions, IsComplete, as_cells}
use Rattle.udfs_file.specs.Entries.{entry_of}
use Rattle.udfs_file.specs.Fronts.{directory_by, entries_by, fault_in, listed_entries}
use Rattle.udfs_file.specs.Identifiers.{Identifier, Nothing}
use Rattle.udfs_file.specs.Standard.{Located, IsDirectoryBody}
use Rattle.udfs_file.specs.declared.cells.Cell.{Cell}
use Rattle.udfs_file.specs.declared.directories.DirEntry.{DirEntry}
use Rattle.udfs_file.specs.declared.faults.Kind.{Kind}
use Rattle.udfs_file.specs.declared.faults.Kind.TheVariants.{Directory, File, Link, Other, Unread}
use Rattle.udfs_file.specs.declared.faults.NodeFault.TheVariants.{Reference, Range}
use Rattle.udfs_file.proofs.PublicLaws.{standard_bodies_are_read, standard_directories_are_read}
use Rattle.udfs_walk.specs.Nodes.{node, node_at}
use Rattle.udfs_walk.specs.Routes.{Route, Walked, at_root, below, entries_below, is_deep, is_loop, walk_from, walked, HasMoreRoutes}
use Rattle.udfs_walk.specs.Standings.{body_standing, cells_standing, depth_or, kind_standing, missing_blocks, runs_from, torn_or_whole, standing_or_fault}
use Rattle.udfs_walk.specs.Targets.{Icb, icb_of, is_icb, entry, entry_unless, target, target_at, target_in}
use Rattle.udfs_walk.specs.declared.standings.Standing.TheVariants.{Whole, Loop}
use Rattle.udfs_walk.proofs.PublicLaws.{routes_stand_once}
use Rattle.udfs_walk.specs.Lawful.{AreDistinct, AreWhole, IsLawfulTree}
use Rattle.udfs_walk.specs.Sound.{IsSoundTree, LeadsOn, Path, StandOnce}
use Rattle.udfs_walk.specs.Trees.{PartitionBlocks, TreeFile, IsFileAt, Leads}
use Rattle.udfs_walk.proofs.Listed.{map_get}
use Rattle.udfs_walk.proofs.WholeFiles.{IsReadDirectoryAt, directory_at_law}
use Rattle.udfs_walk.proofs.WholeRoutes.{Goes, Open, RoutesArePaths, Step, WholeAt, entries_are, listed_by, get_includes, goes, open_at, route_law, step_inv, whole_at}

-- ---- paths
pub leads_append : (blocks : PartitionBlocks) (a b c : LongAd) (p q : Path) → Leads blocks a p b → Leads blocks b q c → Leads blocks a (p ++ q) c
leads_append blocks a b c [] q e h = subst (λ z. Leads blocks z q c) (sym e) h
leads_append blocks a b c (name ∷ p) q (ids, d, is, i, named, l) h = (ids, d, is, i, named, leads_append blocks d.icb b c p q l h)

-- ---- the file at an address
-- the entry that the standard finds is the one at the address
target_back : (all : View) (blocks : PartitionBlocks) → IsComplete all blocks → HasPartitions all → (a : LongAd) (file : TreeFile) → IsFileAt blocks a file → target all a ≡ entry file.fields
unfolding target
target_back all blocks w has a file x = go (all.place a.reference a.block) refl
  where
    empty : (b : Bool) → (a.length == 0) ≡ b → b ≡ false
    empty true e = absurd (x.not_empty (eqb-true a.length 0 e))
    empty false e = refl

    within : (n : ℕ) → all.place a.reference a.block ≡ Some n → nat_le all.partitions a.reference ≡ false
    within n e = let h : a.reference < all.partitions = has a.reference a.block n e in grind arith

    go : (o : Option ℕ) → all.place a.reference a.block ≡ o → target all a ≡ entry file.fields
    go None e = absurd (let z : None ≡ Some x.bytes = sym (w.nowhere a.reference a.block e) ∙ x.block in let y : ⊥ = cc in y)
    go (Some n) e = (λ i. target_at (clear i) a.block (option_map (λ n. (n, all.blocks n)) (e i))) ∙ ap (target_in a.block n) known
        ∙ ap (λ f. entry_unless f (entry_of x.bytes)) x.sound ∙ ap entry (sym x.fields)
      where
        t : (bytes : Bytes) × (all.blocks n ≡ Known bytes) × (blocks.at a.reference a.block ≡ Some bytes) × (length bytes ≡ 2048)
        t = w.there a.reference a.block n e

        known : all.blocks n ≡ Known x.bytes
        known = t.1 ∙ ap Known (let z : Some (t.0) ≡ Some x.bytes = sym t.2 ∙ x.block in let y : t.0 ≡ x.bytes = cc in y)

        clear : address_fault all a ≡ None
        clear = λ i. first_fault ((not (x.recorded i == 0) || empty (a.length == 0) refl i || within n e i, Reference) ∷ (is_none (e i), Range) ∷ [])

-- ---- one node
no_missing : (xs : List Located) → missing_blocks (as_cells xs) ≡ []
no_missing [] = refl
no_missing (x ∷ xs) = no_missing xs

cells_whole : (xs : List Located) → cells_standing (as_cells xs) ≡ Whole
unfolding cells_standing
cells_whole xs = ap (λ ns. torn_or_whole (ascending ns) (runs_from 0 (as_cells xs))) (no_missing xs)

-- a directory on the way to an address
record IsAbove (blocks : PartitionBlocks) (root b : LongAd) (icb : Icb) : Type 0 where
  path : Path
  at : LongAd
  leads : Leads blocks root path at
  name : List ℕ
  more : Path
  on : Leads blocks at (name ∷ more) b
  is : icb_of at ≡ icb

-- the path of a route leads to its end, and what is above are the directories on the way
record Way (blocks : PartitionBlocks) (root : LongAd) (w : Walked) : Type 0 where
  leads : Leads blocks root w.path w.address
  above : (icb : Icb) → Includes w.above icb → IsAbove blocks root w.address icb

same_icb : (x y : Icb) → is_icb x y ≡ true → x ≡ y
same_icb x y e = go (x.reference == y.reference) refl (x.block == y.block) refl e
  where
    go : (p : Bool) → (x.reference == y.reference) ≡ p → (q : Bool) → (x.block == y.block) ≡ q → (p && q) ≡ true → x ≡ y
    go true a true b z = λ i. record { block = eqb-true x.block y.block b i; reference = eqb-true x.reference y.reference a i }
    go true a false b z = absurd (let n : ⊥ = cc in n)
    go false a q b z = absurd (let n : ⊥ = cc in n)

none_any : (p : Icb → Bool) (xs : List Icb) → ((x : Icb) → Includes xs x → p x ≡ false) → list_any p xs ≡ false
none_any p [] h = refl
none_any p (x ∷ xs) h = (λ i. h x (inl refl) i || list_any p xs) ∙ none_any p xs (λ y j. h y (inr j))

no_loop_at : (blocks : PartitionBlocks) (root : LongAd) → IsSoundTree blocks root → (w : Walked) → Way blocks root w → is_loop w ≡ false
no_loop_at blocks root s w way = none_any (is_icb (icb_of w.address)) w.above (λ icb i. by icb (way.above icb i) (is_icb (icb_of w.address) icb) refl)
  where
    by : (icb : Icb) → IsAbove blocks root w.address icb → (b : Bool) → is_icb (icb_of w.address) icb ≡ b → b ≡ false
    by icb x true e = absurd (s.no_loop x.path x.at w.address x.name x.more x.leads x.on (same_icb (icb_of w.address) icb e ∙ sym x.is))
    by icb x false e = refl

kind_whole : (blocks : PartitionBlocks) (root : LongAd) → IsSoundTree blocks root → (w : Walked) → Way blocks root w → (file : TreeFile) → IsFileAt blocks w.address file
    → (k : Kind) → file.fields.kind ≡ k → kind_standing blocks.profile k (is_deep w) (as_cells file.body) ≡ Whole
kind_whole blocks root s w way file is Directory e = ap (λ r. standing_or_fault (fault_in r) (depth_or (is_deep w) (entries_by blocks.profile cs) (cells_standing cs))) read.1
    ∙ (λ i. depth_or (is_deep w) (listed_entries (read.0 i)) (cells_whole file.body i)) ∙ shallow (is_deep w) refl (listed_entries d.0) (λ x j. j)
  where
    cs : List Cell
    cs = as_cells file.body

    d : (ids : List Identifier) × IsDirectoryBody blocks.profile file.body ids × AreShort ids
    d = s.directories w.path w.address file way.leads is e

    read : ((directory_by blocks.profile cs).identifiers ≡ d.0) × ((directory_by blocks.profile cs).rest ≡ Nothing)
    read = standard_directories_are_read blocks.profile file.body d.0 d.1 d.2

    too_deep : (x : DirEntry) → Includes (listed_entries d.0) x → is_deep w ≡ true → ⊥
    too_deep x i deep = let l : Leads blocks root (w.path ++ x.name ∷ []) x.icb = leads_append blocks root w.address x.icb w.path (x.name ∷ []) way.leads
        (d.0, x, record { file = file; is_file = is; kind = e; body = d.1 }, contained (listed_entries d.0) x i, refl, refl) in
        let h : length (w.path ++ x.name ∷ []) ≤ 64 = s.depth (w.path ++ x.name ∷ []) x.icb l in
        let n : length (w.path ++ x.name ∷ []) ≡ length w.path + 1 = length-append w.path (x.name ∷ []) in
        let q : 64 ≤ length w.path = leb-true 64 (length w.path) deep in omega (arith, h, n, q)

    shallow : (b : Bool) → is_deep w ≡ b → (es : List DirEntry) → ((x : DirEntry) → Includes es x → Includes (listed_entries d.0) x) → depth_or b es Whole ≡ Whole
    shallow true q [] h = refl
    shallow true q (x ∷ es) h = absurd (too_deep x (h x (inl refl)) q)
    shallow false q es h = refl
kind_whole blocks root s w way file is File e = cells_whole file.body
kind_whole blocks root s w way file is Link e = cells_whole file.body
kind_whole blocks root s w way file is (Other t) e = cells_whole file.body
kind_whole blocks root s w way file is Unread e = cells_whole file.body

whole_here : (all : View) (blocks : PartitionBlocks) → IsComplete all blocks → HasPartitions all → (root : LongAd) → IsSoundTree blocks root → (w : Walked) → Way blocks root w → (node all w).standing ≡ Whole
unfolding node
whole_here all blocks c has root s w way = (λ i. (node_at all w (target_back all blocks c has w.address file is i)).standing)
    ∙ (λ i. cond (no_loop_at blocks root s w way i) Loop (body_standing all.profile file.fields.kind (is_deep w) (body_is i)))
    ∙ ap (λ z. kind_standing z file.fields.kind (is_deep w) (as_cells file.body)) (sym c.profile) ∙ kind_whole blocks root s w way file is file.fields.kind refl
  where
    f : (file : TreeFile) × IsFileAt blocks w.address file
    f = s.files w.path w.address way.leads

    file : TreeFile
    file = f.0

    is : IsFileAt blocks w.address file
    is = f.1

    body_is : body all w.address.reference w.address.block file.fields ≡ cells (as_cells file.body)
    body_is = standard_bodies_are_read all blocks c has w.address.reference w.address.block file.fields file.body is.body

-- ---- one name further
in_either : (xs : List Icb) (y x : Icb) → Includes (xs ++ y ∷ []) x → Includes xs x ⊎ (y ≡ x)
in_either [] y x (inl p) = inr p
in_either [] y x (inr i) = absurd i
in_either (z ∷ xs) y x (inl p) = inl (inl p)
in_either (z ∷ xs) y x (inr i) = go (in_either xs y x i)
  where
    go : Includes xs x ⊎ (y ≡ x) → Includes (z ∷ xs) x ⊎ (y ≡ x)
    go (inl j) = inl (inr j)
    go (inr p) = inr p

-- the entry leads on
steps : (all : View) (blocks : PartitionBlocks) → IsComplete all blocks → (w : Walked) → WholeAt all w → (j : ℕ) (d : DirEntry) → slice_get (entries_below all w) j ≡ Some d
    → Leads blocks w.address (d.name ∷ []) d.icb
steps all blocks c w x j d at = ((directory_by all.profile x.cs).identifiers, d, r.is_directory, contained (entries_by all.profile x.cs) d (get_includes (entries_by all.profile x.cs) j d g.is), refl, refl)
  where
    g : Goes all w x j d
    g = goes all w x j d at

    o : Open all w x
    o = open_at all blocks c w x g.kind

    r : IsReadDirectoryAt blocks w.address (directory_by all.profile x.cs).identifiers
    r = directory_at_law all blocks c w.address x.fields x.cs x.is_entry x.has_body g.kind o.ends

way_on : (blocks : PartitionBlocks) (root : LongAd) (w : Walked) (d : DirEntry) → Way blocks root w → Leads blocks w.address (d.name ∷ []) d.icb → Way blocks root (below w d)
way_on blocks root w d way l = record {
  leads = leads_append blocks root w.address d.icb w.path (d.name ∷ []) way.leads l;
  above = λ icb i. go icb (in_either w.above (icb_of w.address) icb i);
}
  where
    go : (icb : Icb) → Includes w.above icb ⊎ (icb_of w.address ≡ icb) → IsAbove blocks root d.icb icb
    go icb (inl i) = let x : IsAbove blocks root w.address icb = way.above icb i in record {
      path = x.path;
      at = x.at;
      leads = x.leads;
      name = x.name;
      more = x.more ++ d.name ∷ [];
      on = leads_append blocks x.at w.address d.icb (x.name ∷ x.more) (d.name ∷ []) x.on l;
      is = x.is;
    }
    go icb (inr p) = record { path = w.path; at = w.address; leads = way.leads; name = d.name; more = []; on = l; is = p }

way_to : (all : View) (blocks : PartitionBlocks) → IsComplete all blocks → HasPartitions all → (root : LongAd) → IsSoundTree blocks root → (route : Route) (w end : Walked) → Way blocks root w
    → walk_from all w route ≡ Some end → Way blocks root end
way_to all blocks c has root s [] w end way e = let same : w ≡ end = cc in subst (Way blocks root) same way
way_to all blocks c has root s (j ∷ js) w end way e = go (step_inv all w j js end e) (λ d. way_to all blocks c has root s js (below w d) end)
  where
    go : Step all w j js end → ((d : DirEntry) → Way blocks root (below w d) → walk_from all (below w d) js ≡ Some end → Way blocks root end) → Way blocks root end
    go t ih = ih t.entry (way_on blocks root w t.entry way (steps all blocks c w (whole_at all w (whole_here all blocks c has root s w way)) j t.entry t.at)) t.then

way_of : (all : View) (blocks : PartitionBlocks) → IsComplete all blocks → HasPartitions all → (root : LongAd) → IsSoundTree blocks root → (route : Route) (w : Walked) → walked all root route ≡ Some w → Way blocks root w
unfolding walked
way_of all blocks c has root s route w e = way_to all blocks c has root s route (at_root root) w (record { leads = refl; above = λ icb i. absurd i }) e

-- ---- all of them
are_whole : (all : View) (blocks : PartitionBlocks) → IsComplete all blocks → HasPartitions all → (root : LongAd) → IsSoundTree blocks root → AreWhole all root
are_whole all blocks c has root s route w e = whole_here all blocks c has root s w (way_of all blocks c has root s route w e)

none_pairs : AllPairs (λ (d e : DirEntry). d.name ≢ e.name) []
none_pairs i j d l m = absurd (let z : ⊥ = omega (arith, m) in z)

are_distinct : (all : View) (blocks : PartitionBlocks) → IsComplete all blocks → HasPartitions all → (root : LongAd) → IsSoundTree blocks root → AreDistinct all root
are_distinct all blocks c has root s route w e = go (is_deep w) refl x.fields.kind refl
  where
    way : Way blocks root w
    way = way_of all blocks c has root s route w e

    x : WholeAt all w
    x = whole_at all w (whole_here all blocks c has root s w way)

    by : (b : Bool) (k : Kind) → is_deep w ≡ b → x.fields.kind ≡ k → AllPairs (λ d e. d.name ≢ e.name) (cond b [] (listed_by all.profile k x.cs)) → AllPairs (λ d e. d.name ≢ e.name) (entries_below all w)
    by b k p q = subst (AllPairs (λ d e. d.name ≢ e.name)) (sym (entries_are all w x b k p q))

    listed : x.fields.kind ≡ Directory → AllPairs (λ d e. d.name ≢ e.name) (entries_by all.profile x.cs)
    listed k = s.names w.path w.address (directory_by all.profile x.cs).identifiers way.leads
        (directory_at_law all blocks c w.address x.fields x.cs x.is_entry x.has_body k (open_at all blocks c w x k).ends).is_directory

    go : (b : Bool) → is_deep w ≡ b → (k : Kind) → x.fields.kind ≡ k → AllPairs (λ d e. d.name ≢ e.name) (entries_below all w)
    go true p k q = by true k p q none_pairs
    go false p Directory q = by false Directory p q (listed q)
    go false p File q = by false File p q none_pairs
    go false p Link q = by false Link p q none_pairs
    go false p (Other t) q = by false (Other t) p q none_pairs
    go false p Unread q = by false Unread p q none_pairs

-- ---- how many there are
path_of : Option Walked → Path
path_of None = []
path_of (Some w) = w.path

end_of_route : (o : Option Walked) → IsSome o → (w : Walked) × (o ≡ Some w)
end_of_route None h = absurd (let z : ⊥ = cc in z)
end_of_route (Some w) h = (w, refl)

not_more : (all : View) (blocks : PartitionBlocks) → IsComplete all blocks → HasPartitions all → (root : LongAd) → IsSoundTree blocks root → HasMoreRoutes all root 65536 → ⊥
unfolding path_of
not_more all blocks c has root s m = let h : length paths ≤ 65536 = s.few paths once each in let n : length paths ≡ length m.routes = length-map m.routes path_at in let q : 65536 < length m.routes = m.more in omega (arith, h, n, q)
  where
    path_at : Route → Path
    path_at route = path_of (walked all root route)

    paths : List Path
    paths = map path_at m.routes

    r : RoutesArePaths all blocks root
    r = route_law all blocks c root (are_whole all blocks c has root s)

    ends : (i : ℕ) (route : Route) → slice_get m.routes i ≡ Some route → (w : Walked) × (walked all root route ≡ Some w)
    ends i route e = end_of_route (walked all root route) (m.lead route (contained m.routes route (by_get m.routes i route e)))
      where
        by_get : (xs : List Route) (i : ℕ) (x : Route) → slice_get xs i ≡ Some x → Includes xs x
        by_get xs i x e = get_includes xs i x e

    once : StandOnce paths
    once i j path p q = routes_stand_once m.routes i j x.0 m.in_order x.1 (subst (λ z. slice_get m.routes j ≡ Some z) (sym same) y.1)
      where
        x : (route : Route) × (slice_get m.routes i ≡ Some route) × (path ≡ path_at route)
        x = map_get path_at m.routes i path p

        y : (route : Route) × (slice_get m.routes j ≡ Some route) × (path ≡ path_at route)
        y = map_get path_at m.routes j path q

        u : (w : Walked) × (walked all root x.0 ≡ Some w)
        u = ends i x.0 x.1

        v : (w : Walked) × (walked all root y.0 ≡ Some w)
        v = ends j y.0 y.1

        alike : v.0.path ≡ u.0.path
        alike = sym (ap path_of v.1) ∙ sym y.2 ∙ x.2 ∙ ap path_of u.1

        same : x.0 ≡ y.0
        same = r.one (are_distinct all blocks c has root s) x.0 y.0 u.0 v.0 u.1 v.1 (sym alike)

    leads : (i : ℕ) (route : Route) → slice_get m.routes i ≡ Some route → LeadsOn blocks root (path_at route)
    leads i route e = let u : (w : Walked) × (walked all root route ≡ Some w) = ends i route e in
        (u.0.address, subst (λ z. Leads blocks root z u.0.address) (sym (ap path_of u.1)) (way_of all blocks c has root s route u.0 u.1).leads)

    each : (path : Path) → Contains paths path → LeadsOn blocks root path
    each path i = by (index_of paths path (included paths path i))
      where
        index_of : (xs : List Path) (x : Path) → Includes xs x → (j : ℕ) × (slice_get xs j ≡ Some x)
        index_of [] x k = absurd k
        index_of (y ∷ ys) x (inl e) = (0, ap Some e)
        index_of (y ∷ ys) x (inr k) = let t : (j : ℕ) × (slice_get ys j ≡ Some x) = index_of ys x k in (suc t.0, t.1)

        by : (j : ℕ) × (slice_get paths j ≡ Some path) → LeadsOn blocks root path
        by (j, e) = let x : (route : Route) × (slice_get m.routes j ≡ Some route) × (path ≡ path_at route) = map_get path_at m.routes j path e in
            subst (LeadsOn blocks root) (sym x.2) (leads j x.0 x.1)

pub sound_is_lawful : (all : View) (blocks : PartitionBlocks) → IsComplete all blocks → HasPartitions all → (root : LongAd) → IsSoundTree blocks root → IsLawfulTree all root
sound_is_lawful all blocks c has root s = record { nodes = are_whole all blocks c has root s; distinct = are_distinct all blocks c has root s; limit = not_more all blocks c has root s }
