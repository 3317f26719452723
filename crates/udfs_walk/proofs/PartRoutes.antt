-- Over a part of a complete view, routes and their ends are those of the whole, and no node has a fault.
use Rattle.std.proofs.Common.{◌≡◌, ◌≢◌, refl, sym, ◌∙◌, ap, subst, inl, inr, ℕ, Bool, true, false, List, [], ◌∷◌, ◌++◌, cond, ◌||◌, Option, Some, None, slice_get}
use Rattle.std.specs.Prelude.{zero, suc, option_map, IsSome}
use Rattle.udfs_lattice.specs.States.{State, is_known}
use Rattle.udfs_lattice.specs.Volumes.{ascending}
use Rattle.udfs_lattice.proofs.Inclusion.{Includes}
use Rattle.udfs_lattice.specs.declared.facts.Fact.TheVariants.{Unknown, Known, Conflict}
use Rattle.udfs_tag.specs.declared.layouts.LongAd.{LongAd}
use Rattle.udfs_space.specs.Places.{View, IsPartOf}
use Rattle.udfs_file.specs.Addresses.{address_fault}
use Rattle.udfs_file.specs.Bodies.{body}
use Rattle.udfs_file.specs.Fronts.{directory_by, entries_by, fault_in}
use Rattle.udfs_file.specs.Laws.{IsBeginningOf, IsPartialBody}
use Rattle.udfs_file.specs.Complete.{IsComplete}
use Rattle.udfs_file.specs.declared.cells.Cell.{Cell}
use Rattle.udfs_file.specs.declared.directories.DirEntry.{DirEntry}
use Rattle.udfs_file.specs.Identifiers.{Rest}
use Rattle.udfs_file.specs.Identifiers.{Nothing, Stopped, Wrong}
use Rattle.udfs_file.specs.declared.faults.Kind.{Kind}
use Rattle.udfs_file.specs.declared.faults.Kind.TheVariants.{Directory, File, Link, Other, Unread}
use Rattle.udfs_file.specs.declared.faults.NodeFault.{NodeFault}
use Rattle.udfs_file.proofs.PublicLaws.{partial_bodies}
use Rattle.udfs_walk.specs.Targets.{Target, unread, entry, target_in, target_at, target}
use Rattle.udfs_walk.specs.Routes.{Route, Walked, at_root, below, is_loop, is_deep, entries_in, kind_entries, target_entries, entries_below, walk_from, walked, HasMoreRoutes}
use Rattle.udfs_walk.specs.Nodes.{entry_standing, node_at, node}
use Rattle.udfs_walk.specs.Standings.{missing_blocks, runs_from, torn_or_whole, cells_standing, depth_or, standing_or_fault, kind_standing, body_standing}
use Rattle.udfs_walk.specs.declared.standings.Standing.{Standing}
use Rattle.udfs_walk.specs.declared.standings.Standing.TheVariants.{Loop, Fault}
use Rattle.udfs_walk.specs.Trees.{PartitionBlocks}
use Rattle.udfs_walk.specs.Lawful.{AreWhole}
use Rattle.udfs_walk.specs.Cells.{HasNoFault}
use Rattle.udfs_walk.proofs.WholeRoutes.{WholeAt, whole_at, Open, open_at, Step, step_inv, step_on, AllWhole, whole_below}

-- a target is the complete one's, or its block is not known
pub data TargetPart (some all : View) (a : LongAd) : Type 0 where
  target_same : target some a ≡ target all a → TargetPart some all a
  target_unread : (n : ℕ) → all.place a.reference a.block ≡ Some n → is_known (some.blocks n) ≡ false → target some a ≡ unread n → TargetPart some all a

pub target_part : (some all : View) → IsPartOf some all → (a : LongAd) → TargetPart some all a
unfolding target
target_part s w p a = go (address_fault w a) refl (w.place a.reference a.block) refl
  where
    F : View → Option NodeFault → Option ℕ → Target
    F v f o = target_at f a.block (option_map (λ n. (n, v.blocks n)) o)

    same : address_fault s a ≡ address_fault w a
    same = λ i. address_fault (record { partitions = p.partitions i; place = λ r b. p.places r b i; blocks = s.blocks; profile = p.profile i }) a

    s_is : (f : Option NodeFault) (o : Option ℕ) → address_fault w a ≡ f → w.place a.reference a.block ≡ o → F s (address_fault s a) (s.place a.reference a.block) ≡ F s f o
    s_is f o x y = λ i. F s ((same ∙ x) i) ((p.places a.reference a.block ∙ y) i)

    w_is : (f : Option NodeFault) (o : Option ℕ) → address_fault w a ≡ f → w.place a.reference a.block ≡ o → F w (address_fault w a) (w.place a.reference a.block) ≡ F w f o
    w_is f o x y = λ i. F w (x i) (y i)

    state : (n : ℕ) → w.place a.reference a.block ≡ Some n → F s (address_fault s a) (s.place a.reference a.block) ≡ target_in a.block n (s.blocks n)
        → F w (address_fault w a) (w.place a.reference a.block) ≡ target_in a.block n (w.blocks n) → (x : State) → s.blocks n ≡ x → TargetPart s w a
    state n e fs fw Unknown q = target_unread n e (ap is_known q) (fs ∙ ap (target_in a.block n) q)
    state n e fs fw (Known bytes) q = target_same (fs ∙ ap (target_in a.block n) (q ∙ sym (p.agrees a.reference a.block n bytes e q)) ∙ sym fw)
    state n e fs fw Conflict q = target_unread n e (ap is_known q) (fs ∙ ap (target_in a.block n) q)

    go : (f : Option NodeFault) → address_fault w a ≡ f → (o : Option ℕ) → w.place a.reference a.block ≡ o → TargetPart s w a
    go (Some f) x o y = target_same (s_is (Some f) o x y ∙ sym (w_is (Some f) o x y))
    go None x None y = target_same (s_is None None x y ∙ sym (w_is None None x y))
    go None x (Some n) y = state n y (s_is None (Some n) x y) (w_is None (Some n) x y) (s.blocks n) refl

-- the body at a whole node, in part
pub part_at : (some all : View) → IsPartOf some all → (w : Walked) (x : WholeAt all w) → IsPartialBody some all w.address.reference w.address.block x.fields x.cs
part_at some all p w x = partial_bodies some all p w.address.reference w.address.block x.fields x.cs x.has_body

-- the entries are a beginning of the complete ones
pub entries_begin : (some all : View) → IsPartOf some all → (w : Walked) → WholeAt all w → IsBeginningOf (entries_below some w) (entries_below all w)
unfolding entries_below
entries_begin some all p w x = by_loop (is_loop w || is_deep w)
  where
    part : IsPartialBody some all w.address.reference w.address.block x.fields x.cs
    part = part_at some all p w x

    entries : View → Kind → List DirEntry
    entries v k = kind_entries v.profile k (body v w.address.reference w.address.block x.fields)

    by_kind : (k : Kind) → IsBeginningOf (entries some k) (entries all k)
    by_kind Directory = subst (λ z. IsBeginningOf (entries_in some.profile z) (entries_in all.profile (body all w.address.reference w.address.block x.fields))) (sym part.is)
        (subst (λ z. IsBeginningOf (entries_by z part.part) (entries_in all.profile (body all w.address.reference w.address.block x.fields))) (sym p.profile)
        (subst (λ z. IsBeginningOf (entries_by all.profile part.part) (entries_in all.profile z)) (sym x.has_body) part.inside.entries))
    by_kind File = ([], refl)
    by_kind Link = ([], refl)
    by_kind (Other t) = ([], refl)
    by_kind Unread = ([], refl)

    by_target : TargetPart some all w.address → IsBeginningOf (target_entries some w.address (target some w.address)) (target_entries all w.address (target all w.address))
    by_target (target_same e) = subst (λ z. IsBeginningOf (target_entries some w.address z) (target_entries all w.address (target all w.address))) (sym (e ∙ x.is_entry))
        (subst (λ z. IsBeginningOf (target_entries some w.address (entry x.fields)) (target_entries all w.address z)) (sym x.is_entry) (by_kind x.fields.kind))
    by_target (target_unread n e u t) = subst (λ z. IsBeginningOf (target_entries some w.address z) (target_entries all w.address (target all w.address))) (sym t)
        (target_entries all w.address (target all w.address), refl)

    by_loop : (b : Bool) → IsBeginningOf (cond b [] (target_entries some w.address (target some w.address))) (cond b [] (target_entries all w.address (target all w.address)))
    by_loop true = ([], refl)
    by_loop false = by_target (target_part some all p w.address)

pub get_begin : (xs rest : List DirEntry) (j : ℕ) (d : DirEntry) → slice_get xs j ≡ Some d → slice_get (xs ++ rest) j ≡ Some d
get_begin [] rest j d e = absurd (let z : ⊥ = cc in z)
get_begin (x ∷ xs) rest zero d e = e
get_begin (x ∷ xs) rest (suc j) d e = get_begin xs rest j d e

-- a route of the part is one of the whole, with the same end
pub part_walk : (some all : View) → IsPartOf some all → (route : Route) (w end : Walked) → AllWhole all w → walk_from some w route ≡ Some end → walk_from all w route ≡ Some end
part_walk some all p [] w end h e = e
part_walk some all p (j ∷ js) w end h e = go (step_inv some w j js end e) (whole_at all w (h [] w refl)) (λ d. part_walk some all p js (below w d) end)
  where
    go : Step some w j js end → WholeAt all w → ((d : DirEntry) → AllWhole all (below w d) → walk_from some (below w d) js ≡ Some end → walk_from all (below w d) js ≡ Some end)
        → walk_from all w (j ∷ js) ≡ Some end
    go s x ih = step_on all w j js s.entry at ∙ ih s.entry (whole_below all w j s.entry at h) s.then
      where
        b : IsBeginningOf (entries_below some w) (entries_below all w)
        b = entries_begin some all p w x

        at : slice_get (entries_below all w) j ≡ Some s.entry
        at = ap (λ z. slice_get z j) b.1 ∙ get_begin (entries_below some w) b.0 j s.entry s.at

pub part_route : (some all : View) → IsPartOf some all → (root : LongAd) → AreWhole all root → (route : Route) (w : Walked) → walked some root route ≡ Some w → walked all root route ≡ Some w
unfolding walked
part_route some all p root h route w e = part_walk some all p route (at_root root) w h e

-- ---- no fault and no loop
abbrev IsGood : Standing → Type 0
IsGood s = (s ≢ Loop) × ((f : NodeFault) → s ≢ Fault f)

good_torn : (ns : List ℕ) (runs : List (ℕ × ℕ)) → IsGood (torn_or_whole ns runs)
good_torn [] runs = (λ e. let z : ⊥ = cc in z, λ f e. let z : ⊥ = cc in z)
good_torn (n ∷ ns) runs = (λ e. let z : ⊥ = cc in z, λ f e. let z : ⊥ = cc in z)

good_cells : (cs : List Cell) → IsGood (cells_standing cs)
unfolding cells_standing
good_cells cs = good_torn (ascending (missing_blocks cs)) (runs_from 0 cs)

includes_begin : (xs rest : List DirEntry) (d : DirEntry) → Includes xs d → Includes (xs ++ rest) d
includes_begin [] rest d i = absurd i
includes_begin (x ∷ xs) rest d (inl e) = inl e
includes_begin (x ∷ xs) rest d (inr i) = inr (includes_begin xs rest d i)

-- where no directory is too deep and nothing is wrong in it, the cells alone decide
not_deep : (b : Bool) (es : List DirEntry) (s : Standing) → ((d : DirEntry) → Includes es d → b ≡ false) → depth_or b es s ≡ s
not_deep true [] s h = refl
not_deep true (e ∷ es) s h = absurd (let q : true ≡ false = h e (inl refl) in let z : ⊥ = cc in z)
not_deep false es s h = refl

not_wrong : (r : Rest) (s : Standing) → ((f : NodeFault) → r ≢ Wrong f) → standing_or_fault (fault_in r) s ≡ s
not_wrong Nothing s h = refl
not_wrong (Stopped n) s h = refl
not_wrong (Wrong f) s h = absurd (h f refl)

-- what is told of a node in part: nothing but its block, or what its cells say
pub data NodePart (some all : View) (p : IsPartOf some all) (w : Walked) (x : WholeAt all w) : Type 0 where
  node_unread : (n : ℕ) → all.place w.address.reference w.address.block ≡ Some n → is_known (some.blocks n) ≡ false → target some w.address ≡ unread n
      → NodePart some all p w x
  node_read : target some w.address ≡ entry x.fields → (node some w).standing ≡ cells_standing (part_at some all p w x).part → NodePart some all p w x

pub node_part : (some all : View) (blocks : PartitionBlocks) (p : IsPartOf some all) → IsComplete all blocks → (w : Walked) (x : WholeAt all w) → NodePart some all p w x
unfolding node
node_part some all blocks p c w x = by_target (target_part some all p w.address)
  where
    deep : Bool
    deep = is_deep w

    part : IsPartialBody some all w.address.reference w.address.block x.fields x.cs
    part = part_at some all p w x

    of_directory : Open all w x → kind_standing all.profile Directory deep part.part ≡ cells_standing part.part
    of_directory o = not_wrong (directory_by all.profile part.part).rest (depth_or deep (entries_by all.profile part.part) (cells_standing part.part)) (part.inside.no_fault o.ends)
        ∙ not_deep deep (entries_by all.profile part.part) (cells_standing part.part)
        (λ d i. o.room d (subst (λ z. Includes z d) (sym part.inside.entries.1) (includes_begin (entries_by all.profile part.part) part.inside.entries.0 d i)))

    by_kind : (k : Kind) → x.fields.kind ≡ k → kind_standing all.profile k deep part.part ≡ cells_standing part.part
    by_kind Directory e = of_directory (open_at all blocks c w x e)
    by_kind File e = refl
    by_kind Link e = refl
    by_kind (Other t) e = refl
    by_kind Unread e = refl

    stands : entry_standing some w x.fields ≡ cells_standing part.part
    stands = ap (λ b. cond b Loop (body_standing some.profile x.fields.kind deep (body some w.address.reference w.address.block x.fields))) x.no_loop
        ∙ ap (body_standing some.profile x.fields.kind deep) part.is ∙ ap (λ z. kind_standing z x.fields.kind deep part.part) p.profile ∙ by_kind x.fields.kind refl

    by_target : TargetPart some all w.address → NodePart some all p w x
    by_target (target_same e) = node_read (e ∙ x.is_entry) (ap (λ t. (node_at some w t).standing) (e ∙ x.is_entry) ∙ stands)
    by_target (target_unread n e u t) = node_unread n e u t

-- no node of a part has a fault, and none is a loop
pub good_node : (some all : View) (blocks : PartitionBlocks) → IsPartOf some all → IsComplete all blocks → (w : Walked) → WholeAt all w → HasNoFault (node some w)
unfolding node
good_node some all blocks p c w x = go (node_part some all blocks p c w x)
  where
    go : NodePart some all p w x → HasNoFault (node some w)
    go (node_unread n e u t) = subst (λ z. IsGood (node_at some w z).standing) (sym t) (λ e. let z : ⊥ = cc in z, λ f e. let z : ⊥ = cc in z)
    go (node_read t s) = subst IsGood (sym s) (good_cells (part_at some all p w x).part)

-- ---- a part has no more routes than the whole
some_is : {A : Type 0} (o : Option A) → IsSome o → (x : A) × (o ≡ Some x)
some_is None h = absurd (let z : ⊥ = cc in z)
some_is (Some x) h = (x, refl)

is_some : {A : Type 0} (o : Option A) (x : A) → o ≡ Some x → IsSome o
is_some o x e = subst IsSome (sym e) refl

pub fewer_routes : (some all : View) → IsPartOf some all → (root : LongAd) → AreWhole all root → (count : ℕ) → HasMoreRoutes some root count → HasMoreRoutes all root count
fewer_routes some all p root h count m = record { routes = m.routes; in_order = m.in_order; lead = λ route i. go route (some_is (walked some root route) (m.lead route i)); more = m.more }
  where
    go : (route : Route) → (w : Walked) × (walked some root route ≡ Some w) → IsSome (walked all root route)
    go route (w, e) = is_some (walked all root route) w (part_route some all p root h route w e)
