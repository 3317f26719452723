-- Of a node whose body is all there, each group that it needs has a known block.
use Rattle.std.proofs.Common.{◌≡◌, refl, sym, ◌∙◌, ap, subst, inl, ℕ, Bool, true, false, List, [], ◌∷◌, ◌++◌, cond, ◌||◌, Some, None, slice_get}
use Rattle.std.proofs.lemmas.List.{append_assoc}
use Rattle.udfs_lattice.specs.States.{State, is_known}
use Rattle.udfs_lattice.specs.Volumes.{IsKnownAt}
use Rattle.udfs_lattice.proofs.Inclusion.{Includes, contained}
use Rattle.udfs_lattice.specs.declared.facts.Fact.TheVariants.{Unknown, Known, Conflict}
use Rattle.udfs_tag.specs.declared.layouts.LongAd.{LongAd}
use Rattle.udfs_space.specs.Places.{View, IsPartOf}
use Rattle.udfs_file.specs.Entries.{EntryFields}
use Rattle.udfs_file.specs.Bodies.{body, IsNeededFor}
use Rattle.udfs_file.specs.Fronts.{directory_by, listed_entries, entries_by}
use Rattle.udfs_file.specs.Laws.{IsBeginningOf, IsMissingAt, IsClearTo, IsPartialBody, descriptor_end}
use Rattle.udfs_file.specs.declared.cells.Cell.{Cell}
use Rattle.udfs_file.specs.declared.directories.DirEntry.{DirEntry}
use Rattle.udfs_file.specs.Identifiers.{Identifier}
use Rattle.udfs_file.specs.declared.faults.Kind.{Kind}
use Rattle.udfs_file.specs.declared.faults.Kind.TheVariants.{Directory, File, Link, Other, Unread}
use Rattle.udfs_file.proofs.PublicLaws.{partial_descriptors}
use Rattle.udfs_walk.specs.Targets.{entry, target}
use Rattle.udfs_walk.specs.Routes.{Route, Walked, at_root, is_loop, is_deep, entries_in, kind_entries, target_entries, entries_below, walked}
use Rattle.udfs_walk.specs.Trees.{PartitionBlocks, TreeFile, IsFileAt, IsDirectoryAt}
use Rattle.udfs_walk.specs.Needs.{IsIcbOnWay, EndsAt, IsDirectoryBlock, IsBodyBlock, for_icb, for_way, for_body, HasKnown, IsMet}
use Rattle.udfs_walk.proofs.WholeFiles.{IsReadDirectoryAt, directory_at_law}
use Rattle.udfs_walk.proofs.WholeRoutes.{WholeAt, Open, open_at, entries_are, get_includes}
use Rattle.udfs_walk.proofs.PartRoutes.{TargetPart, target_same, target_unread, target_part, part_at}
use Rattle.udfs_walk.proofs.Settings.{Setting, Here, here, part_here, one_address}
use Rattle.udfs_walk.proofs.Cuts.{Cut, cut, entry_known, mid_entry, Onward, onward}
use Rattle.udfs_walk.proofs.Names.{Splits, split_at, listed_in, Differ, same_end}

-- a block that is needed for a cell that is not missing is known
pub gap_known : (some all : View) (r b : ℕ) (e : EntryFields) (cs : List Cell) (p : IsPartialBody some all r b e cs) (k n : ℕ) → IsNeededFor all r e k n → ¬ IsMissingAt p.part k → IsKnownAt some.blocks n
gap_known some all r b e cs p k n need here = go (some.blocks n) refl
  where
    open_at : is_known (some.blocks n) ≡ false → IsKnownAt some.blocks n
    open_at u = absurd (here ((p.cells_are.gaps k).1 (n, u, need)))

    go : (x : State) → some.blocks n ≡ x → IsKnownAt some.blocks n
    go Unknown q = open_at (ap is_known q)
    go (Known bytes) q = (bytes, q)
    go Conflict q = open_at (ap is_known q)

-- of a file at this address a needed block is one of the node's own entry
pub need_of : (some all : View) (blocks : PartitionBlocks) (root : LongAd) (w : Walked) (h : Here some all blocks root w) (address : LongAd) → address ≡ w.address → (file : TreeFile)
    → IsFileAt blocks address file → (k n : ℕ) → IsNeededFor all address.reference file.fields k n → IsNeededFor all w.address.reference h.at.fields k n
need_of some all blocks root w h address same file is k n need =
    subst (λ z. IsNeededFor all w.address.reference z k n) (ap (λ z. z.fields) (h.file.only file is_here) ∙ h.file.fields)
    (subst (λ z. IsNeededFor all z.reference file.fields k n) same need)
  where
    is_here : IsFileAt blocks w.address file
    is_here = subst (λ z. IsFileAt blocks z file) same is

-- a block of a body of which no cell is missing
pub body_known : (some all : View) (blocks : PartitionBlocks) (root : LongAd) (s : Setting some all blocks root) (w : Walked) (h : Here some all blocks root w)
    → ((k : ℕ) → ¬ IsMissingAt (part_here some all blocks root s w h).part k) → (group : List ℕ) → IsBodyBlock all blocks root w.path group → HasKnown some.blocks group
body_known some all blocks root s w h clear group x = (
  x.block,
  contained group x.block (subst (λ z. Includes z x.block) (sym x.is) (inl refl)),
  gap_known some all w.address.reference w.address.block h.at.fields h.at.cs (part_here some all blocks root s w h) x.cell x.block
      (need_of some all blocks root w h x.address same x.file x.is_file x.cell x.block x.needed) (clear x.cell),
)
  where
    same : x.address ≡ w.address
    same = one_address some all blocks root s w h w.path x.address refl x.leads

-- an ICB on the way
pub icb_known : (some all : View) (blocks : PartitionBlocks) (root : LongAd) → Setting some all blocks root → (route : Route) (w : Walked) → walked some root route ≡ Some w
    → (e : EntryFields) → target some w.address ≡ entry e → (group : List ℕ) → IsIcbOnWay all blocks root w.path group → HasKnown some.blocks group
unfolding walked
icb_known some all blocks root s route w walks e t group x = (x.is.0, contained group x.is.0 (subst (λ z. Includes z x.is.0) (sym x.is.2) (inl refl)), entry_known some c.mid.address m.0 x.is.0 m.1 placed)
  where
    c : Cut some (at_root root) w x.before
    c = cut some route (at_root root) w x.before x.after walks x.is_way

    h : Here some all blocks root c.mid
    h = here some all blocks root s c.front c.mid c.to

    same : x.address ≡ c.mid.address
    same = one_address some all blocks root s c.mid h x.before x.address c.path x.leads

    m : (e : EntryFields) × (target some c.mid.address ≡ entry e)
    m = mid_entry some c.back c.mid w e c.on t

    placed : some.place c.mid.address.reference c.mid.address.block ≡ Some x.is.0
    placed = s.part.places c.mid.address.reference c.mid.address.block ∙ (λ i. all.place (sym same i).reference (sym same i).block) ∙ x.is.1

-- An entry to which a route goes on over the table.
pub record GoesPart (some all : View) (p : IsPartOf some all) (w : Walked) (x : WholeAt all w) (d : DirEntry) : Type 0 where
  pub kind : x.fields.kind ≡ Directory
  pub inside : Includes (entries_by all.profile (part_at some all p w x).part) d

pub goes_part : (some all : View) (p : IsPartOf some all) (w : Walked) (x : WholeAt all w) (j : ℕ) (d : DirEntry) → slice_get (entries_below some w) j ≡ Some d → GoesPart some all p w x d
unfolding entries_below
goes_part some all p w x j d k = by (is_loop w || is_deep w) k
  where
    part : IsPartialBody some all w.address.reference w.address.block x.fields x.cs
    part = part_at some all p w x

    by_kind : (k : Kind) → x.fields.kind ≡ k → slice_get (kind_entries some.profile k (body some w.address.reference w.address.block x.fields)) j ≡ Some d → GoesPart some all p w x d
    by_kind Directory e q = record { kind = e; inside = get_includes (entries_by all.profile part.part) j d (ap (λ z. slice_get (entries_by z part.part) j) (sym p.profile) ∙ ap (λ z. slice_get (entries_in some.profile z) j) (sym part.is) ∙ q) }
    by_kind File e q = absurd (let z : ⊥ = cc in z)
    by_kind Link e q = absurd (let z : ⊥ = cc in z)
    by_kind (Other t) e q = absurd (let z : ⊥ = cc in z)
    by_kind Unread e q = absurd (let z : ⊥ = cc in z)

    by_target : slice_get (target_entries some w.address (target some w.address)) j ≡ Some d → TargetPart some all w.address → GoesPart some all p w x d
    by_target q (target_same e) = by_kind x.fields.kind refl (ap (λ z. slice_get (target_entries some w.address z) j) (sym (e ∙ x.is_entry)) ∙ q)
    by_target q (target_unread n e u t) = absurd (let s : None ≡ Some d = ap (λ z. slice_get (target_entries some w.address z) j) (sym t) ∙ q in let z : ⊥ = cc in z)

    by : (b : Bool) → slice_get (cond b [] (target_entries some w.address (target some w.address))) j ≡ Some d → GoesPart some all p w x d
    by true q = absurd (let z : ⊥ = cc in z)
    by false q = by_target q (target_part some all p w.address)

-- no cell before the end of the descriptor that a route takes is missing
pub clear_before : (some all : View) (blocks : PartitionBlocks) (root : LongAd) (s : Setting some all blocks root) (w : Walked) (h : Here some all blocks root w) (name : List ℕ) → Onward some w name
    → (ids : List Identifier) → IsDirectoryAt blocks w.address ids → (end : ℕ) → EndsAt ids name end → IsClearTo (part_here some all blocks root s w h).part end
clear_before some all blocks root s w h name on ids is_dir end ends = subst (IsClearTo part.part) end_is (part.inside.clear x.front x.back x.id x.splits)
  where
    part : IsPartialBody some all w.address.reference w.address.block h.at.fields h.at.cs
    part = part_here some all blocks root s w h

    goes : GoesPart some all s.part w h.at on.entry
    goes = goes_part some all s.part w h.at on.j on.entry on.at

    x : Splits (directory_by all.profile part.part).identifiers on.entry
    x = split_at (directory_by all.profile part.part).identifiers on.entry goes.inside

    more : IsBeginningOf (directory_by all.profile part.part).identifiers (directory_by all.profile h.at.cs).identifiers
    more = partial_descriptors all.profile part.part h.at.cs part.cells_are.each

    whole_is : (directory_by all.profile h.at.cs).identifiers ≡ x.front ++ x.id ∷ (x.back ++ more.0)
    whole_is = more.1 ∙ ap (λ z. z ++ more.0) x.splits ∙ append_assoc x.front (x.id ∷ x.back) more.0

    o : Open all w h.at
    o = open_at all blocks s.is_whole w h.at goes.kind

    r : IsReadDirectoryAt blocks w.address (directory_by all.profile h.at.cs).identifiers
    r = directory_at_law all blocks s.is_whole w.address h.at.fields h.at.cs h.at.is_entry h.at.has_body goes.kind o.ends

    inside : Includes (entries_by all.profile h.at.cs) on.entry
    inside = subst (λ z. Includes (listed_entries z) on.entry) (sym whole_is) (listed_in x.front (x.back ++ more.0) x.id on.entry x.is_listed)

    below_are : entries_below all w ≡ entries_by all.profile h.at.cs
    below_are = entries_are all w h.at false Directory (o.room on.entry inside) goes.kind

    differ : Differ (listed_entries (x.front ++ x.id ∷ (x.back ++ more.0)))
    differ = subst (λ z. Differ (listed_entries z)) whole_is (subst Differ below_are (s.lawful.distinct h.route w h.walks))

    end_is : descriptor_end x.front x.id ≡ end
    end_is = same_end x.front ends.front (x.back ++ more.0) ends.back x.id ends.id on.entry ends.entry differ (sym whole_is ∙ sym (r.only ids is_dir) ∙ ends.splits)
        x.is_listed ends.is_listed (on.named ∙ sym ends.named) ∙ sym ends.is

-- a block of a directory on the way
pub way_known : (some all : View) (blocks : PartitionBlocks) (root : LongAd) → Setting some all blocks root → (route : Route) (w : Walked) → walked some root route ≡ Some w
    → (group : List ℕ) → IsDirectoryBlock all blocks root w.path group → HasKnown some.blocks group
unfolding walked
way_known some all blocks root s route w walks group x = (
  x.block,
  contained group x.block (subst (λ z. Includes z x.block) (sym x.is) (inl refl)),
  gap_known some all c.mid.address.reference c.mid.address.block h.at.fields h.at.cs (part_here some all blocks root s c.mid h) x.cell x.block
      (need_of some all blocks root c.mid h x.address same x.is_directory.file x.is_directory.is_file x.cell x.block x.needed)
      (clear_before some all blocks root s c.mid h x.name on x.ids (subst (λ z. IsDirectoryAt blocks z x.ids) same x.is_directory) x.end x.ends x.cell x.is_before),
)
  where
    c : Cut some (at_root root) w x.before
    c = cut some route (at_root root) w x.before (x.name ∷ x.after) walks x.is_way

    h : Here some all blocks root c.mid
    h = here some all blocks root s c.front c.mid c.to

    same : x.address ≡ c.mid.address
    same = one_address some all blocks root s c.mid h x.before x.address c.path x.leads

    on : Onward some c.mid x.name
    on = onward some c.back c.mid w x.name x.after c.on (x.is_way ∙ ap (λ z. z ++ x.name ∷ x.after) (sym c.path))

-- a node whose entry is read and of which no cell is missing
pub met : (some all : View) (blocks : PartitionBlocks) (root : LongAd) (s : Setting some all blocks root) (route : Route) (w : Walked) → walked some root route ≡ Some w
    → (h : Here some all blocks root w) (e : EntryFields) → target some w.address ≡ entry e → ((k : ℕ) → ¬ IsMissingAt (part_here some all blocks root s w h).part k) → IsMet some all blocks root w.path
met some all blocks root s route w walks h e t clear group (for_icb x) = icb_known some all blocks root s route w walks e t group x
met some all blocks root s route w walks h e t clear group (for_way x) = way_known some all blocks root s route w walks group x
met some all blocks root s route w walks h e t clear group (for_body x) = body_known some all blocks root s w h clear group x
