-- Each node of a tree is listed whole over a part, or a needed block that is not known is missing in some node.
use Rattle.std.proofs.Common.{◌≡◌, refl, sym, ◌∙◌, ap, subst, inl, inr, ◌⊎◌, ℕ, false, List, [], ◌∷◌, Some, ◌++◌}
use Rattle.std.specs.Prelude.{Contains}
use Rattle.std.proofs.lemmas.List.{append-nil}
use Rattle.udfs_lattice.specs.States.{is_known}
use Rattle.udfs_lattice.specs.Volumes.{IsUnread, ascending}
use Rattle.udfs_lattice.proofs.Inclusion.{Includes, included, contained}
use Rattle.udfs_tag.specs.declared.layouts.LongAd.{LongAd}
use Rattle.udfs_space.specs.Places.{View, IsPartOf}
use Rattle.udfs_file.specs.Bodies.{IsNeededFor}
use Rattle.udfs_file.specs.Laws.{IsPartialBody}
use Rattle.udfs_file.specs.Complete.{IsComplete}
use Rattle.udfs_file.specs.declared.cells.Cell.{Cell}
use Rattle.udfs_walk.specs.NodeFields.{NodeFields}
use Rattle.udfs_walk.specs.Nodes.{node}
use Rattle.udfs_walk.specs.Rereads.{missing_of, reread}
use Rattle.udfs_walk.specs.Routes.{Route, Walked, at_root, walked}
use Rattle.udfs_walk.specs.Standings.{missing_blocks, runs_from, torn_or_whole, cells_standing}
use Rattle.udfs_walk.specs.Targets.{entry, target}
use Rattle.udfs_walk.specs.Walks.{AreNodes}
use Rattle.udfs_walk.specs.declared.standings.Standing.TheVariants.{Whole}
use Rattle.udfs_walk.specs.Trees.{PartitionBlocks, TreeFile, IsFileAt, Leads, InTree}
use Rattle.udfs_walk.specs.Needs.{Needs, for_icb, for_body}
use Rattle.udfs_walk.specs.Lawful.{IsLawfulTree}
use Rattle.udfs_walk.specs.Cells.{IsWholeAs}
use Rattle.udfs_walk.specs.KnownLaws.{IsListedWhole, HoldsWanted}
use Rattle.udfs_walk.proofs.Listed.{path_is, Placed, placed}
use Rattle.udfs_walk.proofs.MissedBlocks.{IsGapAt, missing_gap, gap_misses, unread_misses, IsMissed, missed_is_listed}
use Rattle.udfs_walk.proofs.PartNodes.{cells_here, whole_as}
use Rattle.udfs_walk.proofs.PartRoutes.{NodePart, node_unread, node_read, node_part}
use Rattle.udfs_walk.proofs.TreeRising.{Risen, arrives, stops, rise}
use Rattle.udfs_walk.proofs.Settings.{Setting, setting, Here, here, part_here}

-- cells of which none is missing are whole
whole_cells : (cs : List Cell) → missing_blocks cs ≡ [] → cells_standing cs ≡ Whole
unfolding cells_standing
whole_cells cs e = ap (λ z. torn_or_whole z (runs_from 0 cs)) (ap ascending e)

-- a needed block that is not known, and that is missing in a node at the path or above it
pub record IsHeldUp (some all : View) (blocks : PartitionBlocks) (root : LongAd) (path : List (List ℕ)) : Type 0 where
  pub block : ℕ
  pub not_known : is_known (some.blocks block) ≡ false
  pub needs : Needs all blocks root path (block ∷ [])
  pub missed : IsMissed some root block
  pub after : List (List ℕ)
  pub is_way : path ≡ missed.end.path ++ after

-- by the route that its names rise to, and the cells at its end; or by the block that stops them
pub settle_way : (some all : View) (blocks : PartitionBlocks) → IsPartOf some all → IsComplete all blocks → (root : LongAd) → IsLawfulTree all root → (nodes : List NodeFields) → AreNodes some root nodes
    → (path : List (List ℕ)) (file : TreeFile) → InTree blocks root path file → IsListedWhole some root nodes path file ⊎ IsHeldUp some all blocks root path
unfolding walked
settle_way some all blocks p c root lawful nodes listed path file t = by_rise (rise some all blocks p c path (at_root root) t.address lawful.nodes t.leads)
  where
    Settled : Type 0
    Settled = IsListedWhole some root nodes path file ⊎ IsHeldUp some all blocks root path

    s : Setting some all blocks root
    s = setting some all blocks p c root lawful

    held : (n : ℕ) → is_known (some.blocks n) ≡ false → Needs all blocks root path (n ∷ []) → (m : IsMissed some root n) (after : List (List ℕ)) → path ≡ m.end.path ++ after → Settled
    held n u needs m after way = inr (record { block = n; not_known = u; needs = needs; missed = m; after = after; is_way = way })

    at_end : (route : Route) (w : Walked) → walked some root route ≡ Some w → w.path ≡ path → w.address ≡ t.address → Settled
    at_end route w walks path_of at = by_node (node_part some all blocks s.part s.is_whole w h.at)
      where
        h : Here some all blocks root w
        h = here some all blocks root s route w walks

        part : IsPartialBody some all w.address.reference w.address.block h.at.fields h.at.cs
        part = part_here some all blocks root s w h

        leads : Leads blocks root path w.address
        leads = subst (Leads blocks root path) (sym at) t.leads

        same : file ≡ h.file.file
        same = h.file.only file (subst (λ z. IsFileAt blocks z file) (sym at) t.is_file)

        at_way : path ≡ w.path ++ []
        at_way = sym path_of ∙ sym (append-nil w.path)

        missed : (n : ℕ) → Includes (missing_of (node some w).standing) n → IsMissed some root n
        missed n m = record { route = route; end = w; leads = walks; misses = m }

        for_own : (k n : ℕ) → IsNeededFor all w.address.reference h.at.fields k n → Needs all blocks root path (n ∷ [])
        for_own k n needed = for_body (record {
          address = w.address;
          leads = leads;
          file = h.file.file;
          is_file = h.file.is_file;
          cell = k;
          block = n;
          needed = subst (λ z. IsNeededFor all w.address.reference z k n) (sym h.file.fields) needed;
          is = refl;
        })

        is_whole : target some w.address ≡ entry h.at.fields → (node some w).standing ≡ cells_standing part.part → missing_blocks part.part ≡ [] → IsListedWhole some root nodes path file
        is_whole is_entry stands none = (
          place.index,
          node some w,
          part.part,
          place.listed,
          path_is some w ∙ path_of,
          record { walks = listed.walks; walk = listed.walk; end = w; at = place.at; has_cells = cells_here some all blocks root s w h is_entry },
          subst (λ z. IsWholeAs some.profile (node some w) z part.part) (sym same) (whole_as some all blocks root s w h is_entry stands (stands ∙ whole_cells part.part none)),
        )
          where
            place : Placed some root nodes listed w
            place = placed some root nodes listed route w walks

        by_gap : (node some w).standing ≡ cells_standing part.part → (k : ℕ) × (n : ℕ) × IsGapAt part.part k n → Settled
        by_gap stands (k, n, g) = let named : (is_known (some.blocks n) ≡ false) × IsNeededFor all w.address.reference h.at.fields k n = part.cells_are.names k n g in
            held n named.0 (for_own k n named.1) (missed n (gap_misses (node some w).standing part.part stands k n g)) [] at_way

        by_blocks : target some w.address ≡ entry h.at.fields → (node some w).standing ≡ cells_standing part.part → (ns : List ℕ) → missing_blocks part.part ≡ ns → Settled
        by_blocks is_entry stands [] e = inl (is_whole is_entry stands e)
        by_blocks is_entry stands (n ∷ ns) e = let g : (k : ℕ) × IsGapAt part.part k n = missing_gap part.part n (subst (λ z. Includes z n) (sym e) (inl refl)) in
            by_gap stands (g.0, n, g.1)

        by_node : NodePart some all s.part w h.at → Settled
        by_node (node_read is_entry stands) = by_blocks is_entry stands (missing_blocks part.part) refl
        by_node (node_unread n placed_at u is) = held n u
            (for_icb (record { before = path; after = []; is_way = sym (append-nil path); address = w.address; leads = leads; is = (n, placed_at, refl) }))
            (missed n (subst (λ z. Includes z n) (sym (unread_misses some w n is)) (inl refl))) [] at_way

    by_rise : Risen some all blocks (at_root root) path t.address → Settled
    by_rise (arrives route w walks path_of at) = at_end route w walks path_of at
    by_rise (stops n u needs route end walks m after way) = held n u needs (record { route = route; end = end; leads = walks; misses = m }) after way

-- a block alone is a group, which these hold if they have the block
pub held_one : (some all : View) (blocks : PartitionBlocks) (root : LongAd) (path : List (List ℕ)) (listed : List ℕ) (n : ℕ) → is_known (some.blocks n) ≡ false → Needs all blocks root path (n ∷ [])
    → Includes listed n → HoldsWanted some all blocks root path listed
held_one some all blocks root path listed n u needs in_list = (n ∷ [], (needs, none), there)
  where
    only : (k : ℕ) → Includes (n ∷ []) k → n ≡ k
    only k (inl e) = e
    only k (inr i) = absurd i

    none : IsUnread some.blocks (n ∷ [])
    none k i = subst (λ z. is_known (some.blocks z) ≡ false) (only k (included (n ∷ []) k i)) u

    there : (k : ℕ) → Contains (n ∷ []) k → Contains listed k
    there k i = contained listed k (subst (Includes listed) (only k (included (n ∷ []) k i)) in_list)

-- what holds it up is among the blocks that all nodes miss
pub settle : (some all : View) (blocks : PartitionBlocks) → IsPartOf some all → IsComplete all blocks → (root : LongAd) → IsLawfulTree all root → (nodes : List NodeFields) → AreNodes some root nodes
    → (path : List (List ℕ)) (file : TreeFile) → InTree blocks root path file → IsListedWhole some root nodes path file ⊎ HoldsWanted some all blocks root path (reread nodes)
settle some all blocks p c root lawful nodes listed path file t = go (settle_way some all blocks p c root lawful nodes listed path file t)
  where
    go : IsListedWhole some root nodes path file ⊎ IsHeldUp some all blocks root path → IsListedWhole some root nodes path file ⊎ HoldsWanted some all blocks root path (reread nodes)
    go (inl w) = inl w
    go (inr h) = inr (held_one some all blocks root path (reread nodes) h.block h.not_known h.needs (missed_is_listed some root nodes listed h.block h.missed))
