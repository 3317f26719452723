-- The laws of what is known enough, and of what is missing.
use Rattle.std.proofs.Common.{◌≡◌, refl, sym, ◌∙◌, ap, subst, inl, inr, ◌⊎◌, ℕ, true, false, List, [], ◌∷◌, Some}
use Rattle.std.specs.Prelude.{Contains}
use Rattle.std.proofs.lemmas.List.{append-nil}
use Rattle.udfs_lattice.specs.States.{is_known}
use Rattle.udfs_lattice.specs.Volumes.{Blocks, IsKnownAt, IsUnread}
use Rattle.udfs_lattice.proofs.Inclusion.{Includes, included, contained, in_nothing}
use Rattle.udfs_tag.specs.declared.layouts.LongAd.{LongAd}
use Rattle.udfs_space.specs.Places.{View, IsPartOf}
use Rattle.udfs_file.specs.Bodies.{IsNeededFor}
use Rattle.udfs_file.specs.Laws.{IsPartialBody}
use Rattle.udfs_file.specs.Complete.{IsComplete}
use Rattle.udfs_walk.specs.NodeFields.{NodeFields}
use Rattle.udfs_walk.specs.Nodes.{node}
use Rattle.udfs_walk.specs.Rereads.{missing_of, reread}
use Rattle.udfs_walk.specs.Routes.{Walked}
use Rattle.udfs_walk.specs.Walks.{AreNodes}
use Rattle.udfs_walk.specs.Trees.{PartitionBlocks, TreeFile, Leads, InTree}
use Rattle.udfs_walk.specs.Needs.{Needs, for_icb, for_way, for_body, HasKnown}
use Rattle.udfs_walk.specs.Lawful.{IsLawfulTree}
use Rattle.udfs_walk.specs.KnownLaws.{IsListedWhole, HoldsWanted, MetIsWhole, MissingIsWanted}
use Rattle.udfs_walk.proofs.Listed.{path_is, Stands, stands}
use Rattle.udfs_walk.proofs.MissedBlocks.{IsGapAt, misses_gap, unread_misses, IsMissed, listed_is_missed}
use Rattle.udfs_walk.proofs.PartRoutes.{NodePart, node_unread, node_read, node_part}
use Rattle.udfs_walk.proofs.Settings.{Setting, setting, Here, here, part_here, tree_here, one_end}
use Rattle.udfs_walk.proofs.Settled.{settle}

-- a group has one block
pub needs_one : (all : View) (blocks : PartitionBlocks) (root : LongAd) (path : List (List ℕ)) (g : List ℕ) → Needs all blocks root path g → (n : ℕ) × (g ≡ n ∷ [])
needs_one all blocks root path g (for_icb x) = (x.is.0, x.is.2)
needs_one all blocks root path g (for_way x) = (x.block, x.is)
needs_one all blocks root path g (for_body x) = (x.block, x.is)

-- no block is both
pub known_not_unread : {A : Type 0} (T : Blocks) (n : ℕ) → IsKnownAt T n → is_known (T n) ≡ false → A
known_not_unread T n (bytes, e) u = absurd (let t : true ≡ false = sym (ap is_known e) ∙ u in let z : ⊥ = cc in z)

-- no group that has a known block is wanted
pub met_is_whole : MetIsWhole
met_is_whole some all blocks p c root lawful nodes listed path file t met = go (settle some all blocks p c root lawful nodes listed path file t)
  where
    go : IsListedWhole some root nodes path file ⊎ HoldsWanted some all blocks root path (reread nodes) → IsListedWhole some root nodes path file
    go (inl w) = w
    go (inr (g, (needs, u), h)) = let k : HasKnown some.blocks g = met g needs in known_not_unread some.blocks k.0 k.2 (u k.0 k.1)

-- ---- a node that misses a block
-- what the node at the end of a route misses is not known, and is needed for it
pub record IsMissedFor (some all : View) (blocks : PartitionBlocks) (root : LongAd) (w : Walked) (n : ℕ) : Type 0 where
  pub not_known : is_known (some.blocks n) ≡ false
  pub file : TreeFile
  pub in_tree : InTree blocks root w.path file
  pub needs : Needs all blocks root w.path (n ∷ [])

-- it is the ICB's block, or that of a missing cell
pub missed_for : (some all : View) (blocks : PartitionBlocks) → IsPartOf some all → IsComplete all blocks → (root : LongAd) → IsLawfulTree all root → (n : ℕ) (m : IsMissed some root n)
    → IsMissedFor some all blocks root m.end n
missed_for some all blocks p c root lawful n m = by_node (node_part some all blocks s.part s.is_whole w h.at)
  where
    s : Setting some all blocks root
    s = setting some all blocks p c root lawful

    w : Walked
    w = m.end

    h : Here some all blocks root w
    h = here some all blocks root s m.route w m.leads

    part : IsPartialBody some all w.address.reference w.address.block h.at.fields h.at.cs
    part = part_here some all blocks root s w h

    leads : Leads blocks root w.path w.address
    leads = s.routes.is_path h.route w h.walks

    tree : InTree blocks root w.path h.file.file
    tree = tree_here some all blocks root s w h

    by_cell : (k : ℕ) × IsGapAt part.part k n → IsMissedFor some all blocks root w n
    by_cell (k, g) = let named : (is_known (some.blocks n) ≡ false) × IsNeededFor all w.address.reference h.at.fields k n = part.cells_are.names k n g in record {
      not_known = named.0;
      file = h.file.file;
      in_tree = tree;
      needs = for_body (record {
        address = w.address;
        leads = leads;
        file = h.file.file;
        is_file = h.file.is_file;
        cell = k;
        block = n;
        needed = subst (λ z. IsNeededFor all w.address.reference z k n) (sym h.file.fields) named.1;
        is = refl;
      });
    }

    by_icb : (k : ℕ) → all.place w.address.reference w.address.block ≡ Some k → is_known (some.blocks k) ≡ false → n ≡ k → IsMissedFor some all blocks root w n
    by_icb k placed u e = record {
      not_known = subst (λ z. is_known (some.blocks z) ≡ false) (sym e) u;
      file = h.file.file;
      in_tree = tree;
      needs = for_icb (record { before = w.path; after = []; is_way = sym (append-nil w.path); address = w.address; leads = leads; is = (k, placed, ap (λ z. z ∷ []) e) });
    }

    one : (k : ℕ) → Includes (k ∷ []) n → n ≡ k
    one k (inl e) = sym e
    one k (inr i) = absurd i

    by_node : NodePart some all s.part w h.at → IsMissedFor some all blocks root w n
    by_node (node_read t e) = by_cell (misses_gap (node some w).standing part.part e n m.misses)
    by_node (node_unread k placed u is) = by_icb k placed u (one k (subst (λ z. Includes z n) (unread_misses some w k is) m.misses))

-- a list without members is empty
pub no_member : (xs : List ℕ) → ((n : ℕ) → ¬ Contains xs n) → xs ≡ []
no_member [] h = refl
no_member (x ∷ xs) h = absurd (h x (contained (x ∷ xs) x (inl refl)))

-- a node that misses a block is not listed whole
pub not_whole : (some all : View) (blocks : PartitionBlocks) → IsPartOf some all → IsComplete all blocks → (root : LongAd) → IsLawfulTree all root → (nodes : List NodeFields) → AreNodes some root nodes
    → (n : ℕ) (m : IsMissed some root n) (file : TreeFile) → ¬ IsListedWhole some root nodes m.end.path file
not_whole some all blocks p c root lawful nodes listed n m file (i, n', cs, get, path, cells_at, is_as) =
    subst (λ z. Includes (missing_of z) n) (ap (λ z. (node some z).standing) same ∙ ap (λ z. z.standing) (sym e.is) ∙ is_as.standing) m.misses
  where
    s : Setting some all blocks root
    s = setting some all blocks p c root lawful

    e : Stands some root nodes listed i n'
    e = stands some root nodes listed i n' get

    same : m.end ≡ e.end
    same = one_end some all blocks root s m.end e.end (here some all blocks root s m.route m.end m.leads) (here some all blocks root s e.route e.end e.walks)
        (sym path ∙ ap (λ z. z.path) e.is ∙ path_is some e.end)

-- what is missing is wanted, and what is wanted is missing
pub missing_is_wanted : MissingIsWanted
missing_is_wanted some all blocks p c root lawful nodes listed = record {
  not_known = λ n i. (missed n i).not_known;
  each = λ n i. let m = missed n i in ((at n i).end.path, m.file, n ∷ [], m.in_tree, (m.needs, one_unread n m.not_known), contained (n ∷ []) n (inl refl));
  whole_or_held = λ path file t. settle some all blocks p c root lawful nodes listed path file t;
  none = (
    λ e path file t. by_none e path file (settle some all blocks p c root lawful nodes listed path file t),
    λ h. no_member (reread nodes) (λ n i. not_whole some all blocks p c root lawful nodes listed n (at n i) (missed n i).file (h (at n i).end.path (missed n i).file (missed n i).in_tree)),
  );
}
  where
    at : (n : ℕ) → Contains (reread nodes) n → IsMissed some root n
    at n i = listed_is_missed some root nodes listed n (included (reread nodes) n i)

    missed : (n : ℕ) (i : Contains (reread nodes) n) → IsMissedFor some all blocks root (at n i).end n
    missed n i = missed_for some all blocks p c root lawful n (at n i)

    one_unread : (n : ℕ) → is_known (some.blocks n) ≡ false → IsUnread some.blocks (n ∷ [])
    one_unread n u k i = go (included (n ∷ []) k i)
      where
        go : Includes (n ∷ []) k → is_known (some.blocks k) ≡ false
        go (inl e) = subst (λ z. is_known (some.blocks z) ≡ false) e u
        go (inr j) = absurd j

    by_none : reread nodes ≡ [] → (path : List (List ℕ)) (file : TreeFile) → IsListedWhole some root nodes path file ⊎ HoldsWanted some all blocks root path (reread nodes) → IsListedWhole some root nodes path file
    by_none e path file (inl w) = w
    by_none e path file (inr (g, (needs, u), h)) = let k : (n : ℕ) × (g ≡ n ∷ []) = needs_one all blocks root path g needs in
        in_nothing k.0 (subst (λ z. Contains z k.0) e (h k.0 (contained g k.0 (subst (λ z. Includes z k.0) (sym k.1) (inl refl)))))
