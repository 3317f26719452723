-- The blocks that some of the nodes miss, where with each of these the nodes above it are among them.
use Rattle.std.proofs.Common.{◌≡◌, refl, sym, ◌∙◌, ap, subst, inl, inr, ◌⊎◌, ℕ, Bool, true, false, List, [], ◌∷◌, Some, cond, slice_get}
use Rattle.std.specs.Prelude.{zero, suc, Contains, flat_map}
use Rattle.udfs_lattice.specs.States.{is_known}
use Rattle.udfs_lattice.specs.Volumes.{IsUnread}
use Rattle.udfs_lattice.proofs.Inclusion.{Includes, included, contained, in_nothing}
use Rattle.udfs_tag.specs.declared.layouts.LongAd.{LongAd}
use Rattle.udfs_space.specs.Places.{View}
use Rattle.udfs_walk.specs.NodeFields.{NodeFields}
use Rattle.udfs_walk.specs.Nodes.{node}
use Rattle.udfs_walk.specs.Rereads.{missing_of, reread}
use Rattle.udfs_walk.specs.Walks.{AreNodes}
use Rattle.udfs_walk.specs.Trees.{TreeFile}
use Rattle.udfs_walk.specs.KnownLaws.{ChosenIsWanted, HoldsWanted, IsListedWhole, taken}
use Rattle.udfs_walk.proofs.Listed.{path_is, Placed, placed, Stands, stands}
use Rattle.udfs_lattice.proofs.PublicLaws.{ascending_includes}
use Rattle.udfs_walk.proofs.EntryAddresses.{some_same}
use Rattle.udfs_walk.proofs.MissedBlocks.{IsMissed, in_left, in_right, one_of}
use Rattle.udfs_walk.proofs.Settled.{IsHeldUp, held_one, settle_way}
use Rattle.udfs_walk.proofs.Wanted.{IsMissedFor, missed_for, needs_one, no_member, not_whole}

-- the blocks that nodes miss, one node after the other
abbrev lacks : List NodeFields → List ℕ
lacks nodes = flat_map (λ (m : NodeFields). missing_of m.standing) nodes

-- a chosen node that misses a block
record IsLacking (takes : List (List ℕ) → Bool) (nodes : List NodeFields) (n : ℕ) : Type 0 where
  index : ℕ
  one : NodeFields
  there : slice_get nodes index ≡ Some one
  chosen : takes one.path ≡ true
  misses : Includes (missing_of one.standing) n

-- each block that the chosen nodes miss is missing in one of them
lacking : (takes : List (List ℕ) → Bool) (nodes : List NodeFields) (n : ℕ) → Includes (lacks (taken takes nodes)) n → IsLacking takes nodes n
lacking takes [] n i = absurd i
lacking takes (x ∷ nodes) n i = go (λ j. lacking takes nodes n j) (takes x.path) refl i
  where
    next : IsLacking takes nodes n → IsLacking takes (x ∷ nodes) n
    next l = record { index = suc l.index; one = l.one; there = l.there; chosen = l.chosen; misses = l.misses }

    split : (Includes (lacks (taken takes nodes)) n → IsLacking takes nodes n) → takes x.path ≡ true → Includes (missing_of x.standing) n ⊎ Includes (lacks (taken takes nodes)) n → IsLacking takes (x ∷ nodes) n
    split later e (inl j) = record { index = 0; one = x; there = refl; chosen = e; misses = j }
    split later e (inr j) = next (later j)

    go : (Includes (lacks (taken takes nodes)) n → IsLacking takes nodes n) → (b : Bool) → takes x.path ≡ b → Includes (lacks (cond b (x ∷ taken takes nodes) (taken takes nodes))) n → IsLacking takes (x ∷ nodes) n
    go later true e i = split later e (one_of (missing_of x.standing) (lacks (taken takes nodes)) n i)
    go later false e i = next (later i)

-- and what a chosen node misses is among them
lacked : (takes : List (List ℕ) → Bool) (nodes : List NodeFields) (index : ℕ) (one : NodeFields) → slice_get nodes index ≡ Some one → takes one.path ≡ true → (n : ℕ) → Includes (missing_of one.standing) n
    → Includes (lacks (taken takes nodes)) n
lacked takes [] index one e t n m = absurd (let z : ⊥ = cc in z)
lacked takes (x ∷ nodes) zero one e t n m = let same : one ≡ x = some_same one x (sym e) in
    subst (λ b. Includes (lacks (cond b (x ∷ taken takes nodes) (taken takes nodes))) n) (sym (ap (λ (z : NodeFields). takes z.path) (sym same) ∙ t))
    (in_left (missing_of x.standing) (lacks (taken takes nodes)) n (subst (λ (z : NodeFields). Includes (missing_of z.standing) n) same m))
lacked takes (x ∷ nodes) (suc index) one e t n m = go (lacked takes nodes index one e t n m) (takes x.path)
  where
    go : Includes (lacks (taken takes nodes)) n → (b : Bool) → Includes (lacks (cond b (x ∷ taken takes nodes) (taken takes nodes))) n
    go later true = in_right (missing_of x.standing) (lacks (taken takes nodes)) n later
    go later false = later

-- what the chosen nodes miss is missing at the end of a route whose names are chosen
chosen_misses : (takes : List (List ℕ) → Bool) (v : View) (root : LongAd) (nodes : List NodeFields) → AreNodes v root nodes → (n : ℕ) → Includes (reread (taken takes nodes)) n
    → (m : IsMissed v root n) × (takes m.end.path ≡ true)
chosen_misses takes v root nodes are n i = (
  record { route = s.route; end = s.end; leads = s.walks; misses = subst (λ (z : NodeFields). Includes (missing_of z.standing) n) s.is l.misses },
  ap takes (sym (ap (λ (z : NodeFields). z.path) s.is ∙ path_is v s.end)) ∙ l.chosen,
)
  where
    l : IsLacking takes nodes n
    l = lacking takes nodes n ((ascending_includes (lacks (taken takes nodes)) n).0 i)

    s : Stands v root nodes are l.index l.one
    s = stands v root nodes are l.index l.one l.there

-- and all that is missing there is among it
missed_is_chosen : (takes : List (List ℕ) → Bool) (v : View) (root : LongAd) (nodes : List NodeFields) → AreNodes v root nodes → (n : ℕ) (m : IsMissed v root n) → takes m.end.path ≡ true
    → Includes (reread (taken takes nodes)) n
missed_is_chosen takes v root nodes are n m t = (ascending_includes (lacks (taken takes nodes)) n).1
    (lacked takes nodes at.index (node v m.end) at.listed (ap takes (path_is v m.end) ∙ t) n m.misses)
  where
    at : Placed v root nodes are m.end
    at = placed v root nodes are m.route m.end m.leads

-- what holds a chosen node up is missing in a chosen node, since those above it are chosen
pub chosen_is_wanted : ChosenIsWanted
chosen_is_wanted takes above some all blocks p c root lawful nodes listed = record {
  not_known = λ n i. (missed n i).not_known;
  each = λ n i. let m = missed n i in ((at n i).0.end.path, m.file, n ∷ [], (at n i).1, m.in_tree, (m.needs, one_unread n m.not_known), contained (n ∷ []) n (inl refl));
  whole_or_held = λ path file t is. held path file t (settle_way some all blocks p c root lawful nodes listed path file is);
  none = (
    λ e path file t is. by_none e path file (held path file t (settle_way some all blocks p c root lawful nodes listed path file is)),
    λ h. no_member asked (λ n i. not_whole some all blocks p c root lawful nodes listed n (at n i).0 (missed n i).file
        (h (at n i).0.end.path (missed n i).file (at n i).1 (missed n i).in_tree)),
  );
}
  where
    asked : List ℕ
    asked = reread (taken takes nodes)

    at : (n : ℕ) → Contains asked n → (m : IsMissed some root n) × (takes m.end.path ≡ true)
    at n i = chosen_misses takes some root nodes listed n (included asked n i)

    missed : (n : ℕ) (i : Contains asked n) → IsMissedFor some all blocks root (at n i).0.end n
    missed n i = missed_for some all blocks p c root lawful n (at n i).0

    one_unread : (n : ℕ) → is_known (some.blocks n) ≡ false → IsUnread some.blocks (n ∷ [])
    one_unread n u k i = go (included (n ∷ []) k i)
      where
        go : Includes (n ∷ []) k → is_known (some.blocks k) ≡ false
        go (inl e) = subst (λ z. is_known (some.blocks z) ≡ false) e u
        go (inr j) = absurd j

    held : (path : List (List ℕ)) (file : TreeFile) → takes path ≡ true → IsListedWhole some root nodes path file ⊎ IsHeldUp some all blocks root path
        → IsListedWhole some root nodes path file ⊎ HoldsWanted some all blocks root path asked
    held path file t (inl w) = inl w
    held path file t (inr h) = inr (held_one some all blocks root path asked h.block h.not_known h.needs
        (missed_is_chosen takes some root nodes listed h.block h.missed (above h.missed.end.path h.after (ap takes (sym h.is_way) ∙ t))))

    by_none : asked ≡ [] → (path : List (List ℕ)) (file : TreeFile) → IsListedWhole some root nodes path file ⊎ HoldsWanted some all blocks root path asked → IsListedWhole some root nodes path file
    by_none e path file (inl w) = w
    by_none e path file (inr (g, (needs, u), h)) = let k : (n : ℕ) × (g ≡ n ∷ []) = needs_one all blocks root path g needs in
        in_nothing k.0 (subst (λ z. Contains z k.0) e (h k.0 (contained g k.0 (subst (λ z. Includes z k.0) (sym k.1) (inl refl)))))
