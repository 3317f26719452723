-- The names in the path of a node are those of entries, so they can stand in a path.
use Rattle.std.proofs.Common.{◌≡◌, refl, sym, subst, inl, inr, ◌⊎◌, ℕ, Bool, true, false, List, [], ◌∷◌, ◌++◌, cond, ◌||◌, map, Option, Some, None, slice_get}
use Rattle.std.specs.Prelude.{zero, suc, Contains}
use Rattle.std.specs.List.{AllZip}
use Rattle.udfs_lattice.proofs.Inclusion.{Includes, included, contained}
use Rattle.udfs_osta.specs.Escapes.{escaped}
use Rattle.udfs_osta.specs.Parts.{IsPathPart}
use Rattle.udfs_tag.specs.declared.layouts.LongAd.{LongAd}
use Rattle.udfs_space.specs.Places.{View}
use Rattle.udfs_volume.specs.declared.profiles.Profile.{Profile}
use Rattle.udfs_file.specs.Bodies.{Body, cells, faulty_body, body}
use Rattle.udfs_file.specs.declared.directories.DirEntry.{DirEntry}
use Rattle.udfs_file.specs.declared.faults.Kind.{Kind}
use Rattle.udfs_file.specs.declared.faults.Kind.TheVariants.{Directory, File, Link, Other, Unread}
use Rattle.udfs_file.proofs.PublicLaws.{names_are_parts}
use Rattle.udfs_walk.specs.Laws.{PathsHaveParts}
use Rattle.udfs_walk.specs.NodeFields.{NodeFields}
use Rattle.udfs_walk.specs.Nodes.{node, node_at}
use Rattle.udfs_walk.specs.Routes.{Route, Walked, at_root, below, entries_below, entries_in, is_deep, is_loop, kind_entries, target_entries, walk_from, walked}
use Rattle.udfs_walk.specs.Targets.{Target, bad, unread, entry, target}

-- such a part
abbrev IsGood : List ℕ → Type 0
IsGood part = IsPathPart (escaped part)

abbrev AreGood : List (List ℕ) → Type 0
AreGood parts = (part : List ℕ) → Includes parts part → IsGood part

in_either : (xs ys : List (List ℕ)) (x : List ℕ) → Includes (xs ++ ys) x → Includes xs x ⊎ Includes ys x
in_either [] ys x i = inr i
in_either (y ∷ xs) ys x (inl p) = inl (inl p)
in_either (y ∷ xs) ys x (inr i) = go (in_either xs ys x i)
  where
    go : Includes xs x ⊎ Includes ys x → Includes (y ∷ xs) x ⊎ Includes ys x
    go (inl j) = inl (inr j)
    go (inr j) = inr j

-- ---- the entries to which a route goes on
good_in : (p : Profile) (b : Body) (d : DirEntry) → Includes (entries_in p b) d → IsGood d.name
good_in p (cells cs) d i = names_are_parts p cs d (contained (entries_in p (cells cs)) d i)
good_in p (faulty_body f) d i = absurd i

good_kind : (p : Profile) (k : Kind) (b : Body) (d : DirEntry) → Includes (kind_entries p k b) d → IsGood d.name
good_kind p Directory b d i = good_in p b d i
good_kind p File b d i = absurd i
good_kind p Link b d i = absurd i
good_kind p (Other t) b d i = absurd i
good_kind p Unread b d i = absurd i

good_target : (v : View) (a : LongAd) (t : Target) (d : DirEntry) → Includes (target_entries v a t) d → IsGood d.name
good_target v a (bad f) d i = absurd i
good_target v a (unread n) d i = absurd i
good_target v a (entry e) d i = good_kind v.profile e.kind (body v a.reference a.block e) d i

good_below : (v : View) (w : Walked) (d : DirEntry) → Includes (entries_below v w) d → IsGood d.name
unfolding entries_below
good_below v w d i = go (is_loop w || is_deep w) i
  where
    es : List DirEntry
    es = target_entries v w.address (target v w.address)

    go : (b : Bool) → Includes (cond b [] es) d → IsGood d.name
    go true j = absurd j
    go false j = good_target v w.address (target v w.address) d j

get_includes : (xs : List DirEntry) (j : ℕ) (x : DirEntry) → slice_get xs j ≡ Some x → Includes xs x
get_includes [] j x e = absurd (let z : ⊥ = cc in z)
get_includes (y ∷ ys) zero x e = inl cc
get_includes (y ∷ ys) (suc j) x e = inr (get_includes ys j x e)

-- ---- the end of a route
good_route : (v : View) (route : Route) (w end : Walked) → AreGood w.path → walk_from v w route ≡ Some end → AreGood end.path
good_route v [] w end h e = let same : w ≡ end = cc in subst (λ z. AreGood z.path) same h
good_route v (j ∷ js) w end h e = go (λ d. good_route v js (below w d) end) (slice_get (entries_below v w) j) refl e
  where
    onto : (d : DirEntry) → IsGood d.name → AreGood (below w d).path
    onto d q part i = by (in_either w.path (d.name ∷ []) part i)
      where
        by : Includes w.path part ⊎ Includes (d.name ∷ []) part → IsGood part
        by (inl k) = h part k
        by (inr (inl same)) = subst IsGood same q
        by (inr (inr k)) = absurd k

    go : ((d : DirEntry) → AreGood (below w d).path → walk_from v (below w d) js ≡ Some end → AreGood end.path) → (o : Option DirEntry) → slice_get (entries_below v w) j ≡ o
        → (elim o as (λ _. Option Walked) [ None ↦ None | Some d ↦ walk_from v (below w d) js ]) ≡ Some end → AreGood end.path
    go ih None q s = absurd (let z : ⊥ = cc in z)
    go ih (Some d) q s = ih d (onto d (good_below v w d (get_includes (entries_below v w) j d q))) s

same_path : (v : View) (w : Walked) → (node v w).path ≡ w.path
unfolding node
same_path v w = go (target v w.address)
  where
    go : (t : Target) → (node_at v w t).path ≡ w.path
    go (bad f) = refl
    go (unread n) = refl
    go (entry e) = refl

good_nodes : (v : View) (root : LongAd) (routes : List Route) (walks : List Walked) → AllZip (λ route w. walked v root route ≡ Some w) routes walks
    → (n : NodeFields) → Includes (map (node v) walks) n → AreGood n.path
unfolding walked
good_nodes v root routes [] each n i = absurd i
good_nodes v root [] (w ∷ ws) each n i = absurd each
good_nodes v root (r ∷ rs) (w ∷ ws) each n (inl same) = subst (λ z. AreGood z.path) same (subst AreGood (sym (same_path v w)) (good_route v r (at_root root) w (λ part i. absurd i) each.0))
good_nodes v root (r ∷ rs) (w ∷ ws) each n (inr i) = good_nodes v root rs ws each.1 n i

pub paths_have_parts : PathsHaveParts
paths_have_parts v root nodes are n i part c = good_nodes v root are.walk.routes are.walks are.walk.each n (included (map (node v) are.walks) n (subst (λ z. Contains z n) are.is i)) part (included n.path part c)
