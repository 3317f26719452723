-- What was let go of a node is found again at its address.
use Rattle.std.proofs.Common.{◌≡◌, refl, sym, ◌∙◌, ap, Bool, true, false, List, [], ◌∷◌, ◌++◌, length, map, cond, Option, Some, None}
use Rattle.std.specs.Prelude.{filter_map, flat_map, ◌||◌}
use Rattle.std.specs.List.{list_any, range_with_len}
use Rattle.std.proofs.lemmas.List.{map-append}
use Rattle.udfs_tag.specs.declared.layouts.LongAd.{LongAd}
use Rattle.udfs_space.specs.Sparing.{Space}
use Rattle.udfs_space.specs.Places.{View}
use Rattle.udfs_volume.specs.declared.profiles.Profile.{Profile}
use Rattle.udfs_file.specs.Bodies.{Body, body, cells, faulty_body}
use Rattle.udfs_file.specs.Entries.{EntryFields}
use Rattle.udfs_file.specs.Fronts.{directory_by, entries_by, fault_in}
use Rattle.udfs_file.specs.declared.cells.Cell.{Cell}
use Rattle.udfs_file.specs.declared.directories.DirEntry.{DirEntry}
use Rattle.udfs_file.specs.declared.faults.Kind.{Kind}
use Rattle.udfs_file.specs.declared.faults.Kind.TheVariants as kind
use Rattle.udfs_file.specs.declared.faults.NodeFault.{NodeFault}
use Rattle.udfs_walk.specs.Bare.{bare_standing, bare_entry, bare_node, body_lists, full_entry, full_node, lists_at, lists_of, target_lists, with_lists}
use Rattle.udfs_walk.specs.NodeFields.{NodeFields}
use Rattle.udfs_walk.specs.TornFields.{TornFields}
use Rattle.udfs_walk.specs.Kinds.{kind_by}
use Rattle.udfs_walk.specs.Nodes.{node, node_at, told}
use Rattle.udfs_walk.specs.Routes.{Walked, is_deep, is_loop}
use Rattle.udfs_walk.specs.Standings.{body_standing, cells_standing, depth_or, kind_standing, standing_or_fault}
use Rattle.udfs_walk.specs.Targets.{Icb, Target, bad, unread, entry, target}
use Rattle.udfs_walk.specs.UnnamedEntries.{address_of, entry_alone, icbs_in, names, unnamed, unnamed_at, unnamed_with}
use Rattle.udfs_walk.specs.declared.answers.Unnamed.{Unnamed}
use Rattle.udfs_walk.specs.declared.standings.Standing.{Standing}
use Rattle.udfs_walk.specs.declared.standings.Standing.TheVariants.{Whole, Torn, Loop, Fault}

-- ---- standings
-- with its own lists again it is as it was
again : (s : Standing) (lists : TornFields) → lists ≡ lists_of s → with_lists lists (bare_standing s) ≡ s
again Whole lists e = refl
again (Torn torn) lists e = ap Torn e
again Loop lists e = refl
again (Fault f) lists e = refl

deep_again : (deep : Bool) (es : List DirEntry) (s : Standing) (lists : TornFields) → lists ≡ lists_of s → with_lists lists (bare_standing (depth_or deep es s)) ≡ depth_or deep es s
deep_again true (e ∷ es) s lists h = refl
deep_again true [] s lists h = again s lists h
deep_again false es s lists h = again s lists h

listed_again : (o : Option NodeFault) (deep : Bool) (es : List DirEntry) (s : Standing) (lists : TornFields) → lists ≡ lists_of s
    → with_lists lists (bare_standing (standing_or_fault o (depth_or deep es s))) ≡ standing_or_fault o (depth_or deep es s)
listed_again None deep es s lists h = deep_again deep es s lists h
listed_again (Some f) deep es s lists h = refl

kind_again : (p : Profile) (k : Kind) (deep : Bool) (cs : List Cell) (lists : TornFields) → lists ≡ lists_of (cells_standing cs) → with_lists lists (bare_standing (kind_standing p k deep cs)) ≡ kind_standing p k deep cs
kind_again p kind.Directory deep cs lists h = listed_again (fault_in (directory_by p cs).rest) deep (entries_by p cs) (cells_standing cs) lists h
kind_again p kind.File deep cs lists h = again (cells_standing cs) lists h
kind_again p kind.Link deep cs lists h = again (cells_standing cs) lists h
kind_again p (kind.Other t) deep cs lists h = again (cells_standing cs) lists h
kind_again p kind.Unread deep cs lists h = again (cells_standing cs) lists h

body_again : (p : Profile) (k : Kind) (deep : Bool) (b : Body) (lists : TornFields) → lists ≡ body_lists b → with_lists lists (bare_standing (body_standing p k deep b)) ≡ body_standing p k deep b
body_again p k deep (faulty_body f) lists h = refl
body_again p k deep (cells cs) lists h = kind_again p k deep cs lists h

loop_again : (l : Bool) (s : Standing) (lists : TornFields) → with_lists lists (bare_standing s) ≡ s → with_lists lists (bare_standing (cond l Loop s)) ≡ cond l Loop s
loop_again true s lists h = refl
loop_again false s lists h = h

-- ---- nodes
abbrev node_with_lists : NodeFields → TornFields → NodeFields
node_with_lists n lists = record { path = n.path; icb = n.icb; kind = n.kind; size = n.size; stamp = n.stamp; hidden = n.hidden; standing = with_lists lists (bare_standing n.standing) }

at_target : (v : View) (w : Walked) (t : Target) (lists : TornFields) → lists ≡ target_lists v w.address t → node_with_lists (node_at v w t) lists ≡ node_at v w t
at_target v w (bad f) lists e = refl
at_target v w (unread n) lists e = ap (node_with_lists (node_at v w (unread n))) e
at_target v w (entry e) lists h = ap (told v.profile w e) (loop_again (is_loop w) (body_standing v.profile e.kind (is_deep w) (body v w.address.reference w.address.block e)) lists
    (body_again v.profile e.kind (is_deep w) (body v w.address.reference w.address.block e) lists h))

icb_in : (v : View) (w : Walked) (t : Target) → (node_at v w t).icb ≡ w.address
icb_in v w (bad f) = refl
icb_in v w (unread n) = refl
icb_in v w (entry e) = refl

pub full_again : (v : View) (w : Walked) → full_node v (bare_node (node v w)) ≡ node v w
unfolding node lists_at
full_again v w = at_target v w (target v w.address) (lists_at v (node v w).icb) (ap (λ a. target_lists v a (target v a)) (icb_in v w (target v w.address)))

-- ---- entries that no name leads to
pub lists_is : (v : View) (a : LongAd) (t : Target) → t ≡ target v a → target_lists v a t ≡ lists_at v a
unfolding lists_at
lists_is v a t e = ap (target_lists v a) e

pub lists_entry : (v : View) (a : LongAd) (e : EntryFields) → entry e ≡ target v a → lists_at v a ≡ body_lists (body v a.reference a.block e)
unfolding lists_at
lists_entry v a e t = ap (target_lists v a) (sym t)

-- an entry is told again with what is missing at its address
pub entry_again : (v : View) (icb : Icb) (f : EntryFields) (u : Unnamed) → entry f ≡ target v (address_of icb) → u ≡ bare_entry (unnamed_with v icb f) → full_entry v u ≡ unnamed_with v icb f
entry_again v icb f u t e = ap (full_entry v) e ∙ with_entry
  where
    lists : lists_at v (address_of icb) ≡ body_lists (body v icb.reference icb.block f)
    lists = lists_entry v (address_of icb) f t

    with_entry : full_entry v (bare_entry (unnamed_with v icb f)) ≡ unnamed_with v icb f
    with_entry = λ i. record { reference = icb.reference; block = icb.block; kind = kind_by v.profile f.kind; size = f.size; stamp = f.stamp; standing = body_again v.profile f.kind false (body v icb.reference icb.block f) (lists_at v (address_of icb)) lists i }

-- one entry more
pub entries_more : (v : View) (old new : List Unnamed) (u : Unnamed) → new ≡ old ++ u ∷ [] → map (full_entry v) new ≡ map (full_entry v) old ++ full_entry v u ∷ []
entries_more v old new u e = ap (map (full_entry v)) e ∙ map-append (full_entry v) old (u ∷ [])

-- what nodes name is told by their addresses
named_same : (v : View) (icb : Icb) (ns : List NodeFields) → list_any (names v icb) (map (full_node v) ns) ≡ list_any (names v icb) ns
named_same v icb [] = refl
named_same v icb (n ∷ ns) = ap (λ b. names v icb n || b) (named_same v icb ns)

pub unnamed_same : (v : View) (space : Space) (ns : List NodeFields) → unnamed v space (map (full_node v) ns) ≡ unnamed v space ns
unfolding unnamed_at
unnamed_same v space ns = λ i. flat_map (λ r. filter_map (λ icb. cond (named_same v icb ns i) None (entry_alone v icb (target v (address_of icb)))) (icbs_in space r)) (range_with_len 0 (length space.spans))
