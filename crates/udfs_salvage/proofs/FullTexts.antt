-- The texts of nodes and entries whose blocks and holes are found where they are told.
use Rattle.std.proofs.Common.{◌≡◌, refl, ap, ℕ, ◌<◌, Bool, List, [], ◌∷◌, ◌++◌, length, map, get_or, arith, Option, Some}
use Rattle.std.specs.Prelude.{zero, suc, codes, decimal}
use Rattle.std.proofs.lemmas.List.{length-map}
use Rattle.udfs_osta.specs.declared.stamps.Stamp.{Stamp}
use Rattle.udfs_space.specs.Places.{View}
use Rattle.udfs_file.specs.declared.faults.Kind.{Kind}
use Rattle.udfs_walk.specs.Bare.{full_entry, full_node, lists_at, with_lists}
use Rattle.udfs_walk.specs.NodeFields.{NodeFields}
use Rattle.udfs_walk.specs.TornFields.{TornFields}
use Rattle.udfs_walk.specs.Targets.{icb_at}
use Rattle.udfs_walk.specs.UnnamedEntries.{address_of}
use Rattle.udfs_walk.specs.declared.answers.Unnamed.{Unnamed}
use Rattle.udfs_walk.specs.declared.standings.Standing.{Standing}
use Rattle.udfs_walk.specs.declared.standings.Standing.TheVariants.{Whole, Torn, Loop, Fault}
use Rattle.udfs_salvage.specs.NodeTexts.{kind_text, node_line, path_text, place_text, size_text, standing_name, stamp_column, told_text, unnamed_line}
use Rattle.udfs_salvage.specs.Texts.{line}

-- the lists are no part of the line
pub same_name : (lists : TornFields) (s : Standing) → standing_name (with_lists lists s) ≡ standing_name s
same_name lists Whole = refl
same_name lists (Torn torn) = refl
same_name lists Loop = refl
same_name lists (Fault f) = refl

same_told : (lists : TornFields) (s : Standing) (k : Kind) (size : Option ℕ) (stamp : Option Stamp) → told_text (with_lists lists s) k size stamp ≡ told_text s k size stamp
unfolding told_text
same_told lists s k size stamp = ap (λ t. (codes " " ++ t) ++ kind_text k ++ size_text size ++ stamp_column stamp) (same_name lists s)

pub same_line : (v : View) (i : ℕ) (n : NodeFields) → node_line i (full_node v n) ≡ node_line i n
unfolding node_line
same_line v i n = ap (λ t. line (codes "node " ++ decimal i ++ t ++ path_text n.path)) (same_told (lists_at v n.icb) n.standing n.kind n.size n.stamp)

pub same_place : (v : View) (two : Bool) (u : Unnamed) → unnamed_line two (full_entry v u) ≡ unnamed_line two u
unfolding unnamed_line
same_place v two u = ap (λ t. line (codes "unnamed " ++ place_text two u ++ t)) (same_told (lists_at v (address_of (icb_at u.reference u.block))) u.standing u.kind (Some u.size) (Some u.stamp))

-- ---- the place in a list of such
pub full_length : {A B : Type 0} (f : A → B) (xs : List A) (i : ℕ) → i < length xs → i < length (map f xs)
full_length f xs i h = let e : length (map f xs) ≡ length xs = length-map xs f in omega (arith, e, h)

pub full_at : {A B : Type 0} (f : A → B) (xs : List A) (i : ℕ) (x : A) → i < length xs → x ≡ get_or xs i x → f x ≡ get_or (map f xs) i (f x)
full_at f [] i x h e = absurd (let z : ⊥ = omega (arith, h) in z)
full_at f (y ∷ ys) zero x h e = ap f e
full_at f (y ∷ ys) (suc i) x h e = full_at f ys i x (omega (arith, h)) e
