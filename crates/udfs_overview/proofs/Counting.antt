-- What is counted of nodes: one node more, and nodes whose lists were let go.
use Rattle.std.proofs.Common.{◌≡◌, refl, ap, ◌∙◌, arith, ℕ, ◌+◌, ◌-◌, ◌^◌, ◌<◌, Bool, true, false, not, ◌&&◌, List, [], ◌∷◌, cond, length, map, sym, take, get_or, Option, Some, None, nat_lt}
use Rattle.std.specs.Prelude.{count_by, filter_map, fold, is_none, is_some, min, unwrap_or}
use Rattle.std.specs.List.{cons_option}
use Rattle.std.proofs.lemmas.List.Sums.{sum_by-cons, sum_by_more}
use Rattle.udfs_lattice.specs.Volumes.{Blocks}
use Rattle.udfs_volume.specs.Answers.{Answer, found, holes, faulty}
use Rattle.udfs_space.specs.Places.{View, view}
use Rattle.udfs_file.specs.declared.faults.Kind.{Kind}
use Rattle.udfs_file.specs.declared.faults.Kind.TheVariants as kind
use Rattle.udfs_walk.specs.Bare.{full_node, lists_at, with_lists}
use Rattle.udfs_walk.specs.NodeFields.{NodeFields}
use Rattle.udfs_walk.specs.TornFields.{TornFields}
use Rattle.udfs_walk.specs.declared.standings.Standing.{Standing}
use Rattle.udfs_walk.specs.declared.standings.Standing.TheVariants.{Whole, Torn, Loop, Fault}
use Rattle.udfs_salvage.specs.Found.{Found}
use Rattle.udfs_salvage.specs.Surveys.{full_nodes}
use Rattle.udfs_overview.specs.declared.tallies.Tally.{Tally}
use Rattle.udfs_overview.specs.declared.tallies.NodeSort.{NodeSort}
use Rattle.udfs_overview.specs.declared.tallies.NodeSort.TheVariants as sort
use Rattle.udfs_overview.specs.LeftOut.{left_out_by, left_out_type, left_out_types, other_type}
use Rattle.udfs_overview.specs.Tallies.{at_most_128_bits, bytes_of, count_of, damaged_bytes, damaged_count, damaged_lost, disputed_count, is_aside, is_left_out, is_node_of, is_of, is_other, node_count, or_zero, tally_of, tally_with, torn_files, torn_part}
use Rattle.udfs_overview.specs.TornFiles.{lost_in}
use Rattle.udfs_overview.specs.TornRows.{TornPart}
use Rattle.udfs_overview.specs.declared.tallies.TornFile.{TornFile}

-- the lists do not say of which sort a node is
pub same_of : (a : NodeSort) (lists : TornFields) (s : Standing) (k : Kind) → is_of a (with_lists lists s) k ≡ is_of a s k
same_of a lists Whole k = refl
same_of sort.WholeFile lists (Torn torn) k = refl
same_of sort.TornFile lists (Torn torn) k = refl
same_of sort.Unread lists (Torn torn) k = refl
same_of sort.WholeFolder lists (Torn torn) k = refl
same_of sort.TornFolder lists (Torn torn) k = refl
same_of sort.Other lists (Torn torn) k = refl
same_of sort.Faulty lists (Torn torn) k = refl
same_of sort.Loop lists (Torn torn) k = refl
same_of a lists Loop k = refl
same_of a lists (Fault f) k = refl

-- a sum over changed elements, each of which counts as before
pub sum_same : (w : NodeFields → ℕ) (g : NodeFields → NodeFields) → ((n : NodeFields) → w (g n) ≡ w n) → (a : ℕ) (ns : List NodeFields)
    → fold (λ b n. b + w n) a (map g ns) ≡ fold (λ b n. b + w n) a ns
sum_same w g same a [] = refl
sum_same w g same a (n ∷ ns) = ap (λ x. fold (λ b n. b + w n) (a + x) (map g ns)) (same n) ∙ sum_same w g same (a + w n) ns

-- how many nodes of a sort there are is told without their blocks and holes
pub count_viewed : (v : View) (a : NodeSort) (ns : List NodeFields) → count_of a (map (full_node v) ns) ≡ count_of a ns
count_viewed v a ns =
    sum_same (λ n. cond (is_node_of a n) 1 0) (full_node v) (λ n. ap (λ b. cond b 1 0) (same_of a (lists_at v n.icb) n.standing n.kind)) 0 ns

pub count_full : (M : Blocks) (answer : Answer Found) (a : NodeSort) (ns : List NodeFields) → count_of a (full_nodes M answer ns) ≡ count_of a ns
count_full M (found f) a ns =
    sum_same (λ n. cond (is_node_of a n) 1 0) (full_node (view M f.space)) (λ n. ap (λ b. cond b 1 0) (same_of a (lists_at (view M f.space) n.icb) n.standing n.kind)) 0 ns
count_full M (holes listed) a ns = refl
count_full M (faulty fault) a ns = refl

pub bytes_full : (M : Blocks) (answer : Answer Found) (a : NodeSort) (ns : List NodeFields) → bytes_of a (full_nodes M answer ns) ≡ bytes_of a ns
bytes_full M (found f) a ns =
    sum_same (λ n. cond (is_node_of a n) (or_zero n.size) 0) (full_node (view M f.space)) (λ n. ap (λ b. cond b (or_zero n.size) 0) (same_of a (lists_at (view M f.space) n.icb) n.standing n.kind)) 0 ns
bytes_full M (holes listed) a ns = refl
bytes_full M (faulty fault) a ns = refl

-- so it is with those that are left out
left_same : (lists : TornFields) (s : Standing) (k : Kind) (size : Option ℕ) → left_out_by (with_lists lists s) k size ≡ left_out_by s k size
left_same lists Whole k size = refl
left_same lists (Torn torn) k size = refl
left_same lists Loop k size = refl
left_same lists (Fault f) k size = refl

-- and with their types
types_same : (v : View) (ns : List NodeFields) → filter_map left_out_type (map (full_node v) ns) ≡ filter_map left_out_type ns
types_same v [] = refl
types_same v (n ∷ ns) = λ i. cons_option (left_same (lists_at v n.icb) n.standing n.kind n.size i) (types_same v ns i)

pub types_full : (M : Blocks) (answer : Answer Found) (ns : List NodeFields) → left_out_types (full_nodes M answer ns) ≡ left_out_types ns
unfolding left_out_types
types_full M (found f) ns = types_same (view M f.space) ns
types_full M (holes listed) ns = refl
types_full M (faulty fault) ns = refl

pub aside_full : (M : Blocks) (answer : Answer Found) (ns : List NodeFields) → count_by is_aside (full_nodes M answer ns) ≡ count_by is_aside ns
aside_full M (found f) ns = let v : View = view M f.space in
    sum_same (λ n. cond (is_aside n) 1 0) (full_node v) (λ n i. cond (same_of sort.Other (lists_at v n.icb) n.standing n.kind i && is_none (left_same (lists_at v n.icb) n.standing n.kind n.size i)) 1 0) 0 ns
aside_full M (holes listed) ns = refl
aside_full M (faulty fault) ns = refl

pub left_full : (M : Blocks) (answer : Answer Found) (ns : List NodeFields) → count_by is_left_out (full_nodes M answer ns) ≡ count_by is_left_out ns
left_full M (found f) ns = let v : View = view M f.space in
    sum_same (λ n. cond (is_left_out n) 1 0) (full_node v) (λ n i. cond (is_some (left_same (lists_at v n.icb) n.standing n.kind n.size i)) 1 0) 0 ns
left_full M (holes listed) ns = refl
left_full M (faulty fault) ns = refl

-- a sum over changed elements is one over the elements
pub sum_mapped : {A B : Type 0} (w : B → ℕ) (g : A → B) (a : ℕ) (xs : List A) → fold (λ b x. b + w x) a (map g xs) ≡ fold (λ b x. b + w (g x)) a xs
sum_mapped w g a [] = refl
sum_mapped w g a (x ∷ xs) = sum_mapped w g (a + w (g x)) xs

-- one torn file more
pub lost_more : (files : List TornFile) (i : ℕ) (d : TornFile) → i < length files
    → min (at_most_128_bits (lost_in (take i files)) + cond (get_or files i d).disputed 0 (get_or files i d).lost) (2 ^ 128 - 1) ≡ at_most_128_bits (lost_in (take (i + 1) files))
lost_more files i d l =
    let more = sum_by_more (λ (f : TornFile). cond f.disputed 0 f.lost) files i d l in
    omega (arith, more)

one_or_other : (b : Bool) → cond (not b) 1 0 + cond b 1 0 ≡ 1
one_or_other true = refl
one_or_other false = refl

one_more : (torn : Bool) (f : TornPart) (fs : List TornPart) (m : ℕ) → damaged_count fs + disputed_count fs ≡ m
    → damaged_count (cons_option (cond torn (Some f) None) fs) + disputed_count (cons_option (cond torn (Some f) None) fs) ≡ cond torn 1 0 + m
one_more true f fs m e =
    omega (
      arith,
      sum_by-cons (λ (f : TornPart). cond (not f.disputed) 1 0) f fs,
      sum_by-cons (λ (f : TornPart). cond f.disputed 1 0) f fs,
      one_or_other f.disputed,
      e,
    )
one_more false f fs m e = omega (arith, e)

-- a torn file is disputed or not
both_kinds : (blocks : Blocks) (ns : List NodeFields) → damaged_count (torn_files blocks ns) + disputed_count (torn_files blocks ns) ≡ count_of sort.TornFile ns
unfolding torn_files
both_kinds blocks [] = refl
both_kinds blocks (n ∷ ns) =
    one_more (is_node_of sort.TornFile n) (torn_part blocks n) (torn_files blocks ns) (count_of sort.TornFile ns) (both_kinds blocks ns)
    ∙ sym (sum_by-cons (λ n. cond (is_node_of sort.TornFile n) 1 0) n ns)

-- each node is of one sort
each_once : (s : Standing) (k : Kind)
    → cond (is_of sort.WholeFile s k) 1 0 + cond (is_of sort.TornFile s k) 1 0 + cond (is_of sort.Unread s k) 1 0 + cond (is_of sort.WholeFolder s k) 1 0
    + cond (is_of sort.TornFolder s k) 1 0 + cond (is_of sort.Other s k) 1 0 + cond (is_of sort.Faulty s k) 1 0 + cond (is_of sort.Loop s k) 1 0 ≡ 1
each_once Whole kind.Directory = refl
each_once Whole kind.File = refl
each_once Whole kind.Link = refl
each_once Whole (kind.Other t) = refl
each_once Whole kind.Unread = refl
each_once (Torn torn) kind.Directory = refl
each_once (Torn torn) kind.File = refl
each_once (Torn torn) kind.Link = refl
each_once (Torn torn) (kind.Other t) = refl
each_once (Torn torn) kind.Unread = refl
each_once Loop k = refl
each_once (Fault f) k = refl

abbrev weight : NodeSort → NodeFields → ℕ
weight a n = cond (is_node_of a n) 1 0

-- what is neither file nor directory is left out, or stands aside
split : (k : Kind) (some : Bool) → cond (is_other k && is_none (cond some (other_type k) None)) 1 0 + cond (is_some (cond some (other_type k) None)) 1 0 ≡ cond (is_other k) 1 0
split kind.Directory true = refl
split kind.Directory false = refl
split kind.File true = refl
split kind.File false = refl
split kind.Link true = refl
split kind.Link false = refl
split (kind.Other t) true = refl
split (kind.Other t) false = refl
split kind.Unread true = refl
split kind.Unread false = refl

one_of_both : (s : Standing) (k : Kind) (size : Option ℕ)
    → cond (is_of sort.Other s k && is_none (left_out_by s k size)) 1 0 + cond (is_some (left_out_by s k size)) 1 0 ≡ cond (is_of sort.Other s k) 1 0
one_of_both Whole k size = split k (nat_lt 0 (unwrap_or size 0))
one_of_both (Torn torn) k size = split k (nat_lt 0 (unwrap_or size 0))
one_of_both Loop k size = refl
one_of_both (Fault f) k size = refl

-- so all sorts together are all nodes
all_counted : (ns : List NodeFields)
    → count_of sort.WholeFile ns + count_of sort.TornFile ns + count_of sort.Unread ns + count_of sort.WholeFolder ns
    + count_of sort.TornFolder ns + count_by is_aside ns + count_by is_left_out ns + count_of sort.Faulty ns + count_of sort.Loop ns ≡ length ns
all_counted [] = refl
all_counted (n ∷ ns) =
    omega (
      arith,
      sum_by-cons (weight sort.WholeFile) n ns,
      sum_by-cons (weight sort.TornFile) n ns,
      sum_by-cons (weight sort.Unread) n ns,
      sum_by-cons (weight sort.WholeFolder) n ns,
      sum_by-cons (weight sort.TornFolder) n ns,
      sum_by-cons (λ n. cond (is_aside n) 1 0) n ns,
      sum_by-cons (λ n. cond (is_left_out n) 1 0) n ns,
      one_of_both n.standing n.kind n.size,
      sum_by-cons (weight sort.Faulty) n ns,
      sum_by-cons (weight sort.Loop) n ns,
      each_once n.standing n.kind,
      all_counted ns,
    )

pub tally_counts_all : (t : Tally) (blocks : Blocks) (ns : List NodeFields) → t ≡ tally_of blocks ns → node_count t ≡ length ns
unfolding tally_of tally_with
tally_counts_all t blocks ns e = ap node_count e ∙ omega (arith, all_counted ns, both_kinds blocks ns)

-- the lists do not say what is counted beside the torn files
pub tally_full : (M : Blocks) (answer : Answer Found) (torn : List TornPart) (ns : List NodeFields) → tally_with torn (full_nodes M answer ns) ≡ tally_with torn ns
unfolding tally_with
tally_full M answer torn ns = λ j. record {
  whole_files = count_full M answer sort.WholeFile ns j;
  whole_bytes = bytes_full M answer sort.WholeFile ns j;
  torn_files = damaged_count torn;
  torn_bytes = damaged_bytes torn;
  lost_bytes = at_most_128_bits (damaged_lost torn);
  disputed = disputed_count torn;
  unread = count_full M answer sort.Unread ns j;
  whole_folders = count_full M answer sort.WholeFolder ns j;
  torn_folders = count_full M answer sort.TornFolder ns j;
  others = aside_full M answer ns j;
  left_out = left_full M answer ns j;
  faulty = count_full M answer sort.Faulty ns j;
  loops = count_full M answer sort.Loop ns j;
}
