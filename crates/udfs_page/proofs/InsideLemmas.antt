-- What is counted of the nodes inside a folder is the same whether they have their blocks and holes or not.
use Rattle.std.proofs.Common.{◌≡◌, ◌∙◌, ◌+◌, refl, sym, ap, ℕ, Bool, true, false, List, [], ◌∷◌, cond, map}
use Rattle.std.specs.Prelude.{fold, if◌then◌else◌}
use Rattle.udfs_file.specs.declared.faults.Kind.{Kind}
use Rattle.udfs_space.specs.Places.{View}
use Rattle.udfs_walk.specs.Bare.{full_node, lists_at, with_lists}
use Rattle.udfs_walk.specs.NodeFields.{NodeFields}
use Rattle.udfs_walk.specs.TornFields.{TornFields}
use Rattle.udfs_walk.specs.declared.standings.Standing.{Standing}
use Rattle.udfs_walk.specs.declared.standings.Standing.TheVariants.{Whole, Torn, Loop, Fault}
use Rattle.udfs_page.specs.Insides.{count_part, inside, inside_of, is_deeper, is_part}
use Rattle.udfs_page.specs.declared.insides.Part.{Part}
use Rattle.udfs_page.specs.declared.insides.Part.TheVariants as part

-- the lists do not say of which part a node is
part_same : (p : Part) (lists : TornFields) (s : Standing) (k : Kind) → is_part p (with_lists lists s) k ≡ is_part p s k
part_same p lists Whole k = refl
part_same part.Entry lists (Torn torn) k = refl
part_same part.Whole lists (Torn torn) k = refl
part_same part.Torn lists (Torn torn) k = refl
part_same part.Unread lists (Torn torn) k = refl
part_same part.Amiss lists (Torn torn) k = refl
part_same p lists Loop k = refl
part_same p lists (Fault f) k = refl

-- a sum over changed elements, each of which counts as before
sum_same : (w : NodeFields → ℕ) (g : NodeFields → NodeFields) → ((n : NodeFields) → w (g n) ≡ w n) → (a : ℕ) (ns : List NodeFields)
    → fold (λ b n. b + w n) a (map g ns) ≡ fold (λ b n. b + w n) a ns
sum_same w g same a [] = refl
sum_same w g same a (n ∷ ns) = ap (λ x. fold (λ b n. b + w n) (a + x) (map g ns)) (same n) ∙ sum_same w g same (a + w n) ns

count_same : (v : View) (p : Part) (ns : List NodeFields) → count_part p (map (full_node v) ns) ≡ count_part p ns
count_same v p ns = sum_same (λ n. cond (is_part p n.standing n.kind) 1 0) (full_node v) (λ n. ap (λ b. cond b 1 0) (part_same p (lists_at v n.icb) n.standing n.kind)) 0 ns

-- nor whether it is inside
one_or_none : (b : Bool) (f : NodeFields → NodeFields) (n : NodeFields) (xs ys : List NodeFields) → xs ≡ map f ys → (if b then f n ∷ xs else []) ≡ map f (if b then n ∷ ys else [])
one_or_none true f n xs ys e = ap (λ l. f n ∷ l) e
one_or_none false f n xs ys e = refl

inside_full : (v : View) (d : ℕ) (ns : List NodeFields) → inside d (map (full_node v) ns) ≡ map (full_node v) (inside d ns)
inside_full v d [] = refl
inside_full v d (n ∷ ns) = one_or_none (is_deeper d n) (full_node v) n (inside d (map (full_node v) ns)) (inside d ns) (inside_full v d ns)

pub counts_same : (v : View) (ns : List NodeFields) → inside_of ns ≡ inside_of (map (full_node v) ns)
unfolding inside_of
counts_same v ns = λ i. record {
  entries = sym (count_same v part.Entry ns) i;
  whole = sym (count_same v part.Whole ns) i;
  torn = sym (count_same v part.Torn ns) i;
  unread = sym (count_same v part.Unread ns) i;
  amiss = sym (count_same v part.Amiss ns) i;
}

pub inside_same : (v : View) (d : ℕ) (ns : List NodeFields) → inside_of (inside d ns) ≡ inside_of (inside d (map (full_node v) ns))
inside_same v d ns = counts_same v (inside d ns) ∙ ap inside_of (sym (inside_full v d ns))
