-- A body by recursion on its descriptors: what the definition says of the whole list, read from one cell on.
use Rattle.std.proofs.Common.{◌≡◌, refl, sym, ◌∙◌, ap, inl, inr, ◌⊎◌, ℕ, ◌+◌, ◌-◌, ◌<◌, ◌≤◌, Bool, true, false, List, [], ◌∷◌, ◌++◌, length, map, cond, ◌&&◌, arith, Option, Some, None, nat_le, nat_lt, replicate, add-zero, zero-add, add_assoc}
use Rattle.std.specs.Prelude.{take_while, suc, flat_map}
use Rattle.std.proofs.lemmas.Bool.{le-leb}
use Rattle.std.proofs.lemmas.List.Sums.{take_while-cons}
use Rattle.std.proofs.lemmas.List.{append_assoc}
use Rattle.std.proofs.Math.Dec.{leb-suc-suc}
use Rattle.udfs_tag.specs.declared.layouts.LongAd.{LongAd}
use Rattle.udfs_space.specs.Places.{View}
use Rattle.udfs_file.specs.Bodies.{Next, no_more, area_at, unread_at, broken, Descriptors, covers, with_start, used, extent_fault, extent_cells, Body, cells, faulty_body, first_of_all, ended_body, body_unless, all_covered, extents_body}
use Rattle.udfs_file.specs.declared.cells.Cell.{Cell}
use Rattle.udfs_file.specs.declared.cells.Cell.TheVariants.{Gap}
use Rattle.udfs_file.specs.declared.faults.NodeFault.{NodeFault}
use Rattle.udfs_file.specs.declared.faults.NodeFault.TheVariants.{Short}

pub le_or_lt : (a b : ℕ) → (a ≤ b) ⊎ (b < a)
le_or_lt a b = grind arith

pub not_le : (a b : ℕ) → b < a → nat_le a b ≡ false
not_le a b h = grind arith

pub not_lt : (a b : ℕ) → b ≤ a → nat_lt a b ≡ false
not_lt a b h = grind arith

pub is_le : (a b : ℕ) → a ≤ b → nat_le a b ≡ true
is_le a b h = le-leb a b h

pub is_lt : (a b : ℕ) → a < b → nat_lt a b ≡ true
is_lt a b h = grind arith

-- cells before a body
abbrev pub onto : List Cell → Body → Body
onto front (cells cs) = cells (front ++ cs)
onto front (faulty_body f) = faulty_body f

-- the body from cell c on
abbrev pub from : View → ℕ → Next → ℕ → List LongAd → Body
from v size behind c [] = cond (nat_le size c) (cells []) (ended_body (size - c) behind [])
from v size behind c (d ∷ ds) = cond (nat_le size c) (cells []) (cond (nat_lt 0 d.length)
    (body_unless (extent_fault v size (c, d)) (onto (extent_cells v size (c, d)) (from v size behind (c + covers d) ds))) (faulty_body Short))

abbrev pub takes : ℕ → ℕ × LongAd → Bool
takes size e = nat_lt e.0 size && nat_lt 0 e.1.length

-- the list of those that are taken, from cell c on
abbrev pub taken_from : ℕ → ℕ → List LongAd → List (ℕ × LongAd)
taken_from size c ds = take_while (takes size) (with_start c ds)

abbrev tells : View → ℕ → Next → ℕ → List LongAd → List (ℕ × LongAd) → Body
tells v size behind c ds taken = body_unless (first_of_all (map (extent_fault v size) taken))
    (cond (nat_le size (c + all_covered taken)) (cells (flat_map (extent_cells v size) taken))
    (cond (nat_lt (length taken) (length ds)) (faulty_body Short)
    (ended_body (size - (c + all_covered taken)) behind (flat_map (extent_cells v size) taken))))

ended-onto : (left : ℕ) (behind : Next) (x y : List Cell) → ended_body left behind (x ++ y) ≡ onto x (ended_body left behind y)
ended-onto left no_more x y = refl
ended-onto left (area_at a) x y = refl
ended-onto left (unread_at n) x y = ap cells (append_assoc x y (replicate left (Gap n)))
ended-onto left (broken f) x y = refl

onto-unless : (x : List Cell) (o : Option NodeFault) (b : Body) → body_unless o (onto x b) ≡ onto x (body_unless o b)
onto-unless x None b = refl
onto-unless x (Some f) b = refl

onto-cond : (x : List Cell) (b : Bool) (p q : Body) → cond b (onto x p) (onto x q) ≡ onto x (cond b p q)
onto-cond x true p q = refl
onto-cond x false p q = refl

-- one more descriptor that is taken
tells-cons : (v : View) (size : ℕ) (behind : Next) (c : ℕ) (d : LongAd) (ds : List LongAd) (taken : List (ℕ × LongAd))
    → tells v size behind c (d ∷ ds) ((c, d) ∷ taken)
    ≡ body_unless (extent_fault v size (c, d)) (onto (extent_cells v size (c, d)) (tells v size behind (c + covers d) ds taken))
tells-cons v size behind c d ds taken = go (extent_fault v size (c, d))
  where
    X : List Cell
    X = extent_cells v size (c, d)

    Y : List Cell
    Y = flat_map (extent_cells v size) taken

    long : ℕ → Bool → Body
    long e shorter = cond (nat_le size e) (cells (X ++ Y)) (cond shorter (faulty_body Short) (ended_body (size - e) behind (X ++ Y)))

    short : ℕ → Bool → Body
    short e shorter = cond (nat_le size e) (cells Y) (cond shorter (faulty_body Short) (ended_body (size - e) behind Y))

    split : (e : ℕ) (shorter : Bool) → long e shorter ≡ onto X (short e shorter)
    split e shorter = ap (λ b. cond (nat_le size e) (cells (X ++ Y)) (cond shorter (faulty_body Short) b)) (ended-onto (size - e) behind X Y)
        ∙ ap (λ b. cond (nat_le size e) (cells (X ++ Y)) b) (onto-cond X shorter (faulty_body Short) (ended_body (size - e) behind Y))
        ∙ onto-cond X (nat_le size e) (cells Y) (cond shorter (faulty_body Short) (ended_body (size - e) behind Y))

    whole : long (c + (covers d + all_covered taken)) (nat_lt (suc (length taken)) (suc (length ds)))
        ≡ onto X (short (c + covers d + all_covered taken) (nat_lt (length taken) (length ds)))
    whole = ap (λ e. long e (nat_lt (suc (length taken)) (suc (length ds)))) (sym (add_assoc c (covers d) (all_covered taken)))
        ∙ ap (long (c + covers d + all_covered taken)) (leb-suc-suc (suc (length taken)) (length ds))
        ∙ split (c + covers d + all_covered taken) (nat_lt (length taken) (length ds))

    go : (o : Option NodeFault)
        → body_unless (first_of_all (o ∷ map (extent_fault v size) taken)) (long (c + (covers d + all_covered taken)) (nat_lt (suc (length taken)) (suc (length ds))))
        ≡ body_unless o (onto X (body_unless (first_of_all (map (extent_fault v size) taken)) (short (c + covers d + all_covered taken) (nat_lt (length taken) (length ds)))))
    go (Some f) = refl
    go None = ap (body_unless (first_of_all (map (extent_fault v size) taken))) whole
        ∙ onto-unless X (first_of_all (map (extent_fault v size) taken)) (short (c + covers d + all_covered taken) (nat_lt (length taken) (length ds)))

-- where nothing is taken
tells-none : (v : View) (size : ℕ) (behind : Next) (c : ℕ) (ds : List LongAd)
    → tells v size behind c ds [] ≡ cond (nat_le size c) (cells []) (cond (nat_lt 0 (length ds)) (faulty_body Short) (ended_body (size - c) behind []))
tells-none v size behind c ds = ap (λ e. cond (nat_le size e) (cells []) (cond (nat_lt 0 (length ds)) (faulty_body Short) (ended_body (size - e) behind []))) (add-zero c)

has_more : (n : ℕ) → nat_lt 0 (suc n) ≡ true
has_more n = is_lt 0 (suc n) (omega arith)

pub tells-from : (v : View) (size : ℕ) (behind : Next) (c : ℕ) (ds : List LongAd)
    → tells v size behind c ds (taken_from size c ds) ≡ from v size behind c ds
tells-from v size behind c [] = tells-none v size behind c [] ∙ ap (λ b. cond (nat_le size c) (cells []) (cond b (faulty_body Short) (ended_body (size - c) behind []))) (not_lt 0 0 (omega arith))
tells-from v size behind c (d ∷ ds) = ap (tells v size behind c (d ∷ ds)) (take_while-cons (takes size) (c, d) (with_start (c + covers d) ds))
    ∙ go (tells-from v size behind (c + covers d) ds) (le_or_lt size c) (nat_lt 0 d.length) refl
  where
    T : List (ℕ × LongAd)
    T = taken_from size (c + covers d) ds

    last : Body
    last = cond (nat_lt 0 d.length) (body_unless (extent_fault v size (c, d)) (onto (extent_cells v size (c, d)) (from v size behind (c + covers d) ds))) (faulty_body Short)

    go : tells v size behind (c + covers d) ds T ≡ from v size behind (c + covers d) ds → (size ≤ c) ⊎ (c < size) → (b : Bool) → nat_lt 0 d.length ≡ b
        → tells v size behind c (d ∷ ds) (cond (takes size (c, d)) ((c, d) ∷ T) []) ≡ cond (nat_le size c) (cells []) last
    go ih (inl h) b e = ap (λ x. tells v size behind c (d ∷ ds) (cond (x && nat_lt 0 d.length) ((c, d) ∷ T) [])) (not_lt c size h)
        ∙ tells-none v size behind c (d ∷ ds)
        ∙ ap (λ x. cond x (cells []) (cond (nat_lt 0 (suc (length ds))) (faulty_body Short) (ended_body (size - c) behind []))) (is_le size c h)
        ∙ sym (ap (λ x. cond x (cells []) last) (is_le size c h))
    go ih (inr h) false e = ap (λ x. tells v size behind c (d ∷ ds) (cond (x && nat_lt 0 d.length) ((c, d) ∷ T) [])) (is_lt c size h)
        ∙ ap (λ x. tells v size behind c (d ∷ ds) (cond x ((c, d) ∷ T) [])) e
        ∙ tells-none v size behind c (d ∷ ds)
        ∙ ap (λ x. cond (nat_le size c) (cells []) (cond x (faulty_body Short) (ended_body (size - c) behind []))) (has_more (length ds))
        ∙ ap (λ x. cond (nat_le size c) (cells []) (cond x (body_unless (extent_fault v size (c, d)) (onto (extent_cells v size (c, d)) (from v size behind (c + covers d) ds))) (faulty_body Short))) (sym e)
    go ih (inr h) true e = ap (λ x. tells v size behind c (d ∷ ds) (cond (x && nat_lt 0 d.length) ((c, d) ∷ T) [])) (is_lt c size h)
        ∙ ap (λ x. tells v size behind c (d ∷ ds) (cond x ((c, d) ∷ T) [])) e
        ∙ tells-cons v size behind c d ds T
        ∙ ap (λ x. body_unless (extent_fault v size (c, d)) (onto (extent_cells v size (c, d)) x)) ih
        ∙ ap (λ x. cond x (body_unless (extent_fault v size (c, d)) (onto (extent_cells v size (c, d)) (from v size behind (c + covers d) ds))) (faulty_body Short)) (sym e)
        ∙ ap (λ x. cond x (cells []) last) (sym (not_le size c h))

-- the definition, read from the first cell on
pub body-from : (v : View) (size : ℕ) (ds : Descriptors) → extents_body v size ds ≡ from v size ds.behind 0 ds.all
unfolding used
body-from v size ds = ap (λ e. body_unless (first_of_all (map (extent_fault v size) (taken_from size 0 ds.all)))
    (cond (nat_le size e) (cells (flat_map (extent_cells v size) (taken_from size 0 ds.all)))
    (cond (nat_lt (length (taken_from size 0 ds.all)) (length ds.all)) (faulty_body Short)
    (ended_body (size - e) ds.behind (flat_map (extent_cells v size) (taken_from size 0 ds.all))))))
    (sym (zero-add (all_covered (taken_from size 0 ds.all))))
    ∙ tells-from v size ds.behind 0 ds.all
