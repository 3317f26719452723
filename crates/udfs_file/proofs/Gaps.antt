-- A cell is missing exactly if a block that it needs is not known.
use Rattle.std.proofs.Common.{◌≡◌, ◌≢◌, refl, sym, ◌∙◌, ap, subst, inl, inr, ◌⊎◌, ℕ, ◌+◌, ◌-◌, ◌/◌, ◌%◌, ◌<◌, ◌≤◌, min, Bool, true, false, List, [], ◌∷◌, ◌++◌, length, map, cond, arith, Option, Some, None, slice_get, nat_eq, nat_lt, replicate}
use Rattle.std.specs.Prelude.{zero, suc, option_map}
use Rattle.std.specs.List.{range_with_len}
use Rattle.std.proofs.lemmas.Bool.{eqb-true}
use Rattle.udfs_lattice.specs.States.{is_known}
use Rattle.udfs_lattice.specs.States.{State}
use Rattle.udfs_lattice.specs.declared.facts.Fact.TheVariants.{Unknown, Known, Conflict}
use Rattle.udfs_tag.specs.declared.layouts.LongAd.{LongAd}
use Rattle.udfs_space.specs.Places.{View, IsPartOf}
use Rattle.udfs_file.specs.Bodies.{Next, no_more, area_at, unread_at, broken, covers, cells_in, cell_in, cell_at, extent_cells, recorded_cell, cells, ended_body}
use Rattle.udfs_file.specs.declared.cells.Cell.{Cell}
use Rattle.udfs_file.specs.declared.cells.Cell.TheVariants.{Byte, Gap}
use Rattle.std.proofs.lemmas.List.{length-replicate}
use Rattle.std.proofs.lemmas.Option.{slice_get_within}
use Rattle.udfs_file.specs.Laws.{IsMissingAt}
use Rattle.udfs_file.specs.declared.faults.NodeFault.TheVariants.{Short}
use Rattle.udfs_file.proofs.BodyFrom.{from, le_or_lt}
use Rattle.udfs_file.proofs.Parts.{Taken, taken-inv, from-done, from-end, cells-same, no_cells, length-extent}
use Rattle.udfs_file.proofs.ChainFits.{Fit, FitCut, FitBroken, IsFollowed}

-- block n holds cell k of this extent, or the continuation that it names
abbrev pub HoldsCell : View → ℕ → ℕ × LongAd → ℕ → ℕ → Type 0
HoldsCell w size e k n = (e.1.kind ≡ 0) × (e.0 ≤ k) × (k < e.0 + cells_in size e) × (w.place e.1.reference (e.1.block + (k - e.0) / 2048) ≡ Some n)

abbrev pub Continues : View → ℕ × LongAd → ℕ → ℕ → Type 0
Continues w e k n = (e.1.kind ≡ 3) × (e.0 ≤ k) × (w.place e.1.reference e.1.block ≡ Some n)

-- cell k needs block n, by the descriptors from cell c on
abbrev pub NeedIn : View → ℕ → ℕ → List LongAd → ℕ → ℕ → Type 0
NeedIn w size c [] k n = ⊥
NeedIn w size c (d ∷ ds) k n = (c < size) × (nat_lt 0 d.length ≡ true) × ((HoldsCell w size (c, d) k n ⊎ Continues w (c, d) k n) ⊎ NeedIn w size (c + covers d) ds k n)

need_from : (w : View) (size c : ℕ) (ds : List LongAd) (k n : ℕ) → NeedIn w size c ds k n → c ≤ k
need_from w size c [] k n h = absurd h
need_from w size c (d ∷ ds) k n (a, b, inl (inl h)) = h.1
need_from w size c (d ∷ ds) k n (a, b, inl (inr h)) = h.1
need_from w size c (d ∷ ds) k n (a, b, inr h) = let q : c + covers d ≤ k = need_from w size (c + covers d) ds k n h in omega (arith, q)

-- lists at a place
get_range : (f : ℕ → Cell) (a m j : ℕ) → j < m → slice_get (map f (range_with_len a m)) j ≡ Some (f (a + j))
get_range f a zero j h = absurd (let x : ⊥ = omega arith in x)
get_range f a (suc m) zero h = ap (λ x. Some (f x)) (let e : a ≡ a + 0 = omega arith in e)
get_range f a (suc m) (suc j) h = get_range f (a + 1) m j (omega arith) ∙ ap (λ x. Some (f x)) (let e : a + 1 + j ≡ a + suc j = omega arith in e)

get_replicate : (x : Cell) (m j : ℕ) → j < m → slice_get (replicate m x) j ≡ Some x
get_replicate x zero j h = absurd (let z : ⊥ = omega arith in z)
get_replicate x (suc m) zero h = refl
get_replicate x (suc m) (suc j) h = get_replicate x m j (omega arith)

get_left : (xs ys : List Cell) (j : ℕ) → j < length xs → slice_get (xs ++ ys) j ≡ slice_get xs j
get_left [] ys j h = absurd (let z : ⊥ = omega arith in z)
get_left (x ∷ xs) ys zero h = refl
get_left (x ∷ xs) ys (suc j) h = get_left xs ys j (omega arith)

get_right : (xs ys : List Cell) (j : ℕ) → length xs ≤ j → slice_get (xs ++ ys) j ≡ slice_get ys (j - length xs)
get_right [] ys j h = ap (slice_get ys) (let e : j ≡ j - 0 = omega arith in e)
get_right (x ∷ xs) ys zero h = absurd (let z : ⊥ = omega arith in z)
get_right (x ∷ xs) ys (suc j) h = get_right xs ys j (omega arith) ∙ ap (slice_get ys) (let e : j - length xs ≡ suc j - suc (length xs) = omega arith in e)

-- a recorded cell is missing exactly if its block is not known
record CellGap (s w : View) (d : LongAd) (i n : ℕ) : Type 0 where
  pub place : w.place d.reference (d.block + i / 2048) ≡ Some n
  pub unknown : is_known (s.blocks n) ≡ false

cell_by : View → LongAd → ℕ → Option ℕ → Cell
cell_by v d i o = cell_at (d.block + i / 2048) (i % 2048) (option_map (λ n. (n, v.blocks n)) o)

placed_cell : (s w : View) → IsPartOf s w → (d : LongAd) (i : ℕ) (o : Option ℕ) → w.place d.reference (d.block + i / 2048) ≡ o → recorded_cell s d.reference d.block i ≡ cell_by s d i o
unfolding cell_by
placed_cell s w p d i o e = ap (cell_by s d i) (p.places d.reference (d.block + i / 2048) ∙ e)

missing-same : (m n : ℕ) → Gap m ≡ Gap n → m ≡ n
missing-same m n e = cc

cell_gap : (s w : View) → IsPartOf s w → (d : LongAd) (i n : ℕ) → recorded_cell s d.reference d.block i ≡ Gap n → CellGap s w d i n
unfolding cell_by
cell_gap s w p d i n e = go (w.place d.reference (d.block + i / 2048)) refl
  where
    state : (m : ℕ) → w.place d.reference (d.block + i / 2048) ≡ Some m → (x : State) → s.blocks m ≡ x → cell_in (d.block + i / 2048) m (i % 2048) x ≡ Gap n → CellGap s w d i n
    state m f Unknown q t = let same : m ≡ n = missing-same m n t in record { place = f ∙ ap Some same; unknown = ap (λ z. is_known (s.blocks z)) (sym same) ∙ ap is_known q }
    state m f (Known bytes) q t = absurd (let z : ⊥ = cc in z)
    state m f Conflict q t = let same : m ≡ n = missing-same m n t in record { place = f ∙ ap Some same; unknown = ap (λ z. is_known (s.blocks z)) (sym same) ∙ ap is_known q }

    go : (o : Option ℕ) → w.place d.reference (d.block + i / 2048) ≡ o → CellGap s w d i n
    go None f = absurd (let t : Byte 0 None ≡ Gap n = sym (placed_cell s w p d i None f) ∙ e in let z : ⊥ = cc in z)
    go (Some m) f = state m f (s.blocks m) refl (sym (placed_cell s w p d i (Some m) f) ∙ e)

gap_cell : (s w : View) → IsPartOf s w → (d : LongAd) (i n : ℕ) → w.place d.reference (d.block + i / 2048) ≡ Some n → is_known (s.blocks n) ≡ false → recorded_cell s d.reference d.block i ≡ Gap n
unfolding cell_by
gap_cell s w p d i n e u = placed_cell s w p d i (Some n) e ∙ go (s.blocks n) refl
  where
    go : (x : State) → s.blocks n ≡ x → cell_in (d.block + i / 2048) n (i % 2048) (s.blocks n) ≡ Gap n
    go Unknown q = ap (cell_in (d.block + i / 2048) n (i % 2048)) q
    go (Known bytes) q = absurd (let t : is_known (s.blocks n) ≡ true = ap is_known q in let z : ⊥ = cc in z)
    go Conflict q = ap (cell_in (d.block + i / 2048) n (i % 2048)) q

-- the cells of one extent
extent_gap : (s w : View) → IsPartOf s w → (size c : ℕ) (d : LongAd) (j n : ℕ) → j < cells_in size (c, d) → slice_get (extent_cells s size (c, d)) j ≡ Some (Gap n)
    → (is_known (s.blocks n) ≡ false) × HoldsCell w size (c, d) (c + j) n
extent_gap s w p size c d j n h m = go (nat_eq d.kind 0) refl m
  where
    N : ℕ
    N = cells_in size (c, d)

    go : (b : Bool) → nat_eq d.kind 0 ≡ b → slice_get (cond b (map (recorded_cell s d.reference d.block) (range_with_len 0 (cells_in size (c, d)))) (replicate (cells_in size (c, d)) (Byte 0 None))) j ≡ Some (Gap n)
        → (is_known (s.blocks n) ≡ false) × HoldsCell w size (c, d) (c + j) n
    go true e q = let t : Some (recorded_cell s d.reference d.block (0 + j)) ≡ Some (Gap n) = sym (get_range (recorded_cell s d.reference d.block) 0 (cells_in size (c, d)) j h) ∙ q in
        let g : CellGap s w d (0 + j) n = cell_gap s w p d (0 + j) n cc in
        (g.unknown, (eqb-true d.kind 0 e, omega arith, omega (arith, h), ap (λ z. w.place d.reference (d.block + z / 2048)) (let z : c + j - c ≡ 0 + j = omega arith in z) ∙ g.place))
    go false e q = absurd (let t : Some (Byte 0 None) ≡ Some (Gap n) = sym (get_replicate (Byte 0 None) (cells_in size (c, d)) j h) ∙ q in let z : ⊥ = cc in z)

gap_extent : (s w : View) → IsPartOf s w → (size c : ℕ) (d : LongAd) (j n : ℕ) → j < cells_in size (c, d) → HoldsCell w size (c, d) (c + j) n → is_known (s.blocks n) ≡ false
    → IsMissingAt (extent_cells s size (c, d)) j
gap_extent s w p size c d j n h holds u = (
  n,
  ap (λ b. slice_get (cond b (map (recorded_cell s d.reference d.block) (range_with_len 0 (cells_in size (c, d)))) (replicate (cells_in size (c, d)) (Byte 0 None))) j) (is_zero d.kind holds.0)
      ∙ get_range (recorded_cell s d.reference d.block) 0 (cells_in size (c, d)) j h
      ∙ ap Some (gap_cell s w p d (0 + j) n (ap (λ z. w.place d.reference (d.block + z / 2048)) (let z : 0 + j ≡ c + j - c = omega arith in z) ∙ holds.3) u),
)
  where
    is_zero : (k : ℕ) → k ≡ 0 → nat_eq k 0 ≡ true
    is_zero k e = ap (λ x. nat_eq x 0) e

-- the gaps of a part, from cell c on
pub record GapsAt (s w : View) (size c : ℕ) (all : List LongAd) (part : List Cell) (j : ℕ) : Type 0 where
  pub needed : (n : ℕ) → slice_get part j ≡ Some (Gap n) → (is_known (s.blocks n) ≡ false) × NeedIn w size c all (c + j) n
  pub open_if : (n : ℕ) → is_known (s.blocks n) ≡ false → c + j < size → NeedIn w size c all (c + j) n → IsMissingAt part j

done_gaps : (s w : View) (size c : ℕ) (all : List LongAd) (part : List Cell) (j : ℕ) → size ≤ c → part ≡ [] → GapsAt s w size c all part j
done_gaps s w size c all part j h e = record {
  needed = λ n m. absurd (let t : None ≡ Some (Gap n) = sym (ap (λ x. slice_get x j) e) ∙ m in let z : ⊥ = cc in z);
  open_if = λ n u l need. absurd (let z : ⊥ = omega (arith, h, l) in z);
}

no_cover : (d : LongAd) → d.kind ≡ 3 → covers d ≡ 0
no_cover d k = ap (λ b. cond b 0 d.length) (let e : nat_eq d.kind 3 ≡ true = ap (λ x. nat_eq x 3) k in e)

cells_cover : (size c : ℕ) (d : LongAd) → c + covers d < size → cells_in size (c, d) ≡ covers d
cells_cover size c d h = go (covers d) (size - c) (omega arith)
  where
    go : (a b : ℕ) → a ≤ b → min a b ≡ a
    go a b h = grind arith

cells_rest : (size c : ℕ) (d : LongAd) → size ≤ c + covers d → size - c ≤ cells_in size (c, d)
cells_rest size c d h = go (covers d) (size - c) (omega arith)
  where
    go : (a b : ℕ) → b ≤ a → b ≤ min a b
    go a b h = grind arith

cells_most : (size c : ℕ) (d : LongAd) → cells_in size (c, d) ≤ covers d
cells_most size c d = go (covers d) (size - c)
  where
    go : (a b : ℕ) → min a b ≤ a
    go a b = grind arith

not_ended : {A : Type 0} (left : ℕ) (behind : Next) (whole : List Cell) → ((n : ℕ) → behind ≢ unread_at n) → ended_body left behind [] ≡ cells whole → A
not_ended left no_more whole h e = no_cells Short whole e
not_ended left (area_at a) whole h e = no_cells Short whole e
not_ended left (unread_at n) whole h e = absurd (h n refl)
not_ended left (broken f) whole h e = no_cells f whole e

clash : {A : Type 0} (b : Bool) → b ≡ true → b ≡ false → A
clash b t f = absurd (let z : ⊥ = cc in z)

-- where a descriptor is followed by others
on_gaps : (s w : View) → IsPartOf s w → (size c : ℕ) (d : LongAd) (ds : List LongAd) (x part rest : List Cell) (j : ℕ) → c < size → nat_lt 0 d.length ≡ true
    → IsFollowed s w d → x ≡ extent_cells s size (c, d) → x ++ rest ≡ part → (size ≤ c + covers d → rest ≡ [])
    → ((i : ℕ) → GapsAt s w size (c + covers d) ds rest i) → GapsAt s w size c (d ∷ ds) part j
on_gaps s w p size c d ds x part rest j h long followed ex ep none ih = go (le_or_lt L j)
  where
    L : ℕ
    L = cells_in size (c, d)

    x_long : length x ≡ L
    x_long = ap length ex ∙ length-extent s size (c, d)

    not_continued : {A : Type 0} (n : ℕ) → is_known (s.blocks n) ≡ false → Continues w (c, d) (c + j) n → A
    not_continued n u q = clash (is_known (s.blocks n)) (followed q.0 n q.2) u

    inside : j < L → GapsAt s w size c (d ∷ ds) part j
    inside l = record {
      needed = λ n m. let g : (is_known (s.blocks n) ≡ false) × HoldsCell w size (c, d) (c + j) n = extent_gap s w p size c d j n l (sym here ∙ m) in
          (g.0, (h, long, inl (inl g.1)));
      open_if = λ n u k need. open_by n u need.2;
    }
      where
        here : slice_get part j ≡ slice_get (extent_cells s size (c, d)) j
        here = ap (λ z. slice_get z j) (sym ep) ∙ get_left x rest j (omega (arith, l, x_long)) ∙ ap (λ z. slice_get z j) ex

        open_by : (n : ℕ) → is_known (s.blocks n) ≡ false → (HoldsCell w size (c, d) (c + j) n ⊎ Continues w (c, d) (c + j) n) ⊎ NeedIn w size (c + covers d) ds (c + j) n → IsMissingAt part j
        open_by n u (inl (inl q)) = let m : IsMissingAt (extent_cells s size (c, d)) j = gap_extent s w p size c d j n l q u in (m.0, here ∙ m.1)
        open_by n u (inl (inr q)) = not_continued n u q
        open_by n u (inr q) = absurd (let f : c + covers d ≤ c + j = need_from w size (c + covers d) ds (c + j) n q in let m : L ≤ covers d = cells_most size c d in let z : ⊥ = omega (arith, l, f, m) in z)

    behind : L ≤ j → (size ≤ c + covers d) ⊎ (c + covers d < size) → GapsAt s w size c (d ∷ ds) part j
    behind l (inl full) = record {
      needed = λ n m. absurd (let t : None ≡ Some (Gap n) = sym (here ∙ ap (λ z. slice_get z (j - length x)) (none full)) ∙ m in let z : ⊥ = cc in z);
      open_if = λ n u k need. absurd (let r : size - c ≤ L = cells_rest size c d full in let z : ⊥ = omega (arith, r, l, k, h) in z);
    }
      where
        here : slice_get part j ≡ slice_get rest (j - length x)
        here = ap (λ z. slice_get z j) (sym ep) ∙ get_right x rest j (omega (arith, l, x_long))
    behind l (inr more) = record {
      needed = λ n m. let g : (is_known (s.blocks n) ≡ false) × NeedIn w size (c + covers d) ds (c + covers d + i) n = (ih i).needed n (sym here ∙ m) in
          (g.0, (h, long, inr (subst (λ k. NeedIn w size (c + covers d) ds k n) (sym same) g.1)));
      open_if = λ n u k need. open_by n u k need.2;
    }
      where
        i : ℕ
        i = j - L

        exact : L ≡ covers d
        exact = cells_cover size c d more

        same : c + j ≡ c + covers d + (j - L)
        same = omega (arith, exact, l)

        here : slice_get part j ≡ slice_get rest (j - L)
        here = ap (λ z. slice_get z j) (sym ep) ∙ get_right x rest j (omega (arith, l, x_long)) ∙ ap (λ z. slice_get rest (j - z)) x_long

        open_by : (n : ℕ) → is_known (s.blocks n) ≡ false → c + j < size → (HoldsCell w size (c, d) (c + j) n ⊎ Continues w (c, d) (c + j) n) ⊎ NeedIn w size (c + covers d) ds (c + j) n → IsMissingAt part j
        open_by n u k (inl (inl q)) = absurd (let f : c + j < c + L = q.2 in let z : ⊥ = omega (arith, f, l) in z)
        open_by n u k (inl (inr q)) = not_continued n u q
        open_by n u k (inr q) = let m : IsMissingAt rest (j - L) = (ih (j - L)).open_if n u (subst (λ z. z < size) same k) (subst (λ z. NeedIn w size (c + covers d) ds z n) same q) in (m.0, here ∙ m.1)

    go : (L ≤ j) ⊎ (j < L) → GapsAt s w size c (d ∷ ds) part j
    go (inl l) = behind l (le_or_lt size (c + covers d))
    go (inr l) = inside l

-- where the known descriptors end at a continuation that is not known, all is missing
cut_gaps : (s w : View) (size c : ℕ) (d : LongAd) (ds : List LongAd) (part : List Cell) (j n : ℕ) → c < size → nat_lt 0 d.length ≡ true → d.kind ≡ 3
    → w.place d.reference d.block ≡ Some n → is_known (s.blocks n) ≡ false → part ≡ replicate (size - c) (Gap n) → GapsAt s w size c (d ∷ ds) part j
cut_gaps s w size c d ds part j n h long k e u q = record {
  needed = λ m x. let inside : j < length part = slice_get_within part j (Gap m) x in
      let all : length part ≡ size - c = ap length q ∙ length-replicate (size - c) (Gap n) in
      let at : Some (Gap n) ≡ Some (Gap m) = sym (ap (λ z. slice_get z j) q ∙ get_replicate (Gap n) (size - c) j (omega (arith, inside, all))) ∙ x in
      let same : n ≡ m = missing-same n m cc in
      (ap (λ z. is_known (s.blocks z)) (sym same) ∙ u, (h, long, inl (inr (k, omega arith, e ∙ ap Some same))));
  open_if = λ m v l need. (n, ap (λ z. slice_get z j) q ∙ get_replicate (Gap n) (size - c) j (omega (arith, l, h)));
}

nil-of : (xs : List Cell) → length xs ≡ 0 → xs ≡ []
nil-of [] e = refl
nil-of (x ∷ xs) e = absurd (let z : ⊥ = omega (arith, e) in z)

pub gaps_from : (s w : View) → IsPartOf s w → (size : ℕ) (bs bw : Next) (rest : List LongAd) (c : ℕ) (xs : List LongAd) → Fit s w bs bw rest xs
    → (whole part : List Cell) → from w size bw c (xs ++ rest) ≡ cells whole → from s size bs c xs ≡ cells part → (j : ℕ) → GapsAt s w size c (xs ++ rest) part j
gaps_from s w p size bs bw rest c [] fit whole part ew es j = go (le_or_lt size c)
  where
    go : (size ≤ c) ⊎ (c < size) → GapsAt s w size c rest part j
    go (inl h) = done_gaps s w size c rest part j h (sym (cells-same [] part (sym (from-done s size bs c [] h) ∙ es)))
    go (inr h) = not_ended (size - c) bw whole fit.read (sym (from-end w size bw c h) ∙ ap (from w size bw c) (sym fit.no_rest) ∙ ew)
gaps_from s w p size bs bw rest c (d ∷ ds) fit whole part ew es j = go (gaps_from s w p size bs bw rest (c + covers d) ds) (le_or_lt size c) fit
  where
    All : List LongAd
    All = ds ++ rest

    go : (Fit s w bs bw rest ds → (whole part : List Cell) → from w size bw (c + covers d) (ds ++ rest) ≡ cells whole → from s size bs (c + covers d) ds ≡ cells part → (j : ℕ) → GapsAt s w size (c + covers d) (ds ++ rest) part j)
        → (size ≤ c) ⊎ (c < size) → FitCut s w bs d ds ⊎ (FitBroken bs bw rest d ds ⊎ (IsFollowed s w d × Fit s w bs bw rest ds)) → GapsAt s w size c (d ∷ (ds ++ rest)) part j
    go ih (inl h) f = done_gaps s w size c (d ∷ (ds ++ rest)) part j h (sym (cells-same [] part (sym (from-done s size bs c (d ∷ ds) h) ∙ es)))
    go ih (inr h) (inl f) = cut_gaps s w size c d (ds ++ rest) part j f.block h t.is_long f.continues f.place f.unknown whole_part
      where
        t : Taken s size bs c d ds part
        t = taken-inv s size bs c d ds part h es

        zero_cells : length (extent_cells s size (c, d)) ≡ 0
        zero_cells = length-extent s size (c, d) ∙ (let m : cells_in size (c, d) ≤ covers d = cells_most size c d in let z : covers d ≡ 0 = no_cover d f.continues in let r : cells_in size (c, d) ≡ 0 = omega (arith, m, z) in r)

        after : c + covers d ≡ c
        after = let z : covers d ≡ 0 = no_cover d f.continues in let r : c + covers d ≡ c = omega (arith, z) in r

        tail : cells (replicate (size - c) (Gap f.block)) ≡ cells t.then.rest
        tail = ap (λ b. ended_body (size - c) b []) (sym f.behind) ∙ sym (from-end s size bs c h) ∙ (λ i. from s size bs (sym after i) (sym f.last i)) ∙ t.then.is

        whole_part : part ≡ replicate (size - c) (Gap f.block)
        whole_part = sym t.then.joins ∙ ap (λ z. z ++ t.then.rest) (nil-of (extent_cells s size (c, d)) zero_cells) ∙ sym (cells-same (replicate (size - c) (Gap f.block)) t.then.rest tail)
    go ih (inr h) (inr (inl f)) = no_cells f.why t.then.rest (ap (λ b. ended_body (size - c) b []) (sym f.behind) ∙ sym (from-end w size bw c h)
        ∙ (λ i. from w size bw (sym after i) (empty i)) ∙ t.then.is)
      where
        t : Taken w size bw c d (ds ++ rest) whole
        t = taken-inv w size bw c d (ds ++ rest) whole h ew

        after : c + covers d ≡ c
        after = let z : covers d ≡ 0 = no_cover d f.continues in let r : c + covers d ≡ c = omega (arith, z) in r

        empty : [] ≡ ds ++ rest
        empty = λ i. sym f.last i ++ sym f.no_rest i
    go ih (inr h) (inr (inr (followed, fits))) = on_gaps s w p size c d (ds ++ rest) (extent_cells s size (c, d)) part ts.then.rest j h ts.is_long followed refl ts.then.joins
        (λ full. sym (cells-same [] ts.then.rest (sym (from-done s size bs (c + covers d) ds full) ∙ ts.then.is)))
        (ih fits tw.then.rest ts.then.rest tw.then.is ts.then.is)
      where
        tw : Taken w size bw c d (ds ++ rest) whole
        tw = taken-inv w size bw c d (ds ++ rest) whole h ew

        ts : Taken s size bs c d ds part
        ts = taken-inv s size bs c d ds part h es
