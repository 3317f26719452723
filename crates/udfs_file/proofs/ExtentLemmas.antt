-- One taken extent: which of its tests decides, and the stretch that it is.
use Rattle.std.proofs.Common.{◌≡◌, ◌≢◌, refl, sym, ◌∙◌, ap, subst, inl, ℕ, ◌+◌, ◌-◌, ◌%◌, ◌<◌, min, Bool, true, false, not, ◌&&◌, nat_lt, cond, [], ◌∷◌, arith, Some, None, map, replicate}
use Rattle.std.specs.Prelude.{◌==◌}
use Rattle.std.specs.List.{range_with_len}
use Rattle.std.proofs.lemmas.Bool.{eqb-true}
use Rattle.udfs_tag.specs.declared.layouts.LongAd.{LongAd}
use Rattle.udfs_tag.specs.Faults.{first_fault}
use Rattle.udfs_space.specs.Places.{View}
use Rattle.udfs_file.specs.Bodies.{covers, cells_in, extent_fault, is_misreferred, is_misplaced, is_odd, recorded_cell}
use Rattle.udfs_file.specs.declared.cells.Cell.TheVariants.{Byte}
use Rattle.udfs_file.specs.Stretches.{IsExtent}
use Rattle.udfs_file.specs.declared.faults.NodeFault.TheVariants.{Reference, Range, Odd}
use Rattle.udfs_file.specs.declared.stretches.Stretch.TheVariants.{Recorded, Zeros}
use Rattle.udfs_file.proofs.BodyFrom.{is_lt}

-- of three tests
pub first_of_three : {F : Type 0} (x y z : Bool) (f g h : F) → x ≡ true → first_fault ((x, f) ∷ (y, g) ∷ (z, h) ∷ []) ≡ Some f
first_of_three x y z f g h a = ap (λ t. cond t (Some f) (cond y (Some g) (cond z (Some h) None))) a

pub second_of_three : {F : Type 0} (x y z : Bool) (f g h : F) → x ≡ false → y ≡ true → first_fault ((x, f) ∷ (y, g) ∷ (z, h) ∷ []) ≡ Some g
second_of_three x y z f g h a b = ap (λ t. cond t (Some f) (cond y (Some g) (cond z (Some h) None))) a ∙ ap (λ t. cond t (Some g) (cond z (Some h) None)) b

pub third_of_three : {F : Type 0} (x y z : Bool) (f g h : F) → x ≡ false → y ≡ false → z ≡ true → first_fault ((x, f) ∷ (y, g) ∷ (z, h) ∷ []) ≡ Some h
third_of_three x y z f g h a b c = ap (λ t. cond t (Some f) (cond y (Some g) (cond z (Some h) None))) a ∙ ap (λ t. cond t (Some g) (cond z (Some h) None)) b ∙ ap (λ t. cond t (Some h) None) c

pub none_of_three : {F : Type 0} (x y z : Bool) (f g h : F) → x ≡ false → y ≡ false → z ≡ false → first_fault ((x, f) ∷ (y, g) ∷ (z, h) ∷ []) ≡ None
none_of_three x y z f g h a b c = ap (λ t. cond t (Some f) (cond y (Some g) (cond z (Some h) None))) a ∙ ap (λ t. cond t (Some g) (cond z (Some h) None)) b ∙ ap (λ t. cond t (Some h) None) c

pub is_not : (a b : ℕ) → a ≢ b → (a == b) ≡ false
is_not a b h = grind arith

pub is_same : (a b : ℕ) → a ≡ b → (a == b) ≡ true
is_same a b h = grind arith

-- an extent that is recorded or not covers its length
pub covers_length : (d : LongAd) → d.kind ≢ 3 → covers d ≡ d.length
covers_length d h = ap (λ t. cond t 0 d.length) (is_not d.kind 3 h)

pub count_is : (size c : ℕ) (d : LongAd) → d.kind ≢ 3 → cells_in size (c, d) ≡ min d.length (size - c)
count_is size c d h = ap (λ n. min n (size - c)) (covers_length d h)

pub misreferred : (v : View) (size c : ℕ) (d : LongAd) → is_misreferred v d ≡ true → extent_fault v size (c, d) ≡ Some Reference
misreferred v size c d a = first_of_three (is_misreferred v d) (is_misplaced v d (cells_in size (c, d))) (is_odd size c d) Reference Range Odd a

pub misplaced : (v : View) (size c n : ℕ) (d : LongAd) → n ≡ cells_in size (c, d) → is_misreferred v d ≡ false → is_misplaced v d n ≡ true → extent_fault v size (c, d) ≡ Some Range
misplaced v size c n d e a b = second_of_three (is_misreferred v d) (is_misplaced v d (cells_in size (c, d))) (is_odd size c d) Reference Range Odd a (ap (is_misplaced v d) (sym e) ∙ b)

pub odd : (v : View) (size c n : ℕ) (d : LongAd) → n ≡ cells_in size (c, d) → is_misreferred v d ≡ false → is_misplaced v d n ≡ false → is_odd size c d ≡ true → extent_fault v size (c, d) ≡ Some Odd
odd v size c n d e a b f = third_of_three (is_misreferred v d) (is_misplaced v d (cells_in size (c, d))) (is_odd size c d) Reference Range Odd a (ap (is_misplaced v d) (sym e) ∙ b) f

sound : (v : View) (size c n : ℕ) (d : LongAd) → n ≡ cells_in size (c, d) → is_misreferred v d ≡ false → is_misplaced v d n ≡ false → is_odd size c d ≡ false → extent_fault v size (c, d) ≡ None
sound v size c n d e a b f = none_of_three (is_misreferred v d) (is_misplaced v d (cells_in size (c, d))) (is_odd size c d) Reference Range Odd a (ap (is_misplaced v d) (sym e) ∙ b) f

-- an extent that is not odd fills its blocks
pub last_of : (a b c : Bool) → a ≡ true → b ≡ true → (a && b && not c) ≡ false → c ≡ true
last_of a b true p q e = refl
last_of true true false p q e = absurd (let n : ⊥ = cc in n)
last_of false b false p q e = absurd (let n : ⊥ = cc in n)
last_of true false false p q e = absurd (let n : ⊥ = cc in n)

before_end : (n l s c : ℕ) → n ≡ min l (s - c) → c + n < s → n ≡ l
before_end n l s c e h = grind arith

filled : (size c n : ℕ) (d : LongAd) → d.kind ≢ 3 → n ≡ cells_in size (c, d) → is_odd size c d ≡ false → c + n < size → n % 2048 ≡ 0
filled size c n d k e f l =
    let long : n ≡ d.length = before_end n d.length size c (e ∙ count_is size c d k) l in
    ap (λ x. x % 2048) long
    ∙ eqb-true (d.length % 2048) 0 (last_of (not (d.kind == 3)) (nat_lt (c + d.length) size) (d.length % 2048 == 0) (ap not (is_not d.kind 3 k)) (is_lt (c + d.length) size (subst (λ x. c + x < size) long l)) f)

pub recorded : (v : View) (size c n : ℕ) (d : LongAd) → n ≡ cells_in size (c, d) → is_misreferred v d ≡ false → is_misplaced v d n ≡ false → is_odd size c d ≡ false
    → d.kind ≢ 3 → d.kind ≡ 0 → IsExtent v size c d (Recorded (record { address = record { block = d.block; reference = d.reference }; offset = 0 }) n)
recorded v size c n d e a b f other k = record {
  no_fault = sound v size c n d e a b f;
  cells = ap (λ m. map (recorded_cell v d.reference d.block) (range_with_len 0 m)) e
      ∙ sym (ap (λ t. cond t (map (recorded_cell v d.reference d.block) (range_with_len 0 (cells_in size (c, d)))) (replicate (cells_in size (c, d)) (Byte 0 None))) (is_same d.kind 0 k));
  count = e;
  last = inl refl;
  fills = λ l. (refl, filled size c n d other e f l);
}

pub zeros : (v : View) (size c n : ℕ) (d : LongAd) → n ≡ cells_in size (c, d) → is_misreferred v d ≡ false → is_misplaced v d n ≡ false → is_odd size c d ≡ false
    → d.kind ≢ 3 → d.kind ≢ 0 → IsExtent v size c d (Zeros n)
zeros v size c n d e a b f other k = record {
  no_fault = sound v size c n d e a b f;
  cells = ap (λ m. replicate m (Byte 0 None)) e
      ∙ sym (ap (λ t. cond t (map (recorded_cell v d.reference d.block) (range_with_len 0 (cells_in size (c, d)))) (replicate (cells_in size (c, d)) (Byte 0 None))) (is_not d.kind 0 k));
  count = e;
  last = tt;
  fills = λ l. filled size c n d other e f l;
}
