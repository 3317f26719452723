-- Blocks that are spread to records.
use Rattle.std.proofs.Common.{◌≡◌, ℕ, suc, ◌+◌, ◌-◌, ◌*◌, ◌≤◌, List, ◌++◌, length, take, drop, sym, ap, subst, ◌∙◌, arith, append_assoc, length-append, length-take-le, take-append-drop}
use Rattle.std.specs.List.{flat_map}
use Rattle.std.proofs.lemmas.List.{take-take, drop-take}
use Rattle.std.proofs.lemmas.Slice.{take-put_mid, drop-put_mid}
use borrow.Rule.Slice.PartMut.{put_mid}
use lib.Seq.{drop-drop, take-append-le}
use Rattle.udfs_reading.specs.Format.{number}
use Rattle.udfs_reading.specs.Reading.{record_bytes}
use Rattle.udfs_rescue.specs.Blocks.{records_in}
use Rattle.udfs_index.proofs.RecordLemmas.{drop-front}

-- a record was written in two parts
pub put_both : (buf X Y : List ℕ) (to from k1 k2 block : ℕ) → k1 ≡ 4 → k2 ≡ 2048 → length X ≡ 4 → length Y ≡ 2048 → X ≡ number block → Y ≡ take 2048 (drop from buf) → to + 2052 ≤ length buf
    → put_mid (to + 4) k2 (put_mid to k1 buf X) Y ≡ take to buf ++ (record_bytes (block, take 2048 (drop from buf)) ++ drop (to + 2052) buf)
put_both buf X Y to from k1 k2 block four most lx ly x y room =
    let P = put_mid to k1 buf X in
    let Q = put_mid (to + 4) k2 P Y in
    let n = to + 2052 in
    let first : take (to + 4) P ≡ take to buf ++ X = take-put_mid to k1 buf X (to + 4) (omega (arith, lx)) (omega (arith, room)) in
    let tail : drop n P ≡ drop n buf = drop-put_mid to k1 buf X n (omega (arith, four)) (omega (arith, room)) (lx ∙ sym four) in
    let cut : take n P ++ drop n P ≡ P = take-append-drop n P in
    let long : to + 4 ≤ length P =
    let a = ap length (take-append-drop (to + 4) P) in let b = length-append (take (to + 4) P) (drop (to + 4) P) in let d = ap length first in let e = length-append (take to buf) X in let f = length-take-le to buf (omega (arith, room)) in omega (arith, a, b, d, e, f, lx) in
    let front : take n Q ≡ take (to + 4) P ++ Y = take-put_mid (to + 4) k2 P Y n (omega (arith, ly)) long in
    let rest : drop n Q ≡ drop n P = drop-put_mid (to + 4) k2 P Y n (omega (arith, most)) long (ly ∙ sym most) in
    sym (take-append-drop n Q) ∙ ap (λ (l : List ℕ). l ++ drop n Q) (front ∙ ap (λ (l : List ℕ). l ++ Y) first) ∙ ap (λ (l : List ℕ). ((take to buf ++ X) ++ Y) ++ l) (rest ∙ tail)
    ∙ append_assoc (take to buf ++ X) Y (drop n buf) ∙ append_assoc (take to buf) X (Y ++ drop n buf) ∙ ap (λ (l : List ℕ). take to buf ++ l) (sym (append_assoc X Y (drop n buf)))
    ∙ ap (λ (l : List ℕ). take to buf ++ ((l ++ Y) ++ drop n buf)) x ∙ ap (λ (l : List ℕ). take to buf ++ ((number block ++ l) ++ drop n buf)) y

-- before the first one
pub spread_begin : (old : List ℕ) (first many : ℕ) → drop (2052 * many) old ≡ flat_map record_bytes (records_in (first + many) (many - many) (drop (2048 * many) old)) ++ drop (2052 * many) old
spread_begin old first many =
    let none : many - many ≡ 0 = omega arith in
    sym (ap (λ (k : ℕ). flat_map record_bytes (records_in (first + many) k (drop (2048 * many) old)) ++ drop (2052 * many) old) none)

-- the bytes of one block
same_block : (a : ℕ) (buf old : List ℕ) → take (2048 * suc a) buf ≡ take (2048 * suc a) old → take 2048 (drop (2048 * a) buf) ≡ take 2048 (drop (2048 * a) old)
same_block a buf old same =
    let e : 2048 * suc a ≡ 2048 * a + 2048 = omega arith in
    let h : take (2048 * a + 2048) buf ≡ take (2048 * a + 2048) old = subst (λ (n : ℕ). take n buf ≡ take n old) e same in
    sym (drop-take (2048 * a) 2048 buf) ∙ ap (drop (2048 * a)) h ∙ drop-take (2048 * a) 2048 old

pub record Spread (old : List ℕ) (first many a : ℕ) (T new : List ℕ) : Type 0 where
  pub same : take (2048 * a) new ≡ take (2048 * a) old
  pub done : drop (2052 * a) new ≡ flat_map record_bytes (records_in (first + a) (many - a) (drop (2048 * a) old)) ++ T
  pub long : length new ≡ length old

-- one more record
pub spread_step : (old buf new T : List ℕ) (first many a : ℕ) → suc a ≤ many → 2052 * many ≤ length old → Spread old first many (suc a) T buf → length new ≡ length buf
    → new ≡ take (2052 * a) buf ++ (record_bytes (first + a, take 2048 (drop (2048 * a) buf)) ++ drop (2052 * a + 2052) buf) → Spread old first many a T new
spread_step old buf new T first many a few room was kept now =
    let wide : length (take (2052 * a) buf) ≡ 2052 * a = length-take-le (2052 * a) buf (omega (arith, was.long, room, few)) in
    let e : 2052 * a + 2052 ≡ 2052 * suc a = omega arith in
    let block = same_block a buf old was.same in
    let b = take 2048 (drop (2048 * a) old) in
    let R = record_bytes (first + a, take 2048 (drop (2048 * a) buf)) ++ drop (2052 * a + 2052) buf in
    let more : many - a ≡ suc (many - suc a) = omega (arith, few) in
    let next : first + suc a ≡ first + a + 1 = omega arith in
    let step : 2048 * suc a ≡ 2048 * a + 2048 = omega arith in
    let lesser : take (2048 * a) buf ≡ take (2048 * a) old =
    sym (take-take (2048 * a) (2048 * suc a) buf (omega arith)) ∙ ap (take (2048 * a)) was.same ∙ take-take (2048 * a) (2048 * suc a) old (omega arith) in
    record {
      same = ap (take (2048 * a)) now ∙ take-append-le (2048 * a) (take (2052 * a) buf) R (omega (arith, wide)) ∙ take-take (2048 * a) (2052 * a) buf (omega arith) ∙ lesser;
      done = ap (drop (2052 * a)) now ∙ drop-front (take (2052 * a) buf) R (2052 * a) wide
          ∙ ap (λ (l : List ℕ). record_bytes (first + a, l) ++ drop (2052 * a + 2052) buf) block
          ∙ ap (λ (l : List ℕ). record_bytes (first + a, b) ++ l) (ap (λ (n : ℕ). drop n buf) e ∙ was.done)
          ∙ sym (append_assoc (record_bytes (first + a, b)) (flat_map record_bytes (records_in (first + suc a) (many - suc a) (drop (2048 * suc a) old))) T)
          ∙ ap (λ (n : ℕ). (record_bytes (first + a, b) ++ flat_map record_bytes (records_in n (many - suc a) (drop (2048 * suc a) old))) ++ T) next
          ∙ ap (λ (l : List ℕ). (record_bytes (first + a, b) ++ flat_map record_bytes (records_in (first + a + 1) (many - suc a) l)) ++ T) (ap (λ (n : ℕ). drop n old) step ∙ sym (drop-drop 2048 (2048 * a) old))
          ∙ ap (λ (n : ℕ). flat_map record_bytes (records_in (first + a) n (drop (2048 * a) old)) ++ T) (sym more);
      long = kept ∙ was.long;
    }
