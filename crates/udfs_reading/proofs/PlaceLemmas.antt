-- Where what is left stands in the input, while bytes are taken.
use Rattle.std.proofs.Common.{◌≡◌, ℕ, ◌+◌, ◌%◌, ◌^◌, ◌≤◌, List, [], ◌++◌, length, take, drop, Option, Some, None, sym, ap, subst, ◌∙◌, arith, length-append, drop_at, length-take-le}
use Rattle.std.specs.Io.KnownBytes.{Consumes}
use lib.Seq.{take-append-le, drop-drop}
use Rattle.std.proofs.lemmas.List.{length-drop}
use Rattle.udfs_reading.specs.Device.{left}
use Rattle.udfs_reading.proofs.WindowLemmas.{left_chunk}
use Rattle.udfs_reading.specs.Places.{IsRest, StandsAt, MovesOn, HasBlockAt}

some_of : {A : Type 0} (x y : A) → Some x ≡ Some y → x ≡ y
some_of x y e = let same : x ≡ y = cc in same

none_some : {A : Type 0} (x : A) → None ≡ Some x → ⊥
none_some x e = let no : ⊥ = cc in no

-- bytes were taken of what stands behind `at` bytes
rest_on : (whole : List ℕ) (at n : ℕ) (old new : Option (List ℕ)) (got : List ℕ) → length got ≡ n → Consumes old new got → IsRest whole at old → IsRest whole ((at + n) % 2 ^ 64) new
rest_on whole at n old None got len given h = absurd (subst (λ (o : Option (List ℕ)). Consumes o None got) h.is_rest given)
rest_on whole at n old (Some ys) got len given h =
    let split : drop at whole ≡ got ++ ys = subst (λ (o : Option (List ℕ)). Consumes o (Some ys) got) h.is_rest given in
    let size : length (drop at whole) ≡ n + length ys = ap length split ∙ length-append got ys ∙ ap (λ (k : ℕ). k + length ys) len in
    let fits = h.fits in
    let within = h.within in
    let moved : (at + n) % 2 ^ 64 ≡ at + n = omega (arith, size, length-drop at whole) in
    record {
      fits = fits;
      within = omega (arith, size, length-drop at whole);
      is_rest = ap Some (sym (drop_at got ys n len) ∙ ap (drop n) (sym split) ∙ drop-drop n at whole ∙ ap (λ (k : ℕ). drop k whole) (sym moved));
    }

moves_on : (at next n : ℕ) (old new : Option (List ℕ)) (got : List ℕ) → length got ≡ n → next ≡ (at + n) % 2 ^ 64 → Consumes old new got → MovesOn at next old new
moves_on at next n old new got len is given None h = tt
moves_on at next n old new got len is given (Some whole) h = subst (λ (k : ℕ). IsRest whole k new) (sym is) (rest_on whole at n old new got len given h)

-- the first n bytes that were read ahead were taken
pub chunk_moves : (at mid next n : ℕ) (ahead now : List ℕ) (a b : Option (List ℕ)) → n ≤ length ahead → mid ≡ at → next ≡ (mid + n) % 2 ^ 64 → now ≡ drop n ahead → Consumes a (left ahead b) [] → MovesOn at next a (left now b)
chunk_moves at mid next n ahead now a b whole same is rest given =
    moves_on at next n a (left now b) (take n ahead) (length-take-le n ahead whole) (is ∙ ap (λ (k : ℕ). (k + n) % 2 ^ 64) same)
    (subst (λ (l : List ℕ). Consumes a (left l b) (take n ahead)) (sym rest) (left_chunk ahead n a b given))

-- nothing was taken
pub stands_still : (input : Option (List ℕ)) (at next : ℕ) (old new : Option (List ℕ)) → next ≡ at → Consumes old new [] → StandsAt input at old → StandsAt input next new
stands_still None at next old new is given h = tt
stands_still (Some whole) at next old None is given h = absurd (subst (λ (o : Option (List ℕ)). Consumes o None []) h.is_rest given)
stands_still (Some whole) at next old (Some ys) is given h =
    let split : drop at whole ≡ ys = subst (λ (o : Option (List ℕ)). Consumes o (Some ys) []) h.is_rest given in
    subst (λ (k : ℕ). IsRest whole k (Some ys)) (sym is) (record { fits = h.fits; within = h.within; is_rest = ap Some (sym split) })

-- a block that is read ahead stands there
pub block_stands : (input : Option (List ℕ)) (at : ℕ) (ahead bytes : List ℕ) (b : Option (List ℕ)) → 2048 ≤ length ahead → bytes ≡ take 2048 ahead → StandsAt input at (left ahead b) → HasBlockAt input at bytes
block_stands None at ahead bytes b whole is h = tt
block_stands (Some all) at ahead bytes None whole is h = absurd (none_some (drop at all) h.is_rest)
block_stands (Some all) at ahead bytes (Some ys) whole is h =
    ap (take 2048) (sym (some_of (ahead ++ ys) (drop at all) h.is_rest)) ∙ take-append-le 2048 ahead ys whole ∙ sym is

-- nothing was read ahead of the front
pub front_stands : (input : Option (List ℕ)) (at : ℕ) (ahead : List ℕ) (b : Option (List ℕ)) → ahead ≡ [] → at ≡ 0 → StandsAt input 0 b → StandsAt input at (left ahead b)
front_stands input at ahead None none zero h = subst (λ (k : ℕ). StandsAt input k None) (sym zero) h
front_stands input at ahead (Some ys) none zero h = subst (λ (k : ℕ). StandsAt input k (left ahead (Some ys))) (sym zero) (subst (λ (l : List ℕ). StandsAt input 0 (left l (Some ys))) (sym none) h)
