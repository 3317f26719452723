-- What is read ahead stands before what the source has left.
use Rattle.std.proofs.Common.{◌≡◌, ℕ, ◌+◌, ◌-◌, ◌≤◌, List, [], ◌++◌, length, take, drop, slice_range, Option, Some, None, sym, ap, ◌∙◌, append_assoc, arith, le_refl, drop_at, length-take-le, length-take, take-append-drop}
use Rattle.std.proofs.lemmas.List.{drop-take}
use Rattle.std.proofs.lemmas.Slice.{take-put_mid_below}
use Rattle.std.specs.Io.KnownBytes.{Consumes, Keeps, IsAtEnd}
use borrow.Rule.Slice.PartMut.{put_mid, post_of}
use lib.Seq.{take-add, take-append-le, drop-drop}
use Rattle.std.proofs.KnownBytes.{Consumes-trans}
use Rattle.udfs_reading.specs.Device.{left}

-- the window without its first n bytes
pub taken_view : (bytes : List ℕ) (start end n : ℕ) → start ≤ end → n ≤ length (slice_range bytes start end) → slice_range bytes (start + n) end ≡ drop n (slice_range bytes start end)
taken_view bytes start end n order within =
    let fits : n ≤ end - start = omega (arith, length-take (end - start) (drop start bytes)) in
    let rest : end - start ≡ n + (end - (start + n)) = omega arith in
    ap (take (end - (start + n))) (sym (drop-drop n start bytes))
    ∙ sym (drop-take n (end - (start + n)) (drop start bytes))
    ∙ ap (λ m. drop n (take m (drop start bytes))) (sym rest)

-- a front and the part after it are a longer front
pub take_split : (a b : ℕ) (old new : List ℕ) → a ≤ b → take a new ≡ take a old → take a old ++ slice_range new a b ≡ take b new
take_split a b old new h front =
    let same : a + (b - a) ≡ b = omega arith in
    ap (λ l. l ++ slice_range new a b) (sym front) ∙ sym (take-add a (b - a) new) ∙ ap (λ n. take n new) same

-- the front of what was written into a part
pub slice_range-put_mid : (a k n : ℕ) (xs ys : List ℕ) → a ≤ length xs → n ≤ length ys → slice_range (put_mid a k xs ys) a (a + n) ≡ take n ys
slice_range-put_mid a k n xs ys within fits =
    let same : (a + n) - a ≡ n = omega arith in
    let after = post_of a k xs in
    ap (take ((a + n) - a)) (drop_at (take a xs) (ys ++ after) a (length-take-le a xs within)) ∙ ap (λ m. take m (ys ++ after)) same ∙ take-append-le n ys after fits

-- the window after a read behind its bytes, which stand at the front
pub grown_view : (k room n : ℕ) (bytes buf had : List ℕ) → take k bytes ≡ had → k ≤ length bytes → n ≤ length buf
    → had ++ take n buf ≡ slice_range (put_mid k room bytes buf) 0 (k + n)
grown_view k room n bytes buf had front within fits =
    let whole : k + n ≡ (k + n) - 0 = omega arith in
    ap (λ l. l ++ take n buf) (sym front)
    ∙ ap (λ l. take k bytes ++ l) (sym (slice_range-put_mid k room n bytes buf within fits))
    ∙ take_split k (k + n) bytes (put_mid k room bytes buf) (omega arith) (take-put_mid_below _ _ _ _ _ (le_refl _) within)
    ∙ ap (λ m. take m (put_mid k room bytes buf)) whole

-- what was read stands behind what was there
pub left_more : (ahead got : List ℕ) (a b : Option (List ℕ)) → Consumes a b got → Consumes (left ahead a) (left (ahead ++ got) b) []
left_more ahead got None b h = tt
left_more ahead got (Some xs) None h = absurd h
left_more ahead got (Some xs) (Some ys) h = ap (λ l. ahead ++ l) h ∙ sym (append_assoc ahead got ys)

-- nothing was read
pub left_kept : (ahead : List ℕ) (a b : Option (List ℕ)) → Keeps a b → Consumes (left ahead a) (left ahead b) []
left_kept ahead None b h = tt
left_kept ahead (Some xs) None h = absurd h
left_kept ahead (Some xs) (Some ys) h = ap (λ l. ahead ++ l) (sym h)

-- the first n bytes were taken
pub left_taken : (ahead got : List ℕ) (n : ℕ) (a b : Option (List ℕ)) → ahead ≡ got ++ drop n ahead → Consumes a (left ahead b) [] → Consumes a (left (drop n ahead) b) got
left_taken ahead got n None b split h = tt
left_taken ahead got n (Some xs) None split h = absurd h
left_taken ahead got n (Some xs) (Some ys) split h = h ∙ ap (λ l. l ++ ys) split ∙ append_assoc got (drop n ahead) ys

-- all that was read ahead was taken
pub left_all : (ahead : List ℕ) (a b : Option (List ℕ)) → Consumes a (left ahead b) [] → Consumes a (left [] b) ahead
left_all ahead None b h = tt
left_all ahead (Some xs) None h = absurd h
left_all ahead (Some xs) (Some ys) h = h

pub left_at_end : (b : Option (List ℕ)) → IsAtEnd b → IsAtEnd (left [] b)
left_at_end None h = tt
left_at_end (Some xs) h = h

-- one step after another, of which neither takes anything
pub left_then : (a b c : Option (List ℕ)) → Consumes a b [] → Consumes b c [] → Consumes a c []
left_then a b c h k = Consumes-trans a b c [] [] h k

-- the first n bytes, by their own list
pub left_chunk : (ahead : List ℕ) (n : ℕ) (a b : Option (List ℕ)) → Consumes a (left ahead b) [] → Consumes a (left (drop n ahead) b) (take n ahead)
left_chunk ahead n a b h = left_taken ahead (take n ahead) n a b (sym (take-append-drop n ahead)) h
