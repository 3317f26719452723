-- The line of a run that was written is read back.
use Rattle.std.specs.Fmt.{digit_glyph}
use Rattle.std.specs.Prelude.{◌^◌, ◌&&◌}
use Rattle.std.specs.List.{AllByRecursion}
use Rattle.std.proofs.Common.{◌≡◌, ℕ, zero, suc, ◌+◌, ◌*◌, ◌/◌, ◌%◌, ◌<◌, ◌≤◌, Bool, true, false, cond, List, [], ◌∷◌, ◌++◌, None, Some, length, eqb, ltb, refl, sym, ap, ◌∙◌, arith, append_assoc, append-nil, length-append}
use Rattle.std.proofs.lemmas.Bool.{lt-ltb, ltb-true}
use Rattle.udfs_rescue.specs.declared.run.Run.{Run}
use Rattle.udfs_rescue.specs.declared.run.RunStatus.{RunStatus}
use Rattle.udfs_rescue.specs.declared.run.RunStatus.TheVariants.{NonTried, NonTrimmed, NonScraped, BadSector, Finished}
use Rattle.udfs_rescue.specs.Numbers.{digit, digits_from, hexadecimal_of, number_of}
use Rattle.udfs_rescue.specs.Words.{is_blank, words_from, words, ended, skip}
use Rattle.udfs_rescue.specs.Lines.{mark, is_mark, before_comment, text_of, lines_of, with_first, run_by, run_of, run_status}
use Rattle.udfs_rescue.specs.Writing.{hex_digits, places, position_text, gap, status_byte, run_line}

chosen : {A : Type 0} (t u : Bool) (x y : A) → t ≡ u → cond t x y ≡ cond u x y
chosen t u x y e = ap (λ s. cond s x y) e

-- ---- bytes that stand in words: no LF, no blank, and no #

record IsPlain (b : ℕ) : Type 0 where
  feed : eqb b 10 ≡ false
  blank : is_blank b ≡ false
  mark : eqb b 35 ≡ false

-- the digit of a number
record IsDigit (d b : ℕ) : Type 0 where
  feed : eqb b 10 ≡ false
  blank : is_blank b ≡ false
  mark : eqb b 35 ≡ false
  value : digit b ≡ d

hex_is : (d : ℕ) → d < 16 → IsDigit d (digit_glyph true d)
hex_is zero h = record { feed = refl; blank = refl; mark = refl; value = refl }
hex_is (suc zero) h = record { feed = refl; blank = refl; mark = refl; value = refl }
hex_is (suc (suc zero)) h = record { feed = refl; blank = refl; mark = refl; value = refl }
hex_is (suc (suc (suc zero))) h = record { feed = refl; blank = refl; mark = refl; value = refl }
hex_is (suc (suc (suc (suc zero)))) h = record { feed = refl; blank = refl; mark = refl; value = refl }
hex_is (suc (suc (suc (suc (suc zero))))) h = record { feed = refl; blank = refl; mark = refl; value = refl }
hex_is (suc (suc (suc (suc (suc (suc zero)))))) h = record { feed = refl; blank = refl; mark = refl; value = refl }
hex_is (suc (suc (suc (suc (suc (suc (suc zero))))))) h = record { feed = refl; blank = refl; mark = refl; value = refl }
hex_is (suc (suc (suc (suc (suc (suc (suc (suc zero)))))))) h = record { feed = refl; blank = refl; mark = refl; value = refl }
hex_is (suc (suc (suc (suc (suc (suc (suc (suc (suc zero))))))))) h = record { feed = refl; blank = refl; mark = refl; value = refl }
hex_is (suc (suc (suc (suc (suc (suc (suc (suc (suc (suc zero)))))))))) h = record { feed = refl; blank = refl; mark = refl; value = refl }
hex_is (suc (suc (suc (suc (suc (suc (suc (suc (suc (suc (suc zero))))))))))) h = record { feed = refl; blank = refl; mark = refl; value = refl }
hex_is (suc (suc (suc (suc (suc (suc (suc (suc (suc (suc (suc (suc zero)))))))))))) h = record { feed = refl; blank = refl; mark = refl; value = refl }
hex_is (suc (suc (suc (suc (suc (suc (suc (suc (suc (suc (suc (suc (suc zero))))))))))))) h = record { feed = refl; blank = refl; mark = refl; value = refl }
hex_is (suc (suc (suc (suc (suc (suc (suc (suc (suc (suc (suc (suc (suc (suc zero)))))))))))))) h = record { feed = refl; blank = refl; mark = refl; value = refl }
hex_is (suc (suc (suc (suc (suc (suc (suc (suc (suc (suc (suc (suc (suc (suc (suc zero))))))))))))))) h = record { feed = refl; blank = refl; mark = refl; value = refl }
hex_is (suc (suc (suc (suc (suc (suc (suc (suc (suc (suc (suc (suc (suc (suc (suc (suc k)))))))))))))))) h = absurd (omega (arith, h))

plain_digit : (n : ℕ) → IsPlain (digit_glyph true (n % 16))
plain_digit n = let h = hex_is (n % 16) (omega arith) in record { feed = h.feed; blank = h.blank; mark = h.mark }

also : {X : Type 0} (P : X → Type 0) (xs ys : List X) → AllByRecursion P xs → AllByRecursion P ys → AllByRecursion P (xs ++ ys)
also P [] ys p q = q
also P (x ∷ xs) ys p q = (p.0, also P xs ys p.1 q)

plain_digits : (k n : ℕ) → AllByRecursion IsPlain (hex_digits k n)
plain_digits zero n = tt
plain_digits (suc k) n = also IsPlain (hex_digits k (n / 16)) (digit_glyph true (n % 16) ∷ []) (plain_digits k (n / 16)) (plain_digit n, tt)

-- ---- a number

digits_by : (t : Bool) (n m x : ℕ) (xs : List ℕ) (b : ℕ) → cond t (digits_from 16 (n * 16 + digit x) xs) None ≡ Some m
    → (digits_from 16 (n * 16 + digit x) xs ≡ Some m → digits_from 16 (n * 16 + digit x) (xs ++ b ∷ []) ≡ Some (m * 16 + digit b))
    → cond t (digits_from 16 (n * 16 + digit x) (xs ++ b ∷ [])) None ≡ Some (m * 16 + digit b)
digits_by true n m x xs b e h = h e
digits_by false n m x xs b e h = absurd cc

-- one digit more
digits_then : (n m : ℕ) (xs : List ℕ) (b : ℕ) → digits_from 16 n xs ≡ Some m → ltb (digit b) 16 ≡ true → digits_from 16 n (xs ++ b ∷ []) ≡ Some (m * 16 + digit b)
digits_then n m [] b e h =
    let same : n ≡ m = cc in
    chosen (ltb (digit b) 16) true _ _ h ∙ ap (λ k. Some (k * 16 + digit b)) same
digits_then n m (x ∷ xs) b e h = digits_by (ltb (digit x) 16) n m x xs b e (λ k. digits_then (n * 16 + digit x) m xs b k h)

digits_are : (k n : ℕ) → n < 16 ^ k → digits_from 16 0 (hex_digits k n) ≡ Some n
digits_are zero n h = ap Some (omega (arith, h))
digits_are (suc k) n h =
    let d = hex_is (n % 16) (omega arith) in
    let low : n / 16 < 16 ^ k = omega (arith, h) in
    digits_then 0 (n / 16) (hex_digits k (n / 16)) (digit_glyph true (n % 16)) (digits_are k (n / 16) low) (lt-ltb _ _ (omega (arith, d.value)))
    ∙ ap Some (omega (arith, d.value))

not_empty : (xs : List ℕ) (b : ℕ) → hexadecimal_of (xs ++ b ∷ []) ≡ digits_from 16 0 (xs ++ b ∷ [])
not_empty [] b = refl
not_empty (x ∷ xs) b = refl

number_of_digits : (k n : ℕ) → n < 16 ^ suc k → number_of ((48 ∷ 120 ∷ []) ++ hex_digits (suc k) n) ≡ Some n
number_of_digits k n h = not_empty (hex_digits k (n / 16)) (digit_glyph true (n % 16)) ∙ digits_are (suc k) n h

number_by : (t : Bool) (n : ℕ) → ltb n (2 ^ 32) ≡ t → n < 2 ^ 36 → number_of ((48 ∷ 120 ∷ []) ++ hex_digits (cond t 8 9) n) ≡ Some n
number_by true n is h = number_of_digits 7 n (omega (arith, ltb-true n (2 ^ 32) is))
number_by false n is h = number_of_digits 8 n (omega (arith, h))

pub number_is : (n : ℕ) → n < 2 ^ 36 → number_of (position_text n) ≡ Some n
unfolding position_text
number_is n h = number_by (ltb n (2 ^ 32)) n refl h

-- ---- the line of a run

plain_position : (n : ℕ) → AllByRecursion IsPlain (position_text n)
unfolding position_text
plain_position n = (record { feed = refl; blank = refl; mark = refl }, (record { feed = refl; blank = refl; mark = refl }, plain_digits (places n) n))

-- a line without its LF
abbrev pub line_text : Run → List ℕ
line_text r = position_text r.at ++ (32 ∷ 32 ∷ (position_text r.size ++ (32 ∷ 32 ∷ status_byte r.status ∷ [])))

size_text : (b rest : List ℕ) (s : ℕ) → ((b ++ gap) ++ (s ∷ 10 ∷ [])) ++ rest ≡ (b ++ (32 ∷ 32 ∷ s ∷ [])) ++ 10 ∷ rest
size_text [] rest s = refl
size_text (x ∷ b) rest s = ap (λ l. x ∷ l) (size_text b rest s)

whole_text : (a b rest : List ℕ) (s : ℕ) → ((((a ++ gap) ++ b) ++ gap) ++ (s ∷ 10 ∷ [])) ++ rest ≡ (a ++ (32 ∷ 32 ∷ (b ++ (32 ∷ 32 ∷ s ∷ [])))) ++ 10 ∷ rest
whole_text [] b rest s = ap (λ l. 32 ∷ 32 ∷ l) (size_text b rest s)
whole_text (x ∷ a) b rest s = ap (λ l. x ∷ l) (whole_text a b rest s)

pub line_is : (r : Run) (rest : List ℕ) → run_line r ++ rest ≡ line_text r ++ 10 ∷ rest
unfolding run_line
line_is r rest = whole_text (position_text r.at) (position_text r.size) rest (status_byte r.status)

-- no byte ends a line or begins a comment
pub record IsWritten (b : ℕ) : Type 0 where
  pub feed : eqb b 10 ≡ false
  pub mark : eqb b 35 ≡ false

written_blank : IsWritten 32
written_blank = record { feed = refl; mark = refl }

written_status : (s : RunStatus) → IsWritten (status_byte s)
written_status NonTried = record { feed = refl; mark = refl }
written_status NonTrimmed = record { feed = refl; mark = refl }
written_status NonScraped = record { feed = refl; mark = refl }
written_status BadSector = record { feed = refl; mark = refl }
written_status Finished = record { feed = refl; mark = refl }

written_plain : (xs : List ℕ) → AllByRecursion IsPlain xs → AllByRecursion IsWritten xs
written_plain [] h = tt
written_plain (x ∷ xs) h = (record { feed = h.0.feed; mark = h.0.mark }, written_plain xs h.1)

pub written_line : (r : Run) → AllByRecursion IsWritten (line_text r)
written_line r =
    also IsWritten (position_text r.at) (32 ∷ 32 ∷ (position_text r.size ++ (32 ∷ 32 ∷ status_byte r.status ∷ []))) (written_plain (position_text r.at) (plain_position r.at)) (
      written_blank,
      (
        written_blank,
        also IsWritten (position_text r.size) (32 ∷ 32 ∷ status_byte r.status ∷ []) (written_plain (position_text r.size) (plain_position r.size)) (written_blank, (written_blank, (written_status r.status, tt))),
      ),
    )

-- it is not the comment of a list of blocks to read again, which begins with a #
pub no_mark_line : (r : Run) → is_mark (line_text r) ≡ false
unfolding position_text mark is_mark
no_mark_line r = refl

-- up to the LF it is the first line
pub line_of : (l rest : List ℕ) → AllByRecursion IsWritten l → lines_of (l ++ 10 ∷ rest) ≡ l ∷ lines_of rest
line_of [] rest h = refl
line_of (b ∷ l) rest h = chosen (eqb b 10) false _ _ h.0.feed ∙ ap (with_first b) (line_of l rest h.1)

no_mark : (blank t : Bool) → t ≡ false → (blank && t) ≡ false
no_mark true t e = e
no_mark false t e = refl

no_comment : (blank : Bool) (l : List ℕ) → AllByRecursion IsWritten l → before_comment blank l ≡ l
no_comment blank [] h = refl
no_comment blank (b ∷ l) h = chosen (blank && eqb b 35) false _ _ (no_mark blank (eqb b 35) h.0.mark) ∙ ap (λ k. b ∷ k) (no_comment (is_blank b) l h.1)

skipped : (ds more : List ℕ) → skip (((48 ∷ 120 ∷ []) ++ ds) ++ more) ≡ ((48 ∷ 120 ∷ []) ++ ds) ++ more
skipped ds more = refl

pub text_is : (r : Run) → text_of (line_text r) ≡ line_text r
unfolding position_text
text_is r =
    ap skip (no_comment true (line_text r) (written_line r))
    ∙ skipped (hex_digits (places r.at) r.at) (32 ∷ 32 ∷ (position_text r.size ++ (32 ∷ 32 ∷ status_byte r.status ∷ [])))

-- ---- its words

word_then : (begun w rest : List ℕ) → AllByRecursion IsPlain w → words_from begun (w ++ 32 ∷ rest) ≡ ended (begun ++ w) (words_from [] rest)
word_then begun [] rest h = ap (λ l. ended l (words_from [] rest)) (sym (append-nil begun))
word_then begun (b ∷ w) rest h =
    chosen (is_blank b) false _ _ h.0.blank
    ∙ word_then (begun ++ b ∷ []) w rest h.1
    ∙ ap (λ l. ended l (words_from [] rest)) (append_assoc begun (b ∷ []) w)

first_word : (n : ℕ) (rest : List ℕ) → words (position_text n ++ 32 ∷ 32 ∷ rest) ≡ position_text n ∷ words rest
unfolding position_text
first_word n rest = word_then [] (position_text n) (32 ∷ rest) (plain_position n)

last_word : (s : RunStatus) → words (status_byte s ∷ []) ≡ (status_byte s ∷ []) ∷ []
last_word NonTried = refl
last_word NonTrimmed = refl
last_word NonScraped = refl
last_word BadSector = refl
last_word Finished = refl

pub line_words : (r : Run) → words (line_text r) ≡ position_text r.at ∷ position_text r.size ∷ (status_byte r.status ∷ []) ∷ []
line_words r =
    first_word r.at (position_text r.size ++ (32 ∷ 32 ∷ status_byte r.status ∷ []))
    ∙ ap (λ l. position_text r.at ∷ l) (first_word r.size (status_byte r.status ∷ []) ∙ ap (λ l. position_text r.size ∷ l) (last_word r.status))

status_is : (s : RunStatus) → run_status (status_byte s ∷ []) ≡ Some s
status_is NonTried = refl
status_is NonTrimmed = refl
status_is NonScraped = refl
status_is BadSector = refl
status_is Finished = refl

pub run_is : (r : Run) → r.at < 2 ^ 36 → r.size < 2 ^ 36 → run_of (position_text r.at ∷ position_text r.size ∷ (status_byte r.status ∷ []) ∷ []) ≡ Some r
run_is r low few =
    ap (λ n. run_by n (number_of (position_text r.size)) (run_status (status_byte r.status ∷ []))) (number_is r.at low)
    ∙ ap (λ n. run_by (Some r.at) n (run_status (status_byte r.status ∷ []))) (number_is r.size few)
    ∙ ap (run_by (Some r.at) (Some r.size)) (status_is r.status)

-- ---- its length

digits_long : (k n : ℕ) → length (hex_digits k n) ≡ k
digits_long zero n = refl
digits_long (suc k) n = length-append (hex_digits k (n / 16)) (digit_glyph true (n % 16) ∷ []) ∙ omega (arith, digits_long k (n / 16))

places_by : (t : Bool) → cond t 8 9 ≤ 9
places_by true = omega arith
places_by false = omega arith

position_long : (n : ℕ) → length (position_text n) ≤ 11
unfolding position_text
position_long n = omega (arith, digits_long (places n) n, places_by (ltb n (2 ^ 32)))

pub line_long : (r : Run) → length (line_text r) < 128
line_long r =
    let more : List ℕ = position_text r.size ++ (32 ∷ 32 ∷ status_byte r.status ∷ []) in
    let all : length (line_text r) ≡ length (position_text r.at) + length (32 ∷ 32 ∷ more) = length-append (position_text r.at) (32 ∷ 32 ∷ more) in
    let rest : length more ≡ length (position_text r.size) + length (32 ∷ 32 ∷ status_byte r.status ∷ []) = length-append (position_text r.size) (32 ∷ 32 ∷ status_byte r.status ∷ []) in
    omega (arith, all, rest, position_long r.at, position_long r.size)
