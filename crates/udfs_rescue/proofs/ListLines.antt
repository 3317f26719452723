-- One byte more of a list of blocks, and one line more.
use Rattle.std.proofs.Common.{◌≡◌, ℕ, ◌+◌, ◌*◌, ◌≤◌, ◌<◌, Bool, true, false, cond, List, [], ◌∷◌, ◌++◌, Option, None, Some, Result, Ok, Err, length, refl, sym, ap, subst, ◌∙◌, arith, append-nil, min}
use Rattle.std.specs.Prelude.{◌==◌, nat_lt, nat_le}
use Rattle.std.proofs.lemmas.Bool.{false≢true}
use Rattle.std.proofs.lemmas.Bool.Decides.{nat_tests}
use Rattle.udfs_rescue.specs.declared.list.ListReader.{ListReader}
use Rattle.udfs_rescue.specs.declared.list.ListError.{ListError}
use Rattle.udfs_rescue.specs.declared.list.ListError.TheVariants as errors
use Rattle.udfs_rescue.specs.Numbers.{digit, digits_from, decimal_of}
use Rattle.udfs_rescue.specs.Lines.{lines_of, next_line, onto}
use Rattle.udfs_rescue.specs.BlockLists.{without_return, up_to_last, block_number, with_last, with_lines, list_outcome, number_kept, TellsLineBody, TellsLine, StandsList, TakesLine, RefusesLine, RefusesList}
use Rattle.udfs_rescue.proofs.StreamLemmas.{at_end, at_more, last_end}
use Rattle.udfs_rescue.proofs.LineLemmas.{lines_first}

-- ---- one digit more
abbrev and_digit : ℕ → Option ℕ → Option ℕ
and_digit b None = None
and_digit b (Some v) = cond (nat_lt (digit b) 10) (Some (v * 10 + digit b)) None

either_digit : (t : Bool) (b : ℕ) (x y : Option ℕ) → x ≡ and_digit b y → cond t x None ≡ and_digit b (cond t y None)
either_digit true b x y e = e
either_digit false b x y e = refl

digits_push : (n b : ℕ) (l : List ℕ) → digits_from 10 n (l ++ b ∷ []) ≡ and_digit b (digits_from 10 n l)
digits_push n b [] = refl
digits_push n b (c ∷ l) = either_digit (nat_lt (digit c) 10) b (digits_from 10 (n * 10 + digit c) (l ++ b ∷ [])) (digits_from 10 (n * 10 + digit c) l) (digits_push (n * 10 + digit c) b l)

some_none : {A : Type 0} (x : A) → Some x ≡ None → A → ⊥
some_none x e y = absurd cc

still_none : (b : ℕ) (o : Option ℕ) → None ≡ number_kept o → None ≡ number_kept (and_digit b o)
still_none b None e = refl
still_none b (Some v) e = absurd cc

no_digit : (b : ℕ) (o : Option ℕ) → nat_lt (digit b) 10 ≡ false → None ≡ number_kept (and_digit b o)
no_digit b None e = refl
no_digit b (Some v) e = ap (λ t. number_kept (cond t (Some (v * 10 + digit b)) None)) (sym e)

some_is : (x y : ℕ) → Some x ≡ Some y → x ≡ y
some_is x y e = cc

one_digit : (b x d r : ℕ) (o : Option ℕ) → d ≡ digit b → nat_lt (digit b) 10 ≡ true → Some x ≡ number_kept o → r ≡ min (x * 10 + d) 4194304 → Some r ≡ number_kept (and_digit b o)
one_digit b x d r None is small e sum = absurd cc
one_digit b x d r (Some v) is small e sum =
    ap Some (let same : x ≡ min v 4194304 = some_is x (min v 4194304) e in let all : r ≡ min (v * 10 + digit b) 4194304 = omega (arith, same, sum, is) in all)
    ∙ ap (λ t. number_kept (cond t (Some (v * 10 + digit b)) None)) (sym small)

pub number_none : (b : ℕ) (line : List ℕ) → None ≡ number_kept (digits_from 10 0 line) → None ≡ number_kept (digits_from 10 0 (line ++ b ∷ []))
number_none b line e = still_none b (digits_from 10 0 line) e ∙ ap number_kept (sym (digits_push 0 b line))

pub number_other : (b : ℕ) (line : List ℕ) → nat_lt (digit b) 10 ≡ false → None ≡ number_kept (digits_from 10 0 (line ++ b ∷ []))
number_other b line e = no_digit b (digits_from 10 0 line) e ∙ ap number_kept (sym (digits_push 0 b line))

pub number_more : (b x d r : ℕ) (line : List ℕ) → d ≡ digit b → nat_lt (digit b) 10 ≡ true → Some x ≡ number_kept (digits_from 10 0 line) → r ≡ min (x * 10 + d) 4194304 → Some r ≡ number_kept (digits_from 10 0 (line ++ b ∷ []))
number_more b x d r line is small e sum = one_digit b x d r (digits_from 10 0 line) is small e sum ∙ ap number_kept (sym (digits_push 0 b line))

-- ---- the CR at the end of a line
return_off : (line : List ℕ) → without_return (line ++ 13 ∷ []) ≡ line
return_off [] = refl
return_off (x ∷ []) = refl
return_off (x ∷ y ∷ l) = ap (λ r. x ∷ r) (return_off (y ∷ l))

other_stays : (b : ℕ) (line : List ℕ) → (b == 13) ≡ false → without_return (line ++ b ∷ []) ≡ line ++ b ∷ []
other_stays b [] e = ap (λ t. cond t [] (b ∷ [])) e
other_stays b (x ∷ []) e = ap (λ t. x ∷ cond t [] (b ∷ [])) e
other_stays b (x ∷ y ∷ l) e = ap (λ r. x ∷ r) (other_stays b (y ∷ l) e)

not_empty : (b : ℕ) (line : List ℕ) → false ≡ (length (line ++ b ∷ []) == 0)
not_empty b [] = refl
not_empty b (x ∷ l) = grind (arith, nat_tests)

pub fresh_line : TellsLine true (Some 0) false []
fresh_line = record { body = (refl, refl); whole = refl }

-- where a CR came, it is a byte of the line now
pub counted_return : (empty : Bool) (number : Option ℕ) (line : List ℕ) → TellsLine empty number true line → TellsLineBody false None line
counted_return empty number line h =
    subst (TellsLineBody false None) (sym h.whole) (not_empty 13 (without_return line), number_other 13 (without_return line) refl)

pub counted_none : (empty : Bool) (number : Option ℕ) (line : List ℕ) → TellsLine empty number false line → TellsLineBody empty number line
counted_none empty number line h = subst (TellsLineBody empty number) (sym (h.whole ∙ append-nil (without_return line))) h.body

pub took_return : (empty : Bool) (number : Option ℕ) (line : List ℕ) → TellsLineBody empty number line → TellsLine empty number true (line ++ 13 ∷ [])
took_return empty number line h = record {
  body = subst (TellsLineBody empty number) (sym (return_off line)) h;
  whole = ap (λ l. l ++ 13 ∷ []) (sym (return_off line));
}

pub took_other : (b : ℕ) (number : Option ℕ) (line : List ℕ) → (b == 13) ≡ false → number ≡ number_kept (digits_from 10 0 (line ++ b ∷ [])) → TellsLine false number false (line ++ b ∷ [])
took_other b number line other h = record {
  body = subst (TellsLineBody false number) (sym (other_stays b line other)) (not_empty b line, h);
  whole = sym (append-nil _ ∙ other_stays b line other);
}

-- ---- the block of a line
none_left : (body : List ℕ) → true ≡ (length body == 0) → body ≡ []
none_left [] e = refl
none_left (x ∷ l) e = absurd (grind (arith, nat_tests, e))

some_digits : (body : List ℕ) → false ≡ (length body == 0) → decimal_of body ≡ digits_from 10 0 body
some_digits [] e = absurd (false≢true e)
some_digits (x ∷ l) e = refl

above_last : (n : ℕ) → 4194303 < n → nat_le n 4194303 ≡ false
above_last n h = grind (arith, nat_tests)

up_to : (n : ℕ) → n ≤ 4194303 → nat_le n 4194303 ≡ true
up_to n h = grind (arith, nat_tests)

said_none : (o : Option ℕ) → None ≡ number_kept o → None ≡ up_to_last o
said_none None e = refl
said_none (Some v) e = absurd cc

said_above : (n : ℕ) (o : Option ℕ) → Some n ≡ number_kept o → 4194303 < n → None ≡ up_to_last o
said_above n None e h = refl
said_above n (Some v) e h = let same : n ≡ min v 4194304 = some_is n (min v 4194304) e in ap (λ t. cond t (Some v) None) (sym (above_last v (omega (arith, same, h))))

said_block : (n : ℕ) (o : Option ℕ) → Some n ≡ number_kept o → n ≤ 4194303 → Some n ≡ up_to_last o
said_block n None e h = absurd cc
said_block n (Some v) e h =
    let same : n ≡ min v 4194304 = some_is n (min v 4194304) e in
    let v_is : n ≡ v = omega (arith, same, h) in
    ap Some v_is ∙ ap (λ t. cond t (Some v) None) (sym (up_to v (omega (arith, v_is, h))))

pub block_of_none : (number : Option ℕ) (body : List ℕ) → TellsLineBody true number body → None ≡ block_number body
block_of_none number body h = ap block_number (sym (none_left body h.0))

pub block_of_no_number : (body : List ℕ) → TellsLineBody false None body → None ≡ block_number body
block_of_no_number body h = said_none (digits_from 10 0 body) h.1 ∙ ap up_to_last (sym (some_digits body h.0))

pub block_above : (n : ℕ) (body : List ℕ) → TellsLineBody false (Some n) body → 4194303 < n → None ≡ block_number body
block_above n body h above = said_above n (digits_from 10 0 body) h.1 above ∙ ap up_to_last (sym (some_digits body h.0))

pub block_within : (n : ℕ) (body : List ℕ) → TellsLineBody false (Some n) body → n ≤ 4194303 → Some n ≡ block_number body
block_within n body h within = said_block n (digits_from 10 0 body) h.1 within ∙ ap up_to_last (sym (some_digits body h.0))

-- ---- the lines
abbrev going : ℕ → List ℕ → List (List ℕ) → Option ℕ → Result (List ℕ) ℕ
going n s lines None = Err n
going n s lines (Some k) = with_lines (next_line n) (s ++ k ∷ []) lines

going_is : (n : ℕ) (s next : List ℕ) (lines : List (List ℕ)) (r : Option ℕ) → elim r as (λ r. Result (List ℕ) ℕ) [ Some k ↦ with_lines (next_line n) (s ++ k ∷ []) (next ∷ lines) | None ↦ Err n ] ≡ going n s (next ∷ lines) r
going_is n s next lines None = refl
going_is n s next lines (Some k) = refl

-- a line that is not the last one
not_last : (n : ℕ) (s line : List ℕ) (lines : List (List ℕ)) → with_lines n s (line ∷ onto [] lines) ≡ going n s (onto [] lines) (block_number (without_return line))
not_last n s line [] = going_is n s [] [] (block_number (without_return line))
not_last n s line (next ∷ lines) = going_is n s next lines (block_number (without_return line))

at_line_end : (n : ℕ) (s line rest : List ℕ) (b : ℕ) (r : Option ℕ) → b ≡ 10 → block_number (without_return line) ≡ r → with_lines n s (onto line (lines_of (b ∷ rest))) ≡ going n s (onto [] (lines_of rest)) r
at_line_end n s line rest b r e is =
    ap (with_lines n s) (at_end line rest b e ∙ ap (λ l. line ∷ l) (lines_first rest))
    ∙ not_last n s line (lines_of rest)
    ∙ ap (going n s (onto [] (lines_of rest))) is

pub stands_end : (old new : ListReader) (says : List ℕ → Result (List ℕ) ℕ) (b : ℕ) → b ≡ 10 → TakesLine old new → StandsList old says → StandsList new (λ rest. says (b ∷ rest))
stands_end old new says b e h s =
    record {
      line = [];
      keeps = h.fresh;
      left = λ rest. s.left (b ∷ rest) ∙ at_line_end old.at old.numbers.items s.line rest b (Some h.block) e (h.took s.line s.keeps)
          ∙ ap (λ n. with_lines n (old.numbers.items ++ h.block ∷ []) (onto [] (lines_of rest))) (sym h.next) ∙ ap (λ l. with_lines new.at l (onto [] (lines_of rest))) (sym h.more);
    }

pub fails_end : (old : ListReader) (says : List ℕ → Result (List ℕ) ℕ) (b : ℕ) (e : ListError) → b ≡ 10 → RefusesLine old e → StandsList old says → (rest : List ℕ) → RefusesList e (says (b ∷ rest))
fails_end old says b errors.OutOfMemory is h s rest = tt
fails_end old says b errors.Io is h s rest = absurd h
fails_end old says b (errors.Line n) is h s rest = s.left (b ∷ rest) ∙ at_line_end old.at old.numbers.items s.line rest b None is (h.0 s.line s.keeps) ∙ ap Err (sym h.1)

pub stands_more : (old new : ListReader) (says : List ℕ → Result (List ℕ) ℕ) (b : ℕ) → (b ≡ 10 → ⊥) → new.numbers ≡ old.numbers → new.at ≡ old.at
    → ((line : List ℕ) → TellsLine old.line.empty old.line.number old.line.returned line → TellsLine new.line.empty new.line.number new.line.returned (line ++ b ∷ []))
    → StandsList old says → StandsList new (λ rest. says (b ∷ rest))
stands_more old new says b e r n h s =
    record {
      line = s.line ++ b ∷ [];
      keeps = h s.line s.keeps;
      left = λ rest. s.left (b ∷ rest) ∙ ap (with_lines old.at old.numbers.items) (at_more s.line rest b e)
          ∙ ap (λ m. with_lines m old.numbers.items (onto (s.line ++ b ∷ []) (lines_of rest))) (sym n) ∙ ap (λ m. with_lines new.at m.items (onto (s.line ++ b ∷ []) (lines_of rest))) (sym r);
    }

pub stands_new : (r : ListReader) → r.at ≡ 1 → r.numbers.items ≡ [] → TellsLine r.line.empty r.line.number r.line.returned [] → StandsList r list_outcome
stands_new r n v k =
    record {
      line = [];
      keeps = k;
      left = λ rest. ap (with_lines 1 []) (lines_first rest) ∙ ap (λ m. with_lines m [] (onto [] (lines_of rest))) (sym n) ∙ ap (λ p. with_lines r.at p (onto [] (lines_of rest))) (sym v);
    }

-- ---- the last line has no LF
at_last : (old : ListReader) (says : List ℕ → Result (List ℕ) ℕ) (s : StandsList old says) → says [] ≡ with_last old.at old.numbers.items s.line
at_last old says s = s.left [] ∙ ap (with_lines old.at old.numbers.items) (last_end s.line)

last_is : (n : ℕ) (so_far : List ℕ) (r : Option ℕ) → elim r as (λ r. Result (List ℕ) ℕ) [ Some k ↦ Ok (so_far ++ k ∷ []) | None ↦ Err n ] ≡ elim r as (λ r. Result (List ℕ) ℕ) [ Some k ↦ Ok (so_far ++ k ∷ []) | None ↦ Err n ]
last_is n so_far r = refl

with_some : (n k : ℕ) (so_far line : List ℕ) → false ≡ (length line == 0) → block_number line ≡ Some k → with_last n so_far line ≡ Ok (so_far ++ k ∷ [])
with_some n k so_far [] none is = absurd (false≢true none)
with_some n k so_far (b ∷ bs) none is = ap (λ (r : Option ℕ). elim r as (λ r. Result (List ℕ) ℕ) [ Some k ↦ Ok (so_far ++ k ∷ []) | None ↦ Err n ]) is

with_none : (n : ℕ) (so_far line : List ℕ) → false ≡ (length line == 0) → block_number line ≡ None → with_last n so_far line ≡ Err n
with_none n so_far [] none is = absurd (false≢true none)
with_none n so_far (b ∷ bs) none is = ap (λ (r : Option ℕ). elim r as (λ r. Result (List ℕ) ℕ) [ Some k ↦ Ok (so_far ++ k ∷ []) | None ↦ Err n ]) is

pub finish_none : (old : ListReader) (says : List ℕ → Result (List ℕ) ℕ) (number : Option ℕ) (s : StandsList old says) → TellsLineBody true number s.line → says [] ≡ Ok old.numbers.items
finish_none old says number s h = at_last old says s ∙ ap (with_last old.at old.numbers.items) (none_left s.line h.0)

pub finish_block : (old : ListReader) (says : List ℕ → Result (List ℕ) ℕ) (number : Option ℕ) (k : ℕ) (s : StandsList old says) → TellsLineBody false number s.line → block_number s.line ≡ Some k → says [] ≡ Ok (old.numbers.items ++ k ∷ [])
finish_block old says number k s h is = at_last old says s ∙ with_some old.at k old.numbers.items s.line h.0 is

pub finish_fails : (old : ListReader) (says : List ℕ → Result (List ℕ) ℕ) (number : Option ℕ) (s : StandsList old says) → TellsLineBody false number s.line → block_number s.line ≡ None → says [] ≡ Err old.at
finish_fails old says number s h is = at_last old says s ∙ with_none old.at old.numbers.items s.line h.0 is
