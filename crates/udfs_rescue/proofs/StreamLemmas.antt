-- One byte more of a mapfile.
use Rattle.std.proofs.Common.{◌≡◌, ℕ, zero, suc, refl, lit<, ◌≤◌, ◌<◌, ◌⊎◌, inl, inr, Bool, true, false, cond, List, [], ◌∷◌, ◌++◌, None, Result, Ok, Err, length, take, eqb, sym, ap, ◌∙◌, arith, append-nil, length-take}
use Rattle.std.proofs.lemmas.Bool.{eq-eqb, ne_eqb, lt-ltb, cases_lt}
use Rattle.std.specs.Prelude.{◌&&◌, ◌||◌}
use Rattle.std.specs.Str.{bytes_eq}
use Rattle.udfs_rescue.specs.declared.run.Run.{Run}
use Rattle.udfs_rescue.specs.declared.fault.MapFault.TheVariants.{NoRuns, NotPass}
use Rattle.udfs_rescue.specs.declared.fault.MapError.{MapError}
use Rattle.udfs_rescue.specs.declared.fault.MapError.TheVariants as errors
use Rattle.udfs_rescue.specs.declared.fault.LineFault.{LineFault}
use Rattle.udfs_rescue.specs.declared.stream.MapReader.{MapReader}
use Rattle.udfs_rescue.specs.Words.{words}
use Rattle.udfs_rescue.specs.Lines.{Progress, nothing, outcome, mark, is_mark, after_words, after_text, after_line, unlike, text_of, line_before, after_lines, with_first, onto, lines_of}
use Rattle.udfs_rescue.specs.Held.{Keeps}
use Rattle.udfs_rescue.specs.Views.{Refuses}
use Rattle.udfs_rescue.specs.Stream.{StandsFor, EndsLine, LineFails, comes_to}
use Rattle.udfs_rescue.proofs.HeldLemmas.{whole}
use Rattle.udfs_rescue.proofs.LineLemmas.{onto_first, lines_first, line_ok, line_fails}

chosen : {A : Type 0} (t u : Bool) (x y : A) → t ≡ u → cond t x y ≡ cond u x y
chosen t u x y e = ap (λ s. cond s x y) e

cut_by : (p : Progress) (text : List ℕ) → (127 < length text) ⊎ (length text ≤ 127) → after_text p (take 128 text) ≡ after_text p text
cut_by p text (inl h) = chosen _ true _ _ (lt-ltb 127 (length (take 128 text)) (omega (arith, length-take 128 text))) ∙ sym (chosen _ true (Err (unlike p)) (after_words p (words text)) (lt-ltb 127 (length text) h))
cut_by p text (inr h) = ap (after_text p) (whole 128 text (omega arith))

-- that a text is too long is seen of its first 128 bytes
cut : (p : Progress) (text : List ℕ) → after_text p (take 128 text) ≡ after_text p text
cut p text = cut_by p text (cases_lt 127 (length text))

-- whether bytes are some that are fewer than these is seen of so many
same_front : (n : ℕ) (xs ys : List ℕ) → length ys < n → bytes_eq (take n xs) ys ≡ bytes_eq xs ys
same_front zero xs ys h = absurd (omega arith)
same_front (suc n) [] ys h = refl
same_front (suc n) (x ∷ xs) [] h = refl
same_front (suc n) (x ∷ xs) (y ∷ ys) h = ap (λ t. eqb x y && t) (same_front n xs ys (omega arith))

-- and so it is whether a line is the mark
mark_cut : (line : List ℕ) → is_mark (take 68 line) ≡ is_mark line
unfolding is_mark mark
mark_cut line = ap (λ t. t || bytes_eq (take 68 line) (mark ++ 13 ∷ [])) (same_front 68 line mark (lit< tt)) ∙ ap (λ t. bytes_eq line mark || t) (same_front 68 line (mark ++ 13 ∷ []) (lit< tt))

-- what is kept of a line comes to what the line does
kept_so : (r : MapReader) (line : List ℕ) → r.front.kept.items ≡ take 68 line → Keeps r.held.held.items r.held.comment r.held.blank line → comes_to r ≡ after_line r.runs line
kept_so r line f k =
    ap (λ l. cond (is_mark l) (Err NotPass) (after_text r.runs r.held.held.items)) f
    ∙ ap (λ t. cond t (Err NotPass) (after_text r.runs r.held.held.items)) (mark_cut line)
    ∙ ap (λ l. cond (is_mark line) (Err NotPass) (after_text r.runs l)) k.text
    ∙ ap (λ o. cond (is_mark line) (Err NotPass) o) (cut r.runs (text_of line))

-- the lines at an LF
pub at_end : (line rest : List ℕ) (b : ℕ) → b ≡ 10 → onto line (lines_of (b ∷ rest)) ≡ line ∷ lines_of rest
at_end line rest b e = ap (onto line) (chosen (eqb b 10) true ([] ∷ lines_of rest) (with_first b (lines_of rest)) (eq-eqb b 10 e)) ∙ ap (λ l. l ∷ lines_of rest) (append-nil line)

-- and at another byte
pub at_more : (line rest : List ℕ) (b : ℕ) → (b ≡ 10 → ⊥) → onto line (lines_of (b ∷ rest)) ≡ onto (line ++ b ∷ []) (lines_of rest)
at_more line rest b e = ap (onto line) (chosen (eqb b 10) false ([] ∷ lines_of rest) (with_first b (lines_of rest)) (ne_eqb b 10 e)) ∙ onto_first line b (lines_of rest)

pub stands_end : (old new : MapReader) (says : List ℕ → Result (List Run) LineFault) (b : ℕ) → b ≡ 10 → EndsLine old new → StandsFor old says → StandsFor new (λ rest. says (b ∷ rest))
stands_end old new says b e h s =
    record {
      line = [];
      front = h.none;
      keeps = h.fresh;
      left = λ rest. s.left (b ∷ rest) ∙ line_ok old.line old.runs new.runs s.line _ (lines_of rest) (at_end s.line rest b e) (sym (kept_so old s.line s.front s.keeps) ∙ h.took)
          ∙ ap (λ n. after_lines n new.runs (lines_of rest)) (sym h.next) ∙ ap (after_lines new.line new.runs) (lines_first rest);
    }

pub fails_end : (old : MapReader) (says : List ℕ → Result (List Run) LineFault) (b : ℕ) (e : MapError) → b ≡ 10 → LineFails old e → StandsFor old says → (rest : List ℕ) → Refuses e (says (b ∷ rest))
fails_end old says b errors.OutOfMemory is h s rest = tt
fails_end old says b errors.Io is h s rest = absurd h
fails_end old says b (errors.Line f) is h s rest =
    s.left (b ∷ rest) ∙ line_fails old.line old.runs f.fault s.line _ (lines_of rest) (at_end s.line rest b is) (sym (kept_so old s.line s.front s.keeps) ∙ h.0)
    ∙ ap (λ n. Err (record { line = n; fault = f.fault })) (sym h.1)

pub stands_more : (old new : MapReader) (says : List ℕ → Result (List Run) LineFault) (b : ℕ) → (b ≡ 10 → ⊥) → new.runs ≡ old.runs → new.line ≡ old.line
    → ((line : List ℕ) → old.front.kept.items ≡ take 68 line → new.front.kept.items ≡ take 68 (line ++ b ∷ []))
    → ((line : List ℕ) → Keeps old.held.held.items old.held.comment old.held.blank line → Keeps new.held.held.items new.held.comment new.held.blank (line ++ b ∷ []))
    → StandsFor old says → StandsFor new (λ rest. says (b ∷ rest))
stands_more old new says b e r n f h s =
    record {
      line = s.line ++ b ∷ [];
      front = f s.line s.front;
      keeps = h s.line s.keeps;
      left = λ rest. s.left (b ∷ rest) ∙ ap (after_lines old.line old.runs) (at_more s.line rest b e)
          ∙ ap (λ m. after_lines m old.runs (onto (s.line ++ b ∷ []) (lines_of rest))) (sym n) ∙ ap (λ m. after_lines new.line m (onto (s.line ++ b ∷ []) (lines_of rest))) (sym r);
    }

pub stands_new : (r : MapReader) → r.line ≡ 1 → r.runs ≡ record { begun = false; due = None; runs = [] } → r.front.kept.items ≡ [] → Keeps r.held.held.items r.held.comment r.held.blank [] → StandsFor r outcome
stands_new r n v f k =
    record {
      line = [];
      front = f;
      keeps = k;
      left = λ rest. ap (after_lines 1 nothing) (lines_first rest) ∙ ap (λ m. after_lines m nothing (onto [] (lines_of rest))) (sym n) ∙ ap (λ p. after_lines r.line p (onto [] (lines_of rest))) (sym v);
    }

-- the last line has no LF
pub last_end : (line : List ℕ) → onto line (lines_of []) ≡ line ∷ []
last_end line = ap (λ l. l ∷ []) (append-nil line)

-- there is a run, or none
pub finish_ok : (old new : MapReader) (says : List ℕ → Result (List Run) LineFault) → EndsLine old new → StandsFor old says → eqb (length new.runs.runs) 0 ≡ false → says [] ≡ Ok new.runs.runs
finish_ok old new says h s some =
    s.left [] ∙ line_ok old.line old.runs new.runs s.line _ [] (last_end s.line) (sym (kept_so old s.line s.front s.keeps) ∙ h.took)
    ∙ chosen (eqb (length new.runs.runs) 0) false _ (Ok new.runs.runs) some

pub finish_none : (old new : MapReader) (says : List ℕ → Result (List Run) LineFault) → EndsLine old new → StandsFor old says → eqb (length new.runs.runs) 0 ≡ true
    → says [] ≡ Err (record { line = line_before new.line; fault = NoRuns })
finish_none old new says h s none =
    s.left [] ∙ line_ok old.line old.runs new.runs s.line _ [] (last_end s.line) (sym (kept_so old s.line s.front s.keeps) ∙ h.took)
    ∙ chosen (eqb (length new.runs.runs) 0) true _ (Ok new.runs.runs) none
    ∙ ap (λ n. Err (record { line = line_before n; fault = NoRuns })) (sym h.next)

pub finish_fails : (old : MapReader) (says : List ℕ → Result (List Run) LineFault) (e : MapError) → LineFails old e → StandsFor old says → Refuses e (says [])
finish_fails old says errors.OutOfMemory h s = tt
finish_fails old says errors.Io h s = absurd h
finish_fails old says (errors.Line f) h s =
    s.left [] ∙ line_fails old.line old.runs f.fault s.line _ [] (last_end s.line) (sym (kept_so old s.line s.front s.keeps) ∙ h.0)
    ∙ ap (λ n. Err (record { line = n; fault = f.fault })) (sym h.1)
