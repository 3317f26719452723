-- The text of a mapfile, one block after another.
use Rattle.std.specs.Fmt.{digit_glyph}
use Rattle.std.proofs.Common.{◌≡◌, ℕ, zero, suc, ◌+◌, ◌-◌, ◌*◌, ◌/◌, ◌%◌, ◌<◌, ◌≤◌, Bool, true, false, cond, List, [], ◌∷◌, ◌++◌, length, get_or, eqb, refl, sym, ap, subst, ◌∙◌, append_assoc, append-nil, arith}
use Rattle.std.proofs.lemmas.Bool.{eq-eqb, ne_eqb, eqb-true}
use Rattle.std.specs.Io.KnownBytes.{Appends}
use Rattle.std.proofs.KnownBytes.{Appends-trans}
use Rattle.udfs_reading.specs.Writing.{Passed, FailedPast, Failed, Wrote}
use Rattle.udfs_reading.proofs.PublicLaws.{passed_none, passed_then, failed_then, failed_more, failed_last}
use Rattle.udfs_rescue.specs.declared.run.Run.{Run}
use Rattle.udfs_rescue.specs.declared.run.RunStatus.{RunStatus}
use Rattle.udfs_rescue.specs.declared.run.RunStatus.TheVariants.{NonTried, Finished}
use Rattle.udfs_rescue.specs.Writing.{wanted_status, status_byte, joined_run, block_run, runs_of_blocks, run_line, run_lines, hex_digits, places, position_text, gap}
use Rattle.udfs_rescue.specs.BlockSteps.{TakesRun}
use Rattle.udfs_reading.specs.Device.{Stream}

chosen : {A : Type 0} (t u : Bool) (x y : A) → t ≡ u → cond t x y ≡ cond u x y
chosen t u x y e = ap (λ s. cond s x y) e

-- ---- the list of wanted blocks

found_by : (t : Bool) (s : RunStatus) → s ≡ Finished → cond t Finished s ≡ Finished
found_by true s e = refl
found_by false s e = e

pub found : (xs : List ℕ) (i x : ℕ) → i < length xs → get_or xs i 0 ≡ x → wanted_status xs x ≡ Finished
found [] i x h e = absurd (omega (arith, h))
found (y ∷ ys) zero x h e = chosen _ true _ _ (eq-eqb y x e)
found (y ∷ ys) (suc i) x h e = found_by (eqb y x) (wanted_status ys x) (found ys i x (omega arith) e)

pub not_found : (xs : List ℕ) (x : ℕ) → ((k : ℕ) → k < length xs → get_or xs k 0 ≡ x → ⊥) → wanted_status xs x ≡ NonTried
not_found [] x h = refl
not_found (y ∷ ys) x h = chosen _ false _ _ (ne_eqb y x (h 0 (omega arith))) ∙ not_found ys x (λ k lt e. h (suc k) (omega arith) e)

-- ---- runs that are joined

abbrev merged : Run → Run → Run
merged r s = record { at = r.at; size = r.size + s.size; status = r.status }

abbrev same : Run → Run → Bool
same r s = eqb (status_byte r.status) (status_byte s.status)

same_too : (r s x : Run) (t : Bool) → same r s ≡ true → same s x ≡ t → same r x ≡ t
same_too r s x t e f = ap (λ (n : ℕ). eqb n (status_byte x.status)) (eqb-true (status_byte r.status) (status_byte s.status) e) ∙ f

join_by : (t : Bool) (r s x : Run) (xs : List Run) → same r s ≡ true → same s x ≡ t → joined_run r (cond t (merged s x ∷ xs) (s ∷ x ∷ xs)) ≡ cond t (merged (merged r s) x ∷ xs) (merged r s ∷ x ∷ xs)
join_by true r s x xs e f =
    chosen _ true _ _ e
    ∙ ap (λ (n : ℕ). record { at = r.at; size = n; status = r.status } ∷ xs) (omega arith)
join_by false r s x xs e f = chosen _ true _ _ e

-- a block of the status of the run lengthens it
pub join_same : (r s : Run) (rest : List Run) → same r s ≡ true → joined_run r (joined_run s rest) ≡ joined_run (merged r s) rest
join_same r s [] e = chosen _ true _ _ e
join_same r s (x ∷ xs) e =
    ap (joined_run r) (chosen _ (same s x) (merged s x ∷ xs) (s ∷ x ∷ xs) refl)
    ∙ join_by (same s x) r s x xs e refl
    ∙ sym (chosen _ (same s x) (merged (merged r s) x ∷ xs) (merged r s ∷ x ∷ xs) (same_too r s x (same s x) e refl))

other_by : (t : Bool) (r s x : Run) (xs : List Run) → same r s ≡ false → joined_run r (cond t (merged s x ∷ xs) (s ∷ x ∷ xs)) ≡ r ∷ cond t (merged s x ∷ xs) (s ∷ x ∷ xs)
other_by true r s x xs e = chosen _ false _ _ e
other_by false r s x xs e = chosen _ false _ _ e

-- and one of another status begins a run
pub join_other : (r s : Run) (rest : List Run) → same r s ≡ false → joined_run r (joined_run s rest) ≡ r ∷ joined_run s rest
join_other r s [] e = chosen _ false _ _ e
join_other r s (x ∷ xs) e = other_by (same s x) r s x xs e

-- ---- the loop

-- the runs before this one were taken, and it goes up to the block
pub record Behind (old new : Stream) (held still : List ℕ) (run : Run) (status : ℕ → RunStatus) (block last : ℕ) : Type 0 where
  pub within : block ≤ last + 1
  pub size : run.size ≤ 2048 * block
  pub done : List ℕ
  pub passed : Passed old new held still done
  pub text : run_lines (runs_of_blocks status 0 (last + 1)) ≡ done ++ run_lines (joined_run run (runs_of_blocks status block (last + 1 - block)))

blocks_step : (status : ℕ → RunStatus) (n m k : ℕ) → m ≡ suc k → runs_of_blocks status n m ≡ joined_run (block_run status n) (runs_of_blocks status (n + 1) k)
blocks_step status n m k e = ap (runs_of_blocks status n) e

pub behind_first : (a : Stream) (p : List ℕ) (status : ℕ → RunStatus) (last : ℕ) → Behind a a p p (record { at = 0; size = 2048; status = status 0 }) status 1 last
behind_first a p status last =
    record {
      within = omega arith;
      size = omega arith;
      done = [];
      passed = passed_none a p;
      text = ap run_lines (blocks_step status 0 (last + 1) (last + 1 - 1) (omega arith));
    }

-- what is to come, with the next block in front
next_text : (run : Run) (status : ℕ → RunStatus) (block last : ℕ) → block ≤ last
    → run_lines (joined_run run (runs_of_blocks status block (last + 1 - block))) ≡ run_lines (joined_run run (joined_run (block_run status block) (runs_of_blocks status (block + 1) (last + 1 - (block + 1)))))
next_text run status block last h = ap (λ (l : List Run). run_lines (joined_run run l)) (blocks_step status block (last + 1 - block) (last + 1 - (block + 1)) (omega arith))

abbrev next_run : ℕ → RunStatus → Run
next_run block s = record { at = 2048 * block; size = 2048; status = s }

pub behind_more : {a b c : Stream} {p q r : List ℕ} {run after : Run} {status : ℕ → RunStatus} {block last : ℕ} (s : RunStatus) → s ≡ status block → Behind a b p q run status block last → block ≤ last
    → TakesRun b c q r run after (next_run block s) → after.size ≤ 2048 * (block + 1) → Behind a c p r after status (block + 1) last
behind_more {a} {b} {c} {p} {q} {r} {run} {after} {status} {block} {last} s is h lt took size =
    let t : TakesRun b c q r run after (block_run status block) = subst (λ (s : RunStatus). TakesRun b c q r run after (next_run block s)) is took in
    let rest : List Run = runs_of_blocks status (block + 1) (last + 1 - (block + 1)) in
    record {
      within = omega arith;
      size = size;
      done = h.done ++ t.done;
      passed = passed_then _ _ _ _ _ _ _ _ h.passed t.passed;
      text = h.text ∙ ap (λ (l : List ℕ). h.done ++ l) (next_text run status block last lt ∙ t.text rest) ∙ sym (append_assoc h.done t.done (run_lines (joined_run after rest)));
    }

pub behind_fails : {a b c : Stream} {p q : List ℕ} {run : Run} {status : ℕ → RunStatus} {block last : ℕ} (s : RunStatus) → s ≡ status block → Behind a b p q run status block last → block ≤ last
    → ((rest : List Run) → FailedPast b c q (run_lines (joined_run run (joined_run (next_run block s) rest)))) → FailedPast a c p (run_lines (runs_of_blocks status 0 (last + 1)))
behind_fails {a} {b} {c} {p} {q} {run} {status} {block} {last} s is h lt f =
    let rest : List Run = runs_of_blocks status (block + 1) (last + 1 - (block + 1)) in
    subst (FailedPast a c p) (sym (h.text ∙ ap (λ (l : List ℕ). h.done ++ l) (next_text run status block last lt)))
    (failed_then _ _ _ _ _ _ _ h.passed (subst (λ (s : RunStatus). FailedPast b c q (run_lines (joined_run run (joined_run (next_run block s) rest)))) is (f rest)))

-- the last run
last_text : (run : Run) (status : ℕ → RunStatus) (block last : ℕ) → last < block → run_lines (joined_run run (runs_of_blocks status block (last + 1 - block))) ≡ run_line run
last_text run status block last h =
    let none : last + 1 - block ≡ 0 = omega arith in
    ap (λ (n : ℕ). run_lines (joined_run run (runs_of_blocks status block n))) none ∙ append-nil (run_line run)

pub behind_all : {a b c : Stream} {p q r : List ℕ} {run : Run} {status : ℕ → RunStatus} {block last : ℕ} → Behind a b p q run status block last → last < block
    → Passed b c q r (run_line run) → Passed a c p r (run_lines (runs_of_blocks status 0 (last + 1)))
behind_all {a} {b} {c} {p} {q} {r} {run} {status} {block} {last} h lt t =
    subst (Passed a c p r) (sym (h.text ∙ ap (λ (l : List ℕ). h.done ++ l) (last_text run status block last lt)))
    (passed_then _ _ _ _ _ _ _ _ h.passed t)

pub behind_last : {a b c : Stream} {p q : List ℕ} {run : Run} {status : ℕ → RunStatus} {block last : ℕ} → Behind a b p q run status block last → last < block
    → FailedPast b c q (run_line run) → FailedPast a c p (run_lines (runs_of_blocks status 0 (last + 1)))
behind_last {a} {b} {c} {p} {q} {run} {status} {block} {last} h lt f =
    subst (FailedPast a c p) (sym (h.text ∙ ap (λ (l : List ℕ). h.done ++ l) (last_text run status block last lt)))
    (failed_then _ _ _ _ _ _ _ h.passed f)

-- a sink that failed at the end, or before
pub wrote_held : {a b : Stream} {p x : List ℕ} → p ≡ [] → FailedPast a b p x → Failed a b x
wrote_held {x = x} none h = record { out = h.out; rest = h.rest; given = h.given; whole = sym (ap (λ (l : List ℕ). l ++ x) none) ∙ h.whole; moved = h.moved }

-- ---- pieces, with what they are taken from left out

pub taken : {a b c : Stream} {p q r x y : List ℕ} → Passed a b p q x → Passed b c q r y → Passed a c p r (x ++ y)
taken h g = passed_then _ _ _ _ _ _ _ _ h g

pub fails : {a b c : Stream} {p q x y : List ℕ} → Passed a b p q x → FailedPast b c q y → FailedPast a c p (x ++ y)
fails h g = failed_then _ _ _ _ _ _ _ h g

pub fails_before : {a b : Stream} {p x : List ℕ} (y : List ℕ) → FailedPast a b p x → FailedPast a b p (x ++ y)
fails_before y h = failed_more _ _ _ _ y h

-- ---- digits

digits_step : (k n : ℕ) → (k ≡ 0 → ⊥) → hex_digits k n ≡ hex_digits (k - 1) (n / 16) ++ digit_glyph true (n % 16) ∷ []
digits_step zero n h = absurd (h refl)
digits_step (suc k) n h =
    let less : k ≡ suc k - 1 = omega arith in
    ap (λ (m : ℕ). hex_digits m (n / 16) ++ digit_glyph true (n % 16) ∷ []) less

pub digits_taken : {a b c : Stream} {p q r : List ℕ} (k n d : ℕ) → (k ≡ 0 → ⊥) → d ≡ digit_glyph true (n % 16) → Passed a b p q (hex_digits (k - 1) (n / 16)) → Passed b c q r (d ∷ []) → Passed a c p r (hex_digits k n)
digits_taken {a} {b} {c} {p} {q} {r} k n d some e h g =
    subst (Passed a c p r) (ap (λ (m : ℕ). hex_digits (k - 1) (n / 16) ++ m ∷ []) e ∙ sym (digits_step k n some)) (taken h g)

pub digits_fail : {a b : Stream} {p : List ℕ} (k n : ℕ) → (k ≡ 0 → ⊥) → FailedPast a b p (hex_digits (k - 1) (n / 16)) → FailedPast a b p (hex_digits k n)
digits_fail {a} {b} {p} k n some h = subst (FailedPast a b p) (sym (digits_step k n some)) (fails_before (digit_glyph true (n % 16) ∷ []) h)

pub digit_fails : {a b c : Stream} {p q : List ℕ} (k n d : ℕ) → (k ≡ 0 → ⊥) → d ≡ digit_glyph true (n % 16) → Passed a b p q (hex_digits (k - 1) (n / 16)) → FailedPast b c q (d ∷ []) → FailedPast a c p (hex_digits k n)
digit_fails {a} {b} {c} {p} {q} k n d some e h g =
    subst (FailedPast a c p) (ap (λ (m : ℕ). hex_digits (k - 1) (n / 16) ++ m ∷ []) e ∙ sym (digits_step k n some)) (fails h g)

-- ---- a position

pub position_taken : {a b c : Stream} {p q r : List ℕ} (n d : ℕ) → d ≡ places n → Passed a b p q (48 ∷ 120 ∷ []) → Passed b c q r (hex_digits d n) → Passed a c p r (position_text n)
unfolding position_text
position_taken {b = b} {c = c} {q = q} {r = r} n d e h g = taken h (subst (λ (m : ℕ). Passed b c q r (hex_digits m n)) e g)

pub mark_fails : {a b : Stream} {p : List ℕ} (n : ℕ) → FailedPast a b p (48 ∷ 120 ∷ []) → FailedPast a b p (position_text n)
unfolding position_text
mark_fails n h = fails_before (hex_digits (places n) n) h

pub position_fails : {a b c : Stream} {p q : List ℕ} (n d : ℕ) → d ≡ places n → Passed a b p q (48 ∷ 120 ∷ []) → FailedPast b c q (hex_digits d n) → FailedPast a c p (position_text n)
unfolding position_text
position_fails {b = b} {c = c} {q = q} n d e h g = fails h (subst (λ (m : ℕ). FailedPast b c q (hex_digits m n)) e g)

-- ---- a line

pub line_taken : {a b : Stream} {p q : List ℕ} (r : Run) (d : ℕ) → d ≡ status_byte r.status → Passed a b p q (position_text r.at ++ gap ++ position_text r.size ++ gap ++ (d ∷ 10 ∷ [])) → Passed a b p q (run_line r)
unfolding run_line
line_taken {a} {b} {p} {q} r d e h = subst (λ (m : ℕ). Passed a b p q (position_text r.at ++ gap ++ position_text r.size ++ gap ++ (m ∷ 10 ∷ []))) e h

pub line_fails : {a b : Stream} {p : List ℕ} (r : Run) (d : ℕ) → d ≡ status_byte r.status → FailedPast a b p (position_text r.at ++ gap ++ position_text r.size ++ gap ++ (d ∷ 10 ∷ [])) → FailedPast a b p (run_line r)
unfolding run_line
line_fails {a} {b} {p} r d e h = subst (λ (m : ℕ). FailedPast a b p (position_text r.at ++ gap ++ position_text r.size ++ gap ++ (m ∷ 10 ∷ []))) e h

-- ---- a block behind a run

pub takes_same : (a : Stream) (p : List ℕ) (r s : Run) → status_byte r.status ≡ status_byte s.status → TakesRun a a p p r (merged r s) s
takes_same a p r s e = record { done = []; passed = passed_none a p; text = λ rest. ap run_lines (join_same r s rest (eq-eqb (status_byte r.status) (status_byte s.status) e)) }

pub takes_other : {a b : Stream} {p q : List ℕ} (r s : Run) → (status_byte r.status ≡ status_byte s.status → ⊥) → Passed a b p q (run_line r) → TakesRun a b p q r s s
takes_other r s e h = record { done = run_line r; passed = h; text = λ rest. ap run_lines (join_other r s rest (ne_eqb (status_byte r.status) (status_byte s.status) e)) }

pub other_fails : {a b : Stream} {p : List ℕ} (r s : Run) → (status_byte r.status ≡ status_byte s.status → ⊥) → FailedPast a b p (run_line r) → (rest : List Run) → FailedPast a b p (run_lines (joined_run r (joined_run s rest)))
other_fails {a} {b} {p} r s e h rest =
    subst (FailedPast a b p) (ap run_lines (sym (join_other r s rest (ne_eqb (status_byte r.status) (status_byte s.status) e)))) (fails_before (run_lines (joined_run s rest)) h)

pub failed_at_end : {a b c : Stream} {p q x : List ℕ} → p ≡ [] → Passed a b p q x → Failed b c q → Failed a c x
failed_at_end {a} {b} {c} {p} {q} {x} none h g = failed_last _ _ _ _ _ (subst (λ (l : List ℕ). Passed a b l q x) none h) g

pub wrote_all : {a b c : Stream} {p q x : List ℕ} → p ≡ [] → Passed a b p q x → Wrote b c q → Wrote a c x
wrote_all {a} {b} {c} {q = q} {x = x} none h g =
    let whole : x ≡ h.out ++ q = sym (ap (λ (l : List ℕ). l ++ x) none) ∙ h.whole in
    record { given = subst (Appends a.contents c.contents) (sym whole) (Appends-trans a.contents b.contents c.contents h.out q h.given g.given); kept = g.kept ∙ h.kept }
