-- A mapfile that was written is read back.
use Rattle.std.specs.Prelude.{◌↔◌, ◌^◌, ◌&&◌, not, Contains}
use Rattle.std.proofs.Common.{◌≡◌, ◌⊎◌, inl, inr, ⊎_elim, ℕ, zero, suc, ◌+◌, ◌*◌, ◌<◌, ◌≤◌, Bool, true, false, cond, List, [], ◌∷◌, ◌++◌, Option, None, Some, Ok, Err, length, eqb, ltb, refl, sym, ap, subst, ◌∙◌, arith, append_assoc, append-nil}
use Rattle.std.proofs.lemmas.Bool.{cases_lt, eq-eqb, ne_eqb, eqb-true, lt-ltb}
use Rattle.std.proofs.lemmas.Bool.Decides.{nat_tests}
use Rattle.udfs_lattice.specs.declared.facts.Fact.TheVariants.{Unknown, Known, Conflict}
use Rattle.udfs_lattice.specs.States.{State}
use Rattle.udfs_lattice.specs.Tables.{state_of}
use Rattle.udfs_rescue.specs.declared.fault.MapFault.TheVariants.{NotPass}
use Rattle.udfs_rescue.specs.declared.run.Run.{Run}
use Rattle.udfs_rescue.specs.declared.run.RunStatus.{RunStatus}
use Rattle.udfs_rescue.specs.declared.run.RunStatus.TheVariants.{NonTried, NonTrimmed, NonScraped, BadSector, Finished}
use Rattle.udfs_rescue.specs.Lines.{Progress, mark, is_mark, text_of, lines_of, outcome, after_lines, after_line, after_text, after_words, after_run, next_line, line_before, ended, is_due, unlike}
use Rattle.udfs_rescue.specs.Writing.{status_byte, joined_run, block_run, runs_of_blocks, run_line, run_lines, made_by, mark_line, status_line, map_text, wanted_status, table_status, state_status}
use Rattle.udfs_rescue.specs.Words.{words}
use Rattle.udfs_rescue.specs.Known.{IsRescued, IsKnown}
use Rattle.udfs_rescue.specs.ReadBack.{MapReadsBack, DomainIsRefused, DomainReadsBack, ImageMapReadsBack}
use Rattle.udfs_rescue.proofs.LineLemmas.{line_ok}
use Rattle.udfs_rescue.proofs.PairTables.{none_in, cons_cases, cons_head, cons_tail}
use Rattle.udfs_rescue.proofs.ReadBack.{line_text, line_is, line_of, written_line, text_is, line_words, line_long, run_is, no_mark_line}

chosen : {A : Type 0} (t u : Bool) (x y : A) → t ≡ u → cond t x y ≡ cond u x y
chosen t u x y e = ap (λ s. cond s x y) e

-- ---- one line after another

-- behind the status line and these runs
abbrev behind : Option ℕ → List Run → Progress
behind due runs = record { begun = true; due = due; runs = runs }

-- runs that may follow, each with some bytes
abbrev Follow : Option ℕ → List Run → Type 0
Follow due [] = Unit {0}
Follow due (r ∷ rs) = (is_due due r.at ≡ true) × (0 < r.size) × (r.at + r.size < 2 ^ 36) × Follow (Some (r.at + r.size)) rs

takes : {A : Type 0} (t u v w : Bool) (a b c d : A) → t ≡ true → u ≡ true → v ≡ false → cond (not t) a (cond (not u) b (cond (v && w) c d)) ≡ d
takes true true false w a b c d e f g = refl
takes true true true w a b c d e f g = absurd cc
takes true false v w a b c d e f g = absurd cc
takes false u v w a b c d e f g = absurd cc

run_taken : (due : Option ℕ) (runs : List Run) (r : Run) → is_due due r.at ≡ true → 0 < r.size → r.at + r.size < 2 ^ 36 → after_run (behind due runs) (Some r) ≡ Ok (behind (Some (r.at + r.size)) (runs ++ r ∷ []))
run_taken due runs r is some few = takes (ltb (r.at + r.size) (2 ^ 63)) (is_due due r.at) (eqb r.size 0) (not (eqb r.at 0)) _ _ _ _ (lt-ltb _ _ (omega (arith, few))) is (ne_eqb r.size 0 (λ e. omega (arith, e, some)))

text_taken : (due : Option ℕ) (runs : List Run) (r : Run) → is_due due r.at ≡ true → 0 < r.size → r.at + r.size < 2 ^ 36 → after_text (behind due runs) (text_of (line_text r)) ≡ Ok (behind (Some (r.at + r.size)) (runs ++ r ∷ []))
text_taken due runs r is some few =
    let long : length (line_text r) < 128 = line_long r in
    let fits : ltb 127 (length (line_text r)) ≡ false = grind (arith, nat_tests) in
    ap (after_text (behind due runs)) (text_is r)
    ∙ chosen (ltb 127 (length (line_text r))) false (Err (unlike (behind due runs))) (after_words (behind due runs) (words (line_text r))) fits
    ∙ ap (after_words (behind due runs)) (line_words r)
    ∙ ap (after_run (behind due runs)) (run_is r (omega (arith, few)) (omega (arith, few)))
    ∙ run_taken due runs r is some few

line_taken : (due : Option ℕ) (runs : List Run) (r : Run) → is_due due r.at ≡ true → 0 < r.size → r.at + r.size < 2 ^ 36 → after_line (behind due runs) (line_text r) ≡ Ok (behind (Some (r.at + r.size)) (runs ++ r ∷ []))
line_taken due runs r is some few =
    chosen (is_mark (line_text r)) false (Err NotPass) (after_text (behind due runs) (text_of (line_text r))) (no_mark_line r) ∙ text_taken due runs r is some few

has_runs : (n : ℕ) (runs : List Run) → 0 < length runs → ended n runs ≡ Ok runs
has_runs n runs some = chosen (eqb (length runs) 0) false _ (Ok runs) (ne_eqb (length runs) 0 (λ e. omega (arith, e, some)))

lines_taken : (n : ℕ) (due : Option ℕ) (runs rs : List Run) → Follow due rs → 0 < length (runs ++ rs) → after_lines n (behind due runs) (lines_of (run_lines rs)) ≡ Ok (runs ++ rs)
unfolding is_mark mark
lines_taken n due runs [] h some = has_runs (line_before (next_line n)) runs (subst (λ l. 0 < length l) (append-nil runs) some) ∙ ap Ok (sym (append-nil runs))
lines_taken n due runs (r ∷ rs) h some =
    line_ok n (behind due runs) (behind (Some (r.at + r.size)) (runs ++ r ∷ [])) (line_text r) (lines_of (run_line r ++ run_lines rs)) (lines_of (run_lines rs))
    (ap lines_of (line_is r (run_lines rs)) ∙ line_of (line_text r) (run_lines rs) (written_line r))
    (line_taken due runs r h.0 h.1 h.2)
    ∙ lines_taken (next_line n) (Some (r.at + r.size)) (runs ++ r ∷ []) rs h.3 (subst (λ l. 0 < length l) (sym (append_assoc runs (r ∷ []) rs)) some)
    ∙ ap Ok (append_assoc runs (r ∷ []) rs)

headed : (rest : List ℕ) → outcome ((made_by ++ status_line) ++ rest) ≡ after_lines 3 (behind None []) (lines_of rest)
unfolding made_by status_line mark is_mark
headed rest = refl

-- ---- the runs of blocks

-- the runs cover the bytes from one position to another, each with some bytes
abbrev Tiled : ℕ → List Run → ℕ → Type 0
Tiled p [] e = p ≡ e
Tiled p (r ∷ rs) e = (r.at ≡ p) × (0 < r.size) × Tiled (p + r.size) rs e

tiled_up : (p : ℕ) (rs : List Run) (e : ℕ) → Tiled p rs e → p ≤ e
tiled_up p [] e h = omega (arith, h)
tiled_up p (r ∷ rs) e h = omega (arith, tiled_up (p + r.size) rs e h.2)

some_tiled : (p : ℕ) (rs : List Run) (e : ℕ) → Tiled p rs e → p < e → 0 < length rs
some_tiled p [] e h low = absurd (omega (arith, h, low))
some_tiled p (r ∷ rs) e h low = omega arith

follow : (due : Option ℕ) (p : ℕ) (rs : List Run) (e : ℕ) → Tiled p rs e → e < 2 ^ 36 → is_due due p ≡ true → Follow due rs
follow due p [] e h few is = tt
follow due p (r ∷ rs) e h few is =
    let up : p + r.size ≤ e = tiled_up (p + r.size) rs e h.2 in
    let same : p + r.size ≡ r.at + r.size = omega (arith, h.0) in
    (subst (λ n. is_due due n ≡ true) (sym h.0) is, h.1, omega (arith, up, few, h.0), follow (Some (r.at + r.size)) (p + r.size) rs e h.2 few (eq-eqb (r.at + r.size) (p + r.size) (sym same)))

tiled_by : (t : Bool) (p : ℕ) (r s : Run) (ss : List Run) (e : ℕ) → r.at ≡ p → 0 < r.size → Tiled (p + r.size) (s ∷ ss) e
    → Tiled p (cond t (record { at = r.at; size = r.size + s.size; status = r.status } ∷ ss) (r ∷ s ∷ ss)) e
tiled_by true p r s ss e is some h = (is, omega (arith, some), subst (λ n. Tiled n ss e) (omega arith) h.2)
tiled_by false p r s ss e is some h = (is, some, h)

tiled_joined : (p : ℕ) (r : Run) (rs : List Run) (e : ℕ) → r.at ≡ p → 0 < r.size → Tiled (p + r.size) rs e → Tiled p (joined_run r rs) e
tiled_joined p r [] e is some h = (is, some, h)
tiled_joined p r (s ∷ ss) e is some h = tiled_by (eqb (status_byte r.status) (status_byte s.status)) p r s ss e is some h

blocks_tile : (status : ℕ → RunStatus) (n k : ℕ) → Tiled (2048 * n) (runs_of_blocks status n k) (2048 * (n + k))
blocks_tile status n zero = omega arith
blocks_tile status n (suc k) =
    let more : Tiled (2048 * (n + 1)) (runs_of_blocks status (n + 1) k) (2048 * ((n + 1) + k)) = blocks_tile status (n + 1) k in
    let next : 2048 * (n + 1) ≡ 2048 * n + 2048 = omega arith in
    let end : 2048 * ((n + 1) + k) ≡ 2048 * (n + suc k) = omega arith in
    tiled_joined (2048 * n) (block_run status n) (runs_of_blocks status (n + 1) k) (2048 * (n + suc k)) refl (omega arith)
    (subst (λ p. Tiled p (runs_of_blocks status (n + 1) k) (2048 * (n + suc k))) next (subst (λ e. Tiled (2048 * (n + 1)) (runs_of_blocks status (n + 1) k) e) end more))

reads : (status : ℕ → RunStatus) (last : ℕ) → last ≤ 4194303 → outcome (map_text status last) ≡ Ok (runs_of_blocks status 0 (last + 1))
reads status last low =
    let tiled = blocks_tile status 0 (last + 1) in
    headed (run_lines (runs_of_blocks status 0 (last + 1)))
    ∙ lines_taken 3 None [] (runs_of_blocks status 0 (last + 1)) (follow None (2048 * 0) (runs_of_blocks status 0 (last + 1)) (2048 * (0 + (last + 1))) tiled (omega (arith, low)) refl)
    (some_tiled (2048 * 0) (runs_of_blocks status 0 (last + 1)) (2048 * (0 + (last + 1))) tiled (omega arith))

-- ---- what is rescued in them

is_finished : (s : RunStatus) → status_byte s ≡ 43 → s ≡ Finished
is_finished NonTried e = absurd (omega (arith, e))
is_finished NonTrimmed e = absurd (omega (arith, e))
is_finished NonScraped e = absurd (omega (arith, e))
is_finished BadSector e = absurd (omega (arith, e))
is_finished Finished e = refl

same_status : (s t : RunStatus) → status_byte s ≡ status_byte t → s ≡ Finished → t ≡ Finished
same_status s t e f = is_finished t (sym e ∙ ap status_byte f)

rescued_by : (t : Bool) (r s : Run) (ss : List Run) (j : ℕ) → eqb (status_byte r.status) (status_byte s.status) ≡ t → s.at ≡ r.at + r.size
    → IsRescued (cond t (record { at = r.at; size = r.size + s.size; status = r.status } ∷ ss) (r ∷ s ∷ ss)) j ↔ IsRescued (r ∷ s ∷ ss) j
rescued_by true r s ss j e at =
    let same : status_byte r.status ≡ status_byte s.status = eqb-true (status_byte r.status) (status_byte s.status) e in (
      λ h. ⊎_elim
          (λ a. ⊎_elim (λ first. inl (a.0, a.1, first)) (λ second. inr (inl (same_status r.status s.status same a.0, omega (arith, at, second), omega (arith, at, a.2)))) (cases_lt j (r.at + r.size)))
          (λ b. inr (inr b))
          h,
      λ h. ⊎_elim
          (λ a. inl (a.0, a.1, omega (arith, a.2)))
          (λ b. ⊎_elim (λ c. inl (same_status s.status r.status (sym same) c.0, omega (arith, at, c.1), omega (arith, at, c.2))) (λ c. inr c) b)
          h,
    )
rescued_by false r s ss j e at = (λ h. h, λ h. h)

joined_rescued : (r : Run) (rs : List Run) (e j : ℕ) → Tiled (r.at + r.size) rs e → IsRescued (joined_run r rs) j ↔ IsRescued (r ∷ rs) j
joined_rescued r [] e j h = (λ k. k, λ k. k)
joined_rescued r (s ∷ ss) e j h = rescued_by (eqb (status_byte r.status) (status_byte s.status)) r s ss j refl h.0

-- the byte is in a block of status +, of these blocks
record InBlocks (status : ℕ → RunStatus) (n k j : ℕ) : Type 0 where
  block : ℕ
  from : n ≤ block
  to : block < n + k
  good : status block ≡ Finished
  low : 2048 * block ≤ j
  high : j < 2048 * block + 2048

split : (status : ℕ → RunStatus) (n k j : ℕ) → IsRescued (runs_of_blocks status n (suc k)) j ↔ IsRescued (block_run status n ∷ runs_of_blocks status (n + 1) k) j
split status n k j =
    let more : Tiled (2048 * (n + 1)) (runs_of_blocks status (n + 1) k) (2048 * ((n + 1) + k)) = blocks_tile status (n + 1) k in
    let next : 2048 * (n + 1) ≡ 2048 * n + 2048 = omega arith in
    joined_rescued (block_run status n) (runs_of_blocks status (n + 1) k) (2048 * ((n + 1) + k)) j (subst (λ p. Tiled p (runs_of_blocks status (n + 1) k) (2048 * ((n + 1) + k))) next more)

in_blocks : (status : ℕ → RunStatus) (n k j : ℕ) → IsRescued (runs_of_blocks status n k) j → InBlocks status n k j
in_blocks status n zero j h = absurd h
in_blocks status n (suc k) j h =
    ⊎_elim
    (λ a. record { block = n; from = omega arith; to = omega arith; good = a.0; low = a.1; high = a.2 })
    (λ b. let x = in_blocks status (n + 1) k j b in record { block = x.block; from = omega (arith, x.from); to = omega (arith, x.to); good = x.good; low = x.low; high = x.high })
    ((split status n k j).0 h)

of_blocks : (status : ℕ → RunStatus) (n k j : ℕ) → InBlocks status n k j → IsRescued (runs_of_blocks status n k) j
of_blocks status n zero j h = absurd (omega (arith, h.from, h.to))
of_blocks status n (suc k) j h =
    (split status n k j).1
    (⊎_elim
    (λ later. inr (of_blocks status (n + 1) k j (record { block = h.block; from = omega (arith, later); to = omega (arith, h.to); good = h.good; low = h.low; high = h.high })))
    (λ here. let same : h.block ≡ n = omega (arith, here, h.from) in inl (subst (λ m. status m ≡ Finished) same h.good, omega (arith, same, h.low), omega (arith, same, h.high)))
    (cases_lt n h.block))

known_are : (status : ℕ → RunStatus) (last n : ℕ) → IsKnown (runs_of_blocks status 0 (last + 1)) n ↔ ((n ≤ last) × (status n ≡ Finished))
known_are status last n = (
  λ k. let x = in_blocks status 0 (last + 1) (2048 * n + 0) (k 0 (omega arith)) in
      let same : x.block ≡ n = omega (arith, x.low, x.high) in
      (omega (arith, same, x.to), subst (λ m. status m ≡ Finished) same x.good),
  λ h i few. of_blocks status 0 (last + 1) (2048 * n + i) (record { block = n; from = omega arith; to = omega (arith, h.0); good = h.1; low = omega arith; high = omega (arith, few) }),
)

pub map_reads_back : MapReadsBack
map_reads_back status last low = record { runs = runs_of_blocks status 0 (last + 1); says = reads status last low; exactly = known_are status last }

-- ---- of a list, and of a table

wanted_by : (t : Bool) (x : ℕ) (xs : List ℕ) (n : ℕ) → eqb x n ≡ t → cond t Finished (wanted_status xs n) ≡ Finished → (wanted_status xs n ≡ Finished → Contains xs n) → Contains (x ∷ xs) n
wanted_by true x xs n e f h = subst (λ m. Contains (m ∷ xs) n) (sym (eqb-true x n e)) (cons_head n xs)
wanted_by false x xs n e f h = cons_tail x xs n (h f)

is_among : (xs : List ℕ) (n : ℕ) → wanted_status xs n ≡ Finished → Contains xs n
is_among [] n e = absurd cc
is_among (x ∷ xs) n e = wanted_by (eqb x n) x xs n refl e (is_among xs n)

found_by : (t : Bool) (s : RunStatus) → (t ≡ true) ⊎ (s ≡ Finished) → cond t Finished s ≡ Finished
found_by true s h = refl
found_by false s (inl e) = absurd cc
found_by false s (inr e) = e

is_wanted : (xs : List ℕ) (n : ℕ) → Contains xs n → wanted_status xs n ≡ Finished
is_wanted [] n h = absurd (none_in n h)
is_wanted (x ∷ xs) n h = found_by (eqb x n) (wanted_status xs n) (⊎_elim (λ e. inl (eq-eqb x n e)) (λ c. inr (is_wanted xs n c)) (cons_cases x xs n h))

pub domain_is_refused : DomainIsRefused
unfolding made_by mark_line mark is_mark
domain_is_refused wanted last = refl

pub domain_reads_back : DomainReadsBack
unfolding made_by mark_line status_line mark
domain_reads_back wanted last low =
    let h = map_reads_back (wanted_status wanted) last low in
    record {
      before = made_by;
      behind = status_line ++ run_lines (runs_of_blocks (wanted_status wanted) 0 (last + 1));
      whole = refl;
      without = record {
        runs = h.runs;
        says = h.says;
        exactly = λ n. (
          λ k. let a = (h.exactly n).0 k in (a.0, is_among wanted n a.1),
          λ k. (h.exactly n).1 (k.0, is_wanted wanted n k.1),
        );
      };
    }

its_bytes : (s : State) → state_status s ≡ Finished → (bytes : List ℕ) × (s ≡ Known bytes)
its_bytes Unknown e = absurd cc
its_bytes (Known b) e = (b, refl)
its_bytes Conflict e = absurd cc

pub image_map_reads_back : ImageMapReadsBack
image_map_reads_back t last low =
    let h = map_reads_back (table_status t) last low in
    record {
      runs = h.runs;
      says = h.says;
      exactly = λ n. (
        λ k. let a = (h.exactly n).0 k in (a.0, its_bytes (state_of t n) a.1),
        λ k. (h.exactly n).1 (k.0, ap state_status k.1.1),
      );
    }
