-- The lines of a manifest, one after another; and that a file with them is put.
use Rattle.std.proofs.Common.{◌≡◌, ◌≢◌, ◌⊎◌, ◌∙◌, ◌+◌, ◌<◌, ◌≤◌, ℕ, zero, suc, List, [], ◌∷◌, ◌++◌, Bool, Option, Some, None, ap, append_assoc, arith, get_or, inl, inr, length, map, refl, slice_get, sym, take, ⊎_elim}
use Rattle.std.specs.Io.KnownBytes.{Appends}
use Rattle.std.proofs.lemmas.List.{append-nil, take_more}
use Rattle.udfs_host_fs.specs.Disk.{Disk, Goes, Replaced}
use Rattle.udfs_host_fs.specs.Jobs.{HoldsSome, LeavesSome, ReplacedBySome}
use Rattle.udfs_host_fs.specs.declared.replacing.JobError.{JobError}
use Rattle.udfs_host_fs.specs.declared.replacing.JobError.TheVariants.{Files, Refused, RefusedLeft}
use Rattle.udfs_host_fs.specs.declared.replacing.ReplaceError.TheVariants.{LeftBehind, NotKept, NotMade, NotWritten, OutOfMemory}
use Rattle.udfs_common.specs.Keeping.{IsKept}
use Rattle.udfs_salvage.specs.Reports.{Report}
use Rattle.udfs_extraction.specs.Manifests.{note_text, notes_text}
use Rattle.udfs_extraction.specs.declared.manifest.Noted.{Noted}
use Rattle.udfs_extraction.proofs.ManifestLemmas.{notes_more}

-- ---- line by line

-- what is written behind what was written
pub more_appended : (a b c : Option (List ℕ)) (p q : List ℕ) → Appends a b p → Appends b c q → Appends a c (p ++ q)
more_appended None b c p q h k = tt
more_appended (Some x) None c p q h k = absurd h
more_appended (Some x) (Some y) None p q h k = absurd k
more_appended (Some x) (Some y) (Some z) p q h k = k ∙ ap (λ t. t ++ q) h ∙ append_assoc x p q

-- the lines so far, and the next one
pub next_note : (short : Bool) (report : Report) (xs : List Noted) (i : ℕ) (x : Noted) → i < length xs
    → notes_text short report (take i xs) ++ note_text short report (get_or xs i x) ≡ notes_text short report (take (i + 1) xs)
next_note short report xs i x h =
    ap (λ t. notes_text short report (take i xs) ++ t) (sym (append-nil (note_text short report (get_or xs i x)))) ∙ sym (notes_more short report (take i xs) (get_or xs i x ∷ []))
    ∙ ap (notes_text short report) (sym (take_more xs i x h))

-- what is out and what is held, once a line was held and some of all was written
pub next_line : (out poured held text still line next : List ℕ) → out ++ held ≡ text → held ++ line ≡ poured ++ still → text ++ line ≡ next → (out ++ poured) ++ still ≡ next
next_line out poured held text still line next e f h =
    append_assoc out poured still ∙ ap (λ t. out ++ t) (sym f) ∙ sym (append_assoc out held line) ∙ ap (λ t. t ++ line) e ∙ h

-- ---- a node is there, or none

pub found_at : {A : Type 0} (f : A → A) (xs : List A) (i : ℕ) → i < length xs → (m : A) × (slice_get (map f xs) i ≡ Some m)
found_at f [] i below = absurd (let none : ⊥ = omega (arith, below) in none)
found_at f (x ∷ xs) zero below = (f x, refl)
found_at f (x ∷ xs) (suc i) below = found_at f xs i (omega (arith, below))

pub none_at : {A : Type 0} (f : A → A) (xs : List A) (i : ℕ) → length xs ≤ i → slice_get (map f xs) i ≡ None
none_at f [] i few = refl
none_at f (x ∷ xs) zero few = absurd (let none : ⊥ = omega (arith, few) in none)
none_at f (x ∷ xs) (suc i) few = none_at f xs i (omega (arith, few))

-- ---- the file is put

-- the path holds the text
pub job_holds : (h : Option (Option (List ℕ))) (text : List ℕ) → HoldsSome (λ b. Appends (Some []) (Some b) text) h → h ≡ Some (Some text)
job_holds h text held = held.2 ∙ ap (λ (b : List ℕ). Some (Some b)) held.1

-- after an error it holds that only if the text is not kept for sure, and else what it held
pub job_stands : (A B : Type 0) (X : Type 0) (error : JobError X) → (error ≢ Files NotKept → A) → (error ≡ Files NotKept → B) → A ⊎ B
job_stands A B X (Files NotKept) refused kept = inr (kept refl)
job_stands A B X (Files OutOfMemory) refused kept = inl (refused (λ e. cc))
job_stands A B X (Files NotMade) refused kept = inl (refused (λ e. cc))
job_stands A B X (Files NotWritten) refused kept = inl (refused (λ e. cc))
job_stands A B X (Files LeftBehind) refused kept = inl (refused (λ e. cc))
job_stands A B X (Refused x) refused kept = inl (refused (λ e. cc))
job_stands A B X (RefusedLeft x) refused kept = inl (refused (λ e. cc))

-- the path holds the text, and each crash leaves it
pub job_kept : (holds : List ℕ → Option (Option (List ℕ))) (may_leave : Disk → Type 0) (path text : List ℕ) → HoldsSome (λ b. Appends (Some []) (Some b) text) (holds path)
    → ((c : Disk) → may_leave c → LeavesSome (λ b. Appends (Some []) (Some b) text) (c path)) → IsKept holds may_leave path text
job_kept holds may_leave path text held durable = record {
  held = job_holds (holds path) text held;
  durable = λ c left. let some = durable c left in some.2 ∙ ap Some some.1;
}

-- a crash leaves the text, or what was there
pub job_goes : {F : Type 0} (moment : F → ℕ) (may_leave : F → Disk → Type 0) (left_since : F → ℕ → Disk → Type 0) (path text : List ℕ) (old new : F)
    → Goes moment may_leave left_since old new (ReplacedBySome path (λ b. Appends (Some []) (Some b) text)) → Goes moment may_leave left_since old new (Replaced path text)
job_goes moment may_leave left_since path text old new goes = record {
  later = goes.later;
  now = λ c left. let after = goes.now c left in (after.0, after.1, same after.0 c after.2);
  since = λ t c le left. ⊎_elim (λ long. inl long) (λ after. inr (after.0, after.1, same after.0 c after.2)) (goes.since t c le left);
  keeps = goes.keeps;
}
  where
    same : (d c : Disk) → ReplacedBySome path (λ b. Appends (Some []) (Some b) text) d c → Replaced path text d c
    same d c by = record { whole = ⊎_elim (λ was. inl was) (λ some. inr (some.2 ∙ ap Some some.1)) by.whole; others = by.others }
