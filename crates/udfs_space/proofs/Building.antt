-- The spans of partitions, one after the other.
use Rattle.std.proofs.Common.{◌≡◌, refl, ◌∙◌, ap, sym, ℕ, List, [], ◌∷◌, ◌++◌, All, map, length, append_assoc}
use Rattle.std.specs.Prelude.{suc, Contains}
use Rattle.std.proofs.lemmas.List.Elements.{All-nil, All-cons}
use Rattle.udfs_lattice.specs.Volumes.{Blocks}
use Rattle.udfs_lattice.proofs.Inclusion.{here, there}
use Rattle.udfs_volume.specs.declared.faults.VolumeFault.{VolumeFault}
use Rattle.udfs_volume.specs.Answers.{Answer, found, holes, faulty, and_then}
use Rattle.udfs_volume.specs.Layout.{Layout, Partition}
use Rattle.udfs_space.proofs.Facts.{and_then-found, found_same}
use Rattle.udfs_space.specs.Sparing.{Space, Spans, Span, counted, space, span, spans}

-- with spans that stand before
abbrev pub after : Spans → Answer Spans → Answer Spans
after front (found rest) = found (front ++ rest)
after front (holes blocks) = holes blocks
after front (faulty fault) = faulty fault

pub after-none : (a : Answer Spans) → after [] a ≡ a
after-none (found rest) = refl
after-none (holes blocks) = refl
after-none (faulty fault) = refl

after-cons : (front : Spans) (s : Span) (a : Answer Spans) → after front (and_then a (λ ss. found (s ∷ ss))) ≡ after (front ++ s ∷ []) a
after-cons front s (found rest) = ap found (sym (append_assoc front (s ∷ []) rest))
after-cons front s (holes blocks) = refl
after-cons front s (faulty fault) = refl

-- the next span is found
pub after-found : (b : Blocks) (last : ℕ) (p : Partition) (ps : List Partition) (front : Spans) (s : Span) (x : Answer Spans) → span b last p ≡ found s
    → after front (spans b last (p ∷ ps)) ≡ x → after (front ++ s ∷ []) (spans b last ps) ≡ x
after-found b last p ps front s x e h = sym (ap (λ a. after front (and_then a (λ s. and_then (spans b last ps) (λ ss. found (s ∷ ss))))) e ∙ after-cons front s (spans b last ps)) ∙ h

pub after-holes : (b : Blocks) (last : ℕ) (p : Partition) (ps : List Partition) (front : Spans) (blocks : List ℕ) (x : Answer Spans) → span b last p ≡ holes blocks
    → after front (spans b last (p ∷ ps)) ≡ x → x ≡ holes blocks
after-holes b last p ps front blocks x e h = sym h ∙ ap (λ a. after front (and_then a (λ s. and_then (spans b last ps) (λ ss. found (s ∷ ss))))) e

pub after-faulty : (b : Blocks) (last : ℕ) (p : Partition) (ps : List Partition) (front : Spans) (f : VolumeFault) (x : Answer Spans) → span b last p ≡ faulty f
    → after front (spans b last (p ∷ ps)) ≡ x → x ≡ faulty f
after-faulty b last p ps front f x e h = sym h ∙ ap (λ a. after front (and_then a (λ s. and_then (spans b last ps) (λ ss. found (s ∷ ss))))) e

-- ---- what holds of each partition
pub all_bounded : {A : Type 0} (P : Partition → Type 0) (f : A → Partition) (xs : List A) → ((p : Partition) → Contains (map f xs) p → P p) → All (λ x. P (f x)) xs
all_bounded P f [] h = All-nil (λ x. P (f x))
all_bounded P f (x ∷ xs) h = All-cons (λ x. P (f x)) x xs (h (f x) (here (f x) (map f xs))) (all_bounded P f xs (λ p i. h p (there (f x) (map f xs) p i)))

-- a span for each partition
pub as_many : (b : Blocks) (last : ℕ) (ps : List Partition) (ss : Spans) → spans b last ps ≡ found ss → length ss ≡ length ps
as_many b last [] ss e = ap length (sym (found_same [] ss e))
as_many b last (p ∷ ps) ss e =
    let q : (x : Span) × (span b last p ≡ found x) × (and_then (spans b last ps) (λ xs. found (x ∷ xs)) ≡ found ss) = and_then-found (span b last p) (λ x. and_then (spans b last ps) (λ xs. found (x ∷ xs))) ss e in
    let r : (xs : Spans) × (spans b last ps ≡ found xs) × (found (q.0 ∷ xs) ≡ found ss) = and_then-found (spans b last ps) (λ xs. found (q.0 ∷ xs)) ss q.2 in
    ap length (sym (found_same (q.0 ∷ r.0) ss r.2)) ∙ ap suc (as_many b last ps r.0 r.1)

-- the spans of a layout as its space
abbrev pub in_space : Layout → Answer Spans → Answer Space
in_space l a = and_then a (λ ss. found (record { spans = ss; profile = l.profile }))

pub space_by : {A : Type 0} (b : Blocks) (l : Layout) (f : A → Partition) (ds xs : List A) (a : Answer Spans) → ds ≡ xs → l.partitions ≡ map f xs
    → spans b l.last (map (counted l.profile b) (map f ds)) ≡ a → space b l ≡ in_space l a
unfolding space
space_by b l f ds xs a d p e = ap (in_space l) (ap (λ ps. spans b l.last (map (counted l.profile b) ps)) (p ∙ ap (map f) (sym d)) ∙ e)
