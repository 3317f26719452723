-- Entries without a fault: the used ones are whole packets, each once.
use Rattle.std.proofs.Common.{◌≡◌, refl, ℕ, ◌+◌, ◌%◌, ◌<◌, ◌≤◌, Bool, true, false, not, cond, List, [], ◌∷◌, filter, ◌&&◌, ◌||◌, arith, All, nat_eq, nat_lt, Some, None}
use Rattle.std.specs.Prelude.{zero, suc}
use Rattle.std.specs.List.{list_any}
use Rattle.std.proofs.lemmas.List.Elements.{All-nil, All-cons, All-head, All-tail, All-weaker}
use Rattle.udfs_tag.specs.Faults.{is_within}
use Rattle.udfs_volume.specs.declared.faults.VolumeFault.{VolumeFault}
use Rattle.udfs_space.specs.declared.entries.SparingEntry.{SparingEntry}
use Rattle.udfs_space.specs.Parts.{AreSound, IsSoundEntry, OriginalsRise, entries_fault}
use Rattle.udfs_space.specs.Sparing.{breaks_order, is_bad_original, is_out_of_order, is_used, passes_end}

either_false : (a b : Bool) → (a || b) ≡ false → (a ≡ false) × (b ≡ false)
either_false true b e = absurd (let z : ⊥ = cc in z)
either_false false b e = (refl, e)

under : (a b : Bool) → a ≡ true → (a && b) ≡ false → b ≡ false
under true b t e = e
under false b t e = absurd (let z : ⊥ = cc in z)

not_false : (a : Bool) → not a ≡ false → a ≡ true
not_false true e = refl
not_false false e = absurd (let z : ⊥ = cc in z)

same_if : (a b : ℕ) → nat_eq a b ≡ true → a ≡ b
same_if a b e = grind arith

fits_if : (a b : ℕ) → nat_lt a b ≡ false → b ≤ a
fits_if a b e = grind arith

less_if : (a b : ℕ) → b ≤ a → nat_eq a b ≡ false → b < a
less_if a b h e = grind arith

-- ---- the originals rise
no_less : (e f : SparingEntry) → breaks_order e f ≡ false → e.original ≤ f.original
no_less e f h = fits_if f.original e.original (either_false (nat_lt f.original e.original) (is_used e && nat_eq f.original e.original) h).0

less : (e f : SparingEntry) → is_used e ≡ true → breaks_order e f ≡ false → e.original < f.original
less e f u h = less_if f.original e.original (no_less e f h)
    (under (is_used e) (nat_eq f.original e.original) u (either_false (nat_lt f.original e.original) (is_used e && nat_eq f.original e.original) h).1)

at_least : (e : SparingEntry) (es : List SparingEntry) → is_out_of_order (e ∷ es) ≡ false → All (λ f. e.original ≤ f.original) es
at_least e [] h = All-nil (λ f. e.original ≤ f.original)
at_least e (f ∷ rest) h = let q : (breaks_order e f ≡ false) × (is_out_of_order (f ∷ rest) ≡ false) = either_false (breaks_order e f) (is_out_of_order (f ∷ rest)) h in
    let here : e.original ≤ f.original = no_less e f q.0 in
    All-cons (λ f. e.original ≤ f.original) f rest here (All-weaker (λ g. f.original ≤ g.original) (λ g. e.original ≤ g.original) (λ g l. omega (arith, here, l)) rest (at_least f rest q.1))

above : (e : SparingEntry) (es : List SparingEntry) → is_used e ≡ true → is_out_of_order (e ∷ es) ≡ false → All (λ f. e.original < f.original) es
above e [] u h = All-nil (λ f. e.original < f.original)
above e (f ∷ rest) u h = let q : (breaks_order e f ≡ false) × (is_out_of_order (f ∷ rest) ≡ false) = either_false (breaks_order e f) (is_out_of_order (f ∷ rest)) h in
    let here : e.original < f.original = less e f u q.0 in
    All-cons (λ f. e.original < f.original) f rest here (All-weaker (λ g. f.original ≤ g.original) (λ g. e.original < g.original) (λ g l. omega (arith, here, l)) rest (at_least f rest q.1))

all-filter : (P : SparingEntry → Type 0) (test : SparingEntry → Bool) (es : List SparingEntry) → All P es → All P (filter test es)
all-filter P test [] h = All-nil P
all-filter P test (e ∷ es) h = go (test e) (all-filter P test es (All-tail P e es h))
  where
    go : (b : Bool) → All P (filter test es) → All P (cond b (e ∷ filter test es) (filter test es))
    go true later = All-cons P e (filter test es) (All-head P e es h) later
    go false later = later

rises-cons : (e : SparingEntry) (es : List SparingEntry) → All (λ f. e.original < f.original) es → OriginalsRise es → OriginalsRise (e ∷ es)
rises-cons e es a r i zero d l k = absurd (let z : ⊥ = omega (arith, l) in z)
rises-cons e es a r zero (suc j) d l k = a j d (omega (arith, k))
rises-cons e es a r (suc i) (suc j) d l k = r i j d (omega (arith, l)) (omega (arith, k))

rises-nil : OriginalsRise []
rises-nil i j d l k = absurd (let z : ⊥ = omega (arith, k) in z)

behind_first : (e : SparingEntry) (es : List SparingEntry) → is_out_of_order (e ∷ es) ≡ false → is_out_of_order es ≡ false
behind_first e [] h = refl
behind_first e (f ∷ rest) h = (either_false (breaks_order e f) (is_out_of_order (f ∷ rest)) h).1

used_rise : (es : List SparingEntry) → is_out_of_order es ≡ false → OriginalsRise (filter is_used es)
used_rise [] h = rises-nil
used_rise (e ∷ es) h = go (is_used e) refl (used_rise es (behind_first e es h))
  where
    go : (b : Bool) → is_used e ≡ b → OriginalsRise (filter is_used es) → OriginalsRise (cond b (e ∷ filter is_used es) (filter is_used es))
    go true u later = rises-cons e (filter is_used es) (all-filter (λ f. e.original < f.original) is_used es (above e es u h)) later
    go false u later = later

-- ---- each used one is a whole packet within the blocks that there may be
whole : (packet : ℕ) (e : SparingEntry) (other : Bool) → is_used e ≡ true → (other || is_used e && not (nat_eq (e.original % packet) 0)) ≡ false → e.original % packet ≡ 0
whole packet e other u h = same_if (e.original % packet) 0 (not_false (nat_eq (e.original % packet) 0)
    (under (is_used e) (not (nat_eq (e.original % packet) 0)) u (either_false other (is_used e && not (nat_eq (e.original % packet) 0)) h).1))

ends : (last packet : ℕ) (e : SparingEntry) → last ≤ 4194303 → is_used e ≡ true → passes_end last packet e ≡ false → e.mapped + packet ≤ 4194304
ends last packet e l u h = let q : e.mapped + packet ≤ last + 1 = fits_if (last + 1) (e.mapped + packet) (under (is_used e) (nat_lt (last + 1) (e.mapped + packet)) u h) in
    omega (arith, l, q)

each_sound : (last packet : ℕ) (es : List SparingEntry) → last ≤ 4194303 → list_any (is_bad_original packet) es ≡ false → list_any (passes_end last packet) es ≡ false
    → All (IsSoundEntry packet) (filter is_used es)
each_sound last packet [] l h k = All-nil (IsSoundEntry packet)
each_sound last packet (e ∷ es) l h k =
    let a : (is_bad_original packet e ≡ false) × (list_any (is_bad_original packet) es ≡ false) = either_false (is_bad_original packet e) (list_any (is_bad_original packet) es) h in
    let b : (passes_end last packet e ≡ false) × (list_any (passes_end last packet) es ≡ false) = either_false (passes_end last packet e) (list_any (passes_end last packet) es) k in
    go (is_used e) refl a.0 b.0 (each_sound last packet es l a.1 b.1)
  where
    go : (t : Bool) → is_used e ≡ t → is_bad_original packet e ≡ false → passes_end last packet e ≡ false → All (IsSoundEntry packet) (filter is_used es)
        → All (IsSoundEntry packet) (cond t (e ∷ filter is_used es) (filter is_used es))
    go true u a b later = All-cons (IsSoundEntry packet) e (filter is_used es)
        (record { whole = whole packet e (is_within 0xFFFF_FFF1 0xFFFF_FFFE e.original) u a; ends = ends last packet e l u b }) later
    go false u a b later = later

three : (a b c : Bool) (f g h : VolumeFault) → cond a (Some f) (cond b (Some g) (cond c (Some h) None)) ≡ None → (a ≡ false) × (b ≡ false) × (c ≡ false)
three true b c f g h e = absurd (let z : ⊥ = cc in z)
three false true c f g h e = absurd (let z : ⊥ = cc in z)
three false false true f g h e = absurd (let z : ⊥ = cc in z)
three false false false f g h e = (refl, refl, refl)

pub sound_entries : (last packet : ℕ) (es : List SparingEntry) → last ≤ 4194303 → entries_fault last packet es ≡ None → AreSound packet (filter is_used es)
sound_entries last packet es l e =
    let q : (list_any (is_bad_original packet) es ≡ false) × (is_out_of_order es ≡ false) × (list_any (passes_end last packet) es ≡ false) =
    three (list_any (is_bad_original packet) es) (is_out_of_order es) (list_any (passes_end last packet) es) _ _ _ e in
    record { each = each_sound last packet es l q.0 q.2; rises = used_rise es q.1 }
