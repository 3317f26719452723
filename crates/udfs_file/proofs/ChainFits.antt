-- The descriptors that are known, beside all: each continuation among them is known, but for the one at which they end.
use Rattle.std.proofs.Common.{◌≡◌, ◌≢◌, refl, sym, ◌∙◌, ap, subst, inl, inr, ◌⊎◌, ℕ, ◌+◌, Bool, true, false, not, List, [], ◌∷◌, ◌++◌, length, take, cond, ◌&&◌, arith, Option, Some, None, slice_get, nat_eq, nat_le}
use Rattle.std.specs.Prelude.{take_while, zero, suc, option_map, ◌%◌}
use Rattle.std.proofs.lemmas.List.Sums.{take_while-cons}
use Rattle.std.proofs.lemmas.Bool.{eqb-true}
use Rattle.udfs_lattice.specs.States.{is_known}
use Rattle.udfs_volume.specs.Sequence.{Bytes}
use Rattle.udfs_lattice.specs.States.{State}
use Rattle.udfs_lattice.specs.declared.facts.Fact.TheVariants.{Unknown, Known, Conflict}
use Rattle.udfs_tag.specs.declared.layouts.LongAd.{LongAd}
use Rattle.udfs_tag.specs.Fields.{part, uint32_at}
use Rattle.udfs_tag.specs.Tags.{is_valid}
use Rattle.udfs_space.specs.Places.{View, IsPartOf}
use Rattle.udfs_file.specs.Entries.{descriptor_size}
use Rattle.udfs_file.specs.Bodies.{Next, no_more, area_at, unread_at, broken, Descriptors, continuation_fault, next_of, next_if, next_area, next_descriptor, up_to_next, descriptors_in, joined, no_descriptors, chain}
use Rattle.udfs_file.specs.declared.faults.NodeFault.{NodeFault}
use Rattle.udfs_file.specs.declared.faults.NodeFault.TheVariants.{Chain, Range}
use Rattle.udfs_file.proofs.Parts.{same_continuation}

pub record FitCut (s w : View) (bs : Next) (d : LongAd) (ds : List LongAd) : Type 0 where
  pub last : ds ≡ []
  pub continues : d.kind ≡ 3
  pub block : ℕ
  pub place : w.place d.reference d.block ≡ Some block
  pub unknown : is_known (s.blocks block) ≡ false
  pub behind : bs ≡ unread_at block

pub record FitBroken (bs bw : Next) (rest : List LongAd) (d : LongAd) (ds : List LongAd) : Type 0 where
  pub last : ds ≡ []
  pub continues : d.kind ≡ 3
  pub no_rest : rest ≡ []
  pub why : NodeFault
  pub behind : bw ≡ broken why

pub record FitEnd (bs bw : Next) (rest : List LongAd) : Type 0 where
  pub no_rest : rest ≡ []
  pub same : bs ≡ bw
  pub read : (n : ℕ) → bw ≢ unread_at n

abbrev pub IsFollowed : View → View → LongAd → Type 0
IsFollowed s w d = d.kind ≡ 3 → (n : ℕ) → w.place d.reference d.block ≡ Some n → is_known (s.blocks n) ≡ true

-- xs are the known descriptors, and rest those behind them in all
abbrev pub Fit : View → View → Next → Next → List LongAd → List LongAd → Type 0
Fit s w bs bw rest [] = FitEnd bs bw rest
Fit s w bs bw rest (d ∷ ds) = FitCut s w bs d ds ⊎ (FitBroken bs bw rest d ds ⊎ (IsFollowed s w d × Fit s w bs bw rest ds))

pub record ChainFits (s w : View) (cs cw : Descriptors) : Type 0 where
  pub rest : List LongAd
  pub splits : cw.all ≡ cs.all ++ rest
  pub fits : Fit s w cs.behind cw.behind rest cs.all

abbrev pub is_other : LongAd → Bool
is_other d = not (nat_eq d.kind 3)

pub up-cons : (d : LongAd) (ds : List LongAd) → up_to_next (d ∷ ds) ≡ cond (is_other d) (d ∷ up_to_next ds) (d ∷ [])
up-cons d ds = ap (λ t. take (length t + 1) (d ∷ ds)) (take_while-cons is_other d ds) ∙ go (is_other d)
  where
    tw : List LongAd
    tw = take_while is_other ds

    go : (b : Bool) → take (length (cond b (d ∷ tw) []) + 1) (d ∷ ds) ≡ cond b (d ∷ up_to_next ds) (d ∷ [])
    go true = ap (λ k. take k (d ∷ ds)) (let e : suc (length tw) + 1 ≡ suc (length tw + 1) = omega arith in e)
    go false = refl

pub next-cons : (d : LongAd) (ds : List LongAd) → next_descriptor (d ∷ ds) ≡ cond (is_other d) (next_descriptor ds) (Some d)
next-cons d ds = ap (λ t. slice_get (d ∷ ds) (length t)) (take_while-cons is_other d ds) ∙ go (is_other d)
  where
    tw : List LongAd
    tw = take_while is_other ds

    go : (b : Bool) → slice_get (d ∷ ds) (length (cond b (d ∷ tw) [])) ≡ cond b (next_descriptor ds) (Some d)
    go true = refl
    go false = refl

abbrev pub onto : LongAd → Descriptors → Descriptors
onto d ds = record { all = d ∷ ds.all; behind = ds.behind }

pub joined-cons : (d : LongAd) (us : List LongAd) (x : Next) (later : Bytes → Descriptors) → joined (d ∷ us) x later ≡ onto d (joined us x later)
joined-cons d us no_more later = refl
joined-cons d us (area_at a) later = refl
joined-cons d us (unread_at n) later = refl
joined-cons d us (broken f) later = refl

fits-cons : (s w : View) (d : LongAd) (cs cw : Descriptors) → IsFollowed s w d → ChainFits s w cs cw → ChainFits s w (onto d cs) (onto d cw)
fits-cons s w d cs cw known f = record { rest = f.rest; splits = ap (λ x. d ∷ x) f.splits; fits = inr (inr (known, f.fits)) }

-- the area that a continuation has is the same, or broken
next_area-known : (form b n : ℕ) (bytes : Bytes) → ((a : Bytes) × (next_area form b n (Known bytes) ≡ area_at a)) ⊎ (next_area form b n (Known bytes) ≡ broken Chain)
next_area-known form b n bytes = go (is_valid bytes b 258 && nat_le (24 + uint32_at bytes 20) 2048 && nat_eq (uint32_at bytes 20 % descriptor_size form) 0)
  where
    go : (x : Bool) → ((a : Bytes) × (cond x (area_at (part bytes 24 (uint32_at bytes 20))) (broken Chain) ≡ area_at a)) ⊎ (cond x (area_at (part bytes 24 (uint32_at bytes 20))) (broken Chain) ≡ broken Chain)
    go true = inl (part bytes 24 (uint32_at bytes 20), refl)
    go false = inr refl

joined-rest : (d : LongAd) (x : Next) (later : Bytes → Descriptors) → (rest : List LongAd) × ((joined (d ∷ []) x later).all ≡ (d ∷ []) ++ rest)
joined-rest d no_more later = ([], refl)
joined-rest d (area_at a) later = ((later a).all, refl)
joined-rest d (unread_at n) later = ([], refl)
joined-rest d (broken f) later = ([], refl)

at_cut : (s w : View) (d : LongAd) (ns nw : Next) (ls lw : Bytes → Descriptors) (n : ℕ) → d.kind ≡ 3 → w.place d.reference d.block ≡ Some n
    → is_known (s.blocks n) ≡ false → ns ≡ unread_at n → ChainFits s w (joined (d ∷ []) ns ls) (joined (d ∷ []) nw lw)
at_cut s w d ns nw ls lw n k e u q = subst (λ x. ChainFits s w (joined (d ∷ []) x ls) (joined (d ∷ []) nw lw)) (sym q)
    (let j : (rest : List LongAd) × ((joined (d ∷ []) nw lw).all ≡ (d ∷ []) ++ rest) = joined-rest d nw lw in
    record { rest = j.0; splits = j.1; fits = inl (record { last = refl; continues = k; block = n; place = e; unknown = u; behind = refl }) })

at_broken : (s w : View) (d : LongAd) (ns nw : Next) (ls lw : Bytes → Descriptors) (f : NodeFault) → d.kind ≡ 3 → ns ≡ broken f → nw ≡ broken f
    → ChainFits s w (joined (d ∷ []) ns ls) (joined (d ∷ []) nw lw)
at_broken s w d ns nw ls lw f k p q = subst (λ x. ChainFits s w (joined (d ∷ []) x ls) (joined (d ∷ []) nw lw)) (sym p)
    (subst (λ x. ChainFits s w (joined (d ∷ []) (broken f) ls) (joined (d ∷ []) x lw)) (sym q)
    (record { rest = []; splits = refl; fits = inr (inl (record { last = refl; continues = k; no_rest = refl; why = f; behind = refl })) }))

at_area : (s w : View) (d : LongAd) (ns nw : Next) (ls lw : Bytes → Descriptors) (a : Bytes) → IsFollowed s w d → ns ≡ area_at a → nw ≡ area_at a
    → ChainFits s w (ls a) (lw a) → ChainFits s w (joined (d ∷ []) ns ls) (joined (d ∷ []) nw lw)
at_area s w d ns nw ls lw a known p q f = subst (λ x. ChainFits s w (joined (d ∷ []) x ls) (joined (d ∷ []) nw lw)) (sym p)
    (subst (λ x. ChainFits s w (joined (d ∷ []) (area_at a) ls) (joined (d ∷ []) x lw)) (sym q) (fits-cons s w d (ls a) (lw a) known f))

known_one : (s w : View) (d : LongAd) (n : ℕ) (bytes : Bytes) → w.place d.reference d.block ≡ Some n → s.blocks n ≡ Known bytes → IsFollowed s w d
known_one s w d n bytes e q k m f = let same : n ≡ m = cc in subst (λ x. is_known (s.blocks x) ≡ true) same (ap is_known q)

next_fits : (s w : View) → IsPartOf s w → (form : ℕ) (is_last : Bool) (d : LongAd) → d.kind ≡ 3 → (ls lw : Bytes → Descriptors) → ((a : Bytes) → ChainFits s w (ls a) (lw a))
    → ChainFits s w (joined (d ∷ []) (next_of s form is_last (Some d)) ls) (joined (d ∷ []) (next_of w form is_last (Some d)) lw)
next_fits s w p form is_last d k ls lw later = go (continuation_fault w is_last d) refl (w.place d.reference d.block) refl
  where
    F : View → Option NodeFault → Option ℕ → Next
    F v o x = next_if form d.block o (option_map (λ n. (n, v.blocks n)) x)

    ns : Next
    ns = next_of s form is_last (Some d)

    nw : Next
    nw = next_of w form is_last (Some d)

    s_is : (o : Option NodeFault) (x : Option ℕ) → continuation_fault w is_last d ≡ o → w.place d.reference d.block ≡ x → ns ≡ F s o x
    s_is o x a b = λ i. F s ((same_continuation s w p is_last d ∙ a) i) ((p.places d.reference d.block ∙ b) i)

    w_is : (o : Option NodeFault) (x : Option ℕ) → continuation_fault w is_last d ≡ o → w.place d.reference d.block ≡ x → nw ≡ F w o x
    w_is o x a b = λ i. F w (a i) (b i)

    known : (n : ℕ) (bytes : Bytes) → w.place d.reference d.block ≡ Some n → s.blocks n ≡ Known bytes → ns ≡ next_area form d.block n (Known bytes) → nw ≡ next_area form d.block n (Known bytes)
        → ((a : Bytes) × (next_area form d.block n (Known bytes) ≡ area_at a)) ⊎ (next_area form d.block n (Known bytes) ≡ broken Chain)
        → ChainFits s w (joined (d ∷ []) ns ls) (joined (d ∷ []) nw lw)
    known n bytes e q x y (inl (a, z)) = at_area s w d ns nw ls lw a (known_one s w d n bytes e q) (x ∙ z) (y ∙ z) (later a)
    known n bytes e q x y (inr z) = at_broken s w d ns nw ls lw Chain k (x ∙ z) (y ∙ z)

    state : (n : ℕ) → w.place d.reference d.block ≡ Some n → ns ≡ next_area form d.block n (s.blocks n) → nw ≡ next_area form d.block n (w.blocks n) → (x : State) → s.blocks n ≡ x
        → ChainFits s w (joined (d ∷ []) ns ls) (joined (d ∷ []) nw lw)
    state n e x y Unknown q = at_cut s w d ns nw ls lw n k e (ap is_known q) (x ∙ ap (next_area form d.block n) q)
    state n e x y (Known bytes) q = known n bytes e q (x ∙ ap (next_area form d.block n) q) (y ∙ ap (next_area form d.block n) (p.agrees d.reference d.block n bytes e q)) (next_area-known form d.block n bytes)
    state n e x y Conflict q = at_cut s w d ns nw ls lw n k e (ap is_known q) (x ∙ ap (next_area form d.block n) q)

    go : (o : Option NodeFault) → continuation_fault w is_last d ≡ o → (x : Option ℕ) → w.place d.reference d.block ≡ x
        → ChainFits s w (joined (d ∷ []) ns ls) (joined (d ∷ []) nw lw)
    go (Some f) eo x ex = at_broken s w d ns nw ls lw f k (s_is (Some f) x eo ex) (w_is (Some f) x eo ex)
    go None eo None ex = at_broken s w d ns nw ls lw Range k (s_is None None eo ex) (w_is None None eo ex)
    go None eo (Some n) ex = state n ex (s_is None (Some n) eo ex) (w_is None (Some n) eo ex) (s.blocks n) refl

area_fits : (s w : View) → IsPartOf s w → (form : ℕ) (is_last : Bool) (ls lw : Bytes → Descriptors) → ((a : Bytes) → ChainFits s w (ls a) (lw a)) → (ds : List LongAd)
    → ChainFits s w (joined (up_to_next ds) (next_of s form is_last (next_descriptor ds)) ls) (joined (up_to_next ds) (next_of w form is_last (next_descriptor ds)) lw)
area_fits s w p form is_last ls lw later [] = record { rest = []; splits = refl; fits = record { no_rest = refl; same = refl; read = λ n e. let x : ⊥ = cc in x } }
area_fits s w p form is_last ls lw later (d ∷ ds) = go (area_fits s w p form is_last ls lw later ds) (nat_eq d.kind 3) refl
  where
    J : View → (Bytes → Descriptors) → List LongAd → Option LongAd → Descriptors
    J v l us o = joined us (next_of v form is_last o) l

    to : (b : Bool) → is_other d ≡ b → (v : View) (l : Bytes → Descriptors)
        → J v l (cond b (d ∷ up_to_next ds) (d ∷ [])) (cond b (next_descriptor ds) (Some d)) ≡ J v l (up_to_next (d ∷ ds)) (next_descriptor (d ∷ ds))
    to b e v l = λ i. J v l (sym (up-cons d ds ∙ ap (λ x. cond x (d ∷ up_to_next ds) (d ∷ [])) e) i) (sym (next-cons d ds ∙ ap (λ x. cond x (next_descriptor ds) (Some d)) e) i)

    both : (cs cs' cw cw' : Descriptors) → cs ≡ cs' → cw ≡ cw' → ChainFits s w cs cw → ChainFits s w cs' cw'
    both cs cs' cw cw' x y f = subst (λ z. ChainFits s w z cw') x (subst (ChainFits s w cs) y f)

    go : ChainFits s w (J s ls (up_to_next ds) (next_descriptor ds)) (J w lw (up_to_next ds) (next_descriptor ds)) → (b : Bool) → nat_eq d.kind 3 ≡ b
        → ChainFits s w (J s ls (up_to_next (d ∷ ds)) (next_descriptor (d ∷ ds))) (J w lw (up_to_next (d ∷ ds)) (next_descriptor (d ∷ ds)))
    go ih true e = both (J s ls (d ∷ []) (Some d)) (J s ls (up_to_next (d ∷ ds)) (next_descriptor (d ∷ ds))) (J w lw (d ∷ []) (Some d)) (J w lw (up_to_next (d ∷ ds)) (next_descriptor (d ∷ ds)))
        (to false (ap not e) s ls) (to false (ap not e) w lw) (next_fits s w p form is_last d (eqb-true d.kind 3 e) ls lw later)
    go ih false e = both (J s ls (d ∷ up_to_next ds) (next_descriptor ds)) (J s ls (up_to_next (d ∷ ds)) (next_descriptor (d ∷ ds))) (J w lw (d ∷ up_to_next ds) (next_descriptor ds)) (J w lw (up_to_next (d ∷ ds)) (next_descriptor (d ∷ ds)))
        (to true (ap not e) s ls) (to true (ap not e) w lw)
        (both (onto d (J s ls (up_to_next ds) (next_descriptor ds))) (J s ls (d ∷ up_to_next ds) (next_descriptor ds)) (onto d (J w lw (up_to_next ds) (next_descriptor ds))) (J w lw (d ∷ up_to_next ds) (next_descriptor ds))
        (sym (joined-cons d (up_to_next ds) (next_of s form is_last (next_descriptor ds)) ls)) (sym (joined-cons d (up_to_next ds) (next_of w form is_last (next_descriptor ds)) lw))
        (fits-cons s w d (J s ls (up_to_next ds) (next_descriptor ds)) (J w lw (up_to_next ds) (next_descriptor ds)) not_three ih))
      where
        not_three : IsFollowed s w d
        not_three k n q = absurd (let t : nat_eq d.kind 3 ≡ true = ap (λ x. nat_eq x 3) k in let x : ⊥ = cc in x)

pub chain_fits : (t : Bool) (s w : View) → IsPartOf s w → (form r left : ℕ) (area : Bytes) → ChainFits s w (chain t s form r left area) (chain t w form r left area)
chain_fits t s w p form r zero area = area_fits s w p form true (λ a. no_descriptors) (λ a. no_descriptors)
    (λ a. record { rest = []; splits = refl; fits = record { no_rest = refl; same = refl; read = λ n e. let x : ⊥ = cc in x } }) (descriptors_in t form r area)
chain_fits t s w p form r (suc left) area = area_fits s w p form false (λ a. chain t s form r left a) (λ a. chain t w form r left a)
    (λ a. chain_fits t s w p form r left a) (descriptors_in t form r area)
