-- What is kept of entries is what their bodies tell.
use Rattle.std.proofs.Common.{◌≡◌, refl, sym, ◌∙◌, ap, subst, ℕ, ◌<◌, ◌≤◌, Bool, true, false, List, [], ◌∷◌, length, cond, ◌&&◌, arith, Option, Some, None}
use Rattle.std.specs.Prelude.{nat_lt}
use Rattle.std.specs.BTreeMap.{BTreeMap, IsEmpty, Updates, get}
use Rattle.std.specs.Map.{lookup}
use Rattle.std.specs.Ordering.{is_eq, nat_cmp}
use Rattle.std.proofs.lemmas.Bool.{eqb-true, lt-ltb, ltb-false}
use Rattle.udfs_lattice.specs.States.{State}
use Rattle.udfs_lattice.specs.TableLaws.{eq_by_cmp-nat}
use Rattle.udfs_lattice.specs.Volumes.{ascending}
use Rattle.udfs_lattice.specs.declared.facts.Fact.TheVariants.{Unknown, Known, Conflict}
use Rattle.udfs_tag.specs.Fields.{number_of}
use Rattle.udfs_space.specs.Places.{View}
use Rattle.udfs_volume.specs.declared.profiles.Profile.{Profile}
use Rattle.udfs_file.specs.Bodies.{Body, cells, faulty_body}
use Rattle.udfs_file.specs.Fronts.{directory_by, entries_by, fault_in}
use Rattle.udfs_file.specs.Stretches.{IsStanding}
use Rattle.udfs_file.specs.declared.cells.Cell.{Cell}
use Rattle.udfs_file.specs.declared.directories.DirEntry.{DirEntry}
use Rattle.udfs_file.specs.declared.faults.Kind.{Kind}
use Rattle.udfs_file.specs.declared.faults.Kind.TheVariants as kind
use Rattle.udfs_file.specs.declared.faults.NodeFault.{NodeFault}
use Rattle.udfs_file.specs.declared.faults.NodeFault.TheVariants.{Depth}
use Rattle.udfs_walk.specs.Bare.{bare_standing}
use Rattle.udfs_walk.specs.Memos.{AreKept, HasWords, IsMemo, deep_word, known_of, known_standing, standing_of, word_of}
use Rattle.udfs_walk.specs.Standings.{body_standing, cells_standing, depth_or, missing_blocks, runs_from, standing_or_fault, torn_or_whole}
use Rattle.udfs_walk.specs.Targets.{Icb}
use Rattle.udfs_walk.specs.declared.memos.Memo.{Memo}
use Rattle.udfs_walk.specs.declared.memos.Word.TheVariants as word
use Rattle.udfs_walk.specs.declared.standings.Standing.{Standing}
use Rattle.udfs_walk.specs.declared.standings.Standing.TheVariants.{Whole, Torn, Loop, Fault}

-- ---- words
standing_again : (s : Standing) → standing_of (word_of s) ≡ bare_standing s
standing_again Whole = refl
standing_again (Torn torn) = refl
standing_again Loop = refl
standing_again (Fault f) = refl

-- the blocks and the holes are not in the word
pub word_bare : (s : Standing) → word_of (bare_standing s) ≡ word_of s
word_bare Whole = refl
word_bare (Torn torn) = refl
word_bare Loop = refl
word_bare (Fault f) = refl

fault_deep : (b : Bool) (f : NodeFault) → standing_of (deep_word b (word.Fault f)) ≡ Fault f
fault_deep true f = refl
fault_deep false f = refl

-- cells alone tell no fault
cells_deep : (cs : List Cell) → deep_word true (word_of (cells_standing cs)) ≡ word.Fault Depth
unfolding cells_standing
cells_deep cs = go (ascending (missing_blocks cs))
  where
    go : (ns : List ℕ) → deep_word true (word_of (torn_or_whole ns (runs_from 0 cs))) ≡ word.Fault Depth
    go [] = refl
    go (n ∷ ns) = refl

not_listed : (deep : Bool) (s : Standing) → standing_of (deep_word (deep && false) (word_of s)) ≡ bare_standing s
not_listed true s = standing_again s
not_listed false s = standing_again s

some_listed : (e : DirEntry) (es : List DirEntry) → nat_lt 0 (length (e ∷ es)) ≡ true
some_listed e es = lt-ltb 0 (length (e ∷ es)) (omega arith)

listed_deep : (o : Option NodeFault) (deep : Bool) (es : List DirEntry) (s : Standing) → deep_word true (word_of s) ≡ word.Fault Depth
    → standing_of (deep_word (deep && nat_lt 0 (length es)) (word_of (standing_or_fault o s))) ≡ bare_standing (standing_or_fault o (depth_or deep es s))
listed_deep None true (e ∷ es) s h = ap (λ b. standing_of (deep_word b (word_of s))) (some_listed e es) ∙ ap standing_of h
listed_deep None true [] s h = standing_again s
listed_deep None false es s h = standing_again s
listed_deep (Some f) deep es s h = fault_deep (deep && nat_lt 0 (length es)) f

kind_is : (p : Profile) (k : Kind) (deep : Bool) (cs : List Cell) → known_standing deep (known_of p k (cells cs)) ≡ bare_standing (body_standing p k deep (cells cs))
kind_is p kind.Directory deep cs = listed_deep (fault_in (directory_by p cs).rest) deep (entries_by p cs) (cells_standing cs) (cells_deep cs)
kind_is p kind.File deep cs = not_listed deep (cells_standing cs)
kind_is p kind.Link deep cs = not_listed deep (cells_standing cs)
kind_is p (kind.Other t) deep cs = not_listed deep (cells_standing cs)
kind_is p kind.Unread deep cs = not_listed deep (cells_standing cs)

-- the standing that is kept is that of the body
pub known_is : (p : Profile) (k : Kind) (deep : Bool) (b : Body) → known_standing deep (known_of p k b) ≡ bare_standing (body_standing p k deep b)
known_is p k deep (faulty_body f) = fault_deep (deep && (known_of p k (faulty_body f)).lists) f
known_is p k deep (cells cs) = kind_is p k deep cs

pub none_listed : (es : List DirEntry) → nat_lt 0 (length es) ≡ false → es ≡ []
none_listed [] h = refl
none_listed (e ∷ es) h = absurd (let k : length (e ∷ es) ≤ 0 = ltb-false 0 (length (e ∷ es)) h in let z : ⊥ = omega (arith, k) in z)

-- ---- what is kept
-- two ICBs have one number only if they are one
pub same_icb : (x y : Icb) → x.block < 4294967296 → y.block < 4294967296 → is_eq (nat_cmp (number_of x) (number_of y)) ≡ true → x ≡ y
same_icb x y h l e =
    let k : number_of x ≡ number_of y = eqb-true (number_of x) (number_of y) (sym (eq_by_cmp-nat (number_of x) (number_of y)) ∙ e) in
    let r : x.reference ≡ y.reference = omega (arith, k, h, l) in
    let b : x.block ≡ y.block = omega (arith, k, h, l) in
    (λ i. record { block = b i; reference = r i })

abbrev bytes_in : Option (ℕ × State) → List ℕ
bytes_in None = []
bytes_in (Some (n, Unknown)) = []
bytes_in (Some (n, Known bytes)) = bytes
bytes_in (Some (n, Conflict)) = []

-- one content stands at a logical block
same_bytes : (v : View) (r b : ℕ) (xs ys : List ℕ) → IsStanding v r b xs → IsStanding v r b ys → xs ≡ ys
same_bytes v r b xs ys p q = ap bytes_in (sym p.1 ∙ q.1)

some_is : {A : Type 0} (x y : A) → Some x ≡ Some y → x ≡ y
some_is x y e = ap (λ o. elim o [ None ↦ x | Some z ↦ z ]) e

pub kept_new : {X : Type 0} (v : View) (P : Icb → List ℕ → X → Type 0) (kept : BTreeMap ℕ X) → IsEmpty kept → AreKept v P kept
kept_new v P kept e = λ icb bytes x h st g. absurd (let z : None ≡ Some x = sym (ap (lookup (λ q. is_eq (nat_cmp (number_of icb) q))) e) ∙ g in let w : ⊥ = cc in w)

pub kept_more : {X : Type 0} (v : View) (P : Icb → List ℕ → X → Type 0) (old new : BTreeMap ℕ X) (icb : Icb) (bytes : List ℕ) (x : X) → icb.block < 4294967296 → IsStanding v icb.reference icb.block bytes
    → P icb bytes x → Updates nat_cmp old new (number_of icb) (Some x) → AreKept v P old → AreKept v P new
kept_more {X} v P old new icb bytes x h st is u a = λ d xs y l at g. go d xs y l at g (is_eq (nat_cmp (number_of icb) (number_of d))) refl
  where
    go : (d : Icb) (xs : List ℕ) (y : X) → d.block < 4294967296 → IsStanding v d.reference d.block xs → get nat_cmp new (number_of d) ≡ Some y
        → (t : Bool) → is_eq (nat_cmp (number_of icb) (number_of d)) ≡ t → P d xs y
    go d xs y l at g true e =
        let same : icb ≡ d = same_icb icb d h l e in
        let found : Some x ≡ Some y = sym (u.0 (number_of d) ∙ ap (λ t. cond t (Some x) (get nat_cmp old (number_of d))) e) ∙ g in
        let z : bytes ≡ xs = same_bytes v icb.reference icb.block bytes xs st (subst (λ (p : Icb). IsStanding v p.reference p.block xs) (sym same) at) in
        subst (P d xs) (some_is x y found) (subst (λ (p : Icb × List ℕ). P p.0 p.1 x) (λ i. (same i, z i)) is)
    go d xs y l at g false e = a d xs y l at (sym (u.0 (number_of d) ∙ ap (λ t. cond t (Some x) (get nat_cmp old (number_of d))) e) ∙ g)

-- what is known of entries stays known where what they list is no longer asked for
pub words_of : (v : View) (memo : Memo) → IsMemo v memo → HasWords v memo
words_of v memo m = λ icb bytes x h st g. (m icb bytes x h st g).0
