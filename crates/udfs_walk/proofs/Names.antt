-- The descriptors of a directory by their names: where names differ, each stands in one place.
use Rattle.std.proofs.Common.{◌≡◌, ◌≢◌, refl, sym, ◌∙◌, ap, subst, inl, inr, ℕ, ◌+◌, List, [], ◌∷◌, ◌++◌, arith, Option, Some, None, slice_get}
use Rattle.std.specs.Prelude.{suc, AllPairs}
use Rattle.std.specs.List.{cons_option}
use Rattle.udfs_lattice.proofs.Inclusion.{Includes}
use Rattle.udfs_file.specs.Fronts.{listed_entries}
use Rattle.udfs_file.specs.Laws.{descriptor_end}
use Rattle.udfs_file.specs.declared.directories.DirEntry.{DirEntry}
use Rattle.udfs_file.specs.Identifiers.{Identifier}
use Rattle.udfs_walk.proofs.WholeRoutes.{includes_get, same_place}

-- The descriptor of a listed entry.
pub record Splits (ids : List Identifier) (d : DirEntry) : Type 0 where
  pub front : List Identifier
  pub id : Identifier
  pub back : List Identifier
  pub splits : ids ≡ front ++ id ∷ back
  pub is_listed : id.listed ≡ Some d

pub split_at : (ids : List Identifier) (d : DirEntry) → Includes (listed_entries ids) d → Splits ids d
split_at [] d i = absurd i
split_at (x ∷ xs) d i = go x.listed refl i (split_at xs d)
  where
    later : Splits xs d → Splits (x ∷ xs) d
    later s = record { front = x ∷ s.front; id = s.id; back = s.back; splits = ap (λ z. x ∷ z) s.splits; is_listed = s.is_listed }

    go : (o : Option DirEntry) → x.listed ≡ o → Includes (cons_option o (listed_entries xs)) d → (Includes (listed_entries xs) d → Splits xs d) → Splits (x ∷ xs) d
    go None q i ih = later (ih i)
    go (Some e) q (inl p) ih = record { front = []; id = x; back = xs; splits = refl; is_listed = q ∙ ap Some p }
    go (Some e) q (inr i) ih = later (ih i)

pub listed_in : (front back : List Identifier) (id : Identifier) (d : DirEntry) → id.listed ≡ Some d → Includes (listed_entries (front ++ id ∷ back)) d
listed_in [] back id d q = subst (λ o. Includes (cons_option o (listed_entries back)) d) (sym q) (inl refl)
listed_in (x ∷ xs) back id d q = go x.listed (listed_in xs back id d q)
  where
    go : (o : Option DirEntry) → Includes (listed_entries (xs ++ id ∷ back)) d → Includes (cons_option o (listed_entries (xs ++ id ∷ back))) d
    go None i = i
    go (Some e) i = inr i

abbrev pub Differ : List DirEntry → Type 0
Differ es = AllPairs (λ d e. d.name ≢ e.name) es

differ_tail : (o : Option DirEntry) (es : List DirEntry) → Differ (cons_option o es) → Differ es
differ_tail None es h = h
differ_tail (Some e) es h = λ i j d l m. h (suc i) (suc j) d (omega (arith, l)) (omega (arith, m))

clash : (x : Identifier) (bs gs cs : List Identifier) (y : Identifier) (d e : DirEntry) → Differ (listed_entries (x ∷ bs)) → bs ≡ gs ++ y ∷ cs → x.listed ≡ Some d → y.listed ≡ Some e → d.name ≢ e.name
clash x bs gs cs y d e h p q r n = let z : 0 ≡ suc at.0 = same_place (d ∷ listed_entries bs) 0 (suc at.0) d e (subst (λ o. Differ (cons_option o (listed_entries bs))) q h) refl at.1 n in let b : ⊥ = cc in b
  where
    at : (k : ℕ) × (slice_get (listed_entries bs) k ≡ Some e)
    at = includes_get (listed_entries bs) e (subst (λ z. Includes (listed_entries z) e) (sym p) (listed_in gs cs y e r))

-- where names differ, a name ends in one place
pub same_end : (fs gs bs cs : List Identifier) (x y : Identifier) (d e : DirEntry) → Differ (listed_entries (fs ++ x ∷ bs)) → fs ++ x ∷ bs ≡ gs ++ y ∷ cs
    → x.listed ≡ Some d → y.listed ≡ Some e → d.name ≡ e.name → descriptor_end fs x ≡ descriptor_end gs y
same_end [] [] bs cs x y d e h p q r n = let s : x ≡ y = cc in ap (λ z. z.size) s
same_end [] (g ∷ gs) bs cs x y d e h p q r n = absurd (clash x bs gs cs y d e h (let s : bs ≡ gs ++ y ∷ cs = cc in s) q r n)
same_end (f ∷ fs) [] bs cs x y d e h p q r n = absurd (clash f (fs ++ x ∷ bs) fs bs x e d h refl (let s : f ≡ y = cc in ap (λ z. z.listed) s ∙ r) q (sym n))
same_end (f ∷ fs) (g ∷ gs) bs cs x y d e h p q r n =
    let t : descriptor_end fs x ≡ descriptor_end gs y = same_end fs gs bs cs x y d e (differ_tail f.listed (listed_entries (fs ++ x ∷ bs)) h) (let s : fs ++ x ∷ bs ≡ gs ++ y ∷ cs = cc in s) q r n in
    let u : f.size ≡ g.size = (let s : f ≡ g = cc in ap (λ z. z.size) s) in
    λ i. u i + t i
