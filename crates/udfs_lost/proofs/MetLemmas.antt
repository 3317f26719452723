-- Information control blocks that were met, and what was explored from one of them.
use Rattle.std.proofs.Common.{◌≡◌, refl, sym, ◌∙◌, ap, subst, inl, inr, ◌⊎◌, ℕ, ◌+◌, ◌<◌, ◌≤◌, Bool, true, false, cond, ◌&&◌, ◌||◌, List, [], ◌∷◌, ◌++◌, length, take, arith, Some, None, slice_get, get_or, nat_eq, append_assoc}
use Rattle.std.specs.Prelude.{Contains}
use Rattle.std.specs.BTreeMap.{is_at}
use Rattle.std.specs.BTreeSet.{BTreeSet, IsEmpty, Updates}
use Rattle.std.specs.List.{list_all, list_any}
use Rattle.std.specs.Ordering.{is_eq, nat_cmp}
use Rattle.std.proofs.lemmas.Bool.{eqb-true, eq-eqb, lt-ltb, ltb-true}
use Rattle.std.proofs.lemmas.List.{append-nil}
use Rattle.std.proofs.lemmas.List.Folds.{list_all-append, list_any-append}
use Rattle.udfs_lattice.proofs.Inclusion.{Includes, included, contained}
use Rattle.udfs_lattice.specs.TableLaws.{eq_by_cmp-nat}
use Rattle.udfs_tag.specs.Fields.{number_of}
use Rattle.udfs_space.specs.Places.{View}
use Rattle.udfs_walk.specs.Targets.{Icb, is_icb}
use Rattle.udfs_walk.specs.declared.answers.NodesError.{NodesError}
use Rattle.udfs_walk.specs.declared.answers.NodesError.TheVariants.{TooManyPaths, OutOfMemory}
use Rattle.udfs_lost.specs.Entries.{AreEntriesRefused}
use Rattle.udfs_lost.specs.Met.{AgreeOn, AreMetWith, IsClosed, IsExplored, is_near, with_icb}
use Rattle.udfs_lost.specs.Naming.{LeadsBy, LeadsTo, names_at}
use Rattle.udfs_lost.specs.Starts.{IsExploreRefused}
use Rattle.udfs_lost.proofs.Members.{front_or_last, get_behind, in_either, in_front, in_last, in_one, take_front, take_next, take_one_more, take_past}

-- ---- one information control block
pub icb_same : (x : Icb) → is_icb x x ≡ true
icb_same x = λ i. eq-eqb x.reference x.reference refl i && eq-eqb x.block x.block refl i

pub same_icb : (x y : Icb) → is_icb x y ≡ true → x ≡ y
same_icb x y e = go (nat_eq x.reference y.reference) refl (nat_eq x.block y.block) refl e
  where
    go : (p : Bool) → nat_eq x.reference y.reference ≡ p → (q : Bool) → nat_eq x.block y.block ≡ q → (p && q) ≡ true → x ≡ y
    go true a true b z = λ i. record { block = eqb-true x.block y.block b i; reference = eqb-true x.reference y.reference a i }
    go true a false b z = absurd (let n : ⊥ = cc in n)
    go false a q b z = absurd (let n : ⊥ = cc in n)

-- two have one number only if they are one
pub one_number : (x y : Icb) → x.block < 4294967296 → y.block < 4294967296 → number_of x ≡ number_of y → x ≡ y
one_number x y h k e =
    let r : x.reference ≡ y.reference = omega (arith, e, h, k) in
    let b : x.block ≡ y.block = omega (arith, e, h, k) in
    (λ i. record { block = b i; reference = r i })

pub same_number : (x y : Icb) → is_near x ≡ true → is_near y ≡ true → is_eq (nat_cmp (number_of y) (number_of x)) ≡ is_icb x y
same_number x y h k = go (is_icb x y) refl (is_eq (nat_cmp (number_of y) (number_of x))) refl
  where
    number : (b : Bool) → is_eq (nat_cmp (number_of y) (number_of x)) ≡ b → nat_eq (number_of y) (number_of x) ≡ b
    number b e = sym (eq_by_cmp-nat (number_of y) (number_of x)) ∙ e

    go : (a : Bool) → is_icb x y ≡ a → (b : Bool) → is_eq (nat_cmp (number_of y) (number_of x)) ≡ b → is_eq (nat_cmp (number_of y) (number_of x)) ≡ is_icb x y
    go true p true q = q ∙ sym p
    go false p false q = q ∙ sym p
    go true p false q = let s : nat_eq (number_of y) (number_of x) ≡ true = eq-eqb (number_of y) (number_of x) (ap number_of (sym (same_icb x y p))) in
        absurd (let z : true ≡ false = sym s ∙ number false q in let w : ⊥ = cc in w)
    go false p true q = let s : y ≡ x = one_number y x (ltb-true y.block 4294967296 k) (ltb-true x.block 4294967296 h) (eqb-true (number_of y) (number_of x) (number true q)) in
        absurd (let z : true ≡ false = sym (ap (is_icb x) s ∙ icb_same x) ∙ p in let w : ⊥ = cc in w)

pub any_met : (xs : List Icb) (x : Icb) → Includes xs x → list_any (is_icb x) xs ≡ true
any_met [] x i = absurd i
any_met (y ∷ xs) x (inl e) = ap (λ b. b || list_any (is_icb x) xs) (ap (is_icb x) e ∙ icb_same x)
any_met (y ∷ xs) x (inr i) = ap (λ b. is_icb x y || b) (any_met xs x i) ∙ go (is_icb x y)
  where
    go : (b : Bool) → (b || true) ≡ true
    go true = refl
    go false = refl

pub met_any : (xs : List Icb) (x : Icb) → list_any (is_icb x) xs ≡ true → Includes xs x
met_any [] x e = absurd (let z : ⊥ = cc in z)
met_any (y ∷ xs) x e = go (is_icb x y) refl (met_any xs x) e
  where
    go : (b : Bool) → is_icb x y ≡ b → (list_any (is_icb x) xs ≡ true → Includes xs x) → (b || list_any (is_icb x) xs) ≡ true → Includes (y ∷ xs) x
    go true p later q = inl (sym (same_icb x y p))
    go false p later q = inr (later q)

pub not_met : (xs : List Icb) (x : Icb) → list_any (is_icb x) xs ≡ false → Includes xs x → ⊥
not_met xs x e i = let z : true ≡ false = sym (any_met xs x i) ∙ e in let w : ⊥ = cc in w

pub near : (icb : Icb) → icb.block < 4294967296 → is_near icb ≡ true
near icb h = lt-ltb icb.block 4294967296 h

-- ---- a set of numbers beside the list
pub agree_none : (numbers : BTreeSet ℕ) (order : List Icb) → IsEmpty numbers → order ≡ [] → AgreeOn numbers order
agree_none numbers order e o = subst (AgreeOn numbers) (sym o) (refl, λ icb h. ap (list_any (is_at (nat_cmp (number_of icb)))) e)

one_more : (a b : Bool) → cond a true b ≡ (b || (a || false))
one_more true true = refl
one_more true false = refl
one_more false true = refl
one_more false false = refl

both : (a b : Bool) → a ≡ true → b ≡ true → (a && (b && true)) ≡ true
both a b p q = λ i. p i && (q i && true)

pub agree_more : (old new : BTreeSet ℕ) (order more : List Icb) (icb : Icb) → AgreeOn old order → icb.block < 4294967296 → Updates nat_cmp old new (number_of icb) true → more ≡ order ++ icb ∷ [] → AgreeOn new more
agree_more old new order more icb a h u m = subst (AgreeOn new) (sym m) (
  list_all-append is_near order (icb ∷ []) ∙ both (list_all is_near order) (is_near icb) a.0 (near icb h),
  λ x k. u.0 (number_of x) ∙ (λ i. cond (same_number x icb k (near icb h) i) true (a.1 x k i)) ∙ one_more (is_icb x icb) (list_any (is_icb x) order)
      ∙ sym (list_any-append (is_icb x) order (icb ∷ [])),
)

-- ---- more of them
pub with_met : (order : List Icb) (icb : Icb) (b : Bool) → list_any (is_icb icb) order ≡ b → with_icb order icb ≡ cond b order (order ++ icb ∷ [])
with_met order icb b e = ap (λ z. cond z order (order ++ icb ∷ [])) e

pub met_start : (old icbs : List Icb) → AreMetWith old (take 0 icbs) old
met_start old icbs = record { more = []; is = sym (append-nil old); among = λ x i. absurd (included [] x i); has = λ x i. absurd (no icbs x (included (take 0 icbs) x i)) }
  where
    no : (xs : List Icb) (x : Icb) → Includes (take 0 xs) x → ⊥
    no [] x i = i
    no (y ∷ ys) x i = i

met_one : (old icbs mid new : List Icb) (icb : Icb) → AreMetWith old icbs mid → new ≡ with_icb mid icb → AreMetWith old (icbs ++ icb ∷ []) new
met_one old icbs mid new icb m e = go (list_any (is_icb icb) mid) refl
  where
    before : (x : Icb) → Contains icbs x → Contains (icbs ++ icb ∷ []) x
    before x c = contained (icbs ++ icb ∷ []) x (in_front icbs (icb ∷ []) x (included icbs x c))

    go : (b : Bool) → list_any (is_icb icb) mid ≡ b → AreMetWith old (icbs ++ icb ∷ []) new
    go true p = record { more = m.more; is = same ∙ m.is; among = λ x i. before x (m.among x i); has = λ x i. contained new x (has x (front_or_last icbs icb x (included (icbs ++ icb ∷ []) x i))) }
      where
        same : new ≡ mid
        same = e ∙ with_met mid icb true p

        has : (x : Icb) → Includes icbs x ⊎ (icb ≡ x) → Includes new x
        has x (inl i) = subst (λ z. Includes z x) (sym same) (included mid x (m.has x (contained icbs x i)))
        has x (inr q) = subst (λ z. Includes z x) (sym same) (subst (Includes mid) q (met_any mid icb p))
    go false p = record {
      more = m.more ++ icb ∷ [];
      is = same ∙ ap (λ z. z ++ icb ∷ []) m.is ∙ append_assoc old m.more (icb ∷ []);
      among = λ x i. among x (front_or_last m.more icb x (included (m.more ++ icb ∷ []) x i));
      has = λ x i. contained new x (has x (front_or_last icbs icb x (included (icbs ++ icb ∷ []) x i)));
    }
      where
        same : new ≡ mid ++ icb ∷ []
        same = e ∙ with_met mid icb false p

        among : (x : Icb) → Includes m.more x ⊎ (icb ≡ x) → Contains (icbs ++ icb ∷ []) x
        among x (inl i) = before x (m.among x (contained m.more x i))
        among x (inr q) = contained (icbs ++ icb ∷ []) x (subst (Includes (icbs ++ icb ∷ [])) q (in_last icbs icb))

        has : (x : Icb) → Includes icbs x ⊎ (icb ≡ x) → Includes new x
        has x (inl i) = subst (λ z. Includes z x) (sym same) (in_front mid (icb ∷ []) x (included mid x (m.has x (contained icbs x i))))
        has x (inr q) = subst (λ z. Includes z x) (sym same) (subst (Includes (mid ++ icb ∷ [])) q (in_last mid icb))

pub met_next : (old icbs mid new : List Icb) (i : ℕ) (icb : Icb) → i < length icbs → icb ≡ get_or icbs i icb → AreMetWith old (take i icbs) mid → new ≡ with_icb mid icb → AreMetWith old (take (i + 1) icbs) new
met_next old icbs mid new i icb h g m e = subst (λ z. AreMetWith old z new) (sym (take_next icbs i icb h g)) (met_one old (take i icbs) mid new icb m e)

-- ---- names that lead on
pub leads_on : (v : View) (f g h : Icb) → LeadsTo v f g → Contains (names_at v g) h → LeadsTo v f h
leads_on v f g h (way, l) c = go way f l
  where
    go : (way : List Icb) (f : Icb) → LeadsBy v f way g → LeadsTo v f h
    go [] f e = (h ∷ [], (subst (λ z. Contains (names_at v z) h) (sym e) c, refl))
    go (x ∷ way) f l = let t : LeadsTo v x h = go way x l.1 in (x ∷ t.0, (l.0, t.1))

pub leads_both : (v : View) (f g h : Icb) → LeadsTo v f g → LeadsTo v g h → LeadsTo v f h
leads_both v f g h (way, l) t = go way f l
  where
    go : (way : List Icb) (f : Icb) → LeadsBy v f way g → LeadsTo v f h
    go [] f e = subst (λ z. LeadsTo v z h) (sym e) t
    go (x ∷ way) f l = let u : LeadsTo v x h = go way x l.1 in (x ∷ u.0, (l.0, u.1))

pub leads_nowhere : (v : View) (f g : Icb) → f ≡ g → LeadsTo v f g
leads_nowhere v f g e = ([], e)

-- what is led to from one of them is among them
pub closed_on : (v : View) (met : List Icb) → IsClosed v met → (f g : Icb) → Includes met f → LeadsTo v f g → Includes met g
closed_on v met closed f g i (way, l) = go way f i l
  where
    go : (way : List Icb) (f : Icb) → Includes met f → LeadsBy v f way g → Includes met g
    go [] f i e = subst (Includes met) e i
    go (x ∷ way) f i l = go way x (included met x (closed f x (contained met f i) l.0)) l.1

-- ---- one is explored
-- what was met from place `at` on is still to be followed
pub record IsExploring (v : View) (old : List Icb) (icb : Icb) (met : List Icb) (at : ℕ) : Type 0 where
  pub rest : List Icb
  pub is : met ≡ old ++ rest
  pub leads : (x : Icb) → Includes rest x → LeadsTo v icb x
  pub has : Includes met icb
  pub closed : (f g : Icb) → Includes (take at met) f → Contains (names_at v f) g → Includes met g
  pub past : length old ≤ at

pub exploring_start : (v : View) (old met : List Icb) (icb : Icb) (at : ℕ) → IsClosed v old → met ≡ with_icb old icb → at ≡ length old → IsExploring v old icb met at
exploring_start v old met icb at closed e n = go (list_any (is_icb icb) old) refl
  where
    first : (rest : List Icb) → met ≡ old ++ rest → (f g : Icb) → Includes (take at met) f → Contains (names_at v f) g → Includes met g
    first rest is f g i c = subst (λ z. Includes z g) (sym is) (in_front old rest g (included old g (closed f g (contained old f
        (subst (λ z. Includes z f) ((λ i. take (n i) (is i)) ∙ take_front old rest) i)) c)))

    go : (b : Bool) → list_any (is_icb icb) old ≡ b → IsExploring v old icb met at
    go true p = let is : met ≡ old ++ [] = e ∙ with_met old icb true p ∙ sym (append-nil old) in record {
      rest = [];
      is = is;
      leads = λ x i. absurd i;
      has = subst (λ z. Includes z icb) (sym (e ∙ with_met old icb true p)) (met_any old icb p);
      closed = first [] is;
      past = omega (arith, n);
    }
    go false p = let is : met ≡ old ++ icb ∷ [] = e ∙ with_met old icb false p in record {
      rest = icb ∷ [];
      is = is;
      leads = λ x i. leads_nowhere v icb x (in_one icb x i);
      has = subst (λ z. Includes z icb) (sym is) (in_last old icb);
      closed = first (icb ∷ []) is;
      past = omega (arith, n);
    }

-- the next one that is followed is led to
pub next_led : (v : View) (old met : List Icb) (icb next : Icb) (at : ℕ) → IsExploring v old icb met at → slice_get met at ≡ Some next → LeadsTo v icb next
next_led v old met icb next at x e = x.leads next (get_behind old x.rest at next x.past (sym (ap (λ z. slice_get z at) x.is) ∙ e))

pub exploring_next : (v : View) (old met new names : List Icb) (icb next : Icb) (at : ℕ) → IsExploring v old icb met at → slice_get met at ≡ Some next → names ≡ names_at v next
    → AreMetWith met names new → IsExploring v old icb new (at + 1)
exploring_next v old met new names icb next at x e n m = record {
  rest = x.rest ++ m.more;
  is = m.is ∙ ap (λ z. z ++ m.more) x.is ∙ append_assoc old x.rest m.more;
  leads = λ y i. leads y (in_either x.rest m.more y i);
  has = more icb x.has;
  closed = λ f g i c. closed f g (front_or_last (take at met) next f (subst (λ z. Includes z f) (ap (take (at + 1)) m.is ∙ take_one_more met m.more at next e) i)) c;
  past = (let p : length old ≤ at = x.past in omega (arith, p));
}
  where
    more : (y : Icb) → Includes met y → Includes new y
    more y i = subst (λ z. Includes z y) (sym m.is) (in_front met m.more y i)

    leads : (y : Icb) → Includes x.rest y ⊎ Includes m.more y → LeadsTo v icb y
    leads y (inl i) = x.leads y i
    leads y (inr i) = leads_on v icb next y (next_led v old met icb next at x e) (subst (λ z. Contains z y) n (m.among y (contained m.more y i)))

    closed : (f g : Icb) → Includes (take at met) f ⊎ (next ≡ f) → Contains (names_at v f) g → Includes new g
    closed f g (inl i) c = more g (x.closed f g i c)
    closed f g (inr q) c = included new g (m.has g (subst (λ z. Contains z g) (sym n) (subst (λ z. Contains (names_at v z) g) (sym q) c)))

pub exploring_done : (v : View) (old met : List Icb) (icb : Icb) (at : ℕ) → IsExploring v old icb met at → slice_get met at ≡ None → IsExplored v old icb met
exploring_done v old met icb at x e = record {
  rest = x.rest;
  is = x.is;
  leads = λ y i. x.leads y (included x.rest y i);
  has = contained met icb x.has;
  closed = λ f g i c. contained met g (x.closed f g (subst (λ z. Includes z f) (sym (take_past met at e)) (included met f i)) c);
}

pub explore_refused : (v : View) (old met : List Icb) (icb next : Icb) (at : ℕ) (error : NodesError) → IsExploring v old icb met at → slice_get met at ≡ Some next
    → AreEntriesRefused v next error → IsExploreRefused v icb error
explore_refused v old met icb next at TooManyPaths x e large = (next, next_led v old met icb next at x e, large)
explore_refused v old met icb next at OutOfMemory x e large = tt
