-- The search for roots: the folders to which none before them leads, and those of them to which none after them leads.
use Rattle.std.proofs.Common.{◌≡◌, refl, sym, ◌∙◌, ap, subst, inl, inr, ◌⊎◌, ℕ, ◌+◌, ◌<◌, ◌≤◌, true, false, List, [], ◌∷◌, ◌++◌, length, take, arith, get_or, append_assoc}
use Rattle.std.specs.Prelude.{Contains, reverse}
use Rattle.std.specs.List.{list_any}
use Rattle.std.specs.List.Sorted.{IsNonDecreasingBy, IsPermutation}
use Rattle.std.proofs.lemmas.List.{append-nil, reverse-append}
use Rattle.std.proofs.lemmas.List.Sorted.{Contains-permutation, IsPermutation-sym}
use Rattle.udfs_lattice.proofs.Inclusion.{Includes, included, contained}
use Rattle.udfs_tag.specs.Fields.{number_of}
use Rattle.udfs_space.specs.Places.{View}
use Rattle.udfs_walk.specs.Targets.{Icb, is_icb}
use Rattle.udfs_walk.specs.declared.answers.NodesError.{NodesError}
use Rattle.udfs_walk.specs.declared.answers.NodesError.TheVariants.{TooManyPaths, OutOfMemory}
use Rattle.udfs_lost.specs.Folders.{AreLostRoots, IsLostRoot, IsRootsRefused}
use Rattle.udfs_lost.specs.Met.{IsClosed, IsExplored}
use Rattle.udfs_lost.specs.Naming.{IsLedTo, LeadsTo}
use Rattle.udfs_lost.specs.Starts.{AreRising, AreStarts, IsExploreRefused}
use Rattle.udfs_lost.proofs.Members.{Rises, front_or_last, get_same, in_back, in_either, in_front, in_last, pairs_rises, place_take, rises_across, rises_pairs, rises_snoc, take_in, take_next, take_place, take_whole}
use Rattle.udfs_lost.proofs.MetLemmas.{closed_on, leads_both, met_any, not_met, one_number}

-- one comes before the other, by partition reference and then by block
abbrev pub IsLess : Icb → Icb → Type 0
IsLess f g = number_of f < number_of g

either : (a b : ℕ) → (a < b) ⊎ (b ≤ a)
either a b = grind arith

below : (a b : ℕ) → a ≤ b → (a < b) ⊎ (a ≡ b)
below a b h = grind arith

-- some of these lead to it
abbrev IsReached : View → List Icb → Icb → Type 0
IsReached v xs f = (s : Icb) × Includes xs s × LeadsTo v s f

-- ---- the folders to which none before them leads, after the first i folders
pub record IsStarting (v : View) (folders : List Icb) (i : ℕ) (met starts : List Icb) : Type 0 where
  pub closed : IsClosed v met
  pub reached : (x : Icb) → Includes met x → IsReached v starts x
  pub held : (s : Icb) → Includes starts s → Includes met s
  pub among : (s : Icb) → Includes starts s → Includes (take i folders) s
  pub cover : (f : Icb) → Includes (take i folders) f → Includes met f
  pub near : (f : Icb) → Includes (take i folders) f → f.block < 4294967296
  pub first : (s g : Icb) → Includes starts s → Includes folders g → IsLess g s → ¬ LeadsTo v g s
  pub ascending : Rises IsLess starts

no_first : (folders : List Icb) (x : Icb) → Includes (take 0 folders) x → ⊥
no_first [] x i = i
no_first (y ∷ ys) x i = i

pub starting_none : (v : View) (folders met starts : List Icb) → met ≡ [] → starts ≡ [] → IsStarting v folders 0 met starts
starting_none v folders met starts e s = subst (λ z. IsStarting v folders 0 z starts) (sym e) (subst (λ z. IsStarting v folders 0 [] z) (sym s) (record {
  closed = λ f g i c. absurd (included [] f i);
  reached = λ x i. absurd i;
  held = λ x i. absurd i;
  among = λ x i. absurd i;
  cover = λ f i. absurd (no_first folders f i);
  near = λ f i. absurd (no_first folders f i);
  first = λ x g i j l. absurd i;
  ascending = tt;
}))

pub starting_skip : (v : View) (folders met starts : List Icb) (i : ℕ) (f : Icb) → i < length folders → f ≡ get_or folders i f → f.block < 4294967296 → list_any (is_icb f) met ≡ true
    → IsStarting v folders i met starts → IsStarting v folders (i + 1) met starts
starting_skip v folders met starts i f h at n p x = record {
  closed = x.closed;
  reached = x.reached;
  held = x.held;
  among = λ s j. subst (λ z. Includes z s) (sym next) (in_front (take i folders) (f ∷ []) s (x.among s j));
  cover = λ g j. cover g (front_or_last (take i folders) f g (subst (λ z. Includes z g) next j));
  near = λ g j. close g (front_or_last (take i folders) f g (subst (λ z. Includes z g) next j));
  first = x.first;
  ascending = x.ascending;
}
  where
    next : take (i + 1) folders ≡ take i folders ++ f ∷ []
    next = take_next folders i f h at

    cover : (g : Icb) → Includes (take i folders) g ⊎ (f ≡ g) → Includes met g
    cover g (inl j) = x.cover g j
    cover g (inr e) = subst (Includes met) e (met_any met f p)

    close : (g : Icb) → Includes (take i folders) g ⊎ (f ≡ g) → g.block < 4294967296
    close g (inl j) = x.near g j
    close g (inr e) = subst (λ (z : Icb). z.block < 4294967296) e n

-- what is less than a folder comes before it
comes_before : (folders : List Icb) (i : ℕ) (f g : Icb) → AreRising folders → i < length folders → f ≡ get_or folders i f → Includes folders g → IsLess g f → Includes (take i folders) g
comes_before folders i f g up h at j l = go (contained folders g j)
  where
    go : Contains folders g → Includes (take i folders) g
    go (k, m, e) = by (either k i)
      where
        same : get_or folders i g ≡ f
        same = get_same folders i f g h (sym at)

        by : (k < i) ⊎ (i ≤ k) → Includes (take i folders) g
        by (inl q) = place_take folders i k g q m e
        by (inr q) = late (below i k q)
          where
            late : (i < k) ⊎ (i ≡ k) → Includes (take i folders) g
            late (inl r) = absurd (let w : number_of f ≤ number_of g = subst (λ z. number_of z ≤ number_of g) same (subst (λ z. number_of (get_or folders i g) ≤ number_of z) e (up i k g r m)) in
                let z : ⊥ = omega (arith, w, l) in z)
            late (inr r) = absurd (let w : number_of g ≡ number_of f = ap number_of (sym e ∙ ap (λ z. get_or folders z g) (sym r) ∙ same) in let z : ⊥ = omega (arith, w, l) in z)

pub starting_more : (v : View) (folders met new starts more : List Icb) (i : ℕ) (f : Icb) → AreRising folders → i < length folders → f ≡ get_or folders i f → f.block < 4294967296
    → list_any (is_icb f) met ≡ false → IsExplored v met f new → more ≡ starts ++ f ∷ [] → IsStarting v folders i met starts → IsStarting v folders (i + 1) new more
starting_more v folders met new starts more i f up h at n p x e s = subst (λ z. IsStarting v folders (i + 1) new z) (sym e) (record {
  closed = x.closed;
  reached = λ y j. reached y (in_either met x.rest y (subst (λ z. Includes z y) x.is j));
  held = λ y j. held y (front_or_last starts f y j);
  among = λ y j. subst (λ z. Includes z y) (sym next) (among y (front_or_last starts f y j));
  cover = λ g j. cover g (front_or_last (take i folders) f g (subst (λ z. Includes z g) next j));
  near = λ g j. close g (front_or_last (take i folders) f g (subst (λ z. Includes z g) next j));
  first = λ y g j k l. first y g (front_or_last starts f y j) k l;
  ascending = rises_snoc IsLess starts f s.ascending (λ y j. less y j (below (number_of y) (number_of f) (rising y (s.among y j))));
})
  where
    next : take (i + 1) folders ≡ take i folders ++ f ∷ []
    next = take_next folders i f h at

    kept : (y : Icb) → Includes met y → Includes new y
    kept y j = subst (λ z. Includes z y) (sym x.is) (in_front met x.rest y j)

    reached : (y : Icb) → Includes met y ⊎ Includes x.rest y → IsReached v (starts ++ f ∷ []) y
    reached y (inl j) = let t : IsReached v starts y = s.reached y j in (t.0, in_front starts (f ∷ []) t.0 t.1, t.2)
    reached y (inr j) = (f, in_last starts f, x.leads y (contained x.rest y j))

    held : (y : Icb) → Includes starts y ⊎ (f ≡ y) → Includes new y
    held y (inl j) = kept y (s.held y j)
    held y (inr q) = subst (Includes new) q (included new f x.has)

    among : (y : Icb) → Includes starts y ⊎ (f ≡ y) → Includes (take i folders ++ f ∷ []) y
    among y (inl j) = in_front (take i folders) (f ∷ []) y (s.among y j)
    among y (inr q) = subst (Includes (take i folders ++ f ∷ [])) q (in_last (take i folders) f)

    cover : (g : Icb) → Includes (take i folders) g ⊎ (f ≡ g) → Includes new g
    cover g (inl j) = kept g (s.cover g j)
    cover g (inr q) = subst (Includes new) q (included new f x.has)

    close : (g : Icb) → Includes (take i folders) g ⊎ (f ≡ g) → g.block < 4294967296
    close g (inl j) = s.near g j
    close g (inr q) = subst (λ (z : Icb). z.block < 4294967296) q n

    first : (y g : Icb) → Includes starts y ⊎ (f ≡ y) → Includes folders g → IsLess g y → ¬ LeadsTo v g y
    first y g (inl j) k l t = s.first y g j k l t
    first y g (inr q) k l t = not_met met f p (closed_on v met s.closed g f
        (s.cover g (comes_before folders i f g up h at k (subst (λ z. number_of g < number_of z) (sym q) l))) (subst (λ z. LeadsTo v g z) (sym q) t))

    rising : (y : Icb) → Includes (take i folders) y → number_of y ≤ number_of f
    rising y j = go (take_place folders i y j)
      where
        go : (k : ℕ) × (k < i) × (k < length folders) × (get_or folders k y ≡ y) → number_of y ≤ number_of f
        go (k, l, m, q) = subst (λ z. number_of y ≤ number_of z) (get_same folders i f y h (sym at)) (subst (λ z. number_of z ≤ number_of (get_or folders i y)) q (up k i y l h))

    less : (y : Icb) → Includes starts y → (number_of y < number_of f) ⊎ (number_of y ≡ number_of f) → IsLess y f
    less y j (inl l) = l
    less y j (inr q) = absurd (not_met met f p (subst (Includes met) (one_number y f (s.near y (s.among y j)) n q) (s.held y j)))

pub starting_done : (v : View) (folders met starts : List Icb) (i : ℕ) → length folders ≤ i → IsStarting v folders i met starts → AreStarts v folders starts
starting_done v folders met starts i h x = record {
  near = λ f c. x.near f (all f c);
  among = λ s c. contained folders s (take_in folders i s (x.among s (included starts s c)));
  cover = λ f c. let t : IsReached v starts f = x.reached f (x.cover f (all f c)) in (t.0, contained starts t.0 t.1, t.2);
  first = λ s g c d. x.first s g (included starts s c) (included folders g d);
  ascending = rises_pairs IsLess starts x.ascending;
}
  where
    all : (f : Icb) → Contains folders f → Includes (take i folders) f
    all f c = subst (λ z. Includes z f) (sym (take_whole folders i h)) (included folders f c)

pub roots_refused : (v : View) (folders : List Icb) (f : Icb) (error : NodesError) → Contains folders f → IsExploreRefused v f error → IsRootsRefused v folders error
roots_refused v folders f TooManyPaths i x = record { folder = f; is = i; directory = x.0; leads = x.1; is_large = x.2 }
roots_refused v folders f OutOfMemory i x = tt

pub more_refused : (v : View) (folders starts : List Icb) (error : NodesError) → AreStarts v folders starts → IsRootsRefused v starts error → IsRootsRefused v folders error
more_refused v folders starts TooManyPaths s x = record { folder = x.folder; is = s.among x.folder x.is; directory = x.directory; leads = x.leads; is_large = x.is_large }
more_refused v folders starts OutOfMemory s x = tt

-- ---- the roots, after the last of the starts
pub record IsLasting (v : View) (folders starts left met out : List Icb) : Type 0 where
  pub done : List Icb
  pub is : starts ≡ left ++ done
  pub reached : (x : Icb) → Includes met x → IsReached v out x
  pub held : (r : Icb) → Includes out r → Includes met r
  pub among : (r : Icb) → Includes out r → Includes done r
  pub cover : (s : Icb) → Includes done s → Includes met s
  pub only : (r s : Icb) → Includes out r → Includes starts s → LeadsTo v s r → s ≡ r
  pub ascending : Rises IsLess out

pub lasting_none : (v : View) (folders starts left met out : List Icb) → left ≡ starts → met ≡ [] → out ≡ [] → IsLasting v folders starts left met out
lasting_none v folders starts left met out l e o = subst (λ z. IsLasting v folders starts left z out) (sym e) (subst (λ z. IsLasting v folders starts left [] z) (sym o) (record {
  done = [];
  is = sym l ∙ sym (append-nil left);
  reached = λ x i. absurd i;
  held = λ x i. absurd i;
  among = λ x i. absurd i;
  cover = λ x i. absurd i;
  only = λ r s i. absurd i;
  ascending = tt;
}))

-- one that was met is passed
pub lasting_skip : (v : View) (folders starts left less met out : List Icb) (f : Icb) → left ≡ less ++ f ∷ [] → list_any (is_icb f) met ≡ true → IsLasting v folders starts left met out
    → IsLasting v folders starts less met out
lasting_skip v folders starts left less met out f l p x = record {
  done = f ∷ x.done;
  is = x.is ∙ ap (λ z. z ++ x.done) l ∙ append_assoc less (f ∷ []) x.done;
  reached = x.reached;
  held = x.held;
  among = λ r i. inr (x.among r i);
  cover = cover;
  only = x.only;
  ascending = x.ascending;
}
  where
    cover : (s : Icb) → Includes (f ∷ x.done) s → Includes met s
    cover s (inl e) = subst (Includes met) e (met_any met f p)
    cover s (inr i) = x.cover s i

pub lasting_more : (v : View) (folders starts left less met new out : List Icb) (f : Icb) → AreStarts v folders starts → left ≡ less ++ f ∷ [] → list_any (is_icb f) met ≡ false
    → IsClosed v met → IsExplored v met f new → IsLasting v folders starts left met out → IsLasting v folders starts less new (f ∷ out)
lasting_more v folders starts left less met new out f st l p closed e x = record {
  done = f ∷ x.done;
  is = is;
  reached = λ y j. reached y (in_either met e.rest y (subst (λ z. Includes z y) e.is j));
  held = held;
  among = among;
  cover = cover;
  only = only;
  ascending = (λ r i. rises_across IsLess (less ++ f ∷ []) x.done f r (subst (Rises IsLess) (x.is ∙ ap (λ z. z ++ x.done) l) up) (in_last less f) (x.among r i), x.ascending);
}
  where
    is : starts ≡ less ++ f ∷ x.done
    is = x.is ∙ ap (λ z. z ++ x.done) l ∙ append_assoc less (f ∷ []) x.done

    up : Rises IsLess starts
    up = pairs_rises IsLess starts st.ascending

    kept : (y : Icb) → Includes met y → Includes new y
    kept y j = subst (λ z. Includes z y) (sym e.is) (in_front met e.rest y j)

    reached : (y : Icb) → Includes met y ⊎ Includes e.rest y → IsReached v (f ∷ out) y
    reached y (inl j) = let t : IsReached v out y = x.reached y j in (t.0, inr t.1, t.2)
    reached y (inr j) = (f, inl refl, e.leads y (contained e.rest y j))

    held : (r : Icb) → Includes (f ∷ out) r → Includes new r
    held r (inl q) = subst (Includes new) q (included new f e.has)
    held r (inr i) = kept r (x.held r i)

    among : (r : Icb) → Includes (f ∷ out) r → Includes (f ∷ x.done) r
    among r (inl q) = inl q
    among r (inr i) = inr (x.among r i)

    cover : (s : Icb) → Includes (f ∷ x.done) s → Includes new s
    cover s (inl q) = subst (Includes new) q (included new f e.has)
    cover s (inr i) = kept s (x.cover s i)

    start : Contains starts f
    start = contained starts f (subst (λ z. Includes z f) (sym is) (in_back less (f ∷ x.done) f (inl refl)))

    alone : (s : Icb) → Includes less s ⊎ Includes (f ∷ x.done) s → LeadsTo v s f → s ≡ f
    alone s (inl i) t = absurd (st.first f s start (st.among s (contained starts s (subst (λ z. Includes z s) (sym is) (in_front less (f ∷ x.done) s i))))
        (rises_across IsLess less (f ∷ x.done) s f (subst (Rises IsLess) is up) i (inl refl)) t)
    alone s (inr (inl q)) t = sym q
    alone s (inr (inr i)) t = absurd (not_met met f p (closed_on v met closed s f (x.cover s i) t))

    only : (r s : Icb) → Includes (f ∷ out) r → Includes starts s → LeadsTo v s r → s ≡ r
    only r s (inl q) j t = alone s (in_either less (f ∷ x.done) s (subst (λ z. Includes z s) is j)) (subst (LeadsTo v s) (sym q) t) ∙ q
    only r s (inr i) j t = x.only r s i j t

pub lasting_done : (v : View) (folders starts left met out : List Icb) → AreStarts v folders starts → left ≡ [] → IsLasting v folders starts left met out → AreLostRoots v folders out
lasting_done v folders starts left met out st l x = record {
  each = λ f. ((λ c. root f (included out f c)), (λ r. contained out f (found f r)));
  all = λ f c. led f (st.cover f c);
  ascending = rises_pairs IsLess out x.ascending;
}
  where
    is : starts ≡ x.done
    is = x.is ∙ ap (λ z. z ++ x.done) l

    led : (f : Icb) → IsLedTo v starts f → IsLedTo v out f
    led f (s, j, u) = let t : IsReached v out s = x.reached s (x.cover s (subst (λ z. Includes z s) is (included starts s j))) in (t.0, contained out t.0 t.1, leads_both v t.0 s f t.2 u)

    start : (r : Icb) → Includes out r → Contains starts r
    start r i = contained starts r (subst (λ z. Includes z r) (sym is) (x.among r i))

    root : (f : Icb) → Includes out f → IsLostRoot v folders f
    root f i = record { is = st.among f (start f i); first = λ g c t. (back g c t (st.cover g c), least g c t (either (number_of g) (number_of f))) }
      where
        back : (g : Icb) → Contains folders g → LeadsTo v g f → IsLedTo v starts g → LeadsTo v f g
        back g c t (s, j, u) = subst (λ z. LeadsTo v z g) (x.only f s i (included starts s j) (leads_both v s g f u t)) u

        least : (g : Icb) → Contains folders g → LeadsTo v g f → (number_of g < number_of f) ⊎ (number_of f ≤ number_of g) → number_of f ≤ number_of g
        least g c t (inl l) = absurd (st.first f g (start f i) c l t)
        least g c t (inr l) = l

    found : (f : Icb) → IsLostRoot v folders f → Includes out f
    found f r = by_start (st.cover f r.is)
      where
        -- a folder to which it leads back and before which it does not come is itself
        itself : (s : Icb) → Contains folders s → LeadsTo v f s → number_of f ≤ number_of s → Contains starts s → f ≡ s
        itself s c t le j = go (below (number_of f) (number_of s) le)
          where
            go : (number_of f < number_of s) ⊎ (number_of f ≡ number_of s) → f ≡ s
            go (inl m) = absurd (st.first s f j r.is m t)
            go (inr q) = one_number f s (st.near f r.is) (st.near s c) q

        by_start : IsLedTo v starts f → Includes out f
        by_start (s, j, u) = by_root (x.reached s (x.cover s (subst (λ z. Includes z s) is (included starts s j))))
          where
            first : LeadsTo v f s × (number_of f ≤ number_of s)
            first = r.first s (st.among s j) u

            same : f ≡ s
            same = itself s (st.among s j) first.0 first.1 j

            by_root : IsReached v out s → Includes out f
            by_root (q, k, t) = subst (Includes out) (sym (x.only q f k (subst (λ z. Includes starts z) (sym same) (included starts s j)) (again (r.first q (st.among q (start q k)) (subst (LeadsTo v q) (sym same) t))))) k
              where
                again : LeadsTo v f q × (number_of f ≤ number_of q) → LeadsTo v f q
                again z = z.0

-- the last of the roots is put before the others
pub put_before : (roots more : List Icb) (f : Icb) → more ≡ roots ++ f ∷ [] → reverse more ≡ f ∷ reverse roots
put_before roots more f e = ap reverse e ∙ reverse-append roots (f ∷ [])

-- ---- folders in another order
pub rising : (folders : List Icb) → IsNonDecreasingBy number_of folders → AreRising folders
rising folders h i j d p q = h i j d (omega (arith, p)) q

pub permuted_roots : (v : View) (folders others roots : List Icb) → IsPermutation folders others → AreLostRoots v others roots → AreLostRoots v folders roots
permuted_roots v folders others roots p x = record { each = λ f. ((λ c. back f ((x.each f).0 c)), (λ r. (x.each f).1 (there f r))); all = λ f c. x.all f (to f c); ascending = x.ascending }
  where
    to : (f : Icb) → Contains folders f → Contains others f
    to f c = Contains-permutation folders others f p c

    from : (f : Icb) → Contains others f → Contains folders f
    from f c = Contains-permutation others folders f (IsPermutation-sym folders others p) c

    back : (f : Icb) → IsLostRoot v others f → IsLostRoot v folders f
    back f r = record { is = from f r.is; first = λ g c t. r.first g (to g c) t }

    there : (f : Icb) → IsLostRoot v folders f → IsLostRoot v others f
    there f r = record { is = to f r.is; first = λ g c t. r.first g (from g c) t }

pub permuted_refused : (v : View) (folders others : List Icb) (error : NodesError) → IsPermutation folders others → IsRootsRefused v others error → IsRootsRefused v folders error
permuted_refused v folders others TooManyPaths p x = record { folder = x.folder; is = Contains-permutation others folders x.folder (IsPermutation-sym folders others p) x.is; directory = x.directory; leads = x.leads; is_large = x.is_large }
permuted_refused v folders others OutOfMemory p x = tt
