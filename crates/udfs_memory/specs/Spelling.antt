-- Paths as they are spelled in full: from the root, or from the run's own folder on.
--     is_plain path           it is spelled in full: it begins with a slash, or with `./`, or is `.`
--     spelled path            the path, spelled in full
--     is_short path           it is relative, and not spelled in full
use Rattle.std.proofs.Common.{refl, sym, ◌∙◌, ap, subst, inl, inr, ⊎_elim}
use Rattle.std.proofs.Math.Seq.{take-append_seam}
use Rattle.std.proofs.lemmas.Bool.{cases_Bool, cond-true, cond-false, eqb-true}
use Rattle.std.proofs.lemmas.Slice.Eq.{bytes_eq-Decides}
use Rattle.std.specs.Prelude.{◌≡◌, ◌≢◌, ◌⊎◌, ℕ, Bool, true, false, List, [], ◌∷◌, ◌++◌, length, take, if◌then◌else◌, bytes_eq, codes, nat_eq, suc}
use Rattle.udfs_calls.specs.Paths.{IsDevice, IsPart, folder_of, folder_path, has_slash, joined, last, parent}

-- behind a first slash: one more slash and then a name is not in full
abbrev pub after_slash : List ℕ → Bool
after_slash [] = true
after_slash (y ∷ []) = true
after_slash (y ∷ z ∷ rest) = if nat_eq y 47 then nat_eq z 47 else true

-- behind a first dot: nothing, or a slash
abbrev pub after_dot : List ℕ → Bool
after_dot [] = true
after_dot (y ∷ ys) = nat_eq y 47

-- it is spelled in full
abbrev pub is_plain : List ℕ → Bool
is_plain [] = false
is_plain (x ∷ xs) = if nat_eq x 47 then after_slash xs else if nat_eq x 46 then after_dot xs else false

-- the path, spelled in full: a relative one from `.` on, and of two slashes before a name one
abbrev pub spelled : List ℕ → List ℕ
spelled [] = codes "./"
spelled (x ∷ xs) = if is_plain (x ∷ xs) then x ∷ xs else if nat_eq x 47 then xs else 46 ∷ 47 ∷ x ∷ xs

-- what is spelled in full stays
pub plain_stays : (p : List ℕ) → is_plain p ≡ true → spelled p ≡ p
plain_stays [] is = cc
plain_stays (x ∷ xs) is = cond-true (is_plain (x ∷ xs)) (x ∷ xs) (if nat_eq x 47 then xs else 46 ∷ 47 ∷ x ∷ xs) is

slash_goes : (x : ℕ) (xs : List ℕ) → is_plain (x ∷ xs) ≡ false → nat_eq x 47 ≡ true → spelled (x ∷ xs) ≡ xs
slash_goes x xs not_plain slash = cond-false (is_plain (x ∷ xs)) (x ∷ xs) (if nat_eq x 47 then xs else 46 ∷ 47 ∷ x ∷ xs) not_plain ∙ cond-true (nat_eq x 47) xs (46 ∷ 47 ∷ x ∷ xs) slash

dot_comes : (x : ℕ) (xs : List ℕ) → is_plain (x ∷ xs) ≡ false → nat_eq x 47 ≡ false → spelled (x ∷ xs) ≡ 46 ∷ 47 ∷ x ∷ xs
dot_comes x xs not_plain slash = cond-false (is_plain (x ∷ xs)) (x ∷ xs) (if nat_eq x 47 then xs else 46 ∷ 47 ∷ x ∷ xs) not_plain ∙ cond-false (nat_eq x 47) xs (46 ∷ 47 ∷ x ∷ xs) slash

-- what is spelled in full, by its first byte
by_slash : (x : ℕ) (xs : List ℕ) → nat_eq x 47 ≡ true → is_plain (x ∷ xs) ≡ after_slash xs
by_slash x xs slash = cond-true (nat_eq x 47) (after_slash xs) (if nat_eq x 46 then after_dot xs else false) slash

by_dot : (x : ℕ) (xs : List ℕ) → nat_eq x 47 ≡ false → nat_eq x 46 ≡ true → is_plain (x ∷ xs) ≡ after_dot xs
by_dot x xs slash dot = cond-false (nat_eq x 47) (after_slash xs) (if nat_eq x 46 then after_dot xs else false) slash ∙ cond-true (nat_eq x 46) (after_dot xs) false dot

by_name : (x : ℕ) (xs : List ℕ) → nat_eq x 47 ≡ false → nat_eq x 46 ≡ false → is_plain (x ∷ xs) ≡ false
by_name x xs slash dot = cond-false (nat_eq x 47) (after_slash xs) (if nat_eq x 46 then after_dot xs else false) slash ∙ cond-false (nat_eq x 46) (after_dot xs) false dot

-- a longer path is not the root
not_root : (x y : ℕ) (ys : List ℕ) → bytes_eq (x ∷ y ∷ ys) (codes "/") ≡ false
not_root x y ys = elim (cases_Bool (bytes_eq (x ∷ y ∷ ys) (codes "/"))) [
  | inl hit ↦ let bad : x ∷ y ∷ ys ≡ 47 ∷ [] = (bytes_eq-Decides (x ∷ y ∷ ys) (codes "/")).0 hit in cc
  | inr miss ↦ miss
]

-- a slash and then more
in_turn : (g more : List ℕ) → g ++ codes "/" ++ more ≡ g ++ 47 ∷ more
in_turn [] more = refl
in_turn (x ∷ xs) more = ap (λ t. x ∷ t) (in_turn xs more)

-- a name in a folder that is not the root
joined_on : (g : List ℕ) (c : ℕ) (cs : List ℕ) → nat_eq c 47 ≡ false → bytes_eq g (codes "/") ≡ false → joined g (c ∷ cs) ≡ g ++ 47 ∷ c ∷ cs
joined_on g c cs name other =
    cond-false (nat_eq c 47) (c ∷ cs) (if bytes_eq g (codes "/") then codes "/" ++ c ∷ cs else g ++ codes "/" ++ c ∷ cs) name
    ∙ cond-false (bytes_eq g (codes "/")) (codes "/" ++ c ∷ cs) (g ++ codes "/" ++ c ∷ cs) other
    ∙ in_turn g (c ∷ cs)

joined_root : (c : ℕ) (cs : List ℕ) → nat_eq c 47 ≡ false → joined (codes "/") (c ∷ cs) ≡ 47 ∷ c ∷ cs
joined_root c cs name = cond-false (nat_eq c 47) (c ∷ cs) (codes "/" ++ c ∷ cs) name

module _ (c : ℕ) (cs : List ℕ) (name : nat_eq c 47 ≡ false) where
  -- a name in the root is spelled in full
  in_root : spelled (47 ∷ c ∷ cs) ≡ 47 ∷ c ∷ cs
  in_root = plain_stays (47 ∷ c ∷ cs) (behind cs)
    where
      behind : (cs : List ℕ) → after_slash (c ∷ cs) ≡ true
      behind [] = refl
      behind (z ∷ rest) = cond-false (nat_eq c 47) (nat_eq z 47) true name

  -- where a folder has one name, or none
  short : (x : ℕ) → spelled (x ∷ 47 ∷ c ∷ cs) ≡ joined (spelled (x ∷ [])) (c ∷ cs)
  short x = elim (cases_Bool (nat_eq x 47)) [
    | inl slash ↦
        let is : x ≡ 47 = eqb-true x 47 slash in
        subst (λ x. spelled (x ∷ 47 ∷ c ∷ cs) ≡ joined (spelled (x ∷ [])) (c ∷ cs)) (sym is) (slash_goes 47 (47 ∷ c ∷ cs) name refl ∙ sym (joined_root c cs name))
    | inr other ↦ elim (cases_Bool (nat_eq x 46)) [
      | inl dot ↦
          let is : x ≡ 46 = eqb-true x 46 dot in
          subst (λ x. spelled (x ∷ 47 ∷ c ∷ cs) ≡ joined (spelled (x ∷ [])) (c ∷ cs)) (sym is) (sym (joined_on (46 ∷ []) c cs name refl))
      | inr word ↦ dot_comes x (47 ∷ c ∷ cs) (by_name x (47 ∷ c ∷ cs) other word) other
          ∙ sym (joined_on (46 ∷ 47 ∷ x ∷ []) c cs name (not_root 46 47 (x ∷ [])))
          ∙ ap (λ g. joined g (c ∷ cs)) (sym (dot_comes x [] (by_name x [] other word) other))
    ]
  ]

  -- where it is spelled as its folder is
  stays_alike : (x y : ℕ) (ys : List ℕ) → is_plain (x ∷ y ∷ ys) ≡ true → is_plain (x ∷ y ∷ ys ++ 47 ∷ c ∷ cs) ≡ true → spelled (x ∷ y ∷ ys ++ 47 ∷ c ∷ cs) ≡ joined (spelled (x ∷ y ∷ ys)) (c ∷ cs)
  stays_alike x y ys one two = plain_stays (x ∷ y ∷ ys ++ 47 ∷ c ∷ cs) two ∙ sym (joined_on (x ∷ y ∷ ys) c cs name (not_root x y ys)) ∙ ap (λ g. joined g (c ∷ cs)) (sym (plain_stays (x ∷ y ∷ ys) one))

  dots_alike : (x y : ℕ) (ys : List ℕ) → nat_eq x 47 ≡ false → is_plain (x ∷ y ∷ ys) ≡ false → is_plain (x ∷ y ∷ ys ++ 47 ∷ c ∷ cs) ≡ false → spelled (x ∷ y ∷ ys ++ 47 ∷ c ∷ cs) ≡ joined (spelled (x ∷ y ∷ ys)) (c ∷ cs)
  dots_alike x y ys slash one two = dot_comes x (y ∷ ys ++ 47 ∷ c ∷ cs) two slash ∙ sym (joined_on (46 ∷ 47 ∷ x ∷ y ∷ ys) c cs name (not_root 46 47 (x ∷ y ∷ ys)))
      ∙ ap (λ g. joined g (c ∷ cs)) (sym (dot_comes x (y ∷ ys) one slash))

  -- where the first byte is a slash
  rooted : (x y : ℕ) (ys : List ℕ) → nat_eq x 47 ≡ true → spelled (x ∷ y ∷ ys ++ 47 ∷ c ∷ cs) ≡ joined (spelled (x ∷ y ∷ ys)) (c ∷ cs)
  rooted x y [] slash = elim (cases_Bool (nat_eq y 47)) [
    | inl more ↦ stays_alike x y [] (by_slash x (y ∷ []) slash) (by_slash x (y ∷ 47 ∷ c ∷ cs) slash ∙ cond-true (nat_eq y 47) true true more)
    | inr none ↦ stays_alike x y [] (by_slash x (y ∷ []) slash) (by_slash x (y ∷ 47 ∷ c ∷ cs) slash ∙ cond-false (nat_eq y 47) true true none)
  ]
  rooted x y (z ∷ zs) slash = elim (cases_Bool (after_slash (y ∷ z ∷ zs))) [
    | inl is ↦ stays_alike x y (z ∷ zs) (by_slash x (y ∷ z ∷ zs) slash ∙ is) (by_slash x (y ∷ z ∷ zs ++ 47 ∷ c ∷ cs) slash ∙ is)
    | inr is ↦ slash_goes x (y ∷ z ∷ zs ++ 47 ∷ c ∷ cs) (by_slash x (y ∷ z ∷ zs ++ 47 ∷ c ∷ cs) slash ∙ is) slash ∙ sym (joined_on (y ∷ z ∷ zs) c cs name (not_root y z zs))
        ∙ ap (λ g. joined g (c ∷ cs)) (sym (slash_goes x (y ∷ z ∷ zs) (by_slash x (y ∷ z ∷ zs) slash ∙ is) slash))
  ]

  -- where a folder has more
  long : (x y : ℕ) (ys : List ℕ) → spelled (x ∷ y ∷ ys ++ 47 ∷ c ∷ cs) ≡ joined (spelled (x ∷ y ∷ ys)) (c ∷ cs)
  long x y ys = elim (cases_Bool (nat_eq x 47)) [
    | inl slash ↦ rooted x y ys slash
    | inr other ↦ elim (cases_Bool (nat_eq x 46)) [
      | inl dot ↦ elim (cases_Bool (nat_eq y 47)) [
        | inl is ↦ stays_alike x y ys (by_dot x (y ∷ ys) other dot ∙ is) (by_dot x (y ∷ ys ++ 47 ∷ c ∷ cs) other dot ∙ is)
        | inr is ↦ dots_alike x y ys other (by_dot x (y ∷ ys) other dot ∙ is) (by_dot x (y ∷ ys ++ 47 ∷ c ∷ cs) other dot ∙ is)
      ]
      | inr word ↦ dots_alike x y ys other (by_name x (y ∷ ys) other word) (by_name x (y ∷ ys ++ 47 ∷ c ∷ cs) other word)
    ]
  ]

  -- a name behind this front and a slash
  behind_front : (f : List ℕ) → spelled (f ++ 47 ∷ c ∷ cs) ≡ joined (spelled (folder_path (f ++ 47 ∷ []))) (c ∷ cs)
  behind_front [] = in_root ∙ sym (joined_root c cs name)
  behind_front (x ∷ []) = short x
  behind_front (x ∷ y ∷ ys) = long x y ys ∙ ap (λ g. joined (spelled g) (c ∷ cs)) (sym (front x y ys))
    where
      front : (x y : ℕ) (ys : List ℕ) → folder_path (x ∷ y ∷ ys ++ 47 ∷ []) ≡ x ∷ y ∷ ys
      front x y ys = ap (λ n. take n (x ∷ y ∷ ys ++ 47 ∷ [])) (one_more (y ∷ ys)) ∙ take-append_seam (x ∷ y ∷ ys) (47 ∷ [])
        where
          one_more : (ys : List ℕ) → length (ys ++ 47 ∷ []) ≡ suc (length ys)
          one_more [] = refl
          one_more (z ∷ zs) = ap suc (one_more zs)

-- a first byte that is no slash, where there is none
no_first : (x : ℕ) (xs : List ℕ) → has_slash (x ∷ xs) ≡ false → nat_eq x 47 ≡ false
no_first x xs none = elim (cases_Bool (nat_eq x 47)) [
  | inl hit ↦ let is : true ≡ has_slash (x ∷ xs) = sym (cond-true (nat_eq x 47) true (has_slash xs) hit) in cc
  | inr miss ↦ miss
]

no_rest : (x : ℕ) (xs : List ℕ) → has_slash (x ∷ xs) ≡ false → has_slash xs ≡ false
no_rest x xs none = sym (cond-false (nat_eq x 47) true (has_slash xs) (no_first x xs none)) ∙ none

-- a path without a slash is a name
whole_name : (xs : List ℕ) → has_slash xs ≡ false → (last xs ≡ xs) × (folder_of xs ≡ [])
whole_name [] none = (refl, refl)
whole_name (x ∷ xs) none = (cond-false (has_slash (x ∷ xs)) (last xs) (x ∷ xs) none, cond-false (has_slash (x ∷ xs)) (x ∷ folder_of xs) [] none)

-- no name has a slash
last_none : (xs : List ℕ) → has_slash (last xs) ≡ false
last_none [] = refl
last_none (x ∷ xs) = elim (cases_Bool (has_slash (x ∷ xs))) [
  | inl is ↦ subst (λ l. has_slash l ≡ false) (sym (cond-true (has_slash (x ∷ xs)) (last xs) (x ∷ xs) is)) (last_none xs)
  | inr none ↦ subst (λ l. has_slash l ≡ false) (sym (cond-false (has_slash (x ∷ xs)) (last xs) (x ∷ xs) none)) none
]

-- a path with a slash is what is before its last one, that slash, and its name
split : (p : List ℕ) → has_slash p ≡ true → (f : List ℕ) × (p ≡ f ++ 47 ∷ last p) × (folder_of p ≡ f ++ 47 ∷ [])
split [] is = cc
split (x ∷ xs) is = elim (cases_Bool (has_slash xs)) [
  | inl more ↦
      let s = split xs more in (
        x ∷ s.0,
        ap (λ r. x ∷ r) s.1 ∙ ap (λ l. x ∷ s.0 ++ 47 ∷ l) (sym (cond-true (has_slash (x ∷ xs)) (last xs) (x ∷ xs) is)),
        cond-true (has_slash (x ∷ xs)) (x ∷ folder_of xs) [] is ∙ ap (λ r. x ∷ r) s.2,
      )
  | inr none ↦
      let first : x ≡ 47 = eqb-true x 47 (⊎_elim (λ hit. hit) (λ miss. let e = sym (cond-false (nat_eq x 47) true (has_slash xs) miss) ∙ is in cc) (cases_Bool (nat_eq x 47))) in (
        [],
        ap (λ b. b ∷ xs) first ∙ ap (λ l. 47 ∷ l) (sym (cond-true (has_slash (x ∷ xs)) (last xs) (x ∷ xs) is ∙ (whole_name xs none).0)),
        cond-true (has_slash (x ∷ xs)) (x ∷ folder_of xs) [] is ∙ ap (λ b. b ∷ folder_of xs) first ∙ ap (λ r. 47 ∷ r) (whole_name xs none).1,
      )
]

-- a name alone is spelled from `.` on
alone : (p : List ℕ) → has_slash p ≡ false → IsPart p → spelled p ≡ joined (codes ".") p
alone [] none part = absurd (part.0 refl)
alone (x ∷ xs) none part =
    let name = no_first x xs none in
    dot_comes x xs (not_plain xs none part.1) name ∙ sym (joined_on (46 ∷ []) x xs name refl)
  where
    not_plain : (xs : List ℕ) → has_slash (x ∷ xs) ≡ false → x ∷ xs ≢ codes "." → is_plain (x ∷ xs) ≡ false
    not_plain xs none other = elim (cases_Bool (nat_eq x 46)) [
      | inr word ↦ by_name x xs (no_first x xs none) word
      | inl dot ↦ by_dot x xs (no_first x xs none) dot ∙ dotted xs none other (eqb-true x 46 dot)
    ]
      where
        dotted : (xs : List ℕ) → has_slash (x ∷ xs) ≡ false → x ∷ xs ≢ codes "." → x ≡ 46 → after_dot xs ≡ false
        dotted [] none other is = absurd (other (ap (λ b. b ∷ []) is))
        dotted (y ∷ ys) none other is = no_first y ys (no_rest x (y ∷ ys) none)

-- what is no link is in the folder that its own folder leads to, by its own name
pub name_leads : (p : List ℕ) → IsPart (last p) → spelled p ≡ joined (spelled (parent p)) (last p)
name_leads p part = elim (cases_Bool (has_slash p)) [
  | inl is ↦
      let s = split p is in
      ap spelled s.1 ∙ behind s.0 (last p) (last_none p) part.0 ∙ ap (λ f. joined (spelled (folder_path f)) (last p)) (sym s.2)
  | inr none ↦
      let w = whole_name p none in
      alone p none (subst IsPart w.0 part) ∙ ap (λ l. joined (codes ".") l) (sym w.0) ∙ ap (λ f. joined (spelled (folder_path f)) (last p)) (sym w.1)
]
  where
    behind : (f b : List ℕ) → has_slash b ≡ false → b ≢ [] → spelled (f ++ 47 ∷ b) ≡ joined (spelled (folder_path (f ++ 47 ∷ []))) b
    behind f [] none some = absurd (some refl)
    behind f (c ∷ cs) none some = behind_front c cs (no_first c cs none) f

-- a path that begins so is spelled in full
begins : (y : ℕ) (prefix : List ℕ) (p : List ℕ) → nat_eq y 47 ≡ false → take (length (47 ∷ y ∷ prefix)) p ≡ 47 ∷ y ∷ prefix → is_plain p ≡ true
begins y prefix [] other is = let bad : [] ≡ 47 ∷ y ∷ prefix = is in cc
begins y prefix (x ∷ []) other is = let bad : x ∷ [] ≡ 47 ∷ y ∷ prefix = is in cc
begins y prefix (x ∷ z ∷ rest) other is =
    let e : x ∷ z ∷ take (length prefix) rest ≡ 47 ∷ y ∷ prefix = is in
    let first : x ≡ 47 = cc in
    let second : z ≡ y = cc in
    subst (λ x. is_plain (x ∷ z ∷ rest) ≡ true) (sym first) (subst (λ z. after_slash (z ∷ rest) ≡ true) (sym second) (behind rest))
  where
    behind : (rest : List ℕ) → after_slash (y ∷ rest) ≡ true
    behind [] = refl
    behind (w ∷ rest) = cond-false (nat_eq y 47) (nat_eq w 47) true other

-- a device is not followed
pub device_leads : (p : List ℕ) → IsDevice p → spelled p ≡ p
device_leads p (inl is) = plain_stays p (begins 112 (114 ∷ 111 ∷ 99 ∷ 47 ∷ []) p refl is)
device_leads p (inr is) = plain_stays p (begins 100 (101 ∷ 118 ∷ 47 ∷ []) p refl is.0)

-- a relative path, which is spelled from `./` on
abbrev pub is_short : List ℕ → Bool
is_short [] = true
is_short (x ∷ xs) = if is_plain (x ∷ xs) then false else if nat_eq x 47 then false else true

-- a relative path is spelled from `./` on
pub short_spelled : (p : List ℕ) → is_short p ≡ true → spelled p ≡ codes "./" ++ p
short_spelled [] is = refl
short_spelled (x ∷ xs) is = elim (cases_Bool (is_plain (x ∷ xs))) [
  | inl plain ↦ let bad = sym (cond-true (is_plain (x ∷ xs)) false (if nat_eq x 47 then false else true) plain) ∙ is in cc
  | inr other ↦ elim (cases_Bool (nat_eq x 47)) [
    | inl slash ↦ let bad = sym (cond-false (is_plain (x ∷ xs)) false (if nat_eq x 47 then false else true) other ∙ cond-true (nat_eq x 47) false true slash) ∙ is in cc
    | inr name ↦ dot_comes x xs other name
  ]
]
