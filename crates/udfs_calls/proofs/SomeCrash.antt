-- After calls that can follow one another a crash leaves something: all that was synced may be there, folder by folder.
use Rattle.std.proofs.Common.{inl, inr, ⊎_elim, refl, sym, ◌∙◌, ap, subst, arith}
use Rattle.std.proofs.lemmas.Bool.{cases_Bool, eq-eqb, eqb-true}
use Rattle.std.proofs.lemmas.Slice.Eq.{bytes_eq-Decides}
use Rattle.std.specs.Prelude.{◌≡◌, ◌≢◌, ◌⊎◌, ℕ, ◌≤◌, ◌<◌, Bool, true, false, List, [], ◌∷◌, length, Option, Some, None, if◌then◌else◌, bytes_eq, nat_eq, ⊤}
use Rattle.udfs_calls.specs.Disk.{Disk, SameBut, Moved, Gone}
use Rattle.udfs_calls.specs.Lawful.{IsLawful, SomeCrash}
use Rattle.udfs_calls.specs.Log.{Call, Made, Node, Start, held_by, content, is_created, kept, kept_of, new_content, node_at, outcome, shown, told_bytes}
use Rattle.udfs_calls.specs.Log.Call.{created, opened, synced, renamed, removed, folder_made, folder_synced, failed}
use Rattle.udfs_calls.specs.Log.Node.{there, made, folder}
use Rattle.udfs_calls.specs.Paths.{parent}

pub apart : (p q : List ℕ) → p ≢ q → bytes_eq p q ≡ false
apart p q other = elim (cases_Bool (bytes_eq p q)) [
  | inl hit ↦ absurd (other ((bytes_eq-Decides p q).0 hit))
  | inr miss ↦ miss
]

pub alike : (q : List ℕ) → bytes_eq q q ≡ true
alike q = (bytes_eq-Decides q q).1 refl

-- what the new files have in the end, by their numbers
abbrev Ends : Type 0
Ends = ℕ → Option (List ℕ)

-- those that were synced have what was synced
abbrev Agrees : Ends → List Call → Type 0
Agrees ends [] = ⊤
Agrees ends (synced number bytes ∷ calls) = (ends number ≡ Some bytes) × Agrees ends calls
Agrees ends (folder_made q ∷ calls) = Agrees ends calls
Agrees ends (created q ∷ calls) = Agrees ends calls
Agrees ends (opened q ∷ calls) = Agrees ends calls
Agrees ends (renamed from to ∷ calls) = Agrees ends calls
Agrees ends (removed q ∷ calls) = Agrees ends calls
Agrees ends (folder_synced q ∷ calls) = Agrees ends calls
Agrees ends (failed call ∷ calls) = Agrees ends calls

-- what was synced is there in the end
synced_ends : (ends : Ends) (calls : List Call) → Agrees ends calls → (number : ℕ) (bytes : List ℕ) → new_content calls number ≡ Some bytes → ends number ≡ Some bytes
synced_ends ends [] agrees number bytes is = let bad : None ≡ Some bytes = is in cc
synced_ends ends (synced m xs ∷ calls) agrees number bytes is = elim (cases_Bool (nat_eq number m)) [
  | inl hit ↦
      let same : number ≡ m = eqb-true number m hit in
      ap ends same ∙ agrees.0 ∙ sym (ap (λ b. if b then Some xs else new_content calls number) hit) ∙ is
  | inr miss ↦ synced_ends ends calls agrees.1 number bytes (sym (ap (λ b. if b then Some xs else new_content calls number) miss) ∙ is)
]
synced_ends ends (folder_made q ∷ calls) agrees number bytes is = synced_ends ends calls agrees number bytes is
synced_ends ends (created q ∷ calls) agrees number bytes is = synced_ends ends calls agrees number bytes is
synced_ends ends (opened q ∷ calls) agrees number bytes is = synced_ends ends calls agrees number bytes is
synced_ends ends (renamed from to ∷ calls) agrees number bytes is = synced_ends ends calls agrees number bytes is
synced_ends ends (removed q ∷ calls) agrees number bytes is = synced_ends ends calls agrees number bytes is
synced_ends ends (folder_synced q ∷ calls) agrees number bytes is = synced_ends ends calls agrees number bytes is
synced_ends ends (failed call ∷ calls) agrees number bytes is = synced_ends ends calls agrees number bytes is

-- what a file may have, once all is written
abbrev end_of : Ends → Start → Option Node → Option (List ℕ)
end_of ends start None = None
end_of ends start (Some (there number)) = start.content number
end_of ends start (Some (made number)) = ends number
end_of ends start (Some (folder number)) = None

-- what paths may hold, once all is written
abbrev best : Ends → Start → List Call → Disk
best ends start calls p = end_of ends start (node_at start calls p)

-- where bytes are known, nothing else is left
known_kept : (x c : Option (List ℕ)) → ((xs : List ℕ) → x ≡ Some xs → c ≡ Some xs) → kept_of (told_bytes x) c
known_kept None c is = tt
known_kept (Some xs) c is = is xs refl

-- a crash may leave it
entry_kept : (ends : Ends) (start : Start) (calls : List Call) → Agrees ends calls → (entry : Option Node) → kept_of (held_by (content start calls) entry) (end_of ends start entry)
entry_kept ends start calls agrees None = refl
entry_kept ends start calls agrees (Some (there number)) = known_kept (start.content number) (start.content number) (λ xs is. is)
entry_kept ends start calls agrees (Some (made number)) = known_kept (new_content calls number) (ends number) (synced_ends ends calls agrees number)
entry_kept ends start calls agrees (Some (folder number)) = refl

best_kept : (ends : Ends) (start : Start) (calls : List Call) → Agrees ends calls → (p : List ℕ) → kept start calls p (best ends start calls p)
best_kept ends start calls agrees p = entry_kept ends start calls agrees (node_at start calls p)

-- what some paths hold is put in place, and elsewhere is what was there
abbrev brought : (List ℕ → Bool) → Disk → Disk → Disk
brought these v d p = if these p then v p else d p

here : (these : List ℕ → Bool) (v d : Disk) (p : List ℕ) → these p ≡ true → brought these v d p ≡ v p
here these v d p is = ap (λ b. if b then v p else d p) is

far : (these : List ℕ → Bool) (v d : Disk) (p : List ℕ) → these p ≡ false → brought these v d p ≡ d p
far these v d p is = ap (λ b. if b then v p else d p) is

module _ (these : List ℕ → Bool) where
  -- at a path that holds the same, what is brought is the same where the rest is
  both : (v w d c : Disk) (p : List ℕ) → w p ≡ v p → c p ≡ d p → brought these w c p ≡ brought these v d p
  both v w d c p one two = elim (cases_Bool (these p)) [
    | inl is ↦ here these w c p is ∙ one ∙ sym (here these v d p is)
    | inr is ↦ far these w c p is ∙ two ∙ sym (far these v d p is)
  ]

  both_but : (q : List ℕ) (v w d c : Disk) → SameBut q v w → SameBut q d c → SameBut q (brought these v d) (brought these w c)
  both_but q v w d c one two p other = both v w d c p (one p other) (two p other)

  -- a file was moved, or not yet
  both_moved : (from to : List ℕ) (left : Option (List ℕ) → Type 0) (v w d c : Disk) → ((p : List ℕ) → p ≢ from → p ≢ to → w p ≡ v p) → (w to ≡ v to) ⊎ left (w to) → Moved from to left d c → Moved from to left (brought these v d) (brought these w c)
  both_moved from to left v w d c others at step = record {
    others = λ p not_from not_to. both v w d c p (others p not_from not_to) (step.others p not_from not_to);
    target = elim (cases_Bool (these to)) [
      | inl is ↦ ⊎_elim (λ same. inl (here these w c to is ∙ same ∙ sym (here these v d to is))) (λ kept. inr (subst left (sym (here these w c to is)) kept)) at
      | inr is ↦ ⊎_elim (λ same. inl (far these w c to is ∙ same ∙ sym (far these v d to is))) (λ kept. inr (subst left (sym (far these w c to is)) kept)) step.target
    ];
  }

  -- a name was removed, or not yet
  both_gone : (q : List ℕ) (v w d c : Disk) → SameBut q v w → (w q ≡ v q) ⊎ (w q ≡ None) → Gone q d c → Gone q (brought these v d) (brought these w c)
  both_gone q v w d c others at step = record {
    others = λ p other. both v w d c p (others p other) (step.others p other);
    target = elim (cases_Bool (these q)) [
      | inl is ↦ ⊎_elim (λ same. inl (here these w c q is ∙ same ∙ sym (here these v d q is))) (λ none. inr (here these w c q is ∙ none)) at
      | inr is ↦ ⊎_elim (λ same. inl (far these w c q is ∙ same ∙ sym (far these v d q is))) (λ none. inr (far these w c q is ∙ none)) step.target
    ];
  }

  both_made : (entry : Option Node) (q : List ℕ) (v d c : Disk) → Made entry q d c → Made entry q (brought these v d) (brought these v c)
  both_made None q v d c step = both_but q v v d c (λ p other. refl) step
  both_made (Some node) q v d c step = λ p. both v v d c p refl (step p)

  -- what a crash may show of a call, it may show with what these paths hold put in place before and after
  both_shown : (start : Start) (calls : List Call) (call : Call) (v d c : Disk) → shown start calls call d c → shown start calls call (brought these v d) (brought these v c)
  both_shown start calls (created q) v d c step = both_made (node_at start calls q) q v d c step
  both_shown start calls (opened q) v d c step = both_but q v v d c (λ p other. refl) step
  both_shown start calls (synced number bytes) v d c step = λ p. both v v d c p refl (step p)
  both_shown start calls (renamed from to) v d c step = both_moved from to (kept start calls from) v v d c (λ p not_from not_to. refl) (inl refl) step
  both_shown start calls (removed q) v d c step = both_gone q v v d c (λ p other. refl) (inl refl) step
  both_shown start calls (folder_made q) v d c step = λ p. both v v d c p refl (step p)
  both_shown start calls (folder_synced q) v d c step = λ p. both v v d c p refl (step p)
  both_shown start calls (failed call) v d c step = both_shown start calls call v d c step

-- what a new file or folder may hold where nothing was
module _ (ends : Ends) (start : Start) (calls : List Call) (q : List ℕ) (new : Option Node) where
  other_best : SameBut q (best ends start calls) (λ p. end_of ends start (if bytes_eq p q then new else node_at start calls p))
  other_best p other = ap (λ b. end_of ends start (if b then new else node_at start calls p)) (apart p q other)

  own_best : end_of ends start (if bytes_eq q q then new else node_at start calls q) ≡ end_of ends start new
  own_best = ap (λ b. end_of ends start (if b then new else node_at start calls q)) (alike q)

-- where a crash may leave a disk, it may also leave it with what these paths may hold put in place
module _ (ends : Ends) (start : Start) (these : List ℕ → Bool) where
  abbrev with_best : List Call → Disk → Disk
  with_best calls d = brought these (best ends start calls) d

  commit : (calls : List Call) → Agrees ends calls → IsLawful start calls → (d : Disk) → outcome start calls d → outcome start calls (with_best calls d)
  commit [] agrees lawful d left = λ p. elim (cases_Bool (these p)) [
    | inl is ↦ subst (kept start [] p) (sym (here these (best ends start []) d p is)) (best_kept ends start [] tt p)
    | inr is ↦ subst (kept start [] p) (sym (far these (best ends start []) d p is)) (left p)
  ]
  commit (created q ∷ calls) agrees lawful d left =
      let before = left.0.0 in
      let none : node_at start calls q ≡ None = lawful.0 in
      let step : SameBut q before d = subst (λ e. Made e q before d) none left.0.2 in (
        (
          with_best calls before,
          commit calls agrees lawful.1 before left.0.1,
          subst (λ e. Made e q (with_best calls before) (with_best (created q ∷ calls) d)) (sym none)
              (both_but these q (best ends start calls) (best ends start (created q ∷ calls)) before d (other_best ends start calls q (Some (made (length calls)))) step),
        ),
        tt,
      )
  commit (opened q ∷ calls) agrees lawful d left =
      let before = left.0.0 in (
        (
          with_best calls before,
          commit calls agrees lawful.1 before left.0.1,
          both_but these q (best ends start calls) (best ends start (opened q ∷ calls)) before d (other_best ends start calls q (Some (made (length calls)))) left.0.2,
        ),
        tt,
      )
  commit (folder_made q ∷ calls) agrees lawful d left =
      let before = left.0.0 in
      let new : Option Node = Some (folder (length calls)) in
      let same : (p : List ℕ) → best ends start (folder_made q ∷ calls) p ≡ best ends start calls p = λ p. elim (cases_Bool (bytes_eq p q)) [
        | inl hit ↦
            let is : p ≡ q = (bytes_eq-Decides p q).0 hit in
            ap (λ b. end_of ends start (if b then new else node_at start calls p)) hit ∙ sym (ap (λ r. end_of ends start (node_at start calls r)) is ∙ ap (end_of ends start) lawful.0)
        | inr miss ↦ ap (λ b. end_of ends start (if b then new else node_at start calls p)) miss
      ] in (
        (
          with_best calls before,
          commit calls agrees lawful.1 before left.0.1,
          λ p. both these (best ends start calls) (best ends start (folder_made q ∷ calls)) before d p (same p) (left.0.2 p),
        ),
        tt,
      )
  commit (removed q ∷ calls) agrees lawful d left =
      let before = left.0.0 in (
        (
          with_best calls before,
          commit calls agrees lawful.1 before left.0.1,
          both_gone these q (best ends start calls) (best ends start (removed q ∷ calls)) before d (other_best ends start calls q None) (inr (own_best ends start calls q None)) left.0.2,
        ),
        tt,
      )
  commit (renamed from to ∷ calls) agrees lawful d left =
      let before = left.0.0 in
      let old : Disk = best ends start calls in
      let new : Disk = best ends start (renamed from to ∷ calls) in
      let others : (p : List ℕ) → p ≢ from → p ≢ to → new p ≡ old p = λ p not_from not_to.
      ap (λ b. end_of ends start (if b then node_at start calls from else if bytes_eq p from then None else node_at start calls p)) (apart p to not_to)
      ∙ ap (λ b. end_of ends start (if b then None else node_at start calls p)) (apart p from not_from) in
      let moved : new to ≡ old from = ap (λ b. end_of ends start (if b then node_at start calls from else if bytes_eq to from then None else node_at start calls to)) (alike to) in (
        (
          with_best calls before,
          commit calls agrees lawful.1 before left.0.1,
          both_moved these from to (kept start calls from) old new before d others (inr (subst (kept start calls from) (sym moved) (best_kept ends start calls agrees from))) left.0.2,
        ),
        tt,
      )
  commit (synced number bytes ∷ calls) agrees lawful d left = (
    (with_best calls left.0.0, commit calls agrees.1 lawful.1 left.0.0 left.0.1, λ p. both these (best ends start calls) (best ends start calls) left.0.0 d p refl (left.0.2 p)),
    tt,
  )
  commit (folder_synced f ∷ calls) agrees lawful d left = (
    (with_best calls left.0.0, commit calls agrees lawful.1 left.0.0 left.0.1, λ p. both these (best ends start calls) (best ends start calls) left.0.0 d p refl (left.0.2 p)),
    λ named p is. elim (cases_Bool (these p)) [
      | inl hit ↦ subst (kept start calls p) (sym (here these (best ends start calls) d p hit)) (best_kept ends start calls agrees p)
      | inr miss ↦ subst (kept start calls p) (sym (far these (best ends start calls) d p miss)) (left.1 named p is)
    ],
  )
  commit (failed call ∷ calls) agrees lawful d left = (
    (with_best calls left.0.0, commit calls agrees lawful.1 left.0.0 left.0.1, both_shown these start calls call (best ends start calls) left.0.0 d left.0.2),
    tt,
  )

-- a crash may show nothing of a call
nothing_made : (entry : Option Node) (q : List ℕ) (c : Disk) → Made entry q c c
nothing_made None q c = λ p other. refl
nothing_made (Some node) q c = λ p. refl

nothing_shown : (start : Start) (calls : List Call) (call : Call) (c : Disk) → shown start calls call c c
nothing_shown start calls (created q) c = nothing_made (node_at start calls q) q c
nothing_shown start calls (opened q) c = λ p other. refl
nothing_shown start calls (synced number bytes) c = λ p. refl
nothing_shown start calls (renamed from to) c = record { others = λ p not_from not_to. refl; target = inl refl }
nothing_shown start calls (removed q) c = record { others = λ p other. refl; target = inl refl }
nothing_shown start calls (folder_made q) c = λ p. refl
nothing_shown start calls (folder_synced q) c = λ p. refl
nothing_shown start calls (failed call) c = nothing_shown start calls call c

-- the paths of a folder
abbrev below : List ℕ → List ℕ → Bool
below f p = bytes_eq (parent p) f

-- a crash leaves something: the disk at first, with what was in each folder when it was synced
left : (ends : Ends) (start : Start) (calls : List Call) → Agrees ends calls → IsLawful start calls → (c : Disk) × outcome start calls c
left ends start [] agrees lawful = (best ends start [], best_kept ends start [] tt)
left ends start (created q ∷ calls) agrees lawful = let c = left ends start calls agrees lawful.1 in (c.0, ((c.0, c.1, nothing_shown start calls (created q) c.0), tt))
left ends start (opened q ∷ calls) agrees lawful = let c = left ends start calls agrees lawful.1 in (c.0, ((c.0, c.1, nothing_shown start calls (opened q) c.0), tt))
left ends start (synced number bytes ∷ calls) agrees lawful = let c = left ends start calls agrees.1 lawful.1 in (c.0, ((c.0, c.1, nothing_shown start calls (synced number bytes) c.0), tt))
left ends start (renamed from to ∷ calls) agrees lawful = let c = left ends start calls agrees lawful.1 in (c.0, ((c.0, c.1, nothing_shown start calls (renamed from to) c.0), tt))
left ends start (removed q ∷ calls) agrees lawful = let c = left ends start calls agrees lawful.1 in (c.0, ((c.0, c.1, nothing_shown start calls (removed q) c.0), tt))
left ends start (folder_made q ∷ calls) agrees lawful = let c = left ends start calls agrees lawful.1 in (c.0, ((c.0, c.1, nothing_shown start calls (folder_made q) c.0), tt))
left ends start (folder_synced f ∷ calls) agrees lawful =
    let c = left ends start calls agrees lawful.1 in
    let d : Disk = brought (below f) (best ends start calls) c.0 in (
      d,
      (
        (d, commit ends start (below f) calls agrees lawful.1 c.0 c.1, λ p. refl),
        λ named p is. subst (kept start calls p) (sym (here (below f) (best ends start calls) c.0 p ((bytes_eq-Decides (parent p) f).1 is))) (best_kept ends start calls agrees p),
      ),
    )
left ends start (failed call ∷ calls) agrees lawful = let c = left ends start calls agrees lawful.1 in (c.0, ((c.0, c.1, nothing_shown start calls (failed call) c.0), tt))

-- the number of a file that was made is one of a call that was made
early : (calls : List Call) (number : ℕ) → is_created calls number → number < length calls
early [] number is = absurd is
early (created q ∷ calls) number (inl last) = omega (arith, last)
early (created q ∷ calls) number (inr is) = let l = early calls number is in omega (arith, l)
early (opened q ∷ calls) number is = let l = early calls number is in omega (arith, l)
early (synced m bytes ∷ calls) number is = let l = early calls number is in omega (arith, l)
early (renamed from to ∷ calls) number is = let l = early calls number is in omega (arith, l)
early (removed q ∷ calls) number is = let l = early calls number is in omega (arith, l)
early (folder_made q ∷ calls) number is = let l = early calls number is in omega (arith, l)
early (folder_synced q ∷ calls) number is = let l = early calls number is in omega (arith, l)
early (failed call ∷ calls) number is = let l = early calls number is in omega (arith, l)

pub unlike : (n m : ℕ) → n ≢ m → nat_eq n m ≡ false
unlike n m other = elim (cases_Bool (nat_eq n m)) [
  | inl hit ↦ absurd (other (eqb-true n m hit))
  | inr miss ↦ miss
]

-- nothing was synced of what is made later
pub later_unknown : (start : Start) (calls : List Call) (number : ℕ) → IsLawful start calls → length calls ≤ number → new_content calls number ≡ None
later_unknown start [] number lawful le = refl
later_unknown start (synced m bytes ∷ calls) number lawful le =
    let l = early calls m lawful.0.0 in
    ap (λ b. if b then Some bytes else new_content calls number) (unlike number m (λ is. omega (arith, is, l, le))) ∙ later_unknown start calls number lawful.1 (omega (arith, le))
later_unknown start (created q ∷ calls) number lawful le = later_unknown start calls number lawful.1 (omega (arith, le))
later_unknown start (opened q ∷ calls) number lawful le = later_unknown start calls number lawful.1 (omega (arith, le))
later_unknown start (renamed from to ∷ calls) number lawful le = later_unknown start calls number lawful.1 (omega (arith, le))
later_unknown start (removed q ∷ calls) number lawful le = later_unknown start calls number lawful.1 (omega (arith, le))
later_unknown start (folder_made q ∷ calls) number lawful le = later_unknown start calls number lawful.1 (omega (arith, le))
later_unknown start (folder_synced q ∷ calls) number lawful le = later_unknown start calls number lawful.1 (omega (arith, le))
later_unknown start (failed call ∷ calls) number lawful le = later_unknown start calls number lawful.1 (omega (arith, le))

-- one file more that was synced
module _ (ends : Ends) (number : ℕ) (bytes : List ℕ) where
  abbrev more : Ends
  more m = if nat_eq m number then Some bytes else ends m

  more_other : (m : ℕ) → m ≢ number → more m ≡ ends m
  more_other m other = ap (λ b. if b then Some bytes else ends m) (unlike m number other)

  more_agrees : (calls : List Call) → Agrees ends calls → is_created calls number → new_content calls number ≡ None → Agrees more calls
  more_agrees [] agrees new none = tt
  more_agrees (synced m xs ∷ calls) agrees new none = elim (cases_Bool (nat_eq number m)) [
    | inl hit ↦ let bad : Some xs ≡ None = sym (ap (λ b. if b then Some xs else new_content calls number) hit) ∙ none in cc
    | inr miss ↦
        let other : m ≢ number = λ is. (let bad : true ≡ false = sym (eq-eqb number m (sym is)) ∙ miss in cc) in
        (more_other m other ∙ agrees.0, more_agrees calls agrees.1 new (sym (ap (λ b. if b then Some xs else new_content calls number) miss) ∙ none))
  ]
  more_agrees (folder_made q ∷ calls) agrees new none = more_agrees calls agrees new none
  more_agrees (created q ∷ calls) agrees (inl last) none = fresh calls agrees (omega (arith, last)) none
    where
      fresh : (calls : List Call) → Agrees ends calls → length calls ≤ number → new_content calls number ≡ None → Agrees more calls
      fresh [] agrees le none = tt
      fresh (synced m xs ∷ calls) agrees le none = elim (cases_Bool (nat_eq number m)) [
        | inl hit ↦ let bad : Some xs ≡ None = sym (ap (λ b. if b then Some xs else new_content calls number) hit) ∙ none in cc
        | inr miss ↦
            let other : m ≢ number = λ is. (let bad : true ≡ false = sym (eq-eqb number m (sym is)) ∙ miss in cc) in
            (more_other m other ∙ agrees.0, fresh calls agrees.1 (omega (arith, le)) (sym (ap (λ b. if b then Some xs else new_content calls number) miss) ∙ none))
      ]
      fresh (folder_made q ∷ calls) agrees le none = fresh calls agrees (omega (arith, le)) none
      fresh (created q ∷ calls) agrees le none = fresh calls agrees (omega (arith, le)) none
      fresh (opened q ∷ calls) agrees le none = fresh calls agrees (omega (arith, le)) none
      fresh (renamed from to ∷ calls) agrees le none = fresh calls agrees (omega (arith, le)) none
      fresh (removed q ∷ calls) agrees le none = fresh calls agrees (omega (arith, le)) none
      fresh (folder_synced q ∷ calls) agrees le none = fresh calls agrees (omega (arith, le)) none
      fresh (failed call ∷ calls) agrees le none = fresh calls agrees (omega (arith, le)) none
  more_agrees (created q ∷ calls) agrees (inr new) none = more_agrees calls agrees new none
  more_agrees (opened q ∷ calls) agrees new none = more_agrees calls agrees new none
  more_agrees (renamed from to ∷ calls) agrees new none = more_agrees calls agrees new none
  more_agrees (removed q ∷ calls) agrees new none = more_agrees calls agrees new none
  more_agrees (folder_synced q ∷ calls) agrees new none = more_agrees calls agrees new none
  more_agrees (failed call ∷ calls) agrees new none = more_agrees calls agrees new none

-- what was synced is what the files have in the end
in_the_end : (start : Start) (calls : List Call) → IsLawful start calls → Agrees (new_content calls) calls
in_the_end start [] lawful = tt
in_the_end start (synced number bytes ∷ calls) lawful = (
  ap (λ b. if b then Some bytes else new_content calls number) (eq-eqb number number refl),
  more_agrees (new_content calls) number bytes calls (in_the_end start calls lawful.1) lawful.0.0 lawful.0.1,
)
in_the_end start (folder_made q ∷ calls) lawful = in_the_end start calls lawful.1
in_the_end start (created q ∷ calls) lawful = in_the_end start calls lawful.1
in_the_end start (opened q ∷ calls) lawful = in_the_end start calls lawful.1
in_the_end start (renamed from to ∷ calls) lawful = in_the_end start calls lawful.1
in_the_end start (removed q ∷ calls) lawful = in_the_end start calls lawful.1
in_the_end start (folder_synced q ∷ calls) lawful = in_the_end start calls lawful.1
in_the_end start (failed call ∷ calls) lawful = in_the_end start calls lawful.1

pub some_crash : SomeCrash
some_crash start calls lawful = left (new_content calls) start calls (in_the_end start calls lawful) lawful
