-- Text that is put piece after piece, by the laws of udfs_printing: all of it, or a beginning of it.
use Rattle.std.proofs.Common.{◌≡◌, refl, sym, ap, subst, ◌∙◌, ℕ, ◌+◌, ◌<◌, List, [], ◌++◌, length, take, drop, get_or, append_assoc, append-nil}
use Rattle.std.specs.Prelude.{Option, Some, None, Result, Ok, Err, IfErr, is_ok, ⊤}
use Rattle.std.specs.List.{flat_map}
use Rattle.udfs_reading.specs.Writing.{Failed, Wrote}
use Rattle.udfs_reading.specs.declared.writing.WriteFault.{WriteFault}
use Rattle.udfs_reading.specs.Puts.{Finishes, Puts}
use Rattle.udfs_reading.proofs.PrintingPublicLaws as printing
use Rattle.udfs_walk.specs.NodeFields.{NodeFields}
use Rattle.udfs_salvage.specs.NodeTexts.{node_text, nodes_text}
use Rattle.udfs_salvage.specs.Printing.{Prints, PutsFront, PutsMost, Stopped}
use Rattle.udfs_salvage.specs.declared.errors.RunError.{RunError}
use Rattle.udfs_salvage.specs.declared.errors.RunError.TheVariants.{Write, OutOfMemory}
use Rattle.udfs_salvage.proofs.NumberedNodes.{more_texts, texts_at}
use Rattle.udfs_salvage.proofs.Printed.{pieces_at, stopped_more}
use Rattle.udfs_reading.specs.Device.{Stream}

-- one text and then another
pub puts_with : {a b c : Stream} {p q r : Option (List ℕ)} {x y : List ℕ} → Puts a b p q x → Puts b c q r y → Puts a c p r (x ++ y)
puts_with {a} {b} {c} {p} {q} {r} {x} {y} h g = printing.puts_then a b c p q r x y h g

-- a text that is known by another name
pub puts_same : {a b : Stream} {p q : Option (List ℕ)} {x y : List ℕ} → x ≡ y → Puts a b p q x → Puts a b p q y
puts_same e h = printing.puts_as e h

-- one more piece, which has a name
pub puts_item : {A : Type 0} {a b c : Stream} {p q r : Option (List ℕ)} (f : A → List ℕ) (xs : List A) (n : ℕ) (x : A) → n < length xs → x ≡ get_or xs n x
    → Puts a b p q (flat_map f (take n xs)) → Puts b c q r (f x) → Puts a c p r (flat_map f (take (n + 1) xs))
puts_item {b = b} {c = c} {q = q} {r = r} f xs n x l is h g = printing.puts_piece f xs n x l h (subst (λ z. Puts b c q r (f z)) is g)

-- no node yet
pub puts_no_node : (a : Stream) (p : Option (List ℕ)) (ns : List NodeFields) → Puts a a p p (nodes_text 0 (take 0 ns))
unfolding nodes_text
puts_no_node a p ns = printing.puts_none a p

-- one more node
pub puts_node : {a b c : Stream} {p q r : Option (List ℕ)} (ns : List NodeFields) (n : ℕ) (x : NodeFields) → n < length ns → x ≡ get_or ns n x
    → Puts a b p q (nodes_text 0 (take n ns)) → Puts b c q r (node_text n x) → Puts a c p r (nodes_text 0 (take (n + 1) ns))
puts_node {b = b} {c = c} {q = q} {r = r} ns n x l is h g =
    puts_same (more_texts ns n x l) (puts_with h (subst (λ z. Puts b c q r (node_text n z)) is g))

-- nothing is put where the sink has failed
pub puts_failed : (a : Stream) (p : Option (List ℕ)) (x : List ℕ) → p ≡ None → Puts a a p p x
puts_failed a p x none =
    let h : Puts a a None None x = record { by = record { same = refl } } in
    subst (λ z. Puts a a z z x) (sym none) h

-- ---- a beginning

-- nothing of it
pub front_none : (a : Stream) (p : Option (List ℕ)) (x : List ℕ) → PutsFront a a p p x
front_none a p x = record { front = []; rest = x; put = printing.puts_none a p; whole = refl }

-- a text, and a beginning of the next
pub front_then : {a b c : Stream} {p q r : Option (List ℕ)} {x y : List ℕ} → Puts a b p q x → PutsFront b c q r y → PutsFront a c p r (x ++ y)
front_then {x = x} {y = y} h g =
    record { front = x ++ g.front; rest = g.rest; put = puts_with h g.put; whole = ap (λ z. x ++ z) g.whole ∙ sym (append_assoc x g.front g.rest) }

-- a beginning, and more was to come
pub front_before : {a b : Stream} {p q : Option (List ℕ)} {x : List ℕ} (y : List ℕ) → PutsFront a b p q x → PutsFront a b p q (x ++ y)
front_before y h =
    record { front = h.front; rest = h.rest ++ y; put = h.put; whole = ap (λ z. z ++ y) h.whole ∙ append_assoc h.front h.rest y }

-- the same text in other words
pub front_same : {a b : Stream} {p q : Option (List ℕ)} {x y : List ℕ} → x ≡ y → PutsFront a b p q x → PutsFront a b p q y
front_same {a} {b} {p} {q} e h = subst (PutsFront a b p q) e h

-- a beginning of a piece
pub front_item : {A : Type 0} {a b c : Stream} {p q r : Option (List ℕ)} (f : A → List ℕ) (xs : List A) (n : ℕ) (x : A) → n < length xs → x ≡ get_or xs n x
    → Puts a b p q (flat_map f (take n xs)) → PutsFront b c q r (f x) → PutsFront a c p r (flat_map f xs)
front_item {b = b} {c = c} {q = q} {r = r} f xs n x l is h g =
    front_same (pieces_at f xs n x l) (front_then h (front_before (flat_map f (drop (n + 1) xs)) (subst (λ z. PutsFront b c q r (f z)) is g)))

-- a beginning of a node
pub front_node : {a b c : Stream} {p q r : Option (List ℕ)} (ns : List NodeFields) (n : ℕ) (x : NodeFields) → n < length ns → x ≡ get_or ns n x
    → Puts a b p q (nodes_text 0 (take n ns)) → PutsFront b c q r (node_text n x) → PutsFront a c p r (nodes_text 0 ns)
front_node {b = b} {c = c} {q = q} {r = r} ns n x l is h g =
    front_same (texts_at ns n x l) (front_then h (front_before (nodes_text (length (take (n + 1) ns)) (drop (n + 1) ns)) (subst (λ z. PutsFront b c q r (node_text n z)) is g)))

-- ---- a text, and all of the next or a beginning of it

pub most_then : {X E : Type 0} {a b : Stream} {p q : Option (List ℕ)} {x : List ℕ} (c : Stream) (s : Option (List ℕ)) (y : List ℕ) (r : Result X E)
    → Puts a b p q x → PutsMost b c q s y r → PutsMost a c p s (x ++ y) r
most_then c s y (Ok u) h g = puts_with h g
most_then c s y (Err e) h g = front_then h g

-- ---- what is finished

-- a fault of the sink under another name
pub finish_as : (b c : Stream) (q : Option (List ℕ)) (r : Result ⊤ WriteFault) (s : Result ⊤ RunError) → is_ok r ≡ is_ok s → Finishes b c q r → Finishes b c q s
finish_as b c (Some q) (Ok u) (Ok v) e g = g
finish_as b c (Some q) (Err u) (Err v) e g = g
finish_as b c (Some q) (Ok u) (Err v) e g = absurd (let z : ⊥ = cc in z)
finish_as b c (Some q) (Err u) (Ok v) e g = absurd (let z : ⊥ = cc in z)
finish_as b c None (Ok u) s e g = absurd g
finish_as b c None (Err u) (Err v) e g = g
finish_as b c None (Err u) (Ok v) e g = absurd (let z : ⊥ = cc in z)

-- all is out, or a beginning of it and the sink's fault is told
pub prints_all : {a b : Stream} (c : Stream) (q : Option (List ℕ)) (x : List ℕ) (r : Result ⊤ RunError) → IfErr r (λ e. e ≡ Write)
    → Puts a b (Some []) q x → Finishes b c q r → Prints a c x r
prints_all {a} {b} c (Some q) x (Ok u) f h g = printing.puts_all a b c (Some q) x (Ok tt) h g
prints_all {a} {b} c None x (Ok u) f h g = absurd g
prints_all {a} {b} c (Some q) x (Err e) f h g =
    let w : Failed a c x = printing.puts_all a b c (Some q) x (Err (record {})) h g in
    subst (λ z. Stopped a c x z) (sym f) (record { out = w.out; rest = w.rest; given = w.given; whole = w.whole; count = w.moved })
prints_all {a} {b} c None x (Err e) f h g =
    let w : Failed a c x = printing.puts_all a b c None x (Err (record {})) h g in
    subst (λ z. Stopped a c x z) (sym f) (record { out = w.out; rest = w.rest; given = w.given; whole = w.whole; count = w.moved })

-- a beginning of a beginning
stopped_part : {a b : Stream} {e : RunError} (x rest text : List ℕ) → text ≡ x ++ rest → Stopped a b x e → Stopped a b text e
stopped_part {a} {b} {e} x rest text is h = subst (λ z. Stopped a b z e) (sym is) (stopped_more rest h)

-- the sink's fault is told, whether or not memory was refused before
pub stopped_most : {X E : Type 0} (a b c : Stream) (q : Option (List ℕ)) (x : List ℕ) (r : Result X E) (e : RunError) → e ≡ Write
    → PutsMost a b (Some []) q x r → Finishes {X = ⊤} {E = RunError} b c q (Err e) → Stopped a c x e
stopped_most a b c q x (Ok u) e f h g = prints_all c q x (Err e) f h g
stopped_most a b c q x (Err v) e f h g = stopped_part h.front h.rest x h.whole (prints_all c q h.front (Err e) f h.put g)

-- want of memory is told, where what was put before is out
pub stopped_front : (a b c : Stream) (q : Option (List ℕ)) (x : List ℕ) (u : ⊤) → PutsFront a b (Some []) q x → Finishes {X = ⊤} {E = RunError} b c q (Ok u) → Stopped a c x OutOfMemory
stopped_front a b c q x u h g =
    let w : Wrote a c h.front = prints_all c q h.front (Ok u) tt h.put g in
    record { out = h.front; rest = h.rest; given = w.given; whole = h.whole; count = w.kept }

-- ---- a text of which something is left

-- the text was put but for what is left
pub record PutsUpTo (old new : Stream) (held still : Option (List ℕ)) (text left : List ℕ) : Type 0 where
  pub front : List ℕ
  pub put : Puts old new held still front
  pub whole : text ≡ front ++ left

-- nothing of it yet
pub upto_none : (a : Stream) (p : Option (List ℕ)) {x l : List ℕ} → x ≡ l → PutsUpTo a a p p x l
upto_none a p e = record { front = []; put = printing.puts_none a p; whole = e }

-- one more piece
pub upto_more : {a b c : Stream} {p q r : Option (List ℕ)} {x y l : List ℕ} → PutsUpTo a b p q x (y ++ l) → Puts b c q r y → PutsUpTo a c p r x l
upto_more {y = y} {l = l} h g = record { front = h.front ++ y; put = puts_with h.put g; whole = h.whole ∙ sym (append_assoc h.front y l) }

-- the same rest in other words
pub upto_same : {a b : Stream} {p q : Option (List ℕ)} {x l m : List ℕ} → l ≡ m → PutsUpTo a b p q x l → PutsUpTo a b p q x m
upto_same {a} {b} {p} {q} {x} e h = subst (PutsUpTo a b p q x) e h

-- nothing is left
pub upto_all : {a b : Stream} {p q : Option (List ℕ)} {x l : List ℕ} → l ≡ [] → PutsUpTo a b p q x l → Puts a b p q x
upto_all e h = puts_same (sym (h.whole ∙ ap (λ z. h.front ++ z) e ∙ append-nil h.front)) h.put
