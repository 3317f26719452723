-- The text of nodes, one behind the other with its number.
use Rattle.std.proofs.Common.{◌≡◌, sym, ap, subst, ◌∙◌, ℕ, ◌+◌, ◌<◌, List, [], ◌∷◌, ◌++◌, length, take, drop, get_or, append_assoc, append-nil, take-append-drop, arith}
use Rattle.std.proofs.lemmas.List.{take_more, length-take-le}
use Rattle.udfs_reading.specs.Writing.{Passed}
use Rattle.udfs_walk.specs.NodeFields.{NodeFields}
use Rattle.udfs_salvage.specs.NodeTexts.{node_text, nodes_text}
use Rattle.udfs_salvage.specs.Printing.{Stopped}
use Rattle.udfs_salvage.specs.declared.errors.RunError.{RunError}
use Rattle.udfs_salvage.proofs.Passing.{passed_none, passed_then}
use Rattle.udfs_salvage.proofs.Printed.{stopped_more, stopped_then}
use Rattle.udfs_reading.specs.Device.{Stream}

append_texts : (i : ℕ) (xs ys : List NodeFields) → nodes_text i (xs ++ ys) ≡ nodes_text i xs ++ nodes_text (i + length xs) ys
unfolding nodes_text
append_texts i [] ys = ap (λ n. nodes_text n ys) (let e : i ≡ i + 0 = omega arith in e)
append_texts i (x ∷ xs) ys =
    ap (λ t. node_text i x ++ t) (append_texts (i + 1) xs ys)
    ∙ sym (append_assoc (node_text i x) (nodes_text (i + 1) xs) (nodes_text (i + 1 + length xs) ys))
    ∙ ap (λ n. (node_text i x ++ nodes_text (i + 1) xs) ++ nodes_text n ys) (let e : i + 1 + length xs ≡ i + length {A = NodeFields} (x ∷ xs) = omega arith in e)

append_first : (xs ys : List NodeFields) → nodes_text 0 (xs ++ ys) ≡ nodes_text 0 xs ++ nodes_text (length xs) ys
append_first xs ys = append_texts 0 xs ys ∙ ap (λ n. nodes_text 0 xs ++ nodes_text n ys) (let e : 0 + length xs ≡ length xs = omega arith in e)

one_text : (i : ℕ) (x : NodeFields) → nodes_text i (x ∷ []) ≡ node_text i x
unfolding nodes_text
one_text i x = append-nil (node_text i x)

taken : (ns : List NodeFields) (k : ℕ) → k < length ns → length (take k ns) ≡ k
taken ns k l = length-take-le k ns (omega arith)

pub more_texts : (ns : List NodeFields) (k : ℕ) (d : NodeFields) → k < length ns
    → nodes_text 0 (take k ns) ++ node_text k (get_or ns k d) ≡ nodes_text 0 (take (k + 1) ns)
more_texts ns k d l =
    ap (λ t. nodes_text 0 (take k ns) ++ t) (sym (one_text k (get_or ns k d)) ∙ ap (λ n. nodes_text n (get_or ns k d ∷ [])) (sym (taken ns k l)))
    ∙ sym (append_first (take k ns) (get_or ns k d ∷ []))
    ∙ ap (nodes_text 0) (sym (take_more ns k d l))

pub texts_at : (ns : List NodeFields) (k : ℕ) (d : NodeFields) → k < length ns
    → nodes_text 0 (take k ns) ++ (node_text k (get_or ns k d) ++ nodes_text (length (take (k + 1) ns)) (drop (k + 1) ns)) ≡ nodes_text 0 ns
texts_at ns k d l =
    sym (append_assoc (nodes_text 0 (take k ns)) (node_text k (get_or ns k d)) (nodes_text (length (take (k + 1) ns)) (drop (k + 1) ns)))
    ∙ ap (λ t. t ++ nodes_text (length (take (k + 1) ns)) (drop (k + 1) ns)) (more_texts ns k d l)
    ∙ sym (append_first (take (k + 1) ns) (drop (k + 1) ns))
    ∙ ap (nodes_text 0) (take-append-drop (k + 1) ns)

pub none_passed : (a : Stream) (p : List ℕ) (ns : List NodeFields) → Passed a a p p (nodes_text 0 (take 0 ns))
unfolding nodes_text
none_passed a p ns = passed_none a p

pub passed_node : {a b c : Stream} {p q r : List ℕ} (ns : List NodeFields) (n : ℕ) (x : NodeFields) → n < length ns → x ≡ get_or ns n x
    → Passed a b p q (nodes_text 0 (take n ns)) → Passed b c q r (node_text n x) → Passed a c p r (nodes_text 0 (take (n + 1) ns))
passed_node {a = a} {b = b} {c = c} {p = p} {q = q} {r = r} ns n x l is h g =
    subst (Passed a c p r) (more_texts ns n x l) (passed_then h (subst (λ z. Passed b c q r (node_text n z)) is g))

pub stopped_node : {a b c : Stream} {p q : List ℕ} {e : RunError} (ns : List NodeFields) (n : ℕ) (x : NodeFields) → n < length ns → x ≡ get_or ns n x
    → Passed a b p q (nodes_text 0 (take n ns)) → Stopped b c (q ++ node_text n x) e → Stopped a c (p ++ nodes_text 0 ns) e
stopped_node {a = a} {b = b} {c = c} {p = p} {q = q} {e = e} ns n x l is h g =
    let rest = nodes_text (length (take (n + 1) ns)) (drop (n + 1) ns) in
    subst (λ (t : List ℕ). Stopped a c (p ++ t) e) (texts_at ns n x l)
    (stopped_then (node_text n (get_or ns n x) ++ rest) h (subst (λ (t : List ℕ). Stopped b c t e) (append_assoc q (node_text n (get_or ns n x)) rest)
    (stopped_more rest (subst (λ z. Stopped b c (q ++ node_text n z) e) is g))))
