use Rattle.std.proofs.Common.{ℕ, ◌+◌, ◌-◌, ◌*◌, ◌++◌, ◌∷◌, [], ap, sym, ◌∙◌, map, append_assoc}
use Rattle.std.specs.List.{range_with_len}
use Rattle.byteorder.specs.Endian.{little_number}
use Rattle.udfs_tag.specs.Fields.{uint8_at, uint32_at}
use Rattle.udfs_volume.proofs.Walking.{unroll}
use Rattle.udfs_volume.proofs.maps.table_places.Goals as goal

pub loop-i-preserved : goal.loop-i-preserved
loop-i-preserved c =
    let f : ℕ → ℕ = λ k. uint32_at c.args.bytes.now (48 + 4 * k) in
    let n = uint8_at c.args.bytes.now 42 in
    let i = c.loop-i.i in
    let rest = map f (range_with_len (i + 1) (n - (i + 1))) in
    ap (λ xs. xs ++ rest) c.in_ok-push.ensures.items
    ∙ append_assoc c.loop-i.places.items (c.read_u32.result ∷ []) rest
    ∙ ap (λ x. c.loop-i.places.items ++ x ∷ rest) (c.read_u32.ensures ∙ ap (little_number 4) c.behind.ensures.value)
    ∙ ap (λ xs. c.loop-i.places.items ++ xs) (sym (unroll f i n c.loop-i-test.true))
    ∙ c.loop-i.invariant
