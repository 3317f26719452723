-- An index as a store of blocks.
use Rattle.std.proofs.Common.{◌≡◌, refl, sym, ◌∙◌, ap, ℕ, List, [], ◌∷◌, map, Option, Some}
use Rattle.std.specs.Borrow.{Bor}
use Rattle.udfs_lattice.specs.States.{State}
use Rattle.udfs_lattice.specs.Tables.{Table, state_of}
use Rattle.udfs_lattice.specs.declared.facts.Fact.TheVariants.{Known}
use Rattle.udfs_index.specs.declared.packet.Packet.{Packet}
use Rattle.udfs_index.specs.Copying.{AreAllTold}
use Rattle.udfs_index.specs.Index.{Took, IsAtPlace, contents_of}
use Rattle.udfs_index.specs.Places.{bytes_at, state_by}
use Rattle.udfs_index.specs.Slots.{Slot, slot_at}
use Rattle.udfs_index.specs.Stores.{bytes_of, states_of}
use Rattle.udfs_index.proofs.IndexLemmas.{told_all}

-- the bytes of inputs that are all known
wholes_of : (wholes : List (List ℕ)) → map bytes_of (map Some wholes) ≡ wholes
wholes_of [] = refl
wholes_of (w ∷ ws) = ap (λ l. w ∷ l) (wholes_of ws)

same_wholes : (contents : List (Option (List ℕ))) (wholes : List (List ℕ)) → contents ≡ map Some wholes → wholes ≡ map bytes_of contents
same_wholes contents wholes is = sym (wholes_of wholes) ∙ ap (map bytes_of) (sym is)

-- the bytes that are read at the place of a known block are those of its state
pub state_read : {S : Type 0} (content : S → Option (List ℕ)) (inputs : List (Bor S)) (packets : List Packet) (n place : ℕ) (there : List ℕ) → ◌≡◌ {A = Slot} (Known place) (slot_at packets n)
    → IsAtPlace (contents_of content inputs) place there → AreAllTold content → ◌≡◌ {A = State} (Known there) (states_of (contents_of content inputs) packets n)
state_read content inputs packets n place there is at told =
    let all = told_all content inputs told in
    let bytes : bytes_at (map bytes_of (contents_of content inputs)) place ≡ there = ap (λ ws. bytes_at ws place) (sym (same_wholes (contents_of content inputs) all.0 all.1)) ∙ at all.0 all.1 in
    ap Known (sym bytes) ∙ ap (state_by (map bytes_of (contents_of content inputs))) is

-- the states are those of the table that was taken
pub took_states : (contents : List (Option (List ℕ))) (packets : List Packet) (t : Table) (wholes : List (List ℕ)) → contents ≡ map Some wholes → Took contents packets t
    → (n : ℕ) → states_of contents packets n ≡ state_of t n
took_states contents packets t wholes is took n = ap (λ ws. state_by ws (slot_at packets n)) (sym (same_wholes contents wholes is)) ∙ sym (took.says wholes is n)
