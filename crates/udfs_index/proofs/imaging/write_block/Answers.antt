use Rattle.std.proofs.Common.{◌≡◌, ℕ, List, replicate, refl, rules, subst, ◌∙◌}
use Rattle.udfs_lattice.specs.declared.facts.Fact.TheVariants.{Unknown, Known, Conflict}
use Rattle.udfs_reading.specs.Writing.{Passed}
use Rattle.udfs_index.specs.Imaging.{filled}
use Rattle.udfs_index.specs.Places.{state_by}
use Rattle.udfs_index.specs.Slots.{Slot, slot_at}
use Rattle.udfs_index.proofs.imaging.write_block.Goals as goal

zeros : (wholes : List (List ℕ)) (slot : Slot) → ((place : ℕ) → slot ≡ Known place → ⊥) → replicate 2048 0 ≡ filled (state_by wholes slot)
zeros wholes Unknown never = refl
zeros wholes (Known place) never = absurd (never place refl)
zeros wholes Conflict never = refl

pub returns-in_default : goal.returns-in_default
returns-in_default g c =
    let is = c.slot_of.ensures in
    let zeros_are = λ (wholes : List (List ℕ)). zeros wholes (slot_at c.args.packets.now c.args.block) (λ place known. c.in_default.not-Known place (is ∙ known)) in
    record {
      read = c.requires.read;
      bytes = λ wholes told. subst (Passed (g.W.Sink.stream c.args.sink.now) (g.W.Sink.stream c.push.new.sink) c.args.out.now c.push.new.self) (zeros_are wholes) c.in_ok-push.ensures;
      count = search rules;
      reads = λ wholes told never whole. tt;
    }
