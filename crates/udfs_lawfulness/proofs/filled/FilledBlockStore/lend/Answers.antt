use Rattle.std.proofs.Common.{◌≡◌, ◌∙◌, refl, sym, replicate}
use Rattle.udfs_lattice.specs.States.{State}
use Rattle.udfs_lattice.specs.Stores.{known_as}
use Rattle.udfs_lattice.specs.declared.facts.Fact.TheVariants.{Unknown, Known, Conflict}
use Rattle.udfs_lawfulness.specs.Filled.{bytes_or_zeros}
use Rattle.udfs_lawfulness.proofs.filled.FilledBlockStore.lend.Goals as goal

-- a known block has its own bytes
its_own : (s : State) → Known tt ≡ known_as s → s ≡ Known (bytes_or_zeros s)
its_own Unknown e = absurd (let no : ⊥ = cc in no)
its_own (Known bytes) e = refl
its_own Conflict e = absurd (let no : ⊥ = cc in no)

-- each other one has zeros
zeros_unknown : (s : State) → Unknown ≡ known_as s → Known (replicate 2048 0) ≡ Known (bytes_or_zeros s)
zeros_unknown Unknown e = refl
zeros_unknown (Known bytes) e = absurd (let no : ⊥ = cc in no)
zeros_unknown Conflict e = absurd (let no : ⊥ = cc in no)

zeros_conflict : (s : State) → Conflict ≡ known_as s → Known (replicate 2048 0) ≡ Known (bytes_or_zeros s)
zeros_conflict Unknown e = absurd (let no : ⊥ = cc in no)
zeros_conflict (Known bytes) e = absurd (let no : ⊥ = cc in no)
zeros_conflict Conflict e = refl

pub returns-in_ok-fact-in-Known-clause-state : goal.returns-in_ok-fact-in-Known-clause-state
returns-in_ok-fact-in-Known-clause-state g c told =
    c.in_ok-fact-in-Known.ensures.state told ∙ its_own (g.B.BlockStore.states c.args.self.now.blocks.now c.args.n) (sym c.in-Known.is ∙ c.knowledge.ensures told)

pub returns-in-Unknown-clause-state : goal.returns-in-Unknown-clause-state
returns-in-Unknown-clause-state g c told = zeros_unknown (g.B.BlockStore.states c.args.self.now.blocks.now c.args.n) (sym c.in-Unknown.is ∙ c.knowledge.ensures told)

pub returns-in-Conflict-clause-state : goal.returns-in-Conflict-clause-state
returns-in-Conflict-clause-state g c told = zeros_conflict (g.B.BlockStore.states c.args.self.now.blocks.now c.args.n) (sym c.in-Conflict.is ∙ c.knowledge.ensures told)
