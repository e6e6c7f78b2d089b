use Rattle.compilation.proofs.Legality.{lowered_declared, lowered_is, lowered_sound}
use Rattle.compilation.proofs.kernel.lowered_last.Goals as goal

pub returns-clause-sound : goal.returns-clause-sound
returns-clause-sound c =
    let t = c.args.last.now in
    let r = c.lowered.result in
    let h = c.lowered.ensures in
    lowered_sound t c.requires.typed r (lowered_declared t c.requires.typed r h.names h.inputs) (lowered_is t c.requires.typed r h.term h.types) h.words

pub returns-clause-state : goal.returns-clause-state
returns-clause-state c = lowered_is c.args.last.now c.requires.typed c.lowered.result c.lowered.ensures.term c.lowered.ensures.types

pub returns-clause-declared : goal.returns-clause-declared
returns-clause-declared c = lowered_declared c.args.last.now c.requires.typed c.lowered.result c.lowered.ensures.names c.lowered.ensures.inputs
