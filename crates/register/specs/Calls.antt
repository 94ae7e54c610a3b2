-- What a register holds, read off the register.
use Rattle.register.specs.State.{State}
use Rattle.register.specs.Contents.{contents_state}
use Rattle.register.specs.Days.{Phase, settled}
use Rattle.register.specs.declared.working.Working.{Working}
use Rattle.register.specs.declared.settled.Settled.{Settled}

abbrev pub state_of : {P : Type 0} → Working P → State
state_of w = contents_state w.contents

abbrev pub settled_state : {P : Type 0} → Settled P → State
settled_state w = state_of w.register

abbrev pub settled_phase : {P : Type 0} → Settled P → Phase
settled_phase w = settled (settled_state w) w.counts.tests w.counts.exchanges
