-- What runjob lends, as a job's program and inputs, and as its memory.
use Rattle.machine.specs.Machine.{Code, Memory, code, memory}
use Rattle.runjob.specs.declared.space.Space.{Space}

abbrev pub space_code : Space → Code
space_code s = code s.opcodes s.arguments s.public s.secret s.digests

abbrev pub space_memory : Space → Memory
space_memory s = memory s.op_stack s.origins s.destinations s.addresses s.values s.output
