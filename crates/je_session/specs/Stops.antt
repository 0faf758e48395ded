-- Serves private functions: why an edit stops where a layer below does. What is no want of memory
-- is of a form that is not edited yet.
use Rattle.je_consts.specs.declared.fault.PoolStop.{PoolStop}
use Rattle.je_consts.specs.declared.fault.PoolStop.TheVariants as pool
use Rattle.je_instr.specs.declared.assembled.SizeFault.{SizeFault}
use Rattle.je_instr.specs.declared.assembled.SizeFault.TheVariants as size
use Rattle.je_instr.specs.declared.fault.CodeFault.{CodeFault}
use Rattle.je_instr.specs.declared.fault.CodeFault.TheVariants as code
use Rattle.je_session.specs.declared.edit.stop.EditStop.{EditStop}
use Rattle.je_session.specs.declared.edit.stop.EditStop.TheVariants as edit

abbrev pub code_stop : CodeFault → EditStop
code_stop code.Memory = edit.Memory
code_stop _ = edit.NotYet

abbrev pub size_stop : SizeFault → EditStop
size_stop size.Memory = edit.Memory
size_stop _ = edit.NotYet

abbrev pub pool_stop : PoolStop → EditStop
pool_stop pool.Memory = edit.Memory
pool_stop _ = edit.NotYet
