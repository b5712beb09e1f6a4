-- A machine by the parts that count.
use Rattle.zir_machine.specs.declared.machine.Machine.{Machine}
use Rattle.zir_machine.specs.MachineStands.{Standing}

-- a machine, by these parts
abbrev pub standing_of : Machine → Standing
standing_of m = record { node = m.node; progress = m.progress; store = m.store.items; base = m.base; next = m.next; pushed = m.pushed; limit = m.limit; last = m.last }
