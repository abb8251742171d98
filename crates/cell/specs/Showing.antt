-- What a cell of the code shows: its lists and numbers, without the memory that holds them.
use Rattle.std.specs.Prelude.{List, reverse, take, vec_items}
use Rattle.machine.specs.declared.state.Machine.{Machine}
use Rattle.translator.specs.Translations.{held}
use Rattle.cell.specs.declared.memory.Cell.{Cell}
use Rattle.cell.specs.Outcomes.{Registers, Shown, World}

-- Of the frame records those of the open calls, newest first.
abbrev pub registers_in : Machine → Registers
registers_in m = record {
  height = m.height;
  pc = m.pc;
  base = m.base;
  frames = reverse (take m.calls m.frames.records);
  fuel = m.fuel;
  depth = m.depth;
  globals = m.globals;
}

-- What a cell of the code shows.
abbrev pub shown : Cell → Shown
shown c = record {
  state = c.state;
  table = vec_items c.table;
  code = (held c.translation).code;
  entries = (held c.translation).entries;
  numbers = (held c.translation).globals;
  need = c.need;
  registers = registers_in c.machine;
  fuel = c.fuel;
  steps = c.steps;
  end = c.end;
}

-- A cell with the words and bays that it is lent.
abbrev pub world_in : {W : Type 0} → Cell → List W → List W → World W
world_in c words bays = record { cell = shown c; words = words; bays = bays }
