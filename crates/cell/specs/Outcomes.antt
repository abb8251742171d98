-- What each call on a cell answers and leaves, by the cell's state and the call together, and so a list of calls.
use Rattle.std.specs.Prelude.{ℕ, ◌+◌, ◌-◌, ◌^◌, min, Bool, true, false, List, [], ◌∷◌, ◌++◌, map, length, drop, ℤ, Some, None, Ok, Err, fold, Option, Result, nat_le}
use Rattle.kinds.specs.Kinds.{Kind}
use Rattle.script.specs.declared.record.Record.{Record}
use Rattle.script.specs.declared.refusal.Refusal.{Refusal}
use Rattle.script.specs.declared.refusal.Refusal.TheVariants.{FuelOrDepth, TooFewWords, WrongState}
use Rattle.script.specs.Limits.{within_limits, words_wanted as words_of}
use Rattle.script.specs.Shape.{shape}
use Rattle.script.specs.declared.limits.Limits.{Limits}
use Rattle.syntax.specs.Syntax.{Program}
use Rattle.syntax.specs.Typed.{program_of}
use Rattle.names.specs.Need.{largest_need}
use Rattle.names.specs.Names.{name_rules, ◌⨟◌}
use Rattle.names.specs.Passes.{outcome as provided}
use Rattle.code.specs.declared.instruction.Instruction.{Instruction}
use Rattle.code.specs.declared.instruction.FunctionEntry.{FunctionEntry}
use Rattle.code.specs.Scheme.{program_code, function_entries, global_numbers}
use Rattle.machine.specs.declared.state.Frame.{Frame}
use Rattle.script.specs.declared.ending.RunEnd.{RunEnd}
use Rattle.script.specs.Refusals.{unless}
use Rattle.machine.specs.Machine.{Image, MachineState, armed}
use Rattle.machine.specs.Steps.{Ran, run_at_most, end_of}
use Rattle.cell.specs.declared.calls.State.{State}
use Rattle.cell.specs.declared.calls.State.TheVariants.{Empty, Loaded, Coded, Running, Over}
use Rattle.cell.specs.declared.calls.Call.{Call}
use Rattle.cell.specs.declared.calls.Call.TheVariants.{Load, Compile, Arm, Run, Stop}
use Rattle.cell.specs.declared.calls.Answer.{Answer}
use Rattle.cell.specs.declared.calls.Answer.TheVariants.{Taken, Paused, Ended}

-- ---- what a cell holds

-- What the cell keeps of its machine between calls: all but the words and the bays, which are lent. Then the depth and
-- the number of globals with which the run was begun.
pub record Registers : Type 0 where
  pub height : ℕ
  pub pc : ℕ
  pub base : ℕ
  pub frames : List Frame
  pub fuel : ℕ
  pub depth : ℕ
  pub globals : ℕ

-- The machine at the start of a run: the stack has the globals, and no call is open.
abbrev pub start_registers : ℕ → ℕ → ℕ → Registers
start_registers globals depth fuel = record {
  height = globals;
  pc = 0;
  base = globals;
  frames = [];
  fuel = fuel;
  depth = depth;
  globals = globals;
}

-- The state, the table kept; the code made of it, the entries of its functions, the first numbers of its globals and
-- its largest frame need; the machine; the fuel granted at the last arm, the steps made since, and how the run ended.
pub record Shown : Type 0 where
  pub state : State
  pub table : List Record
  pub code : List Instruction
  pub entries : List FunctionEntry
  pub numbers : List ℤ
  pub need : ℕ
  pub registers : Registers
  pub fuel : ℕ
  pub steps : ℕ
  pub end : Option RunEnd

-- A cell that no call was made on.
abbrev pub unused : Shown
unused = record {
  state = Empty;
  table = [];
  code = [];
  entries = [];
  numbers = [];
  need = 0;
  registers = start_registers 0 0 0;
  fuel = 0;
  steps = 0;
  end = None;
}

-- A cell with what it is lent: the words, and the bays of the rack.
pub record World (W : Type 0) : Type 0 where
  pub cell : Shown
  pub words : List W
  pub bays : List W

-- ---- the questions

-- A number that only a run which is going on or has ended has; elsewhere there is nothing to tell, and it is 0.
abbrev pub in_run : State → ℕ → ℕ
in_run Empty n = 0
in_run Loaded n = 0
in_run Coded n = 0
in_run Running n = n
in_run Over n = n

-- The ticks are the fuel spent since the last arm taken, and the steps are the instructions made since.
abbrev pub ticks_told : Shown → ℕ
ticks_told s = in_run s.state (s.fuel - s.registers.fuel)

abbrev pub steps_told : Shown → ℕ
steps_told s = in_run s.state s.steps

-- Empty and Loaded have no code.
abbrev pub code_in : State → List Instruction → List Instruction
code_in Empty code = []
code_in Loaded code = []
code_in Coded code = code
code_in Running code = code
code_in Over code = code

abbrev pub code_told : Shown → List Instruction
code_told s = code_in s.state s.code

-- Only in Over there is an ending with its place.
abbrev pub end_in : State → Option RunEnd → Option RunEnd
end_in Empty e = None
end_in Loaded e = None
end_in Coded e = None
end_in Running e = None
end_in Over e = e

abbrev pub end_told : Shown → Option RunEnd
end_told s = end_in s.state s.end

-- How many global variables there are, and the words that an arm of a depth wants.
abbrev pub globals_told : Shown → ℕ
globals_told s = length s.numbers

abbrev pub words_wanted : ℕ → Shown → ℕ
words_wanted depth s = words_of (globals_told s) s.need depth

-- ---- the machine in the cell

-- Steps are counted in 32 bits, and stay at the largest number there.
abbrev pub counted : ℕ → ℕ
counted n = min n (2 ^ 32 - 1)

module _ {W : Type 0} where
  -- The machine of a cell, on the words and over the bays that it is lent.
  abbrev pub machine_in : World W → MachineState W
  machine_in w = record {
    store = w.words;
    height = w.cell.registers.height;
    pc = w.cell.registers.pc;
    base = w.cell.registers.base;
    frames = w.cell.registers.frames;
    bays = w.bays;
    fuel = w.cell.registers.fuel;
  }

  -- What the cell keeps of a machine state.
  abbrev pub registers_of : ℕ → ℕ → MachineState W → Registers
  registers_of depth globals m = record {
    height = m.height;
    pc = m.pc;
    base = m.base;
    frames = m.frames;
    fuel = m.fuel;
    depth = depth;
    globals = globals;
  }

-- What a cell's code runs on, with a depth and a number of globals.
abbrev pub image_in : {W : Type 0} → Kind W → (W → Bool) → ℕ → ℕ → Shown → Image W
image_in kind holds depth globals s = record {
  kind = kind;
  holds = holds;
  code = s.code;
  entries = s.entries;
  depth = depth;
  globals = globals;
}

-- ---- what a call leaves of a cell

-- A load: what was made of another table is gone.
abbrev pub with_table : List Record → Shown → Shown
with_table table s = record {
  state = Loaded;
  table = table;
  code = [];
  entries = [];
  numbers = [];
  need = 0;
  registers = s.registers;
  fuel = s.fuel;
  steps = s.steps;
  end = s.end;
}

-- A compile.
abbrev pub with_code : Program → Shown → Shown
with_code p s = record {
  state = Coded;
  table = s.table;
  code = program_code p;
  entries = function_entries p;
  numbers = global_numbers p;
  need = largest_need p;
  registers = s.registers;
  fuel = s.fuel;
  steps = s.steps;
  end = s.end;
}

-- An arm and a run leave a machine, and an arm the fuel granted.
abbrev pub with_machine : State → Registers → ℕ → ℕ → Option RunEnd → Shown → Shown
with_machine state registers fuel steps end s = record {
  state = state;
  table = s.table;
  code = s.code;
  entries = s.entries;
  numbers = s.numbers;
  need = s.need;
  registers = registers;
  fuel = fuel;
  steps = steps;
  end = end;
}

-- An arm.
abbrev pub with_run : Limits → Shown → Shown
with_run l s = with_machine Running (start_registers (globals_told s) l.depth l.fuel) l.fuel 0 None s

-- A stop.
abbrev pub with_state : State → Shown → Shown
with_state state s = with_machine state s.registers s.fuel s.steps s.end s

-- ---- which calls are taken

-- A load is taken in every state but Running,
abbrev pub loads : State → Bool
loads Empty = true
loads Loaded = true
loads Coded = true
loads Running = false
loads Over = true

-- a compile in Loaded,
abbrev pub compiles : State → Bool
compiles Empty = false
compiles Loaded = true
compiles Coded = false
compiles Running = false
compiles Over = false

-- an arm in Coded and Over,
abbrev pub arms : State → Bool
arms Empty = false
arms Loaded = false
arms Coded = true
arms Running = false
arms Over = true

-- and a run and a stop where a run is going on.
abbrev pub is_running : State → Bool
is_running Empty = false
is_running Loaded = false
is_running Coded = false
is_running Running = true
is_running Over = false

-- The rules of each call, in the order of the tests: the state first. A load then refuses by the shape of its table,
-- a compile by the rules for names, an arm by its numbers and then by the words, a run by the words.
abbrev pub load_rules : State → List Record → Result (Unit {0}) Refusal
load_rules state table = unless (loads state) WrongState ⨟ shape table

abbrev pub compile_rules : State → List Record → Result (Unit {0}) Refusal
compile_rules state table = unless (compiles state) WrongState ⨟ name_rules (program_of table)

abbrev pub words_suffice : ℕ → ℕ → Result (Unit {0}) Refusal
words_suffice wanted lent = unless (nat_le wanted lent) (TooFewWords wanted)

abbrev pub arm_rules : State → Limits → ℕ → ℕ → Result (Unit {0}) Refusal
arm_rules state limits wanted lent =
    unless (arms state) WrongState ⨟ unless (within_limits limits) FuelOrDepth ⨟ words_suffice wanted lent

abbrev pub run_rules : State → ℕ → ℕ → Result (Unit {0}) Refusal
run_rules state wanted lent = unless (is_running state) WrongState ⨟ words_suffice wanted lent

abbrev pub stop_rules : State → Result (Unit {0}) Refusal
stop_rules state = unless (is_running state) WrongState

-- What is left where rules are met, and where they are not.
abbrev pub either : {A : Type 0} → Result (Unit {0}) Refusal → A → A → A
either (Ok u) after before = after
either (Err e) after before = before

-- ---- one call

-- What a call that is taken answers and leaves.
pub record Effect (W : Type 0) : Type 0 where
  pub answer : Answer
  pub world : World W

-- How a run that came out so is answered, and the state that it leaves.
abbrev pub run_answer : Option RunEnd → Answer
run_answer None = Paused
run_answer (Some e) = Ended e

abbrev pub run_state : Option RunEnd → State
run_state None = Running
run_state (Some e) = Over

module _ {W : Type 0} where
  -- A call that concerns the cell alone.
  abbrev pub on_cell : World W → Shown → Effect W
  on_cell w s = record { answer = Taken; world = record { cell = s; words = w.words; bays = w.bays } }

  -- An arm or a run, which leaves a machine state.
  abbrev pub on_machine : Answer → Shown → MachineState W → Effect W
  on_machine answer s m = record { answer = answer; world = record { cell = s; words = m.store; bays = m.bays } }

-- An arm writes the literals of the globals' numbers into the first words.
abbrev pub with_literals : {W : Type 0} → Kind W → List ℤ → List W → List W
with_literals kind numbers words = map (λ v. kind.literal v) numbers ++ drop (length numbers) words

module _ {W : Type 0} (kind : Kind W) (holds : W → Bool) where
  -- An arm leaves the state just after arming.
  abbrev pub armed_by : Limits → World W → Effect W
  armed_by limits w =
      on_machine Taken (with_run limits w.cell)
      (armed (image_in kind holds limits.depth (globals_told w.cell) w.cell) w.cell.numbers w.words w.bays limits.fuel)

  -- A run goes on from where the machine stands.
  abbrev pub ran_to : World W → Ran W → Effect W
  ran_to w r =
      let before = w.cell.registers in
      let end = end_of r.outcome in
      on_machine (run_answer end)
      (with_machine (run_state end) (registers_of before.depth before.globals r.state) w.cell.fuel
      (counted (w.cell.steps + r.made)) end w.cell)
      r.state

  -- At most so many steps of the run that is going on.
  -- What a run of at most so many steps comes to.
  abbrev pub ran_of : ℕ → World W → Ran W
  ran_of steps w =
      let before = w.cell.registers in
      run_at_most (image_in kind holds before.depth before.globals w.cell) steps (machine_in w)

  abbrev pub ran_by : ℕ → World W → Effect W
  ran_by steps w = ran_to w (ran_of steps w)

  -- What a call does in a state, by both together: its rules, and what it does where they are met.
  abbrev pub effect : State → Call → World W → Result (Effect W) Refusal
  effect state (Load table) w =
      provided (load_rules state table.now) (on_cell w (with_table table.now w.cell))
  effect state Compile w =
      provided (compile_rules state w.cell.table) (on_cell w (with_code (program_of w.cell.table) w.cell))
  effect state (Arm limits) w =
      provided (arm_rules state limits (words_wanted limits.depth w.cell) (length w.words)) (armed_by limits w)
  effect state (Run steps) w =
      provided (run_rules state (words_wanted w.cell.registers.depth w.cell) (length w.words))
      (ran_by steps w)
  effect state Stop w = provided (stop_rules state) (on_cell w (with_state Coded w.cell))

-- The answer told of an effect, and what is left: a refused call leaves cell, words and bays as they were.
abbrev pub answer_of : {W : Type 0} → Result (Effect W) Refusal → Result Answer Refusal
answer_of (Ok f) = Ok f.answer
answer_of (Err e) = Err e

abbrev pub world_after : {W : Type 0} → World W → Result (Effect W) Refusal → World W
world_after w (Ok f) = f.world
world_after w (Err e) = w

module _ {W : Type 0} (kind : Kind W) (holds : W → Bool) where
  -- What a call is answered, and the cell, words and bays that it leaves.
  abbrev pub answer : World W → Call → Result Answer Refusal
  answer w c = answer_of (effect kind holds w.cell.state c w)

  abbrev pub outcome : World W → Call → World W
  outcome w c = world_after w (effect kind holds w.cell.state c w)

  -- ---- a list of calls, one after another

  -- What calls leave that are made one after another, and how each of them is answered.
  abbrev pub outcomes : World W → List Call → World W
  outcomes w calls = fold outcome w calls

  abbrev pub answers : World W → List Call → List (Result Answer Refusal)
  answers w [] = []
  answers w (c ∷ calls) = answer w c ∷ answers (outcome w c) calls
