-- The stack machine: its state on the word store, one step by the instruction table, and a run of some steps.
use Rattle.std.specs.Prelude.{ℕ, zero, suc, ◌+◌, ◌-◌, Bool, true, false, cond, List, [], ◌∷◌, ◌++◌, map, reverse, length, take, drop, ℤ, Some, None, Option, nat_le, nat_lt, slice_index_or, slice_set}
use Rattle.std.specs.List.{slice_get}
use Rattle.kinds.specs.Kinds.{Kind}
use Rattle.kinds.specs.Words.{zero_word, truth_word}
use Rattle.script.specs.declared.ending.Ending.{Ending}
use Rattle.script.specs.declared.ending.Ending.TheVariants.{Done, NoFuel, TooDeep}
use Rattle.script.specs.Bays.{BayAnswer, gives, fails, read_bay, write_bay}
use Rattle.code.specs.declared.instruction.Operation.{Operation}
use Rattle.code.specs.declared.instruction.Operation.TheVariants.{Lit, GetL, SetL, GetG, SetG, Add, Sub, Gt, Pop}
use Rattle.code.specs.declared.instruction.Operation.TheVariants.{Jz, Jmp, Tick, Call, Ret, BayR, BayW, Halt}
use Rattle.code.specs.declared.instruction.Instruction.{Instruction}
use Rattle.code.specs.declared.instruction.FunctionEntry.{FunctionEntry}
use Rattle.machine.specs.declared.state.Frame.{Frame}
use Rattle.machine.specs.declared.state.Machine.{Machine}

-- What a run is given besides its state: the number kind, which words a bay can hold, the code and its functions,
-- the depth, how many calls may be open at once, and how many global variables there are.
pub record Image (W : Type 0) : Type 0 where
  pub kind : Kind W
  pub holds : W → Bool
  pub code : List Instruction
  pub entries : List FunctionEntry
  pub depth : ℕ
  pub globals : ℕ

-- The word store, of which the first words, up to the height, are the stack: globals lie in words 0 to g - 1, main's
-- frame starts at word g, a function's at its first argument. A popped word stays in the store until overwritten.
-- Then the index of the next instruction, where the frame starts, the calls open, newest first, bays and fuel.
pub record MachineState (W : Type 0) : Type 0 where
  pub store : List W
  pub height : ℕ
  pub pc : ℕ
  pub base : ℕ
  pub frames : List Frame
  pub bays : List W
  pub fuel : ℕ

-- What an instruction comes to: the machine runs on, or the run is over with an ending at a place. What the table does
-- not define makes no step.
pub data Progress (W : Type 0) : Type 0 where
  running : MachineState W → Progress W
  over : Ending → ℕ → MachineState W → Progress W
  undefined : Progress W

-- ---- what instructions share

module _ {W : Type 0} where
  -- Defined only where a test holds.
  abbrev pub when : Bool → Progress W → Progress W
  when true next = next
  when false next = undefined

  -- The state with another store and height, at an instruction.
  abbrev pub moved : List W → ℕ → ℕ → MachineState W → MachineState W
  moved store height pc m = record {
    store = store;
    height = height;
    pc = pc;
    base = m.base;
    frames = m.frames;
    bays = m.bays;
    fuel = m.fuel;
  }

  -- One word, or two, come off the stack; what is left of the height goes on.
  abbrev pub pop_one : ℕ → (ℕ → Progress W) → Progress W
  pop_one zero next = undefined
  pop_one (suc h) next = next h

  abbrev pub pop_two : ℕ → (ℕ → Progress W) → Progress W
  pop_two zero next = undefined
  pop_two (suc zero) next = undefined
  pop_two (suc (suc h)) next = next h

  -- One word is pushed; a full store takes none.
  abbrev pub push : W → MachineState W → Progress W
  push w m =
      when (nat_lt m.height (length m.store))
      (running (moved (slice_set m.store m.height w) (suc m.height) (suc m.pc) m))

  -- One fuel is spent, or there is none and the run is over.
  abbrev pub spend_fuel_from : ℕ → ℕ → MachineState W → (MachineState W → Progress W) → Progress W
  spend_fuel_from place zero m next = over NoFuel place m
  spend_fuel_from place (suc n) m next =
      next (record {
        store = m.store;
        height = m.height;
        pc = m.pc;
        base = m.base;
        frames = m.frames;
        bays = m.bays;
        fuel = n;
      })

  abbrev pub spend_fuel : ℕ → MachineState W → (MachineState W → Progress W) → Progress W
  spend_fuel place m next = spend_fuel_from place m.fuel m next

  -- A function is entered: its frame starts at its first argument.
  abbrev pub enter_function : FunctionEntry → MachineState W → Progress W
  enter_function f m =
      running (record {
        store = m.store;
        height = m.height;
        pc = f.start;
        base = m.height - f.parameters;
        frames = record { return_to = suc m.pc; base = m.base } ∷ m.frames;
        bays = m.bays;
        fuel = m.fuel;
      })

  -- A call where fewer are open than the depth, or else where no more may be opened: the fuel comes after that test.
  abbrev pub call_within : Bool → ℕ → FunctionEntry → MachineState W → Progress W
  call_within true place f m = spend_fuel place m (λ m. enter_function f m)
  call_within false place f m = over TooDeep place m

  -- A call of a function whose arguments are on the stack.
  abbrev pub call_function : ℕ → ℕ → Option FunctionEntry → MachineState W → Progress W
  call_function depth place None m = undefined
  call_function depth place (Some f) m =
      when (nat_le f.parameters m.height) (call_within (nat_lt (length m.frames) depth) place f m)

  -- The result w, popped to height h, goes to the frame's start, and the caller goes on.
  abbrev pub return_into : List Frame → W → ℕ → MachineState W → Progress W
  return_into [] w h m = undefined
  return_into (f ∷ fs) w h m =
      when (nat_le m.base h)
      (running (record {
        store = slice_set m.store m.base w;
        height = suc m.base;
        pc = f.return_to;
        base = f.base;
        frames = fs;
        bays = m.bays;
        fuel = m.fuel;
      }))

  -- What a bay answers is pushed at height h, or ends the run, which then leaves all else as it was.
  abbrev pub take_answer : ℕ → BayAnswer W → ℕ → MachineState W → Progress W
  take_answer place (gives w bays) h m =
      running (record {
        store = slice_set m.store h w;
        height = suc h;
        pc = suc m.pc;
        base = m.base;
        frames = m.frames;
        bays = bays;
        fuel = m.fuel;
      })
  take_answer place (fails e) h m = over e place m

-- ---- the instruction table

module _ {W : Type 0} (I : Image W) where
  -- The word at an index of the store; literal 0 past its end, where no instruction that is defined reads.
  abbrev pub word_at : MachineState W → ℕ → W
  word_at m i = slice_index_or m.store i (zero_word I.kind)

  -- Word i of the stack is pushed.
  abbrev pub fetch_word : ℕ → MachineState W → Progress W
  fetch_word i m = when (nat_lt i m.height) (push (word_at m i) m)

  -- The top, which stays, goes to word i, which lies under it.
  abbrev pub store_word : ℕ → MachineState W → Progress W
  store_word i m =
      pop_one m.height (λ h. when (nat_lt i h)
      (running (moved (slice_set m.store i (word_at m h)) m.height (suc m.pc) m)))

  -- Two words are popped, and one that comes from both is pushed.
  abbrev pub combine : (W → W → W) → MachineState W → Progress W
  combine f m =
      pop_two m.height (λ h.
      running (moved (slice_set m.store h (f (word_at m h) (word_at m (suc h)))) (suc h) (suc m.pc) m))

  -- One operation, at the place of its instruction.
  abbrev pub execute : Operation → ℕ → MachineState W → Progress W
  execute (Lit n) place m = push (I.kind.literal n) m
  execute (GetL k) place m = fetch_word (m.base + k) m
  execute (SetL k) place m = store_word (m.base + k) m
  execute (GetG k) place m = fetch_word k m
  execute (SetG k) place m = store_word k m
  execute Add place m = combine (λ x y. I.kind.sum x y) m
  execute Sub place m = combine (λ x y. I.kind.difference x y) m
  execute Gt place m = combine (λ x y. truth_word I.kind (I.kind.greater x y)) m
  execute Pop place m = pop_one m.height (λ h. running (moved m.store h (suc m.pc) m))
  execute (Jz t) place m =
      pop_one m.height (λ h.
      running (moved m.store h (cond (I.kind.zero (word_at m h)) t (suc m.pc)) m))
  execute (Jmp t) place m = running (moved m.store m.height t m)
  execute Tick place m = spend_fuel place m (λ m. running (moved m.store m.height (suc m.pc) m))
  execute (Call f) place m = call_function I.depth place (slice_get I.entries f) m
  execute Ret place m = pop_one m.height (λ h. return_into m.frames (word_at m h) h m)
  execute BayR place m =
      pop_one m.height (λ h. take_answer place (read_bay m.bays (I.kind.slot (word_at m h))) h m)
  execute BayW place m =
      pop_two m.height (λ h.
      take_answer place (write_bay I.holds m.bays (I.kind.slot (word_at m h)) (word_at m (suc h))) h m)
  execute Halt place m =
      pop_one m.height (λ h. when (nat_le I.globals h)
      (over Done 0 (moved (slice_set m.store I.globals (word_at m h)) h m.pc m)))

  -- The instruction at the program counter, if there is one.
  abbrev pub execute_at : Option Instruction → MachineState W → Progress W
  execute_at None m = undefined
  execute_at (Some i) m = execute i.operation i.place m

  -- One step.
  abbrev pub step : MachineState W → Progress W
  step m = execute_at (slice_get I.code m.pc) m

-- A machine that still runs goes on.
abbrev pub proceed : {W : Type 0} → Progress W → (MachineState W → Progress W) → Progress W
proceed (running m) next = next m
proceed (over e place m) next = over e place m
proceed undefined next = undefined

-- A run of n steps, unless it is over before.
unfoldable pub run : {W : Type 0} → Image W → ℕ → MachineState W → Progress W
run I zero m = running m
run I (suc n) m = proceed (step I m) (run I n)

-- ---- where a run begins, and the code's machine as a state

-- The state just after arming: the literals of the globals' numbers lie in the first words, the others are as they were.
abbrev pub armed : {W : Type 0} → Image W → List ℤ → List W → List W → ℕ → MachineState W
armed I numbers words bays fuel = record {
  store = map (λ v. I.kind.literal v) numbers ++ drop (length numbers) words;
  height = I.globals;
  pc = 0;
  base = I.globals;
  frames = [];
  bays = bays;
  fuel = fuel;
}

-- The machine of the code, with its words and bays, as a state: of the frame records those of the open calls.
abbrev pub state_of : {W : Type 0} → Machine → List W → List W → MachineState W
state_of m words bays = record {
  store = words;
  height = m.height;
  pc = m.pc;
  base = m.base;
  frames = reverse (take m.calls m.frames.records);
  bays = bays;
  fuel = m.fuel;
}

-- What that machine runs on.
abbrev pub image_of : {W : Type 0} → Kind W → (W → Bool) → List Instruction → List FunctionEntry → Machine → Image W
image_of kind holds code entries m = record {
  kind = kind;
  holds = holds;
  code = code;
  entries = entries;
  depth = m.depth;
  globals = m.globals;
}
