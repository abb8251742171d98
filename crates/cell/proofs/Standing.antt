-- What stands between two calls, by the cell's state: how the notes of the calls made and the machine hang together.
use Rattle.std.proofs.Common.{◌≡◌, ℕ, suc, ◌+◌, ◌*◌, ◌≤◌, Bool, List, length, Some, None, Ok}
use Rattle.kinds.specs.Kinds.{Kind}
use Rattle.script.specs.Shape.{shape}
use Rattle.syntax.specs.Syntax.{Program}
use Rattle.syntax.specs.Typed.{program_of}
use Rattle.names.specs.Need.{largest_need}
use Rattle.names.specs.Scoped.{WellNamed}
use Rattle.code.specs.Scheme.{program_code, function_entries, global_numbers, global_count}
use Rattle.script.specs.declared.ending.RunEnd.{RunEnd}
use Rattle.machine.specs.Machine.{Image, MachineState, running, over, run, armed}
use Rattle.agreement.specs.Agreement.{program_image}
use Rattle.cell.specs.declared.calls.State.{State}
use Rattle.cell.specs.declared.calls.State.TheVariants.{Empty, Loaded, Coded, Running, Over}
use Rattle.cell.specs.Outcomes.{Shown, World, machine_in, counted}
use Rattle.cell.specs.Promises.{Armed, Notes}

-- The cell has the code of a program whose names are in order, made of a table of at most 1,024 records.
pub record HasCode (p : Program) (s : Shown) : Type 0 where
  pub code : s.code ≡ program_code p
  pub entries : s.entries ≡ function_entries p
  pub numbers : s.numbers ≡ global_numbers p
  pub need : s.need ≡ largest_need p
  pub named : WellNamed p
  pub short : length (program_code p) ≤ 4096

module _ {W : Type 0} (kind : Kind W) (holds : W → Bool) where
  -- The state just after an arm, over the words it was lent.
  abbrev pub start : Program → Armed W → List W → MachineState W
  start p a words = armed (program_image kind holds p a.depth) (global_numbers p) words a.bays a.fuel

  -- A run that was begun by the arm noted, over some words of which there were enough.
  pub record Begun (n : Notes W) (w : World W) : Type 0 where
    pub has : HasCode (program_of n.coded) w.cell
    pub arm : Armed W
    pub noted : n.armed ≡ Some arm
    pub depth : w.cell.registers.depth ≡ arm.depth
    pub globals : w.cell.registers.globals ≡ global_count (program_of n.coded)
    pub fuel : w.cell.fuel ≡ arm.fuel
    pub little : arm.fuel ≤ 1000000
    pub words : List W
    pub room :
        global_count (program_of n.coded) + (arm.depth + 1) * largest_need (program_of n.coded) ≤ length words

  abbrev pub image_of : {n : Notes W} {w : World W} → Begun n w → Image W
  image_of {n} b = program_image kind holds (program_of n.coded) b.arm.depth

  abbrev pub start_of : {n : Notes W} {w : World W} → Begun n w → MachineState W
  start_of {n} b = start (program_of n.coded) b.arm b.words

  -- It has made all steps granted, and still runs.
  pub record GoesOn (made : ℕ) (n : Notes W) (w : World W) : Type 0 where
    pub begun : Begun n w
    pub all : made ≡ begun.arm.granted
    pub came : run (image_of begun) begun.arm.granted (start_of begun) ≡ running (machine_in w)
    pub steps : w.cell.steps ≡ counted begun.arm.granted

  -- It has ended: after some steps the machine still ran, and the next one ended the run.
  pub record HasEnded (made : ℕ) (n : Notes W) (w : World W) : Type 0 where
    pub begun : Begun n w
    pub end : RunEnd
    pub told : w.cell.end ≡ Some end
    pub count : ℕ
    pub all : made ≡ suc count
    pub last : MachineState W
    pub came : run (image_of begun) count (start_of begun) ≡ running last
    pub ended : run (image_of begun) (suc count) (start_of begun) ≡ over end.ending end.place (machine_in w)
    pub steps : w.cell.steps ≡ counted (suc count)

  -- By the state, with the steps made since the last arm taken.
  abbrev pub StandsIn : State → ℕ → Notes W → World W → Type 0
  StandsIn Empty made n w = n.armed ≡ None
  StandsIn Loaded made n w = (w.cell.table ≡ n.loaded) × (n.armed ≡ None) × (shape w.cell.table ≡ Ok tt)
  StandsIn Coded made n w = HasCode (program_of n.coded) w.cell × (n.armed ≡ None)
  StandsIn Running made n w = GoesOn made n w
  StandsIn Over made n w = HasEnded made n w

  abbrev pub Stands : ℕ → Notes W → World W → Type 0
  Stands made n w = StandsIn w.cell.state made n w
