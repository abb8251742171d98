-- The report of a run: what its reader is told of it.
use Rattle.std.specs.Prelude.{ℕ, ◌-◌, Bool, List, [], reverse, length, take, Some, None, Option}
use Rattle.script.specs.declared.ending.Ending.{Ending}
use Rattle.script.specs.declared.ending.Ending.TheVariants.{Done}
use Rattle.kinds.specs.Kinds.{Kind}
use Rattle.syntax.specs.Syntax.{Program, globals_of}
use Rattle.treerun.specs.TreeRun.{State, Outcome, value, returned, ended, run_program, unbound}

-- How a run ended and at which place; its answer, which only a run that is done has; the words of the global
-- variables, oldest first; the bays; the ticks, which are the fuel spent.
pub record Report (W : Type 0) : Type 0 where
  pub ending : Ending
  pub place : ℕ
  pub answer : Option W
  pub globals : List W
  pub bays : List W
  pub ticks : ℕ

module _ {W : Type 0} where
  -- A run that has come to a state: the globals are the words of the first g bindings.
  abbrev pub report_at : ℕ → ℕ → Ending → ℕ → Option W → State W → Report W
  report_at g granted ending place answer σ = record {
    ending = ending;
    place = place;
    answer = answer;
    globals = take g (reverse σ.words);
    bays = σ.bays;
    ticks = granted - σ.fuel;
  }

  -- The report of an outcome, of a program with g global variables that was granted so much fuel.
  -- A value and a returned word are the answer of a run that is done; its place is 0.
  abbrev pub report : ℕ → ℕ → Outcome W W → Report W
  report g granted (value w σ) = report_at g granted Done 0 (Some w) σ
  report g granted (returned w σ) = report_at g granted Done 0 (Some w) σ
  report g granted (ended ending place σ) = report_at g granted ending place None σ

-- The report of a program's run over bays, with the fuel granted and the depth. What the lists lent for the bindings
-- hold does not matter, so they are empty.
abbrev pub report_of : {W : Type 0} → Kind W → (W → Bool) → Program → List W → ℕ → ℕ → Report W
report_of kind holds p bays fuel depth =
    report (length (globals_of p)) fuel (run_program kind holds p depth (unbound [] [] bays fuel))
