-- No run leaves more fuel than it was given.
use Rattle.std.proofs.Common.{◌≤◌, arith}
use Rattle.kinds.specs.Kinds.{Kind}
use Rattle.syntax.specs.Syntax.{globals_of}
use Rattle.treerun.specs.TreeRun.{Setting, bind_variables, setting_of}
use Rattle.treerun.specs.Laws.{TicksWithinFuel}
use Rattle.treerun.proofs.Keeps.{Steps, main-keeps}

-- A state has no more fuel than an earlier one.
abbrev pub fuel-steps : {W : Type 0} (S : Setting W) → Steps S
fuel-steps {W} S = record {
  OnValue = λ σ τ. τ.fuel ≤ σ.fuel;
  OnExit = λ σ τ. τ.fuel ≤ σ.fuel;
  same = λ σ. omega arith;
  after = λ σ τ υ g h. omega arith;
  exits = λ σ. omega arith;
  exits_after = λ σ τ υ g h. omega arith;
  stores = λ σ x w. omega arith;
  writes = λ σ i w. omega arith;
  spends = λ σ n e. omega arith;
  leaves_block = λ σ τ ds h. h;
  exits_block = λ σ τ ds h. h;
  leaves_call = λ σ τ parameters ws h. h;
  exits_call = λ σ τ parameters ws h. h;
}

pub ticks-within-fuel : {W : Type 0} (kind : Kind W) → TicksWithinFuel kind
ticks-within-fuel kind holds p depth σ =
    omega (arith, main-keeps (fuel-steps (setting_of kind holds p depth)) p.main (bind_variables kind (globals_of p) σ))
