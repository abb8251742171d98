-- Whole runs by their reports: what was lent does not matter, and the globals and bays stay.
use Rattle.std.proofs.Common.{◌≡◌, ℕ, List, [], reverse, length, take, sym, refl, ap, ◌∙◌, arith, length-set, length-take}
use Rattle.std.proofs.lemmas.List.{length-reverse}
use Rattle.kinds.specs.Kinds.{Kind}
use Rattle.syntax.specs.Syntax.{globals_of}
use Rattle.treerun.specs.TreeRun.{Setting, State, Outcome, value, returned, ended, bind_variables, setting_of, unbound}
use Rattle.treerun.specs.TreeRun.{run_main, run_program}
use Rattle.treerun.specs.Report.{report}
use Rattle.treerun.specs.Laws.{state_left, seen, OldestBindings, ReportIsDetermined, RunKeepsGlobalsAndBays}
use Rattle.treerun.proofs.Keeps.{Steps, main-keeps}
use Rattle.treerun.proofs.Past.{run-is-determined}
use Rattle.treerun.proofs.Bindings.{binding-steps, length-bound}

-- A report tells nothing of what was left behind.
report-seen : {W : Type 0} (g granted : ℕ) (r : Outcome W W) → report g granted r ≡ report g granted (seen r)
report-seen g granted (value w σ) = refl
report-seen g granted (returned w σ) = refl
report-seen g granted (ended e place σ) = refl

pub report-is-determined : {W : Type 0} (kind : Kind W) → ReportIsDetermined kind
report-is-determined kind holds p depth names words bays fuel =
    report-seen g fuel (run_program kind holds p depth (unbound names words bays fuel))
    ∙ (ap (report g fuel) (run-is-determined kind holds p depth names [] words [] bays fuel)
    ∙ sym (report-seen g fuel (run_program kind holds p depth (unbound [] [] bays fuel))))
  where
    g : ℕ
    g = length (globals_of p)

-- ---- globals and bays

-- A state has as many bays as an earlier one.
abbrev pub bay-steps : {W : Type 0} (S : Setting W) → Steps S
bay-steps S = record {
  OnValue = λ σ τ. length τ.bays ≡ length σ.bays;
  OnExit = λ σ τ. length τ.bays ≡ length σ.bays;
  same = λ σ. refl;
  after = λ σ τ υ g h. h ∙ g;
  exits = λ σ. refl;
  exits_after = λ σ τ υ g h. h ∙ g;
  stores = λ σ x w. refl;
  writes = λ σ i w. length-set σ.bays i w;
  spends = λ σ n e. refl;
  leaves_block = λ σ τ ds h. h;
  exits_block = λ σ τ ds h. h;
  leaves_call = λ σ τ parameters ws h. h;
  exits_call = λ σ τ parameters ws h. h;
}

-- A report tells the words and bays of the state left.
globals-told : {W : Type 0} (g granted : ℕ) (r : Outcome W W) →
    (report g granted r).globals ≡ take g (reverse (state_left r).words)
globals-told g granted (value w σ) = refl
globals-told g granted (returned w σ) = refl
globals-told g granted (ended e place σ) = refl

bays-told : {W : Type 0} (g granted : ℕ) (r : Outcome W W) → (report g granted r).bays ≡ (state_left r).bays
bays-told g granted (value w σ) = refl
bays-told g granted (returned w σ) = refl
bays-told g granted (ended e place σ) = refl

pub run-keeps-globals-and-bays : {W : Type 0} (kind : Kind W) → RunKeepsGlobalsAndBays kind
run-keeps-globals-and-bays {W} kind holds p depth bays fuel = record {
  oldest_names = kept.0;
  word_for_each =
      ap length (globals-told g fuel r)
      ∙ omega (arith, length-take g (reverse ws), length-reverse ws, length-bound kind (globals_of p) [], kept.1);
  as_many_bays = ap length (bays-told g fuel r) ∙ main-keeps (bay-steps S) p.main σ;
}
  where
    S : Setting W
    S = setting_of kind holds p depth

    σ : State W
    σ = bind_variables kind (globals_of p) (unbound [] [] bays fuel)

    g : ℕ
    g = length (globals_of p)

    r : Outcome W W
    r = run_main S p.main σ

    ws : List W
    ws = (state_left r).words

    kept : OldestBindings σ (state_left r)
    kept = main-keeps (binding-steps S) p.main σ
