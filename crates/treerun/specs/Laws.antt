-- Laws of the tree run in the subject's words: what every run of a part or of a program obeys, at a number kind,
-- whatever words the bays can hold, whatever the program and the depth.
use Rattle.std.specs.Prelude.{◌≡◌, ℕ, ◌+◌, ◌-◌, ◌≤◌, Bool, List, [], ◌++◌, length}
use Rattle.kinds.specs.Kinds.{Kind}
use Rattle.syntax.specs.Syntax.{Expression, Arguments, Statement, while, Statements, Program, globals_of, global_names}
use Rattle.treerun.specs.TreeRun.{Setting, State, Outcome, value, returned, ended, zero_word, and_then, branch, spend}
use Rattle.treerun.specs.TreeRun.{run_expression, run_arguments, run_statement, run_statements, clocked, run_main}
use Rattle.treerun.specs.TreeRun.{run_program, setting_of, unbound}
use Rattle.treerun.specs.Report.{report, report_of}

-- ---- words to speak of runs

module _ {W : Type 0} where
  -- The state that an outcome leaves.
  abbrev pub state_left : {A : Type 0} → Outcome W A → State W
  state_left (value a σ) = σ
  state_left (returned w σ) = σ
  state_left (ended e place σ) = σ

  -- The ticks of a run: the fuel spent of what it was granted.
  abbrev pub ticks : {A : Type 0} → ℕ → Outcome W A → ℕ
  ticks granted outcome = granted - (state_left outcome).fuel

  -- A state without what dropped bindings have left behind those that stand.
  abbrev pub without_past : State W → State W
  without_past σ = record {
    names = σ.names;
    words = σ.words;
    past_names = [];
    past_words = [];
    bays = σ.bays;
    fuel = σ.fuel;
  }

  -- An outcome but for what dropped bindings have left behind.
  abbrev pub seen : {A : Type 0} → Outcome W A → Outcome W A
  seen (value a σ) = value a (without_past σ)
  seen (returned w σ) = returned w (without_past σ)
  seen (ended e place σ) = ended e place (without_past σ)

  -- The bindings of one state stand in a later one but for their words: the same names, as many words.
  abbrev pub SameBindings : State W → State W → Type 0
  SameBindings σ τ = (τ.names ≡ σ.names) × (length τ.words ≡ length σ.words)

  -- The names bound in one state are the oldest of those bound in a later one; no fewer words stand there.
  abbrev pub OldestBindings : State W → State W → Type 0
  OldestBindings σ τ = ((newer : List ℕ) × (τ.names ≡ newer ++ σ.names)) × (length σ.words ≤ length τ.words)

  -- What one relation says of a part's two states where it has a value, and another where it returns or ends the run.
  abbrev pub OnOutcome : {A : Type 0} → (State W → State W → Type 0) → (State W → State W → Type 0) →
      State W → Outcome W A → Type 0
  OnOutcome on_value on_exit σ (value a τ) = on_value σ τ
  OnOutcome on_value on_exit σ (returned w τ) = on_exit σ τ
  OnOutcome on_value on_exit σ (ended e place τ) = on_exit σ τ

  -- A part that has a value leaves the bindings that it found, but for their words.
  -- Where it returns or ends the run, they are the oldest of those that it leaves.
  abbrev pub KeepsBindings : {A : Type 0} → State W → Outcome W A → Type 0
  KeepsBindings σ outcome = OnOutcome SameBindings OldestBindings σ outcome

module _ {W : Type 0} (S : Setting W) where
  -- The run of a part with so many calls open. The fuel is clock enough.
  abbrev pub expression_run : Expression → ℕ → State W → Outcome W W
  expression_run e calls σ = run_expression S (clocked S σ.fuel) e calls σ

  -- The words of the arguments come on top of those given, newest first.
  abbrev pub arguments_run : Arguments → ℕ → List W → State W → Outcome W (List W)
  arguments_run es calls ws σ = run_arguments S (clocked S σ.fuel) es calls ws σ

  abbrev pub statement_run : Statement → ℕ → State W → Outcome W W
  statement_run s calls σ = run_statement S (clocked S σ.fuel) s calls σ

  abbrev pub statements_run : Statements → ℕ → State W → Outcome W W
  statements_run ss calls σ = run_statements S (clocked S σ.fuel) ss calls σ

-- What holds in the setting of every program, whatever the bays can hold and whatever the depth.
abbrev pub InEverySetting : {W : Type 0} → Kind W → (Setting W → Type 0) → Type 0
InEverySetting {W} kind holds_in =
    (holds : W → Bool) (p : Program) (depth : ℕ) → holds_in (setting_of kind holds p depth)

-- ---- the laws

-- A run is determined by program, bays, fuel and depth alone: what the lists lent for the bindings hold does not
-- matter. The outcomes are the same but for what is left behind.
abbrev pub RunIsDetermined : {W : Type 0} → Kind W → Type 0
RunIsDetermined {W} kind =
    (holds : W → Bool) (p : Program) (depth : ℕ)
    (names names' : List ℕ) (words words' bays : List W) (fuel : ℕ) →
    seen (run_program kind holds p depth (unbound names words bays fuel))
    ≡ seen (run_program kind holds p depth (unbound names' words' bays fuel))

-- The ticks of a run and the fuel that it leaves are together the fuel that it was granted.
abbrev pub TicksWithinFuel : {W : Type 0} → Kind W → Type 0
TicksWithinFuel {W} kind =
    (holds : W → Bool) (p : Program) (depth : ℕ) (σ : State W) →
    ticks σ.fuel (run_program kind holds p depth σ) + (state_left (run_program kind holds p depth σ)).fuel ≡ σ.fuel

-- Every part keeps the bindings that it found, however many calls are open.
pub record PartsKeep {W : Type 0} (S : Setting W) : Type 0 where
  pub of_expression : (e : Expression) (calls : ℕ) (σ : State W) → KeepsBindings σ (expression_run S e calls σ)
  pub of_arguments : (es : Arguments) (calls : ℕ) (ws : List W) (σ : State W) →
      KeepsBindings σ (arguments_run S es calls ws σ)
  pub of_statement : (s : Statement) (calls : ℕ) (σ : State W) → KeepsBindings σ (statement_run S s calls σ)
  pub of_statements : (ss : Statements) (calls : ℕ) (σ : State W) → KeepsBindings σ (statements_run S ss calls σ)

abbrev pub PartsKeepBindings : {W : Type 0} → Kind W → Type 0
PartsKeepBindings kind = InEverySetting kind PartsKeep

-- Any two clocks of at least the fuel give the same run of a statement.
abbrev pub ClocksAgree : {W : Type 0} → Kind W → Type 0
ClocksAgree {W} kind = InEverySetting kind (λ S.
    (s : Statement) (calls clock clock' : ℕ) (σ : State W) → σ.fuel ≤ clock → σ.fuel ≤ clock' →
    run_statement S (clocked S clock) s calls σ ≡ run_statement S (clocked S clock') s calls σ)

-- A while spends one fuel and runs its test; on zero its value is literal 0, otherwise its body runs, and then
-- the same while.
abbrev pub WhileBeginsOver : {W : Type 0} → Kind W → Type 0
WhileBeginsOver {W} kind = InEverySetting kind (λ S.
    (place : ℕ) (e : Expression) (s : Statement) (σ : State W) →
    run_main S (while place e s) σ
    ≡ spend place σ (λ σ. and_then (expression_run S e 0 σ) (λ w σ.
    branch (kind.zero w) σ (λ σ. value (zero_word kind) σ)
    (λ σ. and_then (run_main S s σ) (λ v σ. run_main S (while place e s) σ)))))

-- ---- laws of whole runs by their reports

-- The report of a run is the same whatever the lists lent for the bindings hold.
abbrev pub ReportIsDetermined : {W : Type 0} → Kind W → Type 0
ReportIsDetermined {W} kind =
    (holds : W → Bool) (p : Program) (depth : ℕ) (names : List ℕ) (words bays : List W) (fuel : ℕ) →
    report (length (globals_of p)) fuel (run_program kind holds p depth (unbound names words bays fuel))
    ≡ report_of kind holds p bays fuel depth

-- The names of a program's global variables are the oldest that its run leaves bound, a word is reported for each,
-- and there are as many bays as before.
pub record GlobalsAndBays {W : Type 0} (kind : Kind W) (holds : W → Bool) (p : Program) (depth : ℕ)
    (bays : List W) (fuel : ℕ) : Type 0 where
  pub oldest_names : (newer : List ℕ) ×
      ((state_left (run_program kind holds p depth (unbound [] [] bays fuel))).names ≡ newer ++ global_names p)
  pub word_for_each : length (report_of kind holds p bays fuel depth).globals ≡ length (globals_of p)
  pub as_many_bays : length (report_of kind holds p bays fuel depth).bays ≡ length bays

abbrev pub RunKeepsGlobalsAndBays : {W : Type 0} → Kind W → Type 0
RunKeepsGlobalsAndBays {W} kind =
    (holds : W → Bool) (p : Program) (depth : ℕ) (bays : List W) (fuel : ℕ) →
    GlobalsAndBays kind holds p depth bays fuel
