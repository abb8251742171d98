-- What every run keeps between the state that it found and the one that it leaves: one induction over the parts of
-- a program, for any pair of relations that each single step keeps.
use Rattle.std.proofs.Common.{◌≡◌, ℕ, zero, suc, Bool, true, false, cond, eqb, ltb, List, [], ◌∷◌, length, set, Some, None, Option, refl}
use Rattle.std.specs.List.{slice_get}
use Rattle.script.specs.declared.ending.Ending.{Ending}
use Rattle.script.specs.declared.ending.Ending.TheVariants.{TooDeep, NoSuchBay, CannotHold}
use Rattle.syntax.specs.Syntax.{VariableDeclaration, Expression, constant, variable, binary, assign, call, bay_read}
use Rattle.syntax.specs.Syntax.{bay_write, Arguments, no_argument, argument, Statement, evaluate, if_else, while}
use Rattle.syntax.specs.Syntax.{give_back, block, Statements, no_statement, then, Function, function_named}
use Rattle.treerun.specs.TreeRun.{Setting, State, Outcome, value, returned, ended, gives, fails, zero_word, store}
use Rattle.treerun.specs.TreeRun.{found, read_bay, write_bay, with_words, with_bays, with_fuel, drop_to, bind_variables}
use Rattle.treerun.specs.TreeRun.{bind_parameters, and_then, branch, spend_from, spend, leave_block, leave_call, answered}
use Rattle.treerun.specs.TreeRun.{enter, run_expression, run_arguments, run_statement, run_statements, clocked, run_main}
use Rattle.treerun.specs.Laws.{OnOutcome, state_left, expression_run, arguments_run, statement_run, statements_run}

-- A relation between the state that a part finds and the one that it leaves where it has a value, and another where
-- it returns or ends the run. Each single step keeps them.
pub record Steps {W : Type 0} (S : Setting W) : Type 1 where
  pub OnValue : State W → State W → Type 0
  pub OnExit : State W → State W → Type 0
  pub same : (σ : State W) → OnValue σ σ
  pub after : (σ τ υ : State W) → OnValue σ τ → OnValue τ υ → OnValue σ υ
  pub exits : (σ : State W) → OnExit σ σ
  pub exits_after : (σ τ υ : State W) → OnValue σ τ → OnExit τ υ → OnExit σ υ
  pub stores : (σ : State W) (x : ℕ) (w : W) → OnValue σ (with_words (store x w σ.names σ.words) σ)
  pub writes : (σ : State W) (i : ℕ) (w : W) → OnValue σ (with_bays (set σ.bays i w) σ)
  pub spends : (σ : State W) (n : ℕ) → σ.fuel ≡ suc n → OnValue σ (with_fuel n σ)
  pub leaves_block : (σ τ : State W) (ds : List VariableDeclaration) →
      OnValue (bind_variables S.kind ds σ) τ → OnValue σ (drop_to σ τ)
  pub exits_block : (σ τ : State W) (ds : List VariableDeclaration) →
      OnExit (bind_variables S.kind ds σ) τ → OnExit σ τ
  pub leaves_call : (σ τ : State W) (parameters : List ℕ) (ws : List W) →
      OnExit (bind_parameters parameters ws σ) τ → OnValue σ (drop_to σ τ)
  pub exits_call : (σ τ : State W) (parameters : List ℕ) (ws : List W) →
      OnExit (bind_parameters parameters ws σ) τ → OnExit σ τ

module _ {W : Type 0} {S : Setting W} (k : Steps S) where
  -- The outcome of a part that began at a state keeps the relations.
  pub record Keeps {A : Type 0} (σ : State W) (r : Outcome W A) : Type 0 where
    pub kept : OnOutcome k.OnValue k.OnExit σ r

  abbrev pub DeepKeeps : (ℕ → Statement → State W → Outcome W W) → Type 0
  DeepKeeps deep = (calls : ℕ) (s : Statement) (σ : State W) → Keeps σ (deep calls s σ)

  has_value : {A : Type 0} {σ τ : State W} (a : A) → k.OnValue σ τ → Keeps σ (value a τ)
  has_value a h = record { kept = h }

  ends : {A : Type 0} {e : Ending} {place : ℕ} (σ : State W) → Keeps {A = A} σ (ended e place σ)
  ends σ = record { kept = k.exits σ }

  exit-of-value : (σ τ : State W) → k.OnValue σ τ → k.OnExit σ τ
  exit-of-value σ τ h = k.exits_after σ τ τ h (k.exits τ)

  -- What a later part keeps, from the state that an earlier one left.
  keeps-after : {A : Type 0} (σ τ : State W) (r : Outcome W A) → k.OnValue σ τ → Keeps τ r → Keeps σ r
  keeps-after σ τ (value a υ) h g = record { kept = k.after σ τ υ h g.kept }
  keeps-after σ τ (returned w υ) h g = record { kept = k.exits_after σ τ υ h g.kept }
  keeps-after σ τ (ended e place υ) h g = record { kept = k.exits_after σ τ υ h g.kept }

  then_keeps : {A B : Type 0} (σ : State W) (r : Outcome W A) (next : A → State W → Outcome W B) →
      Keeps σ r → ((a : A) (τ : State W) → Keeps τ (next a τ)) → Keeps σ (and_then r next)
  then_keeps σ (value a τ) next h g = keeps-after σ τ (next a τ) h.kept (g a τ)
  then_keeps σ (returned w τ) next h g = record { kept = h.kept }
  then_keeps σ (ended e place τ) next h g = record { kept = h.kept }

  branch_keeps : {A : Type 0} (b : Bool) (σ : State W) (f g : State W → Outcome W A) →
      ((τ : State W) → Keeps τ (f τ)) → ((τ : State W) → Keeps τ (g τ)) → Keeps σ (branch b σ f g)
  branch_keeps true σ f g h i = h σ
  branch_keeps false σ f g h i = i σ

  spend-keeps : {A : Type 0} (place n : ℕ) (σ : State W) (next : State W → Outcome W A) → σ.fuel ≡ n →
      ((τ : State W) → Keeps τ (next τ)) → Keeps σ (spend_from place n σ next)
  spend-keeps place zero σ next e h = ends σ
  spend-keeps place (suc n) σ next e h =
      keeps-after σ (with_fuel n σ) (next (with_fuel n σ)) (k.spends σ n e) (h (with_fuel n σ))

  block-keeps : (word : W) (σ : State W) (ds : List VariableDeclaration) (r : Outcome W W) →
      Keeps (bind_variables S.kind ds σ) r → Keeps σ (leave_block word σ r)
  block-keeps word σ ds (value w τ) h = record { kept = k.leaves_block σ τ ds h.kept }
  block-keeps word σ ds (returned w τ) h = record { kept = k.exits_block σ τ ds h.kept }
  block-keeps word σ ds (ended e place τ) h = record { kept = k.exits_block σ τ ds h.kept }

  call-keeps : (word : W) (σ : State W) (parameters : List ℕ) (ws : List W) (r : Outcome W W) →
      Keeps (bind_parameters parameters ws σ) r → Keeps σ (leave_call word σ r)
  call-keeps word σ parameters ws (value w τ) h =
      record { kept = k.leaves_call σ τ parameters ws (exit-of-value (bind_parameters parameters ws σ) τ h.kept) }
  call-keeps word σ parameters ws (returned w τ) h = record { kept = k.leaves_call σ τ parameters ws h.kept }
  call-keeps word σ parameters ws (ended e place τ) h = record { kept = k.exits_call σ τ parameters ws h.kept }

  read_keeps : (place : ℕ) (slot : Option ℕ) (σ : State W) → Keeps σ (answered place (read_bay σ.bays slot) σ)
  read_keeps place None σ = ends σ
  read_keeps place (Some i) σ = at (slice_get σ.bays i)
    where
      at : (bay : Option W) → Keeps σ (answered place (found σ.bays bay) σ)
      at None = ends σ
      at (Some w) = has_value w (k.same σ)

  write_keeps : (place : ℕ) (slot : Option ℕ) (w : W) (σ : State W) →
      Keeps σ (answered place (write_bay S.holds σ.bays slot w) σ)
  write_keeps place None w σ = ends σ
  write_keeps place (Some i) w σ = at (ltb i (length σ.bays)) (S.holds w)
    where
      at : (there fits : Bool) →
          Keeps σ (answered place
          (cond there (cond fits (gives w (set σ.bays i w)) (fails CannotHold)) (fails NoSuchBay)) σ)
      at true true = has_value w (k.writes σ i w)
      at true false = ends σ
      at false fits = ends σ

  module _ (deep : ℕ → Statement → State W → Outcome W W) (deep-keeps : DeepKeeps deep) where
    enter-keeps : (place calls : ℕ) (f : Option Function) (ws : List W) (σ : State W) →
        Keeps σ (enter S deep place calls f ws σ)
    enter-keeps place calls None ws σ = has_value (zero_word S.kind) (k.same σ)
    enter-keeps place calls (Some f) ws σ =
        branch_keeps (eqb calls S.depth) σ (λ σ. ended TooDeep place σ)
        (λ σ. spend place σ (λ σ.
        leave_call (zero_word S.kind) σ (deep (suc calls) f.body (bind_parameters f.parameters ws σ))))
        (λ τ. ends τ)
        (λ τ. spend-keeps place τ.fuel τ _ refl (λ υ.
        call-keeps (zero_word S.kind) υ f.parameters ws _
        (deep-keeps (suc calls) f.body (bind_parameters f.parameters ws υ))))

    mutual
      unfolding run_expression

      pub expression-keeps : (e : Expression) (calls : ℕ) (σ : State W) → Keeps σ (run_expression S deep e calls σ)
      expression-keeps (constant a v) calls σ = has_value (S.kind.literal v) (k.same σ)
      expression-keeps (variable a x) calls σ = has_value _ (k.same σ)
      expression-keeps (binary a o e f) calls σ =
          then_keeps σ _ _ (expression-keeps e calls σ) (λ x τ.
          then_keeps τ _ _ (expression-keeps f calls τ) (λ y υ. has_value _ (k.same υ)))
      expression-keeps (assign a x e) calls σ =
          then_keeps σ _ _ (expression-keeps e calls σ) (λ w τ. has_value w (k.stores τ x w))
      expression-keeps (call a f es) calls σ =
          then_keeps σ _ _ (arguments-keep es calls [] σ) (λ ws τ.
          enter-keeps a calls (function_named f S.functions) ws τ)
      expression-keeps (bay_read a e) calls σ =
          then_keeps σ _ _ (expression-keeps e calls σ) (λ x τ. read_keeps a (S.kind.slot x) τ)
      expression-keeps (bay_write a e f) calls σ =
          then_keeps σ _ _ (expression-keeps e calls σ) (λ x τ.
          then_keeps τ _ _ (expression-keeps f calls τ) (λ w υ. write_keeps a (S.kind.slot x) w υ))

      pub arguments-keep : (es : Arguments) (calls : ℕ) (ws : List W) (σ : State W) →
          Keeps σ (run_arguments S deep es calls ws σ)
      arguments-keep no_argument calls ws σ = has_value ws (k.same σ)
      arguments-keep (argument e es) calls ws σ =
          then_keeps σ _ _ (expression-keeps e calls σ) (λ w τ. arguments-keep es calls (w ∷ ws) τ)

    mutual
      unfolding run_statement

      pub statement-keeps : (s : Statement) (calls : ℕ) (σ : State W) → Keeps σ (run_statement S deep s calls σ)
      statement-keeps (evaluate a e) calls σ = expression-keeps e calls σ
      statement-keeps (if_else a e s t) calls σ =
          then_keeps σ _ _ (expression-keeps e calls σ) (λ w τ.
          branch_keeps (S.kind.zero w) τ
          (λ σ. run_statement S deep t calls σ) (λ σ. run_statement S deep s calls σ)
          (λ υ. statement-keeps t calls υ) (λ υ. statement-keeps s calls υ))
      statement-keeps (while a e s) calls σ =
          spend-keeps a σ.fuel σ _ refl (λ τ. then_keeps τ _ _ (expression-keeps e calls τ) (λ w υ.
          branch_keeps (S.kind.zero w) υ (λ σ. value (zero_word S.kind) σ)
          (λ σ. and_then (run_statement S deep s calls σ) (λ v σ. deep calls (while a e s) σ))
          (λ φ. has_value _ (k.same φ))
          (λ φ. then_keeps φ _ _ (statement-keeps s calls φ) (λ v χ. deep-keeps calls (while a e s) χ))))
      statement-keeps (give_back a e) calls σ =
          then_keeps σ _ _ (expression-keeps e calls σ) (λ w τ. record { kept = k.exits τ })
      statement-keeps (block a ds ss) calls σ =
          block-keeps (zero_word S.kind) σ ds _ (statements-keep ss calls (bind_variables S.kind ds σ))

      pub statements-keep : (ss : Statements) (calls : ℕ) (σ : State W) →
          Keeps σ (run_statements S deep ss calls σ)
      statements-keep no_statement calls σ = has_value _ (k.same σ)
      statements-keep (then s ss) calls σ =
          then_keeps σ _ _ (statement-keeps s calls σ) (λ w τ. statements-keep ss calls τ)

  pub clocked-keeps : (clock : ℕ) → DeepKeeps (clocked S clock)
  unfolding clocked
  clocked-keeps zero calls s σ = ends σ
  clocked-keeps (suc clock) calls s σ = statement-keeps (clocked S clock) (clocked-keeps clock) s calls σ

  -- So does the run of every part.
  module _ (calls : ℕ) (σ : State W) where
    pub expression-run-keeps : (e : Expression) → OnOutcome k.OnValue k.OnExit σ (expression_run S e calls σ)
    expression-run-keeps e = (expression-keeps _ (clocked-keeps σ.fuel) e calls σ).kept

    pub arguments-run-keeps : (es : Arguments) (ws : List W) →
        OnOutcome k.OnValue k.OnExit σ (arguments_run S es calls ws σ)
    arguments-run-keeps es ws = (arguments-keep _ (clocked-keeps σ.fuel) es calls ws σ).kept

    pub statement-run-keeps : (s : Statement) → OnOutcome k.OnValue k.OnExit σ (statement_run S s calls σ)
    statement-run-keeps s = (statement-keeps _ (clocked-keeps σ.fuel) s calls σ).kept

    pub statements-run-keeps : (ss : Statements) → OnOutcome k.OnValue k.OnExit σ (statements_run S ss calls σ)
    statements-run-keeps ss = (statements-keep _ (clocked-keeps σ.fuel) ss calls σ).kept

  -- What holds where a run is left holds of the state that it leaves.
  of-state-left : {A : Type 0} (σ : State W) (r : Outcome W A) → OnOutcome k.OnValue k.OnExit σ r →
      k.OnExit σ (state_left r)
  of-state-left σ (value a τ) h = exit-of-value σ τ h
  of-state-left σ (returned w τ) h = h
  of-state-left σ (ended e place τ) h = h

  pub main-keeps : (s : Statement) (σ : State W) → k.OnExit σ (state_left (run_main S s σ))
  unfolding run_main
  main-keeps s σ = of-state-left σ (statement_run S s 0 σ) (statement-run-keeps 0 σ s)
