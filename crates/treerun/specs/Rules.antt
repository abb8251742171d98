-- The rules of the tree run, part by part, with no clock in them.
use Rattle.std.specs.Prelude.{◌≡◌, ℕ, List, [], ◌∷◌, ℤ}
use Rattle.kinds.specs.Kinds.{Kind}
use Rattle.script.specs.declared.rows.Operator.{Operator}
use Rattle.syntax.specs.Syntax.{VariableDeclaration, Expression, constant, variable, binary, assign, call, bay_read}
use Rattle.syntax.specs.Syntax.{bay_write, Arguments, no_argument, argument, Statement, evaluate, if_else, while}
use Rattle.syntax.specs.Syntax.{give_back, block, Statements, no_statement, then, function_named}
use Rattle.treerun.specs.TreeRun.{Setting, State, value, returned, zero_word, apply, look_up, store, with_words}
use Rattle.treerun.specs.TreeRun.{bind_variables, and_then, branch, spend, leave_block, answered, read_bay, write_bay}
use Rattle.treerun.specs.TreeRun.{enter}
use Rattle.treerun.specs.Laws.{expression_run, arguments_run, statement_run, statements_run, InEverySetting}

-- The run of each part, from the runs of the parts in it, which run as they would alone.
-- So do the body of a call and a while that begins over.
module _ {W : Type 0} (S : Setting W) where
  pub record Rules : Type 0 where
    pub of_constant : (a : ℕ) (v : ℤ) (calls : ℕ) (σ : State W) →
        expression_run S (constant a v) calls σ ≡ value (S.kind.literal v) σ
    pub of_variable : (a x calls : ℕ) (σ : State W) →
        expression_run S (variable a x) calls σ ≡ value (look_up (zero_word S.kind) x σ.names σ.words) σ
    pub of_binary : (a : ℕ) (o : Operator) (e f : Expression) (calls : ℕ) (σ : State W) →
        expression_run S (binary a o e f) calls σ
        ≡ and_then (expression_run S e calls σ) (λ x σ. and_then (expression_run S f calls σ) (λ y σ.
        value (apply S.kind o x y) σ))
    pub of_assign : (a x : ℕ) (e : Expression) (calls : ℕ) (σ : State W) →
        expression_run S (assign a x e) calls σ
        ≡ and_then (expression_run S e calls σ) (λ w σ. value w (with_words (store x w σ.names σ.words) σ))
    pub of_call : (a f : ℕ) (es : Arguments) (calls : ℕ) (σ : State W) →
        expression_run S (call a f es) calls σ
        ≡ and_then (arguments_run S es calls [] σ) (λ ws σ.
        enter S (λ calls s σ. statement_run S s calls σ) a calls (function_named f S.functions) ws σ)
    pub of_bay_read : (a : ℕ) (e : Expression) (calls : ℕ) (σ : State W) →
        expression_run S (bay_read a e) calls σ
        ≡ and_then (expression_run S e calls σ) (λ x σ. answered a (read_bay σ.bays (S.kind.slot x)) σ)
    pub of_bay_write : (a : ℕ) (e f : Expression) (calls : ℕ) (σ : State W) →
        expression_run S (bay_write a e f) calls σ
        ≡ and_then (expression_run S e calls σ) (λ x σ. and_then (expression_run S f calls σ) (λ w σ.
        answered a (write_bay S.holds σ.bays (S.kind.slot x) w) σ))
    pub of_no_argument : (calls : ℕ) (ws : List W) (σ : State W) → arguments_run S no_argument calls ws σ ≡ value ws σ
    pub of_argument : (e : Expression) (es : Arguments) (calls : ℕ) (ws : List W) (σ : State W) →
        arguments_run S (argument e es) calls ws σ
        ≡ and_then (expression_run S e calls σ) (λ w σ. arguments_run S es calls (w ∷ ws) σ)
    pub of_evaluate : (a : ℕ) (e : Expression) (calls : ℕ) (σ : State W) →
        statement_run S (evaluate a e) calls σ ≡ expression_run S e calls σ
    pub of_if_else : (a : ℕ) (e : Expression) (s t : Statement) (calls : ℕ) (σ : State W) →
        statement_run S (if_else a e s t) calls σ
        ≡ and_then (expression_run S e calls σ) (λ w σ.
        branch (S.kind.zero w) σ (λ σ. statement_run S t calls σ) (λ σ. statement_run S s calls σ))
    pub of_while : (a : ℕ) (e : Expression) (s : Statement) (calls : ℕ) (σ : State W) →
        statement_run S (while a e s) calls σ
        ≡ spend a σ (λ σ. and_then (expression_run S e calls σ) (λ w σ.
        branch (S.kind.zero w) σ (λ σ. value (zero_word S.kind) σ)
        (λ σ. and_then (statement_run S s calls σ) (λ v σ. statement_run S (while a e s) calls σ))))
    pub of_give_back : (a : ℕ) (e : Expression) (calls : ℕ) (σ : State W) →
        statement_run S (give_back a e) calls σ ≡ and_then (expression_run S e calls σ) (λ w σ. returned w σ)
    pub of_block : (a : ℕ) (ds : List VariableDeclaration) (ss : Statements) (calls : ℕ) (σ : State W) →
        statement_run S (block a ds ss) calls σ
        ≡ leave_block (zero_word S.kind) σ (statements_run S ss calls (bind_variables S.kind ds σ))
    pub of_no_statement : (calls : ℕ) (σ : State W) →
        statements_run S no_statement calls σ ≡ value (zero_word S.kind) σ
    pub of_then : (s : Statement) (ss : Statements) (calls : ℕ) (σ : State W) →
        statements_run S (then s ss) calls σ
        ≡ and_then (statement_run S s calls σ) (λ w σ. statements_run S ss calls σ)

-- Every part of every program runs by the rules.
abbrev pub PartsRunByRules : {W : Type 0} → Kind W → Type 0
PartsRunByRules kind = InEverySetting kind Rules
