-- The tree run: what a program does, part by part, over any number kind, any bays and any words that they can hold.
use Rattle.std.specs.Prelude.{ℕ, zero, suc, ◌-◌, Bool, true, false, cond, List, [], ◌∷◌, ◌++◌, reverse, length, take, drop, Some, None, Option, ◌==◌}
use mathlib.Core.List.{reverse_aux}
use Rattle.kinds.specs.Kinds.{Kind}
use Rattle.kinds.specs.Words.{truth_word}
pub use Rattle.kinds.specs.Words.{zero_word}
pub use Rattle.script.specs.Bays.{BayAnswer, gives, fails, found, read_bay, write_bay}
use Rattle.script.specs.declared.rows.Operator.{Operator}
use Rattle.script.specs.declared.rows.Operator.TheVariants.{Sum, Difference, Greater}
use Rattle.script.specs.declared.ending.Ending.{Ending}
use Rattle.script.specs.declared.ending.Ending.TheVariants.{NoFuel, TooDeep}
use Rattle.syntax.specs.Syntax.{VariableDeclaration, declare, Expression, constant, variable, binary, assign, call, bay_read, bay_write}
use Rattle.syntax.specs.Syntax.{Arguments, no_argument, argument, Statement, evaluate, if_else, while, give_back, block}
use Rattle.syntax.specs.Syntax.{Statements, no_statement, then, Function, Program, bind_names, function_named, functions_of, globals_of}

-- What a run is given besides its state: the number kind, which words a bay can hold, the program's functions,
-- and the depth, how many calls may be open at once.
pub record Setting (W : Type 0) : Type 0 where
  pub kind : Kind W
  pub holds : W → Bool
  pub functions : List Function
  pub depth : ℕ

-- The bindings, newest first, as their names and their words; what dropped bindings have left behind the bindings
-- that stand, nearest first; the bays; the fuel left. The calls open are an argument of the run.
pub record State (W : Type 0) : Type 0 where
  pub names : List ℕ
  pub words : List W
  pub past_names : List ℕ
  pub past_words : List W
  pub bays : List W
  pub fuel : ℕ

-- What a part comes to: it has a value, it returns a word from the innermost call or the program, or it ends the run
-- at a place. Each with the state that it leaves.
pub data Outcome (W A : Type 0) : Type 0 where
  value : A → State W → Outcome W A
  returned : W → State W → Outcome W A
  ended : Ending → ℕ → State W → Outcome W A

-- ---- words

module _ {W : Type 0} where
  -- The word of a name's newest binding; d where the name has none.
  abbrev pub look_up : W → ℕ → List ℕ → List W → W
  look_up d x [] ws = d
  look_up d x (n ∷ ns) [] = d
  look_up d x (n ∷ ns) (w ∷ ws) = cond (x == n) w (look_up d x ns ws)

  -- The words with the newest binding of a name changed to v.
  abbrev pub store : ℕ → W → List ℕ → List W → List W
  store x v [] ws = ws
  store x v (n ∷ ns) [] = []
  store x v (n ∷ ns) (w ∷ ws) = cond (x == n) (v ∷ ws) (w ∷ store x v ns ws)

module _ {W : Type 0} (kind : Kind W) where
  -- A greater is literal 1 or literal 0.
  abbrev pub apply : Operator → W → W → W
  apply Sum x y = kind.sum x y
  apply Difference x y = kind.difference x y
  apply Greater x y = truth_word kind (kind.greater x y)

  -- The words of variables bound one after another on top of others, newest first.
  abbrev pub bind_words : List VariableDeclaration → List W → List W
  bind_words [] ws = ws
  bind_words (declare a x v ∷ ds) ws = bind_words ds (kind.literal v ∷ ws)

-- ---- states

-- The oldest n of a list that stands newest first.
abbrev pub oldest : {A : Type 0} → ℕ → List A → List A
oldest n xs = drop (length xs - n) xs

-- What is left behind where the newest are dropped, so that n stand.
abbrev pub left_behind : {A : Type 0} → ℕ → List A → List A → List A
left_behind n xs past = reverse_aux (take (length xs - n) xs) past

module _ {W : Type 0} where
  -- A state with other words, with other bays, or with other fuel.
  abbrev pub with_words : List W → State W → State W
  with_words ws σ = record {
    names = σ.names;
    words = ws;
    past_names = σ.past_names;
    past_words = σ.past_words;
    bays = σ.bays;
    fuel = σ.fuel;
  }

  abbrev pub with_bays : List W → State W → State W
  with_bays bs σ = record {
    names = σ.names;
    words = σ.words;
    past_names = σ.past_names;
    past_words = σ.past_words;
    bays = bs;
    fuel = σ.fuel;
  }

  abbrev pub with_fuel : ℕ → State W → State W
  with_fuel n σ = record {
    names = σ.names;
    words = σ.words;
    past_names = σ.past_names;
    past_words = σ.past_words;
    bays = σ.bays;
    fuel = n;
  }

  -- The bindings above those of an earlier state are dropped; they stay behind those that stand.
  abbrev pub drop_to : State W → State W → State W
  drop_to before σ = record {
    names = oldest (length before.names) σ.names;
    words = oldest (length before.words) σ.words;
    past_names = left_behind (length before.names) σ.names σ.past_names;
    past_words = left_behind (length before.words) σ.words σ.past_words;
    bays = σ.bays;
    fuel = σ.fuel;
  }

  -- Variables are bound on top, over what was left behind there.
  abbrev pub bind_variables : Kind W → List VariableDeclaration → State W → State W
  bind_variables kind ds σ = record {
    names = bind_names ds σ.names;
    words = bind_words kind ds σ.words;
    past_names = drop (length ds) σ.past_names;
    past_words = drop (length ds) σ.past_words;
    bays = σ.bays;
    fuel = σ.fuel;
  }

  -- Parameters are bound on top, to words that stand newest first.
  abbrev pub bind_parameters : List ℕ → List W → State W → State W
  bind_parameters parameters ws σ = record {
    names = reverse parameters ++ σ.names;
    words = ws ++ σ.words;
    past_names = drop (length parameters) σ.past_names;
    past_words = drop (length ws) σ.past_words;
    bays = σ.bays;
    fuel = σ.fuel;
  }

-- ---- one part after another

module _ {W : Type 0} where
  -- A part runs on the state that the part before it left, unless that one returned or ended the run.
  abbrev pub and_then : {A B : Type 0} → Outcome W A → (A → State W → Outcome W B) → Outcome W B
  and_then (value a σ) next = next a σ
  and_then (returned w σ) next = returned w σ
  and_then (ended e a σ) next = ended e a σ

  -- One of two runs, by a test.
  abbrev pub branch : {A : Type 0} → Bool → State W → (State W → Outcome W A) → (State W → Outcome W A) → Outcome W A
  branch true σ yes' no' = yes' σ
  branch false σ yes' no' = no' σ

  -- One fuel is spent, or there is none and the run ends at the place.
  abbrev pub spend_from : {A : Type 0} → ℕ → ℕ → State W → (State W → Outcome W A) → Outcome W A
  spend_from place zero σ next = ended NoFuel place σ
  spend_from place (suc n) σ next = next (with_fuel n σ)

  abbrev pub spend : {A : Type 0} → ℕ → State W → (State W → Outcome W A) → Outcome W A
  spend place σ next = spend_from place σ.fuel σ next

  -- A block is left: its locals are dropped, and its value is the word given.
  abbrev pub leave_block : W → State W → Outcome W W → Outcome W W
  leave_block word before (value w σ) = value word (drop_to before σ)
  leave_block word before (returned w σ) = returned w σ
  leave_block word before (ended e a σ) = ended e a σ

  -- A call is left: the bindings above the caller's are dropped; its value is the word returned, or else the one given.
  abbrev pub leave_call : W → State W → Outcome W W → Outcome W W
  leave_call word before (value w σ) = value word (drop_to before σ)
  leave_call word before (returned w σ) = value w (drop_to before σ)
  leave_call word before (ended e a σ) = ended e a σ

  -- What a bay answers ends the run at a place, or is the value.
  abbrev pub answered : ℕ → BayAnswer W → State W → Outcome W W
  answered place (gives w bays) σ = value w (with_bays bays σ)
  answered place (fails e) σ = ended e place σ

-- ---- the run of a part
-- `deep` runs a statement after one more fuel was spent: a while that begins over, and the body of a call.
-- `calls` is how many calls are open.

module _ {W : Type 0} (S : Setting W) (deep : ℕ → Statement → State W → Outcome W W) where
  -- A call's arguments have run, newest first. The depth is tested before the fuel.
  -- Of no function, which no accepted table calls, the value is literal 0.
  abbrev pub enter : ℕ → ℕ → Option Function → List W → State W → Outcome W W
  enter place calls None ws σ = value (zero_word S.kind) σ
  enter place calls (Some f) ws σ =
      branch (calls == S.depth) σ (λ σ. ended TooDeep place σ)
      (λ σ. spend place σ (λ σ.
      leave_call (zero_word S.kind) σ (deep (suc calls) f.body (bind_parameters f.parameters ws σ))))

  unfoldable mutual
    -- An expression comes to its word.
    pub run_expression : Expression → ℕ → State W → Outcome W W
    run_expression (constant a v) calls σ = value (S.kind.literal v) σ
    run_expression (variable a x) calls σ = value (look_up (zero_word S.kind) x σ.names σ.words) σ
    run_expression (binary a o e f) calls σ =
        and_then (run_expression e calls σ) (λ x σ. and_then (run_expression f calls σ) (λ y σ.
        value (apply S.kind o x y) σ))
    run_expression (assign a x e) calls σ =
        and_then (run_expression e calls σ) (λ w σ. value w (with_words (store x w σ.names σ.words) σ))
    run_expression (call a f es) calls σ =
        and_then (run_arguments es calls [] σ) (λ ws σ. enter a calls (function_named f S.functions) ws σ)
    run_expression (bay_read a e) calls σ =
        and_then (run_expression e calls σ) (λ x σ. answered a (read_bay σ.bays (S.kind.slot x)) σ)
    run_expression (bay_write a e f) calls σ =
        and_then (run_expression e calls σ) (λ x σ. and_then (run_expression f calls σ) (λ w σ.
        answered a (write_bay S.holds σ.bays (S.kind.slot x) w) σ))

    -- The words of arguments, on top of those that have run, newest first.
    pub run_arguments : Arguments → ℕ → List W → State W → Outcome W (List W)
    run_arguments no_argument calls ws σ = value ws σ
    run_arguments (argument e es) calls ws σ =
        and_then (run_expression e calls σ) (λ w σ. run_arguments es calls (w ∷ ws) σ)

  unfoldable mutual
    -- A statement comes to its word; a return leaves the innermost call.
    pub run_statement : Statement → ℕ → State W → Outcome W W
    run_statement (evaluate a e) calls σ = run_expression e calls σ
    run_statement (if_else a e s t) calls σ =
        and_then (run_expression e calls σ) (λ w σ.
        branch (S.kind.zero w) σ (λ σ. run_statement t calls σ) (λ σ. run_statement s calls σ))
    run_statement (while a e s) calls σ =
        spend a σ (λ σ. and_then (run_expression e calls σ) (λ w σ.
        branch (S.kind.zero w) σ (λ σ. value (zero_word S.kind) σ)
        (λ σ. and_then (run_statement s calls σ) (λ v σ. deep calls (while a e s) σ))))
    run_statement (give_back a e) calls σ = and_then (run_expression e calls σ) (λ w σ. returned w σ)
    run_statement (block a ds ss) calls σ =
        leave_block (zero_word S.kind) σ (run_statements ss calls (bind_variables S.kind ds σ))

    -- Statements run one after another.
    pub run_statements : Statements → ℕ → State W → Outcome W W
    run_statements no_statement calls σ = value (zero_word S.kind) σ
    run_statements (then s ss) calls σ = and_then (run_statement s calls σ) (λ w σ. run_statements ss calls σ)

-- ---- whole runs

module _ {W : Type 0} (S : Setting W) where
  -- The run of a statement by a clock: each fuel spent takes one off it, so a clock above the fuel never runs out.
  unfoldable pub clocked : ℕ → ℕ → Statement → State W → Outcome W W
  clocked zero calls s σ = ended NoFuel 0 σ
  clocked (suc clock) calls s σ = run_statement S (clocked clock) s calls σ

  -- The run of a statement with no call open.
  unfoldable pub run_main : Statement → State W → Outcome W W
  run_main s σ = run_statement S (clocked σ.fuel) s 0 σ

-- Nothing is bound yet. The lists lent are behind the bindings, whatever they hold.
abbrev pub unbound : {W : Type 0} → List ℕ → List W → List W → ℕ → State W
unbound names words bays fuel = record {
  names = [];
  words = [];
  past_names = names;
  past_words = words;
  bays = bays;
  fuel = fuel;
}

-- The setting of a program's run.
abbrev pub setting_of : {W : Type 0} → Kind W → (W → Bool) → Program → ℕ → Setting W
setting_of kind holds p depth = record { kind = kind; holds = holds; functions = functions_of p.declarations; depth = depth }

-- The run of a program: its globals are bound, then its statement runs.
abbrev pub run_program : {W : Type 0} → Kind W → (W → Bool) → Program → ℕ → State W → Outcome W W
run_program kind holds p depth σ =
    run_main (setting_of kind holds p depth) p.main (bind_variables kind (globals_of p) σ)
