-- The code scheme: the code of each node, made of its parts' code. Every instruction of a node's own has the place of
-- the node. Then what else is kept of a program beside its code.
use Rattle.std.specs.Prelude.{ℕ, suc, ◌+◌, cond, List, [], ◌∷◌, ◌++◌, map, reverse, length, ℤ, pos, Some, None, Option, ◌==◌}
use Rattle.script.specs.declared.rows.Operator.{Operator}
use Rattle.script.specs.declared.rows.Operator.TheVariants.{Sum, Difference, Greater}
use Rattle.syntax.specs.Syntax.{VariableDeclaration, declare, Expression, constant, variable, binary, assign, call}
use Rattle.syntax.specs.Syntax.{bay_read, bay_write}
use Rattle.syntax.specs.Syntax.{Arguments, no_argument, argument, Statement, evaluate, if_else, while, give_back, block}
use Rattle.syntax.specs.Syntax.{Statements, no_statement, then, Function, Program, bind_names, functions_of}
use Rattle.syntax.specs.Syntax.{globals_of, global_names, number_of, locate}
use Rattle.names.specs.declared.signature.Signature.{Signature}
use Rattle.names.specs.Names.{signature}
use Rattle.code.specs.declared.instruction.Operation.{Operation}
use Rattle.code.specs.declared.instruction.Operation.TheVariants.{Lit, GetL, SetL, GetG, SetG, Add, Sub, Gt, Pop}
use Rattle.code.specs.declared.instruction.Operation.TheVariants.{Jz, Jmp, Tick, Call, Ret, BayR, BayW, Halt}
use Rattle.code.specs.declared.instruction.Instruction.{Instruction}
use Rattle.code.specs.declared.instruction.FunctionEntry.{FunctionEntry}

-- An operation of the node at place a.
abbrev pub op : ℕ → Operation → Instruction
op a o = record { operation = o; place = a }

-- The operation that an operator is, on the words of both parts.
abbrev pub operator_code : Operator → Operation
operator_code Sum = Add
operator_code Difference = Sub
operator_code Greater = Gt

-- The operation on a variable, by its slot among the frame's names or else among the globals.
-- Of no variable, which no accepted table names, it is POP.
abbrev pub variable_code : (ℕ → Operation) → (ℕ → Operation) → Option ℕ → Option ℕ → Operation
variable_code local global (Some k) o = local k
variable_code local global None (Some k) = global k
variable_code local global None None = Pop

-- How many functions stand before the first of a name; all of them where there is none.
abbrev pub function_index : ℕ → List Signature → ℕ
function_index x [] = 0
function_index x (f ∷ fs) = cond (x == f.name) 0 (suc (function_index x fs))

-- A block at the place a pushes the first words of its locals,
abbrev pub push_locals : ℕ → List VariableDeclaration → List Instruction
push_locals a [] = []
push_locals a (declare b x v ∷ ds) = op a (Lit v) ∷ push_locals a ds

-- and pops them at its end.
abbrev pub pop_locals : ℕ → List VariableDeclaration → List Instruction
pop_locals a [] = []
pop_locals a (d ∷ ds) = op a Pop ∷ pop_locals a ds

-- Under the global names, newest first, and the functions in order. `own` are the names of the frame, newest first:
-- parameters, then the locals that are live.
module _ (globals : List ℕ) (functions : List Signature) where
  abbrev mutual
    -- An expression's code leaves its word on the stack.
    pub expression_code : Expression → List ℕ → List Instruction
    expression_code (constant a v) own = op a (Lit v) ∷ []
    expression_code (variable a x) own = op a (variable_code GetL GetG (locate x own) (locate x globals)) ∷ []
    expression_code (binary a o e f) own = expression_code e own ++ (expression_code f own ++ (op a (operator_code o) ∷ []))
    expression_code (assign a x e) own =
        expression_code e own ++ (op a (variable_code SetL SetG (locate x own) (locate x globals)) ∷ [])
    expression_code (call a f es) own = arguments_code es own ++ (op a (Call (function_index f functions)) ∷ [])
    expression_code (bay_read a e) own = expression_code e own ++ (op a BayR ∷ [])
    expression_code (bay_write a e f) own = expression_code e own ++ (expression_code f own ++ (op a BayW ∷ []))

    -- Arguments leave a word each, in their order.
    pub arguments_code : Arguments → List ℕ → List Instruction
    arguments_code no_argument own = []
    arguments_code (argument e es) own = expression_code e own ++ arguments_code es own

  -- A statement's code has jumps, so it depends on the index `start` at which it begins. A return ends with `leave`:
  -- RET in a function, HALT in main.
  module _ (leave : Operation) where
    abbrev mutual
      -- A statement's code leaves a word too. The code of an if and of a while jumps over what is not to be run.
      pub statement_code : Statement → List ℕ → ℕ → List Instruction
      statement_code (evaluate a e) own start = expression_code e own
      statement_code (if_else a e s t) own start =
          let test = expression_code e own in
          let first = statement_code s own (suc (start + length test)) in
          let second = suc (suc (start + length test) + length first) in
          let other = statement_code t own second in
          let end = second + length other in
          test ++ (op a (Jz second) ∷ (first ++ (op a (Jmp end) ∷ other)))
      statement_code (while a e s) own start =
          let test = expression_code e own in
          let body = statement_code s own (suc (suc start + length test)) in
          let end = suc (suc (suc (suc start + length test) + length body)) in
          op a Tick
          ∷ (test ++ (op a (Jz end) ∷ (body ++ (op a Pop ∷ op a (Jmp start) ∷ op a (Lit (pos 0)) ∷ []))))
      statement_code (give_back a e) own start = expression_code e own ++ (op a leave ∷ [])
      statement_code (block a ds ss) own start =
          push_locals a ds
          ++ (block_code ss (bind_names ds own) a (start + length ds) ++ (pop_locals a ds ++ (op a (Lit (pos 0)) ∷ [])))

      -- The statements of the block at `a`, from `start` on: each leaves a word, which is popped.
      pub block_code : Statements → List ℕ → ℕ → ℕ → List Instruction
      block_code no_statement own a start = []
      block_code (then s ss) own a start =
          let first = statement_code s own start in
          first ++ (op a Pop ∷ block_code ss own a (suc (start + length first)))

  -- A body that comes to its end without a return gives literal 0.
  abbrev pub function_code : Function → ℕ → List Instruction
  function_code f start =
      statement_code Ret f.body (reverse f.parameters) start
      ++ (op f.place Pop ∷ op f.place (Lit (pos 0)) ∷ op f.place Ret ∷ [])

  -- The functions' code, one after another, from `start` on.
  abbrev pub functions_code : List Function → ℕ → List Instruction
  functions_code [] start = []
  functions_code (f ∷ fs) start =
      let first = function_code f start in
      first ++ functions_code fs (start + length first)

  -- Where each begins, and how many parameters it has.
  abbrev pub entries_from : List Function → ℕ → List FunctionEntry
  entries_from [] start = []
  entries_from (f ∷ fs) start =
      record { start = start; parameters = length f.parameters }
      ∷ entries_from fs (start + length (function_code f start))

-- The functions of a program as their calls know them.
abbrev pub signatures_of : Program → List Signature
signatures_of p = map signature (functions_of p.declarations)

-- The code of the main statement, which begins at instruction 0 and has no names of its own.
abbrev pub main_code : Program → List Instruction
main_code p = statement_code (global_names p) (signatures_of p) Halt p.main [] 0

-- A program's code: main's, a closing HALT at place 0, and the functions'.
abbrev pub program_code : Program → List Instruction
program_code p =
    main_code p
    ++ (op 0 Halt
    ∷ functions_code (global_names p) (signatures_of p) (functions_of p.declarations) (suc (length (main_code p))))

-- Where each function's code begins in the program's, in the order of the functions.
abbrev pub function_entries : Program → List FunctionEntry
function_entries p =
    entries_from (global_names p) (signatures_of p) (functions_of p.declarations) (suc (length (main_code p)))

-- The first numbers of a program's globals, in order.
abbrev pub global_numbers : Program → List ℤ
global_numbers p = map number_of (globals_of p)

-- How many globals a program has.
abbrev pub global_count : Program → ℕ
global_count p = length (globals_of p)
