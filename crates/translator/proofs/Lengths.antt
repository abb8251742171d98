-- An expression has one instruction a record; a statement has at most four a record, less one.
use Rattle.std.proofs.Common.{◌≡◌, ℕ, suc, ◌+◌, ◌*◌, ◌≤◌, List, [], ◌∷◌, reverse, length, refl, ap, arith, length-append}
use Rattle.script.specs.declared.record.Record.{Record}
use Rattle.syntax.specs.Syntax.{VariableDeclaration, declare, Expression, constant, variable, binary, assign, call}
use Rattle.syntax.specs.Syntax.{bay_read, bay_write, Arguments, no_argument, argument, Statement, evaluate, if_else}
use Rattle.syntax.specs.Syntax.{while, give_back, block, Statements, no_statement, then, Declaration, of_a_variable}
use Rattle.syntax.specs.Syntax.{of_a_function, bind_names, functions_of, global_names}
use Rattle.syntax.specs.Listing.{list_expression, list_arguments, list_variables, list_statement, list_statements}
use Rattle.syntax.specs.Listing.{list_declaration, list_declarations}
use Rattle.names.specs.declared.signature.Signature.{Signature}
use Rattle.code.specs.declared.instruction.Operation.{Operation}
use Rattle.code.specs.declared.instruction.Operation.TheVariants.{Ret, Halt}
use Rattle.code.specs.declared.instruction.Instruction.{Instruction}
use Rattle.code.specs.Scheme.{expression_code, arguments_code, statement_code, block_code, push_locals, pop_locals}
use Rattle.code.specs.Scheme.{functions_code, signatures_of}
use Rattle.translator.specs.Length.{AtMostFourARecord}

pushes : (a : ℕ) (ds : List VariableDeclaration) → length (push_locals a ds) ≡ length (list_variables ds)
pushes a [] = refl
pushes a (declare b x v ∷ ds) = ap suc (pushes a ds)

pops : (a : ℕ) (ds : List VariableDeclaration) → length (pop_locals a ds) ≡ length (list_variables ds)
pops a [] = refl
pops a (declare b x v ∷ ds) = ap suc (pops a ds)

some-record : (e : Expression) → 1 ≤ length (list_expression e)
some-record (constant a v) = omega arith
some-record (variable a x) = omega arith
some-record (binary a o e f) = omega arith
some-record (assign a x e) = omega arith
some-record (call a f es) = omega arith
some-record (bay_read a e) = omega arith
some-record (bay_write a e f) = omega arith

module _ (globals : List ℕ) (functions : List Signature) where
  mutual
    expression-length : (e : Expression) (own : List ℕ) →
        length (expression_code globals functions e own) ≡ length (list_expression e)
    expression-length (constant a v) own = refl
    expression-length (variable a x) own = refl
    expression-length (binary a o e f) own =
        omega (arith, length-append {A = Instruction}, length-append {A = Record}, expression-length e own, expression-length f own)
    expression-length (assign a x e) own = omega (arith, length-append {A = Instruction}, expression-length e own)
    expression-length (call a f es) own = omega (arith, length-append {A = Instruction}, arguments-length es own)
    expression-length (bay_read a e) own = omega (arith, length-append {A = Instruction}, expression-length e own)
    expression-length (bay_write a e f) own =
        omega (arith, length-append {A = Instruction}, length-append {A = Record}, expression-length e own, expression-length f own)

    arguments-length : (es : Arguments) (own : List ℕ) →
        length (arguments_code globals functions es own) ≡ length (list_arguments es)
    arguments-length no_argument own = refl
    arguments-length (argument e es) own =
        omega (arith, length-append {A = Instruction}, length-append {A = Record}, expression-length e own, arguments-length es own)

  module _ (leave : Operation) where
    mutual
      statement-length : (s : Statement) (own : List ℕ) (start : ℕ) →
          length (statement_code globals functions leave s own start) + 1 ≤ 4 * length (list_statement s)
      statement-length (evaluate a e) own start = omega (arith, expression-length e own)
      statement-length (if_else a e s t) own start =
          omega (
            arith,
            length-append {A = Instruction},
            length-append {A = Record},
            expression-length e own,
            statement-length s own,
            statement-length t own,
          )
      statement-length (while a e s) own start =
          omega (
            arith,
            length-append {A = Instruction},
            length-append {A = Record},
            expression-length e own,
            some-record e,
            statement-length s own,
          )
      statement-length (give_back a e) own start = omega (arith, length-append {A = Instruction}, expression-length e own)
      statement-length (block a ds ss) own start =
          omega (
            arith,
            length-append {A = Instruction},
            length-append {A = Record},
            pushes a ds,
            pops a ds,
            block-length ss (bind_names ds own) a,
          )

      block-length : (ss : Statements) (own : List ℕ) (a start : ℕ) →
          length (block_code globals functions leave ss own a start) ≤ 4 * length (list_statements ss)
      block-length no_statement own a start = omega arith
      block-length (then s ss) own a start =
          omega (
            arith,
            length-append {A = Instruction},
            length-append {A = Record},
            statement-length s own,
            block-length ss own a,
          )

  functions-length : (ds : List Declaration) (start : ℕ) →
      length (functions_code globals functions (functions_of ds) start) ≤ 4 * length (list_declarations ds)
  functions-length [] start = omega arith
  functions-length (of_a_variable (declare a x v) ∷ ds) start = omega (arith, functions-length ds start)
  functions-length (of_a_function f ∷ ds) start =
      omega (
        arith,
        length-append {A = Instruction},
        length-append {A = Record},
        length-append (list_declaration (of_a_function f)) (list_declarations ds),
        statement-length Ret f.body (reverse f.parameters),
        functions-length ds,
      )

pub at-most-four-a-record : AtMostFourARecord
at-most-four-a-record p =
    omega (
      arith,
      length-append {A = Instruction},
      length-append {A = Record},
      statement-length (global_names p) (signatures_of p) Halt p.main [],
      functions-length (global_names p) (signatures_of p) p.declarations,
    )
