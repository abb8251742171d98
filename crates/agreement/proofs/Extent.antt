-- A part's code ends no earlier than it begins, and every part needs a word.
use Rattle.std.proofs.Common.{◌≡◌, ℕ, suc, ◌+◌, ◌<◌, ◌≤◌, List, [], ◌∷◌, length, arith}
use Rattle.syntax.specs.Syntax.{VariableDeclaration, declare, Expression, constant, variable, binary, assign, call}
use Rattle.syntax.specs.Syntax.{bay_read, bay_write}
use Rattle.syntax.specs.Syntax.{Arguments, no_argument, argument, Statement, evaluate, if_else, while, give_back, block}
use Rattle.syntax.specs.Syntax.{Statements, no_statement, then}
use Rattle.names.specs.Need.{need_expression, need_statement}
use Rattle.code.specs.declared.instruction.Operation.{Operation}
use Rattle.agreement.proofs.Scene.{Scene}
use Rattle.agreement.proofs.Placed.{PlacedPushes, PlacedPops, PlacedExpression, PlacedArguments, PlacedStatement}
use Rattle.agreement.proofs.Placed.{PlacedStatements}

module _ {W : Type 0} (S : Scene W) where
  pub extent_pushes : (b : ℕ) (ds : List VariableDeclaration) (p q : ℕ) → PlacedPushes S b ds p q → q ≡ length ds + p
  extent_pushes b [] p q h = omega arith
  extent_pushes b (declare a x v ∷ ds) p q h = omega (arith, extent_pushes b ds (suc p) q h.1)

  pub extent_pops : (a : ℕ) (ds : List VariableDeclaration) (p q : ℕ) → PlacedPops S a ds p q → q ≡ length ds + p
  extent_pops a [] p q h = omega arith
  extent_pops a (d ∷ ds) p q h = omega (arith, extent_pops a ds (suc p) q h.1)

  mutual
    pub extent_expression : (e : Expression) (own : List ℕ) (p q : ℕ) → PlacedExpression S e own p q → p < q
    extent_expression (constant a v) own p q h = omega (arith, h.1)
    extent_expression (variable a x) own p q h = omega (arith, h.1)
    extent_expression (binary a o e f) own p q (i, j, x, y, z, l) =
        omega (arith, extent_expression e own p i x, extent_expression f own i j y)
    extent_expression (assign a x e) own p q (i, y, z, l) = omega (arith, extent_expression e own p i y)
    extent_expression (call a f es) own p q (F, k, i, x, x₂, y, z, w, l) =
        omega (arith, extent_arguments es own p i z)
    extent_expression (bay_read a e) own p q (i, x, z, l) = omega (arith, extent_expression e own p i x)
    extent_expression (bay_write a e f) own p q (i, j, x, y, z, l) =
        omega (arith, extent_expression e own p i x, extent_expression f own i j y)

    pub extent_arguments : (e : Arguments) (own : List ℕ) (p q : ℕ) → PlacedArguments S e own p q → p ≤ q
    extent_arguments no_argument own p q h = omega arith
    extent_arguments (argument e es) own p q (i, x, y) =
        omega (arith, extent_expression e own p i x, extent_arguments es own i q y)

  module _ (leave : Operation) where
    mutual
      pub extent_statement : (e : Statement) (own : List ℕ) (p q : ℕ) → PlacedStatement S leave e own p q → p < q
      extent_statement (evaluate a e) own p q h = extent_expression e own p q h
      extent_statement (if_else a e s t) own p q (i, j, x, y, z, w, v) =
          omega (
            arith,
            extent_expression e own p i x,
            extent_statement s own (suc i) j z,
            extent_statement t own (suc j) q v,
          )
      extent_statement (while a e s) own p q (i, j, x, y, z, w, v, v₂, v₃, l) =
          omega (arith, extent_expression e own (suc p) i y, extent_statement s own (suc i) j w)
      extent_statement (give_back a e) own p q (i, x, y, l) = omega (arith, extent_expression e own p i x)
      extent_statement (block a ds ss) own p q (i, j, k, x, y, z, w, v, l) =
          omega (arith, extent_pushes a ds p i y, extent_statements ss _ a i j z, extent_pops a ds j k w)

      pub extent_statements : (e : Statements) (own : List ℕ) (a p q : ℕ) → PlacedStatements S leave e own a p q
          → p ≤ q
      extent_statements no_statement own a p q h = omega arith
      extent_statements (then s ss) own a p q (i, x, y, z) =
          omega (arith, extent_statement s own p i x, extent_statements ss own a (suc i) q z)

pub needs_one : (e : Expression) → 1 ≤ need_expression e
needs_one (constant a v) = omega arith
needs_one (variable a x) = omega arith
needs_one (binary a o e f) = omega (arith, needs_one e)
needs_one (assign a x e) = needs_one e
needs_one (call a f es) = omega arith
needs_one (bay_read a e) = needs_one e
needs_one (bay_write a e f) = omega (arith, needs_one e)

pub needs_one_word : (s : Statement) → 1 ≤ need_statement s
needs_one_word (evaluate a e) = needs_one e
needs_one_word (if_else a e s t) = omega (arith, needs_one e)
needs_one_word (while a e s) = omega (arith, needs_one e)
needs_one_word (give_back a e) = needs_one e
needs_one_word (block a ds ss) = omega arith
