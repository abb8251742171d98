-- The code of an expression: that of its parts, then the operation of its own record.
use Rattle.std.proofs.Common.{◌≡◌, ℕ, ◌+◌, T, List, [], ◌∷◌, ◌++◌, refl, ap, ◌∙◌, append_assoc, append-nil}
use Rattle.script.specs.declared.record.Record.{Record}
use Rattle.script.specs.declared.rows.Sort.TheVariants.{Expression as ExpressionSort}
use Rattle.script.specs.declared.rows.NodeKind.{NodeKind}
use Rattle.script.specs.Rows.{node_of, suits}
use Rattle.syntax.specs.Syntax.{Expression, constant, variable, binary, assign, call, bay_read, bay_write, Arguments}
use Rattle.syntax.specs.Syntax.{locate}
use Rattle.syntax.specs.Typed.{make_expression, expression_at, arguments_at}
use Rattle.syntax.proofs.NodeKinds.{row_for, by-expression}
use Rattle.syntax.proofs.Expressions.{parts_of, Expressed}
use Rattle.names.specs.declared.signature.Signature.{Signature}
use Rattle.code.specs.declared.instruction.Operation.TheVariants as operation
use Rattle.code.specs.declared.instruction.Instruction.{Instruction}
use Rattle.code.specs.Scheme.{op, operator_code, variable_code, function_index, expression_code, arguments_code}
use Rattle.translator.specs.Records.{record_operation}

module _ (globals : List ℕ) (functions : List Signature) (own : List ℕ) where
  -- The last instruction of an expression.
  abbrev last_of : Expression → Instruction
  last_of (constant a v) = op a (operation.Lit v)
  last_of (variable a x) = op a (variable_code operation.GetL operation.GetG (locate x own) (locate x globals))
  last_of (binary a o e f) = op a (operator_code o)
  last_of (assign a x e) = op a (variable_code operation.SetL operation.SetG (locate x own) (locate x globals))
  last_of (call a f es) = op a (operation.Call (function_index f functions))
  last_of (bay_read a e) = op a operation.BayR
  last_of (bay_write a e f) = op a operation.BayW

  by_parts : (e : Expression) →
      expression_code globals functions e own ≡ arguments_code globals functions (parts_of e) own ++ last_of e ∷ []
  by_parts (constant a v) = refl
  by_parts (variable a x) = refl
  by_parts (binary a o e f) = simp (append-nil, append_assoc)
  by_parts (assign a x e) = simp append-nil
  by_parts (call a f es) = refl
  by_parts (bay_read a e) = simp append-nil
  by_parts (bay_write a e f) = simp (append-nil, append_assoc)

  last-is : (at : ℕ) (r : Record) (es : Arguments) (q : NodeKind) → T (suits ExpressionSort (row_for q).sort) →
      last_of (make_expression q at r es) ≡ op at (record_operation globals functions own q r)
  last-is at r es =
      by-expression (λ q. last_of (make_expression q at r es) ≡ op at (record_operation globals functions own q r))
      refl refl (λ o. refl) refl refl refl refl

  pub expression-code : (table : List Record) (at n : ℕ) (r : Record) → Expressed table at n r →
      expression_code globals functions (expression_at table at) own
      ≡ arguments_code globals functions (arguments_at table (at + 1) n) own
      ++ op at (record_operation globals functions own (node_of r.kind) r) ∷ []
  expression-code table at n r p =
      let es : Arguments = arguments_at table (at + 1) n in
      by_parts (expression_at table at)
      ∙ (ap (λ (z : Arguments). arguments_code globals functions z own ++ last_of (expression_at table at) ∷ []) p.parts
      ∙ ap (λ (z : Instruction). arguments_code globals functions es own ++ z ∷ [])
      (ap last_of p.is ∙ last-is at r es (node_of r.kind) p.suits_it))
