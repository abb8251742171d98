-- What each pass over the records of a table answers: the refusal of the rules, or the index after what it has read.
-- Names in scope and global names stand oldest first here, as the passes keep them.
use Rattle.std.specs.Prelude.{◌≡◌, ℕ, ◌+◌, ◌≤◌, Bool, List, reverse, Ok, Err, Result, OnOk}
use Rattle.stack.specs.declared.Stack.{Stack}
use Rattle.stack.specs.Store.{contents, capacity}
use Rattle.script.specs.declared.record.Record.{Record}
use Rattle.script.specs.declared.refusal.Refusal.{Refusal}
use Rattle.script.specs.declared.refusal.Refusal.TheVariants.{Undeclared}
use Rattle.script.specs.declared.rows.NodeKind.{NodeKind}
use Rattle.script.specs.declared.rows.NodeKind.TheVariants as is
use Rattle.script.specs.Refusals.{unless}
use Rattle.syntax.specs.Trees.{tree_at, pieces, size, sizes}
use Rattle.syntax.specs.Syntax.{functions_of}
use Rattle.syntax.specs.Typed.{expression_at, arguments_at, statement_at, statements_at, variables_at, declarations_at}
use Rattle.syntax.specs.Typed.{first_parts}
use Rattle.names.specs.declared.context.Context.{Context}
use Rattle.names.specs.declared.declared.Declared.{Declared}
use Rattle.names.specs.declared.signature.Signature.{Signature}
use Rattle.names.specs.declared.frame.Measured.{Measured}
use Rattle.names.specs.Need.{need_functions}
use Rattle.names.specs.Names.{Answer, global_rules, function_rules, declared, call_rule, expression_rules}
use Rattle.names.specs.Names.{argument_rules, local_rules, statement_rules, block_rules}

-- The answer of a rule, with a value where the rule is met.
abbrev pub outcome : {A : Type 0} → Answer → A → Result A Refusal
outcome (Ok u) x = Ok x
outcome (Err e) x = Err e

-- The rule of an expression's own record, by what the record is.
abbrev pub record_rule : List ℕ → List Signature → List ℕ → NodeKind → Record → ℕ → Answer
record_rule globals functions own is.Variable r at = unless (declared globals r.a own) (Undeclared at)
record_rule globals functions own is.Assignment r at = unless (declared globals r.a own) (Undeclared at)
record_rule globals functions own is.Call r at = call_rule r.a functions (first_parts r) at
record_rule globals functions own _ r at = Ok tt

-- Under what a program declares.
module _ (c : Context) where
  -- Is a name one of the scope's or of the globals'.
  abbrev pub known : ℕ → List ℕ → Bool
  known x scope = declared (reverse c.globals.now) x (reverse scope)

  -- The expression at an index, and `count` arguments from there on.
  abbrev pub checked_expression : ℕ → List ℕ → Result ℕ Refusal
  checked_expression at scope =
      outcome (expression_rules (reverse c.globals.now) c.functions.now (expression_at c.table.records.now at) (reverse scope))
      (at + size (tree_at c.table.records.now at))

  abbrev pub checked_arguments : ℕ → ℕ → List ℕ → Result ℕ Refusal
  checked_arguments count at scope =
      outcome
      (argument_rules (reverse c.globals.now) c.functions.now (arguments_at c.table.records.now at count) (reverse scope))
      (at + sizes (pieces c.table.records.now at count))

  -- `count` declarations of locals or parameters, a record each.
  abbrev pub checked_locals : ℕ → ℕ → List ℕ → Result ℕ Refusal
  checked_locals count at scope =
      outcome (local_rules (reverse c.globals.now) (variables_at c.table.records.now at count) (reverse scope)) (at + count)

  -- The statement at an index, and `count` statements from there on.
  abbrev pub checked_statement : ℕ → List ℕ → Result ℕ Refusal
  checked_statement at scope =
      outcome (statement_rules (reverse c.globals.now) c.functions.now (statement_at c.table.records.now at) (reverse scope))
      (at + size (tree_at c.table.records.now at))

  abbrev pub checked_statements : ℕ → ℕ → List ℕ → Result ℕ Refusal
  checked_statements count at scope =
      outcome
      (block_rules (reverse c.globals.now) c.functions.now (statements_at c.table.records.now at count) (reverse scope))
      (at + sizes (pieces c.table.records.now at count))

  -- Parameters and bodies of the functions among `count` global declarations.
  abbrev pub checked_functions : ℕ → ℕ → Result ℕ Refusal
  checked_functions count at =
      outcome
      (function_rules (reverse c.globals.now) c.functions.now (functions_of (declarations_at c.table.records.now at count)))
      (at + sizes (pieces c.table.records.now at count))

-- What a pass leaves of the scope: the room of its store and, where it goes on, the names and their number.
pub record Kept (result : Result ℕ Refusal) (before after : Stack ℕ) : Type 0 where
  pub names : OnOk result (contents after ≡ contents before)
  pub height : OnOk result (after.height ≡ before.height)
  pub store : capacity after ≡ capacity before

-- A stack onto which at most one word went: its lender and the room of its store are as before.
pub record Grown {T : Type 0} (before after : Stack T) : Type 0 where
  pub lender : after.words.ghost_name ≡ before.words.ghost_name
  pub height : after.height ≤ before.height + 1
  pub store : capacity after ≡ capacity before

-- What a program declares lies in the same arrays as before.
pub record SameLenders (before after : Declared) : Type 0 where
  pub globals : after.globals.words.ghost_name ≡ before.globals.words.ghost_name
  pub functions : after.functions.words.ghost_name ≡ before.functions.words.ghost_name

-- `count` global declarations: the largest need of the functions among them, and the index after them.
abbrev pub checked_globals : List Record → ℕ → ℕ → List ℕ → List Signature → Result Measured Refusal
checked_globals table count at globals functions =
    outcome (global_rules (declarations_at table at count) (reverse globals) functions) record {
      words = need_functions (functions_of (declarations_at table at count));
      next = at + sizes (pieces table at count);
    }
