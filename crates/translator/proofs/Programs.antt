-- The code of functions and of a program, put down piece by piece, with the entries and the numbers of the globals.
use Rattle.std.proofs.Common.{◌≡◌, ℕ, suc, ◌+◌, List, [], ◌∷◌, ◌++◌, map, reverse, length, ℤ, pos, refl, ap, ◌∙◌, append_assoc, arith, length-append}
use Rattle.syntax.specs.Syntax.{declare, Statement, Function, Declaration, of_a_variable, of_a_function, Program, number_of}
use Rattle.syntax.specs.Syntax.{variables_of, functions_of, global_names, globals_of, name_of}
use Rattle.syntax.proofs.Statements.{bound}
use Rattle.names.specs.declared.signature.Signature.{Signature}
use Rattle.names.specs.Names.{signature}
use Rattle.code.specs.declared.instruction.Operation.TheVariants.{Lit, Pop, Ret, Halt}
use Rattle.code.specs.declared.instruction.Instruction.{Instruction}
use Rattle.code.specs.declared.instruction.FunctionEntry.{FunctionEntry}
use Rattle.code.specs.Scheme.{op, statement_code, function_code, functions_code, entries_from, program_code}
use Rattle.code.specs.Scheme.{function_entries, global_numbers}
use Rattle.translator.specs.Records.{entry_of}
use Rattle.translator.specs.Translations.{Held, translation_of}

module _ (globals : List ℕ) (functions : List Signature) where
  -- A function f, known as g: its body, then POP, LIT 0 and RET.
  pub function-code : (f g : Function) (before body popped zeroed all : List Instruction) (own : List ℕ) (start : ℕ) →
      f ≡ g → own ≡ reverse g.parameters →
      body ≡ before ++ statement_code globals functions Ret g.body own start →
      popped ≡ body ++ op g.place Pop ∷ [] → zeroed ≡ popped ++ op g.place (Lit (pos 0)) ∷ [] →
      all ≡ zeroed ++ op g.place Ret ∷ [] → all ≡ before ++ function_code globals functions f start
  function-code f g before body popped zeroed all own start e d e₁ e₂ e₃ e₄ =
      rw (e, ← d) (e₄ ∙ rw (e₃, e₂, e₁) (simp append_assoc))

  -- A function first, then the other declarations.
  module _ (ds es : List Declaration) (f : Function) (first : ds ≡ of_a_function f ∷ es) (before one : List Instruction)
      (start rest : ℕ) (l₀ : length before ≡ start) (l₁ : length one ≡ rest)
      (e₁ : one ≡ before ++ function_code globals functions f start) where
    rest-is : start + length (function_code globals functions f start) ≡ rest
    rest-is = omega (arith, ap length e₁, length-append before (function_code globals functions f start))

    pub functions-code : (all : List Instruction) → all ≡ one ++ functions_code globals functions (functions_of es) rest →
        all ≡ before ++ functions_code globals functions (functions_of ds) start
    functions-code all e₂ =
        rw (first, rest-is)
        (e₂
        ∙ rw e₁ (append_assoc before (function_code globals functions f start)
        (functions_code globals functions (functions_of es) rest)))

    pub functions-entries : (y y₁ y₂ : List FunctionEntry) → y₁ ≡ y ++ entry_of start f ∷ [] →
        y₂ ≡ y₁ ++ entries_from globals functions (functions_of es) rest →
        y₂ ≡ y ++ entries_from globals functions (functions_of ds) start
    functions-entries y y₁ y₂ f₁ f₂ =
        rw (first, rest-is)
        (f₂ ∙ rw f₁ (append_assoc y (entry_of start f ∷ []) (entries_from globals functions (functions_of es) rest)))

-- A variable first, then the other declarations.
pub first-number : (ds es : List Declaration) (a x : ℕ) (v : ℤ) (before one all : List ℤ) →
    ds ≡ of_a_variable (declare a x v) ∷ es → one ≡ before ++ v ∷ [] → all ≡ one ++ map number_of (variables_of es) →
    all ≡ before ++ map number_of (variables_of ds)
first-number ds es a x v before one all first p q =
    q ∙ rw (p, first) (append_assoc before (v ∷ []) (map number_of (variables_of es)))

-- A whole program p of declarations ds and statement s: the names and the signatures it is translated under, and the
-- code up to its HALT.
module _ (p : Program) (ds : List Declaration) (s : Statement) (is : p ≡ record { declarations = ds; main = s })
    (names : List ℕ) (functions : List Signature) (variables : names ≡ map name_of (globals_of p))
    (signatures : functions ≡ map signature (functions_of p.declarations))
    (scope : List ℕ) (empty : scope ≡ []) (before main halted : List Instruction) (start rest : ℕ)
    (nothing : before ≡ []) (at_zero : start ≡ 0) (l₂ : length halted ≡ rest)
    (e₁ : main ≡ before ++ statement_code (reverse names) functions Halt s (reverse scope) start)
    (e₂ : halted ≡ main ++ op 0 Halt ∷ []) where
  globals-are : reverse names ≡ global_names p
  globals-are = ap reverse variables ∙ bound (globals_of p) []

  own_code : List Instruction
  own_code = statement_code (global_names p) (map signature (functions_of p.declarations)) Halt p.main [] 0

  main-is : main ≡ own_code
  unfolding own_code
  main-is = e₁ ∙ rw (nothing, empty, at_zero, globals-are, signatures, is) refl

  rest-is-main : rest ≡ suc (length own_code)
  rest-is-main = omega (arith, ap length e₂, length-append main (op 0 Halt ∷ []), ap length main-is)

  code-is : (all : List Instruction) →
      all ≡ halted ++ functions_code (reverse names) functions (functions_of ds) rest → all ≡ program_code p
  unfolding own_code
  code-is all e₃ =
      e₃
      ∙ rw (e₂, main-is, rest-is-main, globals-are, signatures)
      (append_assoc own_code (op 0 Halt ∷ []) _ ∙ rw is refl)

  entries-are : (y z : List FunctionEntry) → y ≡ [] →
      z ≡ y ++ entries_from (reverse names) functions (functions_of ds) rest → z ≡ function_entries p
  unfolding own_code
  entries-are y z e f = f ∙ rw (e, rest-is-main, globals-are, signatures) (rw is refl)

  numbers-are : (y z : List ℤ) → y ≡ [] → z ≡ y ++ map number_of (variables_of ds) → z ≡ global_numbers p
  numbers-are y z e f = f ∙ rw (e, is) refl

  pub program-made : (all : List Instruction) (y entries : List FunctionEntry) (u numbers : List ℤ) →
      all ≡ halted ++ functions_code (reverse names) functions (functions_of ds) rest →
      y ≡ [] → entries ≡ y ++ entries_from (reverse names) functions (functions_of ds) rest →
      u ≡ [] → numbers ≡ u ++ map number_of (variables_of ds) → let made : Held = record { code = all; entries = entries; globals = numbers } in made ≡ translation_of p
  program-made all y entries u numbers e f g h i =
      cc (code-is all e, entries-are y entries f g, numbers-are u numbers h i)
