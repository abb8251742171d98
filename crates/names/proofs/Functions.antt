-- The rules of the functions' parameters and bodies, one function after another.
use Rattle.std.proofs.Common.{◌≡◌, ℕ, zero, suc, ◌+◌, ◌-◌, ◌<◌, not, List, [], ◌∷◌, ◌++◌, map, reverse, get_or, Ok, Err, Result, sym, refl, ap, ◌∙◌, add-one, arith}
use Rattle.script.specs.declared.rows.Sort.TheVariants.{Declaration as DeclarationSort}
use Rattle.script.specs.declared.record.Record.{Record}
use Rattle.script.specs.declared.refusal.Refusal.{Refusal}
use Rattle.script.specs.declared.refusal.Refusal.TheVariants.{DeclaredTwice}
use Rattle.script.specs.Refusals.{unless}
use Rattle.syntax.specs.Syntax.{VariableDeclaration, declare, Declaration, of_a_variable, of_a_function, name_of}
use Rattle.syntax.specs.Syntax.{functions_of}
use Rattle.syntax.specs.Trees.{Tree, tree_at, pieces, size, sizes, Leaves, no_record, Parts}
use Rattle.syntax.specs.Typed.{variables_at, statement_at, declarations_at, make_declaration, node_kind}
use Rattle.names.specs.declared.context.Context.{Context}
use Rattle.syntax.proofs.Statements.{declared-first}
use Rattle.syntax.proofs.Declarations.{FirstFunction}
use Rattle.names.specs.declared.signature.Signature.{Signature}
use Rattle.names.specs.Names.{Answer, ◌⨟◌, declared, local_rules, parameter_rules, statement_rules, function_rules}
use Rattle.names.specs.Passes.{outcome, checked_locals, checked_statement, checked_functions}
use Rattle.names.proofs.Outcomes.{last, refused, regroup, went}
use Rattle.names.proofs.Several.{first}

-- Parameters are declared as locals are.
as-locals : (globals : List ℕ) (table : List Record) (at n : ℕ) (own : List ℕ) → Leaves n (pieces table at n) →
    parameter_rules globals (map name_of (variables_at table at n)) at own
    ≡ local_rules globals (variables_at table at n) own
as-locals globals table at zero own s = refl
as-locals globals table at (suc n) own s =
    let r : Record = get_or table at no_record in
    let e : suc n - 1 ≡ n = omega arith in
    let p = declared-first table at (suc n) no_record (omega arith) s in
    let o : Leaves n (pieces table (at + 1) n) = rw e at p.others in
    let ds : List VariableDeclaration = variables_at table (at + 1) n in
    let x : variables_at table at (suc n) ≡ declare at r.a r.v ∷ ds = rw e at p.is in
    let h : parameter_rules globals (map name_of ds) (suc at) (r.a ∷ own) ≡ local_rules globals ds (r.a ∷ own) =
    ap (λ (y : ℕ). parameter_rules globals (map name_of ds) y (r.a ∷ own)) (sym (add-one at))
    ∙ as-locals globals table (at + 1) n (r.a ∷ own) o in
    rw x (ap (λ (z : Answer). unless (not (declared globals r.a own)) (DeclaredTwice at) ⨟ z) h)

-- The parameters of the function at an index, declared on an empty scope.
pub parameters-as-locals : (globals : List ℕ) (table : List Record) (at n : ℕ) (scope : List ℕ) → Leaves n
    (pieces table (at + 1) n) → scope ≡ [] →
    parameter_rules globals (map name_of (variables_at table (at + 1) n)) (suc at) []
    ≡ local_rules globals (variables_at table (at + 1) n) (reverse scope)
parameters-as-locals globals table at n scope s e =
    ap (λ (y : ℕ). parameter_rules globals (map name_of (variables_at table (at + 1) n)) y []) (sym (add-one at))
    ∙ (as-locals globals table (at + 1) n [] s
    ∙ ap (λ (l : List ℕ). local_rules globals (variables_at table (at + 1) n) (reverse l)) (sym e))

-- A function alone, whose parameters are declared on an empty scope.
module _ (c : Context) (at n m e : ℕ) (r : Record) (p : FirstFunction c.table.records.now at 1 n m e r) (scope : List ℕ)
    (none : scope ≡ []) where
  abbrev xs : List VariableDeclaration
  xs = variables_at c.table.records.now (at + 1) n

  abbrev parameters : Answer
  parameters = local_rules (reverse c.globals.now) xs (reverse scope)

  abbrev body : Answer
  body = statement_rules (reverse c.globals.now) c.functions.now (statement_at c.table.records.now m) (reverse (map name_of xs))

  same : parameter_rules (reverse c.globals.now) (map name_of xs) (suc at) [] ≡ parameters
  same = parameters-as-locals (reverse c.globals.now) c.table.records.now at n scope p.function.parameters none

  pub parameters-refused : (y : Refusal) → Err y ≡ checked_locals c n (at + 1) scope → Err y ≡ checked_functions c 1 at
  parameters-refused y h = rw (p.is, same) (refused parameters (body ⨟ Ok tt) _ _ y h)

  pub function-answered : (inner : List ℕ) (out : Result ℕ Refusal) → e ≡ m + size (tree_at c.table.records.now m) →
      Ok m ≡ checked_locals c n (at + 1) scope → inner ≡ scope ++ map name_of xs → out ≡ checked_statement c m inner →
      out ≡ checked_functions c 1 at
  function-answered inner out ends h names q =
      let w = went parameters _ m h in
      let none' : inner ≡ map name_of xs = rw none at names in
      let bound : reverse inner ≡ reverse (map name_of xs) = ap reverse none' in
      let end : m + size (tree_at c.table.records.now m) ≡ at + sizes (pieces c.table.records.now at 1) = omega (arith, p.whole, ends) in
      rw (p.is, same, w.0, last body) (rw (bound, end) at q)

-- A variable alone.
pub variable-answered : (globals : List ℕ) (functions : List Signature) (ds : List Declaration) (d : VariableDeclaration)
    (n m : ℕ) → ds ≡ of_a_variable d ∷ [] → n ≡ m → Ok n ≡ outcome (function_rules globals functions (functions_of ds)) m
variable-answered globals functions ds d n m e q = rw (e, q) refl

-- The functions among several declarations: that of the first, then those of the others.
module _ (globals : List ℕ) (functions : List Signature) where
  in-order : (d : Declaration) (ds : List Declaration) →
      function_rules globals functions (functions_of (d ∷ ds))
      ≡ function_rules globals functions (functions_of (d ∷ [])) ⨟ function_rules globals functions (functions_of ds)
  in-order (of_a_variable v) ds = refl
  in-order (of_a_function f) ds =
      let a : Answer = parameter_rules globals f.parameters (suc f.place) [] in
      let b : Answer = statement_rules globals functions f.body (reverse f.parameters) in
      let c : Answer = function_rules globals functions (functions_of ds) in
      regroup a b c ∙ ap (λ (z : Answer). (a ⨟ z) ⨟ c) (sym (last b))

module _ (c : Context) (at n : ℕ) (k : 0 < n) (parts : Parts c.table.records.now at n DeclarationSort) where
  rules : List Declaration → Answer
  rules ds = function_rules (reverse c.globals.now) c.functions.now (functions_of ds)

  split : (m : ℕ) → m ≡ at + sizes (pieces c.table.records.now at 1) →
      rules (declarations_at c.table.records.now at n)
      ≡ rules (declarations_at c.table.records.now at 1) ⨟ rules (declarations_at c.table.records.now m (n - 1))
  unfolding rules
  split m e =
      let p = first c.table.records.now at n m DeclarationSort k parts e in
      let t : Tree = tree_at c.table.records.now at in
      rw (p.parts, p.alone)
      (in-order (reverse c.globals.now) c.functions.now (make_declaration (node_kind t) t)
      (declarations_at c.table.records.now m (n - 1)))

  pub functions-refused : (y : Refusal) → Err y ≡ checked_functions c 1 at → Err y ≡ checked_functions c n at
  unfolding rules
  functions-refused y h =
      rw (split (at + sizes (pieces c.table.records.now at 1)) refl) (refused (rules (declarations_at c.table.records.now at 1)) _ _ _ y h)

  pub functions-done : (m : ℕ) → Ok m ≡ checked_functions c 1 at → checked_functions c (n - 1) m ≡ checked_functions c n at
  unfolding rules
  functions-done m h =
      let w = went (rules (declarations_at c.table.records.now at 1)) _ m h in
      let p = first c.table.records.now at n m DeclarationSort k parts w.1 in
      rw (split m w.1, w.0, p.whole) refl
