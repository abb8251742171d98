-- Where the code of a node stands: a relation, node by node, that the simulation follows. It also says what the names
-- of the node mean: which slot a variable has, and which function a call enters.
use Rattle.std.proofs.Common.{◌≡◌, ℕ, suc, ◌⊎◌, List, [], ◌∷◌, length, pos, Some, None}
use Rattle.std.specs.List.{slice_get}
use Rattle.syntax.specs.Syntax.{VariableDeclaration, declare, Expression, constant, variable, binary, assign, call}
use Rattle.syntax.specs.Syntax.{bay_read, bay_write}
use Rattle.syntax.specs.Syntax.{Arguments, no_argument, argument, Statement, evaluate, if_else, while, give_back, block}
use Rattle.syntax.specs.Syntax.{Statements, no_statement, then, Function, bind_names, argument_count, locate}
use Rattle.syntax.specs.Syntax.{function_named}
use Rattle.code.specs.declared.instruction.Operation.{Operation}
use Rattle.code.specs.declared.instruction.Operation.TheVariants.{Lit, GetL, SetL, GetG, SetG, Pop}
use Rattle.code.specs.declared.instruction.Operation.TheVariants.{Jz, Jmp, Tick, Call, BayR, BayW}
use Rattle.code.specs.Scheme.{op, operator_code}
use Rattle.agreement.proofs.Scene.{Scene}

-- None of the names is one of the globals.
abbrev pub Apart : List ℕ → List ℕ → Type 0
Apart globals names = (x k : ℕ) → locate x globals ≡ Some k → locate x names ≡ None

module _ {W : Type 0} (S : Scene W) where
  -- At p stands the operation o of the node at place a.
  abbrev pub Has : ℕ → Operation → ℕ → Type 0
  Has p o a = slice_get S.code p ≡ Some (op a o)

  -- At p stands an operation on the variable x, a name of the frame or else a global.
  abbrev pub PlacedVariable : (ℕ → Operation) → (ℕ → Operation) → ℕ → ℕ → List ℕ → ℕ → Type 0
  PlacedVariable local global a x own p =
      ((k : ℕ) × (locate x own ≡ Some k) × Has p (local k) a)
      ⊎ ((k : ℕ) × (locate x own ≡ None) × (locate x S.globals ≡ Some k) × Has p (global k) a)

  -- The code stands from p up to q, q excluded.
  abbrev pub PlacedPushes : ℕ → List VariableDeclaration → ℕ → ℕ → Type 0
  PlacedPushes a [] p q = q ≡ p
  PlacedPushes a (declare b x v ∷ ds) p q = Has p (Lit v) a × PlacedPushes a ds (suc p) q

  abbrev pub PlacedPops : ℕ → List VariableDeclaration → ℕ → ℕ → Type 0
  PlacedPops a [] p q = q ≡ p
  PlacedPops a (d ∷ ds) p q = Has p Pop a × PlacedPops a ds (suc p) q

  abbrev mutual
    pub PlacedExpression : Expression → List ℕ → ℕ → ℕ → Type 0
    PlacedExpression (constant a v) own p q = Has p (Lit v) a × (q ≡ suc p)
    PlacedExpression (variable a x) own p q = PlacedVariable GetL GetG a x own p × (q ≡ suc p)
    PlacedExpression (binary a o e f) own p q =
        (i j : ℕ) × PlacedExpression e own p i × PlacedExpression f own i j × Has j (operator_code o) a × (q ≡ suc j)
    PlacedExpression (assign a x e) own p q =
        (i : ℕ) × PlacedExpression e own p i × PlacedVariable SetL SetG a x own i × (q ≡ suc i)
    PlacedExpression (call a f es) own p q =
        (F : Function) × (k i : ℕ) × (function_named f S.functions ≡ Some F) × (slice_get S.functions k ≡ Some F)
        × (argument_count es ≡ length F.parameters) × PlacedArguments es own p i × Has i (Call k) a × (q ≡ suc i)
    PlacedExpression (bay_read a e) own p q = (i : ℕ) × PlacedExpression e own p i × Has i BayR a × (q ≡ suc i)
    PlacedExpression (bay_write a e f) own p q =
        (i j : ℕ) × PlacedExpression e own p i × PlacedExpression f own i j × Has j BayW a × (q ≡ suc j)

    pub PlacedArguments : Arguments → List ℕ → ℕ → ℕ → Type 0
    PlacedArguments no_argument own p q = q ≡ p
    PlacedArguments (argument e es) own p q = (i : ℕ) × PlacedExpression e own p i × PlacedArguments es own i q

  -- `leave` is the operation that a return ends with.
  module _ (leave : Operation) where
    abbrev mutual
      pub PlacedStatement : Statement → List ℕ → ℕ → ℕ → Type 0
      PlacedStatement (evaluate a e) own p q = PlacedExpression e own p q
      PlacedStatement (if_else a e s t) own p q =
          (i j : ℕ) × PlacedExpression e own p i × Has i (Jz (suc j)) a × PlacedStatement s own (suc i) j
          × Has j (Jmp q) a × PlacedStatement t own (suc j) q
      PlacedStatement (while a e s) own p q =
          (i j : ℕ) × Has p Tick a × PlacedExpression e own (suc p) i × Has i (Jz (suc (suc j))) a
          × PlacedStatement s own (suc i) j × Has j Pop a × Has (suc j) (Jmp p) a × Has (suc (suc j)) (Lit (pos 0)) a
          × (q ≡ suc (suc (suc j)))
      PlacedStatement (give_back a e) own p q = (i : ℕ) × PlacedExpression e own p i × Has i leave a × (q ≡ suc i)
      PlacedStatement (block a ds ss) own p q =
          (i j k : ℕ) × Apart S.globals (bind_names ds own) × PlacedPushes a ds p i
          × PlacedStatements ss (bind_names ds own) a i j × PlacedPops a ds j k × Has k (Lit (pos 0)) a × (q ≡ suc k)

      pub PlacedStatements : Statements → List ℕ → ℕ → ℕ → ℕ → Type 0
      PlacedStatements no_statement own a p q = q ≡ p
      PlacedStatements (then s ss) own a p q =
          (i : ℕ) × PlacedStatement s own p i × Has i Pop a × PlacedStatements ss own a (suc i) q
