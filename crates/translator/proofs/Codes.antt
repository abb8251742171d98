-- Code put down piece by piece, with the jumps written last, is the code of the scheme.
use Rattle.std.proofs.Common.{◌≡◌, ℕ, suc, ◌+◌, List, [], ◌∷◌, ◌++◌, length, set, replicate, pos, sym, refl, ap, ◌∙◌, append_assoc, arith, length-append, length-set}
use Rattle.std.proofs.lemmas.List.{set_at}
use Rattle.syntax.specs.Syntax.{VariableDeclaration, Expression, Statement, if_else, while, block, Statements, then}
use Rattle.syntax.specs.Syntax.{bind_names}
use Rattle.names.specs.declared.signature.Signature.{Signature}
use Rattle.code.specs.declared.instruction.Operation.{Operation}
use Rattle.code.specs.declared.instruction.Operation.TheVariants.{Lit, Pop, Jz, Jmp, Tick}
use Rattle.code.specs.declared.instruction.Instruction.{Instruction}
use Rattle.code.specs.Scheme.{op, expression_code, statement_code, block_code, push_locals, pop_locals}

module _ (globals : List ℕ) (functions : List Signature) (leave : Operation) (own : List ℕ) where
  -- An if: `before` is the code up to it, then what stands after each piece; h₁ and h₂ are what stood in the place of
  -- the jumps, which get their target in `once` and `twice`.
  pub if-code : (a : ℕ) (e : Expression) (s t : Statement)
      (before tested jumped first skipped once second twice : List Instruction)
      (start test inner skip other rest end : ℕ) (h₁ h₂ : Instruction) →
      length before ≡ start → length tested ≡ test → length jumped ≡ inner → length first ≡ skip →
      length skipped ≡ other → length once ≡ rest → length second ≡ end →
      tested ≡ before ++ expression_code globals functions e own → jumped ≡ tested ++ h₁ ∷ [] →
      first ≡ jumped ++ statement_code globals functions leave s own inner → skipped ≡ first ++ h₂ ∷ [] →
      once ≡ set skipped test (op a (Jz other)) →
      second ≡ once ++ statement_code globals functions leave t own rest →
      twice ≡ set second skip (op a (Jmp end)) →
      twice ≡ before ++ statement_code globals functions leave (if_else a e s t) own start
  if-code a e s t before tested jumped first skipped once second twice start test inner skip other rest end h₁ h₂
      l₀ l₁ l₂ l₃ l₄ l₅ l₆ e₁ e₂ e₃ e₄ e₅ e₆ e₇ =
      let c : List Instruction = expression_code globals functions e own in
      let d : List Instruction = statement_code globals functions leave s own inner in
      let f : List Instruction = statement_code globals functions leave t own rest in
      let inner-is : inner ≡ suc (start + length c) = omega (arith, length-append {A = Instruction}, ap length e₁, ap length e₂) in
      let other-is : other ≡ rest = omega (arith, ap length e₅ ∙ length-set skipped test (op a (Jz other))) in
      let rest-is : rest ≡ suc (inner + length d) = omega (arith, length-append {A = Instruction}, ap length e₃, ap length e₄) in
      let end_is : end ≡ rest + length f = omega (arith, length-append {A = Instruction}, ap length e₆) in
      let b₄ : skipped ≡ (before ++ c) ++ h₁ ∷ (d ++ h₂ ∷ []) = e₄ ∙ rw (e₃, e₂, e₁) (simp append_assoc) in
      let b₅ : once ≡ (before ++ c) ++ op a (Jz other) ∷ (d ++ h₂ ∷ []) =
      e₅
      ∙ rw b₄ (set_at (before ++ c) h₁ (d ++ h₂ ∷ []) (op a (Jz other)) test (omega (arith, length-append {A = Instruction}, ap length e₁))) in
      let g : List Instruction = (before ++ c) ++ op a (Jz other) ∷ d in
      let ng : length g ≡ skip = omega (arith, length-append {A = Instruction}, ap length e₁, ap length e₂, ap length e₃) in
      let b₆ : second ≡ g ++ h₂ ∷ f = e₆ ∙ rw b₅ (simp append_assoc) in
      let b₇ : twice ≡ g ++ op a (Jmp end) ∷ f = e₇ ∙ rw b₆ (set_at g h₂ f (op a (Jmp end)) skip ng) in
      rw (← inner-is, ← rest-is) (b₇ ∙ rw (end_is, other-is) (simp append_assoc))

  -- A while, likewise.
  pub while-code : (a : ℕ) (e : Expression) (s : Statement)
      (before ticked tested jumped body popped back once all : List Instruction) (start test inner end : ℕ) (h : Instruction) →
      length before ≡ start → length tested ≡ test → length jumped ≡ inner → length back ≡ end →
      ticked ≡ before ++ op a Tick ∷ [] → tested ≡ ticked ++ expression_code globals functions e own →
      jumped ≡ tested ++ h ∷ [] → body ≡ jumped ++ statement_code globals functions leave s own inner →
      popped ≡ body ++ op a Pop ∷ [] → back ≡ popped ++ op a (Jmp start) ∷ [] →
      once ≡ set back test (op a (Jz end)) → all ≡ once ++ op a (Lit (pos 0)) ∷ [] →
      all ≡ before ++ statement_code globals functions leave (while a e s) own start
  while-code a e s before ticked tested jumped body popped back once all start test inner end h
      l₀ l₁ l₂ l₃ e₁ e₂ e₃ e₄ e₅ e₆ e₇ e₈ =
      let c : List Instruction = expression_code globals functions e own in
      let d : List Instruction = statement_code globals functions leave s own inner in
      let inner-is : inner ≡ suc (suc start + length c) =
      omega (arith, length-append {A = Instruction}, ap length e₁, ap length e₂, ap length e₃) in
      let end_is : end ≡ suc (suc (inner + length d)) =
      omega (arith, length-append {A = Instruction}, ap length e₄, ap length e₅, ap length e₆) in
      let front : List Instruction = before ++ op a Tick ∷ c in
      let tail : List Instruction = d ++ op a Pop ∷ op a (Jmp start) ∷ [] in
      let b₆ : back ≡ front ++ h ∷ tail = e₆ ∙ rw (e₅, e₄, e₃, e₂, e₁) (simp append_assoc) in
      let nf : length front ≡ test = omega (arith, length-append {A = Instruction}, ap length e₁, ap length e₂) in
      let b₇ : once ≡ front ++ op a (Jz end) ∷ tail = e₇ ∙ rw b₆ (set_at front h tail (op a (Jz end)) test nf) in
      rw (← inner-is, ← end_is) (e₈ ∙ rw b₇ (simp append_assoc))

  -- A statement of a block and its POP, then the others.
  pub then-code : (a : ℕ) (s : Statement) (ss : Statements) (before first popped : List Instruction)
      (start rest : ℕ) → length before ≡ start → length popped ≡ rest →
      first ≡ before ++ statement_code globals functions leave s own start → popped ≡ first ++ op a Pop ∷ [] →
      popped ++ block_code globals functions leave ss own a rest
      ≡ before ++ block_code globals functions leave (then s ss) own a start
  then-code a s ss before first popped start rest l₀ l₂ e₁ e₂ =
      let c : List Instruction = statement_code globals functions leave s own start in
      let rest-is : rest ≡ suc (start + length c) = omega (arith, length-append {A = Instruction}, ap length e₁, ap length e₂) in
      rw (← rest-is) (rw (e₂, e₁) (simp append_assoc))

  pops-are : (a : ℕ) (ds : List VariableDeclaration) → replicate (length ds) (op a Pop) ≡ pop_locals a ds
  pops-are a [] = refl
  pops-are a (d ∷ ds) = ap (λ (l : List Instruction). op a Pop ∷ l) (pops-are a ds)

  -- A block: the first words of its m locals, its statements, a POP for each local, LIT 0.
  pub block-code : (a : ℕ) (ds : List VariableDeclaration) (ss : Statements)
      (before pushed inside popped all : List Instruction) (start inner m : ℕ) →
      inner ≡ start + m → length ds ≡ m →
      pushed ≡ before ++ push_locals a ds →
      inside ≡ pushed ++ block_code globals functions leave ss (bind_names ds own) a inner →
      popped ≡ inside ++ replicate m (op a Pop) → all ≡ popped ++ op a (Lit (pos 0)) ∷ [] →
      all ≡ before ++ statement_code globals functions leave (block a ds ss) own start
  block-code a ds ss before pushed inside popped all start inner m i l e₁ e₂ e₃ e₄ =
      let ps : replicate m (op a Pop) ≡ pop_locals a ds =
      ap (λ (z : ℕ). replicate z (op a Pop)) (sym l) ∙ pops-are a ds in
      let i' : start + length ds ≡ inner = omega arith in
      rw i' (e₄ ∙ rw (e₃, e₂, e₁, ps) (simp append_assoc))
