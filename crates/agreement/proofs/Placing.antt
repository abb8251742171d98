-- The code that the scheme makes of a node in scope stands where the simulation wants it.
use Rattle.std.proofs.Common.{◌≡◌, ℕ, suc, ◌+◌, Bool, true, false, cond, T, eqb, ◌⊎◌, List, [], ◌∷◌, ◌++◌, map, length, pos, Some, None, Option, sym, refl, ap, ◌∙◌, subst, inl, inr, append_assoc, append-nil, arith, eqb→eq, length-append}
use Rattle.std.specs.List.{slice_get}
use Rattle.syntax.specs.Syntax.{VariableDeclaration, declare, Expression, constant, variable, binary, assign, call}
use Rattle.syntax.specs.Syntax.{bay_read, bay_write}
use Rattle.syntax.specs.Syntax.{Arguments, no_argument, argument, Statement, evaluate, if_else, while, give_back, block}
use Rattle.syntax.specs.Syntax.{Statements, no_statement, then, Function, bind_names, name_of, argument_count, locate}
use Rattle.syntax.specs.Syntax.{function_named}
use Rattle.names.specs.declared.signature.Signature.{Signature}
use Rattle.names.specs.Names.{signature}
use Rattle.names.specs.Scoped.{Member, Known, AllFresh, Takes, ScopedExpression, ScopedArguments, ScopedStatement}
use Rattle.names.specs.Scoped.{ScopedStatements}
use Rattle.code.specs.declared.instruction.Operation.{Operation}
use Rattle.code.specs.declared.instruction.Operation.TheVariants.{Lit, GetL, SetL, GetG, SetG, Pop, Jz, Jmp, Call}
use Rattle.code.specs.declared.instruction.Operation.TheVariants.{BayR, BayW}
use Rattle.code.specs.declared.instruction.Instruction.{Instruction}
use Rattle.code.specs.Scheme.{op, operator_code, variable_code, function_index, push_locals, pop_locals, expression_code}
use Rattle.code.specs.Scheme.{arguments_code, statement_code, block_code}
use Rattle.agreement.proofs.Scene.{Scene}
use Rattle.agreement.proofs.Placed.{Apart, Has, PlacedVariable, PlacedPushes, PlacedPops, PlacedExpression}
use Rattle.agreement.proofs.Placed.{PlacedArguments, PlacedStatement, PlacedStatements}
use Rattle.agreement.proofs.Lists.{eqb-true, eqb-equal, no-some}

-- The instructions c stand in the code from p on.
abbrev pub Lies : List Instruction → ℕ → List Instruction → Type 0
Lies code p [] = Unit {0}
Lies code p (i ∷ c) = (slice_get code p ≡ Some i) × Lies code (suc p) c

pub lies-left : (code : List Instruction) (p : ℕ) (a b : List Instruction) → Lies code p (a ++ b) → Lies code p a
lies-left code p [] b h = tt
lies-left code p (i ∷ a) b (h, hs) = (h, lies-left code (suc p) a b hs)

pub lies-right :
    (code : List Instruction) (p q : ℕ) (a b : List Instruction)
    → Lies code p (a ++ b) → q ≡ p + length a → Lies code q b
lies-right code p q [] b h e = subst (λ (z : ℕ). Lies code z b) (let e₁ : p ≡ q = omega arith in e₁) h
lies-right code p q (i ∷ a) b (h, hs) e = lies-right code (suc p) q a b hs (omega arith)

slice_get-after : (before c : List Instruction) (i : Instruction) → slice_get (before ++ (i ∷ c)) (length before) ≡ Some i
slice_get-after [] c i = refl
slice_get-after (x ∷ before) c i = slice_get-after before c i

lies-between :
    (before c after : List Instruction) (p : ℕ) → p ≡ length before → Lies (before ++ (c ++ after)) p c
lies-between before [] after p e = tt
lies-between before (i ∷ c) after p e = (
  subst (λ (z : ℕ). slice_get (before ++ (i ∷ (c ++ after))) z ≡ Some i) (sym e) (slice_get-after before (c ++ after) i),
  subst (λ (z : List Instruction). Lies z (suc p) c) (append_assoc before (i ∷ []) (c ++ after))
      (lies-between (before ++ (i ∷ [])) c after (suc p) (simp length-append (omega arith))),
)

pub lies-all : (code : List Instruction) → Lies code 0 code
lies-all code = subst (λ (z : List Instruction). Lies z 0 code) (append-nil code) (lies-between [] code [] 0 refl)

-- ---- names

member-located : (x : ℕ) (names : List ℕ) → Member x names → (k : ℕ) × (locate x names ≡ Some k)
member-located x [] m = absurd m
member-located x (y ∷ ys) (inl e) =
    (length ys, ap (λ (b : Bool). cond b (Some (length ys)) (locate x ys)) (eqb-true x y e))
member-located x (y ∷ ys) (inr m) = by (eqb x y) (member-located x ys m)
  where
    by :
        (b : Bool) → (k : ℕ) × (locate x ys ≡ Some k)
        → (k : ℕ) × (cond b (Some (length ys)) (locate x ys) ≡ Some k)
    by true ih = (length ys, refl)
    by false ih = ih

located-member : (x k : ℕ) (names : List ℕ) → locate x names ≡ Some k → Member x names
located-member x k [] e = absurd (no-some e)
located-member x k (y ∷ ys) e = by (eqb x y) refl e (λ e. located-member x k ys e)
  where
    by :
        (b : Bool) → eqb x y ≡ b → cond b (Some (length ys)) (locate x ys) ≡ Some k
        → (locate x ys ≡ Some k → Member x ys) → (x ≡ y) ⊎ Member x ys
    by true h e ih = inl (eqb-equal x y h)
    by false h e ih = inr (ih e)

pub apart_cons :
    (globals own : List ℕ) (x : ℕ) → (Member x globals → ⊥) → Apart globals own → Apart globals (x ∷ own)
apart_cons globals own x new apart y k e = by (eqb y x) (λ h. eqb→eq y x h)
  where
    by : (b : Bool) → (T b → y ≡ x) → cond b (Some (length own)) (locate y own) ≡ None
    by true h = absurd (new (subst (λ (z : ℕ). Member z globals) (h tt) (located-member y k globals e)))
    by false h = apart y k e

apart-locals :
    (globals : List ℕ) (ds : List VariableDeclaration) (own : List ℕ)
    → AllFresh globals (map name_of ds) own → Apart globals own → Apart globals (bind_names ds own)
apart-locals globals [] own fresh apart = apart
apart-locals globals (declare a x v ∷ ds) own (f, fresh) apart =
    apart-locals globals ds (x ∷ own) fresh (apart_cons globals own x (λ m. f (inr m)) apart)

-- The function that a name means, and the index that its calls have.
named-index :
    (f : ℕ) (F : Function) (Fs : List Function)
    → function_named f Fs ≡ Some F → slice_get Fs (function_index f (map signature Fs)) ≡ Some F
named-index f F [] e = absurd (no-some e)
named-index f F (G ∷ Fs) e = by (eqb f G.name) e (λ z. named-index f F Fs z)
  where
    by :
        (b : Bool) → cond b (Some G) (function_named f Fs) ≡ Some F
        → (function_named f Fs ≡ Some F → slice_get Fs (function_index f (map signature Fs)) ≡ Some F)
        → slice_get (G ∷ Fs) (cond b 0 (suc (function_index f (map signature Fs)))) ≡ Some F
    by true z ih = z
    by false z ih = ih z

length-pushes : (a : ℕ) (ds : List VariableDeclaration) → length (push_locals a ds) ≡ length ds
length-pushes a [] = refl
length-pushes a (declare b x v ∷ ds) = ap suc (length-pushes a ds)

-- ---- nodes

module _ {W : Type 0} (S : Scene W) where
  abbrev signatures : List Signature
  signatures = map signature S.functions

  place-variable :
      (local global : ℕ → Operation) (a x : ℕ) (own : List ℕ) (p : ℕ) (d e : Option ℕ)
      → locate x own ≡ d → locate x S.globals ≡ e → Known S.globals x own
      → Has S p (variable_code local global d e) a → PlacedVariable S local global a x own p
  place-variable local global a x own p (Some k) e h₁ h₂ known h = inl (k, h₁, h)
  place-variable local global a x own p None (Some k) h₁ h₂ known h = inr (k, h₁, h₂, h)
  place-variable local global a x own p None None h₁ h₂ (inl m) h =
      absurd (no-some (sym h₁ ∙ (member-located x own m).1))
  place-variable local global a x own p None None h₁ h₂ (inr m) h =
      absurd (no-some (sym h₂ ∙ (member-located x S.globals m).1))

  function-taken :
      (f n : ℕ) (o : Option Function) → function_named f S.functions ≡ o → Takes o n
      → (F : Function) × (function_named f S.functions ≡ Some F) × (n ≡ length F.parameters)
  function-taken f n None e t = absurd t
  function-taken f n (Some F) e t = (F, e, sym t)

  place-pushes :
      (a : ℕ) (ds : List VariableDeclaration) (p q : ℕ)
      → q ≡ p + length ds → Lies S.code p (push_locals a ds) → PlacedPushes S a ds p q
  place-pushes a [] p q e h = omega arith
  place-pushes a (declare b x v ∷ ds) p q e (h, hs) = (h, place-pushes a ds (suc p) q (omega arith) hs)

  place-pops :
      (a : ℕ) (ds : List VariableDeclaration) (p q : ℕ)
      → q ≡ p + length (pop_locals a ds) → Lies S.code p (pop_locals a ds) → PlacedPops S a ds p q
  place-pops a [] p q e h = omega arith
  place-pops a (d ∷ ds) p q e (h, hs) = (h, place-pops a ds (suc p) q (omega arith) hs)

  abbrev Part : Type 1
  Part = ℕ → ℕ → Type 0

  -- One part and an operation after it.
  place-one :
      (c : List Instruction) (P : Part) (o : Operation) (a p q : ℕ)
      → ((q : ℕ) → q ≡ p + length c → Lies S.code p c → P p q)
      → q ≡ p + length (c ++ (op a o ∷ [])) → Lies S.code p (c ++ (op a o ∷ []))
      → (i : ℕ) × P p i × Has S i o a × (q ≡ suc i)
  place-one c P o a p q part eq h = (
    p + length c,
    part (p + length c) refl (lies-left S.code p c (op a o ∷ []) h),
    (lies-right S.code p (p + length c) c (op a o ∷ []) h refl).0,
    eq ∙ simp length-append (omega arith),
  )

  -- Two parts and an operation after them.
  place-two :
      (c d : List Instruction) (P Q : Part) (o : Operation) (a p q : ℕ)
      → ((q : ℕ) → q ≡ p + length c → Lies S.code p c → P p q)
      → ((p q : ℕ) → q ≡ p + length d → Lies S.code p d → Q p q)
      → q ≡ p + length (c ++ (d ++ (op a o ∷ []))) → Lies S.code p (c ++ (d ++ (op a o ∷ [])))
      → (i j : ℕ) × P p i × Q i j × Has S j o a × (q ≡ suc j)
  place-two c d P Q o a p q first second eq h =
      let z : List Instruction = op a o ∷ [] in
      let i : ℕ = p + length c in
      let h₂ : Lies S.code i (d ++ z) = lies-right S.code p i c (d ++ z) h refl in (
        i,
        i + length d,
        first i refl (lies-left S.code p c (d ++ z) h),
        second i (i + length d) refl (lies-left S.code i d z h₂),
        (lies-right S.code i (i + length d) d z h₂ refl).0,
        eq ∙ simp length-append (omega arith),
      )

  mutual
    place-expression :
        (e : Expression) (own : List ℕ) (p q : ℕ)
        → ScopedExpression S.globals S.functions e own
        → q ≡ p + length (expression_code S.globals signatures e own)
        → Lies S.code p (expression_code S.globals signatures e own) → PlacedExpression S e own p q
    place-expression (constant a v) own p q o eq (h, _) = (h, omega arith)
    place-expression (variable a x) own p q o eq (h, _) =
        (place-variable GetL GetG a x own p (locate x own) (locate x S.globals) refl refl o h, omega arith)
    place-expression (binary a b e f) own p q (o₁, o₂) eq h =
        place-two (expression_code S.globals signatures e own) (expression_code S.globals signatures f own)
        (PlacedExpression S e own) (PlacedExpression S f own) (operator_code b) a p q
        (λ q eq h. place-expression e own p q o₁ eq h) (λ p q eq h. place-expression f own p q o₂ eq h) eq h
    place-expression (assign a x e) own p q (o₁, o₂) eq h =
        let o : Operation = variable_code SetL SetG (locate x own) (locate x S.globals) in
        let y = place-one (expression_code S.globals signatures e own) (PlacedExpression S e own) o a p q
        (λ q eq h. place-expression e own p q o₂ eq h) eq h in (
          y.0,
          y.1,
          place-variable SetL SetG a x own y.0 (locate x own) (locate x S.globals) refl refl o₁ y.2,
          y.3,
        )
    place-expression (call a f es) own p q (o₁, o₂) eq h =
        let t = function-taken f (argument_count es) (function_named f S.functions) refl o₁ in
        let y = place-one (arguments_code S.globals signatures es own) (PlacedArguments S es own)
        (Call (function_index f signatures)) a p q (λ q eq h. place-arguments es own p q o₂ eq h) eq h in (
          t.0,
          function_index f signatures,
          y.0,
          t.1,
          named-index f t.0 S.functions t.1,
          t.2,
          y.1,
          y.2,
          y.3,
        )
    place-expression (bay_read a e) own p q o eq h =
        place-one (expression_code S.globals signatures e own) (PlacedExpression S e own) BayR a p q
        (λ q eq h. place-expression e own p q o eq h) eq h
    place-expression (bay_write a e f) own p q (o₁, o₂) eq h =
        place-two (expression_code S.globals signatures e own) (expression_code S.globals signatures f own)
        (PlacedExpression S e own) (PlacedExpression S f own) BayW a p q
        (λ q eq h. place-expression e own p q o₁ eq h) (λ p q eq h. place-expression f own p q o₂ eq h) eq h

    place-arguments :
        (es : Arguments) (own : List ℕ) (p q : ℕ)
        → ScopedArguments S.globals S.functions es own
        → q ≡ p + length (arguments_code S.globals signatures es own)
        → Lies S.code p (arguments_code S.globals signatures es own) → PlacedArguments S es own p q
    place-arguments no_argument own p q o eq h = omega arith
    place-arguments (argument e es) own p q (o₁, o₂) eq h =
        let c : List Instruction = expression_code S.globals signatures e own in
        let d : List Instruction = arguments_code S.globals signatures es own in
        let i : ℕ = p + length c in (
          i,
          place-expression e own p i o₁ refl (lies-left S.code p c d h),
          place-arguments es own i q o₂ (eq ∙ simp length-append (omega arith))
              (lies-right S.code p i c d h refl),
        )

  module _ (leave : Operation) where
    mutual
      pub place-statement :
          (s : Statement) (own : List ℕ) (p q : ℕ)
          → Apart S.globals own → ScopedStatement S.globals S.functions s own
          → q ≡ p + length (statement_code S.globals signatures leave s own p)
          → Lies S.code p (statement_code S.globals signatures leave s own p)
          → PlacedStatement S leave s own p q
      place-statement (evaluate a e) own p q apart o eq h = place-expression e own p q o eq h
      place-statement (if_else a e s t) own p q apart (o₁, (o₂, o₃)) eq h =
          let c : List Instruction = expression_code S.globals signatures e own in
          let i : ℕ = p + length c in
          let d : List Instruction = statement_code S.globals signatures leave s own (suc i) in
          let j : ℕ = suc i + length d in
          let f : List Instruction = statement_code S.globals signatures leave t own (suc j) in
          let z : List Instruction = op a (Jmp (suc j + length f)) ∷ f in
          let y : List Instruction = op a (Jz (suc j)) ∷ (d ++ z) in
          let eq₂ : q ≡ suc j + length f = eq ∙ simp length-append (omega arith) in
          let h₁ : Lies S.code i y = lies-right S.code p i c y h refl in
          let h₂ : Lies S.code j z = lies-right S.code (suc i) j d z h₁.1 refl in (
            i,
            j,
            place-expression e own p i o₁ refl (lies-left S.code p c y h),
            h₁.0,
            place-statement s own (suc i) j apart o₂ refl (lies-left S.code (suc i) d z h₁.1),
            subst (λ (y : ℕ). Has S j (Jmp y) a) (sym eq₂) h₂.0,
            place-statement t own (suc j) q apart o₃ eq₂ h₂.1,
          )
      place-statement (while a e s) own p q apart (o₁, o₂) eq (h, hs) =
          let c : List Instruction = expression_code S.globals signatures e own in
          let i : ℕ = suc p + length c in
          let d : List Instruction = statement_code S.globals signatures leave s own (suc i) in
          let j : ℕ = suc i + length d in
          let z : List Instruction = op a Pop ∷ op a (Jmp p) ∷ op a (Lit (pos 0)) ∷ [] in
          let y : List Instruction = op a (Jz (suc (suc j))) ∷ (d ++ z) in
          let h₁ : Lies S.code i y = lies-right S.code (suc p) i c y hs refl in
          let h₂ : Lies S.code j z = lies-right S.code (suc i) j d z h₁.1 refl in (
            i,
            j,
            h,
            place-expression e own (suc p) i o₁ refl (lies-left S.code (suc p) c y hs),
            h₁.0,
            place-statement s own (suc i) j apart o₂ refl (lies-left S.code (suc i) d z h₁.1),
            h₂.0,
            h₂.1.0,
            h₂.1.1.0,
            eq ∙ simp length-append (omega arith),
          )
      place-statement (give_back a e) own p q apart o eq h =
          place-one (expression_code S.globals signatures e own) (PlacedExpression S e own) leave a p q
          (λ q eq h. place-expression e own p q o eq h) eq h
      place-statement (block a ds ss) own p q apart (o₁, o₂) eq h =
          let b : List Instruction = push_locals a ds in
          let i : ℕ = p + length ds in
          let hb : i ≡ p + length b = omega (arith, length-pushes a ds) in
          let inner : Apart S.globals (bind_names ds own) = apart-locals S.globals ds own o₁ apart in
          let c : List Instruction = block_code S.globals signatures leave ss (bind_names ds own) a i in
          let j : ℕ = i + length c in
          let d : List Instruction = pop_locals a ds in
          let k : ℕ = j + length d in
          let z : List Instruction = op a (Lit (pos 0)) ∷ [] in
          let h₁ : Lies S.code i (c ++ (d ++ z)) = lies-right S.code p i b (c ++ (d ++ z)) h hb in
          let h₂ : Lies S.code j (d ++ z) = lies-right S.code i j c (d ++ z) h₁ refl in
          let h₃ : Lies S.code k z = lies-right S.code j k d z h₂ refl in (
            i,
            j,
            k,
            inner,
            place-pushes a ds p i refl (lies-left S.code p b (c ++ (d ++ z)) h),
            place-statements ss (bind_names ds own) a i j inner o₂ refl (lies-left S.code i c (d ++ z) h₁),
            place-pops a ds j k refl (lies-left S.code j d z h₂),
            h₃.0,
            eq ∙ simp length-append (omega arith),
          )

      place-statements :
          (ss : Statements) (own : List ℕ) (a p q : ℕ)
          → Apart S.globals own → ScopedStatements S.globals S.functions ss own
          → q ≡ p + length (block_code S.globals signatures leave ss own a p)
          → Lies S.code p (block_code S.globals signatures leave ss own a p)
          → PlacedStatements S leave ss own a p q
      place-statements no_statement own a p q apart o eq h = omega arith
      place-statements (then s ss) own a p q apart (o₁, o₂) eq h =
          let c : List Instruction = statement_code S.globals signatures leave s own p in
          let i : ℕ = p + length c in
          let z : List Instruction = op a Pop ∷ block_code S.globals signatures leave ss own a (suc i) in
          let h₁ : Lies S.code i z = lies-right S.code p i c z h refl in (
            i,
            place-statement s own p i apart o₁ refl (lies-left S.code p c z h),
            h₁.0,
            place-statements ss own a (suc i) q apart o₂ (eq ∙ simp length-append (omega arith)) h₁.1,
          )
