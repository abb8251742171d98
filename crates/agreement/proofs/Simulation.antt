-- The simulation: by recursion over a node, each case from those of its parts, and then over the clock.
use Rattle.std.proofs.Common.{◌≡◌, ℕ, zero, suc, ◌+◌, ◌-◌, ◌<◌, ◌≤◌, T, List, [], ◌∷◌, ◌++◌, reverse, length, Some, sym, refl, ◌∙◌, subst, not-suc-le-zero, zero-add, arith, length-append}
use Rattle.std.specs.List.{slice_get}
use Rattle.script.specs.Bays.{read_bay, write_bay}
use Rattle.syntax.specs.Syntax.{Expression, constant, variable, binary, assign, call, bay_read, bay_write}
use Rattle.syntax.specs.Syntax.{Arguments, no_argument, argument, Statement, evaluate, if_else, while, give_back, block}
use Rattle.syntax.specs.Syntax.{Statements, no_statement, then, Function, bind_names, argument_count, function_named}
use Rattle.names.specs.Need.{need_expression, need_arguments, need_statement, need_statements}
use Rattle.treerun.specs.TreeRun.{State, Outcome, value, apply}
use Rattle.treerun.specs.TreeRun.{answered, run_expression, run_arguments, run_statement, run_statements, clocked}
use Rattle.code.specs.declared.instruction.Operation.TheVariants.{Pop, Ret, BayR, BayW}
use Rattle.code.specs.Scheme.{operator_code}
use Rattle.agreement.proofs.Scene.{Scene, setting_in}
use Rattle.agreement.proofs.Live.{zw}
use Rattle.agreement.proofs.Placed.{PlacedExpression, PlacedArguments, PlacedStatement, PlacedStatements}
use Rattle.agreement.proofs.Lists.{length-bind_words}
use Rattle.agreement.proofs.Extent.{extent_pushes, extent_pops, extent_expression, extent_arguments, extent_statement}
use Rattle.agreement.proofs.Extent.{extent_statements, needs_one}
use Rattle.agreement.proofs.Relation.{Working, Surroundings, tree_state, machine_at, Fits, keeps-refl, fits_kept, Any}
use Rattle.agreement.proofs.Relation.{arrived, one_step, at-step, Simulates, preceded, in_sequence}
use Rattle.agreement.proofs.Parts.{SimulatesValue, value_step, simulate_variable, simulate_assignment, simulate_bay}
use Rattle.agreement.proofs.Parts.{after_value, after_two_values, simulate_literal, execute-operator, read-unfinished}
use Rattle.agreement.proofs.Parts.{write-unfinished}
use Rattle.agreement.proofs.Blocks.{SimulatesStatements, with_locals, fits-locals, simulate_block}
use Rattle.agreement.proofs.Branches.{simulate_if, simulate_while}
use Rattle.agreement.proofs.Calls.{Linked, simulate_call}

module _ {W : Type 0} (S : Scene W) where
  -- The run of any statement with less than n fuel agrees with its code.
  abbrev pub Faithful : (ℕ → Statement → State W → Outcome W W) → ℕ → Type 0
  Faithful deep n =
      (X : Surroundings W) (s : Statement) (own : List ℕ) (p q u : ℕ) (c : Working W)
      → Fits S X own c → PlacedStatement S X.leave s own p q → q ≤ u + p → c.fuel < n
      → length c.locals + X.base + need_statement s ≤ X.limit
      → SimulatesValue S X [] [] p q u c (deep (length X.frames) s (tree_state X c))

  module _ (links : (f : ℕ) (F : Function) → slice_get S.functions f ≡ Some F → Linked S S.entries f F) where
    module _ (deep : ℕ → Statement → State W → Outcome W W) (n : ℕ) (faithful : Faithful deep n) where
      -- Arguments ws lie above T, and there are k of them.
      abbrev arguments_onto : List W → List W → List W
      arguments_onto T ws = ws ++ T

      abbrev Counted : ℕ → List W → Type 0
      Counted k ws = length ws ≡ k

      mutual
        unfolding run_expression

        pub simulate_expression :
            (e : Expression) (X : Surroundings W) (own : List ℕ) (p q u : ℕ) (c : Working W) (T : List W)
            → Fits S X own c → PlacedExpression S e own p q → q ≤ u + p → c.fuel ≤ n
            → length T + (length c.locals + X.base) + need_expression e ≤ X.limit
            → SimulatesValue S X T T p q u c
            (run_expression (setting_in S) deep e (length X.frames) (tree_state X c))
        simulate_expression (constant a v) X own p q u c T o (h, eq) hu hn hm =
            simulate_literal S X a v own p q u c T o h eq (omega arith) (omega arith)
        simulate_expression (variable a x) X own p q u c T o (h, eq) hu hn hm =
            simulate_variable S X a x own p q u c T o h eq (omega arith) (omega arith)
        simulate_expression (binary a b e f) X own p q u c T o (i, j, x, y, z, eq) hu hn hm =
            let l₁ : p < i = extent_expression S e own p i x in
            let l₂ : i < j = extent_expression S f own i j y in
            after_two_values S X T _ (λ σ. run_expression (setting_in S) deep f (length X.frames) σ)
            (λ v w σ. value (apply S.kind b v w) σ) p i j q u c (omega arith)
            (simulate_expression e X own p i (i - p) c T o x (omega arith) hn (omega arith))
            (λ v c₁ k₁.
            simulate_expression f X own i j (j - i) c₁ (v ∷ T) (fits_kept o k₁) y (omega arith) (omega arith)
            (omega (arith, k₁.locals)))
            (λ v w c₂ k₂.
            value_step S X (apply S.kind b v w) (tree_state X c₂) T (w ∷ v ∷ T) j q 1 c₂ c₂ eq refl
            (keeps-refl c₂) (omega arith) refl
            (at-step S (machine_at X (w ∷ v ∷ T) j c₂) (operator_code b) a z
            ∙ execute-operator S b a v w (machine_at X T j c₂).live (machine_at X (w ∷ v ∷ T) j c₂) refl))
        simulate_expression (assign a x e) X own p q u c T o (i, y, z, eq) hu hn hm =
            let l₁ : p < i = extent_expression S e own p i y in
            after_value S X T T _ _ p i q u 1 c (omega arith)
            (simulate_expression e X own p i (i - p) c T o y (omega arith) hn (omega arith))
            (λ w c₁ k₁. simulate_assignment S X a x own i q 1 c₁ T w (fits_kept o k₁) z eq (omega arith))
        simulate_expression (call a f es) X own p q u c T o (F, kf, i, hn₁, hf, ha, hes, h, eq) hu hn hm =
            let l₁ : p ≤ i = extent_arguments S es own p i hes in
            let L = links kf F hf in
            let l₂ : L.start < L.end = extent_statement S Ret F.body _ L.start L.end L.body in
            subst
            (λ (z : ℕ).
            SimulatesValue S X T T p z u c
            (run_expression (setting_in S) deep (call a f es) (length X.frames) (tree_state X c)))
            (sym eq)
            (in_sequence S X (λ (w : W). w ∷ T) Any (arguments_onto T) (Counted (argument_count es + 0)) _ _ T p i
            (suc i) u (i - p) 1 c (omega arith)
            (simulate_arguments es [] X own p i (i - p) c T o hes (omega arith) hn (omega arith))
            (λ ws c₁ k₁ len.
            simulate_call S X
            (record {
              fits = fits_kept o k₁;
              arguments_taken = omega arith;
              instruction = h;
              within = omega (arith, k₁.locals);
              link = L;
            })
            deep 1 (function_named f S.functions) (omega arith) hn₁
            (λ n₁ e₁ fits₁.
            faithful _ F.body (reverse F.parameters) L.start L.end (L.end - L.start) _ fits₁
            L.body (omega arith) (omega arith) (omega (arith, L.need)))))
        simulate_expression (bay_read a e) X own p q u c T o (i, x, z, eq) hu hn hm =
            let l₁ : p < i = extent_expression S e own p i x in
            after_value S X T T _ _ p i q u 1 c (omega arith)
            (simulate_expression e X own p i (i - p) c T o x (omega arith) hn (omega arith))
            (λ w c₁ k₁.
            simulate_bay S X a own (w ∷ T) T i q 1 c₁ (read_bay c₁.bays (S.kind.slot w))
            (read-unfinished c₁.bays (S.kind.slot w)) (fits_kept o k₁) eq (omega arith)
            (at-step S (machine_at X (w ∷ T) i c₁) BayR a z))
        simulate_expression (bay_write a e f) X own p q u c T o (i, j, x, y, z, eq) hu hn hm =
            let l₁ : p < i = extent_expression S e own p i x in
            let l₂ : i < j = extent_expression S f own i j y in
            after_two_values S X T _ (λ σ. run_expression (setting_in S) deep f (length X.frames) σ)
            (λ v w σ. answered a (write_bay S.holds σ.bays (S.kind.slot v) w) σ) p i j q u c (omega arith)
            (simulate_expression e X own p i (i - p) c T o x (omega arith) hn (omega arith))
            (λ v c₁ k₁.
            simulate_expression f X own i j (j - i) c₁ (v ∷ T) (fits_kept o k₁) y (omega arith) (omega arith)
            (omega (arith, k₁.locals)))
            (λ v w c₂ k₂.
            simulate_bay S X a own (w ∷ v ∷ T) T j q 1 c₂ (write_bay S.holds c₂.bays (S.kind.slot v) w)
            (write-unfinished S c₂.bays (S.kind.slot v) w) (fits_kept o k₂) eq (omega arith)
            (at-step S (machine_at X (w ∷ v ∷ T) j c₂) BayW a z))

        pub simulate_arguments :
            (es : Arguments) (ran : List W) (X : Surroundings W) (own : List ℕ) (p q u : ℕ) (c : Working W)
            (T : List W)
            → Fits S X own c → PlacedArguments S es own p q → q ≤ u + p → c.fuel ≤ n
            → length T + (length c.locals + X.base) + need_arguments es (length ran) ≤ X.limit
            → Simulates S X (arguments_onto T) (Counted (argument_count es + length ran)) (ran ++ T) p q u c
            (run_arguments (setting_in S) deep es (length X.frames) ran (tree_state X c))
        simulate_arguments no_argument ran X own p q u c T o h hu hn hm =
            subst
            (λ (z : ℕ).
            Simulates S X (arguments_onto T) (Counted (0 + length ran)) (ran ++ T) p z u c
            (value ran (tree_state X c)))
            (sym h)
            (c, refl, keeps-refl c, sym (zero-add (length ran)), λ k j l. arrived refl (omega arith))
        simulate_arguments (argument e es) ran X own p q u c T o (i, x, y) hu hn hm =
            let l₁ : p < i = extent_expression S e own p i x in
            let l₂ : i ≤ q = extent_arguments S es own i q y in
            in_sequence S X (arguments_onto T) (Counted (suc (argument_count es) + length ran))
            (λ (w : W). w ∷ (ran ++ T)) Any _ _ (ran ++ T) p i q u (i - p) (u - (i - p)) c (omega arith)
            (simulate_expression e X own p i (i - p) c (ran ++ T) o x (omega arith) hn
            (omega (arith, length-append ran T)))
            (λ w c₁ k₁ _.
            let e₁ : argument_count es + suc (length ran) ≡ suc (argument_count es) + length ran = omega arith in
            subst
            (λ (z : ℕ).
            Simulates S X (arguments_onto T) (Counted z) (w ∷ (ran ++ T)) i q (u - (i - p)) c₁
            (run_arguments (setting_in S) deep es (length X.frames) (w ∷ ran) (tree_state X c₁)))
            e₁
            (simulate_arguments es (w ∷ ran) X own i q (u - (i - p)) c₁ T (fits_kept o k₁) y (omega arith)
            (omega arith) (omega (arith, k₁.locals))))

      mutual
        unfolding run_statement

        pub simulate_statement :
            (s : Statement) (X : Surroundings W) (own : List ℕ) (p q u : ℕ) (c : Working W)
            → Fits S X own c → PlacedStatement S X.leave s own p q → q ≤ u + p → c.fuel ≤ n
            → length c.locals + X.base + need_statement s ≤ X.limit
            → SimulatesValue S X [] [] p q u c
            (run_statement (setting_in S) deep s (length X.frames) (tree_state X c))
        simulate_statement (evaluate a e) X own p q u c o h hu hn hm =
            simulate_expression e X own p q u c [] o h hu hn (omega arith)
        simulate_statement (if_else a e s t) X own p q u c o (i, j, x, hz, y, hj, z) hu hn hm =
            let l₁ : p < i = extent_expression S e own p i x in
            let l₂ : suc i < j = extent_statement S X.leave s own (suc i) j y in
            let l₃ : suc j < q = extent_statement S X.leave t own (suc j) q z in
            simulate_if S X a p i j q u c
            (λ σ. run_expression (setting_in S) deep e (length X.frames) σ)
            (λ σ. run_statement (setting_in S) deep s (length X.frames) σ)
            (λ σ. run_statement (setting_in S) deep t (length X.frames) σ)
            hz hj (omega arith) (omega arith)
            (simulate_expression e X own p i (i - p) c [] o x (omega arith) hn (omega arith))
            (λ c₁ k₁. simulate_statement s X own (suc i) j (j - suc i) c₁ (fits_kept o k₁) y (omega arith)
            (omega (arith, k₁.fuel)) (omega (arith, k₁.locals)))
            (λ c₁ k₁. simulate_statement t X own (suc j) q (q - suc j) c₁ (fits_kept o k₁) z (omega arith)
            (omega (arith, k₁.fuel)) (omega (arith, k₁.locals)))
        simulate_statement (while a e s) X own p q u c o (i, j, h₁, x, hz, y, h₂, h₃, h₄, eq) hu hn hm =
            let l₁ : suc p < i = extent_expression S e own (suc p) i x in
            let l₂ : suc i < j = extent_statement S X.leave s own (suc i) j y in
            simulate_while S X a own p i j q u c
            (λ σ. run_expression (setting_in S) deep e (length X.frames) σ)
            (λ σ. run_statement (setting_in S) deep s (length X.frames) σ)
            (λ σ. deep (length X.frames) (while a e s) σ)
            o (record { tick = h₁; test = hz; pop = h₂; jump = h₃; zero = h₄; end = eq })
            (record { test = l₁; body = l₂; room = omega (arith, needs_one e); credits = omega arith })
            (λ c₁ k₁ f₁. simulate_expression e X own (suc p) i (i - suc p) c₁ [] (fits_kept o k₁) x (omega arith)
            (omega (arith, f₁)) (omega (arith, k₁.locals)))
            (λ c₁ k₁ f₁. simulate_statement s X own (suc i) j (j - suc i) c₁ (fits_kept o k₁) y (omega arith)
            (omega (arith, f₁)) (omega (arith, k₁.locals)))
            (λ c₁ k₁ f₁. faithful X (while a e s) own p q (q - p) c₁ (fits_kept o k₁)
            (i, j, h₁, x, hz, y, h₂, h₃, h₄, eq) (omega arith) (omega (arith, f₁)) (omega (arith, k₁.locals)))
        simulate_statement (give_back a e) X own p q u c o (i, x, h, eq) hu hn hm =
            let l₁ : p < i = extent_expression S e own p i x in
            after_value S X [] [] _ _ p i q u 1 c (omega arith)
            (simulate_expression e X own p i (i - p) c [] o x (omega arith) hn (omega arith))
            (λ w c₁ k₁. (c₁, refl, (refl, refl), omega arith, i, a, h, λ k j l. arrived refl (omega arith)))
        simulate_statement (block a ds ss) X own p q u c o (i, j, k, apart, hl, y, hp, hz, eq) hu hn hm =
            let l₁ = extent_pushes S a ds p i hl in
            let l₂ = extent_statements S X.leave ss (bind_names ds own) a i j y in
            let l₃ = extent_pops S a ds j k hp in
            let len = length-bind_words S.kind ds c.locals in
            simulate_block S X a own ds p i j k q u (j - i) c
            (λ σ. run_statements (setting_in S) deep ss (length X.frames) σ)
            o hl hp hz eq (omega arith) (omega arith) (omega arith)
            (simulate_statements ss X (bind_names ds own) a (length c.locals + X.base) (length ds) i j (j - i)
            (with_locals S ds c) (fits-locals S X own ds c o apart) y (omega arith) hn (omega (arith, len))
            (omega arith))

        -- The frame's bindings end at z + locals, of which `locals` are the block's own.
        pub simulate_statements :
            (ss : Statements) (X : Surroundings W) (own : List ℕ) (a z locals p q u : ℕ) (c : Working W)
            → Fits S X own c → PlacedStatements S X.leave ss own a p q → q ≤ u + p → c.fuel ≤ n
            → length c.locals + X.base ≡ z + locals → z + need_statements ss locals ≤ X.limit
            → SimulatesStatements S X p q u c
            (run_statements (setting_in S) deep ss (length X.frames) (tree_state X c))
        simulate_statements no_statement X own a z locals p q u c o h hu hn hz hm =
            subst (λ (z : ℕ). SimulatesStatements S X p z u c (value (zw S) (tree_state X c))) (sym h)
            (c, refl, keeps-refl c, tt, λ k j l. arrived refl (omega arith))
        simulate_statements (then s ss) X own a z locals p q u c o (i, x, h, y) hu hn hz hm =
            let l₁ : p < i = extent_statement S X.leave s own p i x in
            let l₂ : suc i ≤ q = extent_statements S X.leave ss own a (suc i) q y in
            let rest : ℕ = u - (i - p) in
            in_sequence S X (λ (w : W). []) Any (λ (w : W). w ∷ []) Any _ _ [] p i q u (i - p) rest c (omega arith)
            (simulate_statement s X own p i (i - p) c o x (omega arith) hn (omega arith))
            (λ w c₁ k₁ _.
            preceded S X (λ (w : W). []) Any _ [] (w ∷ []) i (suc i) q rest (rest - 1) c₁ c₁ (keeps-refl c₁)
            (λ k j l.
            one_step S k ((rest - 1) + j) (at-step S (machine_at X (w ∷ []) i c₁) Pop a h) refl (omega arith))
            (simulate_statements ss X own a z locals (suc i) q (rest - 1) c₁ (fits_kept o k₁) y (omega arith)
            (omega arith) (omega (arith, k₁.locals)) (omega arith)))

    -- Every clock's run.
    pub clocked-faithful : (n : ℕ) → Faithful (clocked (setting_in S) n) n
    unfolding clocked
    clocked-faithful zero X s own p q u c o h hu hn hm = absurd (not-suc-le-zero hn)
    clocked-faithful (suc n) X s own p q u c o h hu hn hm =
        simulate_statement (clocked (setting_in S) n) n (clocked-faithful n) s X own p q u c o h hu (omega arith) hm
