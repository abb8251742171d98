-- Two runs of one program side by side: from states that are alike, with clocks of at least the first one's fuel,
-- they come to outcomes that are alike. One induction over the parts of a program, for any likeness of states that
-- each single step keeps. The second run may have more fuel; then nothing is said of where the first wants fuel.
use Rattle.std.proofs.Common.{◌≡◌, ℕ, zero, suc, ◌<◌, ◌≤◌, Bool, true, false, eqb, ◌⊎◌, List, [], ◌∷◌, Some, None, Option, sym, refl, ap, ◌∙◌, subst, inl, inr, true≢false, arith}
use mathlib.Core.Bool.{false≢true}
use Rattle.script.specs.declared.ending.Ending.{Ending}
use Rattle.script.specs.declared.ending.Ending.TheVariants.{NoFuel, TooDeep}
use Rattle.syntax.specs.Syntax.{VariableDeclaration, Expression, constant, variable, binary, assign, call, bay_read}
use Rattle.syntax.specs.Syntax.{bay_write, Arguments, no_argument, argument, Statement, evaluate, if_else, while}
use Rattle.syntax.specs.Syntax.{give_back, block, Statements, no_statement, then, Function, function_named}
use Rattle.treerun.specs.TreeRun.{Setting, State, Outcome, value, returned, ended, BayAnswer, gives, fails, zero_word}
use Rattle.treerun.specs.TreeRun.{look_up, store, read_bay, write_bay, with_words, with_bays, with_fuel, drop_to}
use Rattle.treerun.specs.TreeRun.{bind_variables, bind_parameters, and_then, branch, spend_from, spend, leave_block}
use Rattle.treerun.specs.TreeRun.{leave_call, answered, enter, run_expression, run_arguments, run_statement}
use Rattle.treerun.specs.TreeRun.{run_statements, clocked}

-- The limits of the second run beside those of the first: its fuel as a function of the other's, and its depth.
-- `Wanting` are the endings for want of what the second run has more of. `Open` says how many calls may be open.
pub record Limits {W : Type 0} (S : Setting W) : Type 1 where
  pub more : ℕ → ℕ
  pub depth' : ℕ
  pub Wanting : Ending → Type 0
  pub Open : ℕ → Type 0
  pub more_by_one : (n : ℕ) → more (suc n) ≡ suc (more n)
  pub no_fuel : (more 0 ≡ 0) ⊎ Wanting NoFuel
  pub one_more_call : (calls : ℕ) → Open calls → eqb calls S.depth ≡ false → Open (suc calls)
  pub too_deep : (calls : ℕ) → Open calls →
      (eqb calls S.depth ≡ eqb calls depth') ⊎ ((eqb calls S.depth ≡ true) × Wanting TooDeep)

-- Both runs have the same fuel and depth.
abbrev pub same_limits : {W : Type 0} (S : Setting W) → Limits S
same_limits S = record {
  more = λ n. n;
  depth' = S.depth;
  Wanting = λ e. ⊥;
  Open = λ calls. Unit {0};
  more_by_one = λ n. refl;
  no_fuel = inl refl;
  one_more_call = λ calls q e. tt;
  too_deep = λ calls q. inl refl;
}

-- The setting of the second run.
abbrev pub second_setting : {W : Type 0} {S : Setting W} → Limits S → Setting W
second_setting {S = S} limits =
    record { kind = S.kind; holds = S.holds; functions = S.functions; depth = limits.depth' }

-- A likeness of states: the same names, words and bays, and a fuel that is a function of the other's.
-- Each single step keeps it.
pub record Likeness {W : Type 0} (S : Setting W) (limits : Limits S) : Type 1 where
  pub Like : State W → State W → Type 0
  pub names_same : (σ σ' : State W) → Like σ σ' → σ.names ≡ σ'.names
  pub words_same : (σ σ' : State W) → Like σ σ' → σ.words ≡ σ'.words
  pub bays_same : (σ σ' : State W) → Like σ σ' → σ.bays ≡ σ'.bays
  pub fuel_is_more : (σ σ' : State W) → Like σ σ' → limits.more σ.fuel ≡ σ'.fuel
  pub words_alike : (ws : List W) (σ σ' : State W) → Like σ σ' → Like (with_words ws σ) (with_words ws σ')
  pub bays_alike : (bs : List W) (σ σ' : State W) → Like σ σ' → Like (with_bays bs σ) (with_bays bs σ')
  pub fuel_alike : (n : ℕ) (σ σ' : State W) → Like σ σ' → Like (with_fuel n σ) (with_fuel (limits.more n) σ')
  pub bound : (ds : List VariableDeclaration) (σ σ' : State W) → Like σ σ' →
      Like (bind_variables S.kind ds σ) (bind_variables S.kind ds σ')
  pub given : (parameters : List ℕ) (ws : List W) (σ σ' : State W) → Like σ σ' →
      Like (bind_parameters parameters ws σ) (bind_parameters parameters ws σ')
  pub dropped : (σ σ' τ τ' : State W) → Like σ σ' → Like τ τ' → Like (drop_to σ τ) (drop_to σ' τ')

-- States that are equal, but that the second has the fuel that its limits give it.
abbrev pub equal : {W : Type 0} {S : Setting W} (limits : Limits S) → Likeness S limits
equal {W} {S} limits = record {
  Like = λ σ σ'. with_fuel (limits.more σ.fuel) σ ≡ σ';
  names_same = λ σ σ' e. ap (λ (s : State W). s.names) e;
  words_same = λ σ σ' e. ap (λ (s : State W). s.words) e;
  bays_same = λ σ σ' e. ap (λ (s : State W). s.bays) e;
  fuel_is_more = λ σ σ' e. ap (λ (s : State W). s.fuel) e;
  words_alike = λ ws σ σ' e. ap (λ (s : State W). with_words ws s) e;
  bays_alike = λ bs σ σ' e. ap (λ (s : State W). with_bays bs s) e;
  fuel_alike = λ n σ σ' e. ap (λ (s : State W). with_fuel (limits.more n) s) e;
  bound = λ ds σ σ' e. ap (λ (s : State W). bind_variables S.kind ds s) e;
  given = λ parameters ws σ σ' e. ap (λ (s : State W). bind_parameters parameters ws s) e;
  dropped = λ σ σ' τ τ' e f.
      ap (λ (s : State W). drop_to s (with_fuel (limits.more τ.fuel) τ)) e ∙ ap (λ (s : State W). drop_to σ' s) f;
}

module _ {W : Type 0} {S : Setting W} {limits : Limits S} (k : Likeness S limits) where
  -- Two states that are alike, the first of at most m fuel.
  pub record Near (m : ℕ) (σ σ' : State W) : Type 0 where
    pub like : k.Like σ σ'
    pub low : σ.fuel ≤ m

  -- Two outcomes that are the same but for their states, which are alike;
  -- or the first run ends for want of what the second has more of.
  pub data Alike {A : Type 0} (m : ℕ) : Outcome W A → Outcome W A → Type 0 where
    values : (a : A) (σ σ' : State W) → Near m σ σ' → Alike m (value a σ) (value a σ')
    returns : (w : W) (σ σ' : State W) → Near m σ σ' → Alike m (returned w σ) (returned w σ')
    endings : (e : Ending) (place : ℕ) (σ σ' : State W) → Near m σ σ' → Alike m (ended e place σ) (ended e place σ')
    wants : (e : Ending) (place : ℕ) (σ : State W) (r' : Outcome W A) → limits.Wanting e → Alike m (ended e place σ) r'

  weaker : {m n : ℕ} {σ σ' : State W} → m ≤ n → Near m σ σ' → Near n σ σ'
  weaker l h = record { like = h.like; low = omega (arith, h.low) }

  pub weaken : {A : Type 0} {m n : ℕ} {r r' : Outcome W A} → m ≤ n → Alike m r r' → Alike n r r'
  weaken l (values a σ σ' h) = values a σ σ' (weaker l h)
  weaken l (returns w σ σ' h) = returns w σ σ' (weaker l h)
  weaken l (endings e place σ σ' h) = endings e place σ σ' (weaker l h)
  weaken l (wants e place σ r' h) = wants e place σ r' h

  then-alike : {A B : Type 0} {m : ℕ} {r r' : Outcome W A} {next next' : A → State W → Outcome W B} → Alike m r r' →
      ((a : A) (σ σ' : State W) → Near m σ σ' → Alike m (next a σ) (next' a σ')) →
      Alike m (and_then r next) (and_then r' next')
  then-alike (values a σ σ' h) g = g a σ σ' h
  then-alike (returns w σ σ' h) g = returns w σ σ' h
  then-alike (endings e place σ σ' h) g = endings e place σ σ' h
  then-alike (wants e place σ r' h) g = wants e place σ _ h

  branch-alike : {A : Type 0} {m : ℕ} (b : Bool) (σ σ' : State W) (f g f' g' : State W → Outcome W A) →
      Alike m (f σ) (f' σ') → Alike m (g σ) (g' σ') → Alike m (branch b σ f g) (branch b σ' f' g')
  branch-alike true σ σ' f g f' g' h i = h
  branch-alike false σ σ' f g f' g' h i = i

  -- The first run has no fuel: the second has none either, or it may have more.
  empty-alike : {A : Type 0} (place m : ℕ) (σ σ' : State W) (next' : State W → Outcome W A) → Near m σ σ' →
      (limits.more 0 ≡ 0) ⊎ limits.Wanting NoFuel →
      Alike m (ended NoFuel place σ) (spend_from place (limits.more 0) σ' next')
  empty-alike {A} place m σ σ' next' h (inl e) =
      subst (λ (n : ℕ). Alike {A = A} m (ended NoFuel place σ) (spend_from place n σ' next')) (sym e)
      (endings NoFuel place σ σ' h)
  empty-alike place m σ σ' next' h (inr w) = wants NoFuel place σ _ w

  spend-alike : {A : Type 0} (place n m : ℕ) (σ σ' : State W) (next next' : State W → Outcome W A) →
      σ.fuel ≡ n → Near m σ σ' →
      ((l : ℕ) (τ τ' : State W) → l < m → Near l τ τ' → Alike l (next τ) (next' τ')) →
      Alike m (spend_from place n σ next) (spend_from place (limits.more n) σ' next')
  spend-alike place zero m σ σ' next next' e h g = empty-alike place m σ σ' next' h limits.no_fuel
  spend-alike {A} place (suc n) m σ σ' next next' e h g =
      let low : suc n ≤ m = omega (arith, h.low) in
      subst (λ (n' : ℕ). Alike {A = A} m (next (with_fuel n σ)) (spend_from place n' σ' next'))
      (sym (limits.more_by_one n))
      (weaken (omega arith)
      (g n (with_fuel n σ) (with_fuel (limits.more n) σ') (omega arith)
      (record { like = k.fuel_alike n σ σ' h.like; low = omega arith })))

  -- One fuel is spent in both runs.
  spends-alike : {A : Type 0} (place m : ℕ) (σ σ' : State W) (next next' : State W → Outcome W A) → Near m σ σ' →
      ((l : ℕ) (τ τ' : State W) → l < m → Near l τ τ' → Alike l (next τ) (next' τ')) →
      Alike m (spend place σ next) (spend place σ' next')
  spends-alike place m σ σ' next next' h g =
      subst (λ (n : ℕ). Alike m (spend place σ next) (spend_from place n σ' next')) (k.fuel_is_more σ σ' h.like)
      (spend-alike place σ.fuel m σ σ' next next' refl h g)

  drop-near : {m l : ℕ} {σ σ' τ τ' : State W} → Near l σ σ' → Near m τ τ' → Near m (drop_to σ τ) (drop_to σ' τ')
  drop-near g h = record { like = k.dropped _ _ _ _ g.like h.like; low = h.low }

  block-alike : {m : ℕ} {r r' : Outcome W W} (word : W) (σ σ' : State W) → Near m σ σ' → Alike m r r' →
      Alike m (leave_block word σ r) (leave_block word σ' r')
  block-alike word σ σ' g (values w τ τ' h) = values word _ _ (drop-near g h)
  block-alike word σ σ' g (returns w τ τ' h) = returns w τ τ' h
  block-alike word σ σ' g (endings e place τ τ' h) = endings e place τ τ' h
  block-alike word σ σ' g (wants e place τ r' h) = wants e place τ _ h

  call-alike : {m : ℕ} {r r' : Outcome W W} (word : W) (σ σ' : State W) → Near m σ σ' → Alike m r r' →
      Alike m (leave_call word σ r) (leave_call word σ' r')
  call-alike word σ σ' g (values w τ τ' h) = values word _ _ (drop-near g h)
  call-alike word σ σ' g (returns w τ τ' h) = values w _ _ (drop-near g h)
  call-alike word σ σ' g (endings e place τ τ' h) = endings e place τ τ' h
  call-alike word σ σ' g (wants e place τ r' h) = wants e place τ _ h

  answer-alike : {m : ℕ} (place : ℕ) (answer : BayAnswer W) (σ σ' : State W) → Near m σ σ' →
      Alike m (answered place answer σ) (answered place answer σ')
  answer-alike place (gives w bs) σ σ' h =
      values w _ _ (record { like = k.bays_alike bs σ σ' h.like; low = h.low })
  answer-alike place (fails e) σ σ' h = endings e place σ σ' h

  -- What is read off the bindings is the same in both runs.
  bindings-alike : {B : Type 0} {m : ℕ} (f : List ℕ → List W → B) (next : B → State W → Outcome W W)
      (σ σ' : State W) → Near m σ σ' →
      Alike m (next (f σ.names σ.words) σ) (next (f σ.names σ.words) σ') →
      Alike m (next (f σ.names σ.words) σ) (next (f σ'.names σ'.words) σ')
  bindings-alike {B} {m} f next σ σ' h g =
      let same : f σ.names σ.words ≡ f σ'.names σ'.words =
      ap (λ (ns : List ℕ). f ns σ.words) (k.names_same σ σ' h.like)
      ∙ ap (λ (ws : List W). f σ'.names ws) (k.words_same σ σ' h.like) in
      subst (λ (b : B). Alike m (next (f σ.names σ.words) σ) (next b σ')) same g

  -- What a bay answers depends on the bays alone.
  bay-alike : {m : ℕ} (place : ℕ) (bay : List W → BayAnswer W) (σ σ' : State W) → Near m σ σ' →
      Alike m (answered place (bay σ.bays) σ) (answered place (bay σ'.bays) σ')
  bay-alike {m} place bay σ σ' h =
      subst (λ (bs : List W). Alike m (answered place (bay σ.bays) σ) (answered place (bay bs) σ'))
      (k.bays_same σ σ' h.like) (answer-alike place (bay σ.bays) σ σ' h)

  -- The calls open are compared with the depth in both runs.
  depth-alike : {A : Type 0} (b b' : Bool) (place m : ℕ) (σ σ' : State W) (next next' : State W → Outcome W A) →
      Near m σ σ' → (b ≡ b') ⊎ ((b ≡ true) × limits.Wanting TooDeep) → (b ≡ false → Alike m (next σ) (next' σ')) →
      Alike m (branch b σ (λ σ. ended TooDeep place σ) next) (branch b' σ' (λ σ. ended TooDeep place σ) next')
  depth-alike true true place m σ σ' next next' h t g = endings TooDeep place σ σ' h
  depth-alike true false place m σ σ' next next' h (inl e) g = absurd (true≢false e)
  depth-alike true false place m σ σ' next next' h (inr w) g = wants TooDeep place σ _ w.1
  depth-alike false true place m σ σ' next next' h (inl e) g = absurd (false≢true e)
  depth-alike false true place m σ σ' next next' h (inr w) g = absurd (false≢true w.0)
  depth-alike false false place m σ σ' next next' h t g = g refl

  -- What runs after a fuel was spent is alike in both runs, at less fuel than F.
  abbrev pub DeepAlike : (deep deep' : ℕ → Statement → State W → Outcome W W) → ℕ → Type 0
  DeepAlike deep deep' F =
      (m calls : ℕ) (s : Statement) (σ σ' : State W) → m < F → limits.Open calls → Near m σ σ' →
      Alike m (deep calls s σ) (deep' calls s σ')

  module _ (deep deep' : ℕ → Statement → State W → Outcome W W) (F : ℕ) (deeper : DeepAlike deep deep' F) where
    enter-alike : (m place calls : ℕ) (f : Option Function) (ws : List W) (σ σ' : State W) →
        m ≤ F → limits.Open calls → Near m σ σ' →
        Alike m (enter S deep place calls f ws σ) (enter (second_setting limits) deep' place calls f ws σ')
    enter-alike m place calls None ws σ σ' l q h = values _ σ σ' h
    enter-alike m place calls (Some f) ws σ σ' l q h =
        depth-alike (eqb calls S.depth) (eqb calls limits.depth') place m σ σ' _ _ h
        (limits.too_deep calls q) (λ e.
        spends-alike place m σ σ' _ _ h (λ n τ τ' j i.
        call-alike (zero_word S.kind) τ τ' i
        (deeper n (suc calls) f.body _ _ (omega arith) (limits.one_more_call calls q e)
        (record { like = k.given f.parameters ws τ τ' i.like; low = i.low }))))

    mutual
      unfolding run_expression

      pub expression-alike : (e : Expression) (m calls : ℕ) (σ σ' : State W) →
          m ≤ F → limits.Open calls → Near m σ σ' →
          Alike m (run_expression S deep e calls σ) (run_expression (second_setting limits) deep' e calls σ')
      expression-alike (constant a v) m calls σ σ' l q h = values _ σ σ' h
      expression-alike (variable a x) m calls σ σ' l q h =
          bindings-alike (λ ns ws. look_up (zero_word S.kind) x ns ws) (λ v τ. value v τ) σ σ' h
          (values _ σ σ' h)
      expression-alike (binary a o e f) m calls σ σ' l q h =
          then-alike (expression-alike e m calls σ σ' l q h) (λ x τ τ' i.
          then-alike (expression-alike f m calls τ τ' l q i) (λ y υ υ' j. values _ υ υ' j))
      expression-alike (assign a x e) m calls σ σ' l q h =
          then-alike (expression-alike e m calls σ σ' l q h) (λ w τ τ' i.
          bindings-alike (λ ns ws. store x w ns ws) (λ ws τ. value w (with_words ws τ)) τ τ' i
          (values w _ _ (record { like = k.words_alike _ τ τ' i.like; low = i.low })))
      expression-alike (call a f es) m calls σ σ' l q h =
          then-alike (arguments-alike es m calls [] σ σ' l q h) (λ ws τ τ' i.
          enter-alike m a calls (function_named f S.functions) ws τ τ' l q i)
      expression-alike (bay_read a e) m calls σ σ' l q h =
          then-alike (expression-alike e m calls σ σ' l q h) (λ x τ τ' i.
          bay-alike a (λ bs. read_bay bs (S.kind.slot x)) τ τ' i)
      expression-alike (bay_write a e f) m calls σ σ' l q h =
          then-alike (expression-alike e m calls σ σ' l q h) (λ x τ τ' i.
          then-alike (expression-alike f m calls τ τ' l q i) (λ w υ υ' j.
          bay-alike a (λ bs. write_bay S.holds bs (S.kind.slot x) w) υ υ' j))

      pub arguments-alike : (es : Arguments) (m calls : ℕ) (ws : List W) (σ σ' : State W) →
          m ≤ F → limits.Open calls → Near m σ σ' →
          Alike m (run_arguments S deep es calls ws σ) (run_arguments (second_setting limits) deep' es calls ws σ')
      arguments-alike no_argument m calls ws σ σ' l q h = values ws σ σ' h
      arguments-alike (argument e es) m calls ws σ σ' l q h =
          then-alike (expression-alike e m calls σ σ' l q h) (λ w τ τ' i.
          arguments-alike es m calls (w ∷ ws) τ τ' l q i)

    mutual
      unfolding run_statement

      pub statement-alike : (s : Statement) (m calls : ℕ) (σ σ' : State W) →
          m ≤ F → limits.Open calls → Near m σ σ' →
          Alike m (run_statement S deep s calls σ) (run_statement (second_setting limits) deep' s calls σ')
      statement-alike (evaluate a e) m calls σ σ' l q h = expression-alike e m calls σ σ' l q h
      statement-alike (if_else a e s t) m calls σ σ' l q h =
          then-alike (expression-alike e m calls σ σ' l q h) (λ w τ τ' i.
          branch-alike (S.kind.zero w) τ τ'
          (λ σ. run_statement S deep t calls σ) (λ σ. run_statement S deep s calls σ)
          (λ σ. run_statement (second_setting limits) deep' t calls σ)
          (λ σ. run_statement (second_setting limits) deep' s calls σ)
          (statement-alike t m calls τ τ' l q i) (statement-alike s m calls τ τ' l q i))
      statement-alike (while a e s) m calls σ σ' l q h =
          spends-alike a m σ σ' _ _ h (λ n τ τ' p i.
          then-alike (expression-alike e n calls τ τ' (omega arith) q i) (λ w υ υ' j.
          branch-alike (S.kind.zero w) υ υ'
          (λ σ. value (zero_word S.kind) σ)
          (λ σ. and_then (run_statement S deep s calls σ) (λ v σ. deep calls (while a e s) σ))
          (λ σ. value (zero_word S.kind) σ)
          (λ σ. and_then (run_statement (second_setting limits) deep' s calls σ) (λ v σ. deep' calls (while a e s) σ))
          (values _ υ υ' j)
          (then-alike (statement-alike s n calls υ υ' (omega arith) q j) (λ v φ φ' c.
          deeper n calls (while a e s) φ φ' (omega arith) q c))))
      statement-alike (give_back a e) m calls σ σ' l q h =
          then-alike (expression-alike e m calls σ σ' l q h) (λ w τ τ' i. returns w τ τ' i)
      statement-alike (block a ds ss) m calls σ σ' l q h =
          block-alike (zero_word S.kind) σ σ' h
          (statements-alike ss m calls (bind_variables S.kind ds σ) (bind_variables S.kind ds σ') l q
          (record { like = k.bound ds σ σ' h.like; low = h.low }))

      pub statements-alike : (ss : Statements) (m calls : ℕ) (σ σ' : State W) →
          m ≤ F → limits.Open calls → Near m σ σ' →
          Alike m (run_statements S deep ss calls σ) (run_statements (second_setting limits) deep' ss calls σ')
      statements-alike no_statement m calls σ σ' l q h = values _ σ σ' h
      statements-alike (then s ss) m calls σ σ' l q h =
          then-alike (statement-alike s m calls σ σ' l q h) (λ w τ τ' i. statements-alike ss m calls τ τ' l q i)

  -- Two clocks of at least F serve all runs of less fuel than F.
  pub clocks-alike : (F clock clock' : ℕ) → F ≤ clock → F ≤ clock' →
      DeepAlike (clocked S clock) (clocked (second_setting limits) clock') F
  unfolding clocked
  clocks-alike zero clock clock' g h m calls s σ σ' l q i = absurd (omega arith)
  clocks-alike (suc F) zero clock' g h m calls s σ σ' l q i = absurd (omega arith)
  clocks-alike (suc F) (suc clock) zero g h m calls s σ σ' l q i = absurd (omega arith)
  clocks-alike (suc F) (suc clock) (suc clock') g h m calls s σ σ' l q i =
      statement-alike (clocked S clock) (clocked (second_setting limits) clock') F
      (clocks-alike F clock clock' (omega arith) (omega arith)) s m calls σ σ' (omega arith) q i
