-- A whole run on the live words: it ends as the tree run does, and credits bound its steps at every moment.
use Rattle.std.proofs.Common.{◌≡◌, ℕ, zero, suc, ◌+◌, ◌-◌, ◌*◌, ◌≤◌, List, [], ◌∷◌, ◌++◌, length, Some, sym, refl, ap, ◌∙◌, subst, suc-mul, arith, length-append}
use Rattle.std.specs.List.{slice_get}
use Rattle.script.specs.declared.ending.Ending.{Ending}
use Rattle.script.specs.declared.ending.Ending.TheVariants.{Done}
use Rattle.syntax.specs.Syntax.{Statement}
use Rattle.syntax.specs.Syntax.{Function}
use Rattle.names.specs.Need.{need_statement}
use Rattle.treerun.specs.TreeRun.{State, Outcome, value, returned, ended, oldest}
use Rattle.treerun.specs.TreeRun.{clocked, run_main}
use Rattle.code.specs.declared.instruction.Operation.TheVariants.{Halt}
use Rattle.code.specs.Scheme.{op}
use Rattle.agreement.proofs.Scene.{Scene, setting_in}
use Rattle.agreement.proofs.Live.{LiveState, LiveProgress, goes, stops, stuck, go_to, live_step, live_proceed, live_run}
use Rattle.agreement.proofs.Placed.{Has, PlacedStatement}
use Rattle.agreement.proofs.Lists.{slice_get-lt, oldest-append, above-true}
use Rattle.agreement.proofs.Relation.{Working, Surroundings, tree_state, machine_at, Fits, SameEnd, Unfinished, Reaches}
use Rattle.agreement.proofs.Relation.{arrived, after_step, after_tick, at-step}
use Rattle.agreement.proofs.Parts.{SimulatesValue}
use Rattle.agreement.proofs.Calls.{Linked}
use Rattle.agreement.proofs.Simulation.{simulate_statement, clocked-faithful}

module _ {W : Type 0} (S : Scene W) where
  abbrev L : ℕ
  L = length S.code

  -- After t steps the machine still runs, and t steps and L for each fuel left are within a bound.
  abbrev LiveRuns : ℕ → ℕ → LiveState W → Type 0
  LiveRuns t bound m =
      (x : LiveState W) × (live_run S t m ≡ goes x) × (t + x.fuel * L ≤ bound) × (x.fuel ≤ m.fuel)

  -- So it is after each number of steps up to s.
  pub record Within (s bound : ℕ) (m : LiveState W) : Type 0 where
    pub at : (t : ℕ) → t ≤ s → LiveRuns t bound m

  -- The run ends after `steps` instructions and one more, with ending e at place a, where the tree run has left σ.
  pub record EndsLive (m : LiveState W) (e : Ending) (a : ℕ) (σ : State W) : Type 0 where
    pub steps : ℕ
    pub final : LiveState W
    pub ends : live_run S (suc steps) m ≡ stops e a final
    pub same : SameEnd (length S.globals) σ final
    pub spent : final.fuel ≤ m.fuel
    pub bound : suc steps + final.fuel * L ≤ L + m.fuel * L
    pub within : Within steps (L + m.fuel * L) m

  abbrev pub AgreesLive : LiveState W → Outcome W W → Type 0
  AgreesLive m (value w σ) = (e : EndsLive m Done 0 σ) × (e.final.live ≡ w ∷ e.same.globals)
  AgreesLive m (returned w σ) = (e : EndsLive m Done 0 σ) × (e.final.live ≡ w ∷ e.same.globals)
  AgreesLive m (ended e a σ) = EndsLive m e a σ × Unfinished e

  run-suc : (n : ℕ) (m m₁ : LiveState W) → live_step S m ≡ goes m₁ → live_run S (suc n) m ≡ live_run S n m₁
  unfolding live_run
  run-suc n m m₁ e = ap (λ (o : LiveProgress W). live_proceed S o (live_run S n)) e

  run-zero : (m : LiveState W) → live_run S 0 m ≡ goes m
  unfolding live_run
  run-zero m = refl

  run_end :
      (s : ℕ) (m m₁ m₂ : LiveState W) (e : Ending) (a : ℕ)
      → live_run S s m ≡ goes m₁ → live_step S m₁ ≡ stops e a m₂ → live_run S (suc s) m ≡ stops e a m₂
  unfolding live_run
  run_end zero m m₁ m₂ e a h st =
      let same : m ≡ m₁ = cc in
      ap (λ (x : LiveState W). live_proceed S (live_step S x) (live_run S 0)) same
      ∙ ap (λ (o : LiveProgress W). live_proceed S o (live_run S 0)) st
  run_end (suc s) m m₁ m₂ e a h st = by (live_step S m) h (λ x h. run_end s x m₁ m₂ e a h st)
    where
      by :
          (o : LiveProgress W) → live_proceed S o (live_run S s) ≡ goes m₁
          → ((x : LiveState W) → live_run S s x ≡ goes m₁ → live_run S (suc s) x ≡ stops e a m₂)
          → live_proceed S o (live_run S (suc s)) ≡ stops e a m₂
      by (goes x) h ih = ih x h
      by (stops e₁ a₁ x) h ih = absurd (let z : ◌≡◌ {A = ℕ} 0 1 = cc in omega arith)
      by stuck h ih = absurd (let z : ◌≡◌ {A = ℕ} 0 1 = cc in omega arith)

  -- A run of some steps to m', which leaves j credits of k.
  abbrev Runs : ℕ → LiveState W → ℕ → LiveState W → Type 0
  Runs j m' k m =
      (s : ℕ) × (live_run S s m ≡ goes m') × (s + (j + m'.fuel * L) ≤ k + m.fuel * L)
      × Within s (k + m.fuel * L) m

  -- One step before a run.
  preceding :
      (j k k₁ : ℕ) (m' m m₁ : LiveState W)
      → live_step S m ≡ goes m₁ → suc (k₁ + m₁.fuel * L) ≤ k + m.fuel * L → m₁.fuel ≤ m.fuel
      → Runs j m' k₁ m₁ → Runs j m' k m
  preceding j k k₁ m' m m₁ st h hf (s, e, b, w) =
      (suc s, run-suc s m m₁ st ∙ e, omega arith, record { at = λ t l. earlier t l })
    where
      earlier : (t : ℕ) → t ≤ suc s → LiveRuns t (k + m.fuel * L) m
      earlier zero l = (m, run-zero m, omega arith, omega arith)
      earlier (suc t) l =
          let z = w.at t (omega arith) in
          (z.0, run-suc t m m₁ st ∙ z.1, omega (arith, z.2), omega (arith, z.3))

  reaches-runs : {j : ℕ} {m' : LiveState W} {k : ℕ} {m : LiveState W} → Reaches S j m' k m → Runs j m' k m
  reaches-runs {j} {m' = m'} (arrived {k = k} {m = m} e h) =
      let f : m.fuel * L ≡ m'.fuel * L = ap (λ (x : LiveState W). x.fuel * L) e in (
        0,
        run-zero m ∙ ap (λ (x : LiveState W). goes x) e,
        omega arith,
        record { at = λ t l. (m, ap (λ (x : ℕ). live_run S x m) (none t l) ∙ run-zero m, omega arith, omega arith) },
      )
    where
      none : (t : ℕ) → t ≤ 0 → t ≡ 0
      none t l = omega arith
  reaches-runs {j} {m' = m'} (after_step {k = k} {m = m} k₁ m₁ h s f r) =
      let g : m.fuel * L ≡ m₁.fuel * L = ap (λ (x : ℕ). x * L) f in
      preceding j k k₁ m' m m₁ s (omega arith) (omega arith) (reaches-runs r)
  reaches-runs {j} {m' = m'} (after_tick {k = k} {m = m} k₁ m₁ h s f r) =
      let g : m.fuel * L ≡ m₁.fuel * L + L = ap (λ (x : ℕ). x * L) f ∙ suc-mul m₁.fuel L in
      preceding j k k₁ m' m m₁ s (omega arith) (omega arith) (reaches-runs r)

  runs-spend : (j : ℕ) (m' : LiveState W) (k : ℕ) (m : LiveState W) → Runs j m' k m → m'.fuel ≤ m.fuel
  runs-spend j m' k m (s, e, b, w) =
      let z = w.at s (omega arith) in
      let r : live_run S s m ≡ goes z.0 = z.1 in
      let same : z.0 ≡ m' = cc in
      subst (λ (x : LiveState W). x.fuel ≤ m.fuel) same z.3

  abbrev main_surroundings : Surroundings W
  main_surroundings = record {
    caller_names = [];
    caller_words = [];
    below = [];
    frames = [];
    base = length S.globals;
    leave = Halt;
    limit = length S.globals + S.need;
  }

  -- Both runs start with the globals' words (newest first), the bays and the fuel.
  module _ (globals bays : List W) (fuel : ℕ) where
    abbrev pub live_start : LiveState W
    live_start = record {
      live = globals;
      pc = 0;
      base = length S.globals;
      frames = [];
      bays = bays;
      fuel = fuel;
    }

    module _ (past_names : List ℕ) (past_words : List W) where
      abbrev pub tree_start : State W
      tree_start = record {
        names = S.globals;
        words = globals;
        past_names = past_names;
        past_words = past_words;
        bays = bays;
        fuel = fuel;
      }

      abbrev main_working : Working W
      main_working = record {
        names = [];
        global_names = S.globals;
        past_names = past_names;
        past_words = past_words;
        locals = [];
        globals = globals;
        bays = bays;
        fuel = fuel;
      }

  module _ (links : (f : ℕ) (F : Function) → slice_get S.functions f ≡ Some F → Linked S S.entries f F)
      (room : length S.globals + (S.depth + 1) * S.need ≤ S.capacity)
      (s : Statement) (q : ℕ) (need : need_statement s ≤ S.need)
      (placed : PlacedStatement S Halt s [] 0 q) (closing : Has S q Halt 0)
      (globals bays : List W) (fuel : ℕ) (past_names : List ℕ) (past_words : List W)
      (counted : length globals ≡ length S.globals) where
    abbrev c : Working W
    c = main_working globals bays fuel past_names past_words

    abbrev m : LiveState W
    m = live_start globals bays fuel

    fits : Fits S main_surroundings [] c
    fits =
        let e₁ : S.depth + 1 ≡ suc (S.depth - 0) = omega arith in
        let e : (S.depth + 1) * S.need ≡ (S.depth - 0) * S.need + S.need =
        ap (λ (x : ℕ). x * S.need) e₁ ∙ suc-mul (S.depth - 0) S.need in
        record {
          names = refl;
          global_names = refl;
          locals = refl;
          globals = counted;
          callers = refl;
          base = omega arith;
          apart = λ x k e. refl;
          callers_apart = λ x k e. refl;
          opened = omega arith;
          room = omega arith;
        }

    inside-code : suc q ≤ L
    inside-code = slice_get-lt S.code q (op 0 Halt) closing

    -- From an instruction HALT.
    halts :
        (w : W) (i a : ℕ) (c' : Working W) (σ : State W)
        → σ ≡ tree_state main_surroundings c' → length c'.globals ≡ length globals → Has S i Halt a
        → Reaches S 1 (machine_at main_surroundings (w ∷ []) i c') L m
        → (e : EndsLive m Done 0 σ) × (e.final.live ≡ w ∷ e.same.globals)
    halts w i a c' σ e l h r =
        let z = reaches-runs r in
        let last : LiveState W = machine_at main_surroundings (w ∷ []) i c' in
        let count : ℕ = length S.globals in
        let final : LiveState W = go_to i (w ∷ c'.globals) last in
        let enough : count ≤ length (c'.locals ++ c'.globals) = simp length-append (omega arith) in
        let cut : oldest count (c'.locals ++ c'.globals) ≡ c'.globals =
        oldest-append count c'.locals c'.globals (omega arith) in
        let st : live_step S last ≡ stops Done 0 final =
        at-step S last Halt a h
        ∙ above-true count (c'.locals ++ c'.globals) _ enough
        ∙ ap (λ (x : List W). stops Done 0 (go_to i (w ∷ x) last)) cut in (
          record {
            steps = z.0;
            final = final;
            ends = run_end z.0 m last final Done 0 z.1 st;
            same = record {
              bindings = c'.locals;
              stack = w ∷ [];
              globals = c'.globals;
              words = ap (λ (x : State W). x.words) e;
              live = refl;
              counted = l ∙ counted;
              bays = sym (ap (λ (x : State W). x.bays) e);
              fuel = sym (ap (λ (x : State W). x.fuel) e);
            };
            spent = runs-spend 1 last L m z;
            bound = omega (arith, z.2);
            within = z.3;
          },
          refl,
        )

    finish :
        (r : Outcome W W) → SimulatesValue S main_surroundings [] [] 0 q q c r → AgreesLive m r
    finish (value w σ) (c', e, kp, y, g) =
        halts w q 0 c' σ e kp.globals closing (g L 1 (omega (arith, inside-code)))
    finish (returned w σ) (c', e, l, lf, i, a, h, g) =
        halts w i a c' σ e l.0 h (g L 0 (omega (arith, inside-code)))
    finish (ended n a σ) (m₁, m₂, (st, hf, un), sm, g) =
        let z = reaches-runs (g L (omega (arith, inside-code))) in
        let eq : m₂.fuel * L ≡ m₁.fuel * L = ap (λ (x : ℕ). x * L) hf in (
          record {
            steps = z.0;
            final = m₂;
            ends = run_end z.0 m m₁ m₂ n a z.1 st;
            same = sm;
            spent = omega (arith, runs-spend 1 m₁ L m z);
            bound = omega (arith, z.2);
            within = z.3;
          },
          un,
        )

    pub whole : AgreesLive m (run_main (setting_in S) s (tree_start globals bays fuel past_names past_words))
    unfolding run_main
    whole =
        finish _
        (simulate_statement S links (clocked (setting_in S) fuel) fuel (clocked-faithful S links fuel) s
        main_surroundings [] 0 q q c fits placed (omega arith) (omega arith) (omega arith))
