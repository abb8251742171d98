-- The two calls that set the machine going: an arm begins a run, and a run goes on where the machine stands.
use Rattle.std.proofs.Common.{◌≡◌, ℕ, suc, ◌+◌, ◌*◌, ◌≤◌, Bool, true, false, ◌&&◌, leb, List, [], length, ℤ, Some, Ok, Err, Option, Result, sym, refl, ap, ◌∙◌, subst, add-suc, arith, leb-true}
use lib.ListN.{length-map}
use Rattle.kinds.specs.Kinds.{Kind}
use Rattle.script.specs.declared.refusal.Refusal.{Refusal}
use Rattle.script.specs.declared.refusal.Refusal.TheVariants.{FuelOrDepth, TooFewWords, WrongState}
use Rattle.syntax.specs.Syntax.{Program, globals_of, number_of}
use Rattle.syntax.specs.Typed.{program_of}
use Rattle.names.specs.Need.{largest_need}
use Rattle.names.specs.Names.{◌⨟◌}
use Rattle.code.specs.Scheme.{global_numbers, global_count}
use Rattle.machine.specs.Machine.{Image, MachineState, Progress, running, undefined, step, proceed, run, armed}
use Rattle.machine.specs.declared.outcome.Stop.TheVariants.{Over, Undefined}
use Rattle.machine.specs.Steps.{Told, run_at_most, end_of}
use Rattle.machine.proofs.Runs.{run-add}
use Rattle.machine.proofs.Budgets.{Tells, tells}
use Rattle.agreement.specs.Agreement.{program_image, Ends}
use Rattle.agreement.proofs.Agreed.{agreement}
use Rattle.agreement.proofs.Pieces.{never-undefined}
use Rattle.cell.specs.Outcomes.{Shown, World, machine_in, counted, image_in, globals_told, words_wanted, words_suffice}
use Rattle.script.specs.declared.limits.Limits.{Limits}
use Rattle.script.specs.Limits.{within_limits}
use Rattle.script.specs.Refusals.{unless}
use Rattle.cell.specs.Outcomes.{arms, arm_rules, armed_by, run_state, ran_to, ran_of, ran_by}
use Rattle.cell.specs.declared.calls.State.{State}
use Rattle.cell.specs.Promises.{Armed, Notes, grant, tree_run}
use Rattle.cell.proofs.Standing.{HasCode, Begun, GoesOn, image_of, start_of, Stands, StandsIn}

-- ---- what the cell keeps is what the program says

counts : (p : Program) → length (global_numbers p) ≡ global_count p
counts p = length-map (globals_of p) number_of

module _ {p : Program} {s : Shown} (h : HasCode p s) where
  pub globals-are : length s.numbers ≡ global_count p
  globals-are = ap (λ (l : List ℤ). length l) h.numbers ∙ counts p

  pub image-is :
      {W : Type 0} (kind : Kind W) (holds : W → Bool) (depth globals : ℕ) → globals ≡ global_count p
      → image_in kind holds depth globals s ≡ program_image kind holds p depth
  image-is kind holds depth globals e = λ t. record {
    kind = kind;
    holds = holds;
    code = h.code t;
    entries = h.entries t;
    depth = depth;
    globals = e t;
  }

  -- What an arm leaves is the state from which the agreement begins.
  pub armed-is :
      {W : Type 0} (kind : Kind W) (holds : W → Bool) (depth fuel : ℕ) (words bays : List W)
      → armed (program_image kind holds p depth) (global_numbers p) words bays fuel
      ≡ armed (image_in kind holds depth (globals_told s) s) s.numbers words bays fuel
  armed-is kind holds depth fuel words bays =
      λ t. armed (sym (image-is kind holds depth (globals_told s) globals-are) t) (sym h.numbers t) words bays fuel

  pub wanted-is : (depth : ℕ) → words_wanted depth s ≡ global_count p + (depth + 1) * largest_need p
  wanted-is depth = λ t. globals-are t + (depth + 1) * h.need t

-- A test that passed.
passed : (b : Bool) (e : Refusal) → unless b e ≡ Ok tt → b ≡ true
passed true e q = refl
passed false e q = absurd (let z : ◌≡◌ {A = ℕ} 0 1 = cc in omega arith)

first-passed : (a b : Result (Unit {0}) Refusal) → a ⨟ b ≡ Ok tt → a ≡ Ok tt
first-passed (Ok u) b q = refl
first-passed (Err e) b q = absurd (let z : ◌≡◌ {A = ℕ} 0 1 = cc in omega arith)

both-passed :
    (a b : Result (Unit {0}) Refusal) → a ⨟ b ≡ Ok tt → b ≡ Ok tt
both-passed (Ok u) b q = q
both-passed (Err e) b q = absurd (let z : ◌≡◌ {A = ℕ} 0 1 = cc in omega arith)

-- An arm that is taken has words enough.
arm-fits :
    (state : State) (limits : Limits) (wanted lent : ℕ) → arm_rules state limits wanted lent ≡ Ok tt → wanted ≤ lent
arm-fits state limits wanted lent q =
    let after-state = both-passed (unless (arms state) WrongState) _ q in
    let after-numbers =
    both-passed (unless (within_limits limits) FuelOrDepth) (words_suffice wanted lent) after-state in
    leb-true wanted lent (passed (leb wanted lent) (TooFewWords wanted) after-numbers)

-- And little fuel.
both-true : (a b : Bool) → a && b ≡ true → a ≡ true
both-true true b q = refl
both-true false b q = absurd (let z : ◌≡◌ {A = ℕ} 0 1 = cc in omega arith)

arm_little :
    (state : State) (limits : Limits) (wanted lent : ℕ) → arm_rules state limits wanted lent ≡ Ok tt
    → limits.fuel ≤ 1000000
arm_little state limits wanted lent q =
    let after-state = both-passed (unless (arms state) WrongState) _ q in
    let within = passed (within_limits limits) FuelOrDepth (first-passed _ (words_suffice wanted lent) after-state) in
    leb-true limits.fuel 1000000 (both-true (leb limits.fuel 1000000) (leb limits.depth 63) within)

-- Steps counted one piece after another.
counted-more : (a b : ℕ) → counted (counted a + b) ≡ counted (a + b)
counted-more a b = grind arith

module _ {W : Type 0} (kind : Kind W) (holds : W → Bool) where
  -- ---- an arm

  pub begins :
      (n : Notes W) (w : World W) (state : State) (limits : Limits) → HasCode (program_of n.coded) w.cell
      → arm_rules state limits (words_wanted limits.depth w.cell) (length w.words) ≡ Ok tt
      → GoesOn kind holds 0
      (record {
        loaded = n.loaded;
        coded = n.coded;
        armed = Some (record { fuel = limits.fuel; depth = limits.depth; bays = w.bays; granted = 0 });
      })
      (armed_by kind holds limits w).world
  unfolding run
  begins n w state limits h q = record {
    begun = record {
      has = record {
        code = h.code;
        entries = h.entries;
        numbers = h.numbers;
        need = h.need;
        named = h.named;
        short = h.short;
      };
      arm = record { fuel = limits.fuel; depth = limits.depth; bays = w.bays; granted = 0 };
      noted = refl;
      depth = refl;
      globals = globals-are h;
      fuel = refl;
      little = arm_little state limits (words_wanted limits.depth w.cell) (length w.words) q;
      words = w.words;
      room =
          subst (λ (k : ℕ). k ≤ length w.words) (wanted-is h limits.depth)
          (arm-fits state limits (words_wanted limits.depth w.cell) (length w.words) q);
    };
    all = refl;
    came = ap (λ (m : MachineState W). running m) (armed-is h kind holds limits.depth limits.fuel w.words w.bays);
    steps = refl;
  }

  -- The agreement, of the run that was begun.
  pub ends :
      (n : Notes W) (w : World W) (b : Begun kind holds n w)
      → Ends (image_of kind holds b) (start_of kind holds b) (tree_run kind holds n b.arm)
  ends n w b =
      agreement kind holds (program_of n.coded) b.has.named b.arm.depth b.arm.fuel b.words
      b.arm.bays b.room [] []

  -- ---- a run

  module _ (before : ℕ) (n : Notes W) (w : World W) (g : GoesOn kind holds before n w) where
    abbrev I : Image W
    I = image_of kind holds g.begun

    abbrev m : MachineState W
    m = start_of kind holds g.begun

    abbrev past : ℕ
    past = g.begun.arm.granted

    -- Some steps more, from where the machine stands.
    onward : (k : ℕ) → run I (past + k) m ≡ run I k (machine_in w)
    onward k = run-add I past k m ∙ ap (λ (o : Progress W). proceed o (run I k)) g.came

    undefined-next :
        (k : ℕ) (x : MachineState W) → run I k (machine_in w) ≡ running x → step I x ≡ undefined
        → run I (past + (k + 1)) m ≡ undefined
    unfolding run
    undefined-next k x h u =
        onward (k + 1)
        ∙ run-add I k 1 (machine_in w)
        ∙ ap (λ (o : Progress W). proceed o (run I 1)) h
        ∙ ap (λ (o : Progress W). proceed o (run I 0)) u

    -- The notes with more steps granted.
    abbrev granting : ℕ → Armed W
    granting k = record {
      fuel = g.begun.arm.fuel;
      depth = g.begun.arm.depth;
      bays = g.begun.arm.bays;
      granted = past + k;
    }

    abbrev noting : ℕ → Notes W
    noting k = record { loaded = n.loaded; coded = n.coded; armed = grant k n.armed }

    abbrev ran : Told → ℕ → MachineState W → World W
    ran outcome made x = (ran_to kind holds w (record { outcome = outcome; made = made; state = x })).world

    abbrev still-begun :
        (k : ℕ) (outcome : Told) (made : ℕ) (x : MachineState W) → Begun kind holds (noting k) (ran outcome made x)
    still-begun k outcome made x = record {
      has = record {
        code = g.begun.has.code;
        entries = g.begun.has.entries;
        numbers = g.begun.has.numbers;
        need = g.begun.has.need;
        named = g.begun.has.named;
        short = g.begun.has.short;
      };
      arm = granting k;
      noted = ap (λ (o : Option (Armed W)). grant k o) g.begun.noted;
      depth = g.begun.depth;
      globals = g.begun.globals;
      fuel = g.begun.fuel;
      little = g.begun.little;
      words = g.begun.words;
      room = g.begun.room;
    }

    steps-counted : (made : ℕ) → counted (w.cell.steps + made) ≡ counted (past + made)
    steps-counted made = ap (λ (s : ℕ). counted (s + made)) g.steps ∙ counted-more past made

    goes :
        (k : ℕ) (outcome : Told) (made : ℕ) (x : MachineState W) → Tells I k (machine_in w) outcome made x
        → StandsIn kind holds (run_state (end_of outcome)) (before + made) (noting k) (ran outcome made x)
    goes k (Ok u) made x (a, h) = record {
      begun = still-begun k (Ok u) made x;
      all = (λ t. g.all t + a t);
      came = onward k ∙ h;
      steps = steps-counted made ∙ ap (λ (z : ℕ). counted (past + z)) a;
    }
    goes k (Err Undefined) made x (l, h, u) =
        absurd (never-undefined (ends n w g.begun) (past + (made + 1)) (undefined-next made x h u))
    goes k (Err (Over e)) made x (count, a, l, y, h, o) = record {
      begun = still-begun k (Err (Over e)) made x;
      end = e;
      told = refl;
      count = past + count;
      all = (λ t. g.all t + a t) ∙ add-suc past count;
      last = y;
      came = onward count ∙ h;
      ended = ap (λ (z : ℕ). run I z m) (sym (add-suc past count)) ∙ onward (suc count) ∙ o;
      steps =
          steps-counted made
          ∙ ap (λ (z : ℕ). counted (past + z)) a
          ∙ ap (λ (z : ℕ). counted z) (add-suc past count);
    }

    pub runs :
        (k : ℕ) → Stands kind holds (before + (ran_of kind holds k w).made) (noting k) (ran_by kind holds k w).world
    runs k =
        subst
        (λ (J : Image W).
        (let r = run_at_most J k (machine_in w) in
        StandsIn kind holds (run_state (end_of r.outcome)) (before + r.made) (noting k) (ran_to kind holds w r).world))
        (sym
        (ap (λ (depth : ℕ). image_in kind holds depth w.cell.registers.globals w.cell) g.begun.depth
        ∙ image-is g.begun.has kind holds g.begun.arm.depth w.cell.registers.globals
        g.begun.globals))
        (goes k _ _ _ (tells I k (machine_in w)))
