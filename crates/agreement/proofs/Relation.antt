-- The relation between the tree run of a part and the machine's run of its code, and how its cases compose.
use Rattle.std.proofs.Common.{◌≡◌, ℕ, suc, ◌+◌, ◌-◌, ◌*◌, ◌<◌, ◌≤◌, T, ltb, List, [], ◌∷◌, ◌++◌, length, Option, sym, refl, ap, ◌∙◌, subst, arith, lt→ltb, length-append}
use Rattle.script.specs.declared.ending.Ending.{Ending}
use Rattle.script.specs.declared.ending.Ending.TheVariants.{Done, NoFuel, TooDeep, NoSuchBay, CannotHold}
use Rattle.treerun.specs.TreeRun.{State, Outcome, value, returned, ended}
use Rattle.treerun.specs.TreeRun.{and_then}
use Rattle.code.specs.declared.instruction.Operation.{Operation}
use Rattle.code.specs.declared.instruction.Instruction.{Instruction}
use Rattle.machine.specs.declared.state.Frame.{Frame}
use Rattle.agreement.proofs.Scene.{Scene}
use Rattle.agreement.proofs.Live.{LiveState, goes, stops, pushing, live_execute, live_execute_at, live_step}
use Rattle.agreement.proofs.Placed.{Apart, Has}
use Rattle.agreement.proofs.Lists.{only-true}

-- What a part may change: the bindings of its frame and the globals, what dropped bindings have left, bays and fuel.
pub record Working (W : Type 0) : Type 0 where
  pub names : List ℕ
  pub global_names : List ℕ
  pub past_names : List ℕ
  pub past_words : List W
  pub locals : List W
  pub globals : List W
  pub bays : List W
  pub fuel : ℕ

-- What it leaves alone: the bindings of the callers between its own and the globals; the stack under its frame down
-- to
-- the globals, the frame records, where the frame starts; the operation that a return ends with; and how high the
-- stack may grow.
pub record Surroundings (W : Type 0) : Type 0 where
  pub caller_names : List ℕ
  pub caller_words : List W
  pub below : List W
  pub frames : List Frame
  pub base : ℕ
  pub leave : Operation
  pub limit : ℕ

module _ {W : Type 0} where
  abbrev pub tree_state : Surroundings W → Working W → State W
  tree_state X c = record {
    names = c.names ++ (X.caller_names ++ c.global_names);
    words = c.locals ++ (X.caller_words ++ c.globals);
    past_names = c.past_names;
    past_words = c.past_words;
    bays = c.bays;
    fuel = c.fuel;
  }

  -- At instruction p, with the words T above the frame's bindings.
  abbrev pub machine_at : Surroundings W → List W → ℕ → Working W → LiveState W
  machine_at X T p c = record {
    live = T ++ (c.locals ++ (X.below ++ c.globals));
    pc = p;
    base = X.base;
    frames = X.frames;
    bays = c.bays;
    fuel = c.fuel;
  }

  abbrev pub with_fuel_left : ℕ → Working W → Working W
  with_fuel_left n c = record {
    names = c.names;
    global_names = c.global_names;
    past_names = c.past_names;
    past_words = c.past_words;
    locals = c.locals;
    globals = c.globals;
    bays = c.bays;
    fuel = n;
  }

-- Other words in the frame and the globals, and other bays.
abbrev pub changed : {W : Type 0} → List W → List W → List W → Working W → Working W
changed locals globals bays c = record {
  names = c.names;
  global_names = c.global_names;
  past_names = c.past_names;
  past_words = c.past_words;
  locals = locals;
  globals = globals;
  bays = bays;
  fuel = c.fuel;
}

-- What every part keeps.
pub record Keeps {W : Type 0} (c c' : Working W) : Type 0 where
  pub names : c'.names ≡ c.names
  pub global_names : c'.global_names ≡ c.global_names
  pub locals : length c'.locals ≡ length c.locals
  pub globals : length c'.globals ≡ length c.globals
  pub fuel : c'.fuel ≤ c.fuel

-- The bindings are those of the names in scope, `own` in the frame, and the store has room for this frame and for the
-- calls that may still be opened.
pub record Fits {W : Type 0} (S : Scene W) (X : Surroundings W) (own : List ℕ) (c : Working W) : Type 0 where
  pub names : c.names ≡ own
  pub global_names : c.global_names ≡ S.globals
  pub locals : length c.locals ≡ length own
  pub globals : length c.globals ≡ length S.globals
  pub callers : length X.caller_words ≡ length X.caller_names
  pub base : X.base ≡ length X.below + length S.globals
  pub apart : Apart S.globals own
  pub callers_apart : Apart S.globals X.caller_names
  pub opened : length X.frames ≤ S.depth
  pub room : X.limit + (S.depth - length X.frames) * S.need ≤ S.capacity

-- Where both runs have ended: the same globals lie at the bottom, and bays and fuel are the same.
pub record SameEnd {W : Type 0} (count : ℕ) (σ : State W) (m : LiveState W) : Type 0 where
  pub bindings : List W
  pub stack : List W
  pub globals : List W
  pub words : σ.words ≡ bindings ++ globals
  pub live : m.live ≡ stack ++ globals
  pub counted : length globals ≡ count
  pub bays : m.bays ≡ σ.bays
  pub fuel : m.fuel ≡ σ.fuel

-- An ending that gives no answer.
abbrev pub Unfinished : Ending → Type 0
Unfinished Done = ⊥
Unfinished NoFuel = Unit {0}
Unfinished TooDeep = Unit {0}
Unfinished NoSuchBay = Unit {0}
Unfinished CannotHold = Unit {0}

module _ {W : Type 0} where
  pub keeps-refl : (c : Working W) → Keeps c c
  keeps-refl c = record { names = refl; global_names = refl; locals = refl; globals = refl; fuel = omega arith }

  pub keeps-changed :
      (locals globals bays : List W) (c : Working W)
      → length locals ≡ length c.locals → length globals ≡ length c.globals
      → Keeps c (changed locals globals bays c)
  keeps-changed locals globals bays c l g =
      record { names = refl; global_names = refl; locals = l; globals = g; fuel = omega arith }

  pub keeps-spent : (n : ℕ) (c : Working W) → c.fuel ≡ suc n → Keeps c (with_fuel_left n c)
  keeps-spent n c e =
      record { names = refl; global_names = refl; locals = refl; globals = refl; fuel = omega arith }

  pub keeps-trans : {c c₁ c₂ : Working W} → Keeps c c₁ → Keeps c₁ c₂ → Keeps c c₂
  keeps-trans h k = record {
    names = k.names ∙ h.names;
    global_names = k.global_names ∙ h.global_names;
    locals = k.locals ∙ h.locals;
    globals = k.globals ∙ h.globals;
    fuel = omega arith;
  }

  pub fits_kept :
      {S : Scene W} {X : Surroundings W} {own : List ℕ} {c c' : Working W}
      → Fits S X own c → Keeps c c' → Fits S X own c'
  fits_kept h k = record {
    names = k.names ∙ h.names;
    global_names = k.global_names ∙ h.global_names;
    locals = k.locals ∙ h.locals;
    globals = k.globals ∙ h.globals;
    callers = h.callers;
    base = h.base;
    apart = h.apart;
    callers_apart = h.callers_apart;
    opened = h.opened;
    room = h.room;
  }

-- No condition.
abbrev pub Any : {A : Type 0} → A → Type 0
Any a = Unit {0}

module _ {W : Type 0} (S : Scene W) where
  -- From m with k credits to m' with at least j left. An instruction takes one credit; one that spends fuel brings as
  -- many as the code is long. So credits bound the steps, at every moment of the run.
  pub data Reaches (j : ℕ) (m' : LiveState W) : ℕ → LiveState W → Type 0 where
    arrived : {k : ℕ} {m : LiveState W} → m ≡ m' → j ≤ k → Reaches j m' k m
    after_step :
        {k : ℕ} {m : LiveState W} (k₁ : ℕ) (m₁ : LiveState W)
        → k₁ < k → live_step S m ≡ goes m₁ → m.fuel ≡ m₁.fuel → Reaches j m' k₁ m₁ → Reaches j m' k m
    after_tick :
        {k : ℕ} {m : LiveState W} (k₁ : ℕ) (m₁ : LiveState W)
        → k₁ < k + length S.code → live_step S m ≡ goes m₁ → m.fuel ≡ suc m₁.fuel → Reaches j m' k₁ m₁
        → Reaches j m' k m

  pub with-more : {j : ℕ} {m' : LiveState W} {k l : ℕ} {m : LiveState W} → Reaches j m' k m → k ≤ l → Reaches j m' l m
  with-more (arrived e h) le = arrived e (omega arith)
  with-more (after_step k₁ m₁ h s f r) le = after_step k₁ m₁ (omega arith) s f r
  with-more (after_tick k₁ m₁ h s f r) le = after_tick k₁ m₁ (omega arith) s f r

  pub reaches-trans :
      {i j : ℕ} {m'' m' : LiveState W} {k : ℕ} {m : LiveState W}
      → Reaches j m' k m → Reaches i m'' j m' → Reaches i m'' k m
  reaches-trans {i} {j} {m''} (arrived {k = k} e h) r₂ =
      with-more (subst (λ (x : LiveState W). Reaches i m'' j x) (sym e) r₂) h
  reaches-trans (after_step k₁ m₁ h s f r) r₂ = after_step k₁ m₁ h s f (reaches-trans r r₂)
  reaches-trans (after_tick k₁ m₁ h s f r) r₂ = after_tick k₁ m₁ h s f (reaches-trans r r₂)

  pub one_step :
      {m m₁ : LiveState W} (k j : ℕ) → live_step S m ≡ goes m₁ → m.fuel ≡ m₁.fuel → j < k → Reaches j m₁ k m
  one_step {m₁ = m₁} k j s f h = after_step j m₁ h s f (arrived refl (omega arith))

  pub one_tick :
      {m m₁ : LiveState W} (k j : ℕ)
      → live_step S m ≡ goes m₁ → m.fuel ≡ suc m₁.fuel → j < k + length S.code → Reaches j m₁ k m
  one_tick {m₁ = m₁} k j s f h = after_tick j m₁ h s f (arrived refl (omega arith))

  pub at-step :
      (m : LiveState W) (o : Operation) (a : ℕ) → Has S m.pc o a → live_step S m ≡ live_execute S o a m
  at-step m o a h = ap (λ (z : Option Instruction). live_execute_at S z m) h

  -- A push within the frame's limit.
  pub push-fits :
      (X : Surroundings W) (c : Working W) (U : List W) (p : ℕ) (w : W)
      → length c.globals ≡ length S.globals → X.base ≡ length X.below + length S.globals
      → X.limit ≤ S.capacity → length U + (length c.locals + X.base) < X.limit
      → pushing S w (machine_at X U p c) ≡ goes (machine_at X (w ∷ U) (suc p) c)
  push-fits X c U p w hg hb hl h =
      let l : length (U ++ (c.locals ++ (X.below ++ c.globals))) < S.capacity =
      simp length-append (omega arith) in
      only-true (ltb (length (U ++ (c.locals ++ (X.below ++ c.globals)))) S.capacity)
      (goes (machine_at X (w ∷ U) (suc p) c)) (lt→ltb _ _ l)

  -- What a part comes to from c agrees with its code from p to q, at a cost of at most u credits. Above the frame's
  -- bindings the stack is T before, and `up a` after a value a, of which Q holds. A return arrives at an instruction
  -- `leave` with the word on the stack; an ending arrives at the instruction that ends the machine's run.
  abbrev pub Simulates :
      {A : Type 0}
      → Surroundings W → (A → List W) → (A → Type 0) → List W → ℕ → ℕ → ℕ → Working W → Outcome W A → Type 0
  Simulates X up Q T p q u c (value a σ) =
      (c' : Working W) × (σ ≡ tree_state X c') × Keeps c c' × Q a
      × ((k j : ℕ) → u + j ≤ k → Reaches j (machine_at X (up a) q c') k (machine_at X T p c))
  Simulates X up Q T p q u c (returned w σ) =
      (c' : Working W) × (σ ≡ tree_state X c')
      × ((length c'.globals ≡ length c.globals) × (c'.global_names ≡ c.global_names)) × (c'.fuel ≤ c.fuel)
      × (i a : ℕ) × Has S i X.leave a
      × ((k j : ℕ) → u + j ≤ k → Reaches (suc j) (machine_at X (w ∷ []) i c') k (machine_at X T p c))
  Simulates X up Q T p q u c (ended e a σ) =
      (m m' : LiveState W) × ((live_step S m ≡ stops e a m') × (m'.fuel ≡ m.fuel) × Unfinished e)
      × SameEnd (length S.globals) σ m' × ((k : ℕ) → u ≤ k → Reaches 1 m k (machine_at X T p c))

  module _ {B : Type 0} (X : Surroundings W) (up : B → List W) (Q : B → Type 0) where
    -- The machine runs before the part's code.
    pub preceded :
        (r : Outcome W B) (U T : List W) (p i q u v : ℕ) (c c' : Working W) → Keeps c c'
        → ((k j : ℕ) → u + j ≤ k → Reaches (v + j) (machine_at X U i c') k (machine_at X T p c))
        → Simulates X up Q U i q v c' r → Simulates X up Q T p q u c r
    preceded (value b σ) U T p i q u v c c' k₀ pre (c'', e, kp, y, g) =
        (c'', e, keeps-trans k₀ kp, y, λ k j h. reaches-trans (pre k j h) (g (v + j) j (omega arith)))
    preceded (returned w σ) U T p i q u v c c' k₀ pre (c'', e, lg, lf, i₁, a, h, g) = (
      c'',
      e,
      (lg.0 ∙ k₀.globals, lg.1 ∙ k₀.global_names),
      omega (arith, k₀.fuel),
      i₁,
      a,
      h,
      λ k j h. reaches-trans (pre k j h) (g (v + j) j (omega arith)),
    )
    preceded (ended n a σ) U T p i q u v c c' k₀ pre (m, m', s, sm, g) =
        (m, m', s, sm, λ k h. reaches-trans (pre k 0 (omega arith)) (g (v + 0) (omega arith)))

    -- A part whose code is one instruction.
    pub last_step :
        (b : B) (σ : State W) (U : List W) (j u : ℕ) (c c' : Working W)
        → σ ≡ tree_state X c' → Keeps c c' → Q b → 1 ≤ u → c.fuel ≡ c'.fuel
        → live_step S (machine_at X U j c) ≡ goes (machine_at X (up b) (suc j) c')
        → Simulates X up Q U j (suc j) u c (value b σ)
    last_step b σ U j u c c' e kp y hu hf s = (c', e, kp, y, λ k i h. one_step k i s hf (omega arith))

    -- A part that runs after another one.
    pub in_sequence :
        {A : Type 0} (up_a : A → List W) (QA : A → Type 0) (r : Outcome W A) (f : A → State W → Outcome W B)
        (T : List W) (p i q u v₁ v : ℕ) (c : Working W)
        → v₁ + v ≤ u → Simulates X up_a QA T p i v₁ c r
        → ((a : A) (c' : Working W) → Keeps c c' → QA a → Simulates X up Q (up_a a) i q v c' (f a (tree_state X c')))
        → Simulates X up Q T p q u c (and_then r f)
    in_sequence up_a QA (value a σ) f T p i q u v₁ v c hu (c', e, kp, y, g) h =
        subst (λ (z : State W). Simulates X up Q T p q u c (f a z)) (sym e)
        (preceded (f a (tree_state X c')) (up_a a) T p i q u v c c' kp (λ k j l. g k (v + j) (omega arith))
        (h a c' kp y))
    in_sequence up_a QA (returned w σ) f T p i q u v₁ v c hu (c', e, lg, lf, i₁, a, z, g) h =
        (c', e, lg, lf, i₁, a, z, λ k j l. fewer (g k (v + j) (omega arith)) (omega arith))
      where
        fewer : {j i k : ℕ} {m m' : LiveState W} → Reaches j m' k m → i ≤ j → Reaches i m' k m
        fewer {i = i} r le = reaches-trans r (arrived refl le)
    in_sequence up_a QA (ended n a σ) f T p i q u v₁ v c hu (m, m', s, sm, g) h =
        (m, m', s, sm, λ k l. g k (omega arith))
