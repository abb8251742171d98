-- The agreement: the run on the live words, seen on the store, and the state just after arming.
use Rattle.std.proofs.Common.{◌≡◌, ℕ, suc, ◌+◌, ◌-◌, ◌*◌, ◌<◌, ◌≤◌, Bool, List, [], ◌∷◌, ◌++◌, map, reverse, length, get_or, take, drop, Some, None, Option, sym, refl, ap, ◌∙◌, subst, add-mul, one-mul, arith, length-drop}
use mathlib.Core.List.{reverse_aux, reverse_aux-eq, reverse_aux-append}
use lib.ListN.{length-reverse, length-map}
use lib.Seq.{take-append_seam}
use Rattle.kinds.specs.Kinds.{Kind}
use Rattle.script.specs.declared.ending.Ending.{Ending}
use Rattle.script.specs.declared.ending.Ending.TheVariants.{Done, NoFuel, TooDeep, NoSuchBay, CannotHold}
use Rattle.syntax.specs.Syntax.{VariableDeclaration, declare, number_of}
use Rattle.syntax.specs.Syntax.{globals_of, global_names}
use Rattle.treerun.specs.TreeRun.{State, Outcome, value, returned, ended, bind_words}
use Rattle.treerun.specs.TreeRun.{run_program, unbound}
use Rattle.code.specs.Scheme.{program_code, function_entries, global_numbers, global_count}
use Rattle.machine.specs.Machine.{Image, MachineState, Progress, over, proceed, run, armed}
use Rattle.machine.proofs.Runs.{run-add}
use Rattle.treerun.specs.Report.{report_at as state_report, report as tree_report}
use Rattle.agreement.specs.Agreement.{answer_at, program_image, StillRuns, Ends, Agreement}
use Rattle.agreement.proofs.Scene.{Scene, image_in}
use Rattle.agreement.proofs.Live.{LiveState, LiveProgress, goes, stops, zw, live_run}
use Rattle.agreement.proofs.Lists.{length-bind_names, length-bind_words}
use Rattle.agreement.proofs.Relation.{Unfinished}
use Rattle.agreement.proofs.Whole.{EndsLive, AgreesLive, live_start}
use Rattle.agreement.proofs.Linking.{scene_of, live-agreement}
use Rattle.agreement.proofs.Refinement.{store_state, Refines, refine-run, top-word}

-- The oldest words of a stack that stands newest first, as a store shows them.
bottom-of-store :
    {W : Type 0} (g : ℕ) (stack globals dead : List W) → length globals ≡ g
    → take g (reverse_aux (stack ++ globals) dead) ≡ reverse globals
bottom-of-store g stack globals dead e =
    let h : g ≡ length (reverse globals) = sym e ∙ sym (length-reverse globals) in
    ap (λ (l : List _). take g l)
    (reverse_aux-append stack globals dead ∙ reverse_aux-eq globals (reverse_aux stack dead))
    ∙ ap (λ (n : ℕ). take n (reverse globals ++ reverse_aux stack dead)) h
    ∙ take-append_seam (reverse globals) (reverse_aux stack dead)

-- The bound in words: with the fuel x left of f, t steps are at most (ticks + 1) × the length of the code.
steps-bounded : (t f x l : ℕ) → t + x * l ≤ l + f * l → x ≤ f → t ≤ (f - x + 1) * l
steps-bounded t f x l h k =
    let e : f ≡ (f - x) + x = omega arith in
    let m : f * l ≡ (f - x) * l + x * l = ap (λ (z : ℕ). z * l) e ∙ add-mul (f - x) x l in
    let n : (f - x + 1) * l ≡ (f - x) * l + 1 * l = add-mul (f - x) 1 l in
    let o : 1 * l ≡ l = one-mul l in
    omega arith

module _ {W : Type 0} (S : Scene W) where
  abbrev I : Image W
  I = image_in S

  abbrev g : ℕ
  g = length S.globals

  unfinished-answer : (e : Ending) (w : W) → Unfinished e → answer_at e w ≡ None
  unfinished-answer Done w un = absurd un
  unfinished-answer NoFuel w un = refl
  unfinished-answer TooDeep w un = refl
  unfinished-answer NoSuchBay w un = refl
  unfinished-answer CannotHold w un = refl

  module _ (m : LiveState W) (dead : List W) (h : length m.live + length dead ≡ S.capacity) where
    still-runs :
        (n : ℕ) (x : LiveState W) → live_run S n m ≡ goes x
        → n + x.fuel * length S.code ≤ length S.code + m.fuel * length S.code → x.fuel ≤ m.fuel
        → StillRuns I (store_state m dead) n
    still-runs n x e b l =
        let q : Refines S (goes x) (run I n (store_state m dead)) =
        subst (λ (o : LiveProgress W). Refines S o (run I n (store_state m dead))) e (refine-run S n m dead h) in
        record {
          state = store_state x q.0;
          runs = q.1;
          spent = l;
          bounded = steps-bounded n m.fuel x.fuel (length S.code) b l;
        }

    -- Once over, the run stays over.
    stays-over :
        (s n : ℕ) (e : Ending) (a : ℕ) (final : MachineState W)
        → run I (suc s) (store_state m dead) ≡ over e a final → s < n → run I n (store_state m dead) ≡ over e a final
    stays-over s n e a final o l =
        let k : n ≡ suc s + (n - suc s) = omega arith in
        ap (λ (k : ℕ). run I k (store_state m dead)) k
        ∙ run-add I (suc s) (n - suc s) (store_state m dead)
        ∙ ap (λ (o : Progress W). proceed o (run I (n - suc s))) o

    ends-on-store :
        (e : Ending) (a : ℕ) (answer : Option W) (σ : State W) (E : EndsLive S m e a σ)
        → ((dead' : List W) → answer_at e (get_or (reverse_aux E.final.live dead') g (zw S)) ≡ answer)
        → Ends I (store_state m dead) (state_report g m.fuel e a answer σ)
    ends-on-store e a answer σ E answers =
        let same = E.same in
        let r : Refines S (stops e a E.final) (run I (suc E.steps) (store_state m dead)) =
        subst (λ (o : LiveProgress W). Refines S o (run I (suc E.steps) (store_state m dead))) E.ends
        (refine-run S (suc E.steps) m dead h) in
        let final : MachineState W = r.1 in
        let store : final.store ≡ reverse_aux E.final.live r.0 = r.3 in
        let fuel : final.fuel ≡ σ.fuel = r.5 ∙ same.fuel in
        let globals : take g final.store ≡ take g (reverse σ.words) =
        ap (λ (l : List W). take g l) store
        ∙ ap (λ (l : List W). take g (reverse_aux l r.0)) same.live
        ∙ bottom-of-store g same.stack same.globals r.0 same.counted
        ∙ sym
        (ap (λ (l : List W). take g (reverse l)) same.words
        ∙ bottom-of-store g same.bindings same.globals [] same.counted) in
        let answer-told : answer_at e (get_or final.store g (zw S)) ≡ answer =
        ap (λ (l : List W). answer_at e (get_or l g (zw S))) store ∙ answers r.0 in
        let bays : final.bays ≡ σ.bays = r.4 ∙ same.bays in
        let last : suc E.steps ≤ (m.fuel - E.final.fuel + 1) * length S.code =
        steps-bounded (suc E.steps) m.fuel E.final.fuel (length S.code) E.bound E.spent in
        record {
          steps = E.steps;
          final = final;
          before = λ n l. (let w = E.within.at n l in still-runs n w.0 w.1 w.2 w.3);
          after = λ n l. stays-over E.steps n e a final r.2 l;
          report = λ t. record {
            ending = e;
            place = a;
            answer = answer-told t;
            globals = globals t;
            bays = bays t;
            ticks = m.fuel - fuel t;
          };
          spent = omega (arith, r.5, E.spent);
          bounded =
              subst (λ (x : ℕ). suc E.steps ≤ (m.fuel - x + 1) * length S.code) same.fuel last;
        }

    answer-on-top :
        (w : W) (globals live dead' : List W) → live ≡ w ∷ globals → length globals ≡ g
        → Some (get_or (reverse_aux live dead') g (zw S)) ≡ Some w
    answer-on-top w globals live dead' e l =
        ap (λ (x : W). Some x)
        (ap (λ (z : List W). get_or (reverse_aux z dead') g (zw S)) e
        ∙ ap (λ (k : ℕ). get_or (reverse_aux globals (w ∷ dead')) k (zw S)) (sym l)
        ∙ top-word globals dead' w (zw S))

    on_store : (r : Outcome W W) → AgreesLive S m r → Ends I (store_state m dead) (tree_report g m.fuel r)
    on_store (value w σ) (E, e) =
        ends-on-store Done 0 (Some w) σ E (λ dead'.
        answer-on-top w E.same.globals E.final.live dead' e E.same.counted)
    on_store (returned w σ) (E, e) =
        ends-on-store Done 0 (Some w) σ E (λ dead'.
        answer-on-top w E.same.globals E.final.live dead' e E.same.counted)
    on_store (ended e a σ) (E, un) = ends-on-store e a None σ E (λ dead'. unfinished-answer e _ un)

-- The words of the globals, bound one after another, lie in the store in their order.
bound-in-order :
    {W : Type 0} (kind : Kind W) (ds : List VariableDeclaration) (bound dead : List W)
    → reverse_aux (bind_words kind ds bound) dead
    ≡ reverse_aux bound (map (λ v. kind.literal v) (map number_of ds) ++ dead)
bound-in-order kind [] bound dead = refl
bound-in-order kind (declare a x v ∷ ds) bound dead = bound-in-order kind ds (kind.literal v ∷ bound) dead

pub agreement : {W : Type 0} (kind : Kind W) (holds : W → Bool) → Agreement kind holds
agreement {W} kind holds p named depth fuel store bays room names words =
    subst
    (λ (count : ℕ).
    Ends
    (record {
      kind = kind;
      holds = holds;
      code = program_code p;
      entries = function_entries p;
      depth = depth;
      globals = count;
    })
    (armed (program_image kind holds p depth) (global_numbers p) store bays fuel)
    (tree_report count fuel (run_program kind holds p depth (unbound names words bays fuel))))
    counted
    (subst
    (λ (m : MachineState W).
    Ends (image_in S) m
    (tree_report (length (global_names p)) fuel (run_program kind holds p depth (unbound names words bays fuel))))
    armed-state
    (on_store S (live_start S globals bays fuel) dead filled _
    (live-agreement kind holds p depth (length store) named (omega (arith, counted)) globals bays fuel
    (drop (length (globals_of p)) names) (drop (length (globals_of p)) words) (held ∙ sym counted))))
  where
    S : Scene W
    S = scene_of kind holds p depth (length store)

    globals : List W
    globals = bind_words kind (globals_of p) []

    dead : List W
    dead = drop (length (global_numbers p)) store

    counted : length (global_names p) ≡ global_count p
    counted = omega (arith, length-bind_names (globals_of p) [])

    held : length globals ≡ global_count p
    held = omega (arith, length-bind_words kind (globals_of p) [])

    filled : length globals + length dead ≡ length store
    filled =
        omega (arith, held, length-drop (length (global_numbers p)) store, length-map (globals_of p) number_of, room)

    armed-state :
        store_state (live_start S globals bays fuel) dead
        ≡ armed (program_image kind holds p depth) (global_numbers p) store bays fuel
    armed-state = λ t. record {
      store = bound-in-order kind (globals_of p) [] dead t;
      height = held t;
      pc = 0;
      base = counted t;
      frames = [];
      bays = bays;
      fuel = fuel;
    }
