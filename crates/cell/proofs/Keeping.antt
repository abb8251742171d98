-- What stands after a list of calls keeps the promises.
use Rattle.std.proofs.Common.{◌≡◌, ℕ, suc, ◌+◌, ◌-◌, ◌*◌, ◌^◌, ◌<◌, ◌≤◌, Bool, List, length, get_or, take, Some, None, Option, sym, refl, ap, ◌∙◌, subst, mul-le-mul, arith}
use native.Mathlib.Nat.{min-le_left}
use Rattle.kinds.specs.Kinds.{Kind}
use Rattle.kinds.specs.Words.{zero_word}
use Rattle.syntax.specs.Typed.{program_of}
use Rattle.code.specs.Scheme.{program_code}
use Rattle.code.specs.declared.instruction.Instruction.{Instruction}
use Rattle.script.specs.declared.ending.RunEnd.{RunEnd}
use Rattle.treerun.specs.Report.{Report}
use Rattle.agreement.specs.Agreement.{answer_at, Ends}
use Rattle.agreement.proofs.Pieces.{running-bounded, last-bounded, over-reports, enough}
use Rattle.cell.specs.declared.calls.State.{State}
use Rattle.cell.specs.declared.calls.State.TheVariants.{Empty, Loaded, Coded, Running, Over}
use Rattle.cell.specs.Outcomes.{World, machine_in, counted, in_run, code_in, end_in, code_told, ticks_told, steps_told, end_told}
use Rattle.cell.specs.Promises.{Armed, Notes, nothing, seen, tree_run, Kept, Counted, Promises}
use Rattle.cell.proofs.Standing.{Begun, GoesOn, HasEnded, image_of, start_of, StandsIn}
use Rattle.cell.proofs.ArmAndRun.{globals-are, ends}
use Rattle.cell.proofs.CallByCall.{keeps-all}

module _ {W : Type 0} (kind : Kind W) (holds : W → Bool) (n : Notes W) (w : World W) where
  abbrev Bounded : Type 0
  Bounded = steps_told w.cell ≤ (ticks_told w.cell + 1) * length (code_told w.cell)

  abbrev EnoughEndIt : Type 0
  EnoughEndIt =
      (a : Armed W) → n.armed ≡ Some a → (a.fuel + 1) * length (code_told w.cell) ≤ a.granted
      → w.cell.state ≡ Over

  -- What stands keeps the promises, with the steps made.
  abbrev Both : ℕ → Type 0
  Both made = Kept kind holds n w × Counted kind holds made w

  -- ---- no run

  module _ (s : State) (is : w.cell.state ≡ s) (none : n.armed ≡ None) where
    idle : (made : ℕ) → ((x : ℕ) → in_run s x ≡ 0) → (s ≡ Over → ⊥) → Both made
    idle made zero other =
        let told : (x : ℕ) → in_run w.cell.state x ≡ 0 = λ x. ap (λ (z : State). in_run z x) is ∙ zero x in
        let steps : steps_told w.cell ≡ 0 = told w.cell.steps in (
          record {
            ended_runs_agree = λ o. absurd (other (sym is ∙ o));
            steps_are_bounded = omega arith;
            enough_steps_end_it = λ a q l. absurd (let z : ◌≡◌ {A = ℕ} 0 1 = cc in omega arith);
          },
          record { all_are_told = steps ∙ sym (told made); below_the_largest = omega arith },
        )

  -- ---- a run

  module _ (b : Begun kind holds n w) where
    -- The bound on the steps, in what the cell tells.
    bound-told :
        (s : State) (k : ℕ) → w.cell.state ≡ s → ((x : ℕ) → in_run s x ≡ x)
        → ((code : List Instruction) → code_in s code ≡ code) → w.cell.steps ≡ counted k
        → k ≤ (b.arm.fuel - w.cell.registers.fuel + 1) * length (program_code (program_of n.coded)) → Bounded
    bound-told s k is same coded steps l =
        let told : (x : ℕ) → in_run w.cell.state x ≡ x =
        λ x. (ap (λ (z : State). in_run z x) is ∙ same x) in
        let made : steps_told w.cell ≡ counted k = told w.cell.steps ∙ steps in
        let ticks : ticks_told w.cell ≡ b.arm.fuel - w.cell.registers.fuel =
        told _ ∙ ap (λ (x : ℕ). x - w.cell.registers.fuel) b.fuel in
        let code : code_told w.cell ≡ program_code (program_of n.coded) =
        ap (λ (z : State). code_in z w.cell.code) is ∙ coded w.cell.code ∙ b.has.code in
        let right :
        (ticks_told w.cell + 1) * length (code_told w.cell)
        ≡ (b.arm.fuel - w.cell.registers.fuel + 1) * length (program_code (program_of n.coded)) =
        (λ t. (ticks t + 1) * length (code t)) in
        let few : counted k ≤ k = min-le_left k (2 ^ 32 - 1) in
        omega arith

    -- They are so few that 32 bits count them.
    all-told :
        (s : State) (made k spent : ℕ) → w.cell.state ≡ s → ((x : ℕ) → in_run s x ≡ x) → w.cell.steps ≡ counted k
        → made ≡ k → spent ≤ b.arm.fuel → k ≤ (spent + 1) * length (program_code (program_of n.coded))
        → Counted kind holds made w
    all-told s made k spent is same steps all little l =
        let told : (x : ℕ) → in_run w.cell.state x ≡ x =
        λ x. (ap (λ (z : State). in_run z x) is ∙ same x) in
        let turns : spent + 1 ≤ 1000001 = omega (arith, b.little) in
        let most : (spent + 1) * length (program_code (program_of n.coded)) ≤ 1000001 * 4096 =
        mul-le-mul turns b.has.short in
        let few : k < 2 ^ 32 - 1 = omega arith in
        let made-told : steps_told w.cell ≡ k = told w.cell.steps ∙ steps ∙ grind arith in
        record { all_are_told = made-told ∙ sym all ∙ sym (told made); below_the_largest = omega arith }

  module _ (made : ℕ) (is : w.cell.state ≡ Running) (g : GoesOn kind holds made n w) where
    abbrev E : Ends (image_of kind holds g.begun) (start_of kind holds g.begun) (tree_run kind holds n g.begun.arm)
    E = ends kind holds n w g.begun

    unfinished :
        (a : Armed W) → n.armed ≡ Some a → (a.fuel + 1) * length (code_told w.cell) ≤ a.granted → ⊥
    unfinished a q l =
        let arm : Armed W = g.begun.arm in
        let noted : n.armed ≡ Some arm = g.begun.noted in
        let same : a ≡ arm = cc in
        let granted : (arm.fuel + 1) * length (program_code (program_of n.coded)) ≤ arm.granted =
        subst (λ (code : List Instruction). (arm.fuel + 1) * length code ≤ arm.granted)
        (ap (λ (s : State). code_in s w.cell.code) is ∙ g.begun.has.code)
        (subst (λ (x : Armed W). (x.fuel + 1) * length (code_told w.cell) ≤ x.granted) same l) in
        let o = enough E arm.granted granted in
        let c = g.came in
        let z : ◌≡◌ {A = ℕ} 0 1 = cc in
        omega arith

    going : Both made
    going =
        let bound = (running-bounded E g.begun.arm.granted (machine_in w) g.came).1 in (
          record {
            ended_runs_agree = λ o. absurd (let z : ◌≡◌ {A = ℕ} 0 1 = cc in omega arith);
            steps_are_bounded =
                bound-told g.begun Running g.begun.arm.granted is (λ x. refl) (λ code. refl) g.steps bound;
            enough_steps_end_it = λ a q l. absurd (unfinished a q l);
          },
          all-told g.begun Running made g.begun.arm.granted (g.begun.arm.fuel - w.cell.registers.fuel) is (λ x. refl)
              g.steps g.all (omega arith) bound,
        )

  module _ (made : ℕ) (is : w.cell.state ≡ Over) (h : HasEnded kind holds made n w) where
    abbrev E-ended : Ends (image_of kind holds h.begun) (start_of kind holds h.begun) (tree_run kind holds n h.begun.arm)
    E-ended = ends kind holds n w h.begun

    agrees : seen kind holds w (end_told w.cell) ≡ Some (tree_run kind holds n h.begun.arm)
    agrees =
        let told : end_told w.cell ≡ Some h.end =
        ap (λ (s : State). end_in s w.cell.end) is ∙ h.told in
        let ticks : ticks_told w.cell ≡ h.begun.arm.fuel - w.cell.registers.fuel =
        ap (λ (s : State). in_run s (w.cell.fuel - w.cell.registers.fuel)) is
        ∙ ap (λ (x : ℕ). x - w.cell.registers.fuel) h.begun.fuel in
        let globals = globals-are h.begun.has in
        ap (λ (e : Option RunEnd). seen kind holds w e) told
        ∙ (λ t. Some (record {
          ending = h.end.ending;
          place = h.end.place;
          answer = answer_at h.end.ending (get_or w.words (globals t) (zero_word kind));
          globals = take (globals t) w.words;
          bays = w.bays;
          ticks = ticks t;
        }))
        ∙ ap (λ (r : Report W). Some r)
        (over-reports E-ended (suc h.count) h.end.ending h.end.place (machine_in w) h.ended)

    done : Both made
    done =
        let bound =
        (last-bounded E-ended h.count h.last h.end.ending h.end.place (machine_in w) h.came h.ended).1 in (
          record {
            ended_runs_agree = λ o. (h.begun.arm, h.begun.noted, agrees);
            steps_are_bounded = bound-told h.begun Over (suc h.count) is (λ x. refl) (λ code. refl) h.steps bound;
            enough_steps_end_it = λ a q l. is;
          },
          all-told h.begun Over made (suc h.count) (h.begun.arm.fuel - w.cell.registers.fuel) is (λ x. refl) h.steps
              h.all (omega arith) bound,
        )

  not-over-empty : Empty ≡ Over → ⊥
  not-over-empty e = let z : ◌≡◌ {A = ℕ} 0 1 = cc in omega arith

  not-over-loaded : Loaded ≡ Over → ⊥
  not-over-loaded e = let z : ◌≡◌ {A = ℕ} 0 1 = cc in omega arith

  not-over-coded : Coded ≡ Over → ⊥
  not-over-coded e = let z : ◌≡◌ {A = ℕ} 0 1 = cc in omega arith

  by_state : (s : State) (made : ℕ) → w.cell.state ≡ s → StandsIn kind holds s made n w → Both made
  by_state Empty made is h = idle Empty is h made (λ x. refl) not-over-empty
  by_state Loaded made is h = idle Loaded is h.1 made (λ x. refl) not-over-loaded
  by_state Coded made is h = idle Coded is h.1 made (λ x. refl) not-over-coded
  by_state Running made is h = going made is h
  by_state Over made is h = done made is h

pub promises : {W : Type 0} (kind : Kind W) (holds : W → Bool) → Promises kind holds
promises kind holds w unused calls =
    let both =
    by_state kind holds _ _ _ _ refl
    (keeps-all kind holds calls 0 nothing w
    (subst (λ (s : State). StandsIn kind holds s 0 nothing w) (sym unused) refl)) in
    record { kept = both.0; counted = both.1 }
