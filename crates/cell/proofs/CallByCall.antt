-- One call after another: what stands before a call stands after it, with the call noted.
use Rattle.std.proofs.Common.{◌≡◌, ℕ, ◌≤◌, Bool, List, [], ◌∷◌, length, Ok, Err, Result, refl, ap, subst, arith}
use Rattle.kinds.specs.Kinds.{Kind}
use Rattle.script.specs.declared.record.Record.{Record}
use Rattle.script.specs.declared.refusal.Refusal.{Refusal}
use Rattle.script.specs.Shape.{shape}
use Rattle.script.specs.declared.limits.Limits.{Limits}
use Rattle.syntax.specs.Typed.{program_of}
use Rattle.syntax.specs.Listing.{listing}
use Rattle.syntax.proofs.Lists.{accepted_lists}
use Rattle.code.specs.Scheme.{program_code}
use Rattle.translator.proofs.Lengths.{at-most-four-a-record}
use Rattle.names.specs.Names.{name_rules}
use Rattle.names.specs.Passes.{outcome as provided}
use Rattle.names.proofs.Acceptance.{passes-where-well-named}
use Rattle.cell.specs.declared.calls.State.{State}
use Rattle.cell.specs.declared.calls.State.TheVariants.{Empty, Loaded, Coded, Running, Over}
use Rattle.cell.specs.declared.calls.Call.{Call}
use Rattle.cell.specs.declared.calls.Call.TheVariants.{Load, Compile, Arm, Run, Stop}
use Rattle.cell.specs.Outcomes.{World, Effect, effect, answer_of, world_after, outcomes, with_code}
use Rattle.cell.specs.Outcomes.{words_wanted, arm_rules, run_rules, armed_by, ran_by}
use Rattle.cell.specs.Promises.{Notes, note_taken, note, notes_from, made_by, made_after, made_from}
use Rattle.cell.proofs.Standing.{HasCode, Stands, StandsIn}
use Rattle.cell.proofs.ArmAndRun.{begins, runs}

-- A table of accepted shape has at most 1,024 records, and its code at most four instructions for each.
few_instructions :
    (table : List Record) → shape table ≡ Ok tt → length (program_code (program_of table)) ≤ 4096
few_instructions table accepted =
    let lists = accepted_lists table accepted in
    let few : length table ≤ 1024 = lists.small in
    let same : length table ≡ length (listing (program_of table)) =
    ap (λ (rs : List Record). length rs) lists.is_listing in
    omega (arith, at-most-four-a-record (program_of table))

module _ {W : Type 0} (kind : Kind W) (holds : W → Bool) where
  abbrev StandsAfter : ℕ → Notes W → World W → Call → Result (Effect W) Refusal → Type 0
  StandsAfter made n w c r =
      Stands kind holds (made_after kind holds w c (answer_of r) made) (note n w.bays c (answer_of r)) (world_after w r)

  module _ (made : ℕ) (n : Notes W) (w : World W) (standing : Stands kind holds made n w) where
    -- A call that is refused by some rules, or taken.
    providing :
        (c : Call) (rules : Result (Unit {0}) Refusal) (f : Effect W)
        → (rules ≡ Ok tt → Stands kind holds (made_by kind holds w c made) (note_taken n w.bays c) f.world)
        → StandsAfter made n w c (provided rules f)
    providing c (Ok tt) f took = took refl
    providing c (Err e) f took = standing

    abbrev arm_tests : State → Limits → Result (Unit {0}) Refusal
    arm_tests s limits = arm_rules s limits (words_wanted limits.depth w.cell) (length w.words)

    coded :
        w.cell.table ≡ n.loaded → shape w.cell.table ≡ Ok tt → name_rules (program_of w.cell.table) ≡ Ok tt
        → HasCode (program_of n.loaded) (with_code (program_of w.cell.table) w.cell)
    coded e accepted q =
        subst
        (λ (table : List Record). HasCode (program_of table) (with_code (program_of w.cell.table) w.cell)) e
        (record {
          code = refl;
          entries = refl;
          numbers = refl;
          need = refl;
          named = (passes-where-well-named (program_of w.cell.table)).0 q;
          short = few_instructions w.cell.table accepted;
        })

    -- By state and call together.
    keeps : (s : State) (c : Call) → StandsIn kind holds s made n w → StandsAfter made n w c (effect kind holds s c w)
    keeps Empty (Load table) h = providing (Load table) (shape table.now) _ (λ q. (refl, refl, q))
    keeps Loaded (Load table) h = providing (Load table) (shape table.now) _ (λ q. (refl, refl, q))
    keeps Coded (Load table) h = providing (Load table) (shape table.now) _ (λ q. (refl, refl, q))
    keeps Running (Load table) h = standing
    keeps Over (Load table) h = providing (Load table) (shape table.now) _ (λ q. (refl, refl, q))
    keeps Empty Compile h = standing
    keeps Loaded Compile h =
        providing Compile (name_rules (program_of w.cell.table)) _ (λ q. (coded h.0 h.2 q, h.1))
    keeps Coded Compile h = standing
    keeps Running Compile h = standing
    keeps Over Compile h = standing
    keeps Empty (Arm limits) h = standing
    keeps Loaded (Arm limits) h = standing
    keeps Coded (Arm limits) h =
        providing (Arm limits) (arm_tests Coded limits) (armed_by kind holds limits w)
        (begins kind holds n w Coded limits h.0)
    keeps Running (Arm limits) h = standing
    keeps Over (Arm limits) h =
        providing (Arm limits) (arm_tests Over limits) (armed_by kind holds limits w)
        (begins kind holds n w Over limits h.begun.has)
    keeps Empty (Run steps) h = standing
    keeps Loaded (Run steps) h = standing
    keeps Coded (Run steps) h = standing
    keeps Running (Run steps) h =
        providing (Run steps)
        (run_rules Running (words_wanted w.cell.registers.depth w.cell) (length w.words))
        (ran_by kind holds steps w) (λ q. runs kind holds made n w h steps)
    keeps Over (Run steps) h = standing
    keeps Empty Stop h = standing
    keeps Loaded Stop h = standing
    keeps Coded Stop h = standing
    keeps Running Stop h =
        let has = h.begun.has in (
          record {
            code = has.code;
            entries = has.entries;
            numbers = has.numbers;
            need = has.need;
            named = has.named;
            short = has.short;
          },
          refl,
        )
    keeps Over Stop h = standing

  -- A list of calls.
  pub keeps-all :
      (calls : List Call) (made : ℕ) (n : Notes W) (w : World W) → Stands kind holds made n w
      → Stands kind holds (made_from kind holds made w calls) (notes_from kind holds n w calls)
      (outcomes kind holds w calls)
  keeps-all [] made n w h = h
  keeps-all (c ∷ calls) made n w h = keeps-all calls _ _ _ (keeps made n w h w.cell.state c h)
