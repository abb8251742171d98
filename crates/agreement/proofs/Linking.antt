-- A well-named program as a scene: each function is linked, and so the agreement holds on the live words.
use Rattle.std.proofs.Common.{◌≡◌, ℕ, zero, suc, ◌+◌, ◌*◌, ◌≤◌, Bool, List, [], ◌∷◌, ◌++◌, map, reverse, length, pos, Some, sym, refl, subst, inr, zero-add, arith}
use mathlib.Core.List.{reverse_aux}
use Rattle.std.specs.List.{slice_get}
use Rattle.kinds.specs.Kinds.{Kind}
use Rattle.syntax.specs.Syntax.{Function, Program, functions_of, global_names}
use Rattle.names.specs.declared.signature.Signature.{Signature}
use Rattle.names.specs.Names.{signature}
use Rattle.names.specs.Need.{need_functions, largest_need}
use Rattle.names.specs.Scoped.{AllFresh, ScopedFunctions, WellNamed}
use Rattle.treerun.specs.TreeRun.{run_main, setting_of}
use Rattle.code.specs.declared.instruction.Operation.TheVariants.{Lit, Pop, Ret, Halt}
use Rattle.code.specs.declared.instruction.Instruction.{Instruction}
use Rattle.code.specs.Scheme.{op, statement_code, function_code, functions_code, entries_from, signatures_of, main_code}
use Rattle.code.specs.Scheme.{program_code, function_entries}
use Rattle.agreement.proofs.Scene.{Scene}
use Rattle.agreement.proofs.Placed.{Apart}
use Rattle.agreement.proofs.Lists.{no-some, some_inj}
use Rattle.agreement.proofs.Calls.{Linked}
use Rattle.agreement.proofs.Whole.{AgreesLive, live_start, tree_start, whole}
use Rattle.agreement.proofs.Placing.{Lies, lies-left, lies-right, lies-all, apart_cons, place-statement}

module _ {W : Type 0} (kind : Kind W) (holds : W → Bool) (p : Program) (depth capacity : ℕ) where
  abbrev pub scene_of : Scene W
  scene_of = record {
    kind = kind;
    holds = holds;
    functions = functions_of p.declarations;
    globals = global_names p;
    code = program_code p;
    entries = function_entries p;
    depth = depth;
    capacity = capacity;
    need = largest_need p;
  }

apart-parameters :
    (globals xs own : List ℕ) → AllFresh globals xs own → Apart globals own → Apart globals (reverse_aux xs own)
apart-parameters globals [] own fresh apart = apart
apart-parameters globals (x ∷ xs) own (f, fresh) apart =
    apart-parameters globals xs (x ∷ own) fresh (apart_cons globals own x (λ m. f (inr m)) apart)

module _ {W : Type 0} (S : Scene W) where
  abbrev signatures : List Signature
  signatures = map signature S.functions

  linked-from :
      (Fs : List Function) (p f : ℕ) (F : Function)
      → ScopedFunctions S.globals S.functions Fs → need_functions Fs ≤ S.need
      → Lies S.code p (functions_code S.globals signatures Fs p) → slice_get Fs f ≡ Some F
      → Linked S (entries_from S.globals signatures Fs p) f F
  linked-from [] p f F o hm h e = absurd (no-some e)
  linked-from (G ∷ Fs) p zero F ((o₁, o₂), o₃) hm h e =
      subst (λ (z : Function). Linked S (entries_from S.globals signatures (G ∷ Fs) p) 0 z) (some_inj e) here
    where
      c : List Instruction
      c = statement_code S.globals signatures Ret G.body (reverse G.parameters) p

      z : List Instruction
      z = op G.place Pop ∷ op G.place (Lit (pos 0)) ∷ op G.place Ret ∷ []

      rest : List Instruction
      rest = functions_code S.globals signatures Fs (p + length (function_code S.globals signatures G p))

      h₁ : Lies S.code p (c ++ z)
      h₁ = lies-left S.code p (c ++ z) rest h

      h₂ : Lies S.code (p + length c) z
      h₂ = lies-right S.code p (p + length c) c z h₁ refl

      apart : Apart S.globals (reverse G.parameters)
      apart = apart-parameters S.globals G.parameters [] o₁ (λ x k e. refl)

      here : Linked S (entries_from S.globals signatures (G ∷ Fs) p) 0 G
      here = record {
        start = p;
        end = p + length c;
        place = G.place;
        row = refl;
        apart = apart;
        body =
            place-statement S Ret G.body (reverse G.parameters) p (p + length c) apart o₂ refl
            (lies-left S.code p c z h₁);
        need = omega arith;
        pop = h₂.0;
        zero = h₂.1.0;
        return = h₂.1.1.0;
      }
  linked-from (G ∷ Fs) p (suc f) F ((o₁, o₂), o₃) hm h e =
      later
      (linked-from Fs (p + length first) f F o₃ (omega arith)
      (lies-right S.code p (p + length first) first
      (functions_code S.globals signatures Fs (p + length first)) h refl)
      e)
    where
      first : List Instruction
      first = function_code S.globals signatures G p

      later :
          Linked S (entries_from S.globals signatures Fs (p + length first)) f F
          → Linked S (entries_from S.globals signatures (G ∷ Fs) p) (suc f) F
      later l = record {
        start = l.start;
        end = l.end;
        place = l.place;
        row = l.row;
        apart = l.apart;
        body = l.body;
        need = l.need;
        pop = l.pop;
        zero = l.zero;
        return = l.return;
      }

-- Of a well-named program, over a store with room for its frames: the run on the live words agrees with the tree run.
pub live-agreement :
    {W : Type 0} (kind : Kind W) (holds : W → Bool) (p : Program) (depth capacity : ℕ) → WellNamed p
    → length (global_names p) + (depth + 1) * largest_need p ≤ capacity
    → (globals bays : List W) (fuel : ℕ) (past_names : List ℕ) (past_words : List W)
    → length globals ≡ length (global_names p)
    → AgreesLive (scene_of kind holds p depth capacity)
    (live_start (scene_of kind holds p depth capacity) globals bays fuel)
    (run_main (setting_of kind holds p depth) p.main
    (tree_start (scene_of kind holds p depth capacity) globals bays fuel past_names past_words))
live-agreement {W} kind holds p depth capacity named room globals bays fuel past_names past_words counted =
    whole S
    (λ f F e. linked-from S S.functions (suc (length c)) f F named.functions_scoped (omega arith) h₁.1 e)
    room p.main (length c) (omega arith)
    (place-statement S Halt p.main [] 0 (length c) (λ x k e. refl) named.main_scoped
    (sym (zero-add (length c))) (lies-left S.code 0 c r (lies-all S.code)))
    h₁.0 globals bays fuel past_names past_words counted
  where
    S : Scene W
    S = scene_of kind holds p depth capacity

    c : List Instruction
    c = main_code p

    r : List Instruction
    r =
        op 0 Halt
        ∷ functions_code (global_names p) (signatures_of p) (functions_of p.declarations) (suc (length (main_code p)))

    h₁ : Lies S.code (length c) r
    h₁ = lies-right S.code 0 (length c) c r (lies-all S.code) (sym (zero-add (length c)))
