-- The case of a call: the arguments are on the stack, the body runs in a frame of its own.
use Rattle.std.proofs.Common.{◌≡◌, ℕ, zero, suc, ◌+◌, ◌-◌, ◌*◌, ◌≤◌, Bool, true, false, eqb, ltb, ◌≢◌, List, [], ◌∷◌, ◌++◌, reverse, length, drop, pos, Some, Option, sym, refl, ap, ◌∙◌, subst, append_assoc, suc-mul, arith, length-append}
use lib.ListN.{length-reverse}
use Rattle.std.specs.List.{slice_get}
use Rattle.script.specs.declared.ending.Ending.TheVariants.{NoFuel, TooDeep}
use Rattle.syntax.specs.Syntax.{Statement}
use Rattle.syntax.specs.Syntax.{Function}
use Rattle.names.specs.Need.{need_statement}
use Rattle.treerun.specs.TreeRun.{State, Outcome, value, returned, ended, oldest, drop_to, bind_parameters}
use Rattle.treerun.specs.TreeRun.{branch, spend_from, spend, leave_call, enter}
use Rattle.code.specs.declared.instruction.Operation.TheVariants.{Lit, Pop, Call, Ret}
use Rattle.code.specs.declared.instruction.FunctionEntry.{FunctionEntry}
use Rattle.code.specs.Scheme.{op}
use Rattle.agreement.proofs.Scene.{Scene, setting_in}
use Rattle.agreement.proofs.Live.{LiveState, goes, live_spend, live_enter, live_within, live_call, zw, live_step}
use Rattle.agreement.proofs.Placed.{Apart, Has, PlacedStatement}
use Rattle.agreement.proofs.Lists.{eqb-true, eqb-equal, ltb-true, ltb-false, slice_get-lt, oldest-append, apart-append}
use Rattle.agreement.proofs.Lists.{above-true}
use Rattle.agreement.proofs.Extent.{needs_one_word}
use Rattle.agreement.proofs.Relation.{Working, Surroundings, tree_state, machine_at, with_fuel_left, Fits, Any}
use Rattle.agreement.proofs.Relation.{reaches-trans, one_step, one_tick, at-step, push-fits}
use Rattle.agreement.proofs.Parts.{SimulatesValue, simulate_ending}
use Rattle.agreement.proofs.Drops.{after_drop, drops-back}

-- Function F is entry f of some entries: its code stands from `start`, its body up to `end`, and then literal 0 is
-- returned.
pub record Linked {W : Type 0} (S : Scene W) (entries : List FunctionEntry) (f : ℕ) (F : Function) : Type 0 where
  pub start : ℕ
  pub end : ℕ
  pub place : ℕ
  pub row : slice_get entries f ≡ Some (record { start = start; parameters = length F.parameters })
  pub apart : Apart S.globals (reverse F.parameters)
  pub body : PlacedStatement S Ret F.body (reverse F.parameters) start end
  pub need : length F.parameters + need_statement F.body ≤ S.need
  pub pop : Has S end Pop place
  pub zero : Has S (suc end) (Lit (pos 0)) place
  pub return : Has S (suc (suc end)) Ret place

module _ {W : Type 0} (S : Scene W) (X : Surroundings W) where
  -- A call of F at instruction i, in the frame of c, with the arguments ws above the words T.
  pub record CallSite (f : ℕ) (F : Function) (own : List ℕ) (a i : ℕ) (c : Working W) (ws T : List W) : Type 0 where
    pub fits : Fits S X own c
    pub arguments_taken : length ws ≡ length F.parameters
    pub instruction : Has S i (Call f) a
    pub within : length T + (length c.locals + X.base) ≤ X.limit
    pub link : Linked S S.entries f F

  module _ {f : ℕ} {F : Function} {own : List ℕ} {a i : ℕ} {c : Working W} {ws T : List W}
      (site : CallSite f F own a i c ws T) where
    abbrev start : ℕ
    start = site.link.start

    abbrev end : ℕ
    end = site.link.end

    abbrev place : ℕ
    place = site.link.place

    -- Where the callee's frame starts.
    abbrev callee_base : ℕ
    callee_base = length (T ++ (c.locals ++ X.below)) + length S.globals

    abbrev callee : Surroundings W
    callee = record {
      caller_names = c.names ++ X.caller_names;
      caller_words = c.locals ++ X.caller_words;
      below = T ++ (c.locals ++ X.below);
      frames = record { return_to = suc i; base = X.base } ∷ X.frames;
      base = callee_base;
      leave = Ret;
      limit = callee_base + S.need;
    }

    -- The callee begins with n fuel left.
    abbrev entered : ℕ → Working W
    entered n = record {
      names = reverse F.parameters;
      global_names = c.global_names;
      past_names = drop (length F.parameters) c.past_names;
      past_words = drop (length ws) c.past_words;
      locals = ws;
      globals = c.globals;
      bays = c.bays;
      fuel = n;
    }

    base_within : callee_base ≤ X.limit
    base_within = simp length-append (omega (arith, site.fits.base, site.within))

    -- One more call may be opened.
    one_more : eqb (length X.frames) S.depth ≡ false → suc (length X.frames) ≤ S.depth
    one_more e =
        let ne : length X.frames ≢ S.depth =
        λ z. (let y : true ≡ false = sym (eqb-true (length X.frames) S.depth z) ∙ e in
        absurd (let q : ◌≡◌ {A = ℕ} 0 1 = cc in omega arith)) in
        omega (arith, site.fits.opened, ne)

    room_left :
        eqb (length X.frames) S.depth ≡ false
        → (callee_base + S.need) + (S.depth - suc (length X.frames)) * S.need ≤ S.capacity
    room_left e =
        let open_after : ℕ = S.depth - suc (length X.frames) in
        let k : S.depth - length X.frames ≡ suc open_after = omega (arith, one_more e) in
        let m : (S.depth - length X.frames) * S.need ≡ open_after * S.need + S.need =
        ap (λ (x : ℕ). x * S.need) k ∙ suc-mul open_after S.need in
        omega (arith, site.fits.room, base_within)

    callee_fits :
        (n : ℕ) → eqb (length X.frames) S.depth ≡ false → Fits S callee (reverse F.parameters) (entered n)
    callee_fits n e =
        let o = site.fits in
        record {
          names = refl;
          global_names = o.global_names;
          locals = site.arguments_taken ∙ sym (length-reverse F.parameters);
          globals = o.globals;
          callers =
              length-append c.locals X.caller_words
              ∙ (λ t. (o.locals ∙ sym (ap (λ (z : List ℕ). length z) o.names)) t + o.callers t)
              ∙ sym (length-append c.names X.caller_names);
          base = refl;
          apart = site.link.apart;
          callers_apart =
              apart-append S.globals c.names X.caller_names
              (subst (λ (z : List ℕ). Apart S.globals z) (sym o.names) o.apart) o.callers_apart;
          opened = one_more e;
          room = room_left e;
        }

    -- The machine's CALL, by whether one more call may be opened.
    calling :
        (b : Bool) → ltb (length X.frames) S.depth ≡ b
        → live_step S (machine_at X (ws ++ T) i c)
        ≡ live_within b a (record { start = start; parameters = length F.parameters })
        (machine_at X (ws ++ T) i c)
    calling b e =
        let m : LiveState W = machine_at X (ws ++ T) i c in
        let entry : FunctionEntry = record { start = start; parameters = length F.parameters } in
        let enough : length F.parameters ≤ length m.live =
        simp length-append (omega (arith, site.arguments_taken)) in
        at-step S m (Call f) a site.instruction
        ∙ ap (λ (z : Option FunctionEntry). live_call S.depth a z m) site.link.row
        ∙ above-true (length F.parameters) m.live _ enough
        ∙ ap (λ (b : Bool). live_within b a entry m) e

    call_step :
        (n : ℕ) → eqb (length X.frames) S.depth ≡ false → c.fuel ≡ suc n
        → live_step S (machine_at X (ws ++ T) i c) ≡ goes (machine_at callee [] start (entered n))
    call_step n e₁ e₂ =
        let m : LiveState W = machine_at X (ws ++ T) i c in
        let entry : FunctionEntry = record { start = start; parameters = length F.parameters } in
        let live : m.live ≡ ws ++ ((T ++ (c.locals ++ X.below)) ++ c.globals) = simp append_assoc in
        let base : length m.live - length F.parameters ≡ callee_base =
        simp length-append (omega (arith, site.arguments_taken, site.fits.globals)) in
        calling true (ltb-true (length X.frames) S.depth (one_more e₁))
        ∙ ap (λ (z : ℕ). live_spend a z m (λ (m : LiveState W). live_enter entry m)) e₂
        ∙ (λ t. goes (record {
          live = live t;
          pc = start;
          base = base t;
          frames = record { return_to = suc i; base = X.base } ∷ X.frames;
          bays = c.bays;
          fuel = n;
        }))

    return_step :
        (σ : State W) (w : W) (j b : ℕ) (c₂ : Working W) → length c₂.globals ≡ length c.globals → Has S j Ret b
        → live_step S (machine_at callee (w ∷ []) j c₂)
        ≡ goes (machine_at X (w ∷ T) (suc i) (after_drop X c σ c.locals c₂))
    return_step σ w j b c₂ lg h =
        let under : List W = (T ++ (c.locals ++ X.below)) ++ c₂.globals in
        let n : callee_base ≡ length under = simp length-append (omega (arith, lg, site.fits.globals)) in
        let q : oldest callee_base (c₂.locals ++ under) ≡ T ++ (c.locals ++ (X.below ++ c₂.globals)) =
        oldest-append callee_base c₂.locals under n ∙ simp append_assoc in
        let over-base : callee_base ≤ length (c₂.locals ++ under) =
        simp length-append (omega (arith, lg, site.fits.globals)) in
        at-step S (machine_at callee (w ∷ []) j c₂) Ret b h
        ∙ above-true callee_base (c₂.locals ++ under) _ over-base
        ∙ (λ t. goes (record {
          live = w ∷ q t;
          pc = suc i;
          base = X.base;
          frames = X.frames;
          bays = c₂.bays;
          fuel = c₂.fuel;
        }))

    drops_callee :
        (c₂ : Working W) (σ : State W)
        → length c₂.globals ≡ length c.globals → c₂.global_names ≡ c.global_names → σ ≡ tree_state callee c₂
        → drop_to (tree_state X c) σ ≡ tree_state X (after_drop X c σ c.locals c₂)
    drops_callee c₂ σ lg gn e =
        drops-back X c c₂ σ c₂.names c₂.locals c.locals
        (ap (λ (z : State W). z.names) e
        ∙ ap (λ (z : List ℕ). c₂.names ++ z) (append_assoc c.names X.caller_names c₂.global_names))
        (ap (λ (z : State W). z.words) e
        ∙ ap (λ (z : List W). c₂.locals ++ z) (append_assoc c.locals X.caller_words c₂.globals))
        refl lg gn (ap (λ (z : State W). z.bays) e) (ap (λ (z : State W). z.fuel) e)

    -- The body has run, and the call is left.
    simulate_return :
        (u v n : ℕ) (r : Outcome W W)
        → 1 ≤ u → eqb (length X.frames) S.depth ≡ false → c.fuel ≡ suc n → v + 3 ≤ length S.code
        → SimulatesValue S callee [] [] start end v (entered n) r
        → SimulatesValue S X T (ws ++ T) i (suc i) u c (leave_call (zw S) (tree_state X c) r)
    simulate_return u v n (value w σ) hu e₁ e₂ hv (c₂, e, kp, y, g) = (
      after_drop X c σ c.locals c₂,
      drops_callee c₂ σ kp.globals kp.global_names e,
      record {
        names = refl;
        global_names = kp.global_names;
        locals = refl;
        globals = kp.globals;
        fuel = omega (arith, kp.fuel);
      },
      tt,
      λ k j l.
          reaches-trans S (one_tick S k (v + (3 + j)) (call_step n e₁ e₂) e₂ (omega arith))
          (reaches-trans S (g (v + (3 + j)) (3 + j) (omega arith))
          (reaches-trans S
          (one_step S (3 + j) (2 + j)
          (at-step S (machine_at callee (w ∷ []) end c₂) Pop place site.link.pop) refl (omega arith))
          (reaches-trans S
          (one_step S (2 + j) (suc j)
          (at-step S (machine_at callee [] (suc end) c₂) (Lit (pos 0)) place site.link.zero
          ∙ push-fits S callee c₂ [] (suc end) (zw S) (kp.globals ∙ site.fits.globals) refl
          (omega (arith, room_left e₁))
          (omega (
            arith,
            kp.locals,
            site.arguments_taken,
            site.link.need,
            needs_one_word F.body,
          )))
          refl (omega arith))
          (one_step S (suc j) j
          (return_step σ (zw S) (suc (suc end)) place c₂ kp.globals site.link.return) refl
          (omega arith))))),
    )
    simulate_return u v n (returned w σ) hu e₁ e₂ hv (c₂, e, lg, lf, i₁, a₁, h, g) = (
      after_drop X c σ c.locals c₂,
      drops_callee c₂ σ lg.0 lg.1 e,
      record {
        names = refl;
        global_names = lg.1;
        locals = refl;
        globals = lg.0;
        fuel = omega (arith, lf);
      },
      tt,
      λ k j l.
          reaches-trans S (one_tick S k (v + j) (call_step n e₁ e₂) e₂ (omega arith))
          (reaches-trans S (g (v + j) j (omega arith))
          (one_step S (suc j) j (return_step σ w i₁ a₁ c₂ lg.0 h) refl (omega arith))),
    )
    simulate_return u v n (ended n₁ a₁ σ) hu e₁ e₂ hv (m, m', s, sm, g) = (
      m,
      m',
      s,
      sm,
      λ k l. reaches-trans S (one_tick S k v (call_step n e₁ e₂) e₂ (omega arith)) (g v (omega arith)),
    )

    module _ (deep : ℕ → Statement → State W → Outcome W W) where
      -- What the body's run must satisfy.
      abbrev pub Body : Type 0
      Body =
          (n : ℕ) → c.fuel ≡ suc n → Fits S callee (reverse F.parameters) (entered n)
          → SimulatesValue S callee [] [] start end (end - start) (entered n)
          (deep (suc (length X.frames)) F.body (tree_state callee (entered n)))

      pub simulate_call :
          (u : ℕ) (meant : Option Function) → 1 ≤ u → meant ≡ Some F → Body
          → SimulatesValue S X T (ws ++ T) i (suc i) u c
          (enter (setting_in S) deep a (length X.frames) meant ws (tree_state X c))
      simulate_call u meant hu hf body =
          subst
          (λ (z : Option Function).
          SimulatesValue S X T (ws ++ T) i (suc i) u c
          (enter (setting_in S) deep a (length X.frames) z ws (tree_state X c)))
          (sym hf) (at_bool (eqb (length X.frames) S.depth) refl)
        where
          hv : (end - start) + 3 ≤ length S.code
          hv = omega (arith, slice_get-lt S.code (suc (suc end)) (op place Ret) site.link.return)

          -- the call over the caller's names and words
          called : List ℕ → List W → ℕ → Outcome W W
          called names words n =
              leave_call (zw S) (tree_state X (with_fuel_left n c))
              (deep (suc (length X.frames)) F.body
              (record {
                names = reverse F.parameters ++ names;
                words = ws ++ words;
                past_names = drop (length F.parameters) c.past_names;
                past_words = drop (length ws) c.past_words;
                bays = c.bays;
                fuel = n;
              }))

          at_fuel :
              (n : ℕ) → eqb (length X.frames) S.depth ≡ false → c.fuel ≡ n
              → SimulatesValue S X T (ws ++ T) i (suc i) u c
              (spend_from a n (tree_state X c) (λ σ.
              leave_call (zw S) σ
              (deep (suc (length X.frames)) F.body (bind_parameters F.parameters ws σ))))
          at_fuel zero e₁ e₂ =
              simulate_ending S X (λ (w : W). w ∷ T) Any NoFuel a own (ws ++ T) i (suc i) u c tt site.fits hu
              (calling true (ltb-true (length X.frames) S.depth (one_more e₁))
              ∙ ap (λ (z : ℕ). live_spend a z (machine_at X (ws ++ T) i c) (λ (m : LiveState W).
              live_enter (record { start = start; parameters = length F.parameters }) m)) e₂)
          at_fuel (suc n) e₁ e₂ =
              subst
              (λ (z : List ℕ).
              SimulatesValue S X T (ws ++ T) i (suc i) u c (called z (tree_state X c).words n))
              (append_assoc c.names X.caller_names c.global_names)
              (subst
              (λ (z : List W).
              SimulatesValue S X T (ws ++ T) i (suc i) u c
              (called ((c.names ++ X.caller_names) ++ c.global_names) z n))
              (append_assoc c.locals X.caller_words c.globals)
              (simulate_return u (end - start) n
              (deep (suc (length X.frames)) F.body (tree_state callee (entered n))) hu e₁ e₂ hv
              (body n e₂ (callee_fits n e₁))))

          at_bool :
              (b : Bool) → eqb (length X.frames) S.depth ≡ b
              → SimulatesValue S X T (ws ++ T) i (suc i) u c
              (branch b (tree_state X c) (λ σ. ended TooDeep a σ) (λ σ. spend a σ (λ σ.
              leave_call (zw S) σ
              (deep (suc (length X.frames)) F.body (bind_parameters F.parameters ws σ)))))
          at_bool true e₁ =
              let full : S.depth ≤ length X.frames =
              omega (arith, eqb-equal (length X.frames) S.depth e₁) in
              simulate_ending S X (λ (w : W). w ∷ T) Any TooDeep a own (ws ++ T) i (suc i) u c tt site.fits hu
              (calling false (ltb-false (length X.frames) S.depth full))
          at_bool false e₁ = at_fuel c.fuel e₁ refl
