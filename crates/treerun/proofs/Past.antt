-- A run does not depend on what was left behind the bindings.
use Rattle.std.proofs.Common.{◌≡◌, ℕ, refl, ap, ◌∙◌, arith}
use Rattle.kinds.specs.Kinds.{Kind}
use Rattle.syntax.specs.Syntax.{Statement, globals_of}
use Rattle.treerun.specs.TreeRun.{Setting, State, Outcome, value, returned, ended, with_words, with_bays, with_fuel}
use Rattle.treerun.specs.TreeRun.{drop_to, bind_variables, bind_parameters, setting_of, unbound, clocked, run_main}
use Rattle.treerun.specs.Laws.{without_past, seen, RunIsDetermined}
use Rattle.treerun.proofs.Alike.{same_limits, Likeness, Alike, values, returns, endings, wants, statement-alike}
use Rattle.treerun.proofs.Alike.{clocks-alike}

module _ {W : Type 0} (S : Setting W) where
  -- Two states that differ only in what was left behind.
  abbrev same-but-past : Likeness S (same_limits S)
  same-but-past = record {
    Like = λ σ σ'. without_past σ ≡ without_past σ';
    names_same = λ σ σ' e. ap (λ (s : State W). s.names) e;
    words_same = λ σ σ' e. ap (λ (s : State W). s.words) e;
    bays_same = λ σ σ' e. ap (λ (s : State W). s.bays) e;
    fuel_is_more = λ σ σ' e. ap (λ (s : State W). s.fuel) e;
    words_alike = λ ws σ σ' e. ap (λ (s : State W). with_words ws s) e;
    bays_alike = λ bs σ σ' e. ap (λ (s : State W). with_bays bs s) e;
    fuel_alike = λ n σ σ' e. ap (λ (s : State W). with_fuel n s) e;
    bound = λ ds σ σ' e. ap (λ (s : State W). without_past (bind_variables S.kind ds s)) e;
    given = λ parameters ws σ σ' e. ap (λ (s : State W). without_past (bind_parameters parameters ws s)) e;
    dropped = λ σ σ' τ τ' e f.
        ap (λ (s : State W). without_past (drop_to s τ)) e ∙ ap (λ (s : State W). without_past (drop_to σ' s)) f;
  }

  same_seen : {A : Type 0} {m : ℕ} {r r' : Outcome W A} → Alike same-but-past m r r' → seen r ≡ seen r'
  same_seen (values a σ σ' h) = ap (λ (s : State W). value a s) h.like
  same_seen (returns w σ σ' h) = ap (λ (s : State W). returned w s) h.like
  same_seen (endings e place σ σ' h) = ap (λ (s : State W). ended e place s) h.like
  same_seen (wants e place σ r' h) = absurd h

  -- A statement runs the same from two states that differ only in what was left behind.
  pub main-past : (s : Statement) (σ σ' : State W) → without_past σ ≡ without_past σ' →
      seen (run_main S s σ) ≡ seen (run_main S s σ')
  unfolding run_main
  main-past s σ σ' e =
      let same : σ.fuel ≡ σ'.fuel = ap (λ (t : State W). t.fuel) e in
      same_seen (statement-alike same-but-past (clocked S σ.fuel) (clocked S σ'.fuel) σ.fuel
      (clocks-alike same-but-past σ.fuel σ.fuel σ'.fuel (omega arith) (omega arith))
      s σ.fuel 0 σ σ' (omega arith) tt (record { like = e; low = omega arith }))

pub run-is-determined : {W : Type 0} (kind : Kind W) → RunIsDetermined kind
run-is-determined kind holds p depth names names' words words' bays fuel =
    main-past (setting_of kind holds p depth) p.main
    (bind_variables kind (globals_of p) (unbound names words bays fuel))
    (bind_variables kind (globals_of p) (unbound names' words' bays fuel)) refl
