-- The lists lent for the bindings, as a state leaves them: what binding, dropping, reading and assigning do.
use Rattle.std.specs.Prelude.{◌≡◌, ℕ, ◌+◌, ◌≤◌, Bool, List, ◌++◌, map, reverse, length, take, drop, Some, slice_index_or, slice_set}
use mathlib.Core.List.{reverse_aux}
use Rattle.kinds.specs.Kinds.{Kind}
use Rattle.syntax.specs.Syntax.{VariableDeclaration, Program, name_of, number_of, locate}
use Rattle.treerun.specs.TreeRun.{State, look_up, store, with_words, drop_to, bind_variables, bind_parameters, run_program}
use Rattle.treerun.specs.Laws.{state_left}

module _ {W : Type 0} where
  -- The bindings that stand, oldest first, and then what was left behind them.
  abbrev pub lent_names : State W → List ℕ
  lent_names σ = reverse_aux σ.names σ.past_names

  abbrev pub lent_words : State W → List W
  lent_words σ = reverse_aux σ.words σ.past_words

-- A list with others written over its own from an index on.
abbrev pub written_from : {A : Type 0} → ℕ → List A → List A → List A
written_from n ys xs = take n xs ++ (ys ++ drop (n + length ys) xs)

module _ {W : Type 0} (kind : Kind W) where
  pub record LentListsHold : Type 0 where
    -- What is dropped stays where it was.
    pub names_dropped : (before σ : State W) → lent_names (drop_to before σ) ≡ lent_names σ
    pub words_dropped : (before σ : State W) → lent_words (drop_to before σ) ≡ lent_words σ
    -- What is bound is written next to the bindings that stand, in the order of its declaration.
    pub names_bound : (ds : List VariableDeclaration) (σ : State W) →
        lent_names (bind_variables kind ds σ) ≡ written_from (length σ.names) (map name_of ds) (lent_names σ)
    pub words_bound : (ds : List VariableDeclaration) (σ : State W) →
        lent_words (bind_variables kind ds σ)
        ≡ written_from (length σ.words) (map (λ d. kind.literal (number_of d)) ds) (lent_words σ)
    pub names_given : (parameters : List ℕ) (ws : List W) (σ : State W) →
        lent_names (bind_parameters parameters ws σ) ≡ written_from (length σ.names) parameters (lent_names σ)
    -- The words of arguments stand newest first.
    pub words_given : (parameters : List ℕ) (ws : List W) (σ : State W) →
        lent_words (bind_parameters parameters ws σ) ≡ written_from (length σ.words) (reverse ws) (lent_words σ)
    -- A variable is read and assigned at its newest binding, which stands as far in as there are older ones.
    pub word_read : (x i : ℕ) (default : W) (σ : State W) → length σ.names ≡ length σ.words →
        locate x σ.names ≡ Some i → look_up default x σ.names σ.words ≡ slice_index_or (lent_words σ) i default
    pub word_assigned : (x i : ℕ) (w : W) (σ : State W) → length σ.names ≡ length σ.words →
        locate x σ.names ≡ Some i →
        lent_words (with_words (store x w σ.names σ.words) σ) ≡ slice_set (lent_words σ) i w
    -- No run makes the lists shorter.
    pub names_no_fewer : (holds : W → Bool) (p : Program) (depth : ℕ) (σ : State W) →
        length (lent_names σ) ≤ length (lent_names (state_left (run_program kind holds p depth σ)))
    pub words_no_fewer : (holds : W → Bool) (p : Program) (depth : ℕ) (σ : State W) →
        length (lent_words σ) ≤ length (lent_words (state_left (run_program kind holds p depth σ)))
