-- The lists lent for the bindings: dropping changes nothing in them, binding writes next to the bindings, and a
-- variable is read and assigned at its newest binding.
use Rattle.std.proofs.Common.{◌≡◌, ℕ, zero, suc, ◌+◌, ◌-◌, ◌≤◌, Bool, true, false, cond, eqb, List, [], ◌∷◌, ◌++◌, map, reverse, length, get_or, take, drop, set, Some, None, Option, sym, refl, ap, ◌∙◌, true≢false, arith, length-append, length-drop}
use mathlib.Core.List.{reverse_aux, reverse_aux-eq, reverse_aux-append}
use lib.ListN.{length-map}
use lib.Seq.{take-append_seam, drop-append-add, get_or-append_seam, set-append_seam}
use Rattle.std.proofs.lemmas.List.{length-reverse, reverse-reverse}
use Rattle.kinds.specs.Kinds.{Kind}
use Rattle.syntax.specs.Syntax.{VariableDeclaration, bind_names, name_of, Program, globals_of, locate, number_of}
use Rattle.treerun.specs.TreeRun.{Setting, State, look_up, store, with_words, bind_words, drop_to, bind_variables}
use Rattle.treerun.specs.TreeRun.{bind_parameters, setting_of, run_program}
use Rattle.treerun.specs.Laws.{state_left}
use Rattle.treerun.specs.Lent.{lent_names, lent_words, written_from, LentListsHold}
use Rattle.treerun.proofs.Keeps.{Steps, main-keeps}
use Rattle.treerun.proofs.Bindings.{bound-names, words_of, bound-words, length-names, length-bound, length-store}

module _ {A : Type 0} where
  -- A list cut anywhere, its front put back.
  put_back : (k : ℕ) (xs past : List A) → reverse_aux (drop k xs) (reverse_aux (take k xs) past) ≡ reverse_aux xs past
  put_back zero xs past = refl
  put_back (suc k) [] past = refl
  put_back (suc k) (x ∷ xs) past = put_back k xs (x ∷ past)

  -- What comes on top of a list that stands newest first is written next to it.
  written_next : (top xs past : List A) →
      reverse_aux (top ++ xs) (drop (length top) past) ≡ written_from (length xs) (reverse top) (reverse_aux xs past)
  written_next top xs past =
      let behind = drop (length top) past in
      let whole : reverse_aux xs past ≡ reverse xs ++ past = reverse_aux-eq xs past in
      let front : take (length xs) (reverse xs ++ past) ≡ reverse xs =
      ap (λ (n : ℕ). take n (reverse xs ++ past)) (sym (length-reverse xs)) ∙ take-append_seam (reverse xs) past in
      let back : drop (length xs + length (reverse top)) (reverse xs ++ past) ≡ behind =
      ap (λ (n : ℕ). drop (n + length (reverse top)) (reverse xs ++ past)) (sym (length-reverse xs))
      ∙ (drop-append-add (reverse xs) past (length (reverse top)) ∙ ap (λ (n : ℕ). drop n past) (length-reverse top)) in
      reverse_aux-append top xs behind
      ∙ (reverse_aux-eq xs (reverse_aux top behind)
      ∙ (ap (λ (l : List A). reverse xs ++ l) (reverse_aux-eq top behind)
      ∙ sym (ap (λ (l : List A). written_from (length xs) (reverse top) l) whole
      ∙ (λ i. front i ++ (reverse top ++ back i)))))

  -- The same of what comes on top in its order, n of them.
  written-in-order : (n : ℕ) (ys xs past : List A) → n ≡ length ys →
      reverse_aux (reverse ys ++ xs) (drop n past) ≡ written_from (length xs) ys (reverse_aux xs past)
  written-in-order n ys xs past e =
      ap (λ (k : ℕ). reverse_aux (reverse ys ++ xs) (drop k past)) (e ∙ sym (length-reverse ys))
      ∙ (written_next (reverse ys) xs past
      ∙ ap (λ (l : List A). written_from (length xs) l (reverse_aux xs past)) (reverse-reverse ys))

  -- The element behind those put back, and that element changed.
  behind : (xs past : List A) (x d : A) → get_or (reverse_aux xs (x ∷ past)) (length xs) d ≡ x
  behind xs past x d =
      ap (λ (l : List A). get_or l (length xs) d) (reverse_aux-eq xs (x ∷ past))
      ∙ (ap (λ (n : ℕ). get_or (reverse xs ++ (x ∷ past)) n d) (sym (length-reverse xs))
      ∙ get_or-append_seam (reverse xs) x past d)

  behind-changed : (xs past : List A) (x y : A) →
      set (reverse_aux xs (x ∷ past)) (length xs) y ≡ reverse_aux xs (y ∷ past)
  behind-changed xs past x y =
      ap (λ (l : List A). set l (length xs) y) (reverse_aux-eq xs (x ∷ past))
      ∙ (ap (λ (n : ℕ). set (reverse xs ++ (x ∷ past)) n y) (sym (length-reverse xs))
      ∙ (set-append_seam (reverse xs) x past y ∙ sym (reverse_aux-eq xs (y ∷ past))))

  length-aux : (xs past : List A) → length (reverse_aux xs past) ≡ length xs + length past
  length-aux xs past = ap length (reverse_aux-eq xs past)
      ∙ omega (arith, length-append (reverse xs) past, length-reverse xs)

  -- No fewer, where no more are taken off what lies behind than come on top.
  no-fewer : (n : ℕ) (xs ys past : List A) → n + length xs ≤ length ys →
      length (reverse_aux xs past) ≤ length (reverse_aux ys (drop n past))
  no-fewer n xs ys past h =
      omega (arith, length-aux xs past, length-aux ys (drop n past), length-drop n past)

some_same : {i j : ℕ} → Some i ≡ Some j → i ≡ j
some_same e = ap place e
  where
    place : Option ℕ → ℕ
    place None = 0
    place (Some i) = i

none-is-not-some : {i : ℕ} → None ≡ Some i → ⊥
none-is-not-some e = true≢false (ap missing e)
  where
    missing : Option ℕ → Bool
    missing None = true
    missing (Some i) = false

module _ {W : Type 0} (x i : ℕ) where
  -- A name's newest binding is read at its place in the list lent, and written there.
  read_at : (d : W) (ns : List ℕ) (ws past : List W) → length ns ≡ length ws → locate x ns ≡ Some i →
      look_up d x ns ws ≡ get_or (reverse_aux ws past) i d
  read_at d [] ws past l e = absurd (none-is-not-some e)
  read_at d (n ∷ ns) [] past l e = absurd (omega arith)
  read_at d (n ∷ ns) (w ∷ ws) past l e =
      at (eqb x n) e (read_at d ns ws (w ∷ past) (omega arith))
    where
      at : (b : Bool) → cond b (Some (length ns)) (locate x ns) ≡ Some i →
          (locate x ns ≡ Some i → look_up d x ns ws ≡ get_or (reverse_aux ws (w ∷ past)) i d) →
          cond b w (look_up d x ns ws) ≡ get_or (reverse_aux ws (w ∷ past)) i d
      at true e h =
          let here : length ws ≡ i = omega (arith, some_same e) in
          sym (behind ws past w d) ∙ ap (λ (k : ℕ). get_or (reverse_aux ws (w ∷ past)) k d) here
      at false e h = h e

  assigned-at : (v : W) (ns : List ℕ) (ws past : List W) → length ns ≡ length ws → locate x ns ≡ Some i →
      reverse_aux (store x v ns ws) past ≡ set (reverse_aux ws past) i v
  assigned-at v [] ws past l e = absurd (none-is-not-some e)
  assigned-at v (n ∷ ns) [] past l e = absurd (omega arith)
  assigned-at v (n ∷ ns) (w ∷ ws) past l e =
      at (eqb x n) e (assigned-at v ns ws (w ∷ past) (omega arith))
    where
      at : (b : Bool) → cond b (Some (length ns)) (locate x ns) ≡ Some i →
          (locate x ns ≡ Some i → reverse_aux (store x v ns ws) (w ∷ past) ≡ set (reverse_aux ws (w ∷ past)) i v) →
          reverse_aux (cond b (v ∷ ws) (w ∷ store x v ns ws)) past ≡ set (reverse_aux ws (w ∷ past)) i v
      at true e h =
          let here : length ws ≡ i = omega (arith, some_same e) in
          sym (behind-changed ws past w v) ∙ ap (λ (k : ℕ). set (reverse_aux ws (w ∷ past)) k v) here
      at false e h = h e

module _ {W : Type 0} where
  -- A state's lists are no shorter than those of an earlier one.
  abbrev NoShorter : State W → State W → Type 0
  NoShorter σ τ = (length (lent_names σ) ≤ length (lent_names τ)) × (length (lent_words σ) ≤ length (lent_words τ))

  longer : (σ τ υ : State W) → NoShorter σ τ → NoShorter τ υ → NoShorter σ υ
  longer σ τ υ g h = (omega (arith, g.0, h.0), omega (arith, g.1, h.1))

  dropped : (before σ : State W) → NoShorter σ (drop_to before σ)
  dropped before σ = (omega (arith, ap length names), omega (arith, ap length words))
    where
      names : lent_names (drop_to before σ) ≡ lent_names σ
      names = put_back (length σ.names - length before.names) σ.names σ.past_names

      words : lent_words (drop_to before σ) ≡ lent_words σ
      words = put_back (length σ.words - length before.words) σ.words σ.past_words

  variables-bound : (kind : Kind W) (ds : List VariableDeclaration) (σ : State W) →
      NoShorter σ (bind_variables kind ds σ)
  variables-bound kind ds σ = (
    no-fewer (length ds) σ.names (bind_names ds σ.names) σ.past_names
        (omega (arith, length-names ds σ.names)),
    no-fewer (length ds) σ.words (bind_words kind ds σ.words) σ.past_words
        (omega (arith, length-bound kind ds σ.words)),
  )

  parameters-bound : (parameters : List ℕ) (ws : List W) (σ : State W) → NoShorter σ (bind_parameters parameters ws σ)
  parameters-bound parameters ws σ = (
    no-fewer (length parameters) σ.names (reverse parameters ++ σ.names) σ.past_names
        (omega (arith, length-append (reverse parameters) σ.names, length-reverse parameters)),
    no-fewer (length ws) σ.words (ws ++ σ.words) σ.past_words (omega (arith, length-append ws σ.words)),
  )

  stored : (σ : State W) (x : ℕ) (w : W) → NoShorter σ (with_words (store x w σ.names σ.words) σ)
  stored σ x w = (
    omega arith,
    omega (
      arith,
      length-store x w σ.names σ.words,
      length-aux σ.words σ.past_words,
      length-aux (store x w σ.names σ.words) σ.past_words,
    ),
  )

abbrev lent-steps : {W : Type 0} (S : Setting W) → Steps S
lent-steps S = record {
  OnValue = NoShorter;
  OnExit = NoShorter;
  same = λ σ. (omega arith, omega arith);
  after = longer;
  exits = λ σ. (omega arith, omega arith);
  exits_after = longer;
  stores = λ σ x w. stored σ x w;
  writes = λ σ i w. (omega arith, omega arith);
  spends = λ σ n e. (omega arith, omega arith);
  leaves_block = λ σ τ ds h.
      longer σ τ (drop_to σ τ)
      (longer σ (bind_variables S.kind ds σ) τ (variables-bound S.kind ds σ) h) (dropped σ τ);
  exits_block = λ σ τ ds h. longer σ (bind_variables S.kind ds σ) τ (variables-bound S.kind ds σ) h;
  leaves_call = λ σ τ parameters ws h.
      longer σ τ (drop_to σ τ)
      (longer σ (bind_parameters parameters ws σ) τ (parameters-bound parameters ws σ) h) (dropped σ τ);
  exits_call = λ σ τ parameters ws h.
      longer σ (bind_parameters parameters ws σ) τ (parameters-bound parameters ws σ) h;
}

pub lent-lists-hold : {W : Type 0} (kind : Kind W) → LentListsHold kind
lent-lists-hold {W} kind = record {
  names_dropped = λ before σ. put_back (length σ.names - length before.names) σ.names σ.past_names;
  words_dropped = λ before σ. put_back (length σ.words - length before.words) σ.words σ.past_words;
  names_bound = λ ds σ.
      ap (λ (ns : List ℕ). reverse_aux ns (drop (length ds) σ.past_names)) (bound-names ds σ.names)
      ∙ written-in-order (length ds) (map name_of ds) σ.names σ.past_names (sym (length-map ds name_of));
  words_bound = λ ds σ.
      ap (λ (ws : List W). reverse_aux ws (drop (length ds) σ.past_words)) (bound-words kind ds σ.words)
      ∙ written-in-order (length ds) (words_of kind ds) σ.words σ.past_words
      (sym (length-map ds (λ (d : VariableDeclaration). kind.literal (number_of d))));
  names_given = λ parameters ws σ. written-in-order (length parameters) parameters σ.names σ.past_names refl;
  words_given = λ parameters ws σ. written_next ws σ.words σ.past_words;
  word_read = λ x i d σ l e. read_at x i d σ.names σ.words σ.past_words l e;
  word_assigned = λ x i w σ l e. assigned-at x i w σ.names σ.words σ.past_words l e;
  names_no_fewer = λ holds p depth σ. (no-shorter holds p depth σ).0;
  words_no_fewer = λ holds p depth σ. (no-shorter holds p depth σ).1;
}
  where
    no-shorter : (holds : W → Bool) (p : Program) (depth : ℕ) (σ : State W) →
        NoShorter σ (state_left (run_program kind holds p depth σ))
    no-shorter holds p depth σ =
        longer σ (bind_variables kind (globals_of p) σ) (state_left (run_program kind holds p depth σ))
        (variables-bound kind (globals_of p) σ)
        (main-keeps (lent-steps (setting_of kind holds p depth)) p.main (bind_variables kind (globals_of p) σ))
