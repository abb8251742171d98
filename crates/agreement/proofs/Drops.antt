-- Where a block or a call is left: the bindings above those of its surroundings are dropped.
use Rattle.std.proofs.Common.{◌≡◌, ℕ, List, ◌++◌, length, sym, ap, ◌∙◌, length-append}
use Rattle.treerun.specs.TreeRun.{State, oldest, drop_to}
use Rattle.agreement.proofs.Lists.{oldest-append}
use Rattle.agreement.proofs.Relation.{Working, Surroundings, tree_state}

module _ {W : Type 0} (X : Surroundings W) where
  -- What is left of c₂ in the frame of c, whose words are now `locals`; σ is the state before the bindings are dropped.
  abbrev pub after_drop : Working W → State W → List W → Working W → Working W
  after_drop c σ locals c₂ = record {
    names = c.names;
    global_names = c₂.global_names;
    past_names = (drop_to (tree_state X c) σ).past_names;
    past_words = (drop_to (tree_state X c) σ).past_words;
    locals = locals;
    globals = c₂.globals;
    bays = c₂.bays;
    fuel = c₂.fuel;
  }

  pub drops-back :
      (c c₂ : Working W) (σ : State W) (A : List ℕ) (B locals : List W)
      → σ.names ≡ A ++ (c.names ++ (X.caller_names ++ c₂.global_names))
      → σ.words ≡ B ++ (locals ++ (X.caller_words ++ c₂.globals))
      → length locals ≡ length c.locals → length c₂.globals ≡ length c.globals
      → c₂.global_names ≡ c.global_names → σ.bays ≡ c₂.bays → σ.fuel ≡ c₂.fuel
      → drop_to (tree_state X c) σ ≡ tree_state X (after_drop c σ locals c₂)
  drops-back c c₂ σ A B locals en ew ll lg eg eb ef =
      let N : List ℕ = c.names ++ (X.caller_names ++ c₂.global_names) in
      let V : List W = locals ++ (X.caller_words ++ c₂.globals) in
      let n : ℕ = length (tree_state X c).names in
      let v : ℕ = length (tree_state X c).words in
      let ln : n ≡ length N =
      ap (λ (z : List ℕ). length (c.names ++ (X.caller_names ++ z))) (sym eg) in
      let lv : v ≡ length V = simp (length-append, ll, lg) in
      let cn : oldest n σ.names ≡ N = ap (λ (z : List ℕ). oldest n z) en ∙ oldest-append n A N ln in
      let cw : oldest v σ.words ≡ V = ap (λ (z : List W). oldest v z) ew ∙ oldest-append v B V lv in
      λ t. record {
        names = cn t;
        words = cw t;
        past_names = (drop_to (tree_state X c) σ).past_names;
        past_words = (drop_to (tree_state X c) σ).past_words;
        bays = eb t;
        fuel = ef t;
      }
