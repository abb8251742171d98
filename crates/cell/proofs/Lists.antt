-- A list of calls, made one after another.
use Rattle.std.proofs.Common.{◌≡◌, ℕ, zero, suc, ◌+◌, ◌<◌, ◌≤◌, Bool, List, [], ◌∷◌, ◌++◌, length, get_or, take, Result, sym, refl, ap, ◌∙◌, subst, add-one, arith}
use Rattle.std.proofs.lemmas.List.{take_all}
use Rattle.std.proofs.lemmas.List.Sums.{fold_more}
use Rattle.kinds.specs.Kinds.{Kind}
use Rattle.script.specs.declared.refusal.Refusal.{Refusal}
use Rattle.cell.specs.declared.calls.Call.{Call}
use Rattle.cell.specs.declared.calls.Answer.{Answer}
use Rattle.cell.specs.Outcomes.{World, answer, answers, outcome, outcomes}
use Rattle.cell.specs.Promises.{KeptFrom, Made, Performed}
use Rattle.cell.proofs.Keeping.{promises}

module _ {W : Type 0} (kind : Kind W) (holds : W → Bool) where
  -- The answers of one call more.
  answers-more :
      (w : World W) (calls : List Call) (i : ℕ) (d : Call) → i < length calls
      → answers kind holds w (take (suc i) calls)
      ≡ answers kind holds w (take i calls)
      ++ (answer kind holds (outcomes kind holds w (take i calls)) (get_or calls i d) ∷ [])
  answers-more w [] i d l = absurd (omega arith)
  answers-more w (c ∷ calls) zero d l = refl
  answers-more w (c ∷ calls) (suc i) d l =
      ap (λ (rs : List (Result Answer Refusal)). answer kind holds w c ∷ rs)
      (answers-more (outcome kind holds w c) calls i d (omega arith))

  -- After the first i calls: the answers so far, and what is left.
  pub record SoFar (before : World W) (calls : List Call) (i : ℕ) (given : List (Result Answer Refusal))
      (after : World W) : Type 0 where
    pub answers_so : given ≡ answers kind holds before (take i calls)
    pub leaves : after ≡ outcomes kind holds before (take i calls)

  pub none_yet : (w : World W) (calls : List Call) → SoFar w calls 0 [] w
  none_yet w [] = record { answers_so = refl; leaves = refl }
  none_yet w (c ∷ calls) = record { answers_so = refl; leaves = refl }

  one_more :
      (before between after : World W) (calls : List Call) (i : ℕ) (d : Call) (given : List (Result Answer Refusal))
      (r : Result Answer Refusal) → i < length calls → SoFar before calls i given between
      → Made kind holds between (get_or calls i d) r after → SoFar before calls (i + 1) (given ++ (r ∷ [])) after
  one_more before between after calls i d given r l h m = record {
    answers_so =
        (λ t. h.answers_so t ++ (m.answers_so t ∷ []))
        ∙ ap
        (λ (w : World W).
        answers kind holds before (take i calls) ++ (answer kind holds w (get_or calls i d) ∷ [])) h.leaves
        ∙ sym (answers-more before calls i d l)
        ∙ ap (λ (k : ℕ). answers kind holds before (take k calls)) (sym (add-one i));
    leaves =
        m.leaves
        ∙ ap (λ (w : World W). outcome kind holds w (get_or calls i d)) h.leaves
        ∙ sym (fold_more (outcome kind holds) before calls i d l);
  }

  -- The same of a call that was made by the same test of what a bay can hold, and whose answer was put behind the
  -- others.
  pub turn :
      (holds' : W → Bool) (before between after : World W) (calls : List Call) (i : ℕ) (d : Call)
      (given given' : List (Result Answer Refusal)) (r : Result Answer Refusal) → holds' ≡ holds → i < length calls
      → SoFar before calls i given between → Made kind holds' between (get_or calls i d) r after
      → given' ≡ given ++ (r ∷ []) → SoFar before calls (i + 1) given' after
  turn holds' before between after calls i d given given' r same l h m e =
      subst (λ (rs : List (Result Answer Refusal)). SoFar before calls (i + 1) rs after) (sym e)
      (one_more before between after calls i d given r l h
      (subst (λ (z : W → Bool). Made kind z between (get_or calls i d) r after) same m))

  -- All of them.
  pub all_made :
      (before after : World W) (calls : List Call) (i : ℕ) (given : List (Result Answer Refusal))
      → length calls ≤ i → SoFar before calls i given after → Performed kind holds before calls given after
  all_made before after calls i given l h =
      let leaves : after ≡ outcomes kind holds before calls =
      h.leaves ∙ ap (λ (cs : List Call). outcomes kind holds before cs) (take_all i calls l) in
      record {
        answers_so = h.answers_so ∙ ap (λ (cs : List Call). answers kind holds before cs) (take_all i calls l);
        leaves = leaves;
        keeps = λ unused.
            subst (λ (w : World W). KeptFrom kind holds before calls w) (sym leaves)
            (promises kind holds before unused calls);
      }
