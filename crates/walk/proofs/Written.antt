-- What records declare is written into a slice, one record after another, and then stands as bindings on top.
use Rattle.std.proofs.Common.{◌≡◌, ℕ, zero, suc, ◌+◌, ◌-◌, ◌<◌, ◌≤◌, List, [], ◌∷◌, ◌++◌, map, reverse, length, get_or, take, drop, set, ℤ, refl, ap, ◌∙◌, append_assoc, add-one, arith, length-take, length-drop, drop-cons, drop-drop}
use mathlib.Core.List.{reverse-cons}
use borrow.Rule.Slice.PartMut.{put_mid}
use Rattle.std.proofs.lemmas.List.{length-map, reverse-append}
use Rattle.std.proofs.lemmas.Slice.{take-put_mid, drop-put_mid}
use Rattle.kinds.specs.Counter.{counter}
use Rattle.script.specs.declared.record.Record.{Record}
use Rattle.syntax.specs.Syntax.{VariableDeclaration, bind_names}
use Rattle.syntax.specs.Trees.{no_record, pieces, Leaves}
use Rattle.syntax.specs.Typed.{variables_at}
use Rattle.syntax.proofs.Statements.{declared-first}
use Rattle.treerun.specs.TreeRun.{bind_words, bind_variables}
use Rattle.walk.specs.Lent.{Lent, state}
use Rattle.walk.proofs.Binds.{leaves-within}

-- One more.
pub one-written : {A : Type 0} (f : Record → A) (nodes : List Record) (xs : List A) (i : ℕ) (d : Record) →
    i < length nodes → length nodes ≤ length xs → (ys : List A) → ys ≡ map f (take i nodes) ++ drop i xs →
    set ys i (f (get_or nodes i d)) ≡ map f (take (i + 1) nodes) ++ drop (i + 1) xs
one-written {A} f nodes xs i d l m ys e = rw (e, add-one i) (go nodes xs i l m)
  where
    go : (ns : List Record) (zs : List A) (k : ℕ) → k < length ns → length ns ≤ length zs →
        set (map f (take k ns) ++ drop k zs) k (f (get_or ns k d)) ≡ map f (take (suc k) ns) ++ drop (suc k) zs
    go [] zs k a b = absurd (omega arith)
    go (n ∷ ns) [] k a b = absurd (omega arith)
    go (n ∷ ns) (z ∷ zs) zero a b = refl
    go (n ∷ ns) (z ∷ zs) (suc k) a b = ap (λ (l : List A). f n ∷ l) (go ns zs k (omega arith) (omega arith))

-- Declarations bind the names and the words of some records.
record Declares (nodes : List Record) (ds : List VariableDeclaration) : Type 0 where
  pub many : length ds ≡ length nodes
  pub names : (xs : List ℕ) → bind_names ds xs ≡ reverse (map (λ (node : Record). node.a) nodes) ++ xs
  pub words : (xs : List ℤ) → bind_words counter ds xs ≡ reverse (map (λ (node : Record). node.v) nodes) ++ xs

on-top : {A : Type 0} (x : A) (xs ys : List A) → reverse xs ++ (x ∷ ys) ≡ reverse (x ∷ xs) ++ ys
on-top x xs ys = rw (reverse-cons x xs, append_assoc (reverse xs) (x ∷ []) ys) refl

declares : (table : List Record) (at n : ℕ) → Leaves n (pieces table at n) →
    Declares (take n (drop at table)) (variables_at table at n)
declares table at zero s = record { many = refl; names = λ xs. refl; words = λ xs. refl }
declares table at (suc n) s =
    let p = declared-first table at (suc n) no_record (omega arith) s in
    let r : Record = get_or table at no_record in
    let e : suc n - 1 ≡ n = omega arith in
    let d = declares table (at + 1) n (rw e at p.others) in
    rw (p.is, e, drop-cons table at no_record p.within, ← (add-one at)) record {
      many = ap suc d.many;
      names = λ xs. d.names (r.a ∷ xs) ∙ on-top r.a (map (λ (node : Record). node.a) (take n (drop (at + 1) table))) xs;
      words = λ xs. d.words (r.v ∷ xs) ∙ on-top r.v (map (λ (node : Record). node.v) (take n (drop (at + 1) table))) xs;
    }

-- Where the names and the words of n records have been written above the bindings, their variables are bound.
pub variables-bound : (table : List Record) (at n : ℕ) → at ≤ length table → Leaves n (pieces table at n) →
    (l : Lent) → l.bound + n ≤ length l.names → l.bound + n ≤ length l.words → (i j : ℕ) → i ≡ n → j ≡ n →
    (names : List ℕ) → names ≡ map (λ (node : Record). node.a) (take i (drop at table)) →
    (words : List ℤ) → words ≡ map (λ (node : Record). node.v) (take i (drop at table)) →
    state (record l {
      names = put_mid l.bound j l.names names;
      words = put_mid l.bound j l.words words;
      bound = l.bound + n;
    })
    ≡ bind_variables counter (variables_at table at n) (state l)
variables-bound table at n h s l a b i j ei ej names en words ew =
    let d = declares table at n s in
    let within : at + n ≤ length table = leaves-within table at n h s in
    let nodes : List Record = take n (drop at table) in
    let many : length nodes ≡ n = omega (arith, length-take n (drop at table), length-drop at table) in
    let ns : names ≡ map (λ (node : Record). node.a) nodes = rw ei at en in
    let ws : words ≡ map (λ (node : Record). node.v) nodes = rw ei at ew in
    let ln : length names ≡ n = omega (arith, ap length ns, length-map nodes (λ (node : Record). node.a), many) in
    let lw : length words ≡ n = omega (arith, ap length ws, length-map nodes (λ (node : Record). node.v), many) in
    rw (
      take-put_mid l.bound j l.names names (l.bound + n) (omega arith) (omega arith),
      take-put_mid l.bound j l.words words (l.bound + n) (omega arith) (omega arith),
      drop-put_mid l.bound j l.names names (l.bound + n) (omega arith) (omega arith) (omega arith),
      drop-put_mid l.bound j l.words words (l.bound + n) (omega arith) (omega arith) (omega arith),
      reverse-append (take l.bound l.names) names,
      reverse-append (take l.bound l.words) words,
      ns,
      ws,
      d.names (reverse (take l.bound l.names)),
      d.words (reverse (take l.bound l.words)),
      d.many,
      many,
      drop-drop n l.bound l.names,
      drop-drop n l.bound l.words,
    ) refl
