-- One literal more a turn, and at the end all of them.
use Rattle.std.proofs.Common.{◌≡◌, ℕ, List, ◌++◌, map, get_or, take, drop, set, ℤ, pos, sym, ap, ◌∙◌, add-one, w32, SFits, rules}
use Rattle.std.proofs.lemmas.Int.{to_z-of_z}
use Rattle.cell.proofs.Literals.{one_more}
use Rattle.cell.proofs.arming.write_literals.Goals as goal

pub loop-i-preserved : goal.loop-i-preserved
loop-i-preserved g c =
    let numbers : List ℤ = c.args.numbers.now in
    let i : ℕ = c.loop-i.i in
    let literal : ℤ → g.row.W.Denot = λ v. g.W.NumberKind.kind.literal v in
    let fits : SFits w32 (get_or numbers i (pos 0)) = search rules in
    let written : c.literal.result ≡ literal (get_or numbers i (pos 0)) =
    c.literal.ensures ∙ ap literal (to_z-of_z w32 (get_or numbers i (pos 0)) fits) in
    (λ t. set (c.loop-i.invariant t) i (written t))
    ∙ one_more literal numbers c.args.words.now i (pos 0) c.loop-i-test.true c.requires
    ∙ ap (λ (k : ℕ). map literal (take k numbers) ++ drop k c.args.words.now) (sym (add-one i))
