-- The globals are in memory, so they are fewer than 2 ^ 63, and the number is an index.
use Rattle.std.proofs.Common.{◌+◌, ◌*◌, ◌^◌, ◌≤◌, mul-le-mul, arith}
use Rattle.cell.proofs.memory.Cell.words_wanted.Goals as goal

pub returns : goal.returns
returns c =
    let cell = c.args.self.now in
    let globals = cell.translation.globals in
    let depth : c.args.depth + 1 ≤ 2 ^ 32 = omega arith in
    let frames : (c.args.depth + 1) * cell.need ≤ 2 ^ 32 * 100 = mul-le-mul depth cell.few in
    omega (arith, globals.ok.0, globals.ok.1, globals.small, c.globals.ensures, c.words_wanted.ensures)
