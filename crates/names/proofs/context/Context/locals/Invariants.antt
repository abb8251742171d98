use Rattle.std.proofs.Common.{◌≡◌, ◌+◌, ◌-◌, ◌++◌, map, reverse}
use Rattle.stack.specs.Store.{contents, capacity}
use Rattle.syntax.specs.Syntax.{name_of}
use Rattle.syntax.specs.Trees.{LeafParts}
use Rattle.syntax.specs.Typed.{variables_at}
use Rattle.names.specs.Names.{local_rules}
use Rattle.names.specs.Passes.{outcome, checked_locals}
use Rattle.names.proofs.context.Context.locals.Given as goal

-- The locals on the stack and those that are left are all, and those that are left decide as all do.
abbrev pub invariant-loop-index : goal.invariant-loop-index
invariant-loop-index l =
    let table = l.self.table.records.now in
    let left = l.count - l.index in
    record {
      parts : LeafParts table (l.at + l.index) left;
      answer :
          outcome
          (local_rules (reverse l.self.globals.now) (variables_at table (l.at + l.index) left) (reverse (contents l.scope)))
          l.end
          ≡ checked_locals l.self l.count l.at (contents l.initial.scope);
      bound :
          contents l.scope ++ map name_of (variables_at table (l.at + l.index) left)
          ≡ contents l.initial.scope ++ map name_of (variables_at table l.at l.count);
      height : l.scope.height ≡ l.initial.scope.height + l.index;
      store : capacity l.scope ≡ capacity l.initial.scope;
    }
