use Rattle.std.proofs.Common.{◌≡◌, ◌+◌, ◌-◌, ◌++◌, map}
use Rattle.stack.specs.Store.{contents}
use Rattle.syntax.specs.Syntax.{name_of}
use Rattle.syntax.specs.Trees.{LeafParts}
use Rattle.syntax.specs.Typed.{variables_at}
use Rattle.translator.specs.Emitting.{SameLoans}
use Rattle.translator.proofs.emitter.Emitter.bind.Given as goal

-- The names bound so far, and those that are left, are all.
abbrev pub invariant-loop-node : goal.invariant-loop-node
invariant-loop-node l = record {
  left : LeafParts l.initial.self.context.table.records.now (l.at + l.node-index) (l.count - l.node-index);
  bound : contents l.self.scope.now
      ++ map name_of (variables_at l.initial.self.context.table.records.now (l.at + l.node-index) (l.count - l.node-index))
      ≡ contents l.initial.self.scope.now
      ++ map name_of (variables_at l.initial.self.context.table.records.now l.at l.count);
  height : l.self.scope.now.height ≡ l.initial.self.scope.now.height + l.node-index;
  code : l.self.code.now ≡ l.initial.self.code.now;
  leave : l.self.leave ≡ l.initial.self.leave;
  loans : SameLoans l.initial.self l.self;
}
