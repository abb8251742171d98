-- What is at hand after the parts of a statement, and what the parts that follow need.
use Rattle.std.proofs.Common.{◌≡◌, ℕ, ◌+◌, ◌*◌, ◌<◌, ◌≤◌, length, get_or, replicate, vec_len, vec_capacity, refl, ap, ◌∙◌, arith}
use Rattle.script.specs.declared.rows.Sort.TheVariants.{Statement}
use Rattle.script.specs.declared.rows.NodeKind.TheVariants as is
use Rattle.syntax.specs.Trees.{Part, Parts, Sound, Sounds, tree_at, pieces, size, sizes, no_record}
use Rattle.syntax.specs.Typed.{node_at, second_parts}
use Rattle.syntax.proofs.Shapes.{Chosen, chosen, Looped, looped}
use Rattle.syntax.proofs.Statements.{Blocked, blocked}
use Rattle.translator.specs.declared.emitter.Emitter.{Emitter}
use Rattle.translator.specs.Emitting.{HasRoom, SameLoans, Keeps, EmitsFewer}
use Rattle.translator.proofs.Emitters.{same_table, kept}

-- Steps leave what comes later its share of the room.
room-left : {a e : Emitter} {at records later rest : ℕ} → SameLoans a e → HasRoom a at records →
    e.scope.now.height + at ≤ a.scope.now.height + later →
    vec_len e.code.now + 4 * rest ≤ vec_len a.code.now + 4 * records → HasRoom e later rest
room-left {a} {e} l room h c =
    let n = ap length (same_table a e l) in
    record {
      names = omega (arith, room.names, l.scope_capacity);
      code = omega (arith, room.code, l.code_capacity);
    }

-- A statement that comes later, and several.
pub ready : {a e : Emitter} {at records later : ℕ} → SameLoans a e → HasRoom a at records →
    e.scope.now.height + at ≤ a.scope.now.height + later →
    later < length a.context.table.records.now → Sound (tree_at a.context.table.records.now later) Statement →
    vec_len e.code.now + 4 * size (tree_at a.context.table.records.now later) ≤ vec_len a.code.now + 4 * records →
    Part e.context.table.records.now later Statement × HasRoom e later (size (tree_at e.context.table.records.now later))
ready {a} {e} l room h w s c =
    let same = same_table a e l in
    (rw same record { within = w; sound = s }, room-left l room h (rw same c))

pub several-ready : {a e : Emitter} {at records count later : ℕ} → SameLoans a e → HasRoom a at records →
    e.scope.now.height + at ≤ a.scope.now.height + later →
    later ≤ length a.context.table.records.now → Sounds (pieces a.context.table.records.now later count) (replicate count Statement) →
    vec_len e.code.now + 4 * sizes (pieces a.context.table.records.now later count) ≤ vec_len a.code.now + 4 * records →
    Parts e.context.table.records.now later count Statement × HasRoom e later (sizes (pieces e.context.table.records.now later count))
several-ready {a} {e} l room h w s c =
    let same = same_table a e l in
    (rw same record { within = w; sound = s }, room-left l room h (rw same c))

-- An if after its first part, which begins at e and after which the code has so many instructions.
pub record Halfway (a e : Emitter) (at first second end : ℕ) : Type 0 where
  pub shape : Chosen a.context.table.records.now at first second
  pub keeps : Keeps a e
  pub next : second ≡ first + size (tree_at a.context.table.records.now first)
  pub bound : end < vec_len e.code.now + 4 * size (tree_at a.context.table.records.now first)

pub halfway : {a d e : Emitter} {at first second end : ℕ} → Part a.context.table.records.now at Statement →
    node_at a.context.table.records.now at ≡ is.If → first ≡ at + 1 + size (tree_at a.context.table.records.now (at + 1)) → Keeps a d → Keeps d e →
    second ≡ first + size (tree_at e.context.table.records.now first) →
    (vec_len e.code.now ≤ end) × (end < vec_len e.code.now + 4 * size (tree_at e.context.table.records.now first)) →
    Halfway a e at first second end
halfway p kind m k l n b =
    let same = same_table _ _ (kept k l).loans in
    record {
      shape = chosen _ _ _ _ p.within p.sound kind m (rw same at n);
      keeps = kept k l;
      next = rw (← same) n;
      bound = rw (← same) b.1;
    }

-- A while after its test: f is what is there before its body.
pub record Tested (a e f : Emitter) (at body : ℕ) : Type 0 where
  pub shape : Looped a.context.table.records.now at body
  pub keeps : Keeps a f
  pub len : vec_len e.code.now ≡ vec_len a.code.now + 1 + size (tree_at a.context.table.records.now (at + 1))

pub tested : {a d e f : Emitter} {at body : ℕ} → Part a.context.table.records.now at Statement → node_at a.context.table.records.now at ≡ is.While →
    Keeps a d → vec_len d.code.now ≡ vec_len a.code.now + 1 → body ≡ at + 1 + size (tree_at d.context.table.records.now (at + 1)) →
    vec_len e.code.now ≡ vec_len d.code.now + size (tree_at d.context.table.records.now (at + 1)) → Keeps d e → Keeps e f →
    Tested a e f at body
tested p kind k first m n l j =
    let same = same_table _ _ k.loans in
    let n' = rw same at n in
    record {
      shape = looped _ _ _ p.within p.sound kind (rw same at m);
      keeps = kept (kept k l) j;
      len = omega arith;
    }

-- A block after its statements: e is what was there before them, f what is there after them.
abbrev pub locals : Emitter → ℕ → ℕ
locals a at = (get_or a.context.table.records.now at no_record).a

pub record Inside (a e f : Emitter) (at n : ℕ) : Type 0 where
  pub shape : Blocked a.context.table.records.now at (locals a at) n (at + 1 + locals a at)
  pub bound : EmitsFewer e f (4 * sizes (pieces a.context.table.records.now (at + 1 + locals a at) n) + 1)
  pub capacity : vec_capacity f.code.now ≡ vec_capacity a.code.now

pub inside : {a e f : Emitter} {at n : ℕ} → Part a.context.table.records.now at Statement → node_at a.context.table.records.now at ≡ is.Block →
    n ≡ second_parts (get_or a.context.table.records.now at no_record) → SameLoans a e →
    EmitsFewer e f (4 * sizes (pieces e.context.table.records.now (at + 1 + locals a at) n) + 1) → Keeps e f → Inside a e f at n
inside p kind m l b k = record {
  shape = blocked _ _ _ _ _ no_record p.within p.sound kind refl m refl;
  bound = rw (same_table _ _ l) at b;
  capacity = k.loans.code_capacity ∙ l.code_capacity;
}
