-- What the slices and the bays lent to a walk mean as a state of the tree run, and what a part that was walked has come to.
use Rattle.std.specs.Prelude.{◌≡◌, ℕ, ◌+◌, ◌≤◌, Bool, true, List, ◌∷◌, reverse, length, take, drop, ℤ, Ok, Err, Result}
use Rattle.script.specs.declared.record.Record.{Record}
use Rattle.syntax.specs.Typed.{program_of}
use Rattle.kinds.specs.Counter.{counter}
use Rattle.treerun.specs.TreeRun.{Setting, State, Outcome, value, returned, ended, BayAnswer, gives, fails, setting_of}
use Rattle.racks.specs.Makes.{table_bays}
use Rattle.walk.specs.declared.walker.Walker.{Walker}
use Rattle.walk.specs.declared.state.Valued.{Valued}
use Rattle.walk.specs.declared.state.Stop.{Stop}
use Rattle.walk.specs.declared.state.Stop.TheVariants.{Returned, Ended}
use Rattle.script.specs.declared.ending.Ending.{Ending}

-- A bay table can hold every word.
abbrev pub every : ℤ → Bool
every w = true

-- What the run of a table is given.
abbrev pub setting : List Record → ℕ → Setting ℤ
setting table depth = setting_of counter every (program_of table) depth

-- The names, words and bays lent, how many bindings stand, and the fuel left.
pub record Lent : Type 0 where
  pub names : List ℕ
  pub words : List ℤ
  pub bays : List ℤ
  pub bound : ℕ
  pub fuel : ℕ

-- What a walker was lent, and how far it has come.
abbrev pub lent_in : Walker → Lent
lent_in w = record {
  names = w.names.now;
  words = w.words.now;
  bays = table_bays w.bays.now;
  bound = w.bound;
  fuel = w.fuel;
}

-- What no step of a walker changes: its table and depth, whose names, words and bays it was lent, and how many.
pub record Same (before after : Walker) : Type 0 where
  pub table : after.table.now ≡ before.table.now
  pub depth : after.depth ≡ before.depth
  pub names_lender : after.names.ghost_name ≡ before.names.ghost_name
  pub words_lender : after.words.ghost_name ≡ before.words.ghost_name
  pub bays_lender : after.bays.ghost_name ≡ before.bays.ghost_name
  pub names_length : length after.names.now ≡ length before.names.now
  pub words_length : length after.words.now ≡ length before.words.now

-- How many bindings and how much fuel there are after `many` more bindings.
pub record Bound (before after : Walker) (many : ℕ) : Type 0 where
  pub count : after.bound ≡ before.bound + many
  pub fuel : after.fuel ≡ before.fuel

-- The first names and words are the bindings, oldest first; behind them is what dropped bindings have left.
abbrev pub state : Lent → State ℤ
state l = record {
  names = reverse (take l.bound l.names);
  words = reverse (take l.bound l.words);
  past_names = drop l.bound l.names;
  past_words = drop l.bound l.words;
  bays = l.bays;
  fuel = l.fuel;
}

-- The run ends at a record.
abbrev pub ended_at : Ending → ℕ → Stop
ended_at ending place = Ended (record { ending = ending; place = place })

-- Where a part has no value.
abbrev pub stopped : {A : Type 0} → Stop → State ℤ → Outcome ℤ A
stopped (Returned w) σ = returned w σ
stopped (Ended e) σ = ended e.ending e.place σ

-- What a walk answers, as an outcome of the tree run: `means` says what value an answer stands for.
abbrev pub shown : {A B : Type 0} → (B → A) → Result B Stop → State ℤ → Outcome ℤ A
shown means (Ok b) σ = value (means b) σ
shown means (Err s) σ = stopped s σ

-- The bindings: as many as before where there is a value, and no fewer where there is none.
abbrev pub Kept : {B : Type 0} → Result B Stop → Lent → Lent → Type 0
Kept (Ok b) before after = after.bound ≡ before.bound
Kept (Err s) before after = before.bound ≤ after.bound

-- Where there is a value, the index after the part is told.
abbrev pub Ends : {B : Type 0} → Result B Stop → (B → ℕ) → ℕ → Type 0
Ends (Ok b) next end = next b ≡ end
Ends (Err s) next end = Unit {0}

-- What the walk of a part has come to: the part's run in the tree run, on what was lent.
pub record Ran {A B : Type 0} (run : Outcome ℤ A) (r : Result B Stop) (means : B → A) (next : B → ℕ) (end : ℕ)
    (before after : Lent) : Type 0 where
  pub runs : run ≡ shown means r (state after)
  pub fuel : after.fuel ≤ before.fuel
  pub kept : Kept r before after
  pub ends : Ends r next end

-- The word of a part that was walked, and the index after its records.
abbrev pub word_of : Valued → ℤ
word_of v = v.word

abbrev pub next_of : Valued → ℕ
next_of v = v.next

-- An expression or a statement.
abbrev pub RanPart : Outcome ℤ ℤ → Result Valued Stop → ℕ → Lent → Lent → Type 0
RanPart run r end before after = Ran run r word_of next_of end before after

-- Several parts: the answer is the index after them, and their value is told apart from it.
abbrev pub RanParts : {A : Type 0} → Outcome ℤ A → Result ℕ Stop → A → ℕ → Lent → Lent → Type 0
RanParts run r a end before after = Ran run r (λ n. a) (λ n. n) end before after

-- What a bay answers, at a place.
abbrev pub answer_at : ℕ → BayAnswer ℤ → Result ℤ Stop
answer_at place (gives w bays) = Ok w
answer_at place (fails e) = Err (ended_at e place)

-- The bays as they then are.
abbrev pub bays_after : List ℤ → BayAnswer ℤ → List ℤ
bays_after before (gives w bays) = bays
bays_after before (fails e) = before

-- One more binding on top.
abbrev pub pushed : ℕ → ℤ → State ℤ → State ℤ
pushed x w σ = record {
  names = x ∷ σ.names;
  words = w ∷ σ.words;
  past_names = drop 1 σ.past_names;
  past_words = drop 1 σ.past_words;
  bays = σ.bays;
  fuel = σ.fuel;
}
