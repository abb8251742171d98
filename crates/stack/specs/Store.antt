-- What a stack over a lent slice is: the height after a push, the live words and the room.
use Rattle.std.specs.Prelude.{ℕ, ◌+◌, cond, List, length, take, nat_lt}
use Rattle.stack.specs.declared.Stack.{Stack}

-- The height after a push onto a stack of that height in a store of so many words: where there is no room, nothing is
-- pushed.
abbrev pub raised : ℕ → ℕ → ℕ
raised height room = cond (nat_lt height room) (height + 1) height

-- The live words, oldest first.
abbrev pub contents : {T : Type 0} → Stack T → List T
contents s = take s.height s.words.now

-- How many words the store has.
abbrev pub capacity : {T : Type 0} → Stack T → ℕ
capacity s = length s.words.now
