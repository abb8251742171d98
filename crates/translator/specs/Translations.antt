-- What a translation holds, and what translating a table makes of it.
use Rattle.std.specs.Prelude.{List, [], ℤ, Ok, Err, vec_items, Result}
use Rattle.script.specs.declared.record.Record.{Record}
use Rattle.script.specs.declared.refusal.Refusal.{Refusal}
use Rattle.syntax.specs.Syntax.{Program}
use Rattle.syntax.specs.Typed.{program_of}
use Rattle.names.specs.declared.summary.Summary.{Summary}
use Rattle.names.specs.Tables.{table_rules}
use Rattle.code.specs.declared.instruction.Instruction.{Instruction}
use Rattle.code.specs.declared.instruction.FunctionEntry.{FunctionEntry}
use Rattle.code.specs.Scheme.{program_code, function_entries, global_numbers}
use Rattle.translator.specs.declared.translation.Translation.{Translation}

-- Code, the entries of the functions, and the first numbers of the globals.
pub record Held : Type 0 where
  pub code : List Instruction
  pub entries : List FunctionEntry
  pub globals : List ℤ

-- What a translation of the code holds, as lists.
abbrev pub held : Translation → Held
held t = record {
  code = vec_items t.code;
  entries = vec_items t.entries;
  globals = vec_items t.globals;
}

-- What one holds that no table was given to.
abbrev pub nothing_held : Held
nothing_held = record { code = []; entries = []; globals = [] }

-- What the scheme makes of a program.
abbrev pub translation_of : Program → Held
translation_of p = record { code = program_code p; entries = function_entries p; globals = global_numbers p }

-- An answer decides what is held after it: what was made, or, where the table is refused, what was there before.
abbrev pub held_after : Result Summary Refusal → Held → Held → Held
held_after (Ok s) made before = made
held_after (Err e) made before = before

-- What is held after a table was given to translate.
abbrev pub translated : List Record → Held → Held
translated table before = held_after (table_rules table) (translation_of (program_of table)) before
