-- What is asked of a stack where a run ends.
use Rattle.std.specs.Prelude.{Option}
use Rattle.model.specs.declared.Symbol.{Symbol}

-- Nothing, or that a symbol is its top.
abbrev pub Top : Type 0
Top = Option Symbol
