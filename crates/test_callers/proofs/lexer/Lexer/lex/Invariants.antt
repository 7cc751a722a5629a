use Rattle.std.proofs.Common.{◌≡◌, length}
use Rattle.test_callers.proofs.lexer.Lexer.lex.Given as goal

abbrev pub invariant-loop-word : goal.invariant-loop-word
invariant-loop-word l = length l.symbols.items ≡ l.word-index
