use Rattle.std.proofs.Common.{rules}
use Rattle.lexer.specs.Runs.{word_byte}
use Rattle.lexer.proofs.Lexemes.{word_here}
use Rattle.lexer.proofs.front.word.Goals as goal

pub returns : goal.returns
returns c = word_here c.args.s.now c.run_len-len.result c.keyword.result c.map_or-kind.result c.requires (c.run_len-len.ensures.len word_byte (λ byte r told. search rules)) c.keyword.ensures (search rules)
