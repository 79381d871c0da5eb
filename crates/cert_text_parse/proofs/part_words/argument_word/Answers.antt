use Rattle.std.proofs.Common.{arith, subst}
use Rattle.cert_text_laws.specs.Readers.{read_word}
use Rattle.cert_text_parse.specs.Outcomes.{Parses}
use Rattle.cert_text_parse.proofs.Goings.{argument_words, last_words}
use Rattle.cert_text_parse.proofs.part_words.argument_word.Goals as goal

pub returns-then-room-eq0 : goal.returns-then-room-eq0
returns-then-room-eq0 c = subst (λ table. Parses (read_word table) c.args.cursor.now c.one_of.new.self c.one_of.result) (last_words c.args.room (omega arith)) c.one_of.ensures

pub returns-else-room-eq0 : goal.returns-else-room-eq0
returns-else-room-eq0 c =
    subst (λ table. Parses (read_word table) c.args.cursor.now c.one_of-else-room-eq0.new.self c.one_of-else-room-eq0.result) (argument_words c.args.room (omega arith)) c.one_of-else-room-eq0.ensures
