use Rattle.std.proofs.Common.{arith, subst}
use Rattle.cert_text_laws.specs.Readers.{read_word}
use Rattle.cert_text_parse.specs.Outcomes.{Parses}
use Rattle.cert_text_parse.proofs.Entries.{some_room}
use Rattle.cert_text_parse.proofs.keywords.rule_keyword.Goals as goal

pub returns-else-room-eq0 : goal.returns-else-room-eq0
returns-else-room-eq0 c =
    subst (λ table. Parses (read_word table) c.args.cursor.now c.one_of-else-room-eq0.new.self c.one_of-else-room-eq0.result) (some_room c.args.room (omega arith)) c.one_of-else-room-eq0.ensures
