use Rattle.cert_text_parse.specs.Keywords.{expected_of}
use Rattle.cert_text_parse.proofs.Fields.{with_keyword, no_keyword}
use Rattle.cert_text_parse.proofs.parsing.next_line.Goals as goal

pub returns-in-Err : goal.returns-in-Err
returns-in-Err c = no_keyword (expected_of c.args.expected) c.args.cursor.now c.read_keyword.new.cursor c.args.logs.now c.in-Err.stopped c.in-Err.ensures

pub returns : goal.returns
returns c =
    with_keyword (expected_of c.args.expected) c.args.cursor.now c.read_keyword.new.cursor c.after_keyword.new.cursor c.args.logs.now c.after_keyword.new.logs c.in-Ok.keyword c.in-Ok.ensures
    c.after_keyword.result c.after_keyword.ensures
