use Rattle.rv_asm.proofs.Encodings.{one_word}
use Rattle.rv_asm.proofs.encode.Goals as goal

pub returns : goal.returns
returns c = record {
  decodes = c.word_of.ensures;
  only = λ word below encoded. one_word word c.word_of.result c.args.instruction.now below c.word_of.type_inv encoded c.word_of.ensures;
}
