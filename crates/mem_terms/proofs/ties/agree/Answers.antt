use Rattle.mem_terms.proofs.Trees.{extends_then, agreed}
use Rattle.mem_terms.proofs.ties.agree.Goals as goal

pub returns : goal.returns
returns c =
    let old = c.args.bank.now in
    let first = c.equal.new.bank in
    let second = c.equal-2.new.bank in
    let new = c.implied.new.bank in
    record {
      tree = agreed old first second new c.args.x c.args.y c.in_ok-same_address.same_address c.in_ok-same_byte.same_byte c.implied.result c.equal.ensures.extends c.equal-2.ensures.extends
          c.requires.x_within c.requires.y_within c.in_ok-same_address.ensures.tree c.in_ok-same_byte.ensures.tree c.implied.ensures.tree;
      extends = extends_then old second new (extends_then old first second c.equal.ensures.extends c.equal-2.ensures.extends) c.implied.ensures.extends;
    }
