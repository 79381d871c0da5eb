use Rattle.std.proofs.Common.{◌≡◌, take, bytes_eq}
use Rattle.std.specs.List.{IsDistinct}
use Rattle.tv_words.proofs.list.are_new.Given as goal

-- the texts so far have been seen, in their order, and each once
abbrev pub invariant-loop-text : goal.invariant-loop-text
invariant-loop-text l = (l.seen.keys ≡ take l.text-index l.texts) × IsDistinct (λ a b. bytes_eq a.now b.now) l.seen.keys
