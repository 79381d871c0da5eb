use Rattle.cert_check_frames.proofs.trees.+tree.Given as goal

-- arguments come before their term
abbrev pub decreases-tree : goal.decreases-tree
decreases-tree l = l.id
