-- The top of a tree. 65535 stands for no node; what else a head holds is free.
--   new_leaf H m        node m is a root leaf without entries
--   push_level H c m    node m is a root without entries, whose only child is the old root c
--   pop_level H c       node c is a root
use Rattle.std.specs.Prelude.{ℕ, List, slice_set}
use Rattle.node.specs.declared.head.Head.{Head}
use Rattle.node.specs.Store.{head_in}
use Rattle.node.specs.Links.{relink}

abbrev pub new_leaf : List Head → ℕ → List Head
new_leaf H m = slice_set H m (record { parent = 65535; place = 0; len = 0; edges = (head_in H m).edges })

abbrev pub push_level : List Head → ℕ → ℕ → List Head
push_level H c m = relink (slice_set H m (record { parent = 65535; place = 0; len = 0; edges = slice_set (head_in H m).edges 0 c })) m 0 c

abbrev pub pop_level : List Head → ℕ → List Head
pop_level H c = slice_set H c (record { parent = 65535; place = (head_in H c).place; len = (head_in H c).len; edges = (head_in H c).edges })
