-- A subtree of a legal tree is legal.
use mathlib.Core.List.{[], ◌∷◌}
use Rattle.trees.specs.Context.{Context, fill, plug}
use Rattle.trees.specs.Legal.{AllLegal, Legal}
use Rattle.trees.specs.Tree.{Forest, Tree, ◌⧺◌, cons, nil}

all-legal : (b f : Forest) → AllLegal (b ⧺ f) → AllLegal f
all-legal nil f h = h
all-legal (cons t b) f h = all-legal b f h.1

pub subtree-legal : (c : Context) (t : Tree) → Legal (plug c t) → Legal t
subtree-legal [] t h = h
subtree-legal (f ∷ c) t h = (all-legal f.before (cons t f.after) (subtree-legal c (fill f t) h).1).0
