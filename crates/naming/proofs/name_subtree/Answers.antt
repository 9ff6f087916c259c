-- `naming::name_subtree` meets its contract: a parent's name gives the subtree its own name, or a state or subtree
-- that it can stand for is found, or none is.
use mathlib.Core.Logic.{inl, inr}
use mathlib.Core.Path.{◌∙◌, refl, sym}
use native.Mathlib.Omega.{arith}
use Rattle.naming.proofs.Apart.{anchored-own}
use Rattle.naming.proofs.Choosing.{own-chosen}
use Rattle.naming.proofs.Spans.{spanned}
use Rattle.alike.proofs.Carried.{holds-subtrees}
use Rattle.naming.proofs.name_subtree.Goals as goal

pub invariant_of-sought : goal.invariant_of-sought
invariant_of-sought c = record {
  table_len = c.requires.table_len;
  le_j = c.requires.le_j;
  j_le_m = c.requires.j_le_m;
  parents_within = spanned c.requires.spans_of c.requires.le_j c.requires.j_le_m c.from-from.ensures c.from-to.ensures;
}

pub returns-then-anchored : goal.returns-then-anchored
returns-then-anchored c = record {
  upper_bound = omega (arith, c.requires.j_le_m);
  chosen = λ A t ts S N K O X. inr (inr (anchored-own S (holds-subtrees K.holds) K.classes.fits K.size X c.requires.shared
      (sym c.anchored.ensures ∙ c.if-anchored.true) c.requires.le_j));
}

pub returns-in-Some : goal.returns-in-Some
returns-in-Some c = record {
  upper_bound = omega (arith, c.in-Some.ensures.upper_bound);
  chosen = λ A t ts S N K O X. inl (c.in-Some.ensures.state_sought A t ts S N K O X);
}

pub find_subtree-requires : goal.find_subtree-requires
find_subtree-requires c =
    record {
      spans_of = c.requires.spans_of;
      le_j = c.requires.le_j;
      j_le_m = c.requires.j_le_m;
    }

pub returns-in-Some-find_subtree : goal.returns-in-Some-find_subtree
returns-in-Some-find_subtree c = record {
  upper_bound = omega (arith, c.in-Some-find_subtree.ensures.bounds.1);
  chosen = λ A t ts S N K O X. inr (inl (record {
    model = c.in-Some-find_subtree.v;
    above = c.in-Some-find_subtree.ensures.bounds.0;
    known = c.in-Some-find_subtree.ensures.bounds.1;
    same = refl;
    chosen = c.in-Some-find_subtree.ensures.subtree_sought A t ts S N K.holds K.classed X;
  }));
}

pub returns : goal.returns
returns c = record {
  upper_bound = omega (arith, c.requires.j_le_m);
  chosen = λ A t ts S N K O X. inr (inr (own-chosen (c.in_default.ensures.state_sought A t ts S N K O X)
      (c.in_default-find_subtree.ensures.subtree_sought A t ts S N K.holds K.classed X)));
}
