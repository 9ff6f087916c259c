-- `packed::searching::seek` meets its contract: a transition with this key can only be at the bound.
use mathlib.Core.Path.{◌≡◌}
use native.Mathlib.Omega.{arith}
use Rattle.packed.proofs.Seeking.{other-args, other-meta, sought-none, sought-there}
use Rattle.packed.proofs.searching.seek.Goals as goal

pub returns-then-i-count : goal.returns-then-i-count
returns-then-i-count c = record {
  upper_bound = λ i e. absurd (cc);
  by_index = sought-none (λ j. omega (arith, c.type_inv.transitions j))
      c.requires c.bound-i.ensures.by_index (λ b qs p l e. omega arith);
}

pub returns-then-meta_at-meta : goal.returns-then-meta_at-meta
returns-then-meta_at-meta c = record {
  upper_bound = λ i e. absurd (cc);
  by_index = other-meta (λ j. omega (arith, c.type_inv.transitions j))
      c.requires c.bound-i.ensures.by_index (omega arith)
      c.meta_at.ensures c.if-meta_at-meta.true;
}

pub returns-then-args_at-args : goal.returns-then-args_at-args
returns-then-args_at-args c = record {
  upper_bound = λ i e. absurd (cc);
  by_index = other-args (λ j. omega (
    arith,
    c.type_inv.transitions j,
  ))
      c.requires
      c.bound-i.ensures.by_index (omega arith)
      c.meta_at.ensures c.args_at.ensures c.if-args_at-args.true;
}

pub returns : goal.returns
returns c = record {
  upper_bound = λ i e. let same : i ≡ c.bound-i.result = cc in omega arith;
  by_index = sought-there (λ j. omega (
    arith,
    c.type_inv.transitions j,
  ))
      c.requires (omega arith)
      c.meta_at.ensures c.args_at.ensures c.if-meta_at-meta.false
      c.if-args_at-args.false;
}
