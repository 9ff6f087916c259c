-- `packed::searching::bound` meets its contract: those below the result come before, and none from it on does.
use Rattle.std.proofs.Common.{rules}
use native.Mathlib.Omega.{arith}
use Rattle.packed.proofs.Seeking.{bound-below, bound-sought}
use Rattle.packed.proofs.searching.bound.Goals as goal

pub returns : goal.returns
returns c =
    let bytes = c.type_inv.transitions in
    let m = c.args.meta in
    let a = c.args.args in
    let within = c.partition_point.ensures.upper_bound in
    record {
      upper_bound = within;
      by_index = bound-sought m a (λ j. omega (arith, bytes j)) c.requires within (λ h. search rules) (λ h. search rules);
      by_index_2 = bound-below m a (λ j. omega (arith, bytes j)) c.requires within (λ h. search rules) (λ h. search rules);
    }
