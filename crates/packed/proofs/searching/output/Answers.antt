-- `packed::searching::output` meets its contract: the output is that of the transition found.
use native.Mathlib.Omega.{arith}
use mathlib.Core.Path.{◌≡◌, ◌∙◌}
use lib.ListN.{length, take}
use Rattle.format.specs.Format.{max_arity}
use Rattle.packed.proofs.Seeking.{places-packs, sought-nothing, sought-output}
use Rattle.packed.proofs.searching.output.Goals as goal

pub meta_of-meta-requires : goal.meta_of-meta-requires
meta_of-meta-requires c = omega (arith, c.requires.places.narrow)

pub returns-in_default : goal.returns-in_default
returns-in_default c =
    let eight : length c.args.args ≡ max_arity = omega (arith, c.well_formed) in
    let found = c.seek.ensures.by_index c.args.label (take c.args.arity c.args.args)
    (places-packs eight c.requires.places c.pack.ensures.all_bytes (omega (arith, c.ranges.label)) (omega arith)
    c.pack.ensures.value) in
    sought-nothing (λ j. omega (arith, c.type_inv.transitions j)) c.requires.searchable found c.in_default.is

pub returns : goal.returns
returns c =
    let eight : length c.args.args ≡ max_arity = omega (arith, c.well_formed) in
    let found = c.seek.ensures.by_index c.args.label (take c.args.arity c.args.args)
    (places-packs eight c.requires.places c.pack.ensures.all_bytes (omega (arith, c.ranges.label)) (omega arith)
    c.pack.ensures.value) in
    c.out_of.ensures.value ∙
    sought-output (λ j. omega (arith, c.type_inv.transitions j)) c.requires.searchable found c.in-Some.is
    (c.seek.ensures.upper_bound _ c.in-Some.is)
