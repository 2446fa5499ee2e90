-- The call's result is the test of each coefficient in turn.
use Rattle.std.proofs.Common.{rules, tests}
use lib.Dec.{ltb}
use Rattle.std.proofs.lemmas.Iterator.{YieldsList-from_slice}
use Rattle.std.proofs.lemmas.Iterator.Search.{all_from_yields_List}
use Rattle.field.specs.Galois.{size}
use Rattle.elliptic.specs.Curve.{coefficients_of}
use Rattle.curve.proofs.coefficients_below.Goals as goal

pub returns : goal.returns
returns c =
    all_from_yields_List (λ g. ltb g (size c.args.m)) _ _ _ c.all.ensures.ran (YieldsList-from_slice (coefficients_of c.args.c) cc) (λ x b q k. search (rules, tests))
