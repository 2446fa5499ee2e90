-- By the laws of E of the lightest row, for each row that it can be; the first is copied, since the values are written over it.
use mathlib.Core.Path.{◌∙◌, ap}
use native.Mathlib.Omega.{arith}
use lib.ListN.{length, replicate}
use lib.Seq.{length-take-le}
use Rattle.basics.proofs.Lists.{front}
use Rattle.locator.specs.Arrays.{values_in}
use Rattle.locator.proofs.Choosing.{is_at, not_at}
use Rattle.locator.proofs.Locating.{located_a, located_b, located_c, located_d, located_none}
use Rattle.locator.proofs.locate.write_locator.Goals as goal

pub returns-then-at-eq0 : goal.returns-then-at-eq0
returns-then-at-eq0 c =
    c.write_values.ensures ∙ ap (values_in c.args.field.now.number c.args.xs.now c.args.ys.now) c.copy.ensures
    ∙ located_a c.args.field.now.tables.field c.requires.laid c.requires.after (is_at c.lightest-best.ensures c.if-at-eq0.true)

pub returns-then-at-eq1 : goal.returns-then-at-eq1
returns-then-at-eq1 c =
    c.write_values-then-at-eq1.ensures ∙ located_b c.args.field.now.tables.field c.requires.laid c.requires.after (is_at c.lightest-best.ensures c.if-at-eq1.true)

pub returns-then-at-eq2 : goal.returns-then-at-eq2
returns-then-at-eq2 c =
    c.write_values-then-at-eq2.ensures ∙ located_c c.args.field.now.tables.field c.requires.laid c.requires.after (is_at c.lightest-best.ensures c.if-at-eq2.true)

pub returns-then-at-eq3 : goal.returns-then-at-eq3
returns-then-at-eq3 c =
    c.write_values-then-at-eq3.ensures ∙ located_d c.args.field.now.tables.field c.requires.laid c.requires.after (is_at c.lightest-best.ensures c.if-at-eq3.true)

pub returns : goal.returns
returns c =
    front c.args.a.now c.clear.new.f (length c.args.xs.now) (omega (arith, c.requires.after.in_a.size)) c.clear.auto.f
    ∙ c.clear.ensures
    ∙ ap (λ n. replicate n 0) (length-take-le (length c.args.xs.now) c.args.a.now (omega (arith, c.requires.after.in_a.size)))
    ∙ located_none c.args.field.now.tables.field c.requires.laid c.requires.after (not_at c.lightest-best.ensures c.if-at-eq0.false) (not_at c.lightest-best.ensures c.if-at-eq1.false)
    (not_at c.lightest-best.ensures c.if-at-eq2.false) (not_at c.lightest-best.ensures c.if-at-eq3.false)
